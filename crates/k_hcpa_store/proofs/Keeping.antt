-- Registers by the form in which they are kept, and by what they hold.
use Rattle.std.proofs.Common.{◌≡◌, ℕ, zero, suc, ◌-◌, List, [], ◌∷◌, ◌++◌, length, map, take, replicate, Option, Some, None, refl, sym, ◌∙◌, ap, arith}
use Rattle.std.specs.Prelude.{slice_set}
use Rattle.std.proofs.lemmas.List.{take_at}
use Rattle.k_world.specs.declared.value.Held.{Held}
use Rattle.k_world.specs.declared.value.Value.{Value}
use Rattle.k_world.specs.Operands.{value_in}
use Rattle.k_hcpa_store.specs.declared.register.Register.{Register}
use Rattle.k_hcpa_store.specs.Slots.{held_from, held_of, source_of, value_of}

-- the value of what is held
held_value : (source : Option ℕ) (v : Option Value) → value_in (held_from source v) ≡ v
held_value source None = refl
held_value source (Some v) = refl

-- a slot keeps the value of what its register holds
pub value_from : (r : Register) (held : Option Held) → held_of r ≡ held → value_of r.slot ≡ value_in held
value_from r held is = sym (held_value (source_of r.source) (value_of r.slot)) ∙ ap value_in is

-- a register that is set
pub held_set : (registers : List Register) (k : ℕ) (r : Register) → map held_of (slice_set registers k r) ≡ slice_set (map held_of registers) k (held_of r)
held_set [] k r = refl
held_set (x ∷ registers) zero r = refl
held_set (x ∷ registers) (suc k) r = ap (λ (xs : List (Option Held)). held_of x ∷ xs) (held_set registers k r)

-- so many that hold nothing
pub held_unset : (n : ℕ) (r : Register) → held_of r ≡ None → map held_of (replicate n r) ≡ replicate n None
held_unset zero r is = refl
held_unset (suc n) r is = λ i. is i ∷ held_unset n r is i

-- the first of them, behind which others were put and taken away again
pub kept_again : (old all new : List (Option Held)) (more : List (Option Held)) (n : ℕ) → all ≡ old ++ more → n ≡ length old → new ≡ take n all → new ≡ old
kept_again old all new more n begun long kept = kept ∙ ap (take n) begun ∙ take_at old more n (sym long)

-- a new list that was made so long
pub held_resized : (n m : ℕ) (xs : List Register) (r : Register) → xs ≡ [] → m ≡ 0 → held_of r ≡ None → map held_of (take n xs ++ replicate (n - m) r) ≡ replicate n None
held_resized n m xs r none short is = (λ i. map held_of (take n (none i) ++ replicate (n - short i) r)) ∙ go n
  where
    go : (k : ℕ) → map held_of (take k [] ++ replicate (k - 0) r) ≡ replicate k None
    go zero = refl
    go (suc k) = ap (λ (j : ℕ). map held_of (replicate j r)) (let e : suc k - 0 ≡ suc k = omega arith in e) ∙ held_unset (suc k) r is
