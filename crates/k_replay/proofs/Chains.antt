-- Steps that write are fired in their order, as each has the one before among its sources.
use Rattle.std.proofs.Common.{◌≡◌, ℕ, zero, suc, ◌+◌, ◌<◌, List, [], ◌∷◌, Option, Some, Bool, true, false, Contains, refl, sym, subst, arith}
use Rattle.std.specs.Prelude.{slice_get, if◌then◌else◌}
use Rattle.std.proofs.lemmas.Option.{none-some, same_Some}
use Rattle.k_replay_record.specs.declared.record.Operand.{Operand}
use Rattle.k_replay_record.specs.declared.record.Operand.TheVariants.{From}
use Rattle.k_replay_record.specs.declared.record.Step.{Step}
use Rattle.k_replay_record.specs.Acts.{writes}
use Rattle.k_replay_record.specs.Records.{AreChained, last_writer}

-- the sources of a step are fired
abbrev pub AreFired : (ℕ → Bool) → List Operand → Type 0
AreFired fired operands = (j : ℕ) → Contains operands (From j) → fired j ≡ true

-- of these steps, the first of which has this number, the sources of each that is fired are fired
abbrev pub AreBehind : (ℕ → Bool) → ℕ → List Step → Type 0
AreBehind fired number steps = (i n : ℕ) (s : Step) → slice_get steps i ≡ Some s → n ≡ number + i → fired n ≡ true → AreFired fired s.operands

later : (fired : ℕ → Bool) (number : ℕ) (x : Step) (steps : List Step) → AreBehind fired number (x ∷ steps) → AreBehind fired (number + 1) steps
later fired number x steps all i n s at e f = all (suc i) n s at (omega arith) f

-- where a step that writes can be fired, the last one that wrote before these is fired
pub last_fired : (fired : ℕ → Bool) (steps : List Step) (number j : ℕ) → AreChained (Some j) number steps → AreBehind fired number steps
    → (k : ℕ) (t : Step) → slice_get steps k ≡ Some t → writes t.act ≡ true → AreFired fired t.operands → fired j ≡ true
last_fired fired [] number j chain all k t at w f = absurd (none-some t at)
last_fired fired (x ∷ steps) number j chain all zero t at w f =
    f j (subst (λ (y : Step). Contains y.operands (From j)) (same_Some x t at) (chain.0 (subst (λ (y : Step). writes y.act ≡ true) (sym (same_Some x t at)) w)))
last_fired fired (x ∷ steps) number j chain all (suc k) t at w f =
    go (writes x.act) refl (λ last linked. last_fired fired steps (number + 1) last linked (later fired number x steps all) k t at w f)
  where
    go : (b : Bool) → writes x.act ≡ b → ((last : ℕ) → AreChained (Some last) (number + 1) steps → fired last ≡ true) → fired j ≡ true
    go false e rest = rest j (subst (λ (b : Bool). AreChained (if b then Some number else Some j) (number + 1) steps) e chain.1)
    go true e rest =
        let at_x : fired number ≡ true = rest number (subst (λ (b : Bool). AreChained (if b then Some number else Some j) (number + 1) steps) e chain.1) in
        all 0 number x refl (omega arith) at_x j (chain.0 e)

-- so is each that writes before it
pub writers_fired : (fired : ℕ → Bool) (steps : List Step) (number : ℕ) (last : Option ℕ) → AreChained last number steps → AreBehind fired number steps
    → (i k n : ℕ) (s t : Step) → i < k → n ≡ number + i → slice_get steps i ≡ Some s → writes s.act ≡ true
    → slice_get steps k ≡ Some t → writes t.act ≡ true → AreFired fired t.operands → fired n ≡ true
writers_fired fired [] number last chain all i k n s t low e at ws at_k w f = absurd (none-some s at)
writers_fired fired (x ∷ steps) number last chain all i zero n s t low e at ws at_k w f = absurd (omega arith)
writers_fired fired (x ∷ steps) number last chain all (suc i) (suc k) n s t low e at ws at_k w f =
    writers_fired fired steps (number + 1) (last_writer x.act number last) chain.1 (later fired number x steps all) i k n s t (omega arith) (omega arith) at ws at_k w f
writers_fired fired (x ∷ steps) number last chain all zero (suc k) n s t low e at ws at_k w f =
    let wx : writes x.act ≡ true = subst (λ (y : Step). writes y.act ≡ true) (sym (same_Some x s at)) ws in
    let at_x : fired number ≡ true = last_fired fired steps (number + 1) number
    (subst (λ (b : Bool). AreChained (if b then Some number else last) (number + 1) steps) wx chain.1) (later fired number x steps all) k t at_k w f in
    subst (λ (m : ℕ). fired m ≡ true) (let h : number ≡ n = omega arith in h) at_x
