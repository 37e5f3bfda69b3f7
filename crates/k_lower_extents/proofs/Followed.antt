-- Texts one behind the other: in any grouping, by whether objects are made, and put together from the last one on.
use Rattle.std.proofs.Common.{ℕ, zero, suc, ◌≡◌, ◌+◌, ◌≢◌, ◌≤◌, Bool, true, false, List, [], ◌∷◌, ◌++◌, take, length, refl, sym, ap, arith}
use Rattle.std.specs.Prelude.{◌||◌}
use Rattle.std.proofs.lemmas.List.{take_all}
use Rattle.k_types_meaning.specs.declared.tree.declaration.TInit.{TInit}
use Rattle.k_types_meaning.specs.declared.tree.unit.TVariable.{TVariable}
use Rattle.k_marks_meaning.specs.Jumps.{no_jumps}
use Rattle.k_lower_extents.specs.declared.extent.Extent.{Extent}
use Rattle.k_lower_extents.specs.StatementSums.{behind, closed, declared_by, followed_by, object_size, of_size, onto, register_size, rests_onto, without_objects}

-- a statement that makes no objects
pub opens_none : (one rest : Extent) (n : ℕ) → n ≡ 0 → followed_by one n rest ≡ behind one rest
opens_none one rest zero is = refl
opens_none one rest (suc n) is = absurd (omega (arith, is))

-- one that makes some
pub opens_some : (one rest : Extent) (n : ℕ) → n ≢ 0 → followed_by one n rest ≡ without_objects (behind one (closed rest))
opens_some one rest zero is = absurd (is refl)
opens_some one rest (suc n) is = refl

-- the declarator of a register
pub has_no_object : (vs : List TVariable) (i : TInit) (n : ℕ) → n ≡ 0 → declared_by vs i n ≡ of_size (register_size vs i)
has_no_object vs i zero is = refl
has_no_object vs i (suc n) is = absurd (omega (arith, is))

-- one of what has an object
pub has_object : (vs : List TVariable) (i : TInit) (n : ℕ) → n ≢ 0
    → declared_by vs i n ≡ record { size = object_size vs i + 2; jumps = no_jumps; opens = 1 }
has_object vs i zero is = absurd (is refl)
has_object vs i (suc n) is = refl

-- `||` in another grouping, and with `false`
or_again : (a b c : Bool) → ((a || b) || c) ≡ (a || (b || c))
or_again true b c = refl
or_again false b c = refl

or_false : (a : Bool) → (a || false) ≡ a
or_false true = refl
or_false false = refl

-- texts in another grouping
pub behind_again : (a b c : Extent) → behind (behind a b) c ≡ behind a (behind b c)
behind_again a b c =
    (let size : a.size + b.size + c.size ≡ a.size + (b.size + c.size) = omega arith in
    (let opens : a.opens + b.opens + c.opens ≡ a.opens + (b.opens + c.opens) = omega arith in
    (λ i. record {
      size = size i;
      jumps = record {
        breaks = or_again a.jumps.breaks b.jumps.breaks c.jumps.breaks i;
        continues = or_again a.jumps.continues b.jumps.continues c.jumps.continues i;
        returns = or_again a.jumps.returns b.jumps.returns c.jumps.returns i;
      };
      opens = opens i;
    })))

-- a text behind nothing, and nothing behind a text
pub behind_nothing : (a : Extent) → behind (of_size 0) a ≡ a
behind_nothing a =
    (let size : 0 + a.size ≡ a.size = omega arith in
    (let opens : 0 + a.opens ≡ a.opens = omega arith in
    (λ i. record { size = size i; jumps = a.jumps; opens = opens i })))

pub nothing_behind : (a : Extent) → behind a (of_size 0) ≡ a
nothing_behind a =
    (let size : a.size + 0 ≡ a.size = omega arith in
    (let opens : a.opens + 0 ≡ a.opens = omega arith in
    (λ i. record {
      size = size i;
      jumps = record {
        breaks = or_false a.jumps.breaks i;
        continues = or_false a.jumps.continues i;
        returns = or_false a.jumps.returns i;
      };
      opens = opens i;
    })))

-- the last of statements, and text behind them
pub onto_last : (xs : List Extent) (a rest : Extent) → onto (xs ++ a ∷ []) rest ≡ onto xs (followed_by a a.opens rest)
onto_last [] a rest = refl
onto_last (x ∷ xs) a rest = ap (followed_by x x.opens) (onto_last xs a rest)

pub rests_last : (xs : List Extent) (a rest : Extent) (done : List Extent)
    → rests_onto (xs ++ a ∷ []) rest done ≡ rests_onto xs (followed_by a a.opens rest) (followed_by a a.opens rest ∷ done)
rests_last [] a rest done = refl
rests_last (x ∷ xs) a rest done = λ i. followed_by x x.opens (onto_last xs a rest i) ∷ rests_last xs a rest done i

-- no more variables than are asked for
pub all_taken : (count : ℕ) (vs : List TVariable) → length vs ≤ count → vs ≡ take count vs
all_taken count vs few = sym (take_all count vs few)
