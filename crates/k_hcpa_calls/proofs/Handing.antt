-- What a call's operands hand to its parameters: the times of the parameters' registers, and the row of the call's operation.
use Rattle.std.proofs.Common.{◌≡◌, ℕ, zero, suc, ◌+◌, ◌<◌, ◌≤◌, List, [], ◌∷◌, map, Some, true, false, refl, sym, ◌∙◌, ap, arith, inl, inr, subst}
use Rattle.std.specs.Prelude.{slice_get}
use Rattle.std.proofs.lemmas.Bool.{lt-ltb, le-ltb, le-leb, eq-eqb}
use Rattle.std.proofs.lemmas.Bool.Decides.{eqb_tells, leb_tells}
use Rattle.std.proofs.lemmas.List.{map-id}
use Rattle.std.proofs.lemmas.Option.{none-some, same_Some}
use Rattle.std.proofs.lemmas.Simd.{map-map}
use Rattle.k_shadow.specs.Content.{set_times, without, with_time}
use Rattle.k_code.specs.declared.instruction.Arg.{Arg}
use Rattle.k_code.specs.declared.instruction.Arg.TheVariants.{Number, Reg}
use Rattle.k_code.specs.Named.{up_to_operands, up_to_operand}
use Rattle.k_hcpa_meaning.specs.Calls.{arguments_handed}
use Rattle.k_hcpa_meaning.specs.Locations.{operand_locations}
use Rattle.k_hcpa_meaning.specs.Timings.{Register, Timing, times_at, later, copied, raised}
use Rattle.k_hcpa_laws.proofs.Timings.{row_over, raised_all_is}

-- the times of registers at a level behind that
abbrev pub handed_at : ℕ → ℕ → ℕ → List Arg → (ℕ → ℕ) → ℕ → ℕ
handed_at first to zero args level = level
handed_at first to (suc n) [] level = level
handed_at first to (suc n) (Number a ∷ args) level = handed_at first (to + 1) n args (without to 1 level)
handed_at first to (suc n) (Reg r dropped ∷ args) level = handed_at first (to + 1) n args (with_time to (level (first + r)) level)

-- the timing with these registers and this row
abbrev pub with_handed : List (ℕ → ℕ) → List ℕ → Timing → Timing
with_handed registers row t = record t { registers = registers; row = row }

set_self : (to from : ℕ) (levels : List (ℕ → ℕ)) → set_times to (map (λ (level : ℕ → ℕ). level from) levels) levels ≡ map (λ (level : ℕ → ℕ). with_time to (level from) level) levels
set_self to from [] = refl
set_self to from (level ∷ levels) = ap (λ (rest : List (ℕ → ℕ)). with_time to (level from) level ∷ rest) (set_self to from levels)

pub set_other : (to : ℕ) (time : ℕ) (level : ℕ → ℕ) (k : ℕ) → (k ≡ to → ⊥) → with_time to time level k ≡ level k
set_other to time level k other = elim (eqb_tells k to) [ inl same ↦ absurd (other same.1) | inr apart ↦ rw apart.0 refl ]

pub set_here : (to : ℕ) (time : ℕ) (level : ℕ → ℕ) (k : ℕ) → k ≡ to → with_time to time level k ≡ time
set_here to time level k same = rw (eq-eqb k to same) refl

pub cleared_low : (to : ℕ) (level : ℕ → ℕ) (k : ℕ) → k < to → without to 1 level k ≡ level k
cleared_low to level k low = elim (leb_tells to k) [ inl high ↦ absurd (omega (arith, high.1)) | inr under ↦ rw under.0 refl ]

pub cleared_high : (to : ℕ) (level : ℕ → ℕ) (k : ℕ) → to < k → without to 1 level k ≡ level k
cleared_high to level k high = rw (le-leb to k (omega arith), le-ltb k (to + 1) (omega arith)) refl

pub cleared_here : (to : ℕ) (level : ℕ → ℕ) (k : ℕ) → k ≡ to → without to 1 level k ≡ 0
cleared_here to level k same = rw (le-leb to k (omega arith), lt-ltb k (to + 1) (omega arith)) refl

-- registers below the parameters keep their times
pub handed_low : (first to n : ℕ) (args : List Arg) (level : ℕ → ℕ) (k : ℕ) → k < to → handed_at first to n args level k ≡ level k
handed_low first to zero args level k low = refl
handed_low first to (suc n) [] level k low = refl
handed_low first to (suc n) (Number a ∷ args) level k low =
    handed_low first (to + 1) n args (without to 1 level) k (omega arith) ∙ cleared_low to level k low
handed_low first to (suc n) (Reg r dropped ∷ args) level k low =
    handed_low first (to + 1) n args (with_time to (level (first + r)) level) k (omega arith) ∙ set_other to (level (first + r)) level k (λ same. omega arith)

-- the time of what an operand gives
abbrev pub operand_time : ℕ → (ℕ → ℕ) → Arg → ℕ
operand_time first level (Number a) = 0
operand_time first level (Reg r dropped) = level (first + r)

same_operand : (first to : ℕ) (some level : ℕ → ℕ) (a : Arg) → first + up_to_operand a ≤ to → ((k : ℕ) → k < to → some k ≡ level k)
    → operand_time first some a ≡ operand_time first level a
same_operand first to some level (Number n) low same = refl
same_operand first to some level (Reg r dropped) low same = same (first + r) (omega (arith, low))

pub listed_low : (first to : ℕ) (args : List Arg) (j : ℕ) (a : Arg) → first + up_to_operands args ≤ to → slice_get args j ≡ Some a → first + up_to_operand a ≤ to
listed_low first to [] j a low is = absurd (none-some a is)
listed_low first to (x ∷ args) zero a low is = subst (λ y. first + up_to_operand y ≤ to) (same_Some x a is) (omega (arith, low))
listed_low first to (x ∷ args) (suc j) a low is = listed_low first to args j a (omega (arith, low)) is

-- a parameter has the time of its operand
pub handed_parameter : (first to n : ℕ) (args : List Arg) (level : ℕ → ℕ) (j : ℕ) (a : Arg) → first + up_to_operands args ≤ to → j < n → slice_get args j ≡ Some a
    → handed_at first to n args level (to + j) ≡ operand_time first level a
handed_parameter first to zero args level j a low within is = absurd (omega arith)
handed_parameter first to (suc n) [] level j a low within is = absurd (none-some a is)
handed_parameter first to (suc n) (Number x ∷ args) level zero a low within is =
    handed_low first (to + 1) n args (without to 1 level) (to + 0) (omega arith) ∙ (cleared_here to level (to + 0) (omega arith)
    ∙ ap (operand_time first level) (same_Some (Number x) a is))
handed_parameter first to (suc n) (Number x ∷ args) level (suc j) a low within is =
    ap (handed_at first (to + 1) n args (without to 1 level)) (let e : to + suc j ≡ to + 1 + j = omega arith in e)
    ∙ (handed_parameter first (to + 1) n args (without to 1 level) j a (omega (arith, low)) (omega arith) is
    ∙ same_operand first to (without to 1 level) level a (listed_low first to args j a (omega (arith, low)) is) (λ k under. cleared_low to level k under))
handed_parameter first to (suc n) (Reg r dropped ∷ args) level zero a low within is =
    handed_low first (to + 1) n args (with_time to (level (first + r)) level) (to + 0) (omega arith)
    ∙ (set_here to (level (first + r)) level (to + 0) (omega arith) ∙ ap (operand_time first level) (same_Some (Reg r dropped) a is))
handed_parameter first to (suc n) (Reg r dropped ∷ args) level (suc j) a low within is =
    ap (handed_at first (to + 1) n args (with_time to (level (first + r)) level)) (let e : to + suc j ≡ to + 1 + j = omega arith in e)
    ∙ (handed_parameter first (to + 1) n args (with_time to (level (first + r)) level) j a (omega (arith, low)) (omega arith) is
    ∙ same_operand first to (with_time to (level (first + r)) level) level a (listed_low first to args j a (omega (arith, low)) is)
    (λ k under. set_other to (level (first + r)) level k (λ same. omega arith)))

-- rows over operands below these registers
map_same : (f : (ℕ → ℕ) → ℕ → ℕ) (k : ℕ) (levels : List (ℕ → ℕ)) → ((level : ℕ → ℕ) → f level k ≡ level k)
    → map (λ (level : ℕ → ℕ). level k) (map f levels) ≡ map (λ (level : ℕ → ℕ). level k) levels
map_same f k [] same = refl
map_same f k (level ∷ levels) same = λ i. same level i ∷ map_same f k levels same i

register_times : (t : Timing) (r : ℕ) → times_at t (Register r) ≡ map (λ (level : ℕ → ℕ). level r) t.registers
unfolding times_at
register_times t r = refl

row_same : (first to : ℕ) (args : List Arg) (s t : Timing) (row : List ℕ) → first + up_to_operands args ≤ to
    → ((k : ℕ) → k < to → times_at s (Register k) ≡ times_at t (Register k)) → row_over (operand_locations first args) s row ≡ row_over (operand_locations first args) t row
row_same first to [] s t row low same = refl
row_same first to (Number n ∷ args) s t row low same = row_same first to args s t row (omega (arith, low)) same
row_same first to (Reg r true ∷ args) s t row low same = row_same first to args s t row (omega (arith, low)) same
row_same first to (Reg r false ∷ args) s t row low same =
    ap (λ (times : List ℕ). row_over (operand_locations first args) s (later row times)) (same (first + r) (omega (arith, low)))
    ∙ row_same first to args s t (later row (times_at t (Register (first + r)))) (omega (arith, low)) same

-- what is handed to one parameter changes no register below it
same_below : (to : ℕ) (t : Timing) (f : (ℕ → ℕ) → ℕ → ℕ) (row : List ℕ) → ((k : ℕ) → k < to → (level : ℕ → ℕ) → f level k ≡ level k)
    → (k : ℕ) → k < to → times_at (with_handed (map f t.registers) row t) (Register k) ≡ times_at t (Register k)
same_below to t f row same k low =
    register_times (with_handed (map f t.registers) row t) k ∙ (map_same f k t.registers (λ level. same k low level) ∙ sym (register_times t k))

copied_is : (from to : ℕ) (t : Timing) → copied from to t ≡ with_handed (map (λ (level : ℕ → ℕ). with_time to (level from) level) t.registers) t.row t
copied_is from to t =
    ap (λ (registers : List (ℕ → ℕ)). with_handed registers t.row t)
    (ap (λ (times : List ℕ). set_times to times t.registers) (register_times t from) ∙ set_self to from t.registers)

module _ (first to n : ℕ) (args : List Arg) (t : Timing) (f : (ℕ → ℕ) → ℕ → ℕ) (row : List ℕ) (low : first + up_to_operands args ≤ to)
    (same : (k : ℕ) → k < to → (level : ℕ → ℕ) → f level k ≡ level k) where
  -- what is left of the operands is handed on
  handed_on : arguments_handed first (to + 1) n args (with_handed (map f t.registers) row t)
      ≡ with_handed (map (handed_at first (to + 1) n args) (map f t.registers)) (row_over (operand_locations first args) (with_handed (map f t.registers) row t) row) t
      → arguments_handed first (to + 1) n args (with_handed (map f t.registers) row t)
      ≡ with_handed (map (λ (level : ℕ → ℕ). handed_at first (to + 1) n args (f level)) t.registers) (row_over (operand_locations first args) t row) t
  handed_on rest = rest ∙ (λ i. with_handed (map-map (handed_at first (to + 1) n args) f t.registers i)
      (row_same first to args (with_handed (map f t.registers) row t) t row low (same_below to t f row same) i) t)

-- all operands are handed on
pub arguments_are : (first to n : ℕ) (args : List Arg) (t : Timing) → first + up_to_operands args ≤ to
    → arguments_handed first to n args t ≡ with_handed (map (handed_at first to n args) t.registers) (row_over (operand_locations first args) t t.row) t
arguments_are first to zero args t low =
    raised_all_is (operand_locations first args) t
    ∙ sym (ap (λ (registers : List (ℕ → ℕ)). with_handed registers (row_over (operand_locations first args) t t.row) t) (map-id t.registers))
arguments_are first to (suc n) [] t low = sym (ap (λ (registers : List (ℕ → ℕ)). with_handed registers t.row t) (map-id t.registers))
arguments_are first to (suc n) (Number a ∷ args) t low =
    handed_on first to n args t (without to 1) t.row (omega (arith, low)) (λ k under level. cleared_low to level k under)
    (arguments_are first (to + 1) n args (with_handed (map (without to 1) t.registers) t.row t) (omega (arith, low)))
arguments_are first to (suc n) (Reg r true ∷ args) t low =
    ap (arguments_handed first (to + 1) n args) (copied_is (first + r) to t)
    ∙ handed_on first to n args t (λ (level : ℕ → ℕ). with_time to (level (first + r)) level) t.row (omega (arith, low))
    (λ k under level. set_other to (level (first + r)) level k (λ same. omega arith))
    (arguments_are first (to + 1) n args (with_handed (map (λ (level : ℕ → ℕ). with_time to (level (first + r)) level) t.registers) t.row t) (omega (arith, low)))
arguments_are first to (suc n) (Reg r false ∷ args) t low =
    let row : List ℕ = later t.row (times_at t (Register (first + r))) in
    ap (arguments_handed first (to + 1) n args) (raised_copied (first + r) to t)
    ∙ handed_on first to n args t (λ (level : ℕ → ℕ). with_time to (level (first + r)) level) row (omega (arith, low))
    (λ k under level. set_other to (level (first + r)) level k (λ same. omega arith))
    (arguments_are first (to + 1) n args (with_handed (map (λ (level : ℕ → ℕ). with_time to (level (first + r)) level) t.registers) row t) (omega (arith, low)))
  where
    raised_copied : (from to : ℕ) (t : Timing) → copied from to (raised (Register from) t)
        ≡ with_handed (map (λ (level : ℕ → ℕ). with_time to (level from) level) t.registers) (later t.row (times_at t (Register from))) t
    raised_copied from to t = copied_is from to (raised (Register from) t)
