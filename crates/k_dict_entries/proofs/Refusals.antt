-- Which limit entries pass first.
use Rattle.std.proofs.Common.{◌≡◌, ℕ, suc, ◌+◌, ◌<◌, ◌≤◌, Bool, true, false, List, [], ◌∷◌, ◌++◌, length, Option, Some, None, refl, sym, ap, ◌∙◌, arith, add_assoc, le-ltb, lt-ltb, nat_le, nat_lt, if◌then◌else◌}
use Rattle.std.proofs.lemmas.List.Sums.{sum_by-cons}
use Rattle.std.proofs.lemmas.Option.{none-some}
use Rattle.k_dict_entries.specs.Dictionary.{refusal}
use Rattle.k_dict_entries.specs.Entries.{all_runs}
use Rattle.k_dict_entries.specs.declared.entry.Entry.{Entry}
use Rattle.k_dict_entries.specs.declared.dict.Which.{Which}
use Rattle.k_dict_entries.specs.declared.dict.Which.TheVariants.{Entries, AllRuns}

later_too : (one other : Bool) (rest more : Option Which) (w : Which) → (rest ≡ Some w → more ≡ Some w)
    → (if one then Some Entries else (if other then Some AllRuns else rest)) ≡ Some w
    → (if one then Some Entries else (if other then Some AllRuns else more)) ≡ Some w
later_too true other rest more w step h = h
later_too false true rest more w step h = h
later_too false false rest more w step h = step h

-- a limit that is passed stays passed where entries follow
pub refusal_stays : (count runs : ℕ) (entries more : List Entry) (w : Which) → refusal count runs entries ≡ Some w → refusal count runs (entries ++ more) ≡ Some w
refusal_stays count runs [] more w h = absurd (none-some w h)
refusal_stays count runs (e ∷ entries) more w h =
    later_too (nat_le 1048576 count) (nat_lt 16777216 (runs + length e.runs)) (refusal (count + 1) (runs + length e.runs) entries)
    (refusal (count + 1) (runs + length e.runs) (entries ++ more)) w (refusal_stays (count + 1) (runs + length e.runs) entries more w) h

module _ (count runs : ℕ) (e : Entry) (entries : List Entry) where
  pub refusal-within : count < 1048576 → runs + length e.runs ≤ 16777216
      → refusal count runs (e ∷ entries) ≡ refusal (count + 1) (runs + length e.runs) entries
  refusal-within few small =
      let rest : Option Which = refusal (count + 1) (runs + length e.runs) entries in
      ap (λ b. if b then Some Entries else (if nat_lt 16777216 (runs + length e.runs) then Some AllRuns else rest)) (le-ltb 1048575 count (omega arith))
      ∙ ap (λ b. if b then Some AllRuns else rest) (le-ltb 16777216 (runs + length e.runs) small)

  pub refusal-entries : 1048576 ≤ count → refusal count runs (e ∷ entries) ≡ Some Entries
  refusal-entries many =
      ap (λ b. if b then Some Entries else (if nat_lt 16777216 (runs + length e.runs) then Some AllRuns else refusal (count + 1) (runs + length e.runs) entries))
      (lt-ltb 1048575 count (omega arith))

  pub refusal-runs : count < 1048576 → 16777216 < runs + length e.runs → refusal count runs (e ∷ entries) ≡ Some AllRuns
  refusal-runs few many =
      let rest : Option Which = refusal (count + 1) (runs + length e.runs) entries in
      ap (λ b. if b then Some Entries else (if nat_lt 16777216 (runs + length e.runs) then Some AllRuns else rest)) (le-ltb 1048575 count (omega arith))
      ∙ ap (λ b. if b then Some AllRuns else rest) (lt-ltb 16777216 (runs + length e.runs) many)

-- entries within the limits are passed over
pub refusal-behind : (count runs : ℕ) (entries more : List Entry) → count + length entries ≤ 1048576 → runs + all_runs entries ≤ 16777216
    → refusal count runs (entries ++ more) ≡ refusal (count + length entries) (runs + all_runs entries) more
refusal-behind count runs [] more few small =
    let one : count ≡ count + 0 = omega arith in let other : runs ≡ runs + 0 = omega arith in λ i. refusal (one i) (other i) more
refusal-behind count runs (e ∷ entries) more few small =
    let sum : all_runs (e ∷ entries) ≡ length e.runs + all_runs entries = sum_by-cons (λ d. length d.runs) e entries in
    let one : (count + 1) + length entries ≡ count + suc (length entries) = omega arith in
    let other : (runs + length e.runs) + all_runs entries ≡ runs + all_runs (e ∷ entries) = omega arith in
    refusal-within count runs e (entries ++ more) (omega arith) (omega arith)
    ∙ refusal-behind (count + 1) (runs + length e.runs) entries more (omega arith) (omega arith)
    ∙ (λ i. refusal (one i) (other i) more)
