-- A dictionary is within its limits exactly where its entries are those of a dictionary.
use Rattle.std.proofs.Common.{◌≡◌, ℕ, ◌+◌, ◌<◌, ◌≤◌, Bool, true, false, nat_le, nat_lt, List, [], ◌∷◌, append-nil, length, Option, Some, None, refl, sym, ap, ◌∙◌, subst, arith, if◌then◌else◌}
use Rattle.std.proofs.lemmas.Bool.{leb-false, ltb-false}
use Rattle.std.proofs.lemmas.List.Sums.{sum_by-cons}
use Rattle.std.proofs.lemmas.Option.{none-some}
use Rattle.k_dict_entries.specs.Dictionary.{IsDictionaryOf, refusal}
use Rattle.k_dict_entries.specs.Entries.{AreInterned, all_runs}
use Rattle.k_dict_entries.specs.Trees.{Tree, alone}
use Rattle.k_dict_entries.specs.declared.dict.Which.{Which}
use Rattle.k_dict_entries.specs.declared.dict.Which.TheVariants.{Entries, AllRuns}
use Rattle.k_dict_entries.specs.declared.entry.Entry.{Entry}
use Rattle.k_dict_entries.proofs.Coding.{AreProper}
use Rattle.k_dict_entries.proofs.Refusals.{refusal-behind}
use Rattle.k_dict_entries.proofs.Unique.{one_dictionary}
use Rattle.k_dict_entries.proofs.Walking.{none_seen, walk, walk_is, walks_well}

-- entries that are few, with few runs, pass no limit
pub none_passed : (entries : List Entry) → AreInterned entries → refusal 0 0 entries ≡ None
none_passed entries are =
    let few : length entries ≤ 1048576 = are.few in
    let runs : all_runs entries ≤ 16777216 = are.few_runs in
    ap (refusal 0 0) (sym (append-nil entries)) ∙ refusal-behind 0 0 entries [] (omega arith) (omega arith)

some_entries : (b : Bool) (o : Option Which) → (if b then Some Entries else o) ≡ None → (b ≡ false) × (o ≡ None)
some_entries true o is = absurd (none-some Entries (sym is))
some_entries false o is = (refl, is)

some_runs : (b : Bool) (o : Option Which) → (if b then Some AllRuns else o) ≡ None → (b ≡ false) × (o ≡ None)
some_runs true o is = absurd (none-some AllRuns (sym is))
some_runs false o is = (refl, is)

few_of : (count runs : ℕ) (entries : List Entry) → count ≤ 1048576 → runs ≤ 16777216 → refusal count runs entries ≡ None
    → (count + length entries ≤ 1048576) × (runs + all_runs entries ≤ 16777216)
few_of count runs [] few small is = (omega arith, omega arith)
few_of count runs (e ∷ entries) few small is =
    let one = some_entries (nat_le 1048576 count)
    (if nat_lt 16777216 (runs + length e.runs) then Some AllRuns else refusal (count + 1) (runs + length e.runs) entries) is in
    let two = some_runs (nat_lt 16777216 (runs + length e.runs)) (refusal (count + 1) (runs + length e.runs) entries) one.1 in
    let low : count < 1048576 = leb-false 1048576 count one.0 in
    let fits : runs + length e.runs ≤ 16777216 = ltb-false 16777216 (runs + length e.runs) two.0 in
    let rest = few_of (count + 1) (runs + length e.runs) entries (omega arith) fits two.1 in
    let all : all_runs (e ∷ entries) ≡ length e.runs + all_runs entries = sum_by-cons (λ (x : Entry). length x.runs) e entries in
    let a : (count + 1) + length entries ≤ 1048576 = rest.0 in
    let b : (runs + length e.runs) + all_runs entries ≤ 16777216 = rest.1 in
    (omega arith, omega arith)

-- no two entries of a tree's dictionary are equal
proper : (t : Tree) (dict : List Entry) → IsDictionaryOf t dict → AreProper dict
proper t dict is =
    let w = walks_well (alone t) [] [] none_seen in
    let P : List Entry → Type 0 = AreProper in
    subst P (one_dictionary t (walk (alone t) []).dict dict (walk_is t) is) w.are.proper

-- a tree's dictionary that passes no limit
pub interned_of : (t : Tree) (dict : List Entry) → IsDictionaryOf t dict → refusal 0 0 dict ≡ None → AreInterned dict
interned_of t dict is within =
    let few = few_of 0 0 dict (omega arith) (omega arith) within in
    let count : 0 + length dict ≤ 1048576 = few.0 in
    let runs : 0 + all_runs dict ≤ 16777216 = few.1 in
    record { few = omega arith; few_runs = omega arith; earlier = is.earlier; apart = (proper t dict is).apart }
