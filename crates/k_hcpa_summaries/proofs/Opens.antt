-- What holds of open instances while the entries go on.
use Rattle.std.proofs.Common.{◌≡◌, ℕ, ◌-◌, get_or, set, length-set, drop, ◌+◌, ◌<◌, ◌≤◌, ◌^◌, List, [], ◌∷◌, ◌++◌, length, reverse, take, Option, Some, None, sym, ap, subst, ◌∙◌, arith}
use Rattle.std.proofs.lemmas.List.{length-reverse, length-drop, take-append-drop, take-take, take_all, take_more, take_more_set, reverse-append}
use Rattle.std.proofs.lemmas.Option.{slice_get_within}
use Rattle.k_dict_entries.specs.Entries.{AreRuns}
use Rattle.k_dict_entries.specs.Interning.{HasNumber, CanIntern}
use Rattle.k_dict_entries.specs.Tallies.{count_of, counted, total}
use Rattle.k_dict_entries.specs.declared.entry.Entry.{Entry}
use Rattle.k_dict_entries.specs.declared.entry.Run.{Run}
use Rattle.k_dict_entries.proofs.Counting.{AreRuns-counted}
use Rattle.k_dict_entries.proofs.Sound.{count_of-total}
use Rattle.k_hcpa_meaning.specs.Summing.{Opened, summary_of, with_child}
use Rattle.k_hcpa_summaries.proofs.Steps.{none_kept}
use Rattle.k_hcpa_summaries.specs.Closing.{closed_each, with_last, AreFew, AreOpen, GoesOn, IsBelow}

pub runs_wider : (low high more : ℕ) (runs : List Run) → high ≤ more → AreRuns low high runs → AreRuns low more runs
runs_wider low high more [] wider are = tt
runs_wider low high more (run ∷ runs) wider are =
    let below : run.entry < high = are.1 in (are.0, omega arith, are.2, runs_wider (run.entry + 1) high more runs wider are.3)

pub open_wider : (high more : ℕ) (levels : List Opened) → high ≤ more → AreOpen high levels → AreOpen more levels
open_wider high more [] wider are = tt
open_wider high more (l ∷ levels) wider are = (runs_wider 0 high more l.runs wider are.0, are.1, open_wider high more levels wider are.2)

pub counts_fit : (l : Opened) → total l.runs ≤ 4611686018427387904 → (n : ℕ) → count_of n l.runs + 1 < 2 ^ 64
counts_fit l few n = let part = count_of-total n l.runs in omega arith

runs_with : (high : ℕ) (last : Option ℕ) (l : Opened) → IsBelow high last → AreRuns 0 high l.runs → AreRuns 0 high (with_last last l).runs
runs_with high None l below are = are
runs_with high (Some n) l below are = AreRuns-counted 0 high n 1 l.runs (omega arith) below (omega arith) are

pub can_intern : (entries : List Entry) (last : Option ℕ) (l : Opened) (work path : ℕ) (e : Entry) → IsBelow (length entries) last → AreRuns 0 (length entries) l.runs
    → e ≡ summary_of (with_last last l) work path → CanIntern entries e
can_intern entries last l work path e below are is =
    subst (λ (x : Entry). AreRuns 0 (length entries) x.runs) (sym is) (runs_with (length entries) last l below are)

pub number_below : (old new : List Entry) (e : Entry) (n : ℕ) → HasNumber old new e n → n < length new
number_below old new e n has = slice_get_within new n e has.at

pub still : (entries : List Entry) → GoesOn entries entries
still entries = record { longer = omega arith; kept = take_all (length entries) entries (omega arith) }

pub goes_further : (one two three : List Entry) → GoesOn one two → GoesOn two three → GoesOn one three
goes_further one two three first second = record {
  longer = omega (arith, first.longer, second.longer);
  kept = sym (take-take (length one) (length two) three first.longer) ∙ ap (λ xs. take (length one) xs) second.kept ∙ first.kept;
}

-- a list that is read from its end
pub read_back : {A : Type 0} (whole rest : List A) (x : A) → whole ≡ rest ++ x ∷ [] → reverse whole ≡ x ∷ reverse rest
read_back whole rest x is = ap (λ xs. reverse xs) is ∙ reverse-append rest (x ∷ [])

pub open_first : (high : ℕ) (l : Opened) (levels whole : List Opened) → whole ≡ l ∷ levels → AreOpen high whole → AreOpen high (l ∷ levels)
open_first high l levels whole is are = subst (λ ls. AreOpen high ls) is are

ends_with : {A : Type 0} (xs : List A) (x : A) → 0 < length xs → x ≡ get_or xs (length xs - 1) x → xs ≡ take (length xs - 1) xs ++ x ∷ []
ends_with xs x some is =
    let lt : length xs - 1 < length xs = omega arith in
    sym (take_all (length xs - 1 + 1) xs (omega arith)) ∙ take_more xs (length xs - 1) x lt ∙ ap (λ y. take (length xs - 1) xs ++ y ∷ []) (sym is)

set_last : {A : Type 0} (xs : List A) (y : A) → 0 < length xs → set xs (length xs - 1) y ≡ take (length xs - 1) xs ++ y ∷ []
set_last xs y some =
    let lt : length xs - 1 < length xs = omega arith in
    sym (take_all (length xs - 1 + 1) (set xs (length xs - 1) y) (omega (arith, length-set xs (length xs - 1) y))) ∙ take_more_set xs (length xs - 1) y lt

-- the innermost of the levels, read from the end
pub last_first : (levels : List Opened) (l : Opened) → 0 < length levels → l ≡ get_or levels (length levels - 1) l → reverse levels ≡ l ∷ reverse (take (length levels - 1) levels)
last_first levels l some is = read_back levels (take (length levels - 1) levels) l (ends_with levels l some is)

pub last_counts : (levels : List Opened) (l : Opened) (child : ℕ) → 0 < length levels → l ≡ get_or levels (length levels - 1) l → AreFew (reverse levels)
    → count_of child l.runs + 1 < 2 ^ 64
last_counts levels l child some is few =
    counts_fit l (subst (λ ls. AreFew ls) (last_first levels l some is) few).0 child

pub counted_last : (levels : List Opened) (l new : Opened) (child : ℕ) → 0 < length levels → l ≡ get_or levels (length levels - 1) l
    → new ≡ record l { runs = counted child 1 l.runs } → reverse (set levels (length levels - 1) new) ≡ with_child child (reverse levels)
counted_last levels l new child some is made =
    read_back (set levels (length levels - 1) new) (take (length levels - 1) levels) new (set_last levels new some)
    ∙ ap (λ x. x ∷ reverse (take (length levels - 1) levels)) made
    ∙ sym (ap (λ ls. with_child child ls) (last_first levels l some is))

open_inner : (high : ℕ) (inner outer : List Opened) → AreOpen high (inner ++ outer) → AreOpen high inner
open_inner high [] outer are = tt
open_inner high (l ∷ inner) outer are = (are.0, are.1, open_inner high inner outer are.2)

few_of : (high : ℕ) (levels : List Opened) → AreOpen high levels → AreFew levels
few_of high [] are = tt
few_of high (l ∷ levels) are = (are.1, few_of high levels are.2)

few_outer : (high : ℕ) (inner outer : List Opened) → AreOpen high (inner ++ outer) → AreFew outer
few_outer high [] outer are = few_of high outer are
few_outer high (l ∷ inner) outer are = few_outer high inner outer are.2

pub two_parts : (levels outer inner : List Opened) → levels ≡ outer ++ inner → reverse levels ≡ reverse inner ++ reverse outer
two_parts levels outer inner is = ap (λ ls. reverse ls) is ∙ reverse-append outer inner

pub open_within : (high : ℕ) (levels outer inner : List Opened) → levels ≡ outer ++ inner → AreOpen high (reverse levels) → AreOpen high (reverse inner)
open_within high levels outer inner is are = open_inner high (reverse inner) (reverse outer) (subst (λ ls. AreOpen high ls) (two_parts levels outer inner is) are)

pub few_around : (high : ℕ) (levels outer inner : List Opened) → levels ≡ outer ++ inner → AreOpen high (reverse levels) → AreFew (reverse outer)
few_around high levels outer inner is are = few_outer high (reverse inner) (reverse outer) (subst (λ ls. AreOpen high ls) (two_parts levels outer inner is) are)

-- levels that are closed where no entries are kept
pub none_behind : (work stay : ℕ) (paths : List ℕ) (levels : List Opened) → stay + length paths ≡ length levels
    → closed_each work (reverse paths) (record { levels = reverse levels; dict = None }) ≡ record { levels = reverse (take stay levels); dict = None }
none_behind work stay paths levels same =
    let inner = drop stay levels in
    let as_many : length (reverse paths) ≡ length (reverse inner) = omega (arith, length-reverse paths, length-reverse inner, length-drop stay levels) in
    ap (λ ls. closed_each work (reverse paths) (record { levels = ls; dict = None })) (two_parts levels (take stay levels) inner (sym (take-append-drop stay levels)))
    ∙ none_kept work (reverse paths) (reverse inner) (reverse (take stay levels)) as_many
