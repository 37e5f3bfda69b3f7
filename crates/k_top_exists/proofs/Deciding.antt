-- Rules of saved files that are decided: each holds, or does not.
use Rattle.std.proofs.Common.{◌≡◌, ◌⊎◌, inl, inr, ℕ, zero, suc, ◌+◌, ◌<◌, ◌≤◌, Bool, true, false, List, [], ◌∷◌, length, Option, Some, None, slice_get, Contains, nat_eq, refl, sym, ap, ◌∙◌, subst, arith, replicate, is_some}
use Rattle.std.specs.Prelude.{codes}
use Rattle.std.specs.Cmp.Lexicographic.{pointwise}
use Rattle.std.proofs.lemmas.Bool.{both_ways, cases_eq, cases_lt}
use Rattle.std.proofs.lemmas.Bool.Decides.{Decides-eqb}
use Rattle.std.proofs.lemmas.Option.{get_or_from_slice_get, none-some, same_Some}
use Rattle.std.proofs.lemmas.Slice.Eq.{slice_eq-Decides}
use Rattle.k_optab.specs.declared.region.Region.{Region}
use Rattle.k_optab.specs.declared.region.RegionKind.{RegionKind}
use Rattle.k_optab.specs.declared.region.RegionKind.TheVariants.{Func, Loop, Body}
use Rattle.k_dict_entries.specs.Entries.{AreApart, AreDistinct, AreRuns, NameBelow, all_runs}
use Rattle.k_dict_entries.specs.Rules.{entry_of, no_entry}
use Rattle.k_dict_entries.specs.declared.entry.Entry.{Entry}
use Rattle.k_dict_entries.specs.declared.entry.Run.{Run}
use Rattle.k_dict_entries.proofs.Numbers.{is_in_or_absent, absent_is, not_contained}
use Rattle.k_dict_saved.specs.Extents.{extents_of, is_within, no_sums, sums_from}
use Rattle.k_dict_saved.specs.Formats.{AreMaximal, AreNamed, AreRunsOf, Differs, HaveRuns, IsPostOrder, NoneIsLeft}
use Rattle.k_dict_saved.specs.Lines.{EndsInMain, IsClosed, IsNextEntry, MayStand, StandsBehind}
use Rattle.k_dict_saved.specs.Order.{Visits}
use Rattle.k_dict_saved.specs.Reading.{Ends, IsWithinRules, are_marked, marked_all}
use Rattle.k_dict_saved.specs.declared.format.Format.{Format}
use Rattle.k_dict_saved.specs.declared.format.Format.TheVariants.{One, Two}
use Rattle.k_dict_saved.proofs.EntrySteps.{next_is}
use Rattle.k_dict_saved.proofs.Marks.{marks_tell}
use Rattle.k_dict_saved.proofs.RunSums.{rules_within, within_rules}
use Rattle.k_dict_saved.proofs.Visiting.{Visiting, fails_at, more_at, order_is, visited_before, visiting_done, visiting_from, visiting_lower, visiting_wrong}

-- it holds or not
abbrev pub Decided : Type 0 → Type 0
Decided A = A ⊎ (¬ A)

-- what a test tells is decided
pub decided_by : (b : Bool) (A : Type 0) → (b ≡ true → A) → (A → b ≡ true) → Decided A
decided_by b A to from = by b refl
  where
    by : (t : Bool) → b ≡ t → Decided A
    by true h = inl (to h)
    by false h = inr (λ a. both_ways b h (from a))

-- two, three and four rules together
pub both_decided : {A B : Type 0} → Decided A → Decided B → Decided (A × B)
both_decided (inl a) (inl b) = inl (a, b)
both_decided (inl a) (inr not_so) = inr (λ all. not_so all.1)
both_decided (inr not_so) b = inr (λ all. not_so all.0)

pub three_decided : {A B C : Type 0} → Decided A → Decided B → Decided C → Decided (A × B × C)
three_decided (inl a) (inl b) (inl c) = inl (a, b, c)
three_decided (inl a) (inl b) (inr not_so) = inr (λ all. not_so all.2)
three_decided (inl a) (inr not_so) c = inr (λ all. not_so all.1)
three_decided (inr not_so) b c = inr (λ all. not_so all.0)

pub four_decided : {A B C D : Type 0} → Decided A → Decided B → Decided C → Decided D → Decided (A × B × C × D)
four_decided (inl a) (inl b) (inl c) (inl d) = inl (a, b, c, d)
four_decided (inl a) (inl b) (inl c) (inr not_so) = inr (λ all. not_so all.3)
four_decided (inl a) (inl b) (inr not_so) d = inr (λ all. not_so all.2)
four_decided (inl a) (inr not_so) c d = inr (λ all. not_so all.1)
four_decided (inr not_so) b c d = inr (λ all. not_so all.0)

other_decided : {A : Type 0} → Decided A → Decided (¬ A)
other_decided (inl a) = inr (λ not_so. not_so a)
other_decided (inr not_so) = inl not_so

less_decided : (a b : ℕ) → Decided (a < b)
less_decided a b = elim (cases_lt a b) [ inl less ↦ inl less | inr more ↦ inr (λ less. absurd (omega arith)) ]

pub most_decided : (a b : ℕ) → Decided (a ≤ b)
most_decided a b = elim (cases_lt b a) [ inl less ↦ inr (λ most. absurd (omega arith)) | inr most ↦ inl most ]

-- texts are equal or not
pub text_decided : (x y : List ℕ) → Decided (x ≡ y)
text_decided x y =
    let tells = slice_eq-Decides Decides-eqb x y (pointwise nat_eq x y) refl in decided_by (pointwise nat_eq x y) (x ≡ y) tells.0 tells.1

-- ---- regions

is_body : (kind : RegionKind) → Decided (kind ≡ Body)
is_body Func = inr (λ e. cc)
is_body Loop = inr (λ e. cc)
is_body Body = inl refl

is_loop : (kind : RegionKind) → Decided (kind ≡ Loop)
is_loop Func = inr (λ e. cc)
is_loop Loop = inl refl
is_loop Body = inr (λ e. cc)

is_func : (kind : RegionKind) → Decided (kind ≡ Func)
is_func Func = inl refl
is_func Loop = inr (λ e. cc)
is_func Body = inr (λ e. cc)

stands_decided : (kind : RegionKind) (func : List ℕ) (r : Region) → Decided (StandsBehind kind func r)
stands_decided Func func r = other_decided (is_body r.kind)
stands_decided Loop func r = both_decided (is_body r.kind) (text_decided r.func func)
stands_decided Body func r = other_decided (is_body r.kind)

-- a region may stand behind these, or not
pub stand_decided : (last : Option Region) (r : Region) → Decided (MayStand last r)
stand_decided None r = other_decided (is_body r.kind)
stand_decided (Some last) r = stands_decided last.kind last.func r

-- no body is missing, or one is
pub closed_decided : (last : Option Region) → Decided (IsClosed last)
closed_decided None = inl tt
closed_decided (Some last) = other_decided (is_loop last.kind)

-- ---- entries

pub rising_decided : (low high : ℕ) (runs : List Run) → Decided (AreRuns low high runs)
rising_decided low high [] = inl tt
rising_decided low high (run ∷ runs) =
    four_decided (most_decided low run.entry) (less_decided run.entry high) (most_decided 1 run.count) (rising_decided (run.entry + 1) high runs)

below_decided : (high : ℕ) (runs : List Run) → Decided (NameBelow high runs)
below_decided high [] = inl tt
below_decided high (run ∷ runs) = three_decided (less_decided run.entry high) (most_decided 1 run.count) (below_decided high runs)

differs_decided : (run : Run) (runs : List Run) → Decided (Differs run runs)
differs_decided run [] = inl tt
differs_decided run (next ∷ runs) = other_decided (cases_eq run.entry next.entry)

maximal_decided : (runs : List Run) → Decided (AreMaximal runs)
maximal_decided [] = inl tt
maximal_decided (run ∷ runs) = both_decided (differs_decided run runs) (maximal_decided runs)

runs_decided : (format : Format) (count : ℕ) (runs : List Run) → Decided (AreRunsOf format count runs)
runs_decided One count runs = three_decided (below_decided count runs) (maximal_decided runs) (most_decided (length runs) 1048576)
runs_decided Two count runs = rising_decided 0 count runs

rules_decided : (entries : List Entry) (e : Entry) → NameBelow (length entries) e.runs → Decided (IsWithinRules entries e)
rules_decided entries e below =
    decided_by (is_within e (sums_from entries (extents_of entries) no_sums e.runs)) (IsWithinRules entries e) (within_rules entries e below) (rules_within entries e below)

absent_decided : (entries : List Entry) (e : Entry) → Decided (¬ Contains entries e)
absent_decided entries e = elim (is_in_or_absent entries e) [
  | inl there ↦ inr (λ none. not_contained entries e none there.0 there.1)
  | inr absent ↦ inl (absent_is entries e absent)
]

-- an entry that was read may stand behind these, or not
pub next_decided : (format : Format) (regions : ℕ) (entries : List Entry) (e : Entry) → e.region < regions → NameBelow (length entries) e.runs
    → Decided (IsNextEntry format regions entries e)
next_decided format regions entries e region below =
    elim (four_decided (runs_decided format (length entries) e.runs) (rules_decided entries e below) (absent_decided entries e)
    (most_decided (all_runs entries + length e.runs) 16777216)) [
      | inl all ↦ inl (next_is format regions entries e region all.0 all.1 all.2 all.3)
      | inr not_so ↦ inr (λ next. not_so (next.runs, record { numbers = next.numbers; levels = next.levels; instances = next.instances }, next.new, next.few_runs))
    ]

-- ---- the end

-- the region of this number is the function main
abbrev pub IsMain : List Region → ℕ → Type 0
IsMain regions number = (main : Region) × (slice_get regions number ≡ Some main) × (main.kind ≡ Func) × (main.func ≡ codes "main")

pub main_decided : (regions : List Region) (number : ℕ) → Decided (IsMain regions number)
main_decided regions number = by (slice_get regions number) refl
  where
    by : (o : Option Region) → slice_get regions number ≡ o → Decided (IsMain regions number)
    by None h = inr (λ m. none-some m.0 (sym h ∙ m.1))
    by (Some r) h = elim (both_decided (is_func r.kind) (text_decided r.func (codes "main"))) [
      | inl is ↦ inl (r, h, is.0, is.1)
      | inr not_so ↦ inr (λ m. let P : Region → Type 0 = λ x. (x.kind ≡ Func) × (x.func ≡ codes "main") in
          not_so (subst P (same_Some m.0 r (sym m.1 ∙ h)) (m.2, m.3)))
    ]

-- the last entry is of main, or not
ends_decided : (regions : List Region) (entries : List Entry) → Decided (EndsInMain regions entries)
ends_decided regions entries = by (length entries) refl
  where
    by : (n : ℕ) → length entries ≡ n → Decided (EndsInMain regions entries)
    by zero h = inr (λ m. let last = m.last in absurd (omega arith))
    by (suc root) h =
        let count : length entries ≡ root + 1 = omega arith in
        elim (main_decided regions (entry_of entries root).region) [
          | inl is ↦ inl (record { root = root; last = count; main = is.0; there = is.1; kind = is.2; func = is.3 })
          | inr not_so ↦ inr (λ m. let last = m.last in let same : root ≡ m.root = omega arith in
              not_so (m.main, ap (λ n. slice_get regions (entry_of entries n).region) same ∙ m.there, m.kind, m.func))
        ]

-- what the visit of an entry answers
abbrev HasVisit : List Entry → ℕ → ℕ → Type 0
HasVisit entries number before = (result : Option ℕ) × Visits entries number before result

module _ (entries : List Entry) (runs : HaveRuns One entries) (apart : AreApart entries) where
  module _ (number before : ℕ) (within : number < length entries) (visit : (m b : ℕ) → m < number → b ≤ length entries → HasVisit entries m b) where
    -- behind the visit of a child, where all runs behind it are visited
    visited_child : (count : ℕ) (run : Run) (rest : List Run) → Visiting entries number before count (run ∷ rest)
        → ((next : ℕ) → Visiting entries number before next rest → HasVisit entries number before)
        → (result : Option ℕ) → Visits entries run.entry count result → HasVisit entries number before
    visited_child count run rest at more None none = (None, fails_at entries runs apart number before within count run (run ∷ rest) rest at refl none)
    visited_child count run rest at more (Some next) visits = more next (more_at entries runs apart number before within count next run (run ∷ rest) rest at refl visits)

    -- the visit of an entry from these runs on
    visit_runs : (rest : List Run) (count : ℕ) → Visiting entries number before count rest → HasVisit entries number before
    visit_runs [] count at = elim (cases_eq count number) [
      | inl is ↦ (Some (number + 1), visiting_done entries runs apart number before within count [] at refl is)
      | inr other ↦ (None, visiting_wrong entries runs apart number before within count [] at refl other)
    ]
    visit_runs (run ∷ rest) count at =
        let few = at.few in
        let child = visit run.entry count (visiting_lower entries runs apart number before within count (run ∷ rest) rest run at refl) (omega arith) in
        visited_child count run rest at (λ next more. visit_runs rest next more) child.0 child.1

  -- the visit of an entry
  visit_entry : (k number before : ℕ) → number < k → number < length entries → before ≤ length entries → HasVisit entries number before
  visit_entry zero number before less within few = absurd (omega arith)
  visit_entry (suc k) number before less within few = elim (cases_lt number before) [
    | inl done ↦ (Some before, visited_before entries runs apart number before done few)
    | inr anew ↦ visit_runs number before within (λ m b lower most. visit_entry k m b (omega arith) (omega arith) most) (entry_of entries number).runs before
        (visiting_from entries runs apart number before within (entry_of entries number).runs
        (λ e at. ap (λ d. d.runs) (get_or_from_slice_get entries number e no_entry at)) anew)
  ]

  -- the entries are in post-order, or not
  order_decided : Decided (IsPostOrder entries)
  order_decided = by (length entries) refl
    where
      by : (n : ℕ) → length entries ≡ n → Decided (IsPostOrder entries)
      by zero h = inr (λ order. let last = order.last in absurd (omega arith))
      by (suc root) h =
          let count : length entries ≡ root + 1 = omega arith in
          let visit = visit_entry (suc root) root 0 (omega arith) (omega arith) (omega arith) in
          let tells = order_is entries runs apart root visit.0 count visit.1 in
          decided_by (is_some visit.0) (IsPostOrder entries) tells.0 tells.1

left_decided : (format : Format) (entries : List Entry) → HaveRuns format entries → AreDistinct entries → Decided (NoneIsLeft format entries)
left_decided One entries runs distinct = order_decided entries runs distinct.apart
left_decided Two entries runs distinct =
    let tells = marks_tell entries runs in
    decided_by (are_marked (marked_all (replicate (length entries) false) entries)) (AreNamed entries) tells.0 tells.1

-- the end of a file stands here and may, or not
pub end_decided : (format : Format) (regions : List Region) (entries : List Entry) (text : List ℕ) → HaveRuns format entries → AreDistinct entries
    → Decided (Ends format regions entries text)
end_decided format regions entries text runs distinct =
    three_decided (text_decided text (codes "end\n")) (ends_decided regions entries) (left_decided format entries runs distinct)
