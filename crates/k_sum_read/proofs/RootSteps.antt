-- The line of the roots.
use Rattle.std.proofs.Common.{◌≡◌, ℕ, zero, suc, ◌+◌, ◌<◌, ◌≤◌, inl, inr, Bool, IsTrue, ◌↔◌, true, false, List, [], ◌∷◌, ◌++◌, length, get_or, Some, None, Result, Ok, Err, slice_get, refl, sym, ap, ◌∙◌, subst, arith, replicate, zero-add}
use Rattle.std.specs.Prelude.{codes, IfOk}
use Rattle.std.specs.List.{flat_map}
use Rattle.std.proofs.lemmas.Bool.{and_parts, and_from, false≢true}
use Rattle.std.proofs.lemmas.List.{get_or-replicate, length-replicate}
use Rattle.std.proofs.lemmas.Option.{none-some, same_Some, slice_get-get_or}
use Rattle.k_optab.specs.declared.region.Region.{Region}
use Rattle.k_optab.specs.declared.region.RegionKind.TheVariants.{Func}
use Rattle.k_dict_entries.specs.Entries.{NameBelow, NameEarlier, laid, trees_of}
use Rattle.k_dict_entries.specs.Rules.{NameRegions, child_works, entry_of, no_entry}
use Rattle.k_dict_entries.specs.Tallies.{total}
use Rattle.k_dict_entries.specs.Trees.{size}
use Rattle.k_dict_entries.specs.declared.entry.Entry.{Entry}
use Rattle.k_dict_entries.specs.declared.entry.Run.{Run}
use Rattle.k_dict_entries.proofs.EntryTrees.{below_bound, length-trees}
use Rattle.k_dict_saved.specs.Extents.{capped, child_instances, extents_of, no_sums, sums_from}
use Rattle.k_dict_saved.specs.Reading.{marked, marked_all}
use Rattle.k_dict_saved.specs.Syntax.{Gives, runs_at}
use Rattle.k_dict_saved.specs.declared.reading.extents.Sums.{Sums}
use Rattle.k_dict_saved.specs.declared.reading.stop.Stop.{Stop}
use Rattle.k_dict_saved.specs.declared.reading.stop.Stop.TheVariants as stops
use Rattle.k_dict_saved.proofs.Keeping.{few_bound}
use Rattle.k_dict_saved.proofs.Marks.{below_marks, length-marked, length-marked_all, marked_all_set, marked_set}
use Rattle.k_dict_saved.proofs.RunSums.{size-laid, sums_are}
use Rattle.k_dict_saved.proofs.Spelled.{runs_again, runs_takes}
use Rattle.k_scan.specs.Pieces.{word_at}
use Rattle.k_scan.proofs.Front.{word_again, word_takes}
use Rattle.k_sum.specs.SumText.{roots_text}
use Rattle.k_sum_order.proofs.Steps.{item_is}
use Rattle.k_sum_read.specs.Reading.{AreWithin, FoundRoots, NoneIsLeft, are_all}
use Rattle.k_sum_saved.specs.SumLines.{AreOfMain, AreOfRegion, AreRoots}
use Rattle.k_sum_saved.proofs.OneReading.{roots_parts, small_counts}
use Rattle.k_text.specs.Texts.{run_text}

-- ---- how many roots there are

-- the count goes on where it is capped
pub count_on : (count more rest : ℕ) → capped (capped (count + more) + rest) ≡ capped (count + (more + rest))
count_on count more rest = omega arith

-- behind the last it is that of all
pub all_counted : (count : ℕ) (roots rest : List Run) → length rest ≡ 0 → count ≤ 18446744073709551615 → capped (count + total rest) ≡ capped (total roots) → count ≡ capped (total roots)
all_counted count roots [] none few same = omega arith
all_counted count roots (root ∷ rest) none few same = absurd (omega arith)

-- ---- roots of main

-- the entry of a root is there
root_there : (entries : List Entry) (n : ℕ) → n < length entries → slice_get entries n ≡ Some (entry_of entries n)
root_there entries n within = slice_get-get_or entries n no_entry within

-- and names a region
region_within : (regions : List Region) (entries : List Entry) (n : ℕ) → NameRegions (length regions) entries → n < length entries → (entry_of entries n).region < length regions
region_within regions entries n named within = named n (entry_of entries n) (root_there entries n within)

-- roots of main, by the region of the first
main_of : (regions : List Region) (entries : List Entry) (first : Run) (later : List Run) (main : Region) → slice_get regions (entry_of entries first.entry).region ≡ Some main
    → ((main.kind ≡ Func) × (main.func ≡ codes "main")) × AreOfRegion (entry_of entries first.entry).region entries (first ∷ later) → AreOfMain regions entries (first ∷ later)
main_of regions entries first later main there are = record {
  region = (entry_of entries first.entry).region;
  main = main;
  there = there;
  kind = are.0.0;
  func = are.0.1;
  each = are.1;
}

of_main : (regions : List Region) (entries : List Entry) (first : Run) (later : List Run) (main : Region) → slice_get regions (entry_of entries first.entry).region ≡ Some main
    → AreOfMain regions entries (first ∷ later) → ((main.kind ≡ Func) × (main.func ≡ codes "main")) × AreOfRegion (entry_of entries first.entry).region entries (first ∷ later)
of_main regions entries first later main there are =
    let here : (entry_of entries first.entry).region ≡ are.region = are.each.0 in
    let P : ℕ → Type 0 = λ n. slice_get regions n ≡ Some main in
    let same : are.main ≡ main = same_Some are.main main (sym are.there ∙ subst P here there) in
    let Q : ℕ → Type 0 = λ n. AreOfRegion n entries (first ∷ later) in
    let K : Region → Type 0 = λ r. (r.kind ≡ Func) × (r.func ≡ codes "main") in
    (subst K same (are.kind, are.func), subst Q (sym here) are.each)

module _ (regions : List Region) (entries : List Entry) (roots later : List Run) (first : Run) (e : Entry) (main : Region) (is : roots ≡ first ∷ later)
    (below : NameBelow (length entries) roots) (named : NameRegions (length regions) entries) (at : e ≡ get_or entries first.entry e)
    (main_at : main ≡ get_or regions (get_or entries first.entry e).region main) where
  within : first.entry < length entries
  within = let P : List Run → Type 0 = NameBelow (length entries) in (subst P is below).0

  region : (entry_of entries first.entry).region ≡ (get_or entries first.entry e).region
  region = ap (λ (x : Entry). x.region) (item_is entries first.entry e within at ∙ at)

  there : slice_get regions (entry_of entries first.entry).region ≡ Some main
  there =
      let P : ℕ → Type 0 = λ r. slice_get regions r ≡ Some main in
      let Q : ℕ → Type 0 = λ r. r < length regions in
      let inside : (get_or entries first.entry e).region < length regions = subst Q region (region_within regions entries first.entry named within) in
      subst P (sym region) (slice_get-get_or regions (get_or entries first.entry e).region main inside ∙ ap Some (sym main_at))

  -- the region of the first root is main, and all roots are of it
  abbrev IsTested : Type 0
  IsTested = ((main.kind ≡ Func) × (main.func ≡ codes "main")) × AreOfRegion (get_or entries first.entry e).region entries roots

  pub tested_main : IsTested → AreOfMain regions entries roots
  tested_main both =
      let P : List Run → Type 0 = AreOfMain regions entries in
      let Q : ℕ → Type 0 = λ r. AreOfRegion r entries roots in
      let R : List Run → Type 0 = AreOfRegion (entry_of entries first.entry).region entries in
      subst P (sym is) (main_of regions entries first later main there (both.0, subst R is (subst Q (sym region) both.1)))

  pub main_tested : AreOfMain regions entries roots → IsTested
  main_tested are =
      let P : List Run → Type 0 = AreOfMain regions entries in
      let Q : ℕ → Type 0 = λ r. AreOfRegion r entries roots in
      let R : List Run → Type 0 = AreOfRegion (entry_of entries first.entry).region entries in
      let found = of_main regions entries first later main there (subst P is are) in
      (found.0, subst Q region (subst R (sym is) found.1))

-- ---- no entry is left over

all_set : (marks : List Bool) → are_all marks ≡ true → (n : ℕ) → n < length marks → get_or marks n false ≡ true
all_set [] h n less = absurd (omega arith)
all_set (m ∷ marks) h zero less = (and_parts m (are_all marks) h).0
all_set (m ∷ marks) h (suc n) less = all_set marks (and_parts m (are_all marks) h).1 n (omega arith)

set_all : (marks : List Bool) → ((n : ℕ) → n < length marks → get_or marks n false ≡ true) → are_all marks ≡ true
set_all [] each = refl
set_all (m ∷ marks) each = and_from m (are_all marks) (each 0 (omega arith)) (set_all marks (λ n less. each (suc n) (omega arith)))

module _ (entries : List Entry) (roots : List Run) (earlier : NameEarlier entries) (below : NameBelow (length entries) roots) where
  abbrev none : List Bool
  none = replicate (length entries) false

  abbrev all : List Bool
  all = marked (marked_all none entries) roots

  count : length (marked_all none entries) ≡ length entries
  count = length-marked_all none entries ∙ length-replicate (length entries) false

  roots_below : NameBelow (length (marked_all none entries)) roots
  roots_below = let P : ℕ → Type 0 = λ n. NameBelow n roots in subst P (sym count) below

  pub roots_below_none : NameBelow (length none) roots
  roots_below_none = let P : ℕ → Type 0 = λ n. NameBelow n roots in subst P (sym (length-replicate (length entries) false)) below

  length-all : length all ≡ length entries
  length-all = length-kept (marked_all none entries) roots ∙ count
    where
      length-kept : (marks : List Bool) (runs : List Run) → length (marked marks runs) ≡ length marks
      length-kept marks runs = length-marked marks runs

  unmarked : (n : ℕ) → n < length entries → get_or none n false ≡ true → ⊥
  unmarked n less h = false≢true (sym (get_or-replicate (length entries) n false false less) ∙ h)

  -- the marks tell whether no entry is left over
  pub marks_tell : (are_all all ≡ true → NoneIsLeft entries roots) × (NoneIsLeft entries roots → are_all all ≡ true)
  marks_tell = (
    λ h n less. elim ((marked_set (marked_all none entries) roots n roots_below).0 (all_set all h n (let e = length-all in omega arith))) [
      | inl named ↦ elim ((marked_all_set none entries n (below_marks entries earlier)).0 named) [
        | inl set ↦ absurd (unmarked n less set)
        | inr here ↦ inl here
      ]
      | inr root ↦ inr root
    ],
    λ left. set_all all (λ n less. let e = length-all in (marked_set (marked_all none entries) roots n roots_below).1 (elim (left n (omega arith)) [
      | inl named ↦ inl ((marked_all_set none entries n (below_marks entries earlier)).1 (inr named))
      | inr root ↦ inr root
    ])),
  )

-- ---- the rules of roots

module _ (runs : ℕ) (regions : List Region) (entries : List Entry) (roots : List Run) (sums : Sums) (some : 1 ≤ runs) (most : runs ≤ 4294967295)
    (below : NameBelow (length entries) roots) (is : sums ≡ sums_from entries (extents_of entries) no_sums roots) where
  works_are : sums.works ≡ capped (child_works entries roots)
  works_are =
      ap (λ (s : Sums). s.works) is
      ∙ (sums_are entries (extents_of entries) no_sums roots (record { works = omega arith; paths = omega arith; instances = omega arith })).works
      ∙ ap capped (zero-add (child_works entries roots))

  instances_are : sums.instances ≡ capped (size (laid (trees_of entries) roots))
  instances_are =
      let P : ℕ → Type 0 = λ n. NameBelow n roots in
      ap (λ (s : Sums). s.instances) is
      ∙ (sums_are entries (extents_of entries) no_sums roots (record { works = omega arith; paths = omega arith; instances = omega arith })).instances
      ∙ ap capped (zero-add (child_instances (extents_of entries) roots) ∙ sym (size-laid (trees_of entries) roots (subst P (sym (length-trees entries)) below)))

  -- there are some
  pub some_roots : capped (total roots) ≡ runs → 0 < total roots
  some_roots count = let low = some in omega arith

  -- what the tests say
  pub roots_are : AreWithin runs (length entries) sums roots → AreOfMain regions entries roots
      → NoneIsLeft entries roots → AreRoots runs regions entries roots
  roots_are within main left =
      let works = works_are in let instances = instances_are in let count = within.1 in let few = within.2 in let small = within.3 in let low = most in
      record { rise = within.0; main = main; count = omega arith; work = omega arith; instances = omega arith; none_left = left }

  pub are_within : AreRoots runs regions entries roots
      → AreWithin runs (length entries) sums roots
  are_within are =
      let works = works_are in let instances = instances_are in let count = are.count in let few = are.work in let small = are.instances in let low = most in
      (are.rise, omega arith, omega arith, omega arith)

  -- what is left to ask
  pub roots_hold : {E : Type 0} (r : Result Bool E) → AreWithin runs (length entries) sums roots × AreOfMain regions entries roots → IfOk r (λ t. IsTrue t ↔ NoneIsLeft entries roots)
      → IfOk r (λ t. IsTrue t ↔ AreRoots runs regions entries roots)
  roots_hold (Ok t) here tells = (λ h. roots_are here.0 here.1 (tells.0 h), λ are. tells.1 are.none_left)
  roots_hold (Err e) here tells = tells

-- ---- the line

module _ (runs : ℕ) (regions : List Region) (entries : List Entry) (text : List ℕ) (most : runs ≤ 4294967295) (few : length entries ≤ 1048576) where
  -- no line of roots begins there
  pub no_word : word_at (codes "roots") text ≡ None → FoundRoots runs regions entries text (Err stops.Wrong)
  no_word none roots later are is =
      none-some (flat_map run_text roots ++ 10 ∷ later)
      (sym none ∙ ap (word_at (codes "roots")) (is ∙ roots_parts roots later) ∙ word_again (codes "roots") (flat_map run_text roots ++ 10 ∷ later))

  module _ (behind : List ℕ) (word : word_at (codes "roots") text ≡ Some behind) where
    again : (roots : List Run) (later : List ℕ) → AreRoots runs regions entries roots → text ≡ roots_text roots ++ later → runs_at (length entries) 1048576 behind ≡ Some (roots, later)
    again roots later are is =
        let tail : behind ≡ flat_map run_text roots ++ 10 ∷ later =
        same_Some behind (flat_map run_text roots ++ 10 ∷ later)
        (sym word ∙ ap (word_at (codes "roots")) (is ∙ roots_parts roots later) ∙ word_again (codes "roots") (flat_map run_text roots ++ 10 ∷ later)) in
        let short = few_bound 0 (length entries) roots (omega arith) are.rise in
        let count = are.count in let low = few in let least = most in
        ap (runs_at (length entries) 1048576) tail
        ∙ runs_again (length entries) 1048576 roots later (omega arith) (below_bound 0 (length entries) roots are.rise) (omega arith) (small_counts roots (omega arith))

    -- what a refusal to read them says
    pub refused_runs : {X : Type 0} (view : X → List Run × List ℕ) (high : ℕ) (stop : Stop) → high ≡ length entries → Gives view (Err stop) (runs_at high 1048576 behind)
        → FoundRoots runs regions entries text (Err stop)
    refused_runs view high stops.Wrong same unread = λ roots later are is.
        none-some (roots, later) (sym unread ∙ ap (λ n. runs_at n 1048576 behind) same ∙ again roots later are is)
    refused_runs view high stops.Memory same unread = tt

    module _ (roots : List Run) (rest : List ℕ) (high : ℕ) (same : high ≡ length entries) (read : runs_at high 1048576 behind ≡ Some (roots, rest)) where
      -- runs that were read name entries
      pub roots_named : NameBelow (length entries) roots
      roots_named = let P : ℕ → Type 0 = λ n. NameBelow n roots in subst P same (runs_takes high 1048576 behind roots rest read).below

      -- runs that are no roots
      pub wrong_roots : (AreRoots runs regions entries roots → ⊥) → FoundRoots runs regions entries text (Err stops.Wrong)
      wrong_roots wrong others later are is =
          let pair = same_Some (roots, rest) (others, later) (sym read ∙ ap (λ n. runs_at n 1048576 behind) same ∙ again others later are is) in
          let P : List Run → Type 0 = AreRoots runs regions entries in
          wrong (subst P (sym (ap (λ p. p.0) pair)) are)

      -- the line
      pub right_roots : (work : ℕ) → AreRoots runs regions entries roots → work ≡ child_works entries roots → FoundRoots runs regions entries text (Ok (roots, work, rest))
      right_roots work are work_is =
          (are, word_takes (codes "roots") text behind word ∙ ap (λ l. codes "roots" ++ l) (runs_takes high 1048576 behind roots rest read).spelled ∙ sym (roots_parts roots rest), work_is)

  -- the works of roots are no more than 64 bits hold
  pub work_is : (roots : List Run) (sums : Sums) → NameBelow (length entries) roots → sums ≡ sums_from entries (extents_of entries) no_sums roots → AreRoots runs regions entries roots
      → sums.works ≡ child_works entries roots
  work_is roots sums below is are =
      let works =
      ap (λ (s : Sums). s.works) is
      ∙ (sums_are entries (extents_of entries) no_sums roots (record { works = omega arith; paths = omega arith; instances = omega arith })).works
      ∙ ap capped (zero-add (child_works entries roots)) in
      let few_work = are.work in omega arith
