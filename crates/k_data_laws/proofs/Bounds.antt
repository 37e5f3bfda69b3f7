-- Each number of the rows, the contexts, the plan and the dictionary of a saved profile is one of 64 bits.
use Rattle.std.proofs.Common.{◌≡◌, ℕ, zero, suc, ◌+◌, ◌-◌, ◌/◌, ◌%◌, ◌^◌, ◌<◌, ◌≤◌, ◌==◌, inl, inr, Bool, true, false, List, [], ◌∷◌, ◌++◌, All, length, length-append, get_or, Option, Some, None, IfSome, slice_get, refl, sym, ◌∙◌, subst, arith, if◌then◌else◌}
use Rattle.std.specs.Int.{IsGcd}
use Rattle.std.proofs.Math.Nat.{mod-lt}
use Rattle.std.proofs.lemmas.List.Elements.{All-append, All-cons, All-nil}
use Rattle.std.proofs.lemmas.List.Sums.{get_or-le-sum_by}
use Rattle.std.proofs.lemmas.Nat.Gcd.{IsGcd-from_mod, IsGcd-from_zero}
use Rattle.std.proofs.lemmas.Option.{slice_get-get_or, slice_get_within}
use Rattle.k_optab.specs.Meaning.{serial_of}
use Rattle.k_optab.specs.declared.region.Region.{Region}
use Rattle.k_dict_entries.specs.Entries.{AreRuns, laid, tree_at, trees_of, tree_of}
use Rattle.k_dict_entries.specs.Tallies.{total as count_all}
use Rattle.k_dict_entries.specs.Trees.{Forest, Label, Tree, alone, bare, grown, size}
use Rattle.k_dict_entries.specs.declared.entry.Entry.{Entry}
use Rattle.k_dict_entries.specs.declared.entry.Run.{Run}
use Rattle.k_dict_entries.proofs.EntryTrees.{tree_is}
use Rattle.k_dict_entries.proofs.Lists.{same_tree}
use Rattle.k_dict_saved.specs.Profile.{IsSaved}
use Rattle.k_dict_saved.specs.declared.saved.Saved.{Saved}
use Rattle.k_selfpar.specs.Contexts.{AreContexts, AreUnder, IsContext, chosen, count_in, group, has_turns, inner_forest, none, others, root_work, with_beside}
use Rattle.k_selfpar.specs.Ratio.{IsRatio}
use Rattle.k_selfpar.specs.Rows.{AreRows, IsRow}
use Rattle.k_selfpar.specs.Sums.{one, outer, outer_paths, outer_works, path, serial_in, sum_of, within, work, work_at}
use Rattle.k_selfpar.specs.declared.context.Context.{Context}
use Rattle.k_selfpar.specs.declared.row.Row.{Row}
use Rattle.k_selfpar.proofs.Besides.{works-beside}
use Rattle.k_selfpar.proofs.Listed.{instances_are, paths_are, serials_are, works_are}
use Rattle.k_selfpar.proofs.Lowest.{one_ratio, quotients_fraction, quotients_ratio}
use Rattle.k_selfpar.proofs.Profile.{Bounded, bounded_tree, instances_few, paths_at_most_works, paths_few, serial_at_most, serial_few, work_small, works_few}
use Rattle.k_selfpar.proofs.Standing.{count-laid}
use Rattle.k_selfpar.proofs.Under.{bounded_children, bounded_chosen, bounded_others}
use Rattle.k_plan.specs.Plan.{CanPlan, IsAdvice}
use Rattle.k_plan.specs.Saving.{standard_limits}
use Rattle.k_plan.specs.declared.advice.Advice.{Advice}
use Rattle.k_plan.specs.declared.advice.Pick.{Pick}
use Rattle.k_plan.proofs.Advised.{advice_adds_up, advice_names_contexts, advice_within}
use Rattle.k_report_profile.specs.Report.{IsPlanned, asked, nodes_of_profile}
use Rattle.k_report_profile.proofs.Reported.{root_is, saved_contexts, saved_plan, saved_rows}
use Rattle.k_data_profile.specs.Shown.{listed}
use Rattle.k_data_laws.proofs.Within.{AreSmallSums, IsSmallAdvice, IsSmallContext, IsSmallEntry, IsSmallRow, IsSmallRun}

-- ---- ratios

-- two numbers have a greatest common divisor
has_gcd : (fuel a b : ℕ) → b < fuel → (g : ℕ) × IsGcd a b g
has_gcd zero a b lt = absurd (omega arith)
has_gcd (suc fuel) a zero lt = (a, IsGcd-from_zero a 0 refl)
has_gcd (suc fuel) a (suc b) lt =
    let less : a % suc b < suc b = mod-lt a (omega arith) in
    let r = has_gcd fuel (suc b) (a % suc b) (omega arith) in (r.0, IsGcd-from_mod a (suc b) r.0 r.1)

wider : (n : ℕ) → n < 2 ^ 62 → n < 2 ^ 64
wider n lt = omega (arith, lt)

-- the parts of a ratio of small numbers are small
ratio_small : (a b num den : ℕ) → a < 2 ^ 62 → b < 2 ^ 62 → IsRatio a b num den → (num < 2 ^ 64) × (den < 2 ^ 64)
ratio_small a b num den a_small b_small (inl h) = (omega (arith, h.1), omega (arith, h.2))
ratio_small a b num den a_small b_small (inr h) =
    let g = has_gcd (suc b) a b (omega arith) in
    let fits = quotients_fraction a b g.0 h.0 a_small b_small g.1 in
    let same = one_ratio a b num den (a / g.0) (b / g.0) (inr h) (quotients_ratio a b g.0 h.0 g.1) in
    (subst (λ n. n < 2 ^ 64) (sym same.0) (wider (a / g.0) fits.num_fits), subst (λ n. n < 2 ^ 64) (sym same.1) (wider (b / g.0) fits.den_fits))

small_sums : (instances work path serial : ℕ) (sp : ℕ × ℕ) → instances < 2 ^ 62 → work < 2 ^ 62 → path < 2 ^ 62 → serial < 2 ^ 62 → IsRatio serial path sp.0 sp.1
    → AreSmallSums instances work path sp
small_sums instances work path serial sp i w p s ratio =
    let parts = ratio_small serial path sp.0 sp.1 s p ratio in
    record { count_is = wider instances i; work_is = wider work w; path_is = wider path p; num_is = parts.0; den_is = parts.1 }

-- ---- rows

-- what the instances of one region give is part of what all give
within_part : (own : Label → Forest → ℕ) (region : ℕ) (f : Forest) → sum_of (within region own) f ≤ sum_of own f
within_part own region bare = omega arith
within_part own region (grown label inner later) =
    let here : within region own label inner ≤ own label inner = by (label.region == region) in
    let a = within_part own region inner in let b = within_part own region later in omega arith
  where
    by : (b : Bool) → (if b then own label inner else 0) ≤ own label inner
    by true = omega arith
    by false = omega arith

module _ (saved : Saved) (is : IsSaved saved) where
  root : Tree
  root = tree_at saved.dict (length saved.dict - 1)

  small_row : (row : Row) → IsRow (nodes_of_profile saved) row → row.region < length saved.regions → IsSmallRow row
  small_row row of lt = record { region = (let few = is.regions.few in omega (arith, few, lt)); sums = sums }
    where
      t : Tree
      t = tree_at saved.dict (length saved.dict - 1)

      small : (own : Label → Forest → ℕ) (n : ℕ) → n ≡ sum_of (within row.region own) (alone t) → sum_of own (alone t) ≤ 2 ^ 59 → n < 2 ^ 62
      small own n e le = let part = within_part own row.region (alone t) in omega (arith, e, le, part)

      lower : (n : ℕ) → n ≤ 2 ^ 49 → n ≤ 2 ^ 59
      lower n le = omega (arith, le)

      there : length saved.dict - 1 < length saved.dict
      there = root_is saved is

      sums : AreSmallSums row.instances row.work row.path row.sp
      sums =
          small_sums row.instances row.work row.path (serial_of row.region (nodes_of_profile saved)) row.sp
          (small one row.instances (of.instances ∙ instances_are row.region t) (instances_few saved.dict is.profile (length saved.dict - 1) there))
          (small work row.work (of.work ∙ works_are row.region t) (lower _ (works_few saved.dict is.profile (length saved.dict - 1) there)))
          (small path row.path (of.path ∙ paths_are row.region t) (lower _ (paths_few saved.dict is.profile (length saved.dict - 1) there)))
          (small serial_in (serial_of row.region (nodes_of_profile saved)) (serials_are row.region t) (lower _ (serial_few saved.dict is.profile (length saved.dict - 1) there)))
          (subst (λ x. IsRatio (serial_of row.region (nodes_of_profile saved)) x row.sp.0 row.sp.1) (sym of.path) of.sp)

  -- each number of the rows is small
  pub small_rows : (rows : List Row) → AreRows (nodes_of_profile saved) rows → All IsSmallRow rows
  small_rows rows are =
      λ i d lt. small_row (get_or rows i d) (are.each i (get_or rows i d) (slice_get-get_or rows i d lt)) (saved_rows saved is rows are i d lt)

-- ---- contexts

outer_chosen : (own : Label → Forest → ℕ) (region : ℕ) (f : Forest) → outer own (chosen region f) ≤ outer own f
outer_chosen own region bare = omega arith
outer_chosen own region (grown x i l) = by (x.region == region) (chosen region l) (outer_chosen own region l)
  where
    by : (b : Bool) (c : Forest) → outer own c ≤ outer own l → outer own (if b then grown x i c else c) ≤ own x i + outer own l
    by true c le = omega (arith, le)
    by false c le = omega (arith, le)

outer_others : (own : Label → Forest → ℕ) (region : ℕ) (f : Forest) → outer own (others region f) ≤ outer own f
outer_others own region bare = omega arith
outer_others own region (grown x i l) = by (x.region == region) (others region l) (outer_others own region l)
  where
    by : (b : Bool) (c : Forest) → outer own c ≤ outer own l → outer own (if b then c else grown x i c) ≤ own x i + outer own l
    by true c le = omega (arith, le)
    by false c le = omega (arith, le)

-- how many instances there are with an outermost one
abbrev sizes : Label → Forest → ℕ
sizes label inner = 1 + size inner

size_is : (f : Forest) → size f ≡ outer sizes f
size_is bare = refl
size_is (grown x i l) = let rest = size_is l in omega (arith, rest)

size_beside : (f g : Forest) → size (with_beside f g) ≡ size f + size g
size_beside bare g = omega arith
size_beside (grown x i l) g = let rest = size_beside l g in omega (arith, rest)

size_inner : (f : Forest) → size (inner_forest f) ≤ size f
size_inner bare = omega arith
size_inner (grown x i l) = let rest = size_inner l in let e = size_beside i (inner_forest l) in omega (arith, rest, e)

works_inner : (f : Forest) → Bounded f → outer_works (inner_forest f) ≤ outer_works f
works_inner bare bounded = omega arith
works_inner (grown x i l) bounded =
    let e = works-beside i (inner_forest l) in let here : outer_works i ≤ x.work = bounded.0.part in let rest = works_inner l bounded.2 in omega arith

serials_at_most_works : (f : Forest) → Bounded f → outer serial_in f ≤ outer_works f
serials_at_most_works bare bounded = omega arith
serials_at_most_works (grown x i l) bounded =
    let here : serial_in x i ≤ x.work = serial_at_most (outer_paths i) (outer_works i) x.work bounded.0.part (paths_at_most_works i bounded.1) in
    let rest = serials_at_most_works l bounded.2 in omega arith

ones_at_most_size : (f : Forest) → outer one f ≤ size f
ones_at_most_size bare = omega arith
ones_at_most_size (grown x i l) = let rest = ones_at_most_size l in omega arith

-- instances that are few and come to little
record IsLittle (f : Forest) : Type 0 where
  bounded : Bounded f
  works : outer_works f ≤ 2 ^ 44
  few : size f ≤ 2 ^ 59

little_chosen : (region : ℕ) (f : Forest) → IsLittle f → IsLittle (chosen region f)
little_chosen region f little = record {
  bounded = bounded_chosen region f little.bounded;
  works = (let le = little.works in let part = outer_chosen work region f in omega (arith, le, part));
  few = (let le = little.few in let part = outer_chosen sizes region f in let e = size_is f in let d = size_is (chosen region f) in omega (arith, le, part, e, d));
}

little_others : (region : ℕ) (f : Forest) → IsLittle f → IsLittle (others region f)
little_others region f little = record {
  bounded = bounded_others region f little.bounded;
  works = (let le = little.works in let part = outer_others work region f in omega (arith, le, part));
  few = (let le = little.few in let part = outer_others sizes region f in let e = size_is f in let d = size_is (others region f) in omega (arith, le, part, e, d));
}

little_inner : (f : Forest) → IsLittle f → IsLittle (inner_forest f)
little_inner f little = record {
  bounded = bounded_children f little.bounded;
  works = (let le = little.works in let part = works_inner f little.bounded in omega (arith, le, part));
  few = (let le = little.few in let part = size_inner f in omega (arith, le, part));
}

turns_at_most : (b : Bool) (n turns : ℕ) → turns ≡ (if b then n else 0) → turns ≤ n
turns_at_most true n turns e = omega (arith, e)
turns_at_most false n turns e = omega (arith, e)

small_context : (regions : List Region) (parent region : ℕ) (f : Forest) (c : Context) → IsLittle f → IsContext regions parent region f c → parent ≤ 65536
    → c.region < 2 ^ 64 → IsSmallContext c
small_context regions parent region f c little of parent_small region_small = record {
  parent = (let e = of.parent_is in omega (arith, e, parent_small));
  region = region_small;
  turns = turns;
  sums = small_sums c.instances c.work c.path (outer serial_in f) c.sp instances works paths serials
      (subst (λ x. IsRatio (outer serial_in f) x c.sp.0 c.sp.1) (sym of.path) of.sp);
}
  where
    turns : c.turns < 2 ^ 64
    turns =
        let a = turns_at_most (has_turns regions region) (count_in (region + 1) (inner_forest f)) c.turns of.turns in
        let b = outer_chosen one (region + 1) (inner_forest f) in
        let d = ones_at_most_size (inner_forest f) in
        let e = size_inner f in
        let few = little.few in
        omega (arith, a, b, d, e, few)

    instances : c.instances < 2 ^ 62
    instances = let e = of.instances in let a = ones_at_most_size f in let few = little.few in omega (arith, e, a, few)

    works : c.work < 2 ^ 62
    works = let e = of.work in let le = little.works in omega (arith, e, le)

    paths : c.path < 2 ^ 62
    paths = let e = of.path in let a = paths_at_most_works f little.bounded in let le = little.works in omega (arith, e, a, le)

    serials : outer serial_in f < 2 ^ 62
    serials = let a = serials_at_most_works f little.bounded in let le = little.works in omega (arith, a, le)

-- a context whose region is a small number has small numbers
abbrev IsSmallWhereRegionIs : Context → Type 0
IsSmallWhereRegionIs c = c.region < 2 ^ 64 → IsSmallContext c

under_small : (regions : List Region) (parent number : ℕ) (f : Forest) (cs : List Context) → AreUnder regions parent number f cs → IsLittle f
    → parent ≤ 65536 → number + length cs ≤ 65537 → All IsSmallWhereRegionIs cs
under_small regions parent number _ _ (none _ _ _) little p n = All-nil IsSmallWhereRegionIs
under_small regions parent number f _ (group _ _ _ region _ c below later some least is under behind) little p n =
    let here : IsLittle (chosen region f) = little_chosen region f little in
    let count : length (below ++ later) ≡ length below + length later = length-append below later in
    All-cons IsSmallWhereRegionIs c (below ++ later) (small_context regions parent region (chosen region f) c here is p)
    (All-append IsSmallWhereRegionIs below later
    (under_small regions number (number + 1) (inner_forest (chosen region f)) below under (little_inner (chosen region f) here) (omega (arith, n)) (omega (arith, n, count)))
    (under_small regions parent ((number + 1) + length below) (others region f) later behind (little_others region f little) p (omega (arith, n, count))))

-- ---- runs

small_runs : (low high : ℕ) (runs : List Run) → AreRuns low high runs → high ≤ 1048576 → count_all runs ≤ 2 ^ 59 → All IsSmallRun runs
small_runs low high [] are few counts = All-nil IsSmallRun
small_runs low high (run ∷ runs) are few counts =
    All-cons IsSmallRun run runs (record { entry = (let lt = are.1 in omega (arith, lt, few)); count = omega (arith, counts) })
    (small_runs (run.entry + 1) high runs are.3 few (omega (arith, counts)))

-- ---- contexts, plan and dictionary of a profile

module _ (saved : Saved) (is : IsSaved saved) where
  little_root : IsLittle (alone (tree_at saved.dict (length saved.dict - 1)))
  little_root =
      let there = root_is saved is in
      record {
        bounded = bounded_tree saved.dict is.profile.interned.earlier is.profile.numbers (length saved.dict - 1) there;
        works = (let le : work_at saved.dict (length saved.dict - 1) ≤ 2 ^ 44 = work_small saved.dict is.profile (length saved.dict - 1) there in omega (arith, le));
        few = (let le : size (alone (tree_at saved.dict (length saved.dict - 1))) ≤ 576460752303423488 = is.profile.instances (length saved.dict - 1) there in omega (arith, le));
      }

  small_contexts : (contexts : List Context) → AreContexts saved.regions (nodes_of_profile saved) contexts → length contexts ≤ 65536 → All IsSmallContext contexts
  small_contexts contexts are few =
      let root : Tree = tree_at saved.dict (length saved.dict - 1) in
      let same : are.0 ≡ root = same_tree are.0 root (sym are.1) in
      let under : AreUnder saved.regions 0 0 (alone root) contexts = subst (λ t. AreUnder saved.regions 0 0 (alone t) contexts) same are.2 in
      let each = under_small saved.regions 0 0 (alone root) contexts under little_root (omega arith) (omega (arith, few)) in
      let regions : length saved.regions ≤ 524288 = is.regions.few in
      λ i d lt. each i d lt (below regions (saved_contexts saved is contexts are i d lt))
    where
      below : {n m : ℕ} → n ≤ 524288 → m < n → m < 2 ^ 64
      below a b = omega (arith, a, b)

  -- each number of the contexts that are listed is small
  pub small_listed : (contexts : List Context) (plan : Option Advice) → AreContexts saved.regions (nodes_of_profile saved) contexts → IsPlanned contexts plan
      → All IsSmallContext (listed contexts plan)
  small_listed contexts None are planned = All-nil IsSmallContext
  small_listed contexts (Some advice) are planned = small_contexts contexts are planned.0

  root_small : (contexts : List Context) → CanPlan contexts → root_work contexts < 2 ^ 50
  root_small [] can = omega arith
  root_small (root ∷ contexts) can = can.small 0 root refl

  small_advice : (contexts : List Context) (advice : Advice) → CanPlan contexts → IsAdvice standard_limits contexts advice → IsSmallAdvice advice
  small_advice contexts advice can of =
      let most : advice.total ≤ root_work contexts = advice_within standard_limits contexts advice can of in
      let few : length contexts ≤ 65536 = can.few in
      let total : advice.total < 2 ^ 50 = (let lt = root_small contexts can in omega (arith, most, lt)) in
      record {
        picks = λ i d lt. record {
          context = below few (advice_names_contexts standard_limits contexts advice of i d lt);
          saves = part (advice_adds_up standard_limits contexts advice of) total (get_or-le-sum_by (λ (pick : Pick). pick.saves) advice.picks i d lt);
        };
        total = omega (arith, total);
      }
    where
      below : {n m : ℕ} → n ≤ 65536 → m < n → m < 2 ^ 64
      below a b = omega (arith, a, b)

      part : {sum total m : ℕ} → total ≡ sum → total < 2 ^ 50 → m ≤ sum → m < 2 ^ 64
      part e lt le = omega (arith, e, lt, le)

  -- each number of the plan is
  pub small_plan : (contexts : List Context) (plan : Option Advice) → AreContexts saved.regions (nodes_of_profile saved) contexts → IsPlanned contexts plan
      → IfSome plan IsSmallAdvice
  small_plan contexts None are planned = tt
  small_plan contexts (Some advice) are planned = small_advice contexts advice (saved_plan saved is contexts are planned.0) planned.1

  small_entry : (n : ℕ) (e : Entry) → slice_get saved.dict n ≡ Some e → IsSmallEntry e
  small_entry n e at = record {
    region = (let lt = is.in_list n e at in let few = is.regions.few in omega (arith, lt, few));
    work = (let most = (is.profile.numbers n e at).most in omega (arith, most));
    path = (let most = (is.profile.numbers n e at).most in let le = (is.profile.numbers n e at).work in omega (arith, most, le));
    runs = small_runs 0 n e.runs runs (let few = is.profile.interned.few in omega (arith, few, there)) counts;
  }
    where
      there : n < length saved.dict
      there = slice_get_within saved.dict n e at

      runs : AreRuns 0 n e.runs
      runs = is.profile.interned.earlier n e at

      counts : count_all e.runs ≤ 2 ^ 59
      counts =
          let whole : size (alone (tree_of (trees_of saved.dict) e)) ≤ 576460752303423488 =
          subst (λ (t : Tree). size (alone t) ≤ 576460752303423488) (tree_is saved.dict n e at runs) (is.profile.instances n there) in
          let a = ones_at_most_size (laid (trees_of saved.dict) e.runs) in
          let b = count-laid (trees_of saved.dict) e.runs in
          omega (arith, whole, a, b)

  -- and each of the dictionary, where it is asked for
  pub small_dict : (with_dict : Bool) → IfSome (asked with_dict saved.dict) (All IsSmallEntry)
  small_dict false = tt
  small_dict true = λ n d lt. small_entry n (get_or saved.dict n d) (slice_get-get_or saved.dict n d lt)
