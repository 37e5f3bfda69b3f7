-- What a run leaves can be saved, and its report is that of its profile.
use Rattle.std.proofs.Common.{◌≡◌, ℕ, ℤ, ◌+◌, ◌-◌, ◌<◌, ◌≤◌, max, Bool, List, [], ◌∷◌, ◌++◌, length, length-append, append-nil, append_assoc, Option, Some, None, slice_get, refl, sym, ap, ◌∙◌, subst, arith}
use Rattle.std.specs.Prelude.{FitsSigned, IfOk, Result, Ok, Err}
use Rattle.std.specs.Int.{w32}
use Rattle.std.proofs.lemmas.Option.{slice_get_within}
use Rattle.k_optab.specs.declared.event.Event.{Event}
use Rattle.k_optab.specs.declared.event.Event.TheVariants.{Enter, Exit}
use Rattle.k_optab.specs.declared.node.Node.{Node}
use Rattle.k_optab.specs.Events.{operations, total_latency}
use Rattle.k_optab.specs.Instances.{Balanced, instance, nothing, tracked}
use Rattle.k_optab.specs.Meaning.{HaveBoundedPaths}
use Rattle.k_optab.specs.Tree.{EachWith, IsNodeOf, IsTree}
use Rattle.k_optab.proofs.Trees.{trees_have_bounded_paths}
use Rattle.k_dict_entries.specs.Dictionary.{IsDictionary, IsDictionaryOf, refusal}
use Rattle.k_dict_entries.specs.Entries.{AreInterned, expansion, label_of}
use Rattle.k_dict_entries.specs.Laws.{AreAlike}
use Rattle.k_dict_entries.specs.Rules.{NameRegions, entry_of}
use Rattle.k_dict_entries.specs.Trees.{Forest, GoDeeper, IsInOrder, Tree, alone, bare, grown, height, list_of, nodes_of, size}
use Rattle.k_dict_entries.specs.declared.dict.Which.{Which}
use Rattle.k_dict_entries.specs.declared.entry.Entry.{Entry}
use Rattle.k_dict_entries.proofs.Lists.{same_tree}
use Rattle.k_dict_entries.proofs.Unique.{alike_turned, dictionary_expands, root_is}
use Rattle.k_dict_saved.specs.Files.{AreRegions}
use Rattle.k_dict_saved.specs.Lines.{EndsInMain}
use Rattle.k_dict_saved.specs.Profile.{IsSaved}
use Rattle.k_dict_saved.specs.declared.saved.Saved.{Saved}
use Rattle.k_dict_saved.proofs.Migrated.{all_named}
use Rattle.k_selfpar.specs.Contexts.{AreContexts}
use Rattle.k_selfpar.proofs.Siblings.{contexts_forget_order, rows_forget_order}
use Rattle.k_report.specs.declared.heading.Heading.TheVariants.{Exit}
use Rattle.k_report.specs.Report.{large_text, report_text}
use Rattle.k_report_profile.specs.Report.{IsReport, IsReportOf, asked, nodes_of_profile}
use Rattle.k_optab.specs.Entered.{EnterBelow}
use Rattle.k_report_profile.specs.RunReport.{IsProfileOf, IsRunReport, IsWhole, Ran, large, ops_of, whole}
use Rattle.k_profile_trees.proofs.Children.{HaveBounds, tree_has_bounds}
use Rattle.k_profile_trees.proofs.Labels.{label_is}
use Rattle.k_profile_trees.proofs.Grown.{AreWithin, IsGrown, enter_split, grown_of}
use Rattle.k_profile_trees.proofs.Rules.{are_profile, name_regions}
use Rattle.k_profile_trees.proofs.Within.{interned_of}

-- what two clauses say of a value
pub both_ok : {X Y : Type 0} (r : Result X Y) (P Q R : X → Type 0) → ((x : X) → P x → Q x → R x) → IfOk r P → IfOk r Q → IfOk r R
both_ok (Ok x) P Q R f p q = f x p q
both_ok (Err e) P Q R f p q = tt

-- works that are at most a number are at most a greater one
within_more : (count most more : ℕ) (f : Forest) → most ≤ more → AreWithin count most f → AreWithin count more f
within_more count most more bare le within = tt
within_more count most more (grown x i l) le within =
    let here : x.work ≤ most = within.1 in
    (within.0, omega arith, within_more count most more i le within.2, within_more count most more l le within.3)

-- the nodes of a forest, and others behind them, go deeper by one level at most
go_deeper : (f : Forest) (depth before : ℕ) (tail : List Node) → 1 ≤ depth → depth ≤ before + 1 → ((last : ℕ) → depth ≤ last + 1 → GoDeeper last tail)
    → GoDeeper before (nodes_of depth f ++ tail)
go_deeper bare depth before tail low high rest = rest before high
go_deeper (grown x i l) depth before tail low high rest = (
  low,
  high,
  subst (λ k. GoDeeper depth k) (sym (append_assoc (nodes_of (depth + 1) i) (nodes_of depth l) tail))
      (go_deeper i (depth + 1) depth (nodes_of depth l ++ tail) (omega arith) (omega arith)
      (λ last le. go_deeper l depth last tail low (omega arith) rest)),
)

-- the list of a tree is in order of entry
in_order : (t : Tree) → IsInOrder (list_of t)
in_order t = (refl, go_deeper t.inner 1 0 [] (omega arith) (omega arith) (λ last le. tt))

nodes_length : (depth : ℕ) (f : Forest) → length (nodes_of depth f) ≡ size f
nodes_length depth bare = refl
nodes_length depth (grown x i l) =
    let all : length (nodes_of (depth + 1) i ++ nodes_of depth l) ≡ length (nodes_of (depth + 1) i) + length (nodes_of depth l) =
    length-append (nodes_of (depth + 1) i) (nodes_of depth l) in
    let inner : length (nodes_of (depth + 1) i) ≡ size i = nodes_length (depth + 1) i in
    let later : length (nodes_of depth l) ≡ size l = nodes_length depth l in
    omega arith

module _ (ran : Ran) (is_whole : IsWhole ran) (nodes : List Node) (tree : IsTree ran.depth ran.events nodes) where
  its : IsGrown (length ran.regions) (total_latency (operations ran.events)) ran.depth is_whole.main.number nodes
  its =
      let number : ℕ = is_whole.main.number in
      let inside : List Event = is_whole.main.inside in
      let some : 1 ≤ ran.depth = is_whole.some in
      let named : EnterBelow (length ran.regions) (Enter number ∷ (inside ++ Exit ∷ [])) =
      subst (λ l. EnterBelow (length ran.regions) l) is_whole.main.whole is_whole.entered in
      let each : EachWith (IsNodeOf (operations ran.events)) (tracked ran.depth (Enter number ∷ (inside ++ Exit ∷ []))) nodes =
      subst (λ l. EachWith (IsNodeOf (operations ran.events)) (tracked ran.depth l) nodes) is_whole.main.whole tree in
      grown_of (operations ran.events) (length ran.regions) ran.depth number inside (omega arith) is_whole.main.balanced
      (slice_get_within ran.regions number is_whole.main.main is_whole.main.there) (enter_split (length ran.regions) inside (Exit ∷ []) named.1).0 nodes each

  balanced : Balanced ran.events
  balanced =
      subst Balanced (sym is_whole.main.whole) (instance is_whole.main.number is_whole.main.inside [] is_whole.main.balanced nothing)

  bounds : HaveBounds (alone its.tree)
  bounds =
      tree_has_bounds its.tree
      (subst HaveBoundedPaths its.is (trees_have_bounded_paths ran.depth ran.events nodes balanced is_whole.sources tree))

  within : AreWithin (length ran.regions) 17592186044416 (alone its.tree)
  within = within_more (length ran.regions) (total_latency (operations ran.events)) 17592186044416 (alone its.tree) is_whole.work its.within

  -- a run's nodes are in order of entry
  pub run_in_order : IsInOrder nodes
  run_in_order = subst IsInOrder (sym its.is) (in_order its.tree)

  module _ (saved : Saved) (is : IsProfileOf ran nodes saved) where
    dict : IsDictionaryOf its.tree saved.dict
    dict =
        let same : is.dict.0 ≡ its.tree = same_tree is.dict.0 its.tree (sym is.dict.1 ∙ its.is) in
        subst (λ t. IsDictionaryOf t saved.dict) same is.dict.2

    interned : AreInterned saved.dict
    interned = interned_of its.tree saved.dict dict is.within

    main : EndsInMain saved.regions saved.dict
    main =
        let root = root_is its.tree saved.dict dict in
        let last : length saved.dict ≡ root.0 + 1 = root.1 in
        let label : its.tree.label ≡ label_of (entry_of saved.dict root.0) =
        root.2.label ∙ label_is saved.dict dict.earlier root.0 (omega arith) in
        let region : (entry_of saved.dict root.0).region ≡ is_whole.main.number = ap (λ x. x.region) (sym label) ∙ its.region in
        record {
          root = root.0;
          last = root.1;
          main = is_whole.main.main;
          there = ap (λ n. slice_get saved.regions n) region ∙ ap (λ l. slice_get l is_whole.main.number) is.regions ∙ is_whole.main.there;
          kind = is_whole.main.kind;
          func = is_whole.main.func;
        }

    -- what the run leaves can be saved
    pub run_saved : length nodes ≤ 576460752303423488 → IsSaved saved
    run_saved few =
        let ops : saved.ops ≡ ops_of ran = is.ops in
        let made : ops_of ran ≤ 1000000000 = is_whole.few in
        let levels : height (alone its.tree) ≤ ran.depth = its.levels in
        let tracked_to : ran.depth ≤ 32 = is_whole.tracked in
        let count : length nodes ≡ size (alone its.tree) = ap length its.is ∙ nodes_length 0 (alone its.tree) in
        record {
          exit = subst (λ z. FitsSigned w32 z) (sym is.exit) is_whole.exit;
          ops = omega arith;
          regions = subst AreRegions (sym is.regions) is_whole.regions;
          profile = are_profile its.tree saved.dict dict (length ran.regions) within bounds interned (omega arith) (omega arith);
          in_list = subst (λ l. NameRegions (length l) saved.dict) (sym is.regions) (name_regions its.tree saved.dict dict (length ran.regions) within bounds);
          main = main;
          named = all_named its.tree saved.dict dict interned;
        }

    -- the profile expands to the run's tree, up to the order of siblings
    alike : AreAlike (nodes_of_profile saved) nodes
    alike =
        let root = dictionary_expands nodes saved.dict is.dict in
        let count : length saved.dict ≡ root.0 + 1 = root.1 in
        let last : length saved.dict - 1 ≡ root.0 = omega arith in
        subst (λ n. AreAlike (expansion saved.dict n) nodes) (sym last) root.2

    -- the report of the profile is that of the run
    pub run_reported : (with_dict : Bool) (text : List ℕ) → IsReport saved with_dict text → IsRunReport ran with_dict (Some saved) text
    run_reported with_dict text r =
        whole nodes saved text tree is (record {
          rows = r.rows;
          contexts = r.contexts;
          plan = r.plan;
          are_rows = rows_forget_order (nodes_of_profile saved) nodes r.rows alike r.are_rows;
          are_contexts = contexts_forget_order ran.regions (nodes_of_profile saved) nodes r.contexts alike
              (subst (λ l. AreContexts l (nodes_of_profile saved) r.contexts) is.regions r.are_contexts);
          planned = r.planned;
          is = r.is ∙ (λ i. report_text (is.regions i) (Exit (is.exit i)) (is.ops i) r.rows (asked with_dict saved.dict) r.contexts r.plan);
        })

    alike_back : AreAlike nodes (nodes_of_profile saved)
    alike_back = alike_turned (nodes_of_profile saved) nodes alike

    -- .. and that of the run is that of the profile
    pub profile_reported : (with_dict : Bool) (text : List ℕ) → IsReportOf ran.regions ran.exit (ops_of ran) nodes (asked with_dict saved.dict) text
        → IsReport saved with_dict text
    profile_reported with_dict text r = record {
      rows = r.rows;
      contexts = r.contexts;
      plan = r.plan;
      are_rows = rows_forget_order nodes (nodes_of_profile saved) r.rows alike_back r.are_rows;
      are_contexts = subst (λ l. AreContexts l (nodes_of_profile saved) r.contexts) (sym is.regions)
          (contexts_forget_order ran.regions nodes (nodes_of_profile saved) r.contexts alike_back r.are_contexts);
      planned = r.planned;
      is = r.is ∙ (λ i. report_text (sym is.regions i) (Exit (sym is.exit i)) (sym is.ops i) r.rows (asked with_dict saved.dict) r.contexts r.plan);
    }

  -- the report of a run whose dictionary is over its limits
  pub run_large : (entries : List Entry) (which : Which) → IsDictionary nodes entries → refusal 0 0 entries ≡ Some which → (with_dict : Bool) (text : List ℕ)
      → (saved : Option Saved) → saved ≡ None → text ≡ large_text ran.exit (ops_of ran) → IsRunReport ran with_dict saved text
  run_large entries which is passed with_dict text saved none text_is =
      let P : Option Saved → List ℕ → Type 0 = λ s t. IsRunReport ran with_dict s t in
      subst (λ s. P s text) (sym none)
      (subst (λ t. P None t) (sym text_is) (large nodes tree (record { entries = entries; which = which; dict = is; passed = passed })))
