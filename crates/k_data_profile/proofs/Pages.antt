-- What the page of a profile and that of a run are made of, and that a run has one.
use Rattle.std.proofs.Common.{◌≡◌, ℕ, ℤ, ◌+◌, ◌-◌, ◌≤◌, arith, Bool, List, [], ◌∷◌, length, Option, Some, None, refl, ap, sym, ◌∙◌, subst, slice_get}
use Rattle.std.proofs.lemmas.Option.{none-some}
use Rattle.k_optab.specs.declared.node.Node.{Node}
use Rattle.k_optab.specs.declared.region.Region.{Region}
use Rattle.k_optab.specs.Tree.{IsTree}
use Rattle.k_dict_entries.specs.Dictionary.{IsDictionary}
use Rattle.k_dict_entries.specs.Dictionary as dictionary
use Rattle.k_dict_entries.specs.Entries.{expansion}
use Rattle.k_dict_entries.specs.Laws.{AreAlike}
use Rattle.k_dict_entries.specs.Trees.{Label, node_at}
use Rattle.k_dict_entries.specs.declared.entry.Entry.{Entry}
use Rattle.k_dict_entries.proofs.EntryTrees.{tree_is}
use Rattle.k_dict_entries.proofs.Unique.{alike_turned, dictionary_expands, dictionary_is_unique}
use Rattle.k_dict_saved.specs.Profile.{IsSaved}
use Rattle.k_dict_saved.specs.declared.saved.Saved.{Saved}
use Rattle.k_selfpar.specs.Contexts.{AreContexts}
use Rattle.k_selfpar.specs.Rows.{AreRows}
use Rattle.k_selfpar.specs.declared.context.Context.{Context}
use Rattle.k_selfpar.specs.declared.row.Row.{Row}
use Rattle.k_selfpar.proofs.Siblings.{contexts_are_unique, contexts_forget_order, rows_are_unique, rows_forget_order}
use Rattle.k_plan.specs.Plan.{CanPlan, IsAdvice}
use Rattle.k_plan.specs.declared.advice.Advice.{Advice}
use Rattle.k_plan.specs.Saving.{standard_limits}
use Rattle.k_plan.specs.declared.limits.Limits.{Limits}
use Rattle.k_report_profile.specs.Report.{HasManyContexts, IsPlanned, asked, nodes_of_profile}
use Rattle.k_report_profile.specs.RunReport.{IsLarge, IsProfileOf, IsWhole, Ran, ops_of}
use Rattle.k_report_profile.specs.Summed.{AreTold, IsSummed}
use Rattle.k_report_profile.proofs.OneRun.{one_tree}
use Rattle.k_report_profile.proofs.Recorded.{run_saved}
use Rattle.k_report_profile.proofs.Reported.{at_root, one_plan}
use Rattle.k_page.specs.Page.{large_page_text, page_text}
use Rattle.k_data_profile.specs.Laws.{RunPageIsUnique}
use Rattle.k_data_profile.specs.Pages.{IsPage, IsRunPage, large, path_of, whole, work_of}
use Rattle.k_data_profile.specs.Shown.{listed}

-- THE ROOT of a profile is its last entry
module _ (saved : Saved) (n : ℕ) (root : Entry) (is : IsSaved saved) (count : n ≡ length saved.dict) (at : slice_get saved.dict (n - 1) ≡ Some root) where
  pub root_work : work_of (nodes_of_profile saved) ≡ root.work
  unfolding work_of
  root_work =
      let tree = tree_is saved.dict (n - 1) root at (is.profile.interned.earlier (n - 1) root at) in
      let work : Label → ℕ = λ label. work_of (node_at 0 label ∷ []) in
      subst (λ (nodes : List Node). work_of nodes ≡ root.work) (at_root saved n count) (ap (λ t. work t.label) tree)

  pub root_path : path_of (nodes_of_profile saved) ≡ root.path
  unfolding path_of
  root_path =
      let tree = tree_is saved.dict (n - 1) root at (is.profile.interned.earlier (n - 1) root at) in
      let path : Label → ℕ = λ label. path_of (node_at 0 label ∷ []) in
      subst (λ (nodes : List Node). path_of nodes ≡ root.path) (at_root saved n count) (ap (λ t. path t.label) tree)

-- the text with a plan is the page
pub planned_page : (name source : List ℕ) (saved : Saved) (with_dict : Bool) (rows : List Row) (contexts : List Context) (advice : Advice) (limit : Limits)
    (exit : ℤ) (work path : ℕ) (dict : Option (List Entry)) (text : List ℕ) → AreRows (nodes_of_profile saved) rows
    → AreContexts saved.regions (nodes_of_profile saved) contexts → CanPlan contexts → limit ≡ standard_limits → exit ≡ saved.exit
    → work_of (nodes_of_profile saved) ≡ work → path_of (nodes_of_profile saved) ≡ path → dict ≡ asked with_dict saved.dict → IsAdvice limit contexts advice
    → text ≡ page_text name source exit saved.ops work path saved.regions rows dict contexts (Some advice) → IsPage name source saved with_dict text
planned_page name source saved with_dict rows contexts advice limit exit work path dict text are_rows are_contexts can limit_is exit_is work_is path_is dict_is is_advice is = record {
  rows = rows;
  contexts = contexts;
  plan = Some advice;
  are_rows = are_rows;
  are_contexts = are_contexts;
  planned = (can.few, subst (λ l. IsAdvice l contexts advice) limit_is is_advice);
  is = is ∙ (λ i. page_text name source (exit_is i) saved.ops (sym work_is i) (sym path_is i) saved.regions rows (dict_is i) contexts (Some advice));
}

-- the text without one is the page of a profile with many contexts
pub wide_page : (name source : List ℕ) (saved : Saved) (with_dict : Bool) (rows : List Row) (contexts : List Context) (exit : ℤ) (work path : ℕ)
    (dict : Option (List Entry)) (text : List ℕ) → AreRows (nodes_of_profile saved) rows → HasManyContexts saved → contexts ≡ [] → exit ≡ saved.exit
    → work_of (nodes_of_profile saved) ≡ work → path_of (nodes_of_profile saved) ≡ path → dict ≡ asked with_dict saved.dict
    → text ≡ page_text name source exit saved.ops work path saved.regions rows dict contexts None → IsPage name source saved with_dict text
wide_page name source saved with_dict rows contexts exit work path dict text are_rows many none exit_is work_is path_is dict_is is = record {
  rows = rows;
  contexts = many.0;
  plan = None;
  are_rows = are_rows;
  are_contexts = many.1;
  planned = many.2;
  is = is ∙ (λ i. page_text name source (exit_is i) saved.ops (sym work_is i) (sym path_is i) saved.regions rows (dict_is i) (none i) None);
}

-- trees that are equal up to the order of siblings are of the same work and path
same_work : (one other : List Node) → AreAlike one other → work_of one ≡ work_of other
unfolding work_of
same_work one other (s, t, one_is, other_is, shape) =
    ap work_of one_is ∙ ap (λ label. work_of (node_at 0 label ∷ [])) shape.label ∙ sym (ap work_of other_is)

same_path : (one other : List Node) → AreAlike one other → path_of one ≡ path_of other
unfolding path_of
same_path one other (s, t, one_is, other_is, shape) =
    ap path_of one_is ∙ ap (λ label. path_of (node_at 0 label ∷ [])) shape.label ∙ sym (ap path_of other_is)

module _ (ran : Ran) where
  -- the profile expands to the run's tree, up to the order of siblings
  pub alike : (nodes : List Node) (saved : Saved) → IsProfileOf ran nodes saved → AreAlike (nodes_of_profile saved) nodes
  alike nodes saved is =
      let root = dictionary_expands nodes saved.dict is.dict in
      let count : length saved.dict ≡ root.0 + 1 = root.1 in
      let last : length saved.dict - 1 ≡ root.0 = omega (arith, count) in
      subst (λ n. AreAlike (expansion saved.dict n) nodes) (sym last) root.2

  -- THE PAGE OF THE PROFILE is that of the run that left it
  pub run_paged : (name source : List ℕ) (nodes : List Node) (saved : Saved) (with_dict : Bool) (text : List ℕ) → IsTree ran.depth ran.events nodes
      → IsProfileOf ran nodes saved → IsPage name source saved with_dict text → IsRunPage name source ran with_dict text
  run_paged name source nodes saved with_dict text tree is p =
      let same : AreAlike (nodes_of_profile saved) nodes = alike nodes saved is in
      let work : work_of (nodes_of_profile saved) ≡ work_of nodes = same_work (nodes_of_profile saved) nodes same in
      let path : path_of (nodes_of_profile saved) ≡ path_of nodes = same_path (nodes_of_profile saved) nodes same in
      whole nodes saved text tree is (record {
        rows = p.rows;
        contexts = p.contexts;
        plan = p.plan;
        are_rows = rows_forget_order (nodes_of_profile saved) nodes p.rows same p.are_rows;
        are_contexts = contexts_forget_order ran.regions (nodes_of_profile saved) nodes p.contexts same
            (subst (λ l. AreContexts l (nodes_of_profile saved) p.contexts) is.regions p.are_contexts);
        planned = p.planned;
        is = p.is ∙ (λ i. page_text name source (is.exit i) (is.ops i) (work i) (path i) (is.regions i) p.rows (asked with_dict saved.dict)
            (listed p.contexts p.plan) p.plan);
      })

-- THE PROFILE that is made of what is told of a run is the run's
module _ (exit : ℤ) (ops : ℕ) (regions : List Region) (dict : Option (List Entry)) (saved : Saved) (exit_is : saved.exit ≡ exit) (ops_are : saved.ops ≡ ops)
    (regions_are : saved.regions ≡ regions) (dict_is : dict ≡ Some saved.dict) (ran : Ran) (s : IsSummed exit ops regions dict ran) where
  pub profile_of : IsProfileOf ran s.nodes saved
  profile_of =
      let told : AreTold s.nodes (Some saved.dict) = subst (λ d. AreTold s.nodes d) dict_is s.told in
      record {
        exit = exit_is ∙ s.exit_is;
        ops = ops_are ∙ s.ops_are;
        regions = regions_are ∙ s.regions_are;
        dict = told.0;
        within = told.1;
      }

-- and so is the page
module _ (name source : List ℕ) (exit : ℤ) (ops : ℕ) (regions : List Region) (dict : Option (List Entry)) where
  -- where the dictionary is told, with the profile that has it
  pub summed_paged : (saved : Saved) → saved.exit ≡ exit → saved.ops ≡ ops → saved.regions ≡ regions → dict ≡ Some saved.dict → (ran : Ran)
      → IsSummed exit ops regions dict ran → (with_dict : Bool) (text : List ℕ) → IsPage name source saved with_dict text → IsRunPage name source ran with_dict text
  summed_paged saved exit_is ops_are regions_are dict_is ran s with_dict text p =
      run_paged ran name source s.nodes saved with_dict text s.tree (profile_of exit ops regions dict saved exit_is ops_are regions_are dict_is ran s) p

  -- where it is over its limits
  pub large_paged : dict ≡ None → (shown : ℤ) → shown ≡ exit → (with_dict : Bool) (text : List ℕ) → text ≡ large_page_text name shown ops → (ran : Ran)
      → IsSummed exit ops regions dict ran → IsRunPage name source ran with_dict text
  large_paged none shown same with_dict text text_is ran s =
      let over : IsLarge s.nodes = subst (λ d. AreTold s.nodes d) none s.told in
      let told : text ≡ large_page_text name ran.exit (ops_of ran) = text_is ∙ (λ i. large_page_text name ((same ∙ s.exit_is) i) (s.ops_are i)) in
      subst (λ (t : List ℕ). IsRunPage name source ran with_dict t) (sym told) (large s.nodes s.tree over)

-- A RUN HAS ONE PAGE
module _ (ran : Ran) (is_whole : IsWhole ran) (few : (nodes : List Node) → IsTree ran.depth ran.events nodes → length nodes ≤ 576460752303423488) where
  -- a dictionary is not both within its limits and over them
  pub apart : (nodes others : List Node) (saved : Saved) → IsTree ran.depth ran.events nodes → IsTree ran.depth ran.events others → IsProfileOf ran nodes saved → IsLarge others → ⊥
  apart nodes others saved tree other is over =
      let same : others ≡ nodes = one_tree ran others nodes other tree in
      let dict : saved.dict ≡ over.entries = dictionary_is_unique nodes saved.dict over.entries is.dict (subst (λ (l : List Node). IsDictionary l over.entries) same over.dict) in
      none-some over.which (sym is.within ∙ ap (dictionary.refusal 0 0) dict ∙ over.passed)

  -- the plan of a run's contexts
  pub plans : (nodes : List Node) (saved : Saved) (contexts : List Context) (one other : Option Advice) → IsTree ran.depth ran.events nodes → IsProfileOf ran nodes saved
      → AreContexts ran.regions nodes contexts → IsPlanned contexts one → IsPlanned contexts other → one ≡ other
  plans nodes saved contexts one other tree is are p q =
      let back : AreContexts ran.regions (nodes_of_profile saved) contexts =
      contexts_forget_order ran.regions nodes (nodes_of_profile saved) contexts (alike_turned (nodes_of_profile saved) nodes (alike ran nodes saved is)) are in
      one_plan saved (run_saved ran is_whole nodes tree saved is (few nodes tree)) contexts one other
      (subst (λ r. AreContexts r (nodes_of_profile saved) contexts) (sym is.regions) back) p q

  pub one_run_page : (name source : List ℕ) (with_dict : Bool) (one other : List ℕ) → IsRunPage name source ran with_dict one → IsRunPage name source ran with_dict other
      → one ≡ other
  one_run_page name source with_dict _ _ (whole nodes saved one tree is p) (whole nodes' saved' other tree' is' p') =
      let trees : nodes' ≡ nodes = one_tree ran nodes' nodes tree' tree in
      let dicts : saved.dict ≡ saved'.dict = dictionary_is_unique nodes saved.dict saved'.dict is.dict (subst (λ (l : List Node). IsDictionary l saved'.dict) trees is'.dict) in
      let rows : p.rows ≡ p'.rows = rows_are_unique nodes p.rows p'.rows p.are_rows (subst (λ (l : List Node). AreRows l p'.rows) trees p'.are_rows) in
      let contexts : p'.contexts ≡ p.contexts = contexts_are_unique ran.regions nodes p'.contexts p.contexts
      (subst (λ (l : List Node). AreContexts ran.regions l p'.contexts) trees p'.are_contexts) p.are_contexts in
      let plan : p.plan ≡ p'.plan = plans nodes saved p.contexts p.plan p'.plan tree is p.are_contexts p.planned (subst (λ (l : List Context). IsPlanned l p'.plan) contexts p'.planned) in
      p.is ∙ (λ i. page_text name source ran.exit (ops_of ran) (work_of (sym trees i)) (path_of (sym trees i)) ran.regions (rows i) (asked with_dict (dicts i))
      (listed (sym contexts i) (plan i)) (plan i)) ∙ sym p'.is
  one_run_page name source with_dict _ _ (whole nodes saved one tree is p) (large nodes' tree' over) = absurd (apart nodes nodes' saved tree tree' is over)
  one_run_page name source with_dict _ _ (large nodes tree over) (whole nodes' saved other tree' is p) = absurd (apart nodes' nodes saved tree' tree is over)
  one_run_page name source with_dict _ _ (large nodes tree over) (large nodes' tree' over') = refl

pub run_page_is_unique : RunPageIsUnique
run_page_is_unique name source ran nodes with_dict one other is_whole tree few a b =
    one_run_page ran is_whole
    (λ others is. subst (λ (l : List Node). length l ≤ 576460752303423488) (one_tree ran nodes others tree is) few) name source with_dict one other a b
