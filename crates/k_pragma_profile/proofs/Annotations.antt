-- What the annotated source of a profile and that of a run are made of, and that a run has one.
use Rattle.std.proofs.Common.{◌≡◌, ℕ, ℤ, ◌≤◌, List, [], length, Option, Some, None, refl, sym, ◌∙◌, subst}
use Rattle.k_optab.specs.declared.node.Node.{Node}
use Rattle.k_optab.specs.declared.region.Region.{Region}
use Rattle.k_optab.specs.Tree.{IsTree}
use Rattle.k_lex.specs.Tokens.{tokens}
use Rattle.k_types_meaning.specs.declared.tree.unit.TUnit.{TUnit}
use Rattle.k_marks_meaning.specs.declared.Marks.{Marks}
use Rattle.k_dict_entries.specs.Laws.{AreAlike}
use Rattle.k_dict_entries.specs.declared.entry.Entry.{Entry}
use Rattle.k_dict_saved.specs.declared.saved.Saved.{Saved}
use Rattle.k_selfpar.specs.Contexts.{AreContexts}
use Rattle.k_selfpar.specs.Rows.{AreRows}
use Rattle.k_selfpar.specs.declared.context.Context.{Context}
use Rattle.k_selfpar.proofs.Siblings.{contexts_are_unique, contexts_forget_order, rows_are_unique, rows_forget_order}
use Rattle.k_plan.specs.Plan.{CanPlan, IsAdvice}
use Rattle.k_plan.specs.Saving.{standard_limits}
use Rattle.k_plan.specs.declared.advice.Advice.{Advice}
use Rattle.k_plan.specs.declared.limits.Limits.{Limits}
use Rattle.k_report_profile.specs.Report.{HasManyContexts, IsPlanned, nodes_of_profile}
use Rattle.k_report_profile.specs.RunReport.{IsLarge, IsProfileOf, IsWhole, Ran}
use Rattle.k_report_profile.specs.Summed.{AreTold, IsSummed}
use Rattle.k_report_profile.proofs.OneRun.{one_tree}
use Rattle.k_data_profile.proofs.Pages.{alike, apart, plans, profile_of}
use Rattle.k_carry_pairs.specs.declared.pairs.LoopPairs.{LoopPairs}
use Rattle.k_pragma_written.proofs.One.{one_written}
use Rattle.k_pragma.specs.Insertions.{annotated}
use Rattle.k_pragma.specs.Marked.{candidates}
use Rattle.k_pragma_profile.specs.Annotated.{ArePicked, IsAnnotationOf, IsRunAnnotation, large, picked_in, picked_of, whole}
use Rattle.k_pragma_profile.specs.Laws.{RunAnnotationIsUnique}

-- the picked ones of few contexts are those of their plan
pub few_planned : (contexts : List Context) (advice : Advice) (limit : Limits) (picked : List ℕ) → CanPlan contexts → limit ≡ standard_limits
    → IsAdvice limit contexts advice → picked ≡ picked_of contexts advice.picks
    → (plan : Advice) × IsPlanned contexts (Some plan) × (picked ≡ picked_of contexts plan.picks)
few_planned contexts advice limit picked can limit_is is_advice is =
    (advice, (can.few, subst (λ l. IsAdvice l contexts advice) limit_is is_advice), is)

-- so they are those of the profile
pub few_picked : (saved : Saved) (contexts : List Context) (picked : List ℕ) → AreContexts saved.regions (nodes_of_profile saved) contexts
    → (advice : Advice) × IsPlanned contexts (Some advice) × (picked ≡ picked_of contexts advice.picks) → ArePicked saved.regions (nodes_of_profile saved) picked
few_picked saved contexts picked are (advice, planned, is) = record {
  contexts = contexts;
  plan = Some advice;
  are_contexts = are;
  planned = planned;
  is = is;
}

-- of many contexts none is picked
pub none_picked : (saved : Saved) (picked : List ℕ) → HasManyContexts saved → picked ≡ [] → ArePicked saved.regions (nodes_of_profile saved) picked
none_picked saved picked many is = record {
  contexts = many.0;
  plan = None;
  are_contexts = many.1;
  planned = many.2;
  is = is;
}

module _ (source : List ℕ) (typed : TUnit) (marks : Marks) (found : List LoopPairs) where
  -- THE ANNOTATED SOURCE of the profile is that of the run that left it
  pub run_annotated : (ran : Ran) (nodes : List Node) (saved : Saved) (text : List ℕ) → IsTree ran.depth ran.events nodes → IsProfileOf ran nodes saved
      → IsAnnotationOf source typed marks saved.regions (nodes_of_profile saved) found text → IsRunAnnotation source typed marks ran found text
  run_annotated ran nodes saved text tree is a =
      let same : AreAlike (nodes_of_profile saved) nodes = alike ran nodes saved is in
      whole nodes saved text tree is (record {
        rows = a.rows;
        picked = a.picked;
        are_rows = rows_forget_order (nodes_of_profile saved) nodes a.rows same a.are_rows;
        are_picked = record {
          contexts = a.are_picked.contexts;
          plan = a.are_picked.plan;
          are_contexts = contexts_forget_order ran.regions (nodes_of_profile saved) nodes a.are_picked.contexts same
              (subst (λ l. AreContexts l (nodes_of_profile saved) a.are_picked.contexts) is.regions a.are_picked.are_contexts);
          planned = a.are_picked.planned;
          is = a.are_picked.is;
        };
        written = a.written;
        reads = a.reads;
        is = a.is ∙ (λ i. annotated source (tokens source) a.written typed marks (is.regions i) a.rows (candidates found a.picked));
      })

  -- that which is made of what is told of a run is the run's: where the dictionary is told, with the profile that has it
  pub summed_annotated : (exit : ℤ) (ops : ℕ) (regions : List Region) (dict : Option (List Entry)) (saved : Saved) → saved.exit ≡ exit → saved.ops ≡ ops
      → saved.regions ≡ regions → dict ≡ Some saved.dict → (ran : Ran) → IsSummed exit ops regions dict ran → (text : List ℕ)
      → IsAnnotationOf source typed marks saved.regions (nodes_of_profile saved) found text → IsRunAnnotation source typed marks ran found text
  summed_annotated exit ops regions dict saved exit_is ops_are regions_are dict_is ran s text a =
      run_annotated ran s.nodes saved text s.tree (profile_of exit ops regions dict saved exit_is ops_are regions_are dict_is ran s) a

  -- and where it is over its limits
  pub large_annotated : (exit : ℤ) (ops : ℕ) (regions : List Region) (dict : Option (List Entry)) → dict ≡ None → (text : List ℕ) → text ≡ source → (ran : Ran)
      → IsSummed exit ops regions dict ran → IsRunAnnotation source typed marks ran found text
  large_annotated exit ops regions dict none text is ran s =
      let over : IsLarge s.nodes = subst (λ d. AreTold s.nodes d) none s.told in
      subst (λ (t : List ℕ). IsRunAnnotation source typed marks ran found t) (sym is) (large s.nodes s.tree over)

-- A RUN HAS ONE ANNOTATED SOURCE
module _ (ran : Ran) (is_whole : IsWhole ran) (few : (nodes : List Node) → IsTree ran.depth ran.events nodes → length nodes ≤ 576460752303423488) where
  one_picked : (nodes : List Node) (saved : Saved) (one other : List ℕ) → IsTree ran.depth ran.events nodes → IsProfileOf ran nodes saved → ArePicked ran.regions nodes one
      → ArePicked ran.regions nodes other → one ≡ other
  one_picked nodes saved one other tree is p q =
      let contexts : q.contexts ≡ p.contexts = contexts_are_unique ran.regions nodes q.contexts p.contexts q.are_contexts p.are_contexts in
      let plan : p.plan ≡ q.plan = plans ran is_whole few nodes saved p.contexts p.plan q.plan tree is p.are_contexts p.planned (subst (λ (l : List Context). IsPlanned l q.plan) contexts q.planned) in
      p.is ∙ (λ i. picked_in (sym contexts i) (plan i)) ∙ sym q.is

  pub one_run_annotation : (source : List ℕ) (typed : TUnit) (marks : Marks) (found : List LoopPairs) (one other : List ℕ) → IsRunAnnotation source typed marks ran found one
      → IsRunAnnotation source typed marks ran found other → one ≡ other
  one_run_annotation source typed marks found _ _ (whole nodes saved one tree is a) (whole nodes' saved' other tree' is' b) =
      let trees : nodes' ≡ nodes = one_tree ran nodes' nodes tree' tree in
      let rows : a.rows ≡ b.rows = rows_are_unique nodes a.rows b.rows a.are_rows (subst (λ (l : List Node). AreRows l b.rows) trees b.are_rows) in
      let picked : a.picked ≡ b.picked = one_picked nodes saved a.picked b.picked tree is a.are_picked (subst (λ (l : List Node). ArePicked ran.regions l b.picked) trees b.are_picked) in
      let written : a.written ≡ b.written = one_written source a.written b.written a.reads b.reads in
      a.is ∙ (λ i. annotated source (tokens source) (written i) typed marks ran.regions (rows i) (candidates found (picked i))) ∙ sym b.is
  one_run_annotation source typed marks found _ _ (whole nodes saved one tree is a) (large nodes' tree' over) = absurd (apart ran is_whole few nodes nodes' saved tree tree' is over)
  one_run_annotation source typed marks found _ _ (large nodes tree over) (whole nodes' saved' other tree' is' b) = absurd (apart ran is_whole few nodes' nodes saved' tree' tree is' over)
  one_run_annotation source typed marks found _ _ (large nodes tree over) (large nodes' tree' over') = refl

pub run_annotation_is_unique : RunAnnotationIsUnique
run_annotation_is_unique source typed marks ran found nodes one other is_whole tree few a b =
    one_run_annotation ran is_whole
    (λ others is. subst (λ (l : List Node). length l ≤ 576460752303423488) (one_tree ran nodes others tree is) few) source typed marks found one other a b
