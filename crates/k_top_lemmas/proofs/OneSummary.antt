-- A run from which main returned has one summary.
use Rattle.std.proofs.Common.{ℕ, ◌≡◌, ◌≤◌, refl, ap, sym, subst, ◌∙◌, arith, List, [], ◌++◌, length, Option, inl, inr}
use Rattle.std.proofs.lemmas.Option.{none-some}
use Rattle.k_ending.specs.declared.ending.End.{End}
use Rattle.k_ending.specs.declared.ending.End.TheVariants as end
use Rattle.k_optab.specs.declared.node.Node.{Node}
use Rattle.k_optab.specs.Latencies.{standard_latencies}
use Rattle.k_optab.specs.Tree.{IsTree}
use Rattle.k_dict_entries.specs.Dictionary.{IsDictionary}
use Rattle.k_dict_entries.specs.Dictionary as dictionary
use Rattle.k_dict_entries.proofs.Unique.{alike_turned, dictionary_is_unique}
use Rattle.k_gen.specs.Text.{program}
use Rattle.k_plan.specs.declared.advice.Advice.{Advice}
use Rattle.k_report_profile.specs.Report.{IsPlanned, nodes_of_profile}
use Rattle.k_report_profile.specs.RunReport.{IsLarge, IsProfileOf, IsWhole, Ran, ops_of}
use Rattle.k_report_profile.proofs.OneRun.{one_tree}
use Rattle.k_report_profile.proofs.Recorded.{run_saved}
use Rattle.k_report_profile.proofs.Reported.{one_plan}
use Rattle.k_dict_saved.specs.declared.saved.Saved.{Saved}
use Rattle.k_selfpar.specs.Contexts.{AreContexts}
use Rattle.k_selfpar.specs.Rows.{AreRows}
use Rattle.k_selfpar.specs.declared.context.Context.{Context}
use Rattle.k_selfpar.proofs.Siblings.{contexts_are_unique, contexts_forget_order, rows_are_unique}
use Rattle.k_types_meaning.specs.declared.tree.unit.TUnit.{TUnit}
use Rattle.k_top_answers.specs.declared.answer.Answer.{Answer}
use Rattle.k_top_answers.specs.Answers.{AnswersJob, AnswersMade, done, made_running, ran_of, refusal}
use Rattle.k_top_answers.specs.Steps.{Outside, Running, run_of}
use Rattle.k_top_answers.specs.Texts.{AreProfileLines, demo_line, plan_line, run_lines, tree_lines}
use Rattle.k_top_answers.specs.Texts as texts
use Rattle.k_words.specs.declared.job.Job.TheVariants as job
use Rattle.k_top_lemmas.proofs.Agreeing.{Agree, source_agrees}
use Rattle.k_top_lemmas.proofs.LatencyLemmas.{standard_bounded}
use Rattle.k_top_lemmas.proofs.RunLemmas.{IsSound, run_few, run_gives_int, run_whole}
use Rattle.k_top_lemmas.proofs.Sounding.{source_sound}
use Rattle.k_top_lemmas.proofs.SummaryLemmas.{alike}

module _ (ran : Ran) (is_whole : IsWhole ran) (few : (nodes : List Node) → IsTree ran.depth ran.events nodes → length nodes ≤ 576460752303423488) where
  -- a dictionary is not both within its limits and over them
  apart : (nodes others : List Node) (saved : Saved) → IsTree ran.depth ran.events nodes → IsTree ran.depth ran.events others → IsProfileOf ran nodes saved → IsLarge others → ⊥
  apart nodes others saved tree other is over =
      let same : others ≡ nodes = one_tree ran others nodes other tree in
      let dict : saved.dict ≡ over.entries = dictionary_is_unique nodes saved.dict over.entries is.dict (subst (λ (l : List Node). IsDictionary l over.entries) same over.dict) in
      none-some over.which (sym is.within ∙ ap (dictionary.refusal 0 0) dict ∙ over.passed)

  -- the plan of a run's contexts
  plans : (nodes : List Node) (saved : Saved) (contexts : List Context) (one other : Option Advice) → IsTree ran.depth ran.events nodes → IsProfileOf ran nodes saved
      → AreContexts ran.regions nodes contexts → IsPlanned contexts one → IsPlanned contexts other → one ≡ other
  plans nodes saved contexts one other tree is are p q =
      let back : AreContexts ran.regions (nodes_of_profile saved) contexts =
      contexts_forget_order ran.regions nodes (nodes_of_profile saved) contexts (alike_turned (nodes_of_profile saved) nodes (alike ran nodes saved is)) are in
      one_plan saved (run_saved ran is_whole nodes tree saved is (few nodes tree)) contexts one other
      (subst (λ r. AreContexts r (nodes_of_profile saved) contexts) (sym is.regions) back) p q

  lines_same : (one other : List ℕ) → AreProfileLines ran one → AreProfileLines ran other → one ≡ other
  lines_same _ _ (texts.whole nodes saved rows contexts plan tree is r c p) (texts.whole nodes' saved' rows' contexts' plan' tree' is' r' c' p') =
      let trees : nodes' ≡ nodes = one_tree ran nodes' nodes tree' tree in
      let same_rows : rows ≡ rows' = rows_are_unique nodes rows rows' r (subst (λ (l : List Node). AreRows l rows') trees r') in
      let same : contexts' ≡ contexts = contexts_are_unique ran.regions nodes contexts' contexts (subst (λ (l : List Node). AreContexts ran.regions l contexts') trees c') c in
      let plan_same : plan ≡ plan' = plans nodes saved contexts plan plan' tree is c p (subst (λ (l : List Context). IsPlanned l plan') same p') in
      λ i. tree_lines (sym trees i) (same_rows i) ++ plan_line (sym same i) (plan_same i)
  lines_same _ _ (texts.whole nodes saved rows contexts plan tree is r c p) (texts.large nodes' tree' over) = absurd (apart nodes nodes' saved tree tree' is over)
  lines_same _ _ (texts.large nodes tree over) (texts.whole nodes' saved rows contexts plan tree' is r c p) = absurd (apart nodes' nodes saved tree' tree is over)
  lines_same _ _ (texts.large nodes tree over) (texts.large nodes' tree' over') = refl

one_made : (number loops : ℕ) (one other : Answer) (r : Running) (how : End) → (run_of r).end ≡ how → IsSound r → AnswersMade number loops one r how
    → AnswersMade number loops other r how → one ≡ other
one_made number loops one other r (end.Returned exit) is sound (text, a, one_is) (text', b, other_is) =
    let whole : IsWhole (ran_of r exit 24) = run_whole r sound exit 24 is (run_gives_int r sound exit is) (omega arith) (omega arith) in
    let lines : a.lines ≡ b.lines = lines_same (ran_of r exit 24) whole (λ nodes tree. run_few r 24 nodes sound tree) a.lines b.lines a.are b.are in
    let head : List ℕ = run_lines (length (run_of r).output) exit (ops_of (ran_of r exit 24)) in
    one_is ∙ ap done (a.is ∙ ap (λ l. demo_line number loops ++ head ++ l) lines ∙ sym b.is) ∙ sym other_is
one_made number loops one other r (end.Trapped trap place) is sound a b = a ∙ sym b
one_made number loops one other r end.OutOfSteps is sound a b = a ∙ sym b

-- DEMO
by_source : (number loops : ℕ) (one other : Answer) → Agree {A = TUnit} (λ failure. one ≡ refusal failure) (λ failure. other ≡ refusal failure)
    (λ t. AnswersMade number loops one (made_running t) (run_of (made_running t)).end × ((input : List ℕ) → IsSound (record (made_running t) { input = input })))
    (λ t. AnswersMade number loops other (made_running t) (run_of (made_running t)).end) → one ≡ other
by_source number loops one other (inl (failure, a, b)) = a ∙ sym b
by_source number loops one other (inr (t, (a, sound), b)) = one_made number loops one other (made_running t) (run_of (made_running t)).end refl (sound []) a b

pub one_demo : (number loops : ℕ) (outside : Outside) (one other : Answer) → AnswersJob outside one (job.Demo number loops)
    → AnswersJob outside other (job.Demo number loops) → one ≡ other
one_demo number loops outside one other a b =
    by_source number loops one other
    (source_agrees (λ failure. one ≡ refusal failure) (λ failure. other ≡ refusal failure) _ _ (program number loops)
    (source_sound (λ failure. one ≡ refusal failure) (λ t. AnswersMade number loops one (made_running t) (run_of (made_running t)).end) standard_latencies
    (standard_bounded standard_latencies refl) 100000000 (omega arith) (program number loops) a) b)
