use Rattle.std.proofs.Common.{◌≡◌, ◌++◌, [], ◌∷◌, List, map, reverse, ap, sym, subst, ◌∙◌}
use Rattle.std.proofs.lemmas.List.{append-nil}
use Rattle.k_lex_macros.specs.declared.plans.Step.{Step}
use Rattle.k_lex_macros.specs.declared.macros.Lexeme.{Lexeme}
use Rattle.k_lex_macros.specs.Macros.{fulls, full_at, placed}
use Rattle.k_lex_macros.specs.Table.{listed, owed, AreSteps}
use Rattle.k_lex_macros.proofs.PlanLaws
use Rattle.k_lex_macros.proofs.macros.Macros.write_out.Goals as goal

pub loop-step-init : goal.loop-step-init
loop-step-init c =
    let m = c.args.self.now in
    let d = c.index.result.now in
    let e : c.push_steps.new.stack.items ≡ reverse d.plan.steps = c.in_ok-push_steps.ensures ∙ ap (λ (t : List Step). t ++ reverse c.as_slice.result.now) c.new-stack.ensures.items ∙ ap (λ (t : List Step). reverse t) c.as_slice.ensures in
    record {
      owed = ap (λ (t : List Lexeme). c.args.tokens.now ++ map (placed c.args.place) t)
          (ap (owed m) e ∙ PlanLaws.owed_whole m [] c.args.number d c.requires.planned c.requires.there c.index.ensures ∙ append-nil (full_at (fulls (listed m)) c.args.number));
      steps = subst (AreSteps m) (sym e) (PlanLaws.steps_entered m [] c.args.number d c.requires.planned c.requires.there c.index.ensures tt);
    }

pub take_step-requires-clause-step : goal.take_step-requires-clause-step
take_step-requires-clause-step c =
    let m = c.args.self.now in
    PlanLaws.steps_right m c.pop.new.self.items (c.in-Some.step ∷ []) (subst (AreSteps m) c.in-Some.ensures.items c.loop-step.invariant.steps)

pub take_step-requires-clause-stack : goal.take_step-requires-clause-stack
take_step-requires-clause-stack c =
    let m = c.args.self.now in
    PlanLaws.steps_left m c.pop.new.self.items (c.in-Some.step ∷ []) (subst (AreSteps m) c.in-Some.ensures.items c.loop-step.invariant.steps)
