use Rattle.std.proofs.Common.{ap, sym, subst, length, map, reverse, ◌++◌, ◌≡◌, ◌<◌, [], ◌∷◌, List, ◌∙◌}
use Rattle.k_lex_macros.specs.declared.plans.Step.{Step}
use Rattle.k_lex_macros.specs.declared.macros.Lexeme.{Lexeme}
use Rattle.k_lex_macros.specs.Macros.{placed}
use Rattle.k_lex_macros.specs.Table.{owed, turns, token_at, AreSteps}
use Rattle.k_lex_macros.proofs.PlanLaws
use Rattle.k_lex_macros.proofs.macros.Macros.take_step.Goals as goal

pub write_token-requires : goal.write_token-requires
write_token-requires c =
    let m = c.args.self.now in
    let h = subst (λ (x : Step). AreSteps m (x ∷ [])) c.in-Token.is c.requires.step in
    subst (λ (body : List Lexeme). c.in-Token.at < length body) (sym c.body_at.ensures) (PlanLaws.token_within m c.in-Token.number c.in-Token.at h)

pub returns-in_ok-write_token-in-Token-clause-tokens : goal.returns-in_ok-write_token-in-Token-clause-tokens
returns-in_ok-write_token-in-Token-clause-tokens c =
    let m = c.args.self.now in
    let stack = c.args.stack.now.items in
    let old = c.args.tokens.now in
    let new = c.write_token.new.tokens in
    let P : Step → Type 0 = λ x. new ++ map (placed c.args.place) (owed m stack) ≡ old ++ map (placed c.args.place) (owed m (stack ++ x ∷ [])) in
    subst P (sym c.in-Token.is) (PlanLaws.wrote_token m c.args.place stack c.in-Token.number c.in-Token.at old new
    (c.in_ok-write_token-in-Token.ensures ∙ ap (λ (body : List Lexeme). old ++ map (placed c.args.place) (token_at body c.in-Token.at)) c.body_at.ensures))

pub returns-in_ok-write_token-in-Token-clause-nearer : goal.returns-in_ok-write_token-in-Token-clause-nearer
returns-in_ok-write_token-in-Token-clause-nearer c =
    let m = c.args.self.now in
    let stack = c.args.stack.now.items in
    let h = subst (λ (x : Step). AreSteps m (x ∷ [])) c.in-Token.is c.requires.step in
    let P : Step → Type 0 = λ x. turns m stack < turns m (stack ++ x ∷ []) in
    subst P (sym c.in-Token.is) (PlanLaws.nearer_token m stack c.in-Token.number c.in-Token.at c.requires.stack h)

pub returns-in_ok-push_steps-in-Whole-clause-tokens : goal.returns-in_ok-push_steps-in-Whole-clause-tokens
returns-in_ok-push_steps-in-Whole-clause-tokens c =
    let m = c.args.self.now in
    let stack = c.args.stack.now.items in
    let d = c.index.result.now in
    let h = subst (λ (x : Step). AreSteps m (x ∷ [])) c.in-Whole.is c.requires.step in
    let e : c.push_steps.new.stack.items ≡ stack ++ reverse d.plan.steps = c.in_ok-push_steps-in-Whole.ensures ∙ ap (λ (t : List Step). stack ++ reverse t) c.as_slice.ensures in
    ap (λ (t : List Lexeme). c.args.tokens.now ++ map (placed c.args.place) t)
    (ap (owed m) e ∙ PlanLaws.entered m stack c.in-Whole.number d c.requires.planned h.0.0 c.index.ensures ∙ ap (λ (x : Step). owed m (stack ++ x ∷ [])) (sym c.in-Whole.is))

pub returns-in_ok-push_steps-in-Whole-clause-stack : goal.returns-in_ok-push_steps-in-Whole-clause-stack
returns-in_ok-push_steps-in-Whole-clause-stack c =
    let m = c.args.self.now in
    let stack = c.args.stack.now.items in
    let d = c.index.result.now in
    let h = subst (λ (x : Step). AreSteps m (x ∷ [])) c.in-Whole.is c.requires.step in
    let e : c.push_steps.new.stack.items ≡ stack ++ reverse d.plan.steps = c.in_ok-push_steps-in-Whole.ensures ∙ ap (λ (t : List Step). stack ++ reverse t) c.as_slice.ensures in
    subst (AreSteps m) (sym e) (PlanLaws.steps_entered m stack c.in-Whole.number d c.requires.planned h.0.0 c.index.ensures c.requires.stack)

pub returns-in_ok-push_steps-in-Whole-clause-nearer : goal.returns-in_ok-push_steps-in-Whole-clause-nearer
returns-in_ok-push_steps-in-Whole-clause-nearer c =
    let m = c.args.self.now in
    let stack = c.args.stack.now.items in
    let d = c.index.result.now in
    let h = subst (λ (x : Step). AreSteps m (x ∷ [])) c.in-Whole.is c.requires.step in
    let e : c.push_steps.new.stack.items ≡ stack ++ reverse d.plan.steps = c.in_ok-push_steps-in-Whole.ensures ∙ ap (λ (t : List Step). stack ++ reverse t) c.as_slice.ensures in
    let P : List Step → Type 0 = λ t. turns m t < turns m (stack ++ c.args.step ∷ []) in
    let Q : Step → Type 0 = λ x. turns m (stack ++ reverse d.plan.steps) < turns m (stack ++ x ∷ []) in
    subst P (sym e) (subst Q (sym c.in-Whole.is) (PlanLaws.nearer_whole m stack c.in-Whole.number d c.requires.planned c.index.ensures c.requires.stack h))
