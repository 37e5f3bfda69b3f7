use Rattle.std.proofs.Common.{rules, ◌≡◌, ◌+◌, ap, sym, subst, length, take, ◌∙◌}
use Rattle.std.specs.Vec.{vec_len}
use Rattle.k_lex_macros.specs.declared.plans.Plan.{Plan}
use Rattle.k_lex_macros.specs.Macros.{full_or, fulls}
use Rattle.k_lex_macros.specs.Steps.{with_token}
use Rattle.k_lex_macros.specs.Table.{listed, IsNewPlan}
use Rattle.k_lex_macros.proofs.PlanLaws
use Rattle.k_lex_macros.proofs.macros.Macros.add_step.Goals as goal

pub returns-in_ok-add_token-in-None : goal.returns-in_ok-add_token-in-None
returns-in_ok-add_token-in-None c =
    let m = c.args.self.now in
    let x = c.index-body-at.result in
    let n : vec_len m.list ≡ length m.list.items = search rules in
    let P : Plan → Type 0 = λ p. IsNewPlan m c.args.body.now p (take (c.args.at + 1) c.args.body.now) in
    subst P (sym (c.in_ok-add_token-in-None.ensures ∙ ap (λ k. with_token c.args.plan.now k c.args.at x.size) (c.len.ensures ∙ n)))
    (PlanLaws.new_token m c.args.body.now c.args.plan.now c.args.at x c.requires.there c.index-body-at.is (ap (full_or (fulls (listed m)) x) (sym c.in-None.ensures.found)) c.requires.plan)

pub returns-in_ok-add_macro-in-Some : goal.returns-in_ok-add_macro-in-Some
returns-in_ok-add_macro-in-Some c =
    let m = c.args.self.now in
    let x = c.index-body-at.result in
    let P : Plan → Type 0 = λ p. IsNewPlan m c.args.body.now p (take (c.args.at + 1) c.args.body.now) in
    subst P (sym c.in_ok-add_macro-in-Some.ensures)
    (PlanLaws.new_macro m c.args.body.now c.args.plan.now c.args.at x c.in-Some.number c.index.result.now c.requires.there c.index-body-at.is c.in-Some.ensures.found c.requires.planned c.in-Some.ensures.within c.index.ensures c.requires.plan)
