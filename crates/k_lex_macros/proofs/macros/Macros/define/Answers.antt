use Rattle.std.proofs.Common.{rules, ◌≡◌, List, length, subst, ◌∙◌}
use Rattle.std.specs.Vec.{vec_len}
use Rattle.k_lex_macros.specs.declared.macros.Definition.{Definition}
use Rattle.k_lex_macros.specs.declared.macros.Lexeme.{Lexeme}
use Rattle.k_lex_macros.specs.Table.{IsNewPlan}
use Rattle.k_lex_macros.proofs.IndexLaws
use Rattle.k_lex_macros.proofs.PlanLaws
use Rattle.k_lex_macros.proofs.macros.Macros.define.Goals as goal

pub returns-clause-indexed : goal.returns-clause-indexed
returns-clause-indexed c =
    let m = c.args.self.now in
    let n : vec_len m.list ≡ length m.list.items = search rules in
    let d : Definition = record { name = c.args.name; body = c.args.body; plan = c.in-Ok.plan } in
    IndexLaws.indexed_push m _ d c.as_slice-2.result.now c.as_slice-3.result.now c.len-number.result c.requires.indexed c.in_ok-push.ensures.items c.as_slice-2.ensures c.as_slice-3.ensures (c.len-number.ensures ∙ n)
    c.in_default.ensures c.in_default-add_names.ensures

pub returns-clause-planned : goal.returns-clause-planned
returns-clause-planned c =
    let m = c.args.self.now in
    let d : Definition = record { name = c.args.name; body = c.args.body; plan = c.in-Ok.plan } in
    let P : List Lexeme → Type 0 = λ body. IsNewPlan m body c.in-Ok.plan body in
    PlanLaws.planned_push m.list.items d c.push.new.self.items c.in_ok-push.ensures.items c.requires.planned (subst P c.as_slice.ensures c.in-Ok.ensures)
