use Rattle.std.proofs.Common.{◌≡◌, List, [], Option, Some, None, Ok, subst, sym}
use Rattle.k_lex_expansion.specs.declared.tokens.Listed.{Listed}
use Rattle.k_lex_expanding.specs.Arguments.{AsksFor, Passes, Skips}
use Rattle.k_lex_expanding.specs.Machine.{Proceeds}
use Rattle.k_lex_expanding.proofs.StepLaws.{proceed_begins, proceed_ends, machine}
use Rattle.k_lex_expanding.proofs.machine.Machine.proceed.Goals as goal

pub returns-in-Some : goal.returns-in-Some
returns-in-Some c =
    let there : ◌≡◌ {A = Option (List Listed)} c.in_ok-written.field-0 (Some c.in-Some.written) = cc (c.in-Some.is) in
    let asks = subst (λ o. Skips (Ok o) c.body_at-body.result.now c.args.call.complete c.args.call.waiting c.skip.new.complete c.skip.new.waiting) there c.in_ok-written.ensures in
    proceed_begins c.begin.result c.args.macros.now c.args.limit c.args.call c.skip.new.complete c.in-Some.written c.skip.new.waiting c.args.self.now c.begin.new.self
    (subst (λ b. AsksFor b c.in-Some.written c.args.call.complete c.args.call.waiting c.skip.new.complete c.skip.new.waiting) c.body_at-body.ensures asks) c.begin.ensures

pub returns-in_ok-failure-in-None : goal.returns-in_ok-failure-in-None
returns-in_ok-failure-in-None c =
    let there : ◌≡◌ {A = Option (List Listed)} c.in_ok-written.field-0 None = cc (c.in-None.is) in
    let passes = subst (λ o. Skips (Ok o) c.body_at-body.result.now c.args.call.complete c.args.call.waiting c.skip.new.complete c.skip.new.waiting) there c.in_ok-written.ensures in
    subst (λ t. Proceeds (Ok t) c.args.macros.now c.args.limit c.args.call c.args.self.now (machine c.finish.new.list c.args.self.now.level.tokens c.args.self.now.frames c.finish.new.made c.args.self.now.taken)) (sym c.turn_of.ensures)
    (proceed_ends c.in_ok-failure-in-None.failure c.args.macros.now c.args.limit c.args.call c.skip.new.complete c.args.self.now c.finish.new.list c.finish.new.made
    (subst (λ b. Passes b c.args.call.complete c.args.call.waiting c.skip.new.complete []) c.body_at-body.ensures passes) c.in_ok-failure-in-None.ensures)
