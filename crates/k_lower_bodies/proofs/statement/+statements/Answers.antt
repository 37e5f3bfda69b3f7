use Rattle.std.proofs.Common.{List, arith, refl, true, false, ◌∙◌, None, Some, sym, ap, subst, map, drop}
use Rattle.k_types_meaning.proofs.Folds.{done_alone, done_else, done_While, done_DoWhile, done_For, done_Switch}
use Rattle.k_types_meaning.specs.declared.tree.statement.TPart.{TPart}
use Rattle.k_types_meaning.specs.declared.tree.statement.TPart.TheVariants as part
use Rattle.k_types_meaning.specs.declared.tree.statement.TStmt.{TStmt}
use Rattle.k_types_meaning.specs.declared.tree.statement.TStmt.TheVariants as stmt
use Rattle.std.proofs.Common.{Option}
use Rattle.k_code.specs.declared.instruction.Arg.{Arg}
use Rattle.k_lower_code.specs.Declarations.{means, temporary}
use Rattle.k_lower_code.specs.Loops.{source_loop}
use Rattle.k_lower_code.specs.Statements.{for_loop, if_else, lower_step, lowered, part_step}
use Rattle.k_lower_code.specs.Stretches.{Inside, Stretch, in_order}
use Rattle.k_lower_code.specs.Switches.{PartLowered, statements_of, switch}
use Rattle.k_lower_expressions.specs.Arounds.{inside_of, program_of}
use Rattle.k_lower_expressions.specs.Emits.{Emitted, Emits}
use Rattle.k_lower_extents.specs.declared.extent.Extent.{Extent}
use Rattle.k_lower_extents.specs.Extents.{AreAllExtents, AreEntries, AreExtents, ArePartsExtents, extent_of, listed_part, lowered_part}
use Rattle.k_lower_extents.proofs.NestedExtents.{block_parts, do_body, first_arm, for_body, only_arm, part_statement, part_there, second_arm, statement_there, switch_parts, while_body}
use Rattle.k_lower_statements.specs.Sites.{at_site, site_of}
use Rattle.k_lower_blocks.proofs.Around.{if_else_emitted, one_arm_emitted, two_arms_emitted}
use Rattle.k_lower_blocks.proofs.Blocks.{BlockLeft}
use Rattle.k_lower_cases.proofs.Fronts.{switch_done}
use Rattle.k_lower_turns.proofs.Together.{turns_emits}
use Rattle.std.specs.Option.{option_copied}
use Rattle.k_types_meaning.specs.declared.tree.expression.TExpr.{TExpr}
use Rattle.k_lower_turns.specs.declared.turns.Turns.{Turns}
use Rattle.k_lower_bodies.proofs.LeftForms.{a_loop, no_loop}
use Rattle.k_lower_bodies.proofs.Rows.{as_lowered, block_row, for_emitted, loop_emitted, nothing_yet, part_left, parts_end, statement_left, statements_end, switch_emitted}
use Rattle.k_lower_bodies.proofs.statement.+statements.Goals as goal

pub statement-loop_statement-requires : goal.statement-loop_statement-requires
statement-loop_statement-requires t c = (omega (arith, c.decreases), a_loop _ c.in_default.not-Expr c.in_default.not-Empty c.in_default.not-Block c.in_default.not-If c.in_default.not-Switch c.in_default.not-Break c.in_default.not-Continue c.in_default.not-Return c.in_default.not-Declare)

pub loop_statement-unreachable-requires : goal.loop_statement-unreachable-requires
loop_statement-unreachable-requires t c = no_loop _ c.requires c.in_default.not-While c.in_default.not-DoWhile c.in_default.not-For

pub statement-returns-in-Block : goal.statement-returns-in-Block
statement-returns-in-Block t c = λ has.
    as_lowered (inside_of c.args.around.now) c.args.stmt.now (in_order (program_of c.args.around.now) c.in-Block.spot.place (map (lowered (inside_of c.args.around.now)) c.in-Block.parts)) (site_of c.args.site) c.statements.result c.args.out.now.items c.statements.new.out.items
    (block_row (inside_of c.args.around.now) c.args.stmt.now c.in-Block.spot c.in-Block.parts c.in-Block.is)
    (c.statements.ensures (block_parts (inside_of c.args.around.now) c.args.table.now c.in-Block.spot c.in-Block.parts (subst (AreExtents c.args.table.now (inside_of c.args.around.now)) c.in-Block.is has)))

pub statement-returns-in-None : goal.statement-returns-in-None
statement-returns-in-None t c = λ has.
    as_lowered (inside_of c.args.around.now) c.args.stmt.now (if_else (inside_of c.args.around.now) c.in-If.spot c.in-If.test (lowered (inside_of c.args.around.now) c.in-If.then) None) (site_of c.args.site) c.if_one.result c.args.out.now.items c.if_one.new.out.items
    (ap (lowered (inside_of c.args.around.now)) (c.in-If.is ∙ ap (stmt.If c.in-If.spot c.in-If.test c.in-If.then) c.in-None.is) ∙ done_alone PartLowered Stretch part_step (lower_step (inside_of c.args.around.now)) c.in-If.spot c.in-If.test c.in-If.then)
    (c.if_one.ensures (only_arm (inside_of c.args.around.now) c.args.table.now c.in-If.spot c.in-If.test c.in-If.then (subst (AreExtents c.args.table.now (inside_of c.args.around.now)) (c.in-If.is ∙ ap (stmt.If c.in-If.spot c.in-If.test c.in-If.then) c.in-None.is) has)))

pub statement-returns-in-Some : goal.statement-returns-in-Some
statement-returns-in-Some t c = λ has.
    as_lowered (inside_of c.args.around.now) c.args.stmt.now (if_else (inside_of c.args.around.now) c.in-If.spot c.in-If.test (lowered (inside_of c.args.around.now) c.in-If.then) (Some (lowered (inside_of c.args.around.now) c.in-Some.other))) (site_of c.args.site) c.if_two.result c.args.out.now.items c.if_two.new.out.items
    (ap (lowered (inside_of c.args.around.now)) (c.in-If.is ∙ ap (stmt.If c.in-If.spot c.in-If.test c.in-If.then) c.in-Some.is) ∙ done_else PartLowered Stretch part_step (lower_step (inside_of c.args.around.now)) c.in-If.spot c.in-If.test c.in-If.then c.in-Some.other)
    (c.if_two.ensures (first_arm (inside_of c.args.around.now) c.args.table.now c.in-If.spot c.in-If.test c.in-If.then c.in-Some.other (subst (AreExtents c.args.table.now (inside_of c.args.around.now)) (c.in-If.is ∙ ap (stmt.If c.in-If.spot c.in-If.test c.in-If.then) c.in-Some.is) has)) (second_arm (inside_of c.args.around.now) c.args.table.now c.in-If.spot c.in-If.test c.in-If.then c.in-Some.other (subst (AreExtents c.args.table.now (inside_of c.args.around.now)) (c.in-If.is ∙ ap (stmt.If c.in-If.spot c.in-If.test c.in-If.then) c.in-Some.is) has)))

pub loop_statement-returns-in-While : goal.loop_statement-returns-in-While
loop_statement-returns-in-While t c = λ has.
    as_lowered (inside_of c.args.around.now) c.args.stmt.now (source_loop (inside_of c.args.around.now) c.in-While.spot c.in-While.turns (Some c.in-While.test) None (lowered (inside_of c.args.around.now) c.in-While.body) true) (site_of c.args.site) c.repeat_while.result c.args.out.now.items c.repeat_while.new.out.items
    (ap (lowered (inside_of c.args.around.now)) c.in-While.is ∙ done_While PartLowered Stretch part_step (lower_step (inside_of c.args.around.now)) c.in-While.spot c.in-While.turns c.in-While.test c.in-While.body)
    (c.repeat_while.ensures (while_body (inside_of c.args.around.now) c.args.table.now c.in-While.spot c.in-While.turns c.in-While.test c.in-While.body (subst (AreExtents c.args.table.now (inside_of c.args.around.now)) c.in-While.is has)))

pub loop_statement-returns-in-DoWhile : goal.loop_statement-returns-in-DoWhile
loop_statement-returns-in-DoWhile t c = λ has.
    as_lowered (inside_of c.args.around.now) c.args.stmt.now (source_loop (inside_of c.args.around.now) c.in-DoWhile.spot c.in-DoWhile.turns (Some c.in-DoWhile.test) None (lowered (inside_of c.args.around.now) c.in-DoWhile.body) false) (site_of c.args.site) c.repeat_while-in-DoWhile.result c.args.out.now.items c.repeat_while-in-DoWhile.new.out.items
    (ap (lowered (inside_of c.args.around.now)) c.in-DoWhile.is ∙ done_DoWhile PartLowered Stretch part_step (lower_step (inside_of c.args.around.now)) c.in-DoWhile.spot c.in-DoWhile.turns c.in-DoWhile.body c.in-DoWhile.test)
    (c.repeat_while-in-DoWhile.ensures (do_body (inside_of c.args.around.now) c.args.table.now c.in-DoWhile.spot c.in-DoWhile.turns c.in-DoWhile.body c.in-DoWhile.test (subst (AreExtents c.args.table.now (inside_of c.args.around.now)) c.in-DoWhile.is has)))

pub loop_statement-returns-in-For : goal.loop_statement-returns-in-For
loop_statement-returns-in-For t c = λ has.
    as_lowered (inside_of c.args.around.now) c.args.stmt.now (for_loop (inside_of c.args.around.now) c.in-For.spot c.in-For.turns c.in-For.first c.in-For.test c.in-For.step (lowered (inside_of c.args.around.now) c.in-For.body)) (site_of c.args.site) c.repeat_from.result c.args.out.now.items c.repeat_from.new.out.items
    (ap (lowered (inside_of c.args.around.now)) c.in-For.is ∙ done_For PartLowered Stretch part_step (lower_step (inside_of c.args.around.now)) c.in-For.spot c.in-For.turns c.in-For.first c.in-For.test c.in-For.step c.in-For.body)
    (c.repeat_from.ensures (for_body (inside_of c.args.around.now) c.args.table.now c.in-For.spot c.in-For.turns c.in-For.first c.in-For.test c.in-For.step c.in-For.body (subst (AreExtents c.args.table.now (inside_of c.args.around.now)) c.in-For.is has)))

pub statement-returns-in-Switch : goal.statement-returns-in-Switch
statement-returns-in-Switch t c = λ has.
    as_lowered (inside_of c.args.around.now) c.args.stmt.now (switch (inside_of c.args.around.now) c.in-Switch.spot c.in-Switch.kind c.in-Switch.on (map (lowered_part (inside_of c.args.around.now)) c.in-Switch.parts)) (site_of c.args.site) c.choose.result c.args.out.now.items c.choose.new.out.items
    (ap (lowered (inside_of c.args.around.now)) c.in-Switch.is ∙ done_Switch PartLowered Stretch part_step (lower_step (inside_of c.args.around.now)) c.in-Switch.spot c.in-Switch.kind c.in-Switch.on c.in-Switch.parts)
    (c.choose.ensures (switch_parts (inside_of c.args.around.now) c.args.table.now c.in-Switch.spot c.in-Switch.kind c.in-Switch.on c.in-Switch.parts (subst (AreExtents c.args.table.now (inside_of c.args.around.now)) c.in-Switch.is has)))

pub boxed-returns : goal.boxed-returns
boxed-returns t c = λ has.
    subst (λ (s : TStmt). Emits {A = Unit {0}} c.statement.result (at_site (site_of c.args.site) (lowered (inside_of c.args.around.now) s)) c.args.out.now.items c.statement.new.out.items) c.get.ensures
    (c.statement.ensures (subst (AreExtents c.args.table.now (inside_of c.args.around.now)) (sym c.get.ensures) has))

pub statements-loop-stmt-init : goal.statements-loop-stmt-init
statements-loop-stmt-init t c = λ has.
    subst
    (λ (ts : List TStmt). BlockLeft (program_of c.args.around.now) c.args.place (map (lowered (inside_of c.args.around.now)) ts) c.begin-block.result (at_site (site_of c.args.site) (in_order (program_of c.args.around.now) c.args.place (map (lowered (inside_of c.args.around.now)) c.args.list.now))) c.args.out.now.items c.args.out.now.items)
    (sym c.as_slice-stmt-items.ensures)
    (nothing_yet (program_of c.args.around.now) c.args.place (map (lowered (inside_of c.args.around.now)) c.args.list.now) c.args.site c.in_ok-rests.rests c.begin-block.result c.args.out.now.items
    c.begin-block.ensures (c.in_ok-rests.ensures (inside_of c.args.around.now) c.args.place has))

pub statements-loop-stmt-preserved : goal.statements-loop-stmt-preserved
statements-loop-stmt-preserved t c = λ has.
    statement_left (inside_of c.args.around.now) c.args.place c.as_slice-stmt-items.result.now c.loop-stmt.stmt-index c.stmt-item.result c.loop-stmt.block c.next_statement.new.block _ c.args.out.now.items c.loop-stmt.out.items c.next_statement.new.out.items
    c.loop-stmt-test.true c.stmt-item.is
    (c.in_ok-next_statement.ensures (statement_there (inside_of c.args.around.now) c.args.table.now c.as_slice-stmt-items.result.now c.loop-stmt.stmt-index c.stmt-item.result c.loop-stmt-test.true c.stmt-item.is
    (subst (AreAllExtents c.args.table.now (inside_of c.args.around.now)) (sym c.as_slice-stmt-items.ensures) has)))
    (c.loop-stmt.invariant has)

pub next_statement-returns : goal.next_statement-returns
next_statement-returns t c = λ has. record {
  inner = c.enter_block.new.block;
  place = c.place_of.result;
  opens = c.in_ok-extent.extent.opens;
  enters = c.in_ok-enter_block.ensures;
  stands = c.place_of.ensures (inside_of c.args.around.now);
  emitted = c.in_ok-statement.ensures has;
  passes = c.in_ok-pass_statement.ensures;
  makes = ap (λ (x : Extent). x.opens) (c.in_ok-extent.ensures (inside_of c.args.around.now) has);
}

pub if_one-returns : goal.if_one-returns
if_one-returns t c = λ has.
    if_else_emitted (inside_of c.args.around.now) c.args.spot.now c.args.test.now (site_of c.args.site) c.back_unless.result c.arms_left-stays.result (lowered (inside_of c.args.around.now) c.args.then.now) None c.in_ok-one.one None
    c.args.out.now.items c.save_unless.new.out.items c.one_arm.new.out.items c.back_unless.new.out.items (c.in_ok-one.ensures (inside_of c.args.around.now) has) refl c.arms_left-stays.ensures
    c.in_ok-save_unless.ensures (c.in_ok-one_arm.ensures has (c.in_ok-one.ensures (inside_of c.args.around.now) has)) c.back_unless.ensures

pub if_two-returns : goal.if_two-returns
if_two-returns t c = λ one two.
    if_else_emitted (inside_of c.args.around.now) c.args.spot.now c.args.test.now (site_of c.args.site) c.back_unless.result c.arms_left-stays.result (lowered (inside_of c.args.around.now) c.args.then.now) (Some (lowered (inside_of c.args.around.now) c.args.other.now))
    c.in_ok-one.one (Some c.in_ok-two.two) c.args.out.now.items c.save_unless.new.out.items c.two_arms.new.out.items c.back_unless.new.out.items
    (c.in_ok-one.ensures (inside_of c.args.around.now) one) (λ i. Some (c.in_ok-two.ensures (inside_of c.args.around.now) two i)) c.arms_left-stays.ensures
    c.in_ok-save_unless.ensures (c.in_ok-two_arms.ensures one two (c.in_ok-one.ensures (inside_of c.args.around.now) one) (c.in_ok-two.ensures (inside_of c.args.around.now) two)) c.back_unless.ensures

pub one_arm-returns : goal.one_arm-returns
one_arm-returns t c = λ has is.
    one_arm_emitted (program_of c.args.around.now) (site_of c.args.site) c.boxed.result c.args.place ((means (inside_of c.args.around.now) c.args.test.now).value true (temporary (inside_of c.args.around.now))) c.in_ok-a.a (lowered (inside_of c.args.around.now) c.args.then.now) c.args.one
    c.args.out.now.items c.test_value.new.out.items c.test_one.new.out.items c.boxed.new.out.items is c.in_ok-a.ensures c.in_ok-test_one.ensures (c.boxed.ensures has)

pub two_arms-returns : goal.two_arms-returns
two_arms-returns t c = λ one two is also.
    two_arms_emitted (program_of c.args.around.now) (site_of c.args.site) c.boxed-2.result c.args.place ((means (inside_of c.args.around.now) c.args.test.now).value true (temporary (inside_of c.args.around.now))) c.in_ok-a.a (lowered (inside_of c.args.around.now) c.args.then.now) (lowered (inside_of c.args.around.now) c.args.other.now) c.args.one c.args.two
    c.args.out.now.items c.test_value.new.out.items c.test_two.new.out.items c.boxed.new.out.items c.pass_arm.new.out.items c.boxed-2.new.out.items is also
    c.in_ok-a.ensures c.in_ok-test_two.ensures (c.in_ok-boxed.ensures one) c.in_ok-pass_arm.ensures (c.boxed-2.ensures two)

pub repeat-returns : goal.repeat-returns
repeat-returns t c = λ has.
    loop_emitted (inside_of c.args.around.now) c.args.spot.now c.args.number (option_copied c.args.test) (option_copied c.args.step) (lowered (inside_of c.args.around.now) c.args.body.now) c.args.tested (site_of c.args.site) c.back_unless.result
    c.in_ok-extent.extent c.in_ok-turns.turns c.stays_behind_loop-stays.result c.args.out.now.items c.save_unless.new.out.items c.turn.new.out.items c.back_unless.new.out.items
    (c.in_ok-extent.ensures (inside_of c.args.around.now) has) c.in_ok-turns.ensures c.stays_behind_loop-stays.ensures c.in_ok-save_unless.ensures
    (c.in_ok-turn.ensures has (sym (c.in_ok-extent.ensures (inside_of c.args.around.now) has) ∙ sym (ap (λ (u : Turns). u.body) c.in_ok-turns.ensures))) c.back_unless.ensures

pub repeat_while-returns : goal.repeat_while-returns
repeat_while-returns t c = λ has. c.repeat.ensures has

pub turn-returns : goal.turn-returns
turn-returns t c = λ has is.
    turns_emits (inside_of c.args.around.now) c.args.turns (option_copied c.args.test) (option_copied c.args.step) (lowered (inside_of c.args.around.now) c.args.body.now) c.args.site c.args.out.now.items c.enter.new.out.items c.boxed.new.out.items
    c.leave.new.out.items c.leave.result c.in_ok-numbers.numbers is c.in_ok-numbers.ensures.numbers c.in_ok-numbers.ensures.code (c.in_ok-boxed.ensures has) c.leave.ensures

pub repeat_from-returns : goal.repeat_from-returns
repeat_from-returns t c = λ has.
    for_emitted (inside_of c.args.around.now) c.args.spot.now c.args.number c.args.first.now c.args.test.now c.args.step.now (lowered (inside_of c.args.around.now) c.args.body.now) (site_of c.args.site)
    (record { objects = c.in_ok-objects.objects; breaks = c.args.site.breaks; continues = c.args.site.continues }) c.in_ok-objects.objects c.made.result
    c.close_made.result c.args.out.now.items c.start.new.out.items c.repeat.new.out.items c.close_made.new.out.items
    (c.in_ok-objects.ensures c.args.spot.now.place) refl c.made.ensures
    (subst (λ (e : Option TExpr). Emitted {A = Unit {0}} tt (at_site (record { objects = c.in_ok-objects.objects; breaks = c.args.site.breaks; continues = c.args.site.continues }) (source_loop (inside_of c.args.around.now) c.args.spot.now c.args.number e c.args.step.now (lowered (inside_of c.args.around.now) c.args.body.now) true)) c.start.new.out.items c.repeat.new.out.items) c.lent-test.ensures
    (subst (λ (e : Option TExpr). Emitted {A = Unit {0}} tt (at_site (record { objects = c.in_ok-objects.objects; breaks = c.args.site.breaks; continues = c.args.site.continues }) (source_loop (inside_of c.args.around.now) c.args.spot.now c.args.number (option_copied c.lent-test.result) e (lowered (inside_of c.args.around.now) c.args.body.now) true)) c.start.new.out.items c.repeat.new.out.items) c.lent-step.ensures
    (c.in_ok-repeat.ensures has)))
    c.close_made.ensures

pub choose-returns : goal.choose-returns
choose-returns t c = λ has.
    switch_emitted (inside_of c.args.around.now) c.args.spot.now c.args.kind c.args.on.now (map (lowered_part (inside_of c.args.around.now)) c.args.parts.now) c.in_ok-all.all c.stays_behind-stays.result (site_of c.args.site) c.back_unless.result
    c.args.out.now.items c.save_unless.new.out.items c.select.new.out.items c.back_unless.new.out.items
    (c.in_ok-all.ensures (inside_of c.args.around.now) c.args.spot.now.place has) c.stays_behind-stays.ensures c.in_ok-save_unless.ensures
    (c.in_ok-select.ensures has (ap (λ (x : Extent). x.size) (c.in_ok-all.ensures (inside_of c.args.around.now) c.args.spot.now.place has))) c.back_unless.ensures

pub select-returns : goal.select-returns
select-returns t c = λ has is.
    switch_done (inside_of c.args.around.now) c.args.place c.args.kind c.args.on.now (map (lowered_part (inside_of c.args.around.now)) c.args.parts.now) (site_of c.args.site) (site_of c.in_ok-inner.inner) c.args.size c.part_statements.result
    c.args.out.now.items c.begin_switch.new.out.items c.part_statements.new.out.items (c.in_ok-begin_switch.ensures has) is c.in_ok-inner.ensures (c.part_statements.ensures has)

pub part_statements-loop-part-init : goal.part_statements-loop-part-init
part_statements-loop-part-init t c = λ has.
    subst
    (λ (ts : List TPart). BlockLeft (program_of c.args.around.now) c.args.place (statements_of (map (lowered_part (inside_of c.args.around.now)) ts)) c.begin-block.result (at_site (site_of c.args.site) (in_order (program_of c.args.around.now) c.args.place (statements_of (map (lowered_part (inside_of c.args.around.now)) c.args.parts.now)))) c.args.out.now.items c.args.out.now.items)
    (sym c.as_slice-part-items.ensures)
    (nothing_yet (program_of c.args.around.now) c.args.place (statements_of (map (lowered_part (inside_of c.args.around.now)) c.args.parts.now)) c.args.site c.in_ok-rests.rests c.begin-block.result c.args.out.now.items
    c.begin-block.ensures (c.in_ok-rests.ensures (inside_of c.args.around.now) c.args.place has))

pub part_statements-loop-part-preserved : goal.part_statements-loop-part-preserved
part_statements-loop-part-preserved t c = λ has.
    part_left (inside_of c.args.around.now) c.args.place c.as_slice-part-items.result.now c.loop-part.part-index c.part-item.result c.loop-part.block c.next_part.new.block _ c.args.out.now.items c.loop-part.out.items c.next_part.new.out.items
    c.loop-part-test.true c.part-item.is
    (c.in_ok-next_part.ensures (part_there (inside_of c.args.around.now) c.args.table.now c.as_slice-part-items.result.now c.loop-part.part-index c.part-item.result c.loop-part-test.true c.part-item.is
    (subst (ArePartsExtents c.args.table.now (inside_of c.args.around.now)) (sym c.as_slice-part-items.ensures) has)))
    (c.loop-part.invariant has)

pub statements-returns : goal.statements-returns
statements-returns t c = λ has.
    statements_end (inside_of c.args.around.now) c.args.place c.as_slice-stmt-items.result.now c.loop-stmt.stmt-index c.loop-stmt.block c.enter_block.new.block _ c.end_all.result
    c.args.out.now.items c.loop-stmt.out.items c.end_all.new.out.items (omega (arith, c.loop-stmt-test.false)) (c.loop-stmt.invariant has) c.in_ok-enter_block.ensures c.end_all.ensures

pub part_statements-returns : goal.part_statements-returns
part_statements-returns t c = λ has.
    parts_end (inside_of c.args.around.now) c.args.place c.as_slice-part-items.result.now c.loop-part.part-index c.loop-part.block c.enter_block.new.block _ c.end_all.result
    c.args.out.now.items c.loop-part.out.items c.end_all.new.out.items (omega (arith, c.loop-part-test.false)) (c.loop-part.invariant has) c.in_ok-enter_block.ensures c.end_all.ensures
