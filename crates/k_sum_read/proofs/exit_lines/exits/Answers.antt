use Rattle.std.proofs.Common.{List, None, Some, refl, subst, arith}
use Rattle.k_sum.specs.declared.exits.Exit.{Exit}
use Rattle.k_sum_read.specs.Reading.{NextExit}
use Rattle.k_sum_read.proofs.ExitSteps.{exits_more, exits_start, wrong_exit}
use Rattle.k_sum_read.proofs.exit_lines.exits.Goals as goal

pub lines-init : goal.lines-init
lines-init c = exits_start c.args.runs c.args.count c.args.text.now c.new-exits.result c.new-exits.ensures

pub lines-preserved : goal.lines-preserved
lines-preserved c =
    let P : List Exit → Type 0 = λ l. NextExit c.args.runs l c.lines.rest.now (Some (c.in-Some.exit, c.in-Some.behind.now)) in
    exits_more c.args.runs c.args.count c.args.text.now c.lines.rest.now c.lines.exits c.lines.total c.lines.invariant (omega (arith, c.lines-test.true, c.len.ensures))
    c.in-Some.exit c.in-Some.behind.now c.push.new.self _ (subst P c.as_slice.ensures c.in-Some.ensures) c.in_default-push.ensures.ok refl

pub returns-in_default : goal.returns-in_default
returns-in_default c =
    let P : List Exit → Type 0 = λ l. NextExit c.args.runs l c.lines.rest.now None in
    wrong_exit c.args.runs c.args.count c.args.text.now c.lines.rest.now c.lines.exits c.lines.total c.lines.invariant (omega (arith, c.lines-test.true, c.len.ensures))
    _ refl (subst P c.as_slice.ensures c.in_default.ensures)

pub returns : goal.returns
returns c = let few = c.lines.invariant.few in (c.lines.invariant.reach, omega (arith, few, c.lines-test.false, c.len.ensures), c.lines.invariant.total_is, c.lines.invariant.are)
