use Rattle.k_wide_statements.proofs.MemberLaws.{keeps_here, keeps_on}
use Rattle.k_wide_statements.proofs.statements.keeps_among.Goals as goal

pub returns-then-branch : goal.returns-then-branch
returns-then-branch c =
    keeps_here c.args.test.now c.as_slice-stmt-items.result.now c.loop-stmt.stmt-index c.stmt-item.result c.in_ok-note_keeping.field-0 _
    c.loop-stmt-test.true c.stmt-item.is c.in_ok-note_keeping.ensures.told c.if-branch.true c.loop-stmt.invariant

pub loop-stmt-preserved : goal.loop-stmt-preserved
loop-stmt-preserved c =
    keeps_on c.args.test.now c.as_slice-stmt-items.result.now c.loop-stmt.stmt-index c.stmt-item.result c.in_ok-note_keeping.field-0 _
    c.loop-stmt-test.true c.stmt-item.is c.in_ok-note_keeping.ensures.told c.if-branch.false c.loop-stmt.invariant
