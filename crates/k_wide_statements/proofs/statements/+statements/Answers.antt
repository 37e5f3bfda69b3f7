use Rattle.std.proofs.Common.{map}
use Rattle.k_wide_meaning.specs.Occurrences.{occurs_in}
use Rattle.k_wide_meaning.specs.Reductions.{kept_if}
use Rattle.k_wide_meaning.specs.Contents.{seen, member}
use Rattle.k_wide_statements.proofs.MemberLaws.{braces_kept, member_kept, member_other, members_on, members_end, single_kept, single_other}
use Rattle.k_wide_statements.proofs.statements.+statements.Goals as goal

pub note_braces-returns-in_ok-note_members : goal.note_braces-returns-in_ok-note_members
note_braces-returns-in_ok-note_members t c =
    braces_kept c.args.test.now (map member (map seen c.args.stmts.now)) c.in_ok-keeps.keeps _ c.args.found.now.items _
    c.in_ok-keeps.ensures c.if-keeps.true c.in_ok-note_members.ensures

pub note_member-returns-in_ok-note_stmt-2-clause-noted : goal.note_member-returns-in_ok-note_stmt-2-clause-noted
note_member-returns-in_ok-note_stmt-2-clause-noted t c =
    member_other (kept_if c.args.test.now (seen c.args.stmt.now).action) c.args.kept c.in_ok-keeps.keeps (seen c.args.stmt.now).occurs c.args.found.now.items _ _
    c.if-kept.false c.in_ok-keeps.ensures.told c.if-not-keeps.true c.in_ok-keeps.ensures.noted c.in_ok-note_stmt-2.ensures

pub note_member-returns-else-not-keeps-clause-noted : goal.note_member-returns-else-not-keeps-clause-noted
note_member-returns-else-not-keeps-clause-noted t c =
    member_kept (kept_if c.args.test.now (seen c.args.stmt.now).action) c.args.kept c.in_ok-keeps.keeps (seen c.args.stmt.now).occurs c.args.found.now.items _
    c.if-kept.false c.in_ok-keeps.ensures.told c.if-not-keeps.false c.in_ok-keeps.ensures.noted

pub note_members-loop-stmt-preserved : goal.note_members-loop-stmt-preserved
note_members-loop-stmt-preserved t c =
    members_on c.args.test.now c.loop-stmt.kept c.in_ok-kept.kept c.as_slice-stmt-items.result.now c.loop-stmt.stmt-index c.stmt-item.result
    c.loop-stmt.found.items _ _ c.loop-stmt-test.true c.stmt-item.is c.in_ok-kept.ensures.told c.in_ok-kept.ensures.noted c.loop-stmt.invariant

pub note_members-returns : goal.note_members-returns
note_members-returns t c =
    members_end c.args.test.now c.loop-stmt.kept c.as_slice-stmt-items.result.now c.loop-stmt.stmt-index c.loop-stmt.found.items _
    c.loop-stmt-test.false c.loop-stmt.invariant

pub note_single-returns-in_ok-note_stmt : goal.note_single-returns-in_ok-note_stmt
note_single-returns-in_ok-note_stmt t c =
    single_other (kept_if c.args.test.now (seen c.args.stmt.now).action) (member (seen c.args.stmt.now)) c.in_ok-keeps.keeps (occurs_in c.args.test.now) (seen c.args.stmt.now).occurs
    c.args.found.now.items _ _ _ c.in_ok-keeps.ensures.told c.if-not-keeps.true c.in_ok-keeps.ensures.noted c.in_ok-note_expr.ensures c.in_ok-note_stmt.ensures

pub note_single-returns-else-not-keeps : goal.note_single-returns-else-not-keeps
note_single-returns-else-not-keeps t c =
    single_kept (kept_if c.args.test.now (seen c.args.stmt.now).action) (member (seen c.args.stmt.now)) c.in_ok-keeps.keeps _ c.args.found.now.items _
    c.in_ok-keeps.ensures.told c.if-not-keeps.false c.in_ok-keeps.ensures.noted
