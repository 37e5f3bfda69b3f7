use Rattle.std.proofs.Common.{get_or, sym, ◌+◌}
use Rattle.std.proofs.lemmas.Option.{slice_get-get_or}
use Rattle.k_code.specs.Balances.{left_open}
use Rattle.k_code.proofs.Passing.{left_below, small_below, small_sum}
use Rattle.k_code.proofs.Settling.{settles, settles_no_jump, settles_not, targets_within}
use Rattle.k_code.proofs.validity.balances.settle.Goals as goal

pub returns-then-not-meets : goal.returns-then-not-meets
returns-then-not-meets c =
    settles_not c.args.entry c.args.instrs.now c.args.k (get_or c.args.instrs.now c.args.k c.index-instrs-k.result)
    (slice_get-get_or c.args.instrs.now c.args.k c.index-instrs-k.result c.requires.place) c.args.before.now c.requires.known c.in-Some.balance c.in-Some.ensures c.args.before.now (sym c.if-not-meets.ensures)

pub jumps_agree-requires : goal.jumps_agree-requires
jumps_agree-requires c =
    targets_within c.args.entry _ c.args.k (get_or c.args.instrs.now c.args.k c.index-instrs-k.result).act _
    (c.requires.within c.args.k _ (slice_get-get_or c.args.instrs.now c.args.k c.index-instrs-k.result c.requires.place)) c.requires.known.long

pub returns-then-not-jumps_agree : goal.returns-then-not-jumps_agree
returns-then-not-jumps_agree c =
    settles_no_jump c.args.entry c.args.instrs.now c.args.k (get_or c.args.instrs.now c.args.k c.index-instrs-k.result)
    (slice_get-get_or c.args.instrs.now c.args.k c.index-instrs-k.result c.requires.place) c.args.before.now c.requires.known c.in-Some.balance c.in-Some.ensures
    c.jumps_agree.new.before c.if-not-jumps_agree.ensures

pub next_agrees-requires-clause-below : goal.next_agrees-requires-clause-below
next_agrees-requires-clause-below c =
    small_below (c.args.k + 1) (left_open (get_or c.args.instrs.now c.args.k c.index-instrs-k.result).act c.in-Some.balance) (small_sum _ c.args.k c.requires.place c.requires.few)
    (left_below (c.args.k + 1) (get_or c.args.instrs.now c.args.k c.index-instrs-k.result).act c.in-Some.balance (c.requires.known.below c.args.k c.in-Some.balance c.in-Some.ensures))

pub returns : goal.returns
returns c =
    settles c.args.entry c.args.instrs.now c.args.k (get_or c.args.instrs.now c.args.k c.index-instrs-k.result)
    (slice_get-get_or c.args.instrs.now c.args.k c.index-instrs-k.result c.requires.place) c.args.before.now c.requires.known c.in-Some.balance c.in-Some.ensures
    c.next_agrees.result c.jumps_agree.new.before c.next_agrees.new.before (sym c.if-not-meets.ensures) c.if-not-jumps_agree.ensures c.next_agrees.ensures
