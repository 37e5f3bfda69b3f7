use Rattle.std.proofs.Common.{arith}
use Rattle.std.proofs.lemmas.List.{nil_from_length}
use Rattle.k_dict_saved.proofs.Visiting.{fails_at, more_at, visited_before, visiting_done, visiting_from, visiting_wrong}
use Rattle.k_dict_saved.proofs.reading.order.+visit.Goals as goal

pub returns-then-number-before : goal.returns-then-number-before
returns-then-number-before t c =
    visited_before c.args.entries.now c.requires.runs c.requires.distinct.apart c.args.number c.args.before c.if-number-before.true c.requires.before

pub loop-run-init : goal.loop-run-init
loop-run-init t c =
    visiting_from c.args.entries.now c.requires.runs c.requires.distinct.apart c.args.number c.args.before c.requires.number
    c.runs_of-rest.result.now c.runs_of-rest.ensures (omega (arith, c.if-number-before.false))

pub returns-in-None : goal.returns-in-None
returns-in-None t c =
    fails_at c.args.entries.now c.requires.runs c.requires.distinct.apart c.args.number c.args.before c.requires.number
    c.loop-run.count c.in-Some.run'.now c.loop-run.rest.now c.in-Some.later.now c.loop-run.invariant c.in-Some.ensures.cases.0 c.in-None.ensures

pub loop-run-preserved : goal.loop-run-preserved
loop-run-preserved t c =
    more_at c.args.entries.now c.requires.runs c.requires.distinct.apart c.args.number c.args.before c.requires.number
    c.loop-run.count c.in-Some-visit.next c.in-Some.run'.now c.loop-run.rest.now c.in-Some.later.now c.loop-run.invariant c.in-Some.ensures.cases.0 c.in-Some-visit.ensures

pub returns-then-count-number : goal.returns-then-count-number
returns-then-count-number t c =
    visiting_done c.args.entries.now c.requires.runs c.requires.distinct.apart c.args.number c.args.before c.requires.number
    c.loop-run.count c.loop-run.rest.now c.loop-run.invariant (nil_from_length c.loop-run.rest.now c.in_default.ensures.cases) c.if-count-number.true

pub returns-else-count-number : goal.returns-else-count-number
returns-else-count-number t c =
    visiting_wrong c.args.entries.now c.requires.runs c.requires.distinct.apart c.args.number c.args.before c.requires.number
    c.loop-run.count c.loop-run.rest.now c.loop-run.invariant (nil_from_length c.loop-run.rest.now c.in_default.ensures.cases) c.if-count-number.false
