use Rattle.std.proofs.Common.{◌≡◌, List, sym, subst, ◌-◌, ◌+◌}
use Rattle.k_dict_saved.specs.Syntax.{runs_at}
use Rattle.k_dict_entries.specs.declared.entry.Run.{Run}
use Rattle.k_dict_saved.proofs.ReadingRuns.{ends_here, goes_on, no_room, no_run, with_front}
use Rattle.k_dict_saved.proofs.reading.lines.runs.Goals as goal

pub returns-in-Some : goal.returns-in-Some
returns-in-Some c =
    ends_here c.loop.runs c.args.high c.loop.counter c.loop.rest.now (runs_at c.args.high 1048576 c.args.text.now) c.in-Some.behind.now c.in-Some.ensures c.loop.invariant

pub returns-in_default-run : goal.returns-in_default-run
returns-in_default-run c =
    no_run c.loop.runs c.args.high c.loop.counter c.loop.rest.now (runs_at c.args.high 1048576 c.args.text.now) c.loop-test.true c.in_default.ensures c.in_default-run.ensures
    c.loop.invariant

pub loop-preserved : goal.loop-preserved
loop-preserved c =
    let P : List Run → Type 0 = λ l. with_front l (runs_at c.args.high (1048576 - (c.loop.counter + 1)) c.in-Some-run.behind.now) ≡ runs_at c.args.high 1048576 c.args.text.now in
    subst P (sym c.in_default-push.ensures.ok)
    (goes_on c.loop.runs c.args.high c.loop.counter c.loop.rest.now (runs_at c.args.high 1048576 c.args.text.now) c.in-Some-run.next c.in-Some-run.behind.now c.loop-test.true
    c.in_default.ensures c.in-Some-run.ensures c.loop.invariant)

pub returns-in-Some-word : goal.returns-in-Some-word
returns-in-Some-word c =
    ends_here c.loop.runs c.args.high c.loop.counter c.loop.rest.now (runs_at c.args.high 1048576 c.args.text.now) c.in-Some-word.behind.now c.in-Some-word.ensures c.loop.invariant

pub returns : goal.returns
returns c =
    no_room c.loop.runs c.args.high c.loop.counter c.loop.rest.now (runs_at c.args.high 1048576 c.args.text.now) c.loop-test.false c.in-None.ensures c.loop.invariant
