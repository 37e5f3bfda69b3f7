use Rattle.std.proofs.lemmas.Result.{IfOk-weaker}
use Rattle.k_replay_run.proofs.Replaying.{replays}
use Rattle.k_replay_run.proofs.replay.replay_run.Goals as goal

pub returns : goal.returns
returns c =
    IfOk-weaker c.replayed.result _ _
    (λ replay told unit accepted marks.
    replays (record { unit = c.args.unit.now; marks = c.args.marks.now; latencies = c.args.latencies.now }) c.args.input.now c.args.budget c.args.workers c.args.seed
    c.in_ok-tape.tape (c.in_ok-tape.ensures.run unit accepted marks) replay told)
    c.replayed.ensures
