use Rattle.std.specs.Int.{w32}
use Rattle.std.proofs.lemmas.Int.{to_z-of_z}
use Rattle.k_replay_run.proofs.Replaying.{fired}
use Rattle.k_replay_run.proofs.replay.fired_text.Goals as goal

pub returns : goal.returns
returns c =
    fired c.args.seed c.args.workers c.len-ops.result c.args.tape.now c.args.exit _ c.in_ok-core.core c.run_rounds.new.core c.in_ok-schedule.schedule
    c.output.result.now c.in_ok-text.text.items c.from_vec.result c.requires.tape c.in_ok-core.ensures c.in_ok-schedule.ensures c.output.ensures.output
    c.len-ops.ensures (to_z-of_z w32 c.args.exit c.ranges.exit) c.in_ok-text.ensures c.from_vec.ensures
