use Rattle.std.proofs.lemmas.Result.{IfOk-weaker}
use Rattle.k_top_commands.proofs.Replaying.{replays_run}
use Rattle.k_top_commands.proofs.replayed.replay_of.Goals as goal

pub returns : goal.returns
returns c =
    IfOk-weaker c.replay_run.result _ _
    (λ replay told. replays_run c.args.workers c.args.seed c.args.ready.now c.requires.fit c.as_slice.result.now c.as_slice.ensures replay told) c.replay_run.ensures
