use Rattle.k_top_lemmas.specs.Parts.{running_of}
use Rattle.k_top_commands.proofs.Replaying.{returned_replayed}
use Rattle.k_top_commands.proofs.replayed.replay_answer.Goals as goal

pub returns-in-Returned : goal.returns-in-Returned
returns-in-Returned c =
    returned_replayed c.args.workers c.args.seed (running_of c.args.ready.now) c.in_ok-replay.replay c.in_ok-replay.ensures c.in-Returned._exit c.in-Returned.is
    c.into_vec.result.items c.into_vec.ensures _ c.done.ensures
