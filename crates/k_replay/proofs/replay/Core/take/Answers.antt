use Rattle.std.proofs.Common.{◌≡◌, ◌∙◌, ap, length}
use Rattle.k_replay.specs.Plays.{Play}
use Rattle.k_replay.proofs.Advancing.{takes_workers}
use Rattle.k_replay.proofs.replay.Core.take.Goals as goal

pub returns-clause-workers : goal.returns-clause-workers
returns-clause-workers c =
    let is : c.self.inside.state.play ≡ c.args.self.now = c.self.view_is in
    takes_workers c.self.inside.state.play c.take.new.self.play c.args.worker c.take.result c.take.ensures.takes ∙ ap (λ (p : Play). length p.held) is
