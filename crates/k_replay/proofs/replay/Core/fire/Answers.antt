use Rattle.std.proofs.Common.{◌≡◌, ◌∙◌, ap, length}
use Rattle.k_replay.specs.Plays.{Play}
use Rattle.k_replay.proofs.Advancing.{fires_workers}
use Rattle.k_replay.proofs.replay.Core.fire.Goals as goal

pub returns-clause-workers : goal.returns-clause-workers
returns-clause-workers c =
    let is : c.self.inside.state.play ≡ c.args.self.now = c.self.view_is in
    fires_workers c.self.inside.state.play c.fire.new.self.play c.args.worker c.fire.result c.fire.ensures.fires ∙ ap (λ (p : Play). length p.held) is
