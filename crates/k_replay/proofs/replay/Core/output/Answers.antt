use Rattle.std.proofs.Common.{◌≡◌, ◌++◌, List, subst, ℕ}
use Rattle.k_replay.specs.Plays.{Play}
use Rattle.k_replay.proofs.Going.{prefix}
use Rattle.k_replay.proofs.replay.Core.output.Goals as goal

pub returns-clause-prefix : goal.returns-clause-prefix
returns-clause-prefix c =
    let is : c.self.inside.state.play ≡ c.args.self.now = c.self.view_is in
    subst (λ (p : Play). (rest : List ℕ) × (p.output ++ rest ≡ p.tape.output)) is (prefix c.self.inside.state.play c.self.invariant.sound)
