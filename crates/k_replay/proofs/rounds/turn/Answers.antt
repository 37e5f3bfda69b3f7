use Rattle.std.proofs.Common.{◌<◌, inr, arith}
use Rattle.k_replay.specs.Plays.{left_in}
use Rattle.k_replay.proofs.Advancing.{turn_moves}
use Rattle.k_replay.proofs.rounds.turn.Goals as goal

pub returns-clause-moves : goal.returns-clause-moves
returns-clause-moves c =
    let some : 0 < left_in c.args.core.now.values = omega (arith, c.left.ensures.left, c.if-left-eq0.false) in
    turn_moves c.args.worker (record { play = c.args.core.now; tallies = c.args.tallies.now.items }) (record { play = c.act.new.core; tallies = c.act.new.tallies.items })
    c.left.ensures.sound c.requires.few (inr (some, c.in_ok-act.ensures.acts))
