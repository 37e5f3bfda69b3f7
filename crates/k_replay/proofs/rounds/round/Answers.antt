use Rattle.std.proofs.Common.{◌≡◌, ◌∙◌, ℕ, sym, subst, arith}
use Rattle.k_replay.specs.Progress.{Moves}
use Rattle.k_replay.specs.Rounds.{Standing, Turn}
use Rattle.k_replay.proofs.Advancing.{MovedSoFar, moved_all, moved_more, moved_none, turns_more, turns_none}
use Rattle.k_replay.proofs.rounds.round.Goals as goal

pub loop-i-init : goal.loop-i-init
loop-i-init c = record {
  turns = turns_none c.args.workers c.args.first (record { play = c.args.core.now; tallies = c.args.tallies.now.items });
  workers = sym c.requires.workers;
  tallies = c.requires.tallies;
  moved = moved_none c.args.workers c.args.first c.args.core.now;
}

pub loop-i-preserved : goal.loop-i-preserved
loop-i-preserved c =
    let before : Standing = record { play = c.args.core.now; tallies = c.args.tallies.now.items } in
    let now : Standing = record { play = c.loop-i.core; tallies = c.loop-i.tallies.items } in
    let after : Standing = record { play = c.turn.new.core; tallies = c.turn.new.tallies.items } in
    record {
      turns = turns_more c.args.workers c.args.first c.loop-i.i before now after c.loop-i.invariant.turns
          (subst (λ (w : ℕ). Turn w now after) c.in_turn.ensures.value c.in_ok-turn.ensures.turn);
      workers = c.in_ok-turn.ensures.workers ∙ c.loop-i.invariant.workers;
      tallies = c.in_ok-turn.ensures.tallies ∙ c.loop-i.invariant.tallies;
      moved = moved_more c.args.workers c.args.first c.loop-i.i c.args.core.now c.loop-i.core c.turn.new.core c.loop-i.invariant.moved
          (subst (λ (w : ℕ). Moves w c.loop-i.core c.turn.new.core) c.in_turn.ensures.value c.in_ok-turn.ensures.moves);
    }

pub returns-clause-moves : goal.returns-clause-moves
returns-clause-moves c =
    let end : c.loop-i.i ≡ c.args.workers = omega (arith, c.loop-i.auto.i-end, c.loop-i-test.false) in
    moved_all c.args.workers c.args.first c.args.core.now c.loop-i.core c.requires.first
    (subst (λ (i : ℕ). MovedSoFar c.args.workers c.args.first i c.args.core.now c.loop-i.core) end c.loop-i.invariant.moved)
