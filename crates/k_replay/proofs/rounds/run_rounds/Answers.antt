use Rattle.std.proofs.Common.{◌≡◌, ◌<◌, ◌+◌, ◌∙◌, ℕ, replicate, refl, sym, ap, subst, arith, rules}
use Rattle.k_gen.specs.Draw as row
use Rattle.k_replay.specs.Plays.{left_in}
use Rattle.k_replay.specs.Rounds.{Rounds, Standing, begun, nothing_done}
use Rattle.k_replay.proofs.Advancing.{drawn, first_row, round_moves, rounds_more, rounds_none}
use Rattle.k_replay.proofs.rounds.run_rounds.Goals as goal

pub loop-core-init : goal.loop-core-init
loop-core-init c =
    let zeros : c.in_ok-tallies.tallies.items ≡ replicate c.args.workers nothing_done = search rules in
    record {
      rounds = rounds_none c.args.seed c.args.workers c.args.core.now c.in_ok-tallies.tallies.items zeros;
      row = first_row c.args.seed;
      below = omega arith;
      workers = sym c.requires.workers;
      tallies = search rules;
    }

pub loop-core-smaller : goal.loop-core-smaller
loop-core-smaller c =
    let some : 0 < left_in c.loop-core.core.values = omega (arith, c.left.ensures.left, c.loop-core-test.true) in
    round_moves c.args.workers c.loop-core.core c.next_round.new.core (omega (arith, c.requires.some)) c.loop-core.invariant.workers some
    (c.left.ensures.goes_on c.loop-core-test.true) c.in_ok-state.ensures.moves

pub loop-core-preserved : goal.loop-core-preserved
loop-core-preserved c =
    let some : 0 < left_in c.loop-core.core.values = omega (arith, c.left.ensures.left, c.loop-core-test.true) in
    let before : Standing = begun c.args.workers c.args.core.now in
    let now : Standing = record { play = c.loop-core.core; tallies = c.loop-core.tallies.items } in
    let after : Standing = record { play = c.next_round.new.core; tallies = c.next_round.new.tallies.items } in
    let drawn_row : row.next c.loop-core.state ≡ row.state c.args.seed (c.loop-core.rounds + 1)
    = drawn c.args.seed c.loop-core.rounds c.loop-core.state (row.next c.loop-core.state) c.loop-core.invariant.row refl in
    record {
      rounds = subst (λ (n : ℕ). Rounds c.args.seed c.args.workers n before after) (sym c.in_ok-rounds.ensures)
          (rounds_more c.args.seed c.args.workers c.loop-core.rounds (row.next c.loop-core.state) before now after c.loop-core.invariant.rounds some drawn_row
          c.in_ok-state.ensures.turns);
      row = c.in_ok-state.ensures.next ∙ drawn_row ∙ ap (λ (n : ℕ). row.state c.args.seed n) (sym c.in_ok-rounds.ensures);
      below = c.in_ok-state.ensures.below;
      workers = c.in_ok-state.ensures.workers;
      tallies = c.in_ok-state.ensures.tallies;
    }
