use Rattle.std.proofs.Common.{◌<◌, ◌≤◌, length, take, refl, ap, ◌∙◌, arith}
use Rattle.std.proofs.lemmas.Bool.Decides.{nat_tests}
use Rattle.std.proofs.lemmas.List.{length-take}
use Rattle.k_lex.specs.Tokens.{piece_in}
use Rattle.k_lex.specs.Shown.{shown}
use Rattle.k_lex.proofs.RunLaws
use Rattle.k_lex.proofs.source.read.Goals as goal

pub split_at-requires : goal.split_at-requires
split_at-requires c =
    let some : 0 < length c.loop-rest.rest.now = grind (arith, nat_tests, c.loop-rest-test.true, c.loop-rest-test.ensures) in
    let pe = c.piece_in-piece.ensures ∙ ap (λ m. piece_in m c.loop-rest.rest.now) c.mode.ensures in
    omega (arith, (RunLaws.piece_in_within c.loop-rest.state.mode c.loop-rest.rest.now some).1, ap (λ y. y.1) pe)

pub turn-requires-clause-sound : goal.turn-requires-clause-sound
turn-requires-clause-sound c = c.loop-rest.invariant.sound

pub turn-requires-clause-within : goal.turn-requires-clause-within
turn-requires-clause-within c =
    let some : 0 < length c.loop-rest.rest.now = grind (arith, nat_tests, c.loop-rest-test.true, c.loop-rest-test.ensures) in
    let pe = c.piece_in-piece.ensures ∙ ap (λ m. piece_in m c.loop-rest.rest.now) c.mode.ensures in
    omega (arith, (RunLaws.piece_in_within c.loop-rest.state.mode c.loop-rest.rest.now some).1, ap (λ y. y.1) pe)

pub turn-requires-clause-readable : goal.turn-requires-clause-readable
turn-requires-clause-readable c =
    let pe = c.piece_in-piece.ensures ∙ ap (λ m. piece_in m c.loop-rest.rest.now) c.mode.ensures in
    let text = c.loop-rest.rest.now in
    let n = c.piece_in-piece.result.1 in
    let short : length (take n text) ≤ length text = omega (arith, length-take n text) in
    record {
      name = RunLaws.read_name c.loop-rest.state.mode text (take n text) c.piece_in-piece.result.0 n pe refl;
      room = (omega (arith, short), omega (arith, short));
    }

pub behind-place-requires : goal.behind-place-requires
behind-place-requires c = (omega arith, omega arith)

pub loop-rest-smaller : goal.loop-rest-smaller
loop-rest-smaller c =
    let some : 0 < length c.loop-rest.rest.now = grind (arith, nat_tests, c.loop-rest-test.true, c.loop-rest-test.ensures) in
    let pe = c.piece_in-piece.ensures ∙ ap (λ m. piece_in m c.loop-rest.rest.now) c.mode.ensures in
    omega (arith, (RunLaws.piece_in_within c.loop-rest.state.mode c.loop-rest.rest.now some).0, ap (λ y. y.1) pe)

pub loop-rest-preserved : goal.loop-rest-preserved
loop-rest-preserved c =
    let some : 0 < length c.loop-rest.rest.now = grind (arith, nat_tests, c.loop-rest-test.true, c.loop-rest-test.ensures) in
    let pe = c.piece_in-piece.ensures ∙ ap (λ m. piece_in m c.loop-rest.rest.now) c.mode.ensures in
    record {
      left = RunLaws.run_step c.loop-rest.place c.behind-place.result (shown c.loop-rest.state) (shown c.turn.new.state) c.loop-rest.rest.now c.split_at.result.0.now c.split_at.result.1.now
          c.piece_in-piece.result.0 c.piece_in-piece.result.1 _ pe some c.split_at.ensures.front c.split_at.ensures.back c.behind-place.ensures.exact c.in_default.ensures.gives c.loop-rest.invariant.left;
      sound = c.in_default.ensures.sound;
      line = omega arith;
      column = omega arith;
    }

pub returns-in-Err : goal.returns-in-Err
returns-in-Err c =
    let some : 0 < length c.loop-rest.rest.now = grind (arith, nat_tests, c.loop-rest-test.true, c.loop-rest-test.ensures) in
    let pe = c.piece_in-piece.ensures ∙ ap (λ m. piece_in m c.loop-rest.rest.now) c.mode.ensures in
    RunLaws.fails_run c.loop-rest.place (shown c.loop-rest.state) c.loop-rest.rest.now
    c.piece_in-piece.result.0 c.piece_in-piece.result.1 c.in-Err.stop _ pe some c.in-Err.ensures.gives c.loop-rest.invariant.left

pub step-requires-clause-sound : goal.step-requires-clause-sound
step-requires-clause-sound c = c.loop-rest.invariant.sound

pub step-requires-clause-readable : goal.step-requires-clause-readable
step-requires-clause-readable c = record { name = λ e. cc; room = (omega arith, omega arith) }
