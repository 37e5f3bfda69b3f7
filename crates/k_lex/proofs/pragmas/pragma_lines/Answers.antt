use Rattle.std.proofs.Common.{◌<◌, ◌≤◌, ◌++◌, length, take, refl, ap, ◌∙◌, arith}
use Rattle.std.proofs.lemmas.Bool.Decides.{nat_tests}
use Rattle.std.proofs.lemmas.List.{length-take}
use Rattle.k_lex.specs.PragmaLines.{pragma_by}
use Rattle.k_lex.specs.Tokens.{piece_in}
use Rattle.k_lex.specs.Shown.{shown}
use Rattle.k_lex.proofs.PragmaLaws.{lines_step, lines_stop}
use Rattle.k_lex.proofs.RunLaws
use Rattle.k_lex.proofs.pragmas.pragma_lines.Goals as goal

pub split_at-requires : goal.split_at-requires
split_at-requires c =
    let some : 0 < length c.loop-rest.rest.now = grind (arith, nat_tests, c.loop-rest-test.true, c.loop-rest-test.ensures) in
    let pe = c.piece_in-piece.ensures ∙ ap (λ m. piece_in m c.loop-rest.rest.now) c.mode-mode.ensures in
    omega (arith, (RunLaws.piece_in_within c.loop-rest.state.mode c.loop-rest.rest.now some).1, ap (λ y. y.1) pe)

pub turn-requires-clause-within : goal.turn-requires-clause-within
turn-requires-clause-within c =
    let some : 0 < length c.loop-rest.rest.now = grind (arith, nat_tests, c.loop-rest-test.true, c.loop-rest-test.ensures) in
    let pe = c.piece_in-piece.ensures ∙ ap (λ m. piece_in m c.loop-rest.rest.now) c.mode-mode.ensures in
    omega (arith, (RunLaws.piece_in_within c.loop-rest.state.mode c.loop-rest.rest.now some).1, ap (λ y. y.1) pe)

pub turn-requires-clause-readable : goal.turn-requires-clause-readable
turn-requires-clause-readable c =
    let pe = c.piece_in-piece.ensures ∙ ap (λ m. piece_in m c.loop-rest.rest.now) c.mode-mode.ensures in
    let text = c.loop-rest.rest.now in
    let n = c.piece_in-piece.result.1 in
    let short : length (take n text) ≤ length text = omega (arith, length-take n text) in
    record {
      name = RunLaws.read_name c.loop-rest.state.mode text (take n text) c.piece_in-piece.result.0 n pe refl;
      room = (omega (arith, short), omega (arith, short));
    }

pub returns-in-Err-Refused : goal.returns-in-Err-Refused
returns-in-Err-Refused c =
    let some : 0 < length c.loop-rest.rest.now = grind (arith, nat_tests, c.loop-rest-test.true, c.loop-rest-test.ensures) in
    let pe = c.piece_in-piece.ensures ∙ ap (λ m. piece_in m c.loop-rest.rest.now) c.mode-mode.ensures in
    let noted = c.in_ok-note.ensures ∙ ap (λ m. c.loop-rest.lines.items ++ pragma_by m c.split_at.result.0.now c.piece_in-piece.result.0) c.mode-mode.ensures in
    lines_stop c.loop-rest.place (shown c.loop-rest.state) c.loop-rest.rest.now c.split_at.result.0.now
    c.piece_in-piece.result.0 c.piece_in-piece.result.1 _ _ _ c.loop-rest.lines.items _
    c.in-Err-Refused.field-0-is pe some c.split_at.ensures.front c.in-Err-Refused.ensures.gives noted c.loop-rest.invariant.left

pub loop-rest-smaller : goal.loop-rest-smaller
loop-rest-smaller c =
    let some : 0 < length c.loop-rest.rest.now = grind (arith, nat_tests, c.loop-rest-test.true, c.loop-rest-test.ensures) in
    let pe = c.piece_in-piece.ensures ∙ ap (λ m. piece_in m c.loop-rest.rest.now) c.mode-mode.ensures in
    omega (arith, (RunLaws.piece_in_within c.loop-rest.state.mode c.loop-rest.rest.now some).0, ap (λ y. y.1) pe)

pub loop-rest-preserved : goal.loop-rest-preserved
loop-rest-preserved c =
    let some : 0 < length c.loop-rest.rest.now = grind (arith, nat_tests, c.loop-rest-test.true, c.loop-rest-test.ensures) in
    let pe = c.piece_in-piece.ensures ∙ ap (λ m. piece_in m c.loop-rest.rest.now) c.mode-mode.ensures in
    let noted = c.in_ok-note.ensures ∙ ap (λ m. c.loop-rest.lines.items ++ pragma_by m c.split_at.result.0.now c.piece_in-piece.result.0) c.mode-mode.ensures in
    record {
      left = lines_step c.loop-rest.place c.behind-place.result (shown c.loop-rest.state) (shown c.turn.new.state) c.loop-rest.rest.now c.split_at.result.0.now c.split_at.result.1.now
          c.piece_in-piece.result.0 c.piece_in-piece.result.1 _ c.loop-rest.lines.items _
          pe some c.split_at.ensures.front c.split_at.ensures.back c.behind-place.ensures.exact c.in-Ok.ensures.gives noted c.loop-rest.invariant.left;
      sound = c.in-Ok.ensures.sound;
      line = omega arith;
      column = omega arith;
    }
