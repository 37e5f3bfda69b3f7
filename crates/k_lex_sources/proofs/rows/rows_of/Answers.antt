use Rattle.std.proofs.Common.{◌<◌, false, List, length, ap, ◌∙◌, arith}
use Rattle.std.proofs.lemmas.Bool.Decides.{nat_tests}
use Rattle.k_lex_sources.specs.declared.rows.Cut.{Cut}
use Rattle.k_lex_sources.specs.Rows.{front_of}
use Rattle.k_lex_sources.proofs.RowLaws
use Rattle.k_lex_sources.proofs.rows.rows_of.Goals as goal

pub split_at-requires : goal.split_at-requires
split_at-requires c =
    let some : 0 < length c.loop-rest.rest.now = grind (arith, nat_tests, c.loop-rest-test.true, c.loop-rest-test.ensures) in
    let short = RowLaws.count_within c.args.unread.now c.as_slice.result.now c.loop-rest.rest.now c.loop-rest.there.now some in
    omega (arith, short.1, c.front_of-turn.ensures.count)

pub take_piece-requires : goal.take_piece-requires
take_piece-requires c =
    let some : 0 < length c.loop-rest.rest.now = grind (arith, nat_tests, c.loop-rest-test.true, c.loop-rest-test.ensures) in
    let short = RowLaws.count_within c.args.unread.now c.as_slice.result.now c.loop-rest.rest.now c.loop-rest.there.now some in
    omega (arith, short.1, c.front_of-turn.ensures.count, c.split_at.ensures.front_len, c.loop-rest.invariant.short, c.requires)

pub loop-rest-smaller : goal.loop-rest-smaller
loop-rest-smaller c =
    let some : 0 < length c.loop-rest.rest.now = grind (arith, nat_tests, c.loop-rest-test.true, c.loop-rest-test.ensures) in
    let short = RowLaws.count_within c.args.unread.now c.as_slice.result.now c.loop-rest.rest.now c.loop-rest.there.now some in
    omega (arith, short.0, short.1, c.front_of-turn.ensures.count, c.split_at.ensures.back_len)

pub loop-rest-preserved : goal.loop-rest-preserved
loop-rest-preserved c =
    let some : 0 < length c.loop-rest.rest.now = grind (arith, nat_tests, c.loop-rest-test.true, c.loop-rest-test.ensures) in
    let text = c.loop-rest.rest.now in
    let places = c.loop-rest.there.now in
    record {
      left = RowLaws.goes_further c.args.unread.now c.loop-rest.reading c.take_piece.new.self c.in_ok-take_piece.field-0 text c.split_at.result.0.now c.split_at.result.1.now
          places c.without-there.result.now c.front_of-turn.result.0 c.front_of-turn.result.1 _ some
          (c.front_of-turn.ensures.turn ∙ ap (λ (row : List Cut). (front_of c.args.unread.now row false text places).turn) c.as_slice.ensures)
          (c.front_of-turn.ensures.count ∙ ap (λ (row : List Cut). (front_of c.args.unread.now row false text places).count) c.as_slice.ensures)
          c.split_at.ensures.front c.split_at.ensures.back c.without-there.ensures c.if-not-branch.false c.in_ok-take_piece.ensures c.loop-rest.invariant.left;
      short = omega (arith, c.split_at.ensures.back_len, c.loop-rest.invariant.short);
    }
