use Rattle.std.proofs.Common.{◌<◌, length, sym, ◌∙◌, arith}
use Rattle.std.proofs.lemmas.Bool.Decides.{nat_tests}
use Rattle.k_lex_pieces.proofs.LiteralLaws.{content_step}
use Rattle.k_lex_pieces.proofs.literals.content.Goals as goal

pub loop-rest-preserved : goal.loop-rest-preserved
loop-rest-preserved c =
    let some : 0 < length c.loop-rest.rest.now = grind (arith, nat_tests, c.loop-rest-test.true, c.loop-rest-test.ensures) in
    record {
      room = (omega arith, omega arith);
      left = content_step _ _ _ _ _ _ _ _ _ _ c.item_length.ensures.found (c.item_length.ensures.some some) c.item_length.ensures.within c.split_at.ensures.front c.split_at.ensures.back c.behind-place.ensures.exact (sym c.item.ensures ∙ c.in_ok-byte.was) c.in_ok-push.ensures.ok c.loop-rest.invariant.left;
    }
