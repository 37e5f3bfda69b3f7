use Rattle.std.proofs.Common.{◌<◌, ◌∙◌, arith}
use Rattle.std.proofs.lemmas.List.{get_or-take, length-take-le}
use Rattle.k_shadow_rows.proofs.Ranges.{narrow_great}
use Rattle.k_shadow_rows.proofs.lanes.put_slowly.Goals as goal

pub put-requires-clause-row : goal.put-requires-clause-row
put-requires-clause-row g c =
    let depth = c.args.depth in
    (c.requires.row.0, omega (arith, c.requires.row.1, length-take-le depth c.widened-each.result (omega arith)))

pub put-requires-clause-within : goal.put-requires-clause-within
put-requires-clause-within g c = λ k lt.
    let depth = c.args.depth in
    let few : k < depth = omega (arith, length-take-le depth c.widened-each.result (omega arith), lt) in
    omega (arith, get_or-take depth c.widened-each.result k 0 few, c.widened-each.ensures.small k (omega (arith, few, c.requires.depth)), narrow_great c.args.rows.now)

pub returns-clause-given : goal.returns-clause-given
returns-clause-given g c =
    let depth = c.args.depth in
    let given = c.put.ensures.given in
    record {
      stamped = given.stamped;
      others = given.others;
      given = λ k lt. given.given k (omega (arith, length-take-le depth c.widened-each.result (omega arith))) ∙ get_or-take depth c.widened-each.result k 0 lt ∙ c.widened-each.ensures.times k (omega (arith, lt, c.requires.depth));
    }
