use Rattle.std.proofs.Common.{◌<◌, ap, ◌∙◌, arith}
use Rattle.std.proofs.lemmas.List.{get_or-take}
use Rattle.k_shadow.specs.Content.{written, depth}
use Rattle.k_shadow.proofs.Levels.{front-at_levels}
use Rattle.k_shadow.proofs.shadow.Shadow.put_lanes.Goals as goal

pub put-requires-clause-room : goal.put-requires-clause-room
put-requires-clause-room g c = record {
  most = 4294967295;
  there = c.requires.room;
  within = λ level lt.
      let live : level < c.depth-depth.result = omega (arith, lt, c.depth-depth.ensures.count) in
      omega (arith, get_or-take c.depth-depth.result c.widened-each.result level 0 live, c.widened-each.ensures.small level (omega (arith, lt, c.requires.shallow)));
}

pub returns-clause-content : goal.returns-clause-content
returns-clause-content g c =
    let content = g.Self.Shadow.content c.args.self.now in
    c.put.ensures.content ∙ ap (λ times. written c.args.loc times content) (front-at_levels _ (depth content) (g.V.TimeLanes.time c.args.times) c.widened-each.result (omega arith) (omega arith) (λ k lt. c.widened-each.ensures.times k (omega arith)))
