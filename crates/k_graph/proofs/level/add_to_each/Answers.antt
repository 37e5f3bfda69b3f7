use Rattle.std.proofs.Common.{length, ◌<◌, get_or, arith, ap, ◌∙◌}
use Rattle.std.proofs.Math.ListN.{set}
use Rattle.std.proofs.lemmas.List.Edits.{map_over_more}
use Rattle.k_graph.specs.Levels.{added}
use Rattle.k_graph.proofs.level.add_to_each.Goals as goal

pub loop-level-preserved : goal.loop-level-preserved
loop-level-preserved c =
    let within : c.loop-level.level-index < length c.args.levels.now = omega arith in
    ap (λ x. set c.loop-level.levels c.loop-level.level-index x) c.in_ok-add.ensures
    ∙ map_over_more (added c.args.latency c.args.sources.now) c.args.levels.now c.loop-level.levels c.loop-level.level-index
    (get_or c.loop-level.levels c.loop-level.level-index c.level-item.result) within c.loop-level.invariant
    (ap (λ d. get_or c.loop-level.levels c.loop-level.level-index d) c.level-item.is)
