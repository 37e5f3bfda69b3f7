use Rattle.std.proofs.Common.{◌<◌, ◌≤◌, sym, ◌∙◌, arith, ⊎_elim}
use Rattle.std.proofs.lemmas.Bool.{cases_lt}
use Rattle.k_shadow_rows.proofs.Widened.{seen_same}
use Rattle.k_shadow_rows.proofs.lists.widened_row.Goals as goal

pub returns : goal.returns
returns g c =
    let j = c.loop-level in
    let width = g.R.LevelRow.width in
    seen_same (g.W.LevelRow.seen j.wide) (g.R.LevelRow.seen c.args.row.now) j.invariant.stamp (λ k. ⊎_elim
    (λ (lt : k < width). j.invariant.same k (omega arith))
    (λ (ge : width ≤ k). j.invariant.rest k (omega arith) ∙ sym (c.levels-level-end.ensures.behind k ge))
    (cases_lt k width))
