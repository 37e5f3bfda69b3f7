use Rattle.std.proofs.Common.{◌≡◌, ℕ, ◌+◌, ◌≤◌, ◌<◌, ap, ◌∙◌, arith}
use Rattle.k_shadow.specs.Content.{after_none}
use Rattle.k_shadow_rows.specs.Rows.{rows_at}
use Rattle.k_shadow_rows.proofs.Ranges.{given-more}
use Rattle.k_shadow_rows.proofs.given.give_none.Goals as goal

pub loop-level-preserved : goal.loop-level-preserved
loop-level-preserved g c =
    let j = c.loop-level in
    let times : ℕ → ℕ = after_none c.args.before.now c.args.latency in
    let time : c.after-time.result ≡ times j.level = c.after-time.ensures in
    let here : (k : ℕ) → j.level ≤ k → k < j.level + 1 → c.after-time.result ≡ times k = λ k le lt. time ∙ (let e : j.level ≡ k = omega arith in ap times e) in
    record { size = c.give.ensures.size ∙ j.invariant.size; from = omega (arith, j.invariant.from); given = given-more times (λ _. c.after-time.result) c.args.to c.args.low j.level (j.level + 1) (rows_at g.R.LevelRow.seen g.R.LevelRow.blank c.args.rows.now) (rows_at g.R.LevelRow.seen g.R.LevelRow.blank j.rows) (rows_at g.R.LevelRow.seen g.R.LevelRow.blank c.give.new.rows) c.args.paths.now j.paths c.give.new.paths (omega arith) (omega arith) j.invariant.given (c.give.ensures.given) here }
