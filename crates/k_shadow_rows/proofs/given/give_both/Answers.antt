use Rattle.std.proofs.Common.{◌≡◌, ℕ, ◌+◌, ◌≤◌, ◌<◌, get_or, ap, ◌∙◌, arith, rules, subst, ⊎_elim}
use Rattle.std.proofs.lemmas.Bool.{cases_lt}
use Rattle.k_shadow.specs.Content.{time_after}
use Rattle.k_shadow_rows.specs.Given.{after_live_rows}
use Rattle.k_shadow_rows.specs.Rows.{rows_at}
use Rattle.k_shadow_rows.proofs.Ranges.{given-more}
use Rattle.k_shadow_rows.proofs.given.give_both.Goals as goal

pub loop-level-preserved : goal.loop-level-preserved
loop-level-preserved g c =
    let j = c.loop-level in
    let times : ℕ → ℕ = after_live_rows (rows_at g.R.LevelRow.seen g.R.LevelRow.blank c.args.rows.now c.args.left) (rows_at g.R.LevelRow.seen g.R.LevelRow.blank c.args.rows.now c.args.right) c.args.before.now c.args.latency in
    let time : c.after_both-time.result ≡ times j.level = c.after_both-time.ensures.time ∙ (λ i. time_after (j.invariant.given.behind c.args.left j.level (omega arith) i) (j.invariant.given.behind c.args.right j.level (omega arith) i) (get_or c.args.before.now j.level 0) c.args.latency) in
    let here : (k : ℕ) → j.level ≤ k → k < j.level + 1 → c.after_both-time.result ≡ times k = λ k le lt. time ∙ (let e : j.level ≡ k = omega arith in ap times e) in
    let is_so : get_or c.args.numbers.now j.level 0 ≤ c.args.stamp = search rules in
    let more_live : (k : ℕ) → k < j.level + 1 → get_or c.args.numbers.now k 0 ≤ c.args.stamp = λ k lt. ⊎_elim (λ (so_far : k < j.level). j.invariant.live k so_far) (λ (last : j.level ≤ k). (let e : j.level ≡ k = omega arith in let P : ℕ → Type 0 = λ m. get_or c.args.numbers.now m 0 ≤ c.args.stamp in subst P e is_so)) (cases_lt k j.level) in
    record { size = c.give.ensures.size ∙ j.invariant.size; steps = omega (arith, j.invariant.steps, c.after_both-time.ensures.step); live = more_live; given = given-more times (λ _. c.after_both-time.result) c.args.to 0 j.level (j.level + 1) (rows_at g.R.LevelRow.seen g.R.LevelRow.blank c.args.rows.now) (rows_at g.R.LevelRow.seen g.R.LevelRow.blank j.rows) (rows_at g.R.LevelRow.seen g.R.LevelRow.blank c.give.new.rows) c.args.paths.now j.paths c.give.new.paths (omega arith) (omega arith) j.invariant.given (c.give.ensures.given) here }
