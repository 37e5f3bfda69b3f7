use Rattle.std.proofs.Common.{◌≡◌, ℕ, ◌+◌, ◌≤◌, ◌<◌, get_or, max, ap, ◌∙◌, ◌%◌, ◌^◌, arith, rules, subst, ⊎_elim}
use Rattle.std.proofs.lemmas.Bool.{cases_lt}
use Rattle.k_shadow_rows.specs.Given.{after_live_row}
use Rattle.k_shadow_rows.specs.Rows.{rows_at}
use Rattle.k_shadow_rows.proofs.Ranges.{given-more}
use Rattle.k_shadow_rows.proofs.given.give_one.Goals as goal

pub loop-level-preserved : goal.loop-level-preserved
loop-level-preserved g c =
    let j = c.loop-level in
    let times : ℕ → ℕ = after_live_row (rows_at g.R.LevelRow.seen g.R.LevelRow.blank c.args.rows.now c.args.from) c.args.before.now c.args.latency in
    let time : c.after_one-time.result ≡ times j.level = c.after_one-time.ensures.time ∙ (λ i. (max (j.invariant.given.behind c.args.from j.level (omega arith) i) (get_or c.args.before.now j.level 0) + c.args.latency) % 2 ^ 64) in
    let here : (k : ℕ) → j.level ≤ k → k < j.level + 1 → c.after_one-time.result ≡ times k = λ k le lt. time ∙ (let e : j.level ≡ k = omega arith in ap times e) in
    let is_so : get_or c.args.numbers.now j.level 0 ≤ c.args.stamp = search rules in
    let more_live : (k : ℕ) → c.args.low ≤ k → k < j.level + 1 → get_or c.args.numbers.now k 0 ≤ c.args.stamp = λ k le lt. ⊎_elim (λ (so_far : k < j.level). j.invariant.live k le so_far) (λ (last : j.level ≤ k). (let e : j.level ≡ k = omega arith in let P : ℕ → Type 0 = λ m. get_or c.args.numbers.now m 0 ≤ c.args.stamp in subst P e is_so)) (cases_lt k j.level) in
    record { size = c.give.ensures.size ∙ j.invariant.size; steps = omega (arith, j.invariant.steps, c.after_one-time.ensures.step); live = more_live; from = omega (arith, j.invariant.from); given = given-more times (λ _. c.after_one-time.result) c.args.to c.args.low j.level (j.level + 1) (rows_at g.R.LevelRow.seen g.R.LevelRow.blank c.args.rows.now) (rows_at g.R.LevelRow.seen g.R.LevelRow.blank j.rows) (rows_at g.R.LevelRow.seen g.R.LevelRow.blank c.give.new.rows) c.args.paths.now j.paths c.give.new.paths (omega arith) (omega arith) j.invariant.given (c.give.ensures.given) here }
