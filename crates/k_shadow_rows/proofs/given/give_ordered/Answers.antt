use Rattle.std.proofs.Common.{ℕ, ◌<◌, ◌≤◌, length, get_or, arith, ⊎_elim}
use Rattle.std.proofs.lemmas.Bool.{cases_lt}
use Rattle.k_shadow_rows.specs.Given.{IsLive, after_live_rows}
use Rattle.k_shadow_rows.specs.Rows.{rows_at}
use Rattle.k_shadow_rows.proofs.Ranges.{one_and_none, both_and_one, longer_same, live-by_stamp}
use Rattle.k_shadow_rows.proofs.given.give_ordered.Goals as goal

pub returns-clause-given : goal.returns-clause-given
returns-clause-given g c =
    let rows = rows_at g.R.LevelRow.seen g.R.LevelRow.blank c.args.rows.now in
    let both = rows_at g.R.LevelRow.seen g.R.LevelRow.blank c.give_both-both.new.rows in
    let one = rows_at g.R.LevelRow.seen g.R.LevelRow.blank c.give_one-one.new.rows in
    let none = rows_at g.R.LevelRow.seen g.R.LevelRow.blank c.give_none.new.rows in
    let numbers = c.args.numbers.now in
    let before = c.args.before.now in
    let latency = c.args.latency in
    let S = rows c.args.older in
    let L = rows c.args.newer in
    let low = c.give_both-both.result in
    let high = c.give_one-one.result in
    let of_first = longer_same c.args.newer c.args.to low high (after_live_rows S L before latency) rows both one before latency c.args.paths.now c.give_both-both.new.paths c.give_one-one.new.paths c.give_both-both.ensures.given c.give_one-one.ensures.given in
    let inner : (k : ℕ) → k < high → get_or numbers k 0 ≤ L.stamp = λ k lt. ⊎_elim
    (λ (in_both : k < low). omega (arith, c.give_both-both.ensures.live k in_both, c.requires.order, c.requires.high))
    (λ (in_one : low ≤ k). omega (arith, c.give_one-one.ensures.live k in_one lt, c.requires.high))
    (cases_lt k low) in
    let short : IsLive S numbers low = live-by_stamp S numbers low (λ k lt. omega (arith, c.give_both-both.ensures.live k lt, c.requires.low)) (λ k le lt. omega (arith, c.give_both-both.ensures.gone k le lt, c.requires.low)) in
    let long : IsLive L numbers high = live-by_stamp L numbers high inner (λ k le lt. omega (arith, c.give_one-one.ensures.gone k le lt, c.requires.high)) in
    both_and_one S L numbers before latency c.args.to low high (length before) rows both none c.args.paths.now c.give_both-both.new.paths c.give_none.new.paths c.give_one-one.ensures.low c.give_both-both.ensures.few c.requires.each short long c.give_both-both.ensures.given
    (one_and_none L numbers before latency c.args.to low high (length before) both one none c.give_both-both.new.paths c.give_one-one.new.paths c.give_none.new.paths c.give_one-one.ensures.low c.give_one-one.ensures.few c.requires.each long of_first c.give_none.ensures.given)
