use Rattle.std.proofs.Common.{◌≡◌, length, vec_len, rules, arith}
use Rattle.k_shadow_rows.proofs.Widened.{all_widened}
use Rattle.k_shadow_rows.proofs.lists.widened.Goals as goal

pub returns : goal.returns
returns g c =
    let j = c.loop-row in
    let rows = c.args.rows.now in
    let all : j.row-index ≡ length rows = omega (arith, c.loop-row-test.false, j.auto.row-index-end) in
    let size : vec_len j.wide ≡ length rows = omega (arith, j.invariant.size, all) in
    let counted : vec_len j.wide ≡ length j.wide.items = search rules in
    let items : length j.wide.items ≡ length rows = omega (arith, size, counted) in
    record { ok = (size, all_widened g.W.LevelRow.seen g.W.LevelRow.blank g.R.LevelRow.seen g.R.LevelRow.blank j.wide.items rows g.met.W.LevelRow.never g.met.R.LevelRow.never items (λ k lt. j.invariant.same k (omega (arith, lt, all)))) }
