use Rattle.std.proofs.Common.{◌≤◌, ◌++◌, [], ◌∷◌, arith, ap}
use Rattle.k_shadow.specs.Rows.{WereStamped}
use Rattle.k_shadow.proofs.Rows.{WereStamped-append}
use Rattle.k_shadow.proofs.saved_rows.add_row.Goals as goal

pub returns-in_ok-push-clause-stamped : goal.returns-in_ok-push-clause-stamped
returns-in_ok-push-clause-stamped c = λ given h.
    let row = c.blank.result in
    let low : row.stamp ≤ given = omega (arith, ap (λ r. r.stamp) c.blank.ensures.blank) in
    let all : WereStamped given (c.args.rows.now.items ++ row ∷ []) = WereStamped-append given c.args.rows.now.items (row ∷ []) h (low, tt) in
    rw c.in_ok-push.ensures.items all
