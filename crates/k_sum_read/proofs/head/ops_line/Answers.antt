use Rattle.std.proofs.Common.{◌≡◌, ℕ, List, Bor, arith}
use Rattle.k_sum_read.proofs.ExitSteps.{ops_found, other_total}
use Rattle.k_sum_read.proofs.head.ops_line.Goals as goal

pub returns-then-total-runs : goal.returns-then-total-runs
returns-then-total-runs c =
    let view : ℕ × Bor (List ℕ) → ℕ × List ℕ = λ found. (found.0, found.1.now) in
    let whole : c.args.total ≡ c.args.runs = omega (arith, c.if-total-runs.true) in
    ops_found view c.args.runs c.args.total c.args.text.now c.requires whole c.named.result c.named.ensures.value

pub returns-else-total-runs : goal.returns-else-total-runs
returns-else-total-runs c = other_total c.args.runs c.args.total c.args.text.now (λ whole. omega (arith, whole, c.if-total-runs.false))
