use Rattle.std.proofs.Common.{ℕ, ◌≡◌, List, Result, Err, refl, sym, subst, rules, arith}
use Rattle.k_top_answers.specs.declared.failure.Failure.{Failure}
use Rattle.k_top_answers.specs.Failures.{failure_of_table}
use Rattle.k_top_lemmas.specs.Parts.{GivesTable}
use Rattle.k_top_lemmas.proofs.LatencyLemmas.{told_bounded}
use Rattle.k_top_programs.proofs.loading.table.Goals as goal

pub returns-in_err-latencies-clause-table : goal.returns-in_err-latencies-clause-table
returns-in_err-latencies-clause-table c =
    let same : c.from_residual.result ≡ Err (failure_of_table c.in_err-latencies.field-0.0) = first_of (search rules, grind arith, cc) in
    subst (λ (r : Result (List ℕ) Failure). GivesTable r c.args.bytes.now) (sym same) (c.in_err-latencies.field-0.0, refl, c.in_err-latencies.ensures.refused)

pub returns-clause-bounded : goal.returns-clause-bounded
returns-clause-bounded c = told_bounded c.args.bytes.now c.in_ok-latencies.latencies c.in_ok-latencies.ensures.table
