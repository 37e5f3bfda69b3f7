use Rattle.std.proofs.Common.{ℕ, ◌≡◌, Result, Err, Vec, Global, refl, sym, subst, rules, arith}
use Rattle.k_top_answers.specs.declared.failure.Failure.{Failure}
use Rattle.k_top_answers.specs.Failures.{failure_of_reading}
use Rattle.k_top_lemmas.specs.Parts.{ReadsWhole}
use Rattle.k_top_programs.proofs.input.read_whole.Goals as goal

pub returns-in_err-bytes : goal.returns-in_err-bytes
returns-in_err-bytes g c =
    let seen = g.S.Source.seen in
    let same : c.from_residual.result ≡ Err (failure_of_reading c.in_err-bytes.field-0.0) = first_of (search rules, grind arith, cc) in
    subst (λ (r : Result (Vec ℕ Global) Failure). ReadsWhole r (seen c.args.input.now) (seen c.read_all.new.src)) (sym same)
    (c.in_err-bytes.field-0.0, refl, c.in_err-bytes.ensures.reads)
