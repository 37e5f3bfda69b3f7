use Rattle.std.proofs.Common.{◌≡◌, ◌∙◌, Result, Err, arith, inr, refl, sym, subst, rules}
use Rattle.k_sum.specs.declared.sum.Sum.{Sum}
use Rattle.k_top_answers.specs.declared.failure.Failure.{Failure}
use Rattle.k_top_answers.specs.declared.failure.Failure.TheVariants as why
use Rattle.k_top_lemmas.specs.Merges.{LoadsRuns, first_runs_of}
use Rattle.k_top_lemmas.proofs.Merging.{gives_loaded, not_loaded}
use Rattle.k_top_merge.proofs.merged.load_first.Goals as goal

pub returns-in_err-name-clause-loads : goal.returns-in_err-name-clause-loads
returns-in_err-name-clause-loads g c =
    let old = g.F.Files.seen c.args.files.now in
    let same : c.from_residual.result ≡ Err why.NoMemory = first_of (search rules, grind arith, cc) in
    subst (λ (r : Result Sum Failure). LoadsRuns (first_runs_of c.args.part.now) r c.args.part.now.file old old) (sym same) (inr (inr (refl, refl)))

pub returns-in_err-bytes-clause-loads : goal.returns-in_err-bytes-clause-loads
returns-in_err-bytes-clause-loads g c =
    let old = g.F.Files.seen c.args.files.now in
    let new = g.F.Files.seen c.load.new.files in
    let same : c.from_residual-in_err-bytes.result ≡ Err c.in_err-bytes.field-0.0 = first_of (search rules, grind arith, cc) in
    subst (λ (r : Result Sum Failure). LoadsRuns (first_runs_of c.args.part.now) r c.args.part.now.file old new) (sym same)
    (not_loaded (first_runs_of c.args.part.now) c.in_err-bytes.field-0.0 c.in_ok-name.name c.args.part.now.file (c.in_ok-name.ensures ∙ c.as_str.ensures) old new c.in_err-bytes.ensures)

pub returns-clause-loads : goal.returns-clause-loads
returns-clause-loads g c =
    let old = g.F.Files.seen c.args.files.now in
    let new = g.F.Files.seen c.load.new.files in
    gives_loaded (first_runs_of c.args.part.now) c.first_runs.result c.in_ok-bytes.bytes c.in_ok-name.name c.args.part.now.file (c.in_ok-name.ensures ∙ c.as_str.ensures) old new
    c.in_ok-bytes.ensures c.as_slice.result.now c.as_slice.ensures.value c.first_runs.ensures.gives
