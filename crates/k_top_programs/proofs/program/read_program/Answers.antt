use Rattle.std.proofs.Common.{ℕ, ◌≡◌, List, Result, Ok, Err, sym, subst, rules, arith}
use Rattle.std.specs.Prelude.{IfOk}
use Rattle.std.proofs.lemmas.Result.{IfOk-at_ok}
use Rattle.k_top_answers.specs.declared.failure.Failure.{Failure}
use Rattle.k_top_lemmas.specs.declared.program.Program.{Program}
use Rattle.k_top_lemmas.specs.Parts.{LoadsTable}
use Rattle.k_top_lemmas.specs.Phases.{ReadsProgram}
use Rattle.k_top_lemmas.proofs.ProgramLemmas.{program_read, source_unloaded, table_failed}
use Rattle.k_top_programs.proofs.program.read_program.Goals as goal

pub returns-in_err-source-clause-program : goal.returns-in_err-source-clause-program
returns-in_err-source-clause-program g c =
    let seen = g.F.Files.seen in
    let same : c.from_residual.result ≡ Err c.in_err-source.field-0.0 = first_of (search rules, grind arith, cc) in
    subst (λ (r : Result Program Failure). ReadsProgram r c.args.file c.args.latency (seen c.args.files.now) (seen c.load.new.files)) (sym same)
    (source_unloaded c.in_err-source.field-0.0 c.args.file c.args.latency (seen c.args.files.now) (seen c.load.new.files) c.in_err-source.ensures)

pub returns-in_err-latencies-clause-program : goal.returns-in_err-latencies-clause-program
returns-in_err-latencies-clause-program g c =
    let seen = g.F.Files.seen in
    let same : c.from_residual-in_err-latencies.result ≡ Err c.in_err-latencies.field-0.0 = first_of (search rules, grind arith, cc) in
    let loads = subst (λ b. LoadsTable (Err c.in_err-latencies.field-0.0) c.args.latency c.in_ok-source.source.items b (seen c.load.new.files) (seen c.latencies_of.new.files))
    c.is_name-is_source.ensures (subst (λ bytes. LoadsTable (Err c.in_err-latencies.field-0.0) c.args.latency bytes c.is_name-is_source.result (seen c.load.new.files) (seen c.latencies_of.new.files))
    c.as_slice.ensures.value c.in_err-latencies.ensures.table) in
    subst (λ (r : Result Program Failure). ReadsProgram r c.args.file c.args.latency (seen c.args.files.now) (seen c.latencies_of.new.files)) (sym same)
    (table_failed c.args.file c.in_ok-source.source (seen c.args.files.now) (seen c.load.new.files) (seen c.latencies_of.new.files) c.in_ok-source.ensures
    c.args.latency c.in_err-latencies.field-0.0 loads)

pub returns-clause-program : goal.returns-clause-program
returns-clause-program g c =
    let seen = g.F.Files.seen in
    let latencies : List ℕ = c.in_ok-latencies.latencies in
    let loads = subst (λ b. LoadsTable (Ok latencies) c.args.latency c.in_ok-source.source.items b (seen c.load.new.files) (seen c.latencies_of.new.files))
    c.is_name-is_source.ensures (subst (λ bytes. LoadsTable (Ok latencies) c.args.latency bytes c.is_name-is_source.result (seen c.load.new.files) (seen c.latencies_of.new.files))
    c.as_slice.ensures.value c.in_ok-latencies.ensures.table) in
    program_read c.args.file c.in_ok-source.source (seen c.args.files.now) (seen c.load.new.files) (seen c.latencies_of.new.files) c.in_ok-source.ensures
    c.args.latency latencies loads c.accept.result
    (λ p e. IfOk-at_ok (λ (q : Program). q.latencies ≡ latencies) e c.accept.ensures.latencies)
    (λ p e. IfOk-at_ok (λ (q : Program). q.source ≡ c.in_ok-source.source.items) e
    (subst (λ (bytes : List ℕ). IfOk c.accept.result (λ (q : Program). q.source ≡ bytes)) c.as_slice-2.ensures.value c.accept.ensures.kept))
    (rw (← c.as_slice-2.ensures.value) c.accept.ensures.source)
