use Rattle.std.proofs.Common.{ℕ, ◌≡◌, List, Result, Ok, Err, refl, sym, subst, rules, arith}
use Rattle.k_top_answers.specs.declared.failure.Failure.{Failure}
use Rattle.k_top_lemmas.specs.declared.running.Ready.{Ready}
use Rattle.k_top_lemmas.specs.Phases.{Around, MakesReady}
use Rattle.k_top_lemmas.proofs.ReadyLemmas.{input_failed, program_failed, ready_made}
use Rattle.k_top_programs.proofs.running.make_ready.Goals as goal

pub returns-in_err-program-clause-ready : goal.returns-in_err-program-clause-ready
returns-in_err-program-clause-ready g c =
    let old : Around = record { files = g.F.Files.seen c.args.files.now; input = g.S.Source.seen c.args.input.now } in
    let new : Around = record { files = g.F.Files.seen c.read_program.new.files; input = g.S.Source.seen c.args.input.now } in
    let same : c.from_residual.result ≡ Err c.in_err-program.field-0.0 = first_of (search rules, grind arith, cc) in
    subst (λ (r : Result Ready Failure). MakesReady r c.args.file c.args.latency c.args.steps old new) (sym same)
    (program_failed c.in_err-program.field-0.0 c.args.file c.args.latency c.args.steps old new c.in_err-program.ensures.program refl)

pub returns-in_err-input-clause-ready : goal.returns-in_err-input-clause-ready
returns-in_err-input-clause-ready g c =
    let old : Around = record { files = g.F.Files.seen c.args.files.now; input = g.S.Source.seen c.args.input.now } in
    let new : Around = record { files = g.F.Files.seen c.read_program.new.files; input = g.S.Source.seen c.input_of.new.input } in
    let read = c.in_ok-program.ensures.program in
    let same : c.from_residual-in_err-input.result ≡ Err c.in_err-input.field-0.0 = first_of (search rules, grind arith, cc) in
    subst (λ (r : Result Ready Failure). MakesReady r c.args.file c.args.latency c.args.steps old new) (sym same)
    (input_failed c.args.file c.args.latency c.args.steps c.in_ok-program.program read.0 old new read.1 read.2.0 read.2.1 read.2.2 c.in_err-input.field-0.0 c.in_err-input.ensures)

pub returns-clause-ready : goal.returns-clause-ready
returns-clause-ready g c =
    let old : Around = record { files = g.F.Files.seen c.args.files.now; input = g.S.Source.seen c.args.input.now } in
    let new : Around = record { files = g.F.Files.seen c.read_program.new.files; input = g.S.Source.seen c.input_of.new.input } in
    let read = c.in_ok-program.ensures.program in
    subst (λ (bytes : List ℕ). MakesReady (Ok (record { program = c.in_ok-program.program; input = bytes; steps = c.args.steps })) c.args.file c.args.latency c.args.steps old new)
    (sym c.from_vec.ensures)
    (ready_made c.args.file c.args.latency c.args.steps c.in_ok-program.program read.0 old new read.1 read.2.0 read.2.1 read.2.2 c.in_ok-input.input c.in_ok-input.ensures)
