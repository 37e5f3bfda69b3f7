use Rattle.std.proofs.Common.{Result, refl, sym, subst}
use Rattle.k_edge.specs.declared.sink.PutFault.{PutFault}
use Rattle.k_hcpa.specs.declared.profile.Profile.{Profile}
use Rattle.k_code.specs.Valid.{IsValid}
use Rattle.k_top_lemmas.specs.Parts.{RunsProgram, running_of}
use Rattle.k_top_lemmas.proofs.Machine.{RunsAs, not_run, runs_program, where_fit}
use Rattle.k_top_programs.proofs.machine.run_program.Goals as goal

pub run_counted-requires-clause-code : goal.run_counted-requires-clause-code
run_counted-requires-clause-code g c = where_fit c.args.ready.now c.args.depth c.requires.fit (IsValid c.in-Ok.code) c.in-Ok.ensures.valid

pub returns-in-Ok : goal.returns-in-Ok
returns-in-Ok g c =
    let seen = g.K.Sink.seen in
    let depth = c.args.depth in
    subst (λ (r : Result Profile PutFault). RunsProgram (running_of c.args.ready.now) depth r (seen c.args.out.now) (seen c.run_counted.new.out)) (sym c.put_result.ensures)
    (runs_program c.args.ready.now c.args.depth c.requires.fit c.in-Ok.code
    (where_fit c.args.ready.now c.args.depth c.requires.fit (RunsAs c.args.ready.now.program c.in-Ok.code) c.in-Ok.ensures.runs)
    c.run_counted.result (seen c.args.out.now) (seen c.run_counted.new.out) c.run_counted.ensures)

pub returns-in-Err : goal.returns-in-Err
returns-in-Err g c = not_run (running_of c.args.ready.now) c.args.depth _ _ refl
