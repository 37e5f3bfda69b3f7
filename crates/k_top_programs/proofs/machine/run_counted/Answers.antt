use Rattle.std.proofs.Common.{ℕ, List, subst}
use Rattle.k_hcpa.specs.Profiles.{RunsHeld}
use Rattle.k_top_programs.proofs.machine.run_counted.Goals as goal

pub returns : goal.returns
returns g c =
    let seen = g.K.Sink.seen in
    subst (λ (input : List ℕ). RunsHeld c.args.code.now input c.args.ready.now.steps c.args.depth c.run_held.result (seen c.args.out.now) (seen c.run_held.new.out))
    c.as_slice-input.ensures c.run_held.ensures.runs
