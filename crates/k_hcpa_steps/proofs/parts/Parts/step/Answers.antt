use Rattle.k_hcpa_steps.specs.Keeping.{Keeping, keeping}
use Rattle.k_hcpa_steps.proofs.Here.{finds_here}
use Rattle.k_hcpa_steps.proofs.Turns.{turns}
use Rattle.k_hcpa_steps.proofs.parts.Parts.step.Goals as goal

pub instruction-instr-requires : goal.instruction-instr-requires
instruction-instr-requires g c =
    let old : Keeping = keeping c.args.self.now.store (g.T.Timed.seen c.args.self.now.times) c.args.self.now.summaries in
    let run = c.requires.running in
    finds_here run.setting run.count run.taken old run.is run.stands

pub returns-in-Ok-clause-comes : goal.returns-in-Ok-clause-comes
returns-in-Ok-clause-comes g c s count taken set deep at =
    let old : Keeping = keeping c.args.self.now.store (g.T.Timed.seen c.args.self.now.times) c.args.self.now.summaries in
    let new : Keeping = keeping c.go.new.self.store (g.T.Timed.seen c.go.new.self.times) c.go.new.self.summaries in
    turns s count taken old new c.instruction-instr.result.now.act c.in-Ok.ended c.turn_of.result c.turn_of.ensures (c.in-Ok.ensures.goes s count taken set deep at)
