use Rattle.std.proofs.Common.{arith, ap, ◌∙◌}
use Rattle.k_hcpa_meaning.specs.Summing.{last_path, region_left}
use Rattle.k_hcpa_meaning.specs.Timings.{left_below}
use Rattle.k_hcpa_times.specs.Seen.{made}
use Rattle.k_hcpa_steps.specs.Keeping.{Keeping, keeping}
use Rattle.k_hcpa_steps.proofs.Levels.{is_exit, left_stands, some_level}
use Rattle.k_hcpa_steps.proofs.parts.Parts.exit.Goals as goal

pub exit-requires-clause-exit : goal.exit-requires-clause-exit
exit-requires-clause-exit g c = is_exit c.args.instr.now.act c.requires.exits

pub leave_below-requires : goal.leave_below-requires
leave_below-requires g c few =
    let old : Keeping = keeping c.args.self.now.store (g.T.Timed.seen c.args.self.now.times) c.args.self.now.summaries in
    let run = c.requires.running in
    let opened = c.opened-opened.ensures.opened in
    some_level run.setting run.count run.taken old run.is run.stands c.args.self.now.depth run.deep (omega (arith, opened, few))

pub returns-clause-goes : goal.returns-clause-goes
returns-clause-goes g c s count taken set deep at =
    let old : Keeping = keeping c.args.self.now.store (g.T.Timed.seen c.args.self.now.times) c.args.self.now.summaries in
    let new : Keeping = keeping c.exit.new.self (g.T.Timed.seen c.leave_below.new.self) c.leave.new.self in
    left_stands s count taken old c.args.instr.now set at c.requires.next c.args.self.now.depth deep new (is_exit c.args.instr.now.act c.requires.exits) c.exit.ensures
    (c.leave_below.ensures.left ∙ ap (λ n. made (left_below c.args.self.now.depth n) old.seen) c.opened-opened.ensures.opened)
    (c.in_ok-leave.ensures.ok ∙ ap (λ n. region_left c.args.self.now.depth n old.sum) (c.last_of-path.ensures ∙ ap last_path c.paths.ensures))
