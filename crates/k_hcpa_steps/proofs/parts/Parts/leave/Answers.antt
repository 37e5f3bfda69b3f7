use Rattle.std.proofs.Common.{refl, sym, ap, subst, ◌∙◌}
use Rattle.k_code.specs.declared.instruction.Do.TheVariants as act
use Rattle.k_hcpa_times.specs.Seen.{Seen}
use Rattle.k_hcpa_steps.specs.Keeping.{Keeping, StandsAt, keeping}
use Rattle.k_hcpa_steps.proofs.Here.{stops}
use Rattle.k_hcpa_steps.proofs.Returning.{is_return}
use Rattle.k_hcpa_steps.proofs.parts.Parts.leave.Goals as goal

pub returns-in-Err-clause-goes : goal.returns-in-Err-clause-goes
returns-in-Err-clause-goes g c s count taken set deep at =
    let old : Keeping = keeping c.args.self.now.store (g.T.Timed.seen c.args.self.now.times) c.args.self.now.summaries in
    let known = is_return c.args.instr.now.act c.requires.returns in
    stops s count taken old c.args.instr.now set at c.requires.next c.in-Err.end old (c.in-Err.ensures known.value known.is) refl refl

pub return_value-requires-clause-act : goal.return_value-requires-clause-act
return_value-requires-clause-act g c =
    let known = is_return c.args.instr.now.act c.requires.returns in
    known.is ∙ ap act.Return (sym (c.value_of.ensures known.value known.is) ∙ c.in-Some.is)

pub return_nothing-requires-clause-act : goal.return_nothing-requires-clause-act
return_nothing-requires-clause-act g c =
    let known = is_return c.args.instr.now.act c.requires.returns in
    known.is ∙ ap act.Return (sym (c.value_of.ensures known.value known.is) ∙ c.in-None.is)

pub returns-in-Some-clause-reads : goal.returns-in-Some-clause-reads
returns-in-Some-clause-reads g c s count taken set at =
    let old : Keeping = keeping c.args.self.now.store (g.T.Timed.seen c.args.self.now.times) c.args.self.now.summaries in
    c.return_value.ensures.reads s count taken set
    (subst (λ (seen : Seen). StandsAt s count taken (keeping old.kept seen old.sum)) (sym c.reserve_back.ensures.same) at)
