use Rattle.std.proofs.Common.{sym, FitsSigned}
use Rattle.std.specs.Int.{w128}
use Rattle.std.proofs.lemmas.Int.{to_z-of_z}
use Rattle.k_mem.proofs.Answers.{shift_answer}
use Rattle.k_mem.proofs.Views.{laid_out_seen}
use Rattle.k_mem.proofs.objects.Objects.shift.Goals as goal

pub returns-clause-pointer : goal.returns-clause-pointer
returns-clause-pointer c =
    let fits : FitsSigned w128 c.args.by = c.ranges.by in
    let answer = simp to_z-of_z at c.shifted.ensures in
    rw (← c.self.view_is, answer, c.deref.ensures.value) (sym (shift_answer _ _ c.self.inside.made c.self.invariant.fill c.args.at c.args.by))

pub returns-clause-laid_out : goal.returns-clause-laid_out
returns-clause-laid_out c = laid_out_seen _ _ _ _ c.self.invariant c.self.view_is
