use Rattle.std.proofs.Common.{sym}
use Rattle.k_mem.proofs.Answers.{both_answer}
use Rattle.k_mem.proofs.Views.{laid_out_seen}
use Rattle.k_mem.proofs.objects.Objects.same.Goals as goal

pub returns-clause-same : goal.returns-clause-same
returns-clause-same c = rw (← c.self.view_is, c.same_among.ensures, c.deref.ensures.value) (sym (both_answer _ _ c.self.inside.made c.self.invariant.fill c.args.a c.args.b _))

pub returns-clause-laid_out : goal.returns-clause-laid_out
returns-clause-laid_out c = laid_out_seen _ _ _ _ c.self.invariant c.self.view_is
