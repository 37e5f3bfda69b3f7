use Rattle.std.proofs.Common.{sym}
use Rattle.k_mem.proofs.Answers.{length_answer}
use Rattle.k_mem.proofs.Views.{laid_out_seen}
use Rattle.k_mem.proofs.objects.Objects.length.Goals as goal

pub returns-clause-count : goal.returns-clause-count
returns-clause-count c = rw (← c.self.view_is, c.length_of.ensures, c.deref.ensures.value) (sym (length_answer _ _ c.self.inside.made c.self.invariant.fill c.args.object))

pub returns-clause-laid_out : goal.returns-clause-laid_out
returns-clause-laid_out c = laid_out_seen _ _ _ _ c.self.invariant c.self.view_is
