use Rattle.std.proofs.Common.{sym}
use Rattle.k_mem.proofs.Answers.{first_answer}
use Rattle.k_mem.proofs.Views.{laid_out_seen}
use Rattle.k_mem.proofs.objects.Objects.first_element.Goals as goal

pub returns-clause-element : goal.returns-clause-element
returns-clause-element c = rw (← c.self.view_is, c.first_of.ensures, c.deref.ensures.value) (sym (first_answer _ _ c.self.inside.made c.self.invariant.fill c.args.object))

pub returns-clause-laid_out : goal.returns-clause-laid_out
returns-clause-laid_out c = laid_out_seen _ _ _ _ c.self.invariant c.self.view_is
