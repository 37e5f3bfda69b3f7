use Rattle.std.proofs.Common.{sym}
use Rattle.k_mem.proofs.Answers.{store_answer}
use Rattle.k_mem.proofs.Views.{laid_out_seen}
use Rattle.k_mem.proofs.objects.Objects.element_to_store.Goals as goal

pub returns-clause-element : goal.returns-clause-element
returns-clause-element c = rw (← c.self.view_is, c.writable_at.ensures, c.deref.ensures.value) (sym (store_answer _ _ c.self.inside.made c.self.invariant.fill c.args.at))

pub returns-clause-laid_out : goal.returns-clause-laid_out
returns-clause-laid_out c = laid_out_seen _ _ _ _ c.self.invariant c.self.view_is
