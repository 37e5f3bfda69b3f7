use Rattle.k_mem.proofs.Views.{laid_out_seen}
use Rattle.k_mem.proofs.objects.Objects.live_objects.Goals as goal

pub returns-clause-laid_out : goal.returns-clause-laid_out
returns-clause-laid_out c = laid_out_seen _ _ _ _ c.self.invariant c.self.view_is
