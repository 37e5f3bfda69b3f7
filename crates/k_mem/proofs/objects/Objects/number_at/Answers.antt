use Rattle.std.proofs.Common.{sym}
use Rattle.k_mem.proofs.Views.{laid_out_seen, number_seen}
use Rattle.k_mem.proofs.objects.Objects.number_at.Goals as goal

pub returns-clause-number : goal.returns-clause-number
returns-clause-number c =
    rw (← c.self.view_is, c.number_at.ensures, c.deref.ensures.value) (number_seen c.self.inside.extents.items c.self.inside.cells.items c.args.place)

pub returns-clause-laid_out : goal.returns-clause-laid_out
returns-clause-laid_out c = laid_out_seen _ _ _ _ c.self.invariant c.self.view_is
