use Rattle.k_mem.proofs.Grown.{kept_cut, memory_cut}
use Rattle.k_mem.proofs.Views.{laid_out, laid_out_seen}
use Rattle.k_mem.proofs.objects.Objects.pop_objects.Goals as goal

-- the newest objects died
pub invariant_of-self : goal.invariant_of-self
invariant_of-self c =
    let next = rw c.deref.ensures.value at c.extent_at-end.ensures in
    rw (c.truncate.ensures.items, c.truncate-then-keep-len.ensures.items) (kept_cut _ _ _ _ c.self.invariant _ next)

pub returns-then-keep-len-clause-kept : goal.returns-then-keep-len-clause-kept
returns-then-keep-len-clause-kept c =
    let next = rw c.deref.ensures.value at c.extent_at-end.ensures in
    rw (c.truncate.ensures.items, c.truncate-then-keep-len.ensures.items, ← c.self.view_is) (memory_cut _ _ c.self.inside.made _ c.self.invariant _ next)

pub returns-then-keep-len-clause-laid_out : goal.returns-then-keep-len-clause-laid_out
returns-then-keep-len-clause-laid_out c =
    let next = rw c.deref.ensures.value at c.extent_at-end.ensures in
    laid_out _ _ _ (rw (c.truncate.ensures.items, c.truncate-then-keep-len.ensures.items) (kept_cut _ _ _ _ c.self.invariant _ next))

-- there were no more to die
pub returns-else-keep-len-clause-laid_out : goal.returns-else-keep-len-clause-laid_out
returns-else-keep-len-clause-laid_out c = laid_out_seen _ _ _ _ c.self.invariant c.self.view_is
