use Rattle.std.proofs.Common.{◌≡◌, length, vec_len, rules, ◌∙◌, sym}
use Rattle.k_mem.proofs.Views.{laid_out_seen, live_kept}
use Rattle.k_mem.proofs.objects.Objects.live_elements.Goals as goal

pub returns-clause-count : goal.returns-clause-count
returns-clause-count c =
    let cells : vec_len c.self.inside.cells ≡ length c.self.inside.cells.items = search rules in
    rw (← c.self.view_is) (c.len.ensures ∙ cells ∙ sym (live_kept _ _ _ c.self.invariant))

pub returns-clause-laid_out : goal.returns-clause-laid_out
returns-clause-laid_out c = laid_out_seen _ _ _ _ c.self.invariant c.self.view_is
