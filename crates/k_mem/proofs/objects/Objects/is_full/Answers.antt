use Rattle.std.proofs.Common.{◌≡◌, length, vec_len, rules, ◌∙◌, sym, ap}
use Rattle.k_mem.specs.Calls.{is_over_limit}
use Rattle.k_mem.proofs.Grown.{limit_seen}
use Rattle.k_mem.proofs.Views.{laid_out_seen}
use Rattle.k_mem.proofs.objects.Objects.is_full.Goals as goal

pub returns-clause-full : goal.returns-clause-full
returns-clause-full c =
    let cells : vec_len c.self.inside.cells ≡ length c.self.inside.cells.items = search rules in
    c.is_over_limit.ensures
    ∙ ap (λ k. is_over_limit k c.args.elements c.self.inside.made) (c.len.ensures ∙ cells)
    ∙ sym (limit_seen _ _ _ c.args.self.now c.args.elements c.self.invariant c.self.view_is)

pub returns-clause-laid_out : goal.returns-clause-laid_out
returns-clause-laid_out c = laid_out_seen _ _ _ _ c.self.invariant c.self.view_is
