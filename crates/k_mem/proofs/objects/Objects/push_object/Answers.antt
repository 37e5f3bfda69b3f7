use Rattle.std.proofs.Common.{◌≡◌, length, false, sym, ◌∙◌}
use Rattle.k_mem.specs.Calls.{is_over_limit}
use Rattle.k_mem.proofs.Grown.{kept_more, limit_seen, memory_pushed}
use Rattle.k_mem.proofs.Views.{laid_out}
use Rattle.k_mem.proofs.objects.Objects.push_object.Goals as goal

-- no memory was found
pub returns-in_err-append_object-clause-laid_out : goal.returns-in_err-append_object-clause-laid_out
returns-in_err-append_object-clause-laid_out c =
    laid_out _ _ _ (rw (c.in_err-append_object.ensures.extents_stay, c.in_err-append_object.ensures.cells_stay) c.self.invariant)

-- the object was made
pub invariant_of-self-2 : goal.invariant_of-self-2
invariant_of-self-2 c =
    let within : is_over_limit (length c.self.inside.cells.items) c.args.elements c.self.inside.made ≡ false =
    sym (limit_seen _ _ _ c.args.self.now c.args.elements c.self.invariant c.self.view_is) ∙ sym c.is_full.ensures.full ∙ c.if-is_full.false in
    rw (c.in_ok-append_object.ensures.extents, c.in_ok-append_object.ensures.cells) (kept_more _ _ _ c.self.invariant c.args.start c.args.elements c.requires within)

pub returns-clause-made : goal.returns-clause-made
returns-clause-made c =
    let within : is_over_limit (length c.self.inside.cells.items) c.args.elements c.self.inside.made ≡ false =
    sym (limit_seen _ _ _ c.args.self.now c.args.elements c.self.invariant c.self.view_is) ∙ sym c.is_full.ensures.full ∙ c.if-is_full.false in
    rw (c.in_ok-append_object.ensures.extents, c.in_ok-append_object.ensures.cells, ← c.self.view_is) (memory_pushed _ _ _ c.self.invariant c.args.start c.args.elements c.requires within)

pub returns-clause-laid_out : goal.returns-clause-laid_out
returns-clause-laid_out c =
    let within : is_over_limit (length c.self.inside.cells.items) c.args.elements c.self.inside.made ≡ false =
    sym (limit_seen _ _ _ c.args.self.now c.args.elements c.self.invariant c.self.view_is) ∙ sym c.is_full.ensures.full ∙ c.if-is_full.false in
    laid_out _ _ _ (rw (c.in_ok-append_object.ensures.extents, c.in_ok-append_object.ensures.cells) (kept_more _ _ _ c.self.invariant c.args.start c.args.elements c.requires within))
