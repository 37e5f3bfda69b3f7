use Rattle.std.proofs.Common.{◌≡◌, length, vec_len, set, Ok, Err, FitsSigned, rules, sym, ◌∙◌}
use Rattle.std.specs.Int.{w128}
use Rattle.std.proofs.Math.ListN.{length-set}
use Rattle.std.proofs.lemmas.Int.{to_z-of_z}
use Rattle.std.proofs.lemmas.Result.{err_from_is_err_and}
use Rattle.k_mem.specs.Layout.{store_among}
use Rattle.k_mem.proofs.Answers.{store_answer}
use Rattle.k_mem.proofs.Views.{laid_out, laid_out_seen}
use Rattle.k_mem.proofs.Written.{written_within, memory_written}
use Rattle.k_mem.proofs.objects.Objects.store.Goals as goal

-- no element was found that may be written
pub returns-in_err-element-clause-element : goal.returns-in_err-element-clause-element
returns-in_err-element-clause-element c =
    let p = err_from_is_err_and c.from_residual.result c.from_residual.ensures.1 in
    let answer : store_among c.self.inside.extents.items c.args.at ≡ Err c.in_err-element.field-0.0 = rw (← c.deref.ensures.value) (sym c.in_err-element.ensures) in
    rw (p.1, p.2, ← c.self.view_is) (sym (store_answer _ _ c.self.inside.made c.self.invariant.fill c.args.at ∙ answer))

pub returns-in_err-element-clause-laid_out : goal.returns-in_err-element-clause-laid_out
returns-in_err-element-clause-laid_out c = laid_out_seen _ _ _ _ c.self.invariant c.self.view_is

pub index_mut-requires : goal.index_mut-requires
index_mut-requires c =
    let cells : vec_len c.self.inside.cells ≡ length c.self.inside.cells.items = search rules in
    let answer : store_among c.self.inside.extents.items c.args.at ≡ Ok c.in_ok-element.element = rw (← c.deref.ensures.value) (sym c.in_ok-element.ensures) in
    rw cells (written_within _ _ c.self.inside.made c.self.invariant c.args.at _ answer)

-- the element was written
pub returns-clause-element : goal.returns-clause-element
returns-clause-element c =
    let answer : store_among c.self.inside.extents.items c.args.at ≡ Ok c.in_ok-element.element = rw (← c.deref.ensures.value) (sym c.in_ok-element.ensures) in
    rw (← c.self.view_is) (sym (store_answer _ _ c.self.inside.made c.self.invariant.fill c.args.at ∙ answer))

pub returns-clause-ok : goal.returns-clause-ok
returns-clause-ok c =
    let fits : FitsSigned w128 c.args.v = c.ranges.v in
    let answer : store_among c.self.inside.extents.items c.args.at ≡ Ok c.in_ok-element.element = rw (← c.deref.ensures.value) (sym c.in_ok-element.ensures) in
    rw (to_z-of_z w128 c.args.v fits, ← c.self.view_is) (memory_written _ _ c.self.inside.made c.self.invariant c.args.at _ answer c.args.v)

pub returns-clause-laid_out : goal.returns-clause-laid_out
returns-clause-laid_out c =
    laid_out c.self.inside.extents.items (set c.self.inside.cells.items c.in_ok-element.element _) c.self.inside.made (rw length-set c.self.invariant)
