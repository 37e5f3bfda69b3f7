use Rattle.std.proofs.Common.{◌≡◌, Ok, Err, slice_get, Some, None, FitsSigned, rules, sym}
use Rattle.std.specs.Int.{w128}
use Rattle.std.proofs.lemmas.Int.{to_z-of_z}
use Rattle.std.proofs.lemmas.Result.{err_from_is_err_and}
use Rattle.k_mem.specs.Layout.{element_among}
use Rattle.k_mem.proofs.Answers.{load_read, load_refused, element_within}
use Rattle.k_mem.proofs.Views.{laid_out_seen}
use Rattle.k_mem.proofs.objects.Objects.load.Goals as goal

-- no element was found
pub returns-in_err-element-clause-value : goal.returns-in_err-element-clause-value
returns-in_err-element-clause-value c =
    let p = err_from_is_err_and c.from_residual.result c.from_residual.ensures.1 in
    let answer : element_among c.self.inside.extents.items c.args.at ≡ Err c.in_err-element.field-0.0 = rw (← c.deref.ensures.value) (sym c.in_err-element.ensures) in
    rw (p.1, p.2, ← c.self.view_is) (sym (load_refused _ _ c.self.inside.made c.self.invariant.fill c.args.at _ answer))

pub returns-in_err-element-clause-laid_out : goal.returns-in_err-element-clause-laid_out
returns-in_err-element-clause-laid_out c = laid_out_seen _ _ _ _ c.self.invariant c.self.view_is

pub cell_at-requires : goal.cell_at-requires
cell_at-requires c =
    let answer : element_among c.self.inside.extents.items c.args.at ≡ Ok c.in_ok-element.element = rw (← c.deref.ensures.value) (sym c.in_ok-element.ensures) in
    rw c.deref-2.ensures.value (element_within _ _ c.self.inside.made c.self.invariant.fill c.args.at _ answer)

-- the element's cell has a value
pub returns-in-Some-clause-value : goal.returns-in-Some-clause-value
returns-in-Some-clause-value c =
    let fits : FitsSigned w128 c.in-Some.value = search rules in
    let answer : element_among c.self.inside.extents.items c.args.at ≡ Ok c.in_ok-element.element = rw (← c.deref.ensures.value) (sym c.in_ok-element.ensures) in
    let cell : slice_get c.self.inside.cells.items c.in_ok-element.element ≡ Some (Some c.in-Some.value) = rw (← c.deref-2.ensures.value) c.in-Some.ensures in
    rw (to_z-of_z w128 c.in-Some.value fits, ← c.self.view_is) (sym (load_read _ _ c.self.inside.made c.self.invariant.fill c.args.at _ _ answer cell))

pub returns-in-Some-clause-laid_out : goal.returns-in-Some-clause-laid_out
returns-in-Some-clause-laid_out c = laid_out_seen _ _ _ _ c.self.invariant c.self.view_is

-- it has none
pub returns-in-None-clause-value : goal.returns-in-None-clause-value
returns-in-None-clause-value c =
    let answer : element_among c.self.inside.extents.items c.args.at ≡ Ok c.in_ok-element.element = rw (← c.deref.ensures.value) (sym c.in_ok-element.ensures) in
    let cell : slice_get c.self.inside.cells.items c.in_ok-element.element ≡ Some None = rw (← c.deref-2.ensures.value) c.in-None.ensures in
    rw (← c.self.view_is) (sym (load_read _ _ c.self.inside.made c.self.invariant.fill c.args.at _ _ answer cell))

pub returns-in-None-clause-laid_out : goal.returns-in-None-clause-laid_out
returns-in-None-clause-laid_out c = laid_out_seen _ _ _ _ c.self.invariant c.self.view_is
