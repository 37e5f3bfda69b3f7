use Rattle.std.proofs.Common.{◌++◌, sym, subst}
use Rattle.k_types_meaning.specs.Operators.{operand, changed_by}
use Rattle.k_types_rules.specs.Views.{element_of, type_of, typed, Agrees}
use Rattle.k_types_rules.proofs.assignment.changed_by.Goals as goal

pub returns-in-Pointer : goal.returns-in-Pointer
returns-in-Pointer c =
    λ l r. subst (λ of. Agrees c.pointer_changed.result (l ++ r) (changed_by c.args.place c.args.op (operand (type_of of)) (operand (type_of c.args.right.of)) (typed c.args.left l) (typed c.args.right r))) (sym c.in-Pointer.is) (c.pointer_changed.ensures (element_of c.in-Pointer.field-0) l r)

pub returns-in-Array : goal.returns-in-Array
returns-in-Array c =
    λ l r. subst (λ of. Agrees c.pointer_changed-in-Array.result (l ++ r) (changed_by c.args.place c.args.op (operand (type_of of)) (operand (type_of c.args.right.of)) (typed c.args.left l) (typed c.args.right r))) (sym c.in-Array.is) (c.pointer_changed-in-Array.ensures (element_of c.in-Array.field-1) l r)
