use Rattle.std.proofs.Common.{◌++◌, sym, subst}
use Rattle.k_types_meaning.specs.Operators.{moved}
use Rattle.k_types_rules.specs.Views.{typed, Agrees}
use Rattle.k_types_rules.proofs.assignment.moved.Goals as goal

pub returns-in-Add : goal.returns-in-Add
returns-in-Add c =
    λ l r. subst (λ op. Agrees c.changed.result (l ++ r) (moved c.args.place op (typed c.args.left l) (typed c.args.right r))) (sym c.in-Add.is) (c.changed.ensures l (typed c.args.right r))

pub returns-in-Sub : goal.returns-in-Sub
returns-in-Sub c =
    λ l r. subst (λ op. Agrees c.changed-in-Sub.result (l ++ r) (moved c.args.place op (typed c.args.left l) (typed c.args.right r))) (sym c.in-Sub.is) (c.changed-in-Sub.ensures l (typed c.args.right r))
