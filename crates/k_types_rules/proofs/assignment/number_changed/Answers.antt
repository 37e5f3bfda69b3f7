use Rattle.std.proofs.Common.{◌≡◌, ◌++◌, sym, ap, ◌∙◌, subst, rules, arith}
use Rattle.k_types_meaning.specs.declared.tree.expression.Change.TheVariants as change
use Rattle.k_types_meaning.specs.Conversions.{number_in_kind}
use Rattle.k_types_meaning.specs.Operators.{ANumber, operand, changed, changed_by, change_kind}
use Rattle.k_types_rules.specs.Views.{type_of, typed, Agrees}
use Rattle.k_types_rules.proofs.assignment.number_changed.Goals as goal

pub returns : goal.returns
returns c =
    let tree : c.in_ok-right.right ≡ number_in_kind c.in-Number.other c.right_kind.result c.args.right.tree = first_of (search rules, grind arith, cc) in
    let whole = tree ∙ ap (λ kind. number_in_kind c.in-Number.other kind c.args.right.tree) c.right_kind.ensures in
    λ l r.
    subst (λ of. Agrees c.changed.result (l ++ r) (changed_by c.args.place c.args.op (ANumber c.args.kind) (operand (type_of of)) (typed c.args.left l) (typed c.args.right r)))
    (sym c.in-Number.is)
    (subst (λ made. Agrees c.changed.result (l ++ r) (changed c.args.place (typed c.args.left l) (typed c.args.right r) (change.Number c.args.op (change_kind c.args.op c.args.kind c.in-Number.other)) made))
    whole
    (subst (λ kind. Agrees c.changed.result (l ++ r) (changed c.args.place (typed c.args.left l) (typed c.args.right r) (change.Number c.args.op kind) c.in_ok-right.right))
    c.change_kind.ensures
    (c.changed.ensures l (typed c.args.right r))))
