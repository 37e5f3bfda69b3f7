use Rattle.std.proofs.Common.{◌≡◌, ◌∷◌, None, Some, inr, refl, sym, ap, ◌∙◌, subst, rules, arith}
use Rattle.k_num.specs.declared.numbers.Kind.TheVariants.{I32}
use Rattle.k_types_meaning.specs.declared.fault.TypeFault.TheVariants as fault
use Rattle.k_types_meaning.specs.declared.types.TType.TheVariants as ttype
use Rattle.k_types_meaning.specs.declared.tree.expression.TExpr.TheVariants as trees
use Rattle.k_types_meaning.specs.CallRules.{all_formatted, all_taken, bytes_in, printf_called}
use Rattle.k_types_meaning.specs.Conversions.{at}
use Rattle.k_types_meaning.specs.Made.{Fine}
use Rattle.k_types_meaning.specs.Operands.{number}
use Rattle.k_types_expressions.specs.Arguments.{bare, format_in, typed_all}
use Rattle.k_types_rules.specs.Views.{Refuses}
use Rattle.k_types_expressions.proofs.Passing.{printf_made}
use Rattle.k_types_expressions.proofs.library.printf_called.Goals as goal

pub returns-in_default-2 : goal.returns-in_default-2
returns-in_default-2 c =
    let format : format_in (bytes_in c.in-Some.arg.tree) ≡ Some c.in-Some-format.format = first_of (search rules, grind arith, cc) in
    let all : all_formatted c.in-Some-format.format.kinds (bare c.next.new.args.items) ≡ None = first_of (search rules, grind arith, cc) in
    λ ts. subst (λ items. Refuses (fault.BadFormat c.args.place) (printf_called c.args.place (typed_all items ts))) (sym c.in-Some.ensures.items)
    (subst (Refuses (fault.BadFormat c.args.place)) (sym (printf_made c.args.place c.in-Some.arg c.next.new.args.items ts c.in-Some-format.format None format all)) (inr refl))

pub returns : goal.returns
returns c =
    let format : format_in (bytes_in c.in-Some.arg.tree) ≡ Some c.in-Some-format.format = first_of (search rules, grind arith, cc) in
    let all : all_formatted c.in-Some-format.format.kinds (bare c.next.new.args.items) ≡ Some c.in-Some-2.args = first_of (search rules, grind arith, cc) in
    let tree : trees.Printf (at c.args.place (ttype.Number I32)) c.in-Some-format.format.pieces c.in-Some-2.args ≡ c.in_ok-tree.tree = first_of (search rules, grind arith, cc) in
    λ ts.
    ap (λ items. printf_called c.args.place (typed_all items ts)) c.in-Some.ensures.items
    ∙ printf_made c.args.place c.in-Some.arg c.next.new.args.items ts c.in-Some-format.format (Some c.in-Some-2.args) format all
    ∙ ap (λ t. Fine (number I32 t (all_taken (typed_all (c.in-Some.arg ∷ c.next.new.args.items) ts)))) tree
    ∙ ap (λ items. Fine (number I32 c.in_ok-tree.tree (all_taken (typed_all items ts)))) (sym c.in-Some.ensures.items)
