use Rattle.std.proofs.Common.{◌≡◌, ap, ◌∙◌, subst, rules, arith}
use Rattle.k_types_meaning.specs.declared.tree.expression.TExpr.TheVariants as trees
use Rattle.k_types_meaning.specs.CallRules.{all_taken, passing}
use Rattle.k_types_meaning.specs.Conversions.{at}
use Rattle.k_types_meaning.specs.Made.{Fine}
use Rattle.k_types_meaning.specs.Operands.{value}
use Rattle.k_types_meaning.specs.Types.{told}
use Rattle.k_types_expressions.specs.Arguments.{bare, passed_made, typed_all}
use Rattle.k_types_rules.specs.Views.{type_of, Refuses}
use Rattle.k_types_expressions.proofs.Passing.{called_made, called_refused}
use Rattle.k_types_expressions.proofs.call.function_called.Goals as goal

pub returns-in-Err : goal.returns-in-Err
returns-in-Err c =
    λ ts. called_refused c.args.place c.args.signature.now.result
    (λ args. trees.Call (at c.args.place (told c.args.signature.now.result)) c.args.signature.now.number args)
    (all_taken (typed_all c.args.args.items ts)) c.args.signature.now.params c.args.args.items ts c.in-Err.fault
    (subst (λ params. Refuses c.in-Err.fault (passed_made c.args.place (passing params (bare c.args.args.items)))) c.as_slice.ensures c.in-Err.ensures)

pub returns : goal.returns
returns c =
    let f = c.args.signature.now in
    let node = at c.args.place (told f.result) in
    let passes : passed_made c.args.place (passing f.params (bare c.args.args.items)) ≡ Fine c.in-Ok.args = first_of (search rules, grind arith, cc) in
    let tree : trees.Call node f.number c.in-Ok.args ≡ c.in_ok-tree.tree = first_of (search rules, grind arith, cc) in
    let of : f.result ≡ type_of c.lent-of.result = first_of (search rules, cc) in
    λ ts.
    called_made c.args.place f.result (λ args. trees.Call node f.number args) (all_taken (typed_all c.args.args.items ts)) f.params c.args.args.items ts c.in-Ok.args passes
    ∙ ap (λ t. Fine (value f.result t (all_taken (typed_all c.args.args.items ts)))) tree
    ∙ ap (λ t. Fine (value t c.in_ok-tree.tree (all_taken (typed_all c.args.args.items ts)))) of
