use Rattle.std.proofs.Common.{◌≡◌, false, Err, sym, subst, rules, arith}
use Rattle.k_types_declarations.specs.Results.{seen}
use Rattle.k_types_meaning.specs.Functions.{names_behind_head, prototype_judged}
use Rattle.k_types.specs.Functions.{Declares}
use Rattle.k_types.specs.Results.{MakesOrRefuses}
use Rattle.k_types.specs.Standings.{standing_made}
use Rattle.k_types.proofs.Functions.{prototype_declares, prototype_params}
use Rattle.k_types.proofs.prototype.prototype.Goals as goal

pub returns-in_err-signature : goal.returns-in_err-signature
returns-in_err-signature c =
    let names = c.args.known.now.names in
    let head = c.args.head.now in
    let same : c.from_residual.result ≡ Err c.in_err-signature.field-0.0 = first_of (search rules, grind arith, cc) in
    subst (λ r. Declares r c.judge_head.new.known.names (prototype_judged c.args.defined.now names c.args.place head) (names_behind_head c.args.defined.now names head))
    (sym same)
    (prototype_params c.args.defined.now false names c.args.place head c.in_err-signature.field-0.0 c.in_err-signature.ensures)

pub returns : goal.returns
returns c =
    prototype_declares c.args.defined.now c.args.known.now.names c.close.new.self c.args.place c.args.head.now c.in_ok-signature.signature (seen c.judge_head.new.known)
    c.standing_of-standing.result c.requires c.in_ok-signature.ensures c.close.ensures c.standing_of-standing.ensures
    c.test.result c.name_function.new.names
    (λ g. subst (λ x. MakesOrRefuses c.test.result g (standing_made c.standing_of-standing.result c.args.place x g)) c.as_str.ensures (c.test.ensures g))
    c.in_ok-name_function.ensures
