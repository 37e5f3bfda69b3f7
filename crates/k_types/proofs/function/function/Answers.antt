use Rattle.std.proofs.Common.{◌≡◌, Ok, Err, sym, subst, rules, arith}
use Rattle.k_types_declarations.specs.Results.{seen}
use Rattle.k_types_meaning.specs.Functions.{function_judged, names_behind_head}
use Rattle.k_types.specs.Functions.{GivesFunction}
use Rattle.k_types.specs.Results.{MakesOrRefuses}
use Rattle.k_types.specs.Standings.{standing_made}
use Rattle.k_types.proofs.Functions.{block_refuses, definition_gives, function_params, standing_refuses}
use Rattle.k_types.proofs.function.function.Goals as goal

pub returns-in_err-signature : goal.returns-in_err-signature
returns-in_err-signature c =
    let d = c.args.definition.now in
    let names = c.args.known.now.names in
    let same : c.from_residual.result ≡ Err c.in_err-signature.field-0.0 = first_of (search rules, grind arith, cc) in
    subst (λ r. GivesFunction r c.judge_head.new.known.names (function_judged c.args.defined.now c.args.again names d.place d.head.now d.body.now d.close) (names_behind_head c.args.defined.now names d.head.now))
    (sym same)
    (function_params c.args.defined.now c.args.again names d.place d.head.now d.body.now d.close c.in_err-signature.field-0.0 c.in_err-signature.ensures)

pub returns-in_err-body : goal.returns-in_err-body
returns-in_err-body c =
    let d = c.args.definition.now in
    let names = c.args.known.now.names in
    let same : c.from_residual-in_err-body.result ≡ Err c.in_err-body.field-0.0 = first_of (search rules, grind arith, cc) in
    subst (λ r. GivesFunction r c.judge_block.new.known.names (function_judged c.args.defined.now c.args.again names d.place d.head.now d.body.now d.close) (names_behind_head c.args.defined.now names d.head.now))
    (sym same)
    (block_refuses c.args.defined.now c.args.again names d.place d.head.now d.body.now d.close c.in_ok-signature.signature
    (seen c.judge_head.new.known) (seen c.enter.new.known) c.close.new.self c.requires.file c.in_ok-signature.ensures c.close.ensures c.in_ok-enter.ensures
    c.in_err-body.field-0.0 c.in_err-body.ensures)

pub returns-in_err-test : goal.returns-in_err-test
returns-in_err-test c =
    let d = c.args.definition.now in
    let names = c.args.known.now.names in
    let same : c.from_residual-in_err-test.result ≡ Err c.in_err-test.field-0.0 = first_of (search rules, grind arith, cc) in
    subst (λ r. GivesFunction r c.close-2.new.self (function_judged c.args.defined.now c.args.again names d.place d.head.now d.body.now d.close) (names_behind_head c.args.defined.now names d.head.now))
    (sym same)
    (standing_refuses c.args.defined.now c.args.again names d.place d.head.now d.body.now d.close c.in_ok-signature.signature
    (seen c.judge_head.new.known) (seen c.enter.new.known) c.close.new.self c.requires.file c.in_ok-signature.ensures c.close.ensures c.in_ok-enter.ensures
    c.in_ok-body.body (seen c.judge_block.new.known) c.in_ok-body.ensures c.standing_of-standing.result c.standing_of-standing.ensures
    c.in_err-test.field-0.0
    (λ g. subst (λ x. MakesOrRefuses (Err c.in_err-test.field-0.0) g (standing_made c.standing_of-standing.result d.place x g)) c.as_str.ensures (c.in_err-test.ensures g)))

pub returns : goal.returns
returns c =
    let d = c.args.definition.now in
    definition_gives c.args.defined.now c.args.again c.args.known.now.names d.place d.head.now d.body.now d.close c.in_ok-signature.signature
    (seen c.judge_head.new.known) (seen c.enter.new.known) c.close.new.self c.requires.file c.in_ok-signature.ensures c.close.ensures c.in_ok-enter.ensures
    c.in_ok-body.body (seen c.judge_block.new.known) c.in_ok-body.ensures c.standing_of-standing.result c.standing_of-standing.ensures
    c.in_ok-tree.tree c.close-2.new.self c.close-2.ensures
    (λ g. subst (λ x. MakesOrRefuses (Ok tt) g (standing_made c.standing_of-standing.result d.place x g)) c.as_str.ensures (c.in_ok-test.ensures g))
    c.in_ok-tree.ensures
