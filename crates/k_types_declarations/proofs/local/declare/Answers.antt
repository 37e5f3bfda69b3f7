use Rattle.std.proofs.Common.{◌≡◌, length, rules, arith}
use Rattle.k_types_declarations.specs.Results.{seen}
use Rattle.k_types_declarations.proofs.Declaring.{declare_goes, declare_refused}
use Rattle.k_types_declarations.proofs.local.declare.Goals as goal

pub returns-in-Err : goal.returns-in-Err
returns-in-Err c =
    let count : c.in_ok-number.number ≡ length c.args.known.now.variables = first_of (cc, search rules, grind arith) in
    declare_refused c.args.saying.now (seen c.args.known.now) c.args.declarator.now c.in_ok-number.number c.in-Err.fault count c.in-Err.ensures

pub returns : goal.returns
returns c =
    let count : c.in_ok-number.number ≡ length c.args.known.now.variables = first_of (cc, search rules, grind arith) in
    declare_goes c.args.saying.now (seen c.args.known.now) c.args.declarator.now c.in-Ok.begun c.in_ok-number.number c.judge_declarator.new.names c.push.new.self c.judge_declarator.new.taken _
    (first_of (cc, search rules, grind arith)) count c.in-Ok.ensures (first_of (cc, search rules, grind arith))
