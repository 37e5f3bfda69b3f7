use Rattle.std.proofs.Common.{refl, rules, arith}
use Rattle.k_types_declarations.proofs.Placing.{place_goes, place_refused}
use Rattle.k_types_declarations.proofs.object.declare_object.Goals as goal

pub returns-in-Err : goal.returns-in-Err
returns-in-Err c =
    λ functions. place_refused c.args.saying.now c.args.names.now c.args.number functions c.args.declarator.now c.in-Err.fault c.in-Err.ensures

pub returns : goal.returns
returns c =
    let given = c.in-Ok.ensures in
    λ functions.
    place_goes c.args.saying.now c.args.names.now c.args.number functions c.args.declarator.now c.in-Ok.begun _ c.judge_declarator.new.names _ _ _
    given.1 refl refl refl given.3
    (first_of (cc, search rules, grind arith)) (first_of (cc, search rules, grind arith)) (first_of (cc, search rules, grind arith))
