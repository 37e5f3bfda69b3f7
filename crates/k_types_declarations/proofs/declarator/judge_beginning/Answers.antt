use Rattle.std.proofs.Common.{◌≡◌, ◌++◌, ap, ◌∙◌, subst, append_assoc, rules, arith}
use Rattle.k_types_meaning.specs.Declarations.{as_meaning, entered, object_fixed, type_or_int}
use Rattle.k_types_meaning.specs.Initialisers.{begun}
use Rattle.k_types_meaning.specs.Made.{Fine}
use Rattle.k_types_rules.specs.Views.{Refuses}
use Rattle.k_types_declarations.proofs.Declarators.{begun_refused, comes}
use Rattle.k_types_declarations.proofs.declarator.judge_beginning.Goals as goal

pub returns-in-Err : goal.returns-in-Err
returns-in-Err c =
    let d = c.args.declarator.now in
    let entered_as : c.declare.new.self ≡ entered d.name (as_meaning c.args.file c.args.number (type_or_int c.args.shape.of) (object_fixed c.args.saying.now.fixed d.stars)) c.args.names.now =
    first_of (cc, search rules, grind arith) in
    λ found older sizes type_is sized_is put.
    begun_refused c.args.file c.args.saying.now c.args.number c.args.names.now d found c.args.shape.of c.declare.new.self c.in-Err.fault sizes type_is entered_as
    (subst (λ of. Refuses c.in-Err.fault (begun c.declare.new.self c.args.file of d.init)) c.lent_option.ensures c.in-Err.ensures)

pub returns : goal.returns
returns c =
    let d = c.args.declarator.now in
    let entered_as : c.declare.new.self ≡ entered d.name (as_meaning c.args.file c.args.number (type_or_int c.args.shape.of) (object_fixed c.args.saying.now.fixed d.stars)) c.args.names.now =
    first_of (cc, search rules, grind arith) in
    let given = c.in-Ok.ensures in
    let start = given.0 in
    λ found older sizes type_is sized_is put.
    comes c.args.file c.args.saying.now c.args.number c.args.names.now d found c.args.shape.of c.declare.new.self c.made.result c.in-Ok.init start.init start.taken older c.begun.new.taken
    c.in_ok-twice.twice c.has_type-typed.result c.args.shape.is_sized sizes type_is entered_as
    (subst (λ of. begun c.declare.new.self c.args.file of d.init ≡ Fine start) c.lent_option.ensures given.1)
    given.2
    (given.3 ∙ (ap (λ l. l ++ start.taken) put ∙ append_assoc older found.taken start.taken))
    c.in_ok-twice.ensures.twice c.has_type-typed.ensures sized_is c.made.ensures
