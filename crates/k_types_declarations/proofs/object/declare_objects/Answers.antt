use Rattle.std.proofs.Common.{◌≡◌, length, Ok, subst, rules, arith}
use Rattle.k_types_meaning.specs.Units.{object_placed, objects_placed}
use Rattle.k_types_rules.specs.Views.{Refuses}
use Rattle.k_types_declarations.specs.Results.{PlacesObject}
use Rattle.k_types_declarations.proofs.Placing.{known_with, places_more, places_all, places_refused}
use Rattle.k_types_declarations.proofs.object.declare_objects.Goals as goal

pub loop-declarator-preserved : goal.loop-declarator-preserved
loop-declarator-preserved c =
    let count : c.in_ok-number.number ≡ length c.loop-declarator.objects = first_of (cc, search rules, grind arith) in
    λ functions.
    places_more c.args.saying.now c.as_slice-declarator-items.result.now functions
    (objects_placed c.args.saying.now (known_with c.args.names.now (length c.args.objects.now) functions) c.args.list.now)
    c.loop-declarator.declarator-index c.declarator-item.result c.in-Ok.object c.loop-declarator.names c.declare_object.new.names
    c.args.objects.now c.loop-declarator.objects c.push.new.self
    c.loop-declarator-test.true c.declarator-item.is (c.loop-declarator.invariant functions)
    (subst (λ n. PlacesObject (Ok c.in-Ok.object) c.declare_object.new.names (object_placed c.args.saying.now (known_with c.loop-declarator.names n functions) c.declarator-item.result)) count (c.in-Ok.ensures functions))
    c.in_ok-push.ensures.ok

pub returns-in-Err : goal.returns-in-Err
returns-in-Err c =
    let count : c.in_ok-number.number ≡ length c.loop-declarator.objects = first_of (cc, search rules, grind arith) in
    λ functions.
    places_refused c.args.saying.now c.as_slice-declarator-items.result.now functions
    (objects_placed c.args.saying.now (known_with c.args.names.now (length c.args.objects.now) functions) c.args.list.now)
    c.loop-declarator.declarator-index c.declarator-item.result c.loop-declarator.names c.args.objects.now c.loop-declarator.objects c.in-Err.fault
    c.loop-declarator-test.true c.declarator-item.is (c.loop-declarator.invariant functions)
    (subst (λ n. Refuses c.in-Err.fault (object_placed c.args.saying.now (known_with c.loop-declarator.names n functions) c.declarator-item.result).made) count (c.in-Err.ensures functions))

pub returns : goal.returns
returns c =
    λ functions.
    places_all c.args.saying.now c.as_slice-declarator-items.result.now functions
    (objects_placed c.args.saying.now (known_with c.args.names.now (length c.args.objects.now) functions) c.args.list.now)
    c.loop-declarator.declarator-index c.loop-declarator.names c.args.objects.now c.loop-declarator.objects
    c.loop-declarator-test.false (c.loop-declarator.invariant functions)
