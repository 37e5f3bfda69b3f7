use Rattle.std.proofs.Common.{◌≡◌, length, rules, arith}
use Rattle.std.specs.BTreeMap.{get_by_text}
use Rattle.k_types.proofs.Places.{indexed_with}
use Rattle.k_types.proofs.defined.note_name.Goals as goal

pub returns-clause-places : goal.returns-clause-places
returns-clause-places c =
    let count : c.in-Ok.place ≡ length c.args.names.now = first_of (search rules, grind arith, cc) in
    indexed_with c.args.names.now c.push.new.self c.as_str-text.result.now c.in_ok-copy.copy (get_by_text c.args.places.now) (get_by_text c.place_name.new.places) c.in-Ok.place
    c.in_ok-push.ensures.ok c.in_ok-copy.ensures c.in_ok-place_name.ensures count
