use Rattle.std.proofs.Common.{map}
use Rattle.k_lower_expressions.specs.Arounds.{inside_of}
use Rattle.k_lower_extents.specs.Extents.{lowered_part}
use Rattle.k_lower_cases.proofs.Fronts.{front_by}
use Rattle.k_lower_cases.proofs.switches.begin_switch.Goals as goal

pub returns : goal.returns
returns c = λ has.
    let w = inside_of c.args.around.now in
    front_by w c.args.place c.args.kind c.args.on.now (map (lowered_part w) c.args.parts.now)
    c.in_ok-r.r c.in_ok-size.size c.in_ok-before.before _ _ _ _ _ _ c.in_ok-a.a c.skip.result c.args.out.now.items _ _ c.skip.new.out.items
    c.in_ok-r.ensures (c.in_ok-size.ensures w) (c.in_ok-before.ensures w has) c.is_any.ensures c.get.ensures
    c.in_ok-a.ensures c.in_ok-number.ensures c.in_ok-behind.ensures c.skip_size.ensures c.in_ok-statements.ensures
    (c.in_ok-cases.ensures w has) c.skip.ensures
