use Rattle.std.proofs.Common.{arith, sym}
use Rattle.k_world.proofs.Elements.{loaded_within}
use Rattle.k_world.proofs.run_state.RunState.load.Goals as goal

-- the element that was loaded has an origin
pub origin_at-requires : goal.origin_at-requires
origin_at-requires c =
    let live = loaded_within c.self.inside.objects c.in-Some.at _ _ c.load.ensures.laid_out (sym c.in-Ok.ensures.value) in
    rw c.deref.ensures.value (omega (arith, c.self.invariant, live))
