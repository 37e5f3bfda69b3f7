-- Believed with the theorem on the top call.
-- The kinds of regions.
use Rattle.std.specs.Prelude.{Bool, true, false}
use Rattle.k_optab.specs.declared.region.RegionKind.{RegionKind}
use Rattle.k_optab.specs.declared.region.RegionKind.TheVariants.{Func, Loop, Body}

-- the kind is that of a loop
abbrev pub is_loop : RegionKind → Bool
is_loop Func = false
is_loop Loop = true
is_loop Body = false

-- the kind is that of a body
abbrev pub is_body : RegionKind → Bool
is_body Func = false
is_body Loop = false
is_body Body = true
