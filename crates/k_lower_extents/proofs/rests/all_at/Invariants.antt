use Rattle.std.proofs.Common.{◌≡◌, ◌++◌, map, drop}
use Rattle.k_lower_code.specs.Statements.{lowered}
use Rattle.k_lower_code.specs.Stretches.{Inside}
use Rattle.k_lower_extents.specs.Extents.{AreAllExtents, extent_of}
use Rattle.k_lower_extents.proofs.rests.all_at.Given as goal

abbrev pub invariant-loop-stmt : goal.invariant-loop-stmt
invariant-loop-stmt l =
    (w : Inside) → AreAllExtents l.table w l.stmts
    → l.found.items ++ map extent_of (map (lowered w) (drop l.stmt-index l.stmt-items)) ≡ map extent_of (map (lowered w) l.stmts)
