use Rattle.std.proofs.Common.{take}
use Rattle.k_lower_extents.specs.Extents.{AreEntries}
use Rattle.k_lower_extents.proofs.table.note_all.Given as goal

abbrev pub invariant-loop-it : goal.invariant-loop-it
invariant-loop-it l = AreEntries l.table (take l.it-index l.found)
