use Rattle.std.proofs.Common.{◌≡◌, ◌++◌, drop}
use Rattle.k_pragma.specs.Marked.{candidates}
use Rattle.k_pragma.proofs.pragmas.candidates.Given as goal

abbrev pub invariant-loop-region : goal.invariant-loop-region
invariant-loop-region l = l.regions.items ++ candidates l.loops (drop l.region-index l.picked) ≡ candidates l.loops l.picked
