use Rattle.std.proofs.Common.{◌≡◌, ◌++◌, drop}
use Rattle.std.specs.List.{flat_map}
use Rattle.k_pragma_profile.specs.Annotated.{picked_by}
use Rattle.k_pragma_profile.proofs.annotated.picked_of.Given as goal

abbrev pub invariant-loop-pick : goal.invariant-loop-pick
invariant-loop-pick l = l.picked ++ flat_map (picked_by l.contexts) (drop l.pick-index l.picks) ≡ flat_map (picked_by l.contexts) l.picks
