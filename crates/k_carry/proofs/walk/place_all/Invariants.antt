use Rattle.std.proofs.Common.{◌≡◌, ◌++◌, length}
use Rattle.k_carry.specs.Sources.{ArePlaced, cited_numbers, origin_numbers, setting_of}
use Rattle.k_carry.proofs.walk.place_all.Given as goal

-- those so far have their places, and with the rest they are all
abbrev pub invariant-loop-one : goal.invariant-loop-one
invariant-loop-one l = record {
  numbers : origin_numbers l.origins.items ++ cited_numbers l.rest ≡ cited_numbers l.fn.cited;
  placed : ArePlaced (setting_of l.fn.program) l.origins.items;
}

abbrev pub decreases-loop-one : goal.decreases-loop-one
decreases-loop-one l = length l.rest
