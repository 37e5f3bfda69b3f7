use Rattle.std.proofs.Common.{◌≡◌, ◌+◌, length}
use Rattle.k_words.specs.Parts.{place_of}
use Rattle.k_words.proofs.merging.place_of.Given as goal

abbrev pub invariant-loop-part : goal.invariant-loop-part
invariant-loop-part l = record {
  found : l.place + place_of l.rest l.file ≡ place_of l.parts l.file;
  count : l.place + length l.rest ≡ length l.parts;
}

abbrev pub decreases-loop-part : goal.decreases-loop-part
decreases-loop-part l = length l.rest
