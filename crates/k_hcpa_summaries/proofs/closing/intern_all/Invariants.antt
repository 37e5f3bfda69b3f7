use Rattle.std.proofs.Common.{◌≡◌, length, reverse}
use Rattle.k_hcpa_summaries.specs.Closing.{AreOpen, GoesOn, IsBelow}
use Rattle.k_hcpa_summaries.proofs.Steps.{IsOn}
use Rattle.k_hcpa_summaries.proofs.closing.intern_all.Given as goal

-- the levels that are left lead where all do
abbrev pub invariant-loop-level : goal.invariant-loop-level
invariant-loop-level l = record {
  on : IsOn l.work (reverse l.fn.paths) (reverse l.fn.levels) l.initial.dict (reverse l.paths) (reverse l.levels) l.last l.dict;
  runs : AreOpen (length l.dict) (reverse l.levels);
  below : IsBelow (length l.dict) l.last;
  kept : GoesOn l.initial.dict l.dict;
  paths : length l.paths ≡ length l.levels;
}

abbrev pub decreases-loop-level : goal.decreases-loop-level
decreases-loop-level l = length l.levels
