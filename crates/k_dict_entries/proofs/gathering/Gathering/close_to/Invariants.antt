use Rattle.std.proofs.Common.{◌≡◌, length}
use Rattle.k_dict_entries.specs.Entries.{AreInterned}
use Rattle.k_dict_entries.specs.Gathering.{IsSound, closed_to, state}
use Rattle.k_dict_entries.proofs.gathering.Gathering.close_to.Given as goal

abbrev pub invariant-loop-alloc : goal.invariant-loop-alloc
invariant-loop-alloc l = record {
  leads : closed_to l.depth (state l.self) ≡ closed_to l.depth (state l.fn.self);
  sound : IsSound (state l.self);
  interned : AreInterned l.self.dict;
}

abbrev pub decreases-loop-alloc : goal.decreases-loop-alloc
decreases-loop-alloc l = length l.self.levels
