use Rattle.std.proofs.Common.{◌≡◌, length}
use Rattle.k_hcpa_meaning.specs.Timings.{saved_kept}
use Rattle.k_hcpa_times.specs.Seen.{made, Keeps}
use Rattle.k_hcpa_times.proofs.timed.Timed.keep_saved.Given as goal

-- what is left from here is what is left from the start
abbrev pub invariant-loop-self : goal.invariant-loop-self
invariant-loop-self g l = let seen = g.Self.Timed.seen in record {
  dropped : made (saved_kept l.count) (seen l.self) ≡ made (saved_kept l.count) (seen l.initial.self);
  kept : Keeps (g.Self.Timed.room l.initial.self) (g.Self.Timed.room l.self);
}

abbrev pub decreases-loop-self : goal.decreases-loop-self
decreases-loop-self g l = length (g.Self.Timed.seen l.self).timing.saved
