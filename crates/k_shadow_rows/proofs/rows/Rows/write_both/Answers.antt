use Rattle.std.proofs.Common.{ℕ, ◌<◌, ◌≤◌, List, length, max, subst}
use Rattle.std.specs.Prelude.{slice_index}
use Rattle.k_shadow.specs.Rooms.{delayed}
use Rattle.k_shadow.specs.Rows.{row_time}
use Rattle.k_shadow_rows.specs.Rows.{greatest, row_in}
use Rattle.k_shadow_rows.specs.declared.rows.Rows.{Rows}
use Rattle.k_shadow_rows.proofs.rows.Rows.write_both.Goals as goal

-- the rows can have the times that are to be given
abbrev AreWithin : (left right latency : ℕ) (numbers before : List ℕ) → Rows → Type 0
AreWithin left right latency numbers before rows = (k : ℕ) → k < length before → delayed (max (max (row_time (row_in rows left) (slice_index numbers k) k) (row_time (row_in rows right) (slice_index numbers k) k)) (slice_index before k)) latency ≤ greatest rows

pub write_both-requires-clause-within : goal.write_both-requires-clause-within
write_both-requires-clause-within g c = subst (AreWithin c.args.left c.args.right c.args.latency c.args.numbers.now c.args.before.now) c.in-NarrowEight.is c.requires.within

pub write_both-requires-in-NarrowThirtyTwo-clause-within : goal.write_both-requires-in-NarrowThirtyTwo-clause-within
write_both-requires-in-NarrowThirtyTwo-clause-within g c = subst (AreWithin c.args.left c.args.right c.args.latency c.args.numbers.now c.args.before.now) c.in-NarrowThirtyTwo.is c.requires.within

pub write_both-requires-in-Eight-clause-within : goal.write_both-requires-in-Eight-clause-within
write_both-requires-in-Eight-clause-within g c = subst (AreWithin c.args.left c.args.right c.args.latency c.args.numbers.now c.args.before.now) c.in-Eight.is c.requires.within

pub write_both-requires-in-ThirtyTwo-clause-within : goal.write_both-requires-in-ThirtyTwo-clause-within
write_both-requires-in-ThirtyTwo-clause-within g c = subst (AreWithin c.args.left c.args.right c.args.latency c.args.numbers.now c.args.before.now) c.in-ThirtyTwo.is c.requires.within
