use Rattle.std.proofs.Common.{◌≡◌, ℕ, ◌*◌, ◌<◌, false, get_or}
use Rattle.k_replay.specs.Blocks.{AreMarked}
use Rattle.k_replay.proofs.ready_set.ReadySet.first.Given as goal

abbrev pub invariant-loop-b : goal.invariant-loop-b
invariant-loop-b l = record {
  same : l.self-inside.flags.items ≡ l.fn.self;
  marked : AreMarked l.self-inside.flags.items l.self-inside.blocks.items;
  none : (j : ℕ) → j < l.b * 2048 → get_or l.self-inside.flags.items j false ≡ false;
}
