use Rattle.std.proofs.Common.{reverse, vec_len}
use Rattle.std.specs.BTreeMap.{get_by_text}
use Rattle.k_types_names.proofs.Kept.{IsClosing}
use Rattle.k_types_names.proofs.scopes.Scopes.close.Given as goal

abbrev pub invariant-loop-slot : goal.invariant-loop-slot
invariant-loop-slot l = IsClosing l.self-inside.depth (reverse l.self-inside.slots.items) (get_by_text l.self-inside.known) l.fn.self

abbrev pub decreases-loop-slot : goal.decreases-loop-slot
decreases-loop-slot l = vec_len l.self-inside.slots
