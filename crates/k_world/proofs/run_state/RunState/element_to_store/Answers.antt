use Rattle.std.proofs.Common.{sym, ◌∙◌}
use Rattle.k_world.proofs.Stored.{store_at, store_nowhere}
use Rattle.k_world.proofs.run_state.RunState.element_to_store.Goals as goal

pub returns-in-Some : goal.returns-in-Some
returns-in-Some c = c.element_written.ensures ∙ sym (store_at _ _ _ c.in-Some.ensures)

pub returns-in-None : goal.returns-in-None
returns-in-None c = sym (store_nowhere _ _ c.in-None.ensures)
