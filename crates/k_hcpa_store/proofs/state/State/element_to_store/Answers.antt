use Rattle.std.proofs.Common.{sym, ◌∙◌, ap}
use Rattle.k_code.specs.Named.{operands}
use Rattle.k_hcpa_store.specs.Kept.{configuration_of}
use Rattle.k_hcpa_store.specs.Leads.{stored_element}
use Rattle.k_hcpa_store.proofs.state.State.element_to_store.Goals as goal

pub returns-in-Store : goal.returns-in-Store
unfolding stored_element configuration_of operands
returns-in-Store c = c.element_at.ensures ∙ ap (stored_element (configuration_of c.args.self.now)) (sym c.in-Store.is)
