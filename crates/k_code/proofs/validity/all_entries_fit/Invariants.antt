use Rattle.k_code.specs.Decides.{EntriesFit}
use Rattle.k_code.proofs.validity.all_entries_fit.Given as goal

abbrev pub invariant-loop-entry : goal.invariant-loop-entry
invariant-loop-entry l = EntriesFit l.code l.entry
