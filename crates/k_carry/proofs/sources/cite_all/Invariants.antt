use Rattle.std.proofs.Common.{◌≡◌, ◌++◌, length}
use Rattle.k_hcpa_store.specs.Kept.{configuration_of}
use Rattle.k_carry.specs.Sources.{cited_numbers, operand_numbers}
use Rattle.k_carry.proofs.sources.cite_all.Given as goal

-- what is cited and what the rest reads is what all read
abbrev pub invariant-loop-arg : goal.invariant-loop-arg
invariant-loop-arg l =
    cited_numbers l.cited.items ++ operand_numbers (configuration_of l.fn.store) l.rest
    ≡ cited_numbers l.initial.cited.items ++ operand_numbers (configuration_of l.fn.store) l.fn.args

abbrev pub decreases-loop-arg : goal.decreases-loop-arg
decreases-loop-arg l = length l.rest
