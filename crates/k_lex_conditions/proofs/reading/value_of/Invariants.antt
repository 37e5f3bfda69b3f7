use Rattle.std.proofs.Common.{◌≡◌, Some, map, length}
use Rattle.k_lex_conditions.specs.Values.{operand_value}
use Rattle.k_lex_conditions.specs.Reading.{values, run, value_of}
use Rattle.k_lex_conditions.proofs.reading.value_of.Given as goal

abbrev pub invariant-loop-token : goal.invariant-loop-token
invariant-loop-token l = run values (operand_value l.names) (Some l.state) (map (λ t. t.what) l.rest) ≡ value_of l.names (map (λ t. t.what) l.tokens)

abbrev pub decreases-loop-token : goal.decreases-loop-token
decreases-loop-token l = length l.rest
