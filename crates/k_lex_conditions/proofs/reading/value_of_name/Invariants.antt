use Rattle.std.proofs.Common.{◌≡◌, drop}
use Rattle.k_lex_conditions.specs.Values.{value_of_name}
use Rattle.k_lex_conditions.proofs.reading.value_of_name.Given as goal

abbrev pub invariant-loop-known : goal.invariant-loop-known
invariant-loop-known l = value_of_name (drop l.known-index l.names) l.name ≡ value_of_name l.names l.name
