use Rattle.std.proofs.Common.{◌≡◌, drop}
use Rattle.k_lex_expansion.specs.Replacing.{asks}
use Rattle.k_lex_expansion.proofs.replacing.asks.Given as goal

abbrev pub invariant-loop-chain : goal.invariant-loop-chain
invariant-loop-chain l = asks l.number (drop l.chain-index l.body) ≡ asks l.number l.body
