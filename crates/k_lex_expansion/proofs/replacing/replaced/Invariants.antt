use Rattle.std.proofs.Common.{◌≡◌, Some, length}
use Rattle.k_lex_expansion.specs.Replacing.{replaced, replaced_before}
use Rattle.k_lex_expansion.proofs.replacing.replaced.Given as goal

abbrev pub invariant-loop-chain : goal.invariant-loop-chain
invariant-loop-chain l = replaced_before l.args l.rest (Some l.list) ≡ replaced l.args l.body

abbrev pub decreases-loop-chain : goal.decreases-loop-chain
decreases-loop-chain l = length l.rest
