use Rattle.std.proofs.Common.{◌≡◌, drop}
use Rattle.k_lex_conditions.specs.Finding.{in_front, replaced_from}
use Rattle.k_lex_conditions.specs.declared.finding.Stage.TheVariants.{Ready}
use Rattle.k_lex_conditions.proofs.finding.replaced_from.Given as goal

abbrev pub invariant-loop-token : goal.invariant-loop-token
invariant-loop-token g l =
    in_front l.out (replaced_from (g.N.Names.finds l.names) l.stage (drop l.token-index l.tokens)) ≡ replaced_from (g.N.Names.finds l.names) Ready l.tokens
