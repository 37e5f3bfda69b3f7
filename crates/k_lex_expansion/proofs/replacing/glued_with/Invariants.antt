use Rattle.std.proofs.Common.{◌≡◌, Some, drop, map}
use Rattle.k_lex_expansion.specs.Pasting.{glued}
use Rattle.k_lex_expansion.specs.Replacing.{beside}
use Rattle.k_lex_expansion.proofs.replacing.glued_with.Given as goal

abbrev pub invariant-loop-operand : goal.invariant-loop-operand
invariant-loop-operand l = glued (Some l.list) (map (beside l.args) (drop l.operand-index l.more)) ≡ glued (Some l.fn.list) (map (beside l.args) l.more)
