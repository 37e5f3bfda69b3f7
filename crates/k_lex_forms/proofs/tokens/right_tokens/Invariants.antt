use Rattle.std.proofs.Common.{◌≡◌, ◌++◌, drop}
use Rattle.k_lex_forms.specs.Tokens.{right_tokens}
use Rattle.k_lex_forms.proofs.tokens.right_tokens.Given as goal

abbrev pub invariant-loop-cut : goal.invariant-loop-cut
invariant-loop-cut l = l.tokens ++ right_tokens (drop l.cut-index l.cuts) ≡ right_tokens l.cuts
