use Rattle.std.proofs.Common.{◌≡◌, drop}
use Rattle.k_lex_forms.specs.Tokens.{first_fault}
use Rattle.k_lex_forms.proofs.tokens.first_fault.Given as goal

abbrev pub invariant-loop-cut : goal.invariant-loop-cut
invariant-loop-cut l = first_fault (drop l.cut-index l.cuts) ≡ first_fault l.cuts
