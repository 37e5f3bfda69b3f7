use Rattle.std.proofs.Common.{◌≡◌, ◌++◌, drop}
use Rattle.k_lex_forms.specs.Directives.{spelled}
use Rattle.k_lex_forms.proofs.directives.text_of.Given as goal

abbrev pub invariant-loop-other : goal.invariant-loop-other
invariant-loop-other l = l.text ++ spelled (drop l.other-index l.cuts) ≡ l.cut.spelling ++ spelled l.cuts
