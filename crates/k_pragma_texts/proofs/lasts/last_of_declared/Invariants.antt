use Rattle.std.proofs.Common.{◌≡◌, drop}
use Rattle.k_pragma_texts.specs.Declarations.{declared_last}
use Rattle.k_pragma_texts.proofs.lasts.last_of_declared.Given as goal

abbrev pub invariant-loop-declarator : goal.invariant-loop-declarator
invariant-loop-declarator l = declared_last l.last (drop l.declarator-index l.declarator-items) ≡ declared_last l.before l.list
