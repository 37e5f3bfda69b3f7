use Rattle.std.proofs.Common.{◌≡◌}
use Rattle.k_advise_text.specs.Sources.{behind_lines}
use Rattle.k_advise_text.proofs.sources.behind_lines.Given as goal

abbrev pub invariant-loop-left : goal.invariant-loop-left
invariant-loop-left l = behind_lines l.left l.rest ≡ behind_lines l.many l.source

abbrev pub decreases-loop-left : goal.decreases-loop-left
decreases-loop-left l = l.left
