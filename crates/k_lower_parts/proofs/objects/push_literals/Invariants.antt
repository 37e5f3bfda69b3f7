use Rattle.std.proofs.Common.{◌≡◌, ◌++◌, drop, map}
use Rattle.k_lower_code.specs.Programs.{literal}
use Rattle.k_lower_parts.proofs.objects.push_literals.Given as goal

abbrev pub invariant-loop-string : goal.invariant-loop-string
invariant-loop-string l = l.to ++ map literal (drop l.string-index l.strings) ≡ l.fn.to ++ map literal l.strings
