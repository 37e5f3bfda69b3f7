use Rattle.std.proofs.Common.{◌≡◌, ◌++◌, drop, map}
use Rattle.k_lower_code.specs.Programs.{plain}
use Rattle.k_lower_parts.proofs.objects.push_plain.Given as goal

abbrev pub invariant-loop-object : goal.invariant-loop-object
invariant-loop-object l = l.to ++ map plain (drop l.object-index l.objects) ≡ l.fn.to ++ map plain l.objects
