use Rattle.std.proofs.Common.{◌≡◌, map, drop}
use Rattle.k_types_meaning.specs.Units.{all_faults, undefined_call}
use Rattle.k_types_calls.specs.Noting.{seen}
use Rattle.k_types.proofs.undefined.test_each.Given as goal

abbrev pub invariant-loop-call : goal.invariant-loop-call
invariant-loop-call l =
    all_faults (map (undefined_call l.defined) (map seen (drop l.call-index l.calls)))
    ≡ all_faults (map (undefined_call l.defined) (map seen l.calls))
