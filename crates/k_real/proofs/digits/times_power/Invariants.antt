use Rattle.std.proofs.Common.{◌*◌, ◌^◌}
use Rattle.k_real.specs.Digits.{Spells, value}
use Rattle.k_real.proofs.digits.times_power.Given as goal

abbrev pub invariant-loop-k : goal.invariant-loop-k
invariant-loop-k l = Spells l.ys.items (value l.initial.ys.items * l.factor ^ l._k)
