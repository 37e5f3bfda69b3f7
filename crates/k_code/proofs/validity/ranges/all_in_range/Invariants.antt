use Rattle.std.proofs.Common.{◌≡◌, length, true}
use Rattle.k_code.specs.Valid.{is_in_range}
use Rattle.k_code.proofs.Decided.{EachBefore}
use Rattle.k_code.proofs.validity.ranges.all_in_range.Given as goal

abbrev pub invariant-loop-k : goal.invariant-loop-k
invariant-loop-k l = EachBefore (λ k i. is_in_range l.code l.entry (length l.instrs) k i ≡ true) l.instrs l.k
