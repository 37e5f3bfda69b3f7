use Rattle.k_sum_saved.specs.Merged.{IsMerged}
use Rattle.k_top_lemmas.specs.Merges.{AddsFromHere}
use Rattle.k_top_merge.proofs.adding.add_times.Given as goal

abbrev pub invariant-loop-left : goal.invariant-loop-left
invariant-loop-left l = record {
  from : AddsFromHere l.name l.times l.left l.fn.sum l.sum l.other;
  merged : IsMerged l.sum;
}

abbrev pub decreases-loop-left : goal.decreases-loop-left
decreases-loop-left l = l.left
