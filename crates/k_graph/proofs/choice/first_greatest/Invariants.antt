use Rattle.std.proofs.Common.{ℕ, ◌<◌, ◌≤◌, length, get_or}
use Rattle.k_graph.proofs.choice.first_greatest.Given as goal

abbrev pub invariant-loop-index : goal.invariant-loop-index
invariant-loop-index l = record {
  within : l.best < length l.times;
  greatest : (k : ℕ) → k < l.index → get_or l.times k 0 ≤ get_or l.times l.best 0;
  first : (k : ℕ) → k < l.best → get_or l.times k 0 < get_or l.times l.best 0;
}
