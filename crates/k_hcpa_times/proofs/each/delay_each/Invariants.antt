use Rattle.std.proofs.Common.{◌≡◌, ℕ, ◌+◌, ◌%◌, ◌^◌, ◌<◌, ◌≤◌, get_or}
use Rattle.k_hcpa_times.proofs.each.delay_each.Given as goal

-- the times so far are later, and the others are as before
abbrev pub invariant-loop-time : goal.invariant-loop-time
invariant-loop-time l = record {
  later : (k : ℕ) → k < l.time-index → get_or l.times k 0 ≡ (get_or l.initial.times k 0 + l.latency) % 2 ^ 64;
  rest : (k : ℕ) → l.time-index ≤ k → get_or l.times k 0 ≡ get_or l.initial.times k 0;
}
