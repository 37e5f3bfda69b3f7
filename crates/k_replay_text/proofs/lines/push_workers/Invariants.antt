use Rattle.std.proofs.Common.{◌≡◌, ◌++◌, drop}
use Rattle.k_replay_text.specs.Lines.{worker_lines}
use Rattle.k_replay_text.proofs.lines.push_workers.Given as goal

abbrev pub invariant-loop-worker : goal.invariant-loop-worker
invariant-loop-worker l = l.text.items ++ worker_lines l.worker (drop l.worker l.tallies) ≡ l.fn.text.items ++ worker_lines 0 l.fn.tallies
