use Rattle.std.proofs.Common.{◌≡◌, ◌-◌}
use Rattle.k_dict_saved.specs.Syntax.{runs_at}
use Rattle.k_dict_saved.proofs.ReadingRuns.{with_front}
use Rattle.k_dict_saved.proofs.reading.lines.runs.Given as goal

abbrev pub invariant-loop : goal.invariant-loop
invariant-loop l = with_front l.runs (runs_at l.high (1048576 - l.counter) l.rest) ≡ runs_at l.high 1048576 l.text
