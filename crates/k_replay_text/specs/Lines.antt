-- Believed with the theorem on the top call.
-- How a schedule of workers is written behind a program's output.
use Rattle.std.specs.Prelude.{ℕ, ℤ, ◌+◌, ◌==◌, Bool, true, if◌then◌else◌, List, [], ◌∷◌, ◌++◌, codes}
use Rattle.std.specs.Fmt.{decimal, signed_decimal}
use Rattle.k_replay.specs.declared.rounds.Schedule.{Schedule}
use Rattle.k_replay.specs.declared.rounds.Tally.{Tally}
use Rattle.k_text.specs.Texts.{named_line}

-- the line of a worker: how many operations it fired, and how often there was none to give it
abbrev pub worker_line : ℕ → Tally → List ℕ
worker_line worker t = codes "worker " ++ decimal worker ++ codes " fired " ++ decimal t.fired ++ named_line (codes " idle ") (decimal t.idle)

-- the lines of workers that are numbered from this one on
abbrev pub worker_lines : ℕ → List Tally → List ℕ
worker_lines worker [] = []
worker_lines worker (t ∷ tallies) = worker_line worker t ++ worker_lines (worker + 1) tallies

-- the lines of a schedule, by which so many operations were fired, of a run whose main returned this
abbrev pub schedule_lines : ℕ → ℤ → Schedule → List ℕ
schedule_lines ops exit s =
    codes "== replay ==\n" ++ named_line (codes "ops ") (decimal ops) ++ named_line (codes "rounds ") (decimal s.rounds) ++ worker_lines 0 s.tallies
    ++ named_line (codes "exit ") (signed_decimal exit)

-- a text is empty or ends in a newline
abbrev pub ends_line : List ℕ → Bool
ends_line [] = true
ends_line (byte ∷ []) = byte == 10
ends_line (byte ∷ next ∷ bytes) = ends_line (next ∷ bytes)

-- lines that begin on a line of their own behind a program's output
abbrev pub with_report : List ℕ → List ℕ → List ℕ
with_report output report = if ends_line output then output ++ report else output ++ 10 ∷ report

-- THE TEXT
abbrev pub replay_text : List ℕ → ℕ → ℤ → Schedule → List ℕ
replay_text output ops exit s = with_report output (schedule_lines ops exit s)
