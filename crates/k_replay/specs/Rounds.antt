-- Believed with a public law.
-- *Rounds*: a schedule of workers. In each round every worker acts once, from one on that is drawn.
use Rattle.std.specs.Prelude.{ℕ, zero, suc, ◌≡◌, ◌+◌, ◌-◌, ◌%◌, ◌<◌, ◌⊎◌, nat_lt, if◌then◌else◌, List, replicate, slice_index_or, slice_set, Some, None, Ok, Err}
use Rattle.k_gen.specs.Draw.{draw}
use Rattle.k_replay_record.specs.declared.record.Record.{Record}
use Rattle.k_replay_record.specs.Records.{IsRecord}
use Rattle.k_replay.specs.declared.answer.Deal.TheVariants.{Idle}
use Rattle.k_replay.specs.declared.rounds.Schedule.{Schedule}
use Rattle.k_replay.specs.declared.rounds.Tally.{Tally}
use Rattle.k_replay.specs.Orders.{Call, Does, Fired, GivesSerialRun, Leads, Took}
use Rattle.k_replay.specs.Plays.{Play, held_by, left_in, started}

-- a play, and what each worker did so far
pub record Standing : Type 0 where
  pub play : Play
  pub tallies : List Tally

-- nothing was done
abbrev pub nothing_done : Tally
nothing_done = record { fired = 0; idle = 0 }

-- what a worker did
abbrev pub tally_of : List Tally → ℕ → Tally
tally_of tallies worker = slice_index_or tallies worker nothing_done

-- one operation more was fired
abbrev pub one_fired : Tally → Tally
one_fired t = record { fired = t.fired + 1; idle = t.idle }

-- there was none to give once more
abbrev pub one_idle : Tally → Tally
one_idle t = record { fired = t.fired; idle = t.idle + 1 }

-- a call is counted
abbrev pub tallied : Call → List Tally → List Tally
tallied (Took worker Idle) tallies = slice_set tallies worker (one_idle (tally_of tallies worker))
tallied (Fired worker (Ok k)) tallies = slice_set tallies worker (one_fired (tally_of tallies worker))
tallied c tallies = tallies

-- the call is what a worker has to do: one that holds an operation fires it, another one takes
abbrev pub IsDue : ℕ → Play → Call → Type 0
IsDue worker p (Fired who (Ok k)) = (who ≡ worker) × (held_by p worker ≡ Some k)
IsDue worker p (Fired who (Err fault)) = ⊥
IsDue worker p (Took who deal) = (who ≡ worker) × (held_by p worker ≡ None)

-- a worker does what it has to do
pub record Acts (worker : ℕ) (before after : Standing) : Type 0 where
  pub call : Call
  pub due : IsDue worker before.play call
  pub does : Does call before.play after.play
  pub tallies : after.tallies ≡ tallied call before.tallies

-- a worker's turn: nothing more happens once no operation is left
abbrev pub Turn : ℕ → Standing → Standing → Type 0
Turn worker before after =
    ((left_in before.play.values ≡ 0) × (after ≡ before)) ⊎ ((0 < left_in before.play.values) × Acts worker before after)

-- the worker whose turn is number i of a round of so many workers that begins with this one
abbrev pub in_turn : ℕ → ℕ → ℕ → ℕ
in_turn workers first i = if nat_lt (first + i) workers then first + i else first + i - workers

-- so many turns of a round
unfoldable pub Turns : ℕ → ℕ → ℕ → Standing → Standing → Type 0
Turns workers first zero before after = after ≡ before
Turns workers first (suc i) before after =
    (between : Standing) × Turns workers first i before between × Turn (in_turn workers first i) between after

-- so many rounds: each begins while something is left, with the worker that the next draw tells, and every worker has its turn
unfoldable pub Rounds : ℕ → ℕ → ℕ → Standing → Standing → Type 0
Rounds seed workers zero before after = after ≡ before
Rounds seed workers (suc k) before after =
    (between : Standing) × Rounds seed workers k before between × (0 < left_in between.play.values)
    × Turns workers (draw seed k % workers) workers between after

-- nobody did anything so far
abbrev pub begun : ℕ → Play → Standing
begun workers p = record { play = p; tallies = replicate workers nothing_done }

-- the rounds by which nothing is left
pub record IsSchedule (seed workers : ℕ) (before after : Play) (s : Schedule) : Type 0 where
  pub rounds : Rounds seed workers s.rounds (begun workers before) (record { play = after; tallies = s.tallies })
  pub none : left_in after.values ≡ 0

-- a schedule is a list of calls, so it gives the serial run, as every such list does
abbrev pub RoundsGiveTheSerialRun : Type 0
RoundsGiveTheSerialRun =
    (tape : Record) (seed workers : ℕ) (after : Play) (s : Schedule)
    → IsRecord tape
    → IsSchedule seed workers (started tape workers) after s
    → (calls : List Call) × Leads calls (started tape workers) after × GivesSerialRun tape calls after
