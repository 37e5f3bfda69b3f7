-- Believed with the theorem on the top call.
-- *Rounds*: how workers fire the operations of a run. An operation may be fired once its sources are. In each round every worker acts once, from one on
-- that is drawn.
use Rattle.std.specs.Prelude.{ℕ, zero, suc, ◌≡◌, ◌+◌, ◌%◌, ◌<◌, ◌==◌, ◌&&◌, Bool, true, false, not, if◌then◌else◌, List, [], ◌∷◌, length, replicate, slice_index_or, slice_set, Option, Some, None}
use Rattle.std.specs.List.{list_all, list_any}
use Rattle.k_gen.specs.Draw.{draw}
use Rattle.k_optab.specs.declared.event.Src.{Src}
use Rattle.k_optab.specs.Events.{Operation}
use Rattle.k_replay.specs.declared.rounds.Schedule.{Schedule}
use Rattle.k_replay.specs.declared.rounds.Tally.{Tally}

-- which operation each worker holds, which operations are fired, and what each worker did so far
pub record Firing : Type 0 where
  pub held : List (Option ℕ)
  pub fired : List Bool
  pub tallies : List Tally

-- of so many operations none is held or fired, and so many workers did nothing
abbrev pub begun : ℕ → ℕ → Firing
begun ops workers = record {
  held = replicate workers None;
  fired = replicate ops false;
  tallies = replicate workers (record { fired = 0; idle = 0 });
}

-- operation number k is fired
abbrev pub is_fired : List Bool → ℕ → Bool
is_fired fired k = slice_index_or fired k false

-- how many operations are not
abbrev pub left_of : List Bool → ℕ
left_of [] = 0
left_of (true ∷ fired) = left_of fired
left_of (false ∷ fired) = suc (left_of fired)

-- a worker holds operation number k
abbrev pub holds : ℕ → Option ℕ → Bool
holds k None = false
holds k (Some j) = j == k

-- operation number k can be given: its sources, broken ones too, are fired, it is not, and no worker holds it
abbrev pub can_give : Firing → ℕ → Operation → Bool
can_give f k op = list_all (λ (s : Src). is_fired f.fired s.number) op.sources && (not (is_fired f.fired k) && not (list_any (holds k) f.held))

-- the least of these operations that can be given; they are numbered from k on
abbrev pub next_from : Firing → ℕ → List Operation → Option ℕ
next_from f k [] = None
next_from f k (op ∷ ops) = if can_give f k op then Some k else next_from f (k + 1) ops

-- the tally of a worker changes so
abbrev pub tallied : (Tally → Tally) → ℕ → List Tally → List Tally
tallied change worker tallies = slice_set tallies worker (change (slice_index_or tallies worker (record { fired = 0; idle = 0 })))

-- the operation that a worker holds is fired
abbrev pub fires : ℕ → ℕ → Firing → Firing
fires worker k f = record {
  held = slice_set f.held worker None;
  fired = slice_set f.fired k true;
  tallies = tallied (λ (t : Tally). record { fired = t.fired + 1; idle = t.idle }) worker f.tallies;
}

-- a worker takes the operation that can be given, or is idle where there is none
abbrev pub takes : ℕ → Option ℕ → Firing → Firing
takes worker (Some k) f = record f { held = slice_set f.held worker (Some k) }
takes worker None f = record f { tallies = tallied (λ (t : Tally). record { fired = t.fired; idle = t.idle + 1 }) worker f.tallies }

-- a worker fires the operation that it holds; one that holds none takes the least that can be given
abbrev pub acts : List Operation → ℕ → Option ℕ → Firing → Firing
acts ops worker (Some k) f = fires worker k f
acts ops worker None f = takes worker (next_from f 0 ops) f

-- a worker's turn: nothing more happens once every operation is fired
abbrev pub turn : List Operation → ℕ → Firing → Firing
turn ops worker f = if left_of f.fired == 0 then f else acts ops worker (slice_index_or f.held worker None) f

-- so many turns, of the workers from the first one on, where worker 0 comes behind the last
unfoldable pub turns : List Operation → ℕ → ℕ → ℕ → Firing → Firing
turns ops workers first zero f = f
turns ops workers first (suc i) f = turn ops ((first + i) % workers) (turns ops workers first i f)

-- so many rounds: each takes a draw, which tells the first worker, and every worker has a turn
unfoldable pub rounds : List Operation → ℕ → ℕ → ℕ → Firing
rounds ops workers seed zero = begun (length ops) workers
rounds ops workers seed (suc k) = turns ops workers (draw seed k % workers) workers (rounds ops workers seed k)

-- how many operations are left behind so many rounds
abbrev pub left_behind : List Operation → ℕ → ℕ → ℕ → ℕ
left_behind ops workers seed k = left_of (rounds ops workers seed k).fired

-- THE SCHEDULE: as few rounds as leave no operation, and what each worker did in them
pub record IsScheduleOf (ops : List Operation) (workers seed : ℕ) (s : Schedule) : Type 0 where
  pub none : left_behind ops workers seed s.rounds ≡ 0
  pub least : (k : ℕ) → k < s.rounds → 0 < left_behind ops workers seed k
  pub tallies : s.tallies ≡ (rounds ops workers seed s.rounds).tallies
