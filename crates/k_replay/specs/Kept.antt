-- For contracts between crates: nobody has to believe it.
-- What a core keeps besides the play: which operations can be given, which ones each operation is a source of, and how many are not fired.
use Rattle.std.specs.Prelude.{ℕ, ◌≡◌, ◌<◌, ◌⊎◌, false, Bool, List, [], length, slice_get, slice_index_or, Some}
use Rattle.std.specs.List.{Contains}
use Rattle.k_replay_record.specs.declared.record.Operand.{Operand}
use Rattle.k_replay_record.specs.declared.record.Operand.TheVariants.{From}
use Rattle.k_replay_record.specs.declared.record.Step.{Step}
use Rattle.k_replay.specs.Plays.{Play, is_ready, left_in}
use Rattle.k_replay.specs.Sound.{IsSound}

-- what a core keeps of a play: the play, how many operations are not fired yet, of each whether it may be given, and which operations use its value
pub record Kept : Type 0 where
  pub play : Play
  pub left : ℕ
  pub ready : List Bool
  pub users : List (List ℕ)

-- the flags are those of the operations that can be given
abbrev pub AreReady : List Bool → Play → Type 0
AreReady flags p = (k : ℕ) → slice_index_or flags k false ≡ is_ready p k

-- the list of operation j names operation k
abbrev pub Names : List (List ℕ) → ℕ → ℕ → Type 0
Names users j k = Contains (slice_index_or users j []) k

-- the lists name each step for each of its sources
abbrev pub AreUsers : List (List ℕ) → List Step → Type 0
AreUsers users steps = (k j : ℕ) (s : Step) → slice_get steps k ≡ Some s → Contains s.operands (From j) → Names users j k

-- and none but the first so many
abbrev pub NamesBelow : List (List ℕ) → ℕ → Type 0
NamesBelow users count = (j k : ℕ) → Names users j k → k < count

-- a step was noted for each of its sources, and nothing else was
pub record Notes (before after : List (List ℕ)) (operands : List Operand) (number : ℕ) : Type 0 where
  pub lengths : length after ≡ length before
  pub kept : (j k : ℕ) → Names before j k → Names after j k
  pub noted : (j : ℕ) → Contains operands (From j) → Names after j number
  pub only : (j k : ℕ) → Names after j k → Names before j k ⊎ (k ≡ number)

-- of these numbers the flags are those that f tells, and all others are as before
pub record Renews (numbers : List ℕ) (f : ℕ → Bool) (before after : List Bool) : Type 0 where
  pub lengths : length after ≡ length before
  pub here : (k : ℕ) → Contains numbers k → slice_index_or after k false ≡ f k
  pub others : (k : ℕ) → ¬ Contains numbers k → slice_index_or after k false ≡ slice_index_or before k false

-- what is kept is that of its play
pub record IsKept (s : Kept) : Type 0 where
  pub sound : IsSound s.play
  pub left : s.left ≡ left_in s.play.values
  pub flags : length s.ready ≡ length s.play.tape.steps
  pub ready : AreReady s.ready s.play
  pub lists : length s.users ≡ length s.play.tape.steps
  pub users : AreUsers s.users s.play.tape.steps
  pub named : NamesBelow s.users (length s.play.tape.steps)
