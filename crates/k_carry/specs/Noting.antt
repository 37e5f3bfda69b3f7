-- For contracts between crates: nobody has to believe it.
-- What is noted of what happened by an instruction.
use Rattle.std.specs.Prelude.{ℕ, zero, suc, ◌≡◌, ◌+◌, List, ◌++◌, Option, Some, None}
use Rattle.k_num.specs.declared.place.Place.{Place}
use Rattle.k_carry_pairs.specs.declared.origin.Origin.{Origin}
use Rattle.k_carry_pairs.specs.Gathered.{Gathered, depended_all, entered, left}
use Rattle.k_carry.specs.declared.advance.Happened.{Happened}
use Rattle.k_carry.specs.declared.advance.Made.{Made}
use Rattle.k_carry.specs.declared.cited.Cited.{Cited}
use Rattle.k_carry.specs.Sources.{ArePlaced, Setting, cited_numbers, one_number, origin_numbers}

-- how many operations were made behind the instruction
abbrev pub made_after : ℕ → Option Made → ℕ
made_after number None = number
made_after number (Some m) = number + 1

-- an operation was made, if one was, that depends on these
abbrev pub gathered_operation : List Origin → Place → Option Made → Gathered → Gathered
gathered_operation origins place None g = g
gathered_operation origins place (Some m) g = depended_all origins place g

-- an instance was entered, if one was
abbrev pub gathered_entered : ℕ → Option ℕ → Gathered → Gathered
gathered_entered made None g = g
gathered_entered made (Some region) g = entered region made g

-- so many instances were left
abbrev pub all_left : ℕ → ℕ → Gathered → Gathered
all_left made zero g = g
all_left made (suc n) g = all_left made n (left made g)

-- these are all that the operation depends on, where its operands read these
abbrev pub AreNumbersOf : Option Made → List Cited → List Origin → Type 0
AreNumbersOf None cited origins = Unit {0}
AreNumbersOf (Some m) cited origins = origin_numbers origins ≡ cited_numbers cited ++ (one_number m.hidden ++ one_number m.control)

-- the operation was noted, with its operands' and other sources, each with its place
pub record IsNoted (s : Setting) (cited : List Cited) (place : Place) (operation : Option Made) (old new : Gathered) : Type 0 where
  pub origins : List Origin
  pub numbers : AreNumbersOf operation cited origins
  pub placed : ArePlaced s origins
  pub is : new ≡ gathered_operation origins place operation old

-- so was all that happened
pub record IsNotedAll (s : Setting) (cited : List Cited) (number : ℕ) (place : Place) (h : Happened) (old new : Gathered) : Type 0 where
  pub between : Gathered
  pub operation : IsNoted s cited place h.operation old between
  pub is : new ≡ all_left (made_after number h.operation) h.left (gathered_entered (made_after number h.operation) h.entered between)
