-- Believed with a public law.
-- What a run of flat code performs, in terms of what is told of it.
use Rattle.std.specs.Prelude.{ℕ, ◌≡◌, List}
use Rattle.k_ending.specs.declared.ending.End.{End}
use Rattle.k_world.specs.Worlds.{World}
use Rattle.k_code.specs.declared.code.Code.{Code}
use Rattle.k_code.specs.Runs.{EndsAfter, world_of}
use Rattle.k_code.specs.Telling.{telling_of}
use Rattle.k_replay_code.specs.Performed.{performed}

-- WHAT IS PERFORMED IS WHAT IS TOLD: the first steps of a run, so many, make the operations that are told of them, in order
abbrev pub PerformedIsTold : Type 0
PerformedIsTold = (code : Code) (input : List ℕ) (budget n : ℕ) → (world_of (telling_of code input budget n)).deeds ≡ performed code input budget n

-- a run that has ended performs no more, at whichever counts of steps it is looked at
abbrev pub PerformedOnce : Type 0
PerformedOnce =
    (code : Code) (input : List ℕ) (budget m n : ℕ) (e f : End) (v w : World) → EndsAfter code input budget m e v → EndsAfter code input budget n f w
    → performed code input budget m ≡ performed code input budget n
