-- For contracts between crates: nobody has to believe it.
-- What is left to do, as a number that each call lowers that is not idle.
use Rattle.std.specs.Prelude.{ℕ, suc, ◌≡◌, ◌+◌, ◌-◌, ◌*◌, ◌<◌, ◌⊎◌, List, [], ◌∷◌, Option, Some, None}
use Rattle.k_replay.specs.Calls.{NoneReady}
use Rattle.k_replay.specs.Plays.{Play, held_by, left_in}

-- how many workers hold an operation
abbrev pub holding : List (Option ℕ) → ℕ
holding [] = 0
holding (None ∷ held) = holding held
holding (Some k ∷ held) = suc (holding held)

-- the calls that may still come, of at most 16 workers
unfoldable pub weight : Play → ℕ
weight p = left_in p.values * 17 + (16 - holding p.held)

-- a worker's turn lowers it; or it changes nothing, and where something is left, the worker holds none and none can be given
abbrev pub Moves : ℕ → Play → Play → Type 0
Moves worker before after =
    (weight after < weight before) ⊎ ((after ≡ before) × (0 < left_in before.values → (held_by before worker ≡ None) × NoneReady before))

-- so does a round; or it changes nothing, and where something is left, no worker holds one and none can be given
abbrev pub MovesAll : ℕ → Play → Play → Type 0
MovesAll workers before after =
    (weight after < weight before) ⊎ (0 < left_in before.values → ((worker : ℕ) → worker < workers → held_by before worker ≡ None) × NoneReady before)
