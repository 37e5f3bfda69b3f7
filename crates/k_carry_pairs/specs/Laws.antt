-- Believed with a public law.
-- That there is one answer, and what turns are: the statements of the laws.
use Rattle.std.specs.Prelude.{ℕ, ◌≡◌, ◌<◌, ◌≤◌, true, List, take, slice_get}
use Rattle.k_optab.specs.declared.event.Event.{Event}
use Rattle.k_optab.specs.declared.region.Region.{Region}
use Rattle.k_optab.specs.Open.{Open, open_after}
use Rattle.k_carry_pairs.specs.declared.pairs.LoopPairs.{LoopPairs}
use Rattle.k_carry_pairs.specs.Carried.{AreCarried, ends_body, turn}

-- no other list of loops tells of the same run
abbrev pub OneAnswer : Type 0
OneAnswer = (regions : List Region) (depth : ℕ) (events : List Event) (a b : List LoopPairs) → AreCarried regions depth events a → AreCarried regions depth events b → a ≡ b

-- between two places a body of the instance ended
pub record EndsBetween (events : List Event) (o : Open) (from to : ℕ) : Type 0 where
  pub at : ℕ
  pub behind : from ≤ at
  pub before : at < to
  pub ends : ends_body o (open_after (take at events)) (slice_get events at) ≡ true

-- a place lies in a later turn than another one before it exactly where a body ended between them
abbrev pub LaterTurnsAreBehindBodies : Type 0
LaterTurnsAreBehindBodies = (events : List Event) (o : Open) (from to : ℕ) → from ≤ to
    → (turn events o from < turn events o to → EndsBetween events o from to) × (EndsBetween events o from to → turn events o from < turn events o to)
