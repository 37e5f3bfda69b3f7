-- Believed with a public law.
-- What the calls `take` and `fire` answer, and what they change.
use Rattle.std.specs.Prelude.{ℕ, ◌≡◌, ◌<◌, true, false, Some, None, Result, Ok, Err}
use Rattle.k_replay.specs.declared.answer.Deal.{Deal}
use Rattle.k_replay.specs.declared.answer.Deal.TheVariants.{Given, Held, Idle}
use Rattle.k_replay.specs.declared.answer.FireFault.{FireFault}
use Rattle.k_replay.specs.declared.answer.FireFault.TheVariants.{NoneHeld, Memory}
use Rattle.k_replay.specs.Plays.{Play, fired_by, held_by, is_ready, with_held}

-- no operation can be given
abbrev pub NoneReady : Play → Type 0
NoneReady p = (k : ℕ) → is_ready p k ≡ false

-- this is the least operation that can be given
pub record IsNext (p : Play) (k : ℕ) : Type 0 where
  pub ready : is_ready p k ≡ true
  pub least : (j : ℕ) → j < k → is_ready p j ≡ false

-- what `take` answers a worker, and what follows: who holds an operation is told so; else, where none can be given, the worker is
-- idle; else the least of them is given, which the worker holds then
abbrev pub Takes : Play → ℕ → Deal → Play → Type 0
Takes before worker (Held k) after = (held_by before worker ≡ Some k) × (after ≡ before)
Takes before worker Idle after = (held_by before worker ≡ None) × NoneReady before × (after ≡ before)
Takes before worker (Given k) after = (held_by before worker ≡ None) × IsNext before k × (after ≡ with_held worker (Some k) before)

-- the worker holds an operation
abbrev pub IsHolding : Play → ℕ → Type 0
IsHolding p worker = (k : ℕ) × (held_by p worker ≡ Some k)

-- what `fire` answers a worker, and what follows: the operation that it holds is fired
abbrev pub Fires : Play → ℕ → Result ℕ FireFault → Play → Type 0
Fires before worker (Ok k) after = (held_by before worker ≡ Some k) × (after ≡ fired_by worker k before)
Fires before worker (Err NoneHeld) after = (held_by before worker ≡ None) × (after ≡ before)
Fires before worker (Err Memory) after = IsHolding before worker × (after ≡ before)
