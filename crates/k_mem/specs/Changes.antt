-- Believed with a public law.
-- The calls that change a program's objects, one after another.
use Rattle.std.specs.Prelude.{ℕ, ◌≡◌, ◌≢◌, ◌⊎◌, List, [], ◌∷◌, Option, Some, None, Result, Ok, Err, ℤ}
use Rattle.k_mem.specs.declared.pointer.Pointer.{Pointer}
use Rattle.k_mem.specs.declared.fault.MemTrap.{MemTrap}
use Rattle.k_mem.specs.declared.start.Start.{Start}
use Rattle.k_mem.specs.Memory.{Object, Memory, object_of}
use Rattle.k_mem.specs.Calls.{HasLength, push_of, popped, store_of, stored, fill_of, filled}

-- a call that may change the memory
pub data Change : Type 0 where
  -- an object of so many elements is made
  Push : Start → ℕ → Change
  -- the newest objects die until so many are live
  Pop : ℕ → Change
  -- the element pointed to is written
  Store : Pointer → ℤ → Change
  -- the elements of the object of that number are set to these values, and to 0 beyond them
  Fill : ℕ → List ℤ → Change

-- the memory with the new object, or the one before where no object is made
abbrev pub made_or : Memory → Option Memory → Memory
made_or old None = old
made_or old (Some new) = new

-- the new memory where the call is answered, or the one before where it is refused
abbrev pub where_answered : {A : Type 0} → Result A MemTrap → Memory → Memory → Memory
where_answered (Ok answer) new old = new
where_answered (Err trap) new old = old

-- the memory after a call
abbrev pub changed : Memory → Change → Memory
changed m (Push start n) = made_or m (push_of m start n)
changed m (Pop keep) = popped m keep
changed m (Store to v) = where_answered (store_of m to) (stored m to v) m
changed m (Fill number values) = where_answered (fill_of m number) (filled m number values) m

-- the memory after calls, the first of them first
abbrev pub after : Memory → List Change → Memory
after m [] = m
after m (change ∷ changes) = after (changed m change) changes

-- a literal has as many bytes as it is to have elements
abbrev pub CanBeMade : Change → Type 0
CanBeMade (Push start n) = HasLength start n
CanBeMade (Pop keep) = Unit {0}
CanBeMade (Store to v) = Unit {0}
CanBeMade (Fill number values) = Unit {0}

-- the call isn't one that writes the element pointed to
abbrev pub Spares : Change → Pointer → Type 0
Spares (Push start n) at = Unit {0}
Spares (Pop keep) at = Unit {0}
Spares (Store to v) at = (to.object ≢ at.object) ⊎ (to.offset ≢ at.offset)
Spares (Fill number values) at = number ≢ at.object

-- none of the calls writes the element pointed to
abbrev pub AllSpare : List Change → Pointer → Type 0
AllSpare [] at = Unit {0}
AllSpare (change ∷ changes) at = Spares change at × AllSpare changes at

-- some live object has that number
abbrev pub IsLive : Memory → ℕ → Type 0
IsLive m number = (o : Object) × (object_of m number ≡ Some o)
