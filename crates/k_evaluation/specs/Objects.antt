-- Believed with the theorem on the top call.
-- The objects of a run: made at their declaration, set without operations, and dead where their block is left (C17 6.2.4).
use Rattle.std.specs.Prelude.{ℕ, List, [], ◌∷◌, ◌++◌, length, Option, Some, None}
use Rattle.k_num.specs.declared.initial.Initial.{Initial}
use Rattle.k_num.specs.declared.place.Place.{Place}
use Rattle.k_ending.specs.declared.ending.End.TheVariants.{Trapped}
use Rattle.k_ending.specs.declared.ending.Trap.TheVariants.{MemoryLimit}
use Rattle.k_mem.specs.declared.start.Start.{Start}
use Rattle.k_world.specs.declared.value.Held.{Held}
use Rattle.k_world.specs.declared.value.Value.{Value}
use Rattle.k_world.specs.declared.value.Value.TheVariants as value
use Rattle.k_world.specs.Worlds.{World}
use Rattle.k_world.specs.Changes.{object_made, object_filled, objects_kept, string_made}
pub use Rattle.k_world.specs.Changes.{with_string}
pub use Rattle.k_world.specs.Values.{pointer_to}
use Rattle.k_evaluation.specs.States.{State, Outcome, Goes, Stops, Part, ◌>>=◌, gives}

-- an object was made, or the limit is passed
abbrev pub made_object : Place → State → Option World → Outcome Held
made_object place s None = Stops (Trapped MemoryLimit place) s.world
made_object place s (Some w) = Goes (pointer_to s.world.memory.made 0) (record s { world = w })

-- a new object of so many elements, which begins unset or with zeros
abbrev pub makes_object : Place → Start → ℕ → Part Held
makes_object place start count s = made_object place s (object_made s.world start count)

-- the world, in which all elements of the object of a pointer are 0, but for those that items name
abbrev pub with_items_at : Value → List Initial → World → World
with_items_at (value.Number z) items w = w
with_items_at (value.Pointer p) items w = object_filled w p.object items

-- the elements of an object are set so, without an operation
abbrev pub fills : Held → List Initial → Part (Unit {0})
fills home items s = Goes tt (record s { world = with_items_at home.value items s.world })

-- how many objects are live
abbrev pub live : Part ℕ
live s = Goes (length s.world.memory.live) s

-- the newest objects die until so many are live
abbrev pub keeps : ℕ → Part (Unit {0})
keeps count s = Goes tt (record s { world = objects_kept s.world count })

-- A BLOCK: a part whose objects die where it is left, whatever it gives (C17 6.2.4p6)
abbrev pub block : {A : Type 0} → Part A → Part A
block part = live >>= λ count. part >>= λ a. keeps count >>= λ kept. gives a

-- C17 6.4.5p6: a string is made, with the 0 behind its bytes
abbrev pub makes_string : Place → List ℕ → Part Held
makes_string place bytes s = made_object place s (string_made s.world (bytes ++ 0 ∷ []))
