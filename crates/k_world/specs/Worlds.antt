-- Believed with the theorem on the top call.
-- The world that operations act on.
use Rattle.std.specs.Prelude.{ℕ, ◌≡◌, Bool, true, false, List, [], ◌∷◌, ◌++◌, length, Option, None}
use Rattle.k_optab.specs.declared.event.Event.{Event}
use Rattle.k_mem.specs.Memory.{Memory, live_elements}
use Rattle.k_world.specs.Deeds.{Deed}

-- What has happened so far, and what may still happen: the events; how many operations were made, and how many may still be made; the
-- current control source; the operations that the cells IN and OUT hold; the input that is left; the output; the live objects, and for
-- each of their elements, by its number, the operation that gave its value; how many calls are live, with the sum of their sizes; and whether it is
-- told what operations do, with those that were told of.
pub record World : Type 0 where
  pub events : List Event
  pub made : ℕ
  pub left : ℕ
  pub control : Option ℕ
  pub in_cell : Option ℕ
  pub out_cell : Option ℕ
  pub input : List ℕ
  pub output : List ℕ
  pub memory : Memory
  pub origins : List (Option ℕ)
  pub calls : ℕ
  pub size : ℕ
  pub telling : Bool
  pub deeds : List Deed

-- the world before a program's objects are made: nothing has happened, so many operations may be made, this is the input, and nothing is told
abbrev pub fresh : ℕ → List ℕ → World
fresh budget input = record {
  events = [];
  made = 0;
  left = budget;
  control = None;
  in_cell = None;
  out_cell = None;
  input = input;
  output = [];
  memory = record { live = []; made = 0 };
  origins = [];
  calls = 0;
  size = 0;
  telling = false;
  deeds = [];
}

-- the same, where it is told what operations do
abbrev pub fresh_telling : ℕ → List ℕ → World
fresh_telling budget input = record (fresh budget input) { telling = true }

-- each live element has an entry
abbrev pub HasOrigins : World → Type 0
HasOrigins w = length w.origins ≡ live_elements w.memory

-- the world with these events in place of its own
abbrev pub with_events : List Event → World → World
with_events events w = record w { events = events }

-- the world behind an event that is no operation
abbrev pub with_event : Event → World → World
with_event e w = record w { events = w.events ++ e ∷ [] }
