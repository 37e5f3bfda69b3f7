-- Believed with the theorem on the top call.
-- What changes a world without an operation: objects are made and set, and die (C17 6.2.4). No operation gave what they set.
use Rattle.std.specs.Prelude.{ℕ, ◌+◌, false, if◌then◌else◌, List, [], ◌∷◌, ◌++◌, length, map, take, drop, replicate, Option, Some, None, Result, Ok, Err}
use Rattle.std.specs.Int.{w8, cast_signed}
use Rattle.std.specs.List.{fold}
use Rattle.k_num.specs.declared.initial.Initial.{Initial}
use Rattle.k_mem.specs.declared.fault.MemTrap.{MemTrap}
use Rattle.k_mem.specs.declared.start.Start.{Start}
use Rattle.k_mem.specs.Memory.{Object, Memory, live_elements}
use Rattle.k_mem.specs.Calls.{is_over_limit, push_of, popped, stored, filled, first_of, length_of}
use Rattle.k_world.specs.Worlds.{World}

-- a memory with so many elements more is the world's
abbrev pub with_elements : ℕ → World → Option Memory → Option World
with_elements count w None = None
with_elements count w (Some m) = Some (record w { memory = m; origins = w.origins ++ replicate count None })

-- a new object is made; none past the limit
abbrev pub object_made : World → Start → ℕ → Option World
object_made w start count = with_elements count w (push_of w.memory start count)

-- C17 6.4.5p6, p7: the object of a string: its bytes as signed 8-bit numbers, which cannot be written
abbrev pub string_object : Memory → List ℕ → Object
string_object m bytes = record {
  number = m.made;
  first = live_elements m;
  writable = false;
  elements = map (λ byte. Some (cast_signed w8 byte)) bytes;
}

-- the memory with the object of a string of these bytes; None past the limit
abbrev pub with_string : Memory → List ℕ → Option Memory
with_string m bytes =
    if is_over_limit (live_elements m) (length bytes) m.made then None
    else Some (record { live = m.live ++ string_object m bytes ∷ []; made = m.made + 1 })

-- the object of a string of these bytes is made; none past the limit
abbrev pub string_made : World → List ℕ → Option World
string_made w bytes = with_elements (length bytes) w (with_string w.memory bytes)

-- so many elements from the first on were given by no operation
abbrev pub without_origins : Result ℕ MemTrap → Result ℕ MemTrap → List (Option ℕ) → List (Option ℕ)
without_origins (Ok first) (Ok count) origins = take first origins ++ replicate count None ++ drop (first + count) origins
without_origins first count origins = origins

-- an element of an object has a number from now on, if the object has that element
abbrev pub item_stored : ℕ → Memory → Initial → Memory
item_stored object m i = stored m (record { object = object; offset = i.element }) i.number

-- the memory in which all elements of an object are 0, but for those that items name, in the order of the items
abbrev pub memory_filled : Memory → ℕ → List Initial → Memory
memory_filled m object items = fold (item_stored object) (filled m object []) items

-- C17 6.7.9p21: all elements of an object are 0, and then those that items name have their numbers, in the order of the items; an item
-- past the object's end is left out
abbrev pub object_filled : World → ℕ → List Initial → World
object_filled w object items = record w {
  memory = memory_filled w.memory object items;
  origins = without_origins (first_of w.memory object) (length_of w.memory object) w.origins;
}

-- the newest objects die until so many are live
abbrev pub objects_kept : World → ℕ → World
objects_kept w keep = record w {
  memory = popped w.memory keep;
  origins = take (live_elements (popped w.memory keep)) w.origins;
}
