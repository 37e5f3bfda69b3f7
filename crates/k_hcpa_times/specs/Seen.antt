-- For contracts between crates: nobody has to believe it.
-- What is seen of the times of all locations.
use Rattle.std.specs.Prelude.{ℕ, ◌≡◌, Bool, true, ◌+◌, ◌^◌, ◌<◌, ◌≤◌, nat_lt, if◌then◌else◌, List, [], ◌∷◌, length, All}
use Rattle.k_code.specs.declared.instruction.Arg.{Arg}
use Rattle.k_code.specs.declared.instruction.Arg.TheVariants.{Number, Reg}
use Rattle.k_shadow.specs.Content.{Content}
use Rattle.k_shadow.specs.Rooms.{delayed}
use Rattle.k_shadow.specs.Stack.{Stack}
use Rattle.k_hcpa_meaning.specs.Timings.{Timing, entered, entered_below}

-- the times; how many levels were entered so far; and the limits below which every register and every element lies
pub record Seen : Type 0 where
  pub timing : Timing
  pub entries : ℕ
  pub registers : ℕ
  pub elements : ℕ

-- how many levels are live
abbrev pub levels : Seen → ℕ
levels s = length s.timing.paths

-- this is made of the times, and nothing else is changed
abbrev pub made : (Timing → Timing) → Seen → Seen
made change s = record s { timing = change s.timing }

-- a level is entered
abbrev pub level_entered : Seen → Seen
level_entered s = record s { timing = entered s.timing; entries = s.entries + 1 }

-- how many levels more there are where an instance is entered and so many are open, of which those below the depth have levels
abbrev pub levels_more : ℕ → ℕ → ℕ
levels_more depth count = if nat_lt count depth then 1 else 0

-- an instance is entered
abbrev pub instance_entered : ℕ → ℕ → Seen → Seen
instance_entered depth count s = record s { timing = entered_below depth count s.timing; entries = s.entries + levels_more depth count }

-- what there may be room for: the times of a register of this number, and those of an element of this number; a control source more to be saved;
-- and an operation that takes so long
pub data Room : Type 0 where
  ForRegister : ℕ → Room
  ForElement : ℕ → Room
  ForSaved : Room
  ForLatency : ℕ → Room

-- whatever had room has room
abbrev pub Keeps : (Room → Type 0) → (Room → Type 0) → Type 0
Keeps old new = (at : Room) → old at → new at

-- every place that had room has room, and nothing is said of operations
pub record KeepsPlaces (old new : Room → Type 0) : Type 0 where
  pub registers : (r : ℕ) → old (ForRegister r) → new (ForRegister r)
  pub elements : (e : ℕ) → old (ForElement e) → new (ForElement e)
  pub saved : old ForSaved → new ForSaved

-- there is room for `count` registers from `first` on
abbrev pub HasRegisters : ℕ → ℕ → (Room → Type 0) → Type 0
HasRegisters first count room = (r : ℕ) → first ≤ r → r < first + count → room (ForRegister r)

-- none of these times is above that much
abbrev pub NoneAbove : ℕ → List ℕ → Type 0
NoneAbove reach times = All (λ time. time ≤ reach) times

-- at none of these levels is the time of a location above that much
abbrev pub NoLevelAbove : ℕ → List (ℕ → ℕ) → Type 0
NoLevelAbove reach levels = All (λ level. (location : ℕ) → level location ≤ reach) levels

-- no location has a time above that much, nor has the operation that is being made
pub record AreWithin (reach : ℕ) (t : Timing) : Type 0 where
  pub registers : NoLevelAbove reach t.registers
  pub elements : NoLevelAbove reach t.elements
  pub control : NoneAbove reach t.control
  pub saved : All (λ times. NoneAbove reach times) t.saved
  pub in_cell : NoneAbove reach t.in_cell
  pub out_cell : NoneAbove reach t.out_cell
  pub row : NoneAbove reach t.row

-- what there is room for where shadows and control sources have this room, where the shadows are asked for room for times up to `admitted`, and where
-- no time so far is above `reach`
abbrev pub room_of : (ℕ → ℕ → Type 0) → (ℕ → ℕ → Type 0) → Bool → ℕ → ℕ → Room → Type 0
room_of registers elements saved reach admitted (ForRegister r) = registers r admitted
room_of registers elements saved reach admitted (ForElement e) = elements e admitted
room_of registers elements saved reach admitted ForSaved = saved ≡ true
room_of registers elements saved reach admitted (ForLatency latency) = delayed reach latency ≤ admitted

-- the registers of these operands, numbered from `first` on, are below the limit, and have 32 bits
abbrev pub AreBelow : ℕ → ℕ → List Arg → Type 0
AreBelow first limit [] = Unit {0}
AreBelow first limit (Number n ∷ args) = AreBelow first limit args
AreBelow first limit (Reg r broken ∷ args) = (first + r < limit) × (first + r < 2 ^ 32) × AreBelow first limit args

-- what is seen where this is kept: the shadows of registers and of elements, the control sources, the cells IN and OUT, the times of the operation
-- that is being made, and the paths
abbrev pub seen_of : Content → Content → Stack → List ℕ → List ℕ → List ℕ → List ℕ → Seen
seen_of registers elements control in_cell out_cell row paths = record {
  timing = record {
    registers = registers.levels;
    elements = elements.levels;
    control = control.current;
    saved = control.saved;
    in_cell = in_cell;
    out_cell = out_cell;
    row = row;
    paths = paths;
  };
  entries = registers.entries;
  registers = registers.limit;
  elements = elements.limit;
}
