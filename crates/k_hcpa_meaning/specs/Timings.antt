-- Believed with a public law.
-- The times that a machine keeps, and what each kind of step does to them.
use Rattle.std.specs.Prelude.{ℕ, zero, suc, ◌≡◌, ◌+◌, ◌-◌, ◌%◌, ◌^◌, max, nat_lt, if◌then◌else◌, List, [], ◌∷◌, ◌++◌, length, take, map, replicate, slice_get, slice_index_or, Some}
use Rattle.k_shadow.specs.Content.{set_times, without}

-- where a value is that has times: a register, by its number among those of all live calls; an element, by its number; the cells IN and OUT;
-- the current control source; and a saved one, counted from the oldest
pub data Location : Type 0 where
  Register : ℕ → Location
  Element : ℕ → Location
  InCell : Location
  OutCell : Location
  Control : Location
  Saved : ℕ → Location

-- What is kept of times, for each live level one, outermost first: a map from registers to times, and one from elements; the times of the
-- current control source, of each saved one (the oldest first), and of the cells IN and OUT; those of the operation that is being made; and
-- the weight of the heaviest path so far.
pub record Timing : Type 0 where
  pub registers : List (ℕ → ℕ)
  pub elements : List (ℕ → ℕ)
  pub control : List ℕ
  pub saved : List (List ℕ)
  pub in_cell : List ℕ
  pub out_cell : List ℕ
  pub row : List ℕ
  pub paths : List ℕ

-- no level is live
abbrev pub no_levels : Timing
no_levels = record { registers = []; elements = []; control = []; saved = []; in_cell = []; out_cell = []; row = []; paths = [] }

-- the times of a location, one for each live level
unfoldable pub times_at : Timing → Location → List ℕ
times_at t (Register r) = map (λ level. level r) t.registers
times_at t (Element e) = map (λ level. level e) t.elements
times_at t InCell = t.in_cell
times_at t OutCell = t.out_cell
times_at t Control = t.control
times_at t (Saved n) = slice_index_or t.saved n []

-- the time of a location at a level
abbrev pub time_of : Timing → Location → ℕ → ℕ
time_of t at level = slice_index_or (times_at t at) level 0

-- the later of two times at each level
abbrev pub later : List ℕ → List ℕ → List ℕ
later [] others = []
later (time ∷ times) [] = time ∷ times
later (time ∷ times) (other ∷ others) = max time other ∷ later times others

-- the times by so much later, modulo 2^64
abbrev pub after : ℕ → List ℕ → List ℕ
after latency times = map (λ time. (time + latency) % 2 ^ 64) times

-- an operation begins, with the times of the control source
abbrev pub begun : Timing → Timing
begun t = record t { row = t.control }

-- the operation depends on what this location holds
abbrev pub raised : Location → Timing → Timing
raised at t = record t { row = later t.row (times_at t at) }

-- and on what all these hold
abbrev pub raised_all : List Location → Timing → Timing
raised_all [] t = t
raised_all (at ∷ locations) t = raised_all locations (raised at t)

-- the operation takes so long, and each path is at least as long as the one to it
abbrev pub settled : ℕ → Timing → Timing
settled latency t = record t { row = after latency t.row; paths = later t.paths (after latency t.row) }

-- an operation is made that depends on what these locations hold
abbrev pub operated : List Location → ℕ → Timing → Timing
operated locations latency t = settled latency (raised_all locations (begun t))

-- a location holds what the operation gave
unfoldable pub given_to : Location → Timing → Timing
given_to (Register r) t = record t { registers = set_times r t.row t.registers }
given_to (Element e) t = record t { elements = set_times e t.row t.elements }
given_to InCell t = record t { in_cell = t.row }
given_to OutCell t = record t { out_cell = t.row }
given_to Control t = record t { control = t.row }
given_to (Saved n) t = t

-- so do all these
abbrev pub given_to_all : List Location → Timing → Timing
given_to_all [] t = t
given_to_all (at ∷ locations) t = given_to_all locations (given_to at t)

-- a register holds what another one holds
abbrev pub copied : ℕ → ℕ → Timing → Timing
copied from to t = record t { registers = set_times to (times_at t (Register from)) t.registers }

-- these registers hold what no operation gave
abbrev pub registers_cleared : ℕ → ℕ → Timing → Timing
registers_cleared first count t = record t { registers = map (without first count) t.registers }

-- these elements hold what no operation gave
abbrev pub elements_cleared : ℕ → ℕ → Timing → Timing
elements_cleared first count t = record t { elements = map (without first count) t.elements }

-- the control source is saved
abbrev pub control_saved : Timing → Timing
control_saved t = record t { saved = t.saved ++ t.control ∷ [] }

-- of the saved control sources the oldest are left, so many
abbrev pub saved_kept : ℕ → Timing → Timing
saved_kept count t = record t { saved = take count t.saved }

-- the times of the newest saved control source
abbrev pub newest_saved : Timing → List ℕ
newest_saved t = slice_index_or t.saved (length t.saved - 1) []

-- the newest saved control source is the current one, and stays saved
abbrev pub control_restored : Timing → Timing
control_restored t = record t { control = newest_saved t }

-- the newest saved control source is dropped
abbrev pub control_kept : Timing → Timing
control_kept t = saved_kept (length t.saved - 1) t

-- the newest saved control source is the current one, and no longer saved
abbrev pub control_back : Timing → Timing
control_back t = control_kept (control_restored t)

-- a level more is live, at which nothing has a time yet
abbrev pub entered : Timing → Timing
entered t = record {
  registers = t.registers ++ (λ _. 0) ∷ [];
  elements = t.elements ++ (λ _. 0) ∷ [];
  control = t.control ++ 0 ∷ [];
  saved = map (λ times. times ++ 0 ∷ []) t.saved;
  in_cell = t.in_cell ++ 0 ∷ [];
  out_cell = t.out_cell ++ 0 ∷ [];
  row = t.row ++ 0 ∷ [];
  paths = t.paths ++ 0 ∷ [];
}

-- the list without its last
abbrev pub without_last : {A : Type 0} → List A → List A
without_last xs = take (length xs - 1) xs

-- the innermost level is gone
abbrev pub innermost_gone : Timing → Timing
innermost_gone t = record {
  registers = without_last t.registers;
  elements = without_last t.elements;
  control = without_last t.control;
  saved = map without_last t.saved;
  in_cell = without_last t.in_cell;
  out_cell = without_last t.out_cell;
  row = without_last t.row;
  paths = without_last t.paths;
}

-- an instance is entered where so many are open, of which those below the depth have levels
abbrev pub entered_below : ℕ → ℕ → Timing → Timing
entered_below depth count t = if nat_lt count depth then entered t else t

-- the innermost of so many open instances is left
abbrev pub left_below : ℕ → ℕ → Timing → Timing
left_below depth count t = if nat_lt depth count then t else innermost_gone t

-- so are the innermost ones, so many of them
abbrev pub all_left_below : ℕ → ℕ → ℕ → Timing → Timing
all_left_below depth count zero t = t
all_left_below depth count (suc n) t = all_left_below depth (count - 1) n (left_below depth count t)

-- each list has one for each live level
pub record HasLevels (count : ℕ) (t : Timing) : Type 0 where
  pub registers : length t.registers ≡ count
  pub elements : length t.elements ≡ count
  pub control : length t.control ≡ count
  pub saved : (n : ℕ) (times : List ℕ) → slice_get t.saved n ≡ Some times → length times ≡ count
  pub in_cell : length t.in_cell ≡ count
  pub out_cell : length t.out_cell ≡ count
  pub row : length t.row ≡ count
  pub paths : length t.paths ≡ count
