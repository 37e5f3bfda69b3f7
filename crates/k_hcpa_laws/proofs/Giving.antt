-- Times at each level, and that there is one for each live level, where locations are given what an operation gave, and where
-- they hold what no operation gave.
use Rattle.std.proofs.Common.{ℕ, ◌≡◌, ◌≢◌, ◌+◌, ◌<◌, ◌≤◌, ◌⊎◌, ◌==◌, ◌&&◌, nat_le, nat_lt, Bool, true, false, List, length, map, get_or, slice_get, Some, arith, refl, sym, ap, inl, inr, ◌∙◌}
use Rattle.std.specs.Prelude.{if◌then◌else◌}
use Rattle.std.proofs.lemmas.Bool.Decides.{eqb_tells}
use Rattle.std.proofs.lemmas.List.{get_or-map, length-map}
use Rattle.k_shadow.specs.Content.{Content, set_times, without, time_at}
use Rattle.k_shadow.proofs.Laws.{depth_written, time_at_written, time_at_cleared}
use Rattle.k_hcpa_meaning.specs.Timings.{Location, Register, Element, InCell, OutCell, Control, Saved, Timing, HasLevels, times_at, time_of, given_to, registers_cleared, elements_cleared}
use Rattle.k_hcpa_laws.proofs.Entering.{none}

-- maps as the content of a shadow
abbrev shown : List (ℕ → ℕ) → Content
shown levels = record { levels = levels; entries = 0; limit = 0 }

-- the time of a location at each of these maps
abbrev pub times_in : List (ℕ → ℕ) → ℕ → List ℕ
times_in levels k = map (λ (m : ℕ → ℕ). m k) levels

time_in : (levels : List (ℕ → ℕ)) (level k : ℕ) → level < length levels → get_or (times_in levels k) level 0 ≡ time_at (shown levels) level k
time_in levels level k below = get_or-map (λ (m : ℕ → ℕ). m k) levels level none 0 below

pub length-set_times : (loc : ℕ) (times : List ℕ) (levels : List (ℕ → ℕ)) → length (set_times loc times levels) ≡ length levels
length-set_times loc times levels = depth_written loc times (shown levels)

-- maps in which one location was set
set_time : (loc : ℕ) (times : List ℕ) (levels : List (ℕ → ℕ)) (level k : ℕ) → length times ≡ length levels → level < length levels
    → get_or (times_in (set_times loc times levels) k) level 0 ≡ (if k == loc then get_or times level 0 else get_or (times_in levels k) level 0)
set_time loc times levels level k same below =
    time_in (set_times loc times levels) level k (omega (arith, length-set_times loc times levels, below))
    ∙ time_at_written loc times (shown levels) level k same below
    ∙ ap (λ (n : ℕ). if k == loc then get_or times level 0 else n) (sym (time_in levels level k below))

set_same : (loc : ℕ) (times : List ℕ) (levels : List (ℕ → ℕ)) (level : ℕ) → length times ≡ length levels → level < length levels
    → get_or (times_in (set_times loc times levels) loc) level 0 ≡ get_or times level 0
set_same loc times levels level same below = elim (eqb_tells loc loc) [
  | inl here ↦ set_time loc times levels level loc same below
      ∙ ap (λ (b : Bool). if b then get_or times level 0 else get_or (times_in levels loc) level 0) here.0
  | inr other ↦ absurd (omega arith)
]

set_other : (loc : ℕ) (times : List ℕ) (levels : List (ℕ → ℕ)) (level k : ℕ) → length times ≡ length levels → level < length levels → k ≢ loc
    → get_or (times_in (set_times loc times levels) k) level 0 ≡ get_or (times_in levels k) level 0
set_other loc times levels level k same below differs = elim (eqb_tells k loc) [
  | inl here ↦ absurd (differs here.1)
  | inr other ↦ set_time loc times levels level k same below
      ∙ ap (λ (b : Bool). if b then get_or times level 0 else get_or (times_in levels k) level 0) other.0
]

-- where what an operation gave can stand: not where a control source is saved
abbrev pub CanBeGiven : Location → Type 0
CanBeGiven (Register r) = Unit {0}
CanBeGiven (Element e) = Unit {0}
CanBeGiven InCell = Unit {0}
CanBeGiven OutCell = Unit {0}
CanBeGiven Control = Unit {0}
CanBeGiven (Saved n) = ⊥

-- a location that is given what the operation gave has its time
pub time_given : (count : ℕ) (t : Timing) (at : Location) (level : ℕ) → HasLevels count t → level < count → CanBeGiven at
    → time_of (given_to at t) at level ≡ get_or t.row level 0
unfolding times_at given_to
time_given count t (Register r) level shape below can =
    set_same r t.row t.registers level (omega (arith, shape.row, shape.registers)) (omega (arith, shape.registers, below))
time_given count t (Element e) level shape below can =
    set_same e t.row t.elements level (omega (arith, shape.row, shape.elements)) (omega (arith, shape.elements, below))
time_given count t InCell level shape below can = refl
time_given count t OutCell level shape below can = refl
time_given count t Control level shape below can = refl
time_given count t (Saved n) level shape below can = absurd can

-- and no other location's time changes
pub time_given_other : (count : ℕ) (t : Timing) (at other : Location) (level : ℕ) → HasLevels count t → level < count → other ≢ at
    → time_of (given_to at t) other level ≡ time_of t other level
unfolding times_at given_to
time_given_other count t (Register r) (Register k) level shape below differs =
    set_other r t.row t.registers level k (omega (arith, shape.row, shape.registers)) (omega (arith, shape.registers, below))
    (λ same. differs (ap (λ (n : ℕ). Register n) same))
time_given_other count t (Register r) (Element e) level shape below differs = refl
time_given_other count t (Register r) InCell level shape below differs = refl
time_given_other count t (Register r) OutCell level shape below differs = refl
time_given_other count t (Register r) Control level shape below differs = refl
time_given_other count t (Register r) (Saved n) level shape below differs = refl
time_given_other count t (Element e) (Register r) level shape below differs = refl
time_given_other count t (Element e) (Element k) level shape below differs =
    set_other e t.row t.elements level k (omega (arith, shape.row, shape.elements)) (omega (arith, shape.elements, below))
    (λ same. differs (ap (λ (n : ℕ). Element n) same))
time_given_other count t (Element e) InCell level shape below differs = refl
time_given_other count t (Element e) OutCell level shape below differs = refl
time_given_other count t (Element e) Control level shape below differs = refl
time_given_other count t (Element e) (Saved n) level shape below differs = refl
time_given_other count t InCell (Register r) level shape below differs = refl
time_given_other count t InCell (Element e) level shape below differs = refl
time_given_other count t InCell InCell level shape below differs = absurd (differs refl)
time_given_other count t InCell OutCell level shape below differs = refl
time_given_other count t InCell Control level shape below differs = refl
time_given_other count t InCell (Saved n) level shape below differs = refl
time_given_other count t OutCell (Register r) level shape below differs = refl
time_given_other count t OutCell (Element e) level shape below differs = refl
time_given_other count t OutCell InCell level shape below differs = refl
time_given_other count t OutCell OutCell level shape below differs = absurd (differs refl)
time_given_other count t OutCell Control level shape below differs = refl
time_given_other count t OutCell (Saved n) level shape below differs = refl
time_given_other count t Control (Register r) level shape below differs = refl
time_given_other count t Control (Element e) level shape below differs = refl
time_given_other count t Control InCell level shape below differs = refl
time_given_other count t Control OutCell level shape below differs = refl
time_given_other count t Control Control level shape below differs = absurd (differs refl)
time_given_other count t Control (Saved n) level shape below differs = refl
time_given_other count t (Saved n) other level shape below differs = refl

-- row, paths and saved control sources are as before
pub row_given : (at : Location) (t : Timing) → (given_to at t).row ≡ t.row
unfolding given_to
row_given (Register r) t = refl
row_given (Element e) t = refl
row_given InCell t = refl
row_given OutCell t = refl
row_given Control t = refl
row_given (Saved n) t = refl

pub paths_given : (at : Location) (t : Timing) → (given_to at t).paths ≡ t.paths
unfolding given_to
paths_given (Register r) t = refl
paths_given (Element e) t = refl
paths_given InCell t = refl
paths_given OutCell t = refl
paths_given Control t = refl
paths_given (Saved n) t = refl

pub saved_given : (at : Location) (t : Timing) → (given_to at t).saved ≡ t.saved
unfolding given_to
saved_given (Register r) t = refl
saved_given (Element e) t = refl
saved_given InCell t = refl
saved_given OutCell t = refl
saved_given Control t = refl
saved_given (Saved n) t = refl

-- other maps for registers
pub shape_registers : (count : ℕ) (registers : List (ℕ → ℕ)) (t : Timing) → HasLevels count t → length registers ≡ count
    → HasLevels count (record t { registers = registers })
shape_registers count registers t shape same = record {
  registers = same;
  elements = shape.elements;
  control = shape.control;
  saved = shape.saved;
  in_cell = shape.in_cell;
  out_cell = shape.out_cell;
  row = shape.row;
  paths = shape.paths;
}

-- and for elements
pub shape_elements : (count : ℕ) (elements : List (ℕ → ℕ)) (t : Timing) → HasLevels count t → length elements ≡ count
    → HasLevels count (record t { elements = elements })
shape_elements count elements t shape same = record {
  registers = shape.registers;
  elements = same;
  control = shape.control;
  saved = shape.saved;
  in_cell = shape.in_cell;
  out_cell = shape.out_cell;
  row = shape.row;
  paths = shape.paths;
}

-- other times of the current and of the saved control sources
pub shape_control : (count : ℕ) (control : List ℕ) (saved : List (List ℕ)) (t : Timing) → HasLevels count t → length control ≡ count
    → ((n : ℕ) (times : List ℕ) → slice_get saved n ≡ Some times → length times ≡ count)
    → HasLevels count (record t { control = control; saved = saved })
shape_control count control saved t shape same each = record {
  registers = shape.registers;
  elements = shape.elements;
  control = same;
  saved = each;
  in_cell = shape.in_cell;
  out_cell = shape.out_cell;
  row = shape.row;
  paths = shape.paths;
}

pub shape_given : (count : ℕ) (at : Location) (t : Timing) → HasLevels count t → HasLevels count (given_to at t)
unfolding given_to
shape_given count (Register r) t shape =
    shape_registers count (set_times r t.row t.registers) t shape (length-set_times r t.row t.registers ∙ shape.registers)
shape_given count (Element e) t shape =
    shape_elements count (set_times e t.row t.elements) t shape (length-set_times e t.row t.elements ∙ shape.elements)
shape_given count InCell t shape = record {
  registers = shape.registers;
  elements = shape.elements;
  control = shape.control;
  saved = shape.saved;
  in_cell = shape.row;
  out_cell = shape.out_cell;
  row = shape.row;
  paths = shape.paths;
}
shape_given count OutCell t shape = record {
  registers = shape.registers;
  elements = shape.elements;
  control = shape.control;
  saved = shape.saved;
  in_cell = shape.in_cell;
  out_cell = shape.row;
  row = shape.row;
  paths = shape.paths;
}
shape_given count Control t shape = shape_control count t.row t.saved t shape shape.row shape.saved
shape_given count (Saved n) t shape = shape

-- maps in which some locations have no time
clear_time : (first number : ℕ) (levels : List (ℕ → ℕ)) (level k : ℕ) → level < length levels
    → get_or (times_in (map (without first number) levels) k) level 0 ≡ (if nat_le first k && nat_lt k (first + number) then 0 else get_or (times_in levels k) level 0)
clear_time first number levels level k below =
    time_in (map (without first number) levels) level k (omega (arith, length-map levels (without first number), below))
    ∙ time_at_cleared first number (shown levels) level k below
    ∙ ap (λ (n : ℕ). if nat_le first k && nat_lt k (first + number) then 0 else n) (sym (time_in levels level k below))

clear_within : (first number : ℕ) (levels : List (ℕ → ℕ)) (level k : ℕ) → level < length levels → first ≤ k → k < first + number
    → get_or (times_in (map (without first number) levels) k) level 0 ≡ 0
clear_within first number levels level k below low high =
    let at_least : nat_le first k ≡ true = grind arith in
    let under : nat_lt k (first + number) ≡ true = grind arith in
    clear_time first number levels level k below
    ∙ ap (λ (b : Bool). if b && nat_lt k (first + number) then 0 else get_or (times_in levels k) level 0) at_least
    ∙ ap (λ (b : Bool). if true && b then 0 else get_or (times_in levels k) level 0) under

clear_outside : (first number : ℕ) (levels : List (ℕ → ℕ)) (level k : ℕ) → level < length levels → (k < first) ⊎ (first + number ≤ k)
    → get_or (times_in (map (without first number) levels) k) level 0 ≡ get_or (times_in levels k) level 0
clear_outside first number levels level k below (inl low) =
    let none_le : nat_le first k ≡ false = grind arith in
    clear_time first number levels level k below
    ∙ ap (λ (b : Bool). if b && nat_lt k (first + number) then 0 else get_or (times_in levels k) level 0) none_le
clear_outside first number levels level k below (inr high) =
    let past : nat_lt k (first + number) ≡ false = grind arith in
    clear_time first number levels level k below
    ∙ ap (λ (b : Bool). if nat_le first k && b then 0 else get_or (times_in levels k) level 0) past
    ∙ both (nat_le first k)
  where
    both : (b : Bool) → (if b && false then 0 else get_or (times_in levels k) level 0) ≡ get_or (times_in levels k) level 0
    both true = refl
    both false = refl

pub shape_registers_cleared : (count first number : ℕ) (t : Timing) → HasLevels count t → HasLevels count (registers_cleared first number t)
shape_registers_cleared count first number t shape =
    shape_registers count (map (without first number) t.registers) t shape (length-map t.registers (without first number) ∙ shape.registers)

pub shape_elements_cleared : (count first number : ℕ) (t : Timing) → HasLevels count t → HasLevels count (elements_cleared first number t)
shape_elements_cleared count first number t shape =
    shape_elements count (map (without first number) t.elements) t shape (length-map t.elements (without first number) ∙ shape.elements)

-- registers that hold what no operation gave have no time
pub time_register_cleared : (count first number : ℕ) (t : Timing) (k level : ℕ) → HasLevels count t → level < count → first ≤ k → k < first + number
    → time_of (registers_cleared first number t) (Register k) level ≡ 0
unfolding times_at
time_register_cleared count first number t k level shape below low high =
    clear_within first number t.registers level k (omega (arith, shape.registers, below)) low high

-- this location is none of these registers
abbrev pub IsNoRegisterOf : ℕ → ℕ → Location → Type 0
IsNoRegisterOf first number (Register k) = (k < first) ⊎ (first + number ≤ k)
IsNoRegisterOf first number _ = Unit {0}

pub time_registers_cleared : (count first number : ℕ) (t : Timing) (other : Location) (level : ℕ) → HasLevels count t → level < count
    → IsNoRegisterOf first number other → time_of (registers_cleared first number t) other level ≡ time_of t other level
unfolding times_at
time_registers_cleared count first number t (Register k) level shape below outside =
    clear_outside first number t.registers level k (omega (arith, shape.registers, below)) outside
time_registers_cleared count first number t (Element e) level shape below outside = refl
time_registers_cleared count first number t InCell level shape below outside = refl
time_registers_cleared count first number t OutCell level shape below outside = refl
time_registers_cleared count first number t Control level shape below outside = refl
time_registers_cleared count first number t (Saved n) level shape below outside = refl

-- elements that hold what no operation gave have no time
pub time_element_cleared : (count first number : ℕ) (t : Timing) (k level : ℕ) → HasLevels count t → level < count → first ≤ k → k < first + number
    → time_of (elements_cleared first number t) (Element k) level ≡ 0
unfolding times_at
time_element_cleared count first number t k level shape below low high =
    clear_within first number t.elements level k (omega (arith, shape.elements, below)) low high

-- this location is none of these elements
abbrev pub IsNoElementOf : ℕ → ℕ → Location → Type 0
IsNoElementOf first number (Element k) = (k < first) ⊎ (first + number ≤ k)
IsNoElementOf first number _ = Unit {0}

pub time_elements_cleared : (count first number : ℕ) (t : Timing) (other : Location) (level : ℕ) → HasLevels count t → level < count
    → IsNoElementOf first number other → time_of (elements_cleared first number t) other level ≡ time_of t other level
unfolding times_at
time_elements_cleared count first number t (Register r) level shape below outside = refl
time_elements_cleared count first number t (Element k) level shape below outside =
    clear_outside first number t.elements level k (omega (arith, shape.elements, below)) outside
time_elements_cleared count first number t InCell level shape below outside = refl
time_elements_cleared count first number t OutCell level shape below outside = refl
time_elements_cleared count first number t Control level shape below outside = refl
time_elements_cleared count first number t (Saved n) level shape below outside = refl
