-- Times of all locations at each level, behind what each kind of step does to them, and that there is one for each live level.
use Rattle.std.proofs.Common.{ℕ, zero, suc, ◌≡◌, ◌+◌, ◌%◌, ◌^◌, ◌<◌, max, List, [], ◌∷◌, ◌++◌, length, get_or, arith, refl, sym, ap, ◌∙◌}
use Rattle.std.proofs.lemmas.List.{get_or-map, length-map}
use Rattle.k_hcpa_meaning.specs.Timings.{Location, Register, Element, InCell, OutCell, Control, Saved, Timing, HasLevels, times_at, time_of, later, after, begun, raised, raised_all, settled, operated}

pub length-later : (times others : List ℕ) → length (later times others) ≡ length times
length-later [] others = refl
length-later (x ∷ times) [] = refl
length-later (x ∷ times) (y ∷ others) = ap (λ (n : ℕ). suc n) (length-later times others)

-- the later of two times at a level
pub time_later : (times others : List ℕ) (level : ℕ) → level < length times → get_or (later times others) level 0 ≡ max (get_or times level 0) (get_or others level 0)
time_later [] others level below = absurd (omega arith)
time_later (x ∷ times) [] level below = (let none : max (get_or (x ∷ times) level 0) 0 ≡ get_or (x ∷ times) level 0 = omega arith in sym none)
time_later (x ∷ times) (y ∷ others) zero below = refl
time_later (x ∷ times) (y ∷ others) (suc level) below = time_later times others level (omega arith)

-- the time so much later
pub time_after : (latency : ℕ) (times : List ℕ) (level : ℕ) → level < length times
    → get_or (after latency times) level 0 ≡ (get_or times level 0 + latency) % 2 ^ 64
time_after latency times level below = get_or-map (λ (time : ℕ). (time + latency) % 2 ^ 64) times level 0 0 below

pub length-after : (latency : ℕ) (times : List ℕ) → length (after latency times) ≡ length times
length-after latency times = length-map times (λ (time : ℕ). (time + latency) % 2 ^ 64)

-- the times with this row and these paths
abbrev pub with_row : List ℕ → List ℕ → Timing → Timing
with_row row paths t = record t { row = row; paths = paths }

-- no location's times are those of the row or of the paths
pub times_with_row : (row paths : List ℕ) (t : Timing) (at : Location) → times_at (with_row row paths t) at ≡ times_at t at
unfolding times_at
times_with_row row paths t (Register r) = refl
times_with_row row paths t (Element e) = refl
times_with_row row paths t InCell = refl
times_with_row row paths t OutCell = refl
times_with_row row paths t Control = refl
times_with_row row paths t (Saved n) = refl

-- the row raised to the times of all these locations
abbrev pub row_over : List Location → Timing → List ℕ → List ℕ
row_over [] t row = row
row_over (at ∷ locations) t row = row_over locations t (later row (times_at t at))

row_over_same : (locations : List Location) (t s : Timing) (row : List ℕ) → ((at : Location) → times_at s at ≡ times_at t at)
    → row_over locations s row ≡ row_over locations t row
row_over_same [] t s row same = refl
row_over_same (at ∷ locations) t s row same =
    ap (λ (times : List ℕ). row_over locations s (later row times)) (same at) ∙ row_over_same locations t s (later row (times_at t at)) same

pub raised_all_is : (locations : List Location) (t : Timing) → raised_all locations t ≡ with_row (row_over locations t t.row) t.paths t
raised_all_is [] t = refl
raised_all_is (at ∷ locations) t =
    raised_all_is locations (raised at t)
    ∙ ap (λ (row : List ℕ). with_row row t.paths t)
    (row_over_same locations t (raised at t) (later t.row (times_at t at)) (λ at'. times_with_row (later t.row (times_at t at)) t.paths t at'))

-- the row of an operation that depends on what these locations hold
abbrev pub row_of : List Location → ℕ → Timing → List ℕ
row_of locations latency t = after latency (row_over locations t t.control)

-- an operation changes the row and the paths alone
pub operated_is : (locations : List Location) (latency : ℕ) (t : Timing)
    → operated locations latency t ≡ with_row (row_of locations latency t) (later t.paths (row_of locations latency t)) t
operated_is locations latency t =
    ap (settled latency) (raised_all_is locations (begun t))
    ∙ ap (λ (row : List ℕ). with_row (after latency row) (later t.paths (after latency row)) t)
    (row_over_same locations t (begun t) t.control (λ at. times_with_row t.control t.paths t at))

pub length-row_over : (locations : List Location) (t : Timing) (row : List ℕ) → length (row_over locations t row) ≡ length row
length-row_over [] t row = refl
length-row_over (at ∷ locations) t row = length-row_over locations t (later row (times_at t at)) ∙ length-later row (times_at t at)

pub length-row_of : (locations : List Location) (latency : ℕ) (t : Timing) → length (row_of locations latency t) ≡ length t.control
length-row_of locations latency t = length-after latency (row_over locations t t.control) ∙ length-row_over locations t t.control

-- the latest time of these locations at a level
abbrev pub latest : List Location → Timing → ℕ → ℕ
latest [] t level = 0
latest (at ∷ locations) t level = max (time_of t at level) (latest locations t level)

pub time_row_over : (locations : List Location) (t : Timing) (row : List ℕ) (level : ℕ) → level < length row
    → get_or (row_over locations t row) level 0 ≡ max (get_or row level 0) (latest locations t level)
time_row_over [] t row level below = omega arith
time_row_over (at ∷ locations) t row level below =
    let rest : get_or (row_over locations t (later row (times_at t at))) level 0 ≡ max (get_or (later row (times_at t at)) level 0) (latest locations t level) =
    time_row_over locations t (later row (times_at t at)) level (omega (arith, length-later row (times_at t at), below)) in
    let here : get_or (later row (times_at t at)) level 0 ≡ max (get_or row level 0) (time_of t at level) = time_later row (times_at t at) level below in
    omega (arith, rest, here)

-- the row of an operation at a level
pub time_row_of : (locations : List Location) (latency : ℕ) (t : Timing) (level : ℕ) → level < length t.control
    → get_or (row_of locations latency t) level 0 ≡ (max (get_or t.control level 0) (latest locations t level) + latency) % 2 ^ 64
time_row_of locations latency t level below =
    time_after latency (row_over locations t t.control) level (omega (arith, length-row_over locations t t.control, below))
    ∙ ap (λ (time : ℕ). (time + latency) % 2 ^ 64) (time_row_over locations t t.control level below)

-- the latest of two lists of locations
pub latest-append : (locations others : List Location) (t : Timing) (level : ℕ)
    → latest (locations ++ others) t level ≡ max (latest locations t level) (latest others t level)
latest-append [] others t level = omega arith
latest-append (at ∷ locations) others t level =
    let rest : latest (locations ++ others) t level ≡ max (latest locations t level) (latest others t level) = latest-append locations others t level in
    omega (arith, rest)

-- another row and other paths, one for each level
pub shape_with_row : (count : ℕ) (row paths : List ℕ) (t : Timing) → HasLevels count t → length row ≡ count → length paths ≡ count
    → HasLevels count (with_row row paths t)
shape_with_row count row paths t shape long same = record {
  registers = shape.registers;
  elements = shape.elements;
  control = shape.control;
  saved = shape.saved;
  in_cell = shape.in_cell;
  out_cell = shape.out_cell;
  row = long;
  paths = same;
}

pub shape_operated : (count : ℕ) (locations : List Location) (latency : ℕ) (t : Timing) → HasLevels count t
    → HasLevels count (with_row (row_of locations latency t) (later t.paths (row_of locations latency t)) t)
shape_operated count locations latency t shape =
    shape_with_row count (row_of locations latency t) (later t.paths (row_of locations latency t)) t shape
    (length-row_of locations latency t ∙ shape.control) (length-later t.paths (row_of locations latency t) ∙ shape.paths)
