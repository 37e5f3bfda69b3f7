-- Times at each level, and that there is one for each live level, where a level is entered and where the innermost is left.
use Rattle.std.proofs.Common.{ℕ, ◌≡◌, ◌+◌, ◌-◌, ◌<◌, ◌≤◌, List, [], ◌∷◌, ◌++◌, length, map, get_or, slice_get, arith, sym, ap, inl, inr, ◌∙◌}
use Rattle.std.proofs.lemmas.Bool.{cases_lt}
use Rattle.std.proofs.lemmas.List.{get_or-map, get_or_past, get_or_append_left, get_or_push, get_or-take, length-map, length_push, length-take-le}
use Rattle.std.proofs.lemmas.Option.{slice_get-map, slice_get-get_or}
use Rattle.k_hcpa_meaning.specs.Timings.{Location, Register, Element, InCell, OutCell, Control, Saved, Timing, HasLevels, times_at, time_of, entered, innermost_gone, without_last}
use Rattle.k_hcpa_laws.proofs.Lists.{get_mapped}

-- the map that has no time
abbrev pub none : ℕ → ℕ
none = λ _. 0

-- the times of a saved control source, one for each live level
pub saved_length : (count n : ℕ) (t : Timing) → HasLevels count t → n < length t.saved → length (get_or t.saved n []) ≡ count
saved_length count n t shape below = shape.saved n (get_or t.saved n []) (slice_get-get_or t.saved n [] below)

-- the times of one location at a map more
map_push_time : (levels : List (ℕ → ℕ)) (level r : ℕ) → level < length levels
    → get_or (map (λ (m : ℕ → ℕ). m r) (levels ++ none ∷ [])) level 0 ≡ get_or (map (λ (m : ℕ → ℕ). m r) levels) level 0
map_push_time levels level r below =
    get_or-map (λ (m : ℕ → ℕ). m r) (levels ++ none ∷ []) level none 0 (omega (arith, length_push levels none, below))
    ∙ ap (λ (m : ℕ → ℕ). m r) (get_or_append_left levels (none ∷ []) none level below)
    ∙ sym (get_or-map (λ (m : ℕ → ℕ). m r) levels level none 0 below)

map_push_last : (levels : List (ℕ → ℕ)) (level r : ℕ) → length levels ≡ level → get_or (map (λ (m : ℕ → ℕ). m r) (levels ++ none ∷ [])) level 0 ≡ 0
map_push_last levels level r last =
    get_or-map (λ (m : ℕ → ℕ). m r) (levels ++ none ∷ []) level none 0 (omega (arith, length_push levels none, last))
    ∙ ap (λ (m : ℕ → ℕ). m r) (get_or_push levels none none level last)

-- the times of a saved control source at a level more
saved_push : (saved : List (List ℕ)) (n : ℕ)
    → (n < length saved → get_or (map (λ (times : List ℕ). times ++ 0 ∷ []) saved) n [] ≡ get_or saved n [] ++ 0 ∷ [])
    × (length saved ≤ n → get_or (map (λ (times : List ℕ). times ++ 0 ∷ []) saved) n [] ≡ [])
saved_push saved n = (
  λ below. get_or-map (λ (times : List ℕ). times ++ 0 ∷ []) saved n [] [] below,
  λ past. get_or_past (map (λ (times : List ℕ). times ++ 0 ∷ []) saved) n [] (omega (arith, length-map saved (λ (times : List ℕ). times ++ 0 ∷ []), past)),
)

-- at the levels around the new one each location has its time
pub time_entered : (count : ℕ) (t : Timing) (at : Location) (level : ℕ) → HasLevels count t → level < count → time_of (entered t) at level ≡ time_of t at level
unfolding times_at
time_entered count t (Register r) level shape below = map_push_time t.registers level r (omega (arith, shape.registers, below))
time_entered count t (Element e) level shape below = map_push_time t.elements level e (omega (arith, shape.elements, below))
time_entered count t InCell level shape below = get_or_append_left t.in_cell (0 ∷ []) 0 level (omega (arith, shape.in_cell, below))
time_entered count t OutCell level shape below = get_or_append_left t.out_cell (0 ∷ []) 0 level (omega (arith, shape.out_cell, below))
time_entered count t Control level shape below = get_or_append_left t.control (0 ∷ []) 0 level (omega (arith, shape.control, below))
time_entered count t (Saved n) level shape below = elim (cases_lt n (length t.saved)) [
  | inl within ↦
      ap (λ (times : List ℕ). get_or times level 0) ((saved_push t.saved n).0 within)
      ∙ get_or_append_left (get_or t.saved n []) (0 ∷ []) 0 level (omega (arith, saved_length count n t shape within, below))
  | inr past ↦
      ap (λ (times : List ℕ). get_or times level 0) ((saved_push t.saved n).1 past)
      ∙ sym (ap (λ (times : List ℕ). get_or times level 0) (get_or_past t.saved n [] past))
]

-- at the new level none has a time
pub time_entered_new : (count : ℕ) (t : Timing) (at : Location) → HasLevels count t → time_of (entered t) at count ≡ 0
unfolding times_at
time_entered_new count t (Register r) shape = map_push_last t.registers count r shape.registers
time_entered_new count t (Element e) shape = map_push_last t.elements count e shape.elements
time_entered_new count t InCell shape = get_or_push t.in_cell 0 0 count shape.in_cell
time_entered_new count t OutCell shape = get_or_push t.out_cell 0 0 count shape.out_cell
time_entered_new count t Control shape = get_or_push t.control 0 0 count shape.control
time_entered_new count t (Saved n) shape = elim (cases_lt n (length t.saved)) [
  | inl within ↦
      ap (λ (times : List ℕ). get_or times count 0) ((saved_push t.saved n).0 within)
      ∙ get_or_push (get_or t.saved n []) 0 0 count (saved_length count n t shape within)
  | inr past ↦ ap (λ (times : List ℕ). get_or times count 0) ((saved_push t.saved n).1 past)
]

pub shape_entered : (count : ℕ) (t : Timing) → HasLevels count t → HasLevels (count + 1) (entered t)
shape_entered count t shape = record {
  registers = omega (arith, length_push t.registers none, shape.registers);
  elements = omega (arith, length_push t.elements none, shape.elements);
  control = omega (arith, length_push t.control 0, shape.control);
  saved = λ n times is.
      let found = get_mapped (λ (old : List ℕ). old ++ 0 ∷ []) (slice_get t.saved n) times
      (sym (slice_get-map (λ (old : List ℕ). old ++ 0 ∷ []) t.saved n) ∙ is) in
      omega (arith, shape.saved n found.0 found.1, ap (λ (all : List ℕ). length all) found.2, length_push found.0 0);
  in_cell = omega (arith, length_push t.in_cell 0, shape.in_cell);
  out_cell = omega (arith, length_push t.out_cell 0, shape.out_cell);
  row = omega (arith, length_push t.row 0, shape.row);
  paths = omega (arith, length_push t.paths 0, shape.paths);
}

-- the list without its last item
pub length-without_last : {X : Type 0} (xs : List X) → length (without_last xs) ≡ length xs - 1
length-without_last xs = length-take-le (length xs - 1) xs (omega arith)

map_left_time : (levels : List (ℕ → ℕ)) (level r : ℕ) → level + 1 < length levels
    → get_or (map (λ (m : ℕ → ℕ). m r) (without_last levels)) level 0 ≡ get_or (map (λ (m : ℕ → ℕ). m r) levels) level 0
map_left_time levels level r below =
    get_or-map (λ (m : ℕ → ℕ). m r) (without_last levels) level none 0 (omega (arith, length-without_last levels, below))
    ∙ ap (λ (m : ℕ → ℕ). m r) (get_or-take (length levels - 1) levels level none (omega arith))
    ∙ sym (get_or-map (λ (m : ℕ → ℕ). m r) levels level none 0 (omega arith))

-- at the levels around the one that is left each location has its time
pub time_left : (count : ℕ) (t : Timing) (at : Location) (level : ℕ) → HasLevels count t → level + 1 < count → time_of (innermost_gone t) at level ≡ time_of t at level
unfolding times_at
time_left count t (Register r) level shape below = map_left_time t.registers level r (omega (arith, shape.registers, below))
time_left count t (Element e) level shape below = map_left_time t.elements level e (omega (arith, shape.elements, below))
time_left count t InCell level shape below = get_or-take (length t.in_cell - 1) t.in_cell level 0 (omega (arith, shape.in_cell, below))
time_left count t OutCell level shape below = get_or-take (length t.out_cell - 1) t.out_cell level 0 (omega (arith, shape.out_cell, below))
time_left count t Control level shape below = get_or-take (length t.control - 1) t.control level 0 (omega (arith, shape.control, below))
time_left count t (Saved n) level shape below = elim (cases_lt n (length t.saved)) [
  | inl within ↦
      ap (λ (times : List ℕ). get_or times level 0) (get_or-map (λ (times : List ℕ). without_last times) t.saved n [] [] within)
      ∙ get_or-take (length (get_or t.saved n []) - 1) (get_or t.saved n []) level 0 (omega (arith, saved_length count n t shape within, below))
  | inr past ↦
      ap (λ (times : List ℕ). get_or times level 0)
      (get_or_past (map (λ (times : List ℕ). without_last times) t.saved) n [] (omega (arith, length-map t.saved (λ (times : List ℕ). without_last times), past)))
      ∙ sym (ap (λ (times : List ℕ). get_or times level 0) (get_or_past t.saved n [] past))
]

pub shape_left : (count : ℕ) (t : Timing) → HasLevels (count + 1) t → HasLevels count (innermost_gone t)
shape_left count t shape = record {
  registers = omega (arith, length-without_last t.registers, shape.registers);
  elements = omega (arith, length-without_last t.elements, shape.elements);
  control = omega (arith, length-without_last t.control, shape.control);
  saved = λ n times is.
      let found = get_mapped (λ (old : List ℕ). without_last old) (slice_get t.saved n) times
      (sym (slice_get-map (λ (old : List ℕ). without_last old) t.saved n) ∙ is) in
      omega (arith, shape.saved n found.0 found.1, ap (λ (all : List ℕ). length all) found.2, length-without_last found.0);
  in_cell = omega (arith, length-without_last t.in_cell, shape.in_cell);
  out_cell = omega (arith, length-without_last t.out_cell, shape.out_cell);
  row = omega (arith, length-without_last t.row, shape.row);
  paths = omega (arith, length-without_last t.paths, shape.paths);
}
