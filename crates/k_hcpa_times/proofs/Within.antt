-- No time is above what was reached: lists of times, and the times of all locations.
use Rattle.std.proofs.Common.{◌≡◌, ℕ, ◌+◌, ◌-◌, ◌%◌, ◌^◌, ◌≤◌, max, zero, suc, Bool, true, false, List, [], ◌∷◌, ◌++◌, length, map, sym, subst, arith}
use Rattle.std.specs.Prelude.{if◌then◌else◌, slice_index, ◌==◌, ◌&&◌, nat_le, nat_lt}
use Rattle.std.proofs.lemmas.List.Elements.{All-nil, All-cons, All-head, All-tail, All-push, All-weaker, All-take, All-map}
use Rattle.k_shadow.specs.Content.{Content, cleared, set_times, with_time, without, written}
use Rattle.k_shadow.specs.Rooms.{delayed, HasRoomFor}
use Rattle.k_hcpa_meaning.specs.Timings.{Timing, after, entered, innermost_gone, later, without_last}
use Rattle.k_hcpa_times.specs.Seen.{AreWithin, NoLevelAbove, NoneAbove}

-- what is said of a time, of a level and of a saved control source
abbrev IsUpTo : ℕ → ℕ → Type 0
IsUpTo reach time = time ≤ reach

abbrev LevelIsUpTo : ℕ → (ℕ → ℕ) → Type 0
LevelIsUpTo reach level = (location : ℕ) → level location ≤ reach

abbrev AreUpTo : ℕ → List ℕ → Type 0
AreUpTo reach times = NoneAbove reach times

one_of : (m x y : ℕ) (b : Bool) → x ≤ m → y ≤ m → (if b then x else y) ≤ m
one_of m x y true x_up y_up = x_up
one_of m x y false x_up y_up = y_up

-- a time that is later by the latency, modulo 2^64
time_delayed : (m latency time : ℕ) → time ≤ m → (time + latency) % 2 ^ 64 ≤ delayed m latency
time_delayed m latency time up = omega arith

pub none_later : (m : ℕ) (xs ys : List ℕ) → NoneAbove m xs → NoneAbove m ys → NoneAbove m (later xs ys)
none_later m [] ys some more = some
none_later m (x ∷ xs) [] some more = some
none_later m (x ∷ xs) (y ∷ ys) some more =
    let a : x ≤ m = All-head (IsUpTo m) x xs some in
    let b : y ≤ m = All-head (IsUpTo m) y ys more in
    All-cons (IsUpTo m) (max x y) (later xs ys) (omega arith) (none_later m xs ys (All-tail (IsUpTo m) x xs some) (All-tail (IsUpTo m) y ys more))

pub none_after : (m latency n : ℕ) (xs : List ℕ) → n ≡ delayed m latency → NoneAbove m xs → NoneAbove n (after latency xs)
none_after m latency n xs is up =
    let f : ℕ → ℕ = λ time. (time + latency) % 2 ^ 64 in
    subst (λ most. NoneAbove most (after latency xs)) (sym is)
    (All-map (IsUpTo (delayed m latency)) f xs (All-weaker (IsUpTo m) (λ time. f time ≤ delayed m latency) (λ time h. time_delayed m latency time h) xs up))

-- the times of a location
pub none_there : (m location : ℕ) (levels : List (ℕ → ℕ)) → NoLevelAbove m levels → NoneAbove m (map (λ level. level location) levels)
none_there m location levels up =
    All-map (IsUpTo m) (λ (level : ℕ → ℕ). level location) levels
    (All-weaker (LevelIsUpTo m) (λ level. level location ≤ m) (λ level h. h location) levels up)

pub none_unless : (m : ℕ) (broken : Bool) (xs ys : List ℕ) → NoneAbove m xs → NoneAbove m ys → NoneAbove m (if broken then xs else later xs ys)
none_unless m true xs ys some more = some
none_unless m false xs ys some more = none_later m xs ys some more

-- a location gets these times
pub none_set : (m location : ℕ) (times : List ℕ) (levels : List (ℕ → ℕ)) → NoneAbove m times → NoLevelAbove m levels → NoLevelAbove m (set_times location times levels)
none_set m location [] levels some up = up
none_set m location (time ∷ times) [] some up = All-nil (LevelIsUpTo m)
none_set m location (time ∷ times) (level ∷ levels) some up =
    All-cons (LevelIsUpTo m) (with_time location time level) (set_times location times levels)
    (λ at. one_of m time (level at) (at == location) (All-head (IsUpTo m) time times some) (All-head (LevelIsUpTo m) level levels up at))
    (none_set m location times levels (All-tail (IsUpTo m) time times some) (All-tail (LevelIsUpTo m) level levels up))

-- the times are these
pub none_same : (m : ℕ) (xs ys : List ℕ) → xs ≡ ys → NoneAbove m ys → NoneAbove m xs
none_same m xs ys is up = subst (λ times. NoneAbove m times) (sym is) up

-- a shadow in which a location got these times
pub none_written : (m location : ℕ) (times : List ℕ) (c d : Content) → d ≡ written location times c → NoneAbove m times → NoLevelAbove m c.levels → NoLevelAbove m d.levels
none_written m location times c d is some up = subst (λ (x : Content). NoLevelAbove m x.levels) (sym is) (none_set m location times c.levels some up)

-- a shadow in which locations were cleared
pub none_cleared : (m first count : ℕ) (c d : Content) → d ≡ cleared first count c → NoLevelAbove m c.levels → NoLevelAbove m d.levels
none_cleared m first count c d is up =
    subst (λ (x : Content). NoLevelAbove m x.levels) (sym is)
    (All-map (LevelIsUpTo m) (without first count) c.levels
    (All-weaker (LevelIsUpTo m) (λ level. LevelIsUpTo m (without first count level))
    (λ level h at. one_of m 0 (level at) (nat_le first at && nat_lt at (first + count)) (omega arith) (h at)) c.levels up))

-- nor is any time above a greater number
pub within_more : {m n : ℕ} {t : Timing} → m ≤ n → AreWithin m t → AreWithin n t
within_more {m} {n} {t} le h =
    let time : (x : ℕ) → x ≤ m → x ≤ n = λ x up. omega arith in
    let times : (xs : List ℕ) → NoneAbove m xs → NoneAbove n xs = All-weaker (IsUpTo m) (IsUpTo n) time in
    let levels : (ls : List (ℕ → ℕ)) → NoLevelAbove m ls → NoLevelAbove n ls =
    All-weaker (LevelIsUpTo m) (LevelIsUpTo n) (λ level up at. time (level at) (up at)) in
    record {
      registers = levels t.registers h.registers;
      elements = levels t.elements h.elements;
      control = times t.control h.control;
      saved = All-weaker (AreUpTo m) (AreUpTo n) times t.saved h.saved;
      in_cell = times t.in_cell h.in_cell;
      out_cell = times t.out_cell h.out_cell;
      row = times t.row h.row;
    }

-- a level is entered everywhere
pub within_entered : (m : ℕ) (t : Timing) → AreWithin m t → AreWithin m (entered t)
within_entered m t h =
    let zero_up : 0 ≤ m = omega arith in
    let more : (xs : List ℕ) → NoneAbove m xs → NoneAbove m (xs ++ 0 ∷ []) = λ xs up. All-push (IsUpTo m) xs 0 up zero_up in
    record {
      registers = All-push (LevelIsUpTo m) t.registers (λ _. 0) h.registers (λ _. zero_up);
      elements = All-push (LevelIsUpTo m) t.elements (λ _. 0) h.elements (λ _. zero_up);
      control = more t.control h.control;
      saved = All-map (AreUpTo m) (λ times. times ++ 0 ∷ []) t.saved (All-weaker (AreUpTo m) (λ times. NoneAbove m (times ++ 0 ∷ [])) more t.saved h.saved);
      in_cell = more t.in_cell h.in_cell;
      out_cell = more t.out_cell h.out_cell;
      row = more t.row h.row;
    }

-- the innermost level is left everywhere
pub within_left : (m : ℕ) (t : Timing) → AreWithin m t → AreWithin m (innermost_gone t)
within_left m t h =
    let fewer : (xs : List ℕ) → NoneAbove m xs → NoneAbove m (without_last xs) = λ xs up. All-take (IsUpTo m) (length xs - 1) xs up in
    record {
      registers = All-take (LevelIsUpTo m) (length t.registers - 1) t.registers h.registers;
      elements = All-take (LevelIsUpTo m) (length t.elements - 1) t.elements h.elements;
      control = fewer t.control h.control;
      saved = All-map (AreUpTo m) without_last t.saved (All-weaker (AreUpTo m) (λ times. NoneAbove m (without_last times)) fewer t.saved h.saved);
      in_cell = fewer t.in_cell h.in_cell;
      out_cell = fewer t.out_cell h.out_cell;
      row = fewer t.row h.row;
    }

-- no time is above, where these are the registers' and those of the operation that is being made
pub within_registers : {m : ℕ} {t : Timing} {registers : List (ℕ → ℕ)} {row paths : List ℕ} → NoLevelAbove m registers → NoneAbove m row → AreWithin m t
    → AreWithin m (record t { registers = registers; row = row; paths = paths })
within_registers some times h = record {
  registers = some;
  elements = h.elements;
  control = h.control;
  saved = h.saved;
  in_cell = h.in_cell;
  out_cell = h.out_cell;
  row = times;
}

-- the same, where these are the elements'
pub within_elements : {m : ℕ} {t : Timing} {elements : List (ℕ → ℕ)} → NoLevelAbove m elements → AreWithin m t → AreWithin m (record t { elements = elements })
within_elements some h = record {
  registers = h.registers;
  elements = some;
  control = h.control;
  saved = h.saved;
  in_cell = h.in_cell;
  out_cell = h.out_cell;
  row = h.row;
}

-- a list of times at a level
pub none_at : (m : ℕ) (xs : List ℕ) (level : ℕ) → NoneAbove m xs → slice_index xs level ≤ m
none_at m [] level up = omega arith
none_at m (x ∷ xs) zero up = All-head (IsUpTo m) x xs up
none_at m (x ∷ xs) (suc level) up = none_at m xs level (All-tail (IsUpTo m) x xs up)

-- there is room for the times of this list
pub row_room : {room : ℕ → Type 0} {n reach admitted : ℕ} {xs : List ℕ} (ys : List ℕ) → room admitted → reach ≤ admitted → xs ≡ ys → NoneAbove reach ys
    → HasRoomFor room n (slice_index xs)
row_room {room} {n} {reach} {admitted} {xs} ys there le is up = record {
  most = admitted;
  there = there;
  within = λ level lt. let here : slice_index xs level ≤ reach = none_at reach xs level (none_same reach xs ys is up) in omega arith;
}
