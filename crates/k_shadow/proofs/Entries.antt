-- What entering and leaving a level make of the entries of a control stack.
use Rattle.std.proofs.Common.{◌≡◌, ℕ, zero, suc, ◌+◌, ◌-◌, ◌<◌, ◌≤◌, List, [], ◌∷◌, ◌++◌, length, take, set, get_or, map, Bool, refl, ap, sym, ◌∙◌, arith}
use Rattle.std.specs.Prelude.{slice_index}
use Rattle.std.proofs.lemmas.List.{ext_get_or, get_or-map, get_or-take, length-append, length-take-le, take-append-le, take-take, take_more, take_more_set}
use Rattle.k_shadow.specs.declared.row.Row.{Row}
use Rattle.k_shadow.specs.Numbers.{Numbers, number_given, number_left, WereGiven}
use Rattle.k_shadow.specs.Rows.{Seen, seen, blank_row, row_at, row_time, times_of, stack_in, WereStamped}
use Rattle.k_shadow.specs.Stack.{Stack, level_entered, level_left, without_last}
use Rattle.k_shadow.proofs.Places.{length-with_places}
use Rattle.k_shadow.proofs.Rows.{row_at_stamp, time_from_row, times-entered, times-left, times-written}

saved-entered : (rows : List (Row 32)) (live : List ℕ) (given : ℕ) → WereStamped given rows → map (λ row. times_of (seen row) (live ++ (given + 1) ∷ [])) rows ≡ map (λ times. times ++ 0 ∷ []) (map (λ row. times_of (seen row) live) rows)
saved-entered [] live given h = refl
saved-entered (row ∷ rows) live given h = λ i. times-entered (seen row) live given h.0 i ∷ saved-entered rows live given h.1 i

saved-left : (rows : List (Row 32)) (live : List ℕ) → map (λ row. times_of (seen row) (take (length live - 1) live)) rows ≡ map without_last (map (λ row. times_of (seen row) live) rows)
saved-left [] live = refl
saved-left (row ∷ rows) live = λ i. times-left (seen row) live i ∷ saved-left rows live i

-- a level more at the front of a list, at which it has 0
front-entered : (times live : List ℕ) (n : ℕ) → length live < length times → take (length (live ++ n ∷ [])) (set times (length live) 0) ≡ take (length live) times ++ 0 ∷ []
front-entered times live n h = ap (λ m. take m (set times (length live) 0)) (length-append live (n ∷ [])) ∙ take_more_set times (length live) 0 h

-- a level fewer
front-left : (times live : List ℕ) → length live ≤ length times → take (length (take (length live - 1) live)) times ≡ without_last (take (length live) times)
front-left times live h =
    let fewer : length (take (length live - 1) live) ≡ length live - 1 = length-take-le (length live - 1) live (omega arith) in
    let all : length (take (length live) times) ≡ length live = length-take-le (length live) times h in
    ap (λ m. take m times) fewer
    ∙ sym (take-take (length live - 1) (length live) times (omega arith))
    ∙ ap (λ m. take (m - 1) (take (length live) times)) (sym all)

-- a level is entered
pub stack_in-entered : (times : List ℕ) (rows : List (Row 32)) (v : Numbers) (room : Bool) → length v.live < length times → WereStamped v.given rows → stack_in (set times (length v.live) 0) rows (number_given v) room ≡ level_entered (stack_in times rows v room)
stack_in-entered times rows v room h hs = λ i. record { current = front-entered times v.live (v.given + 1) h i; saved = saved-entered rows v.live v.given hs i; entries = v.given + 1; room = room }

-- the innermost level is left
pub stack_in-left : (times : List ℕ) (rows : List (Row 32)) (v : Numbers) (room : Bool) → length v.live ≤ length times → stack_in times rows (number_left v) room ≡ level_left (stack_in times rows v room)
stack_in-left times rows v room h = λ i. record { current = front-left times v.live h i; saved = saved-left rows v.live i; entries = v.given; room = room }

-- the current entry has one time for each live level
pub levels_counted : (times live : List ℕ) (s : Stack) → length live ≤ length times → take (length live) times ≡ s.current → length live ≡ length s.current
levels_counted times live s h e = sym (length-take-le (length live) times h) ∙ ap length e

-- a list whose front has these times
pub front_is : (times live current : List ℕ) → length live ≤ length times → length current ≡ length live → ((k : ℕ) → k < length live → get_or times k 0 ≡ get_or current k 0) → take (length live) times ≡ current
front_is times live current h same each =
    let all : length (take (length live) times) ≡ length live = length-take-le (length live) times h in
    ext_get_or 0 (take (length live) times) current (all ∙ sym same) (λ k lt.
    let inside : k < length live = omega (arith, all) in
    get_or-take (length live) times k 0 inside ∙ each k inside)

-- an entry more is saved
pub saved-more : (rows : List (Row 32)) (row : Row 32) (live times : List ℕ) → times_of (seen row) live ≡ times → map (λ r. times_of (seen r) live) (rows ++ row ∷ []) ≡ map (λ r. times_of (seen r) live) rows ++ times ∷ []
saved-more [] row live times h = λ i. h i ∷ []
saved-more (r ∷ rows) row live times h = ap (λ xs. times_of (seen r) live ∷ xs) (saved-more rows row live times h)

pub one_level_more : (live : List ℕ) (n : ℕ) → length live < 32 → length (live ++ n ∷ []) ≤ 32
one_level_more live n h = omega (arith, length-append live (n ∷ []))

pub one_level_fewer : (live : List ℕ) → length live ≤ 32 → length (take (length live - 1) live) ≤ 32
one_level_fewer live h = omega (arith, length-take-le (length live - 1) live (omega arith))

-- a free row more is blank, as what is read where there is none
pub blank_behind : (rows : List (Row 32)) (count : ℕ) → row_at (rows ++ blank_row 32 ∷ []) count ≡ row_at rows count
blank_behind [] zero = refl
blank_behind [] (suc n) = refl
blank_behind (row ∷ rows) zero = refl
blank_behind (row ∷ rows) (suc n) = blank_behind rows n

-- a free row more leaves those before it
pub front-more : (rows : List (Row 32)) (row : Row 32) (count : ℕ) → count ≤ length rows → take count (rows ++ row ∷ []) ≡ take count rows
front-more rows row count h = take-append-le count rows (row ∷ []) h

-- the saved entries and the next row
pub saved-next : (rows : List (Row 32)) (live times : List ℕ) (count : ℕ) → count < length rows → times_of (row_at rows count) live ≡ times → map (λ r. times_of (seen r) live) (take (count + 1) rows) ≡ map (λ r. times_of (seen r) live) (take count rows) ++ times ∷ []
saved-next rows live times count h same =
    ap (λ rs. map (λ r. times_of (seen r) live) rs) (take_more rows count (blank_row 32) h)
    ∙ saved-more (take count rows) (get_or rows count (blank_row 32)) live times same

-- what is kept stays where a level is entered
pub kept-entered : (rows : List (Row 32)) (at : ℕ) (current live : List ℕ) (given : ℕ) → length live < length current → WereStamped given rows → times_of (row_at rows at) live ≡ take (length live) current → times_of (row_at rows at) (live ++ (given + 1) ∷ []) ≡ take (length (live ++ (given + 1) ∷ [])) (set current (length live) 0)
kept-entered rows at current live given h stamped same =
    times-entered (row_at rows at) live given (row_at_stamp given rows stamped at)
    ∙ ap (λ ts. ts ++ 0 ∷ []) same
    ∙ sym (front-entered current live (given + 1) h)

-- and where the innermost level is left
pub kept-left : (rows : List (Row 32)) (at : ℕ) (current live : List ℕ) → length live ≤ length current → times_of (row_at rows at) live ≡ take (length live) current → times_of (row_at rows at) (take (length live - 1) live) ≡ take (length (take (length live - 1) live)) current
kept-left rows at current live h same =
    times-left (row_at rows at) live
    ∙ ap without_last same
    ∙ sym (front-left current live h)

-- a row that is given the current times
pub row_written : (row : Row 32) (live current : List ℕ) (given : ℕ) → length live ≤ length current → row.stamp ≡ given → ((k : ℕ) → k < length live → get_or row.times k 0 ≡ get_or (take (length live) current) k 0) → WereGiven given live → times_of (seen row) live ≡ take (length live) current
row_written row live current given h stamp each were =
    let all : length (take (length live) current) ≡ length live = length-take-le (length live) current h in
    times-written (seen row) given (take (length live) current) live stamp (λ k lt. each k (omega (arith, all))) were all

pub stamped-set : (given at : ℕ) (row : Row 32) (rows : List (Row 32)) → row.stamp ≤ given → WereStamped given rows → WereStamped given (set rows at row)
stamped-set given at row [] le h = tt
stamped-set given zero row (r ∷ rows) le h = (le, h.1)
stamped-set given (suc n) row (r ∷ rows) le h = (h.0, stamped-set given n row rows le h.1)

-- as many entries are saved as are counted
pub saved_counted : (rows : List (Row 32)) (live : List ℕ) (count : ℕ) → count ≤ length rows → length (map (λ row. times_of (seen row) live) (take count rows)) ≡ count
saved_counted rows live zero h = refl
saved_counted [] live (suc n) h = absurd (omega arith)
saved_counted (row ∷ rows) live (suc n) h = ap suc (saved_counted rows live n (omega arith))

-- the newest saved entry
pub newest_saved : (rows : List (Row 32)) (live : List ℕ) (count : ℕ) (saved : List (List ℕ)) → 0 < count → count ≤ length rows → map (λ row. times_of (seen row) live) (take count rows) ≡ saved → get_or saved (length saved - 1) [] ≡ times_of (row_at rows (count - 1)) live
newest_saved rows live count saved some few same =
    let f : Row 32 → List ℕ = λ row. times_of (seen row) live in
    let all : length saved ≡ count = sym (ap length same) ∙ saved_counted rows live count few in
    let low : count - 1 < length (take count rows) = omega (arith, length-take-le count rows few) in
    ap (λ xs. get_or xs (length saved - 1) []) (sym same)
    ∙ ap (λ n. get_or (map f (take count rows)) (n - 1) []) all
    ∙ get_or-map f (take count rows) (count - 1) (blank_row 32) [] low
    ∙ ap f (get_or-take count rows (count - 1) (blank_row 32) (omega arith))

-- without the newest saved entry
pub saved-dropped : (rows : List (Row 32)) (live : List ℕ) (count : ℕ) (saved : List (List ℕ)) → count ≤ length rows → map (λ row. times_of (seen row) live) (take count rows) ≡ saved → map (λ row. times_of (seen row) live) (take (count - 1) rows) ≡ take (length saved - 1) saved
saved-dropped rows live count saved h same =
    let fewer : count - 1 ≤ count = omega arith in
    ap (λ rs. map (λ row. times_of (seen row) live) rs) (sym (take-take (count - 1) count rows fewer))
    ∙ mapped (count - 1) (take count rows)
    ∙ ap (λ n. take (n - 1) (map (λ row. times_of (seen row) live) (take count rows))) (sym (saved_counted rows live count h))
    ∙ ap (λ xs. take (length xs - 1) xs) same
  where
    mapped : (n : ℕ) (rs : List (Row 32)) → map (λ row. times_of (seen row) live) (take n rs) ≡ take n (map (λ row. times_of (seen row) live) rs)
    mapped zero rs = refl
    mapped (suc n) [] = refl
    mapped (suc n) (r ∷ rs) = λ i. times_of (seen r) live ∷ mapped n rs i

-- a list whose front was filled with a row's times
pub copied_back : (row : Seen) (live new : List ℕ) → length live ≤ length new → ((k : ℕ) → k < length live → slice_index new k ≡ row_time row (slice_index live k) k) → times_of row live ≡ take (length live) new
copied_back row live new h each = sym (front_is new live (times_of row live) h (length-with_places (row_time row) 0 live) (λ k lt. each k lt ∙ sym (time_from_row row live k lt)))
