-- What the calls make of rows, and what that is of the maps that they stand for.
use Rattle.std.proofs.Common.{◌≡◌, ℕ, ◌+◌, ◌-◌, ◌%◌, ◌^◌, ◌<◌, ◌≤◌, ◌≢◌, ⊎_elim, subst, zero, suc, List, [], ◌∷◌, ◌++◌, length, take, map, get_or, set, get_or-set_same, get_or-set_other, cond, Bool, true, false, nat_le, nat_lt, refl, ap, sym, ◌∙◌, arith}
use Rattle.std.specs.Prelude.{slice_index}
use Rattle.std.proofs.lemmas.Bool.Decides.{nat_tests}
use Rattle.std.proofs.lemmas.Bool.{cases_eq, cases_lt}
use Rattle.std.proofs.lemmas.List.{get_or_past}
use Rattle.k_shadow.specs.declared.row.Row.{Row}
use Rattle.k_shadow.specs.Content.{with_time, set_times, without}
use Rattle.k_shadow.specs.Numbers.{AreRising, AreStarts, WereGiven}
use Rattle.k_shadow.specs.Rows.{Seen, seen, row_time, blank_row, unwritten, unwritten_seen, with_places, times_of, levels_of, row_at, WereStamped}
use Rattle.k_shadow.proofs.Places.{length-with_places, with_places-append, with_places-take, get_or-with_places, with_places_same}

-- a number that was given later is above every stamp
pub WereGiven-later : (given later : ℕ) (ns : List ℕ) → given ≤ later → WereGiven given ns → WereGiven later ns
WereGiven-later given later [] le h = tt
WereGiven-later given later (n ∷ ns) le h = (h.0, omega arith, WereGiven-later given later ns le h.2)

pub WereGiven-append : (given : ℕ) (ns : List ℕ) (n : ℕ) → WereGiven given ns → 0 < n → n ≤ given → WereGiven given (ns ++ n ∷ [])
WereGiven-append given [] n h low high = (low, high, tt)
WereGiven-append given (m ∷ ns) n h low high = (h.0, h.1, WereGiven-append given ns n h.2 low high)

pub WereGiven-take : (given k : ℕ) (ns : List ℕ) → WereGiven given ns → WereGiven given (take k ns)
WereGiven-take given zero ns h = tt
WereGiven-take given (suc k) [] h = tt
WereGiven-take given (suc k) (n ∷ ns) h = (h.0, h.1, WereGiven-take given k ns h.2)

-- the number of each level was given
pub given_at : (given : ℕ) (ns : List ℕ) → WereGiven given ns → (k : ℕ) → k < length ns → get_or ns k 0 ≤ given
given_at given [] h k lt = absurd (omega arith)
given_at given (n ∷ ns) h zero lt = h.1
given_at given (n ∷ ns) h (suc k) lt = given_at given ns h.2 k (omega arith)

-- the number of the next instance after those that were given
pub WereGiven-next : (given : ℕ) (ns : List ℕ) → WereGiven given ns → WereGiven (given + 1) (ns ++ (given + 1) ∷ [])
WereGiven-next given ns h = WereGiven-append (given + 1) ns (given + 1) (WereGiven-later given (given + 1) ns (omega arith) h) (omega arith) (omega arith)

pub AreRising-next : (low given : ℕ) (ns : List ℕ) → low ≤ given → WereGiven given ns → AreRising low ns → AreRising low (ns ++ (given + 1) ∷ [])
AreRising-next low given [] le h rising = (omega arith, tt)
AreRising-next low given (n ∷ ns) le h rising = (rising.0, AreRising-next n given ns h.1 h.2 rising.1)

pub AreRising-take : (low k : ℕ) (ns : List ℕ) → AreRising low ns → AreRising low (take k ns)
AreRising-take low zero ns h = tt
AreRising-take low (suc k) [] h = tt
AreRising-take low (suc k) (n ∷ ns) h = (h.0, AreRising-take n k ns h.1)

-- the number of a level more, modulo 2^32
pub starts-more : (depth : ℕ) (numbers starts : List ℕ) (number : ℕ) → depth < length numbers → depth < length starts → AreStarts depth numbers starts → AreStarts (depth + 1) (set numbers depth number) (set starts depth (number % 2 ^ 32))
starts-more depth numbers starts number h within so_far k lt = ⊎_elim
    (λ (e : k ≡ depth). subst (λ (x : ℕ). get_or (set starts depth (number % 2 ^ 32)) x 0 ≡ get_or (set numbers depth number) x 0 % 2 ^ 32) (sym e)
    (get_or-set_same starts depth (number % 2 ^ 32) 0 within ∙ ap (λ n. n % 2 ^ 32) (sym (get_or-set_same numbers depth number 0 h))))
    (λ (ne : k ≢ depth). get_or-set_other starts depth k (number % 2 ^ 32) 0 ne ∙ so_far k (omega arith) ∙ ap (λ n. n % 2 ^ 32) (sym (get_or-set_other numbers depth k number 0 ne)))
    (cases_eq k depth)

-- a number for which 32 bits are enough
pub low_number : (n : ℕ) → n < 2 ^ 32 → n % 2 ^ 32 ≡ n
low_number n h = omega arith

pub above_low : (low : ℕ) (ns : List ℕ) → AreRising low ns → (k : ℕ) → k < length ns → low < get_or ns k 0
above_low low [] h k lt = absurd (omega arith)
above_low low (n ∷ ns) h zero lt = h.0
above_low low (n ∷ ns) h (suc k) lt = let more : n < get_or ns k 0 = above_low n ns h.1 k (omega arith) in omega (arith, h.0)

-- an outer level's number is below an inner one's
pub rising_to : (low : ℕ) (ns : List ℕ) → AreRising low ns → (i k : ℕ) → i ≤ k → k < length ns → get_or ns i 0 ≤ get_or ns k 0
rising_to low [] h i k le lt = absurd (omega arith)
rising_to low (n ∷ ns) h zero zero le lt = omega arith
rising_to low (n ∷ ns) h zero (suc k) le lt = let more : n < get_or ns k 0 = above_low n ns h.1 k (omega arith) in omega arith
rising_to low (n ∷ ns) h (suc i) zero le lt = absurd (omega arith)
rising_to low (n ∷ ns) h (suc i) (suc k) le lt = rising_to n ns h.1 i k (omega arith) (omega arith)

-- what is live at a level is live at each outer one
pub up_to : (ns : List ℕ) (stamp live : ℕ) → AreRising 0 ns → get_or ns (live - 1) 0 ≤ stamp → live ≤ length ns → (k : ℕ) → k < live → get_or ns k 0 ≤ stamp
up_to ns stamp live rising last few k lt =
    let up : get_or ns k 0 ≤ get_or ns (live - 1) 0 = rising_to 0 ns rising k (live - 1) (omega arith) (omega arith) in
    omega arith

is_below : (a b : ℕ) → nat_lt a b ≡ true → a < b
is_below a b h = grind (arith, nat_tests)

-- what is gone at the outermost level is gone at each
pub from_first : (ns : List ℕ) (stamp : ℕ) → AreRising 0 ns → nat_lt stamp (get_or ns 0 0) ≡ true → (k : ℕ) → k < length ns → stamp < get_or ns k 0
from_first ns stamp rising first k lt =
    let up : get_or ns 0 0 ≤ get_or ns k 0 = rising_to 0 ns rising 0 k (omega arith) lt in
    let low : stamp < get_or ns 0 0 = is_below stamp (get_or ns 0 0) first in
    omega arith

pub WereStamped-later : {levels : ℕ} (given later : ℕ) (rows : List (Row levels)) → given ≤ later → WereStamped given rows → WereStamped later rows
WereStamped-later given later [] le h = tt
WereStamped-later given later (row ∷ rows) le h = (omega arith, WereStamped-later given later rows le h.1)

pub WereStamped-append : {levels : ℕ} (given : ℕ) (rows more : List (Row levels)) → WereStamped given rows → WereStamped given more → WereStamped given (rows ++ more)
WereStamped-append given [] more h m = m
WereStamped-append given (row ∷ rows) more h m = (h.0, WereStamped-append given rows more h.1 m)

pub WereStamped-take : {levels : ℕ} (given k : ℕ) (rows : List (Row levels)) → WereStamped given rows → WereStamped given (take k rows)
WereStamped-take given zero rows h = tt
WereStamped-take given (suc k) [] h = tt
WereStamped-take given (suc k) (row ∷ rows) h = (h.0, WereStamped-take given k rows h.1)

-- a row that was written before an instance began has no time at its level
pub row_time_later : (row : Seen) (n level : ℕ) → row.stamp < n → row_time row n level ≡ 0
row_time_later row n level h = grind (arith, nat_tests)

-- a row that was written since has the time that was written
pub row_time_since : (row : Seen) (n level : ℕ) → n ≤ row.stamp → row_time row n level ≡ row.time level
row_time_since row n level h = grind (arith, nat_tests)

-- the time at a level that is live, by the maps
pub time_from_rows : (rows : ℕ → Seen) (live : List ℕ) (level loc : ℕ) → level < length live → get_or (levels_of rows live) level (λ _. 0) loc ≡ row_time (rows loc) (get_or live level 0) level
time_from_rows rows live level loc h =
    ap (λ (m : ℕ → ℕ). m loc) (get_or-with_places (λ n j at. row_time (rows at) n j) 0 live level (λ _. 0) h ∙ ap (λ j at. row_time (rows at) (get_or live level 0) j) (omega arith))

-- a level is entered: no row has a time there
pub levels-entered : (rows : ℕ → Seen) (live : List ℕ) (given : ℕ) → ((loc : ℕ) → (rows loc).stamp ≤ given) → levels_of rows (live ++ (given + 1) ∷ []) ≡ levels_of rows live ++ (λ _. 0) ∷ []
levels-entered rows live given h =
    let apart : (at : ℕ) → (rows at).stamp < given + 1 = λ at. omega (arith, h at) in
    with_places-append (λ n j at. row_time (rows at) n j) 0 live (given + 1)
    ∙ ap (λ (m : ℕ → ℕ). levels_of rows live ++ m ∷ []) (λ i at. row_time_later (rows at) (given + 1) (0 + length live) (apart at) i)

-- the innermost level is left
pub levels-left : (rows : ℕ → Seen) (live : List ℕ) → levels_of rows (take (length live - 1) live) ≡ take (length (levels_of rows live) - 1) (levels_of rows live)
levels-left rows live =
    with_places-take (λ n j at. row_time (rows at) n j) 0 (length live - 1) live
    ∙ ap (λ n. take (n - 1) (levels_of rows live)) (sym (length-with_places (λ n j at. row_time (rows at) n j) 0 live))

-- rows that agree stand for the same maps
pub levels_same : (rows others : ℕ → Seen) (live : List ℕ) → ((loc : ℕ) → others loc ≡ rows loc) → levels_of others live ≡ levels_of rows live
levels_same rows others live h = with_places_same (λ n j at. row_time (others at) n j) (λ n j at. row_time (rows at) n j) 0 live (λ n j. λ i at. row_time (h at i) n j)

-- a map that was set at a location, there and elsewhere
pub with_time_here : (loc t : ℕ) (m : ℕ → ℕ) → with_time loc t m loc ≡ t
with_time_here loc t m = grind (arith, nat_tests)

pub with_time_there : (loc t : ℕ) (m : ℕ → ℕ) (at : ℕ) → at ≢ loc → with_time loc t m at ≡ m at
with_time_there loc t m at ne = grind (arith, nat_tests)

-- rows of which one was written, and the others are as before
pub record IsWritten (rows others : ℕ → Seen) (loc given : ℕ) (times : List ℕ) : Type 0 where
  pub stamp : (others loc).stamp ≡ given
  pub each : (k : ℕ) → k < length times → (others loc).time k ≡ slice_index times k
  pub rest : (at : ℕ) → at ≢ loc → others at ≡ rows at

-- one map after a write
with_time_row : (rows others : ℕ → Seen) (loc n j t given : ℕ) → n ≤ given → (others loc).stamp ≡ given → (others loc).time j ≡ t → ((at : ℕ) → at ≢ loc → others at ≡ rows at) → (at : ℕ) → row_time (others at) n j ≡ with_time loc t (λ l. row_time (rows l) n j) at
with_time_row rows others loc n j t given low stamp time rest at =
    let m : ℕ → ℕ = λ l. row_time (rows l) n j in
    let P : ℕ → Type 0 = λ x. row_time (others x) n j ≡ with_time loc t m x in
    let low_enough : n ≤ (others loc).stamp = omega (arith, stamp) in
    ⊎_elim
    (λ (e : at ≡ loc). subst P (sym e) (row_time_since (others loc) n j low_enough ∙ time ∙ sym (with_time_here loc t m)))
    (λ (ne : at ≢ loc). ap (λ r. row_time r n j) (rest at ne) ∙ sym (with_time_there loc t m at ne))
    (cases_eq at loc)

-- the maps after a write, from the place k on
levels-written-from : (rows others : ℕ → Seen) (loc given k : ℕ) (times live : List ℕ) → (others loc).stamp ≡ given → ((at : ℕ) → at ≢ loc → others at ≡ rows at) → ((i : ℕ) → i < length times → (others loc).time (k + i) ≡ slice_index times i) → WereGiven given live → length times ≡ length live
    → with_places (λ n j at. row_time (others at) n j) k live ≡ set_times loc times (with_places (λ n j at. row_time (rows at) n j) k live)
levels-written-from rows others loc given k [] [] stamp rest each live same = refl
levels-written-from rows others loc given k [] (n ∷ ns) stamp rest each live same = absurd (omega arith)
levels-written-from rows others loc given k (t ∷ ts) [] stamp rest each live same = absurd (omega arith)
levels-written-from rows others loc given k (t ∷ ts) (n ∷ ns) stamp rest each live same =
    let zero_more : k ≡ k + 0 = omega arith in
    let here : (others loc).time k ≡ t = ap (λ j. (others loc).time j) zero_more ∙ each 0 (omega arith) in
    let later : (i : ℕ) → i < length ts → (others loc).time (k + 1 + i) ≡ slice_index ts i = λ i h.
    let more : k + 1 + i ≡ k + suc i = omega arith in ap (λ j. (others loc).time j) more ∙ each (suc i) (omega arith) in
    let fewer : length ts ≡ length ns = omega arith in
    λ i. (λ at. with_time_row rows others loc n k t given live.1 stamp here rest at i) ∷ levels-written-from rows others loc given (k + 1) ts ns stamp rest later live.2 fewer i

-- a write to all live levels
pub levels-written : (rows others : ℕ → Seen) (loc given : ℕ) (times live : List ℕ) → IsWritten rows others loc given times → WereGiven given live → length times ≡ length live → levels_of others live ≡ set_times loc times (levels_of rows live)
levels-written rows others loc given times live w given_all same =
    levels-written-from rows others loc given 0 times live w.stamp w.rest (λ i h. ap (λ j. (others loc).time j) (omega arith) ∙ w.each i h) given_all same

-- one map after a location got a time
with_time_set : (rows others : ℕ → Seen) (loc n j t : ℕ) → row_time (others loc) n j ≡ t → ((at : ℕ) → at ≢ loc → others at ≡ rows at) → (at : ℕ) → row_time (others at) n j ≡ with_time loc t (λ l. row_time (rows l) n j) at
with_time_set rows others loc n j t time rest at =
    let m : ℕ → ℕ = λ l. row_time (rows l) n j in
    let P : ℕ → Type 0 = λ x. row_time (others x) n j ≡ with_time loc t m x in
    ⊎_elim
    (λ (e : at ≡ loc). subst P (sym e) (time ∙ sym (with_time_here loc t m)))
    (λ (ne : at ≢ loc). ap (λ r. row_time r n j) (rest at ne) ∙ sym (with_time_there loc t m at ne))
    (cases_eq at loc)

-- the maps after a location got times, from the place k on
levels-set-from : (rows others : ℕ → Seen) (loc k : ℕ) (times live : List ℕ) → ((at : ℕ) → at ≢ loc → others at ≡ rows at) → ((i : ℕ) → i < length live → row_time (others loc) (slice_index live i) (k + i) ≡ slice_index times i) → length times ≡ length live
    → with_places (λ n j at. row_time (others at) n j) k live ≡ set_times loc times (with_places (λ n j at. row_time (rows at) n j) k live)
levels-set-from rows others loc k [] [] rest each same = refl
levels-set-from rows others loc k [] (n ∷ ns) rest each same = absurd (omega arith)
levels-set-from rows others loc k (t ∷ ts) [] rest each same = absurd (omega arith)
levels-set-from rows others loc k (t ∷ ts) (n ∷ ns) rest each same =
    let zero_more : k ≡ k + 0 = omega arith in
    let here : row_time (others loc) n k ≡ t = ap (λ j. row_time (others loc) n j) zero_more ∙ each 0 (omega arith) in
    let later : (i : ℕ) → i < length ns → row_time (others loc) (slice_index ns i) (k + 1 + i) ≡ slice_index ts i = λ i h.
    let more : k + 1 + i ≡ k + suc i = omega arith in ap (λ j. row_time (others loc) (slice_index ns i) j) more ∙ each (suc i) (omega arith) in
    let fewer : length ts ≡ length ns = omega arith in
    λ i. (λ at. with_time_set rows others loc n k t here rest at i) ∷ levels-set-from rows others loc (k + 1) ts ns rest later fewer i

-- a location that got these times at all live levels
pub levels-set : (rows others : ℕ → Seen) (loc : ℕ) (times live : List ℕ) → ((at : ℕ) → at ≢ loc → others at ≡ rows at) → ((i : ℕ) → i < length live → row_time (others loc) (slice_index live i) i ≡ slice_index times i) → length times ≡ length live → levels_of others live ≡ set_times loc times (levels_of rows live)
levels-set rows others loc times live rest each same =
    levels-set-from rows others loc 0 times live rest (λ i h. ap (λ j. row_time (others loc) (slice_index live i) j) (omega arith) ∙ each i h) same

-- rows of which some have the stamp 0, and the others are as before
pub record IsCleared (rows others : ℕ → Seen) (first count : ℕ) : Type 0 where
  pub among : (at : ℕ) → first ≤ at → at < first + count → (others at).stamp ≡ 0
  pub before : (at : ℕ) → at < first → others at ≡ rows at
  pub behind : (at : ℕ) → first + count ≤ at → others at ≡ rows at

-- one map after a clear
without_row : (rows others : ℕ → Seen) (first count n j : ℕ) → 0 < n → IsCleared rows others first count → (at : ℕ) → row_time (others at) n j ≡ without first count (λ l. row_time (rows l) n j) at
without_row rows others first count n j low h at =
    let m : ℕ → ℕ = λ l. row_time (rows l) n j in
    ⊎_elim
    (λ (lt : at < first). ap (λ r. row_time r n j) (h.before at lt) ∙ without_before first count m at lt)
    (λ (ge : first ≤ at). ⊎_elim
    (λ (lt : at < first + count). row_time_later (others at) n j (let e : (others at).stamp ≡ 0 = h.among at ge lt in omega arith) ∙ without_among first count m at ge lt)
    (λ (past : first + count ≤ at). ap (λ r. row_time r n j) (h.behind at past) ∙ without_behind first count m at past)
    (cases_lt at (first + count)))
    (cases_lt at first)
  where
    without_before : (first count : ℕ) (m : ℕ → ℕ) (at : ℕ) → at < first → m at ≡ without first count m at
    without_before first count m at lt = grind (arith, nat_tests)

    without_among : (first count : ℕ) (m : ℕ → ℕ) (at : ℕ) → first ≤ at → at < first + count → 0 ≡ without first count m at
    without_among first count m at ge lt = grind (arith, nat_tests)

    without_behind : (first count : ℕ) (m : ℕ → ℕ) (at : ℕ) → first + count ≤ at → m at ≡ without first count m at
    without_behind first count m at past = grind (arith, nat_tests)

levels-cleared-from : (rows others : ℕ → Seen) (first count given k : ℕ) (live : List ℕ) → IsCleared rows others first count → WereGiven given live
    → with_places (λ n j at. row_time (others at) n j) k live ≡ map (without first count) (with_places (λ n j at. row_time (rows at) n j) k live)
levels-cleared-from rows others first count given k [] h live = refl
levels-cleared-from rows others first count given k (n ∷ ns) h live =
    λ i. (λ at. without_row rows others first count n k live.0 h at i) ∷ levels-cleared-from rows others first count given (k + 1) ns h live.2 i

-- locations are cleared at all live levels
pub levels-cleared : (rows others : ℕ → Seen) (first count given : ℕ) (live : List ℕ) → IsCleared rows others first count → WereGiven given live → levels_of others live ≡ map (without first count) (levels_of rows live)
levels-cleared rows others first count given live h given_all = levels-cleared-from rows others first count given 0 live h given_all

-- the times of one row, as those of a control entry: a level is entered
pub times-entered : (row : Seen) (live : List ℕ) (given : ℕ) → row.stamp ≤ given → times_of row (live ++ (given + 1) ∷ []) ≡ times_of row live ++ 0 ∷ []
times-entered row live given h =
    with_places-append (row_time row) 0 live (given + 1)
    ∙ ap (λ t. times_of row live ++ t ∷ []) (row_time_later row (given + 1) (0 + length live) (omega arith))

-- the innermost level is left
pub times-left : (row : Seen) (live : List ℕ) → times_of row (take (length live - 1) live) ≡ take (length (times_of row live) - 1) (times_of row live)
times-left row live =
    with_places-take (row_time row) 0 (length live - 1) live
    ∙ ap (λ n. take (n - 1) (times_of row live)) (sym (length-with_places (row_time row) 0 live))

-- the time at a live level
pub time_from_row : (row : Seen) (live : List ℕ) (level : ℕ) → level < length live → slice_index (times_of row live) level ≡ row_time row (slice_index live level) level
time_from_row row live level h = get_or-with_places (row_time row) 0 live level 0 h ∙ ap (λ j. row_time row (slice_index live level) j) (omega arith)

times-written-from : (row : Seen) (given k : ℕ) (times live : List ℕ) → row.stamp ≡ given → ((i : ℕ) → i < length times → row.time (k + i) ≡ slice_index times i) → WereGiven given live → length times ≡ length live → with_places (row_time row) k live ≡ times
times-written-from row given k [] [] stamp each live same = refl
times-written-from row given k [] (n ∷ ns) stamp each live same = absurd (omega arith)
times-written-from row given k (t ∷ ts) [] stamp each live same = absurd (omega arith)
times-written-from row given k (t ∷ ts) (n ∷ ns) stamp each live same =
    let zero_more : k ≡ k + 0 = omega arith in
    let here : row.time k ≡ t = ap (λ j. row.time j) zero_more ∙ each 0 (omega arith) in
    let later : (i : ℕ) → i < length ts → row.time (k + 1 + i) ≡ slice_index ts i = λ i h.
    let more : k + 1 + i ≡ k + suc i = omega arith in ap (λ j. row.time j) more ∙ each (suc i) (omega arith) in
    let low : n ≤ row.stamp = omega (arith, live.1, stamp) in
    λ i. (row_time_since row n k low ∙ here) i ∷ times-written-from row given (k + 1) ts ns stamp later live.2 (omega arith) i

-- a row that was written at all live levels has the times that were written
pub times-written : (row : Seen) (given : ℕ) (times live : List ℕ) → row.stamp ≡ given → ((i : ℕ) → i < length times → row.time i ≡ slice_index times i) → WereGiven given live → length times ≡ length live → times_of row live ≡ times
times-written row given times live stamp each given_all same =
    times-written-from row given 0 times live stamp (λ i h. ap (λ j. row.time j) (omega arith) ∙ each i h) given_all same

-- the rows of a list have stamps
pub row_at_stamp : {levels : ℕ} (given : ℕ) (rows : List (Row levels)) → WereStamped given rows → (loc : ℕ) → (row_at rows loc).stamp ≤ given
row_at_stamp given [] h loc = omega arith
row_at_stamp given (row ∷ rows) h zero = h.0
row_at_stamp given (row ∷ rows) h (suc loc) = row_at_stamp given rows h.1 loc

-- a write to one row of a list
pub one_row_written : {levels : ℕ} (rows others : List (Row levels)) (loc given : ℕ) (times : List ℕ) (row : Row levels) → loc < length rows → others ≡ set rows loc row → row.stamp ≡ given → ((k : ℕ) → k < length times → slice_index row.times k ≡ slice_index times k) → IsWritten (row_at rows) (row_at others) loc given times
one_row_written {levels} rows others loc given times row h same stamp each =
    let here : row_at others loc ≡ seen row = ap (λ rs. row_at rs loc) same ∙ ap seen (get_or-set_same rows loc row (blank_row levels) h) in
    record {
      stamp = ap (λ r. r.stamp) here ∙ stamp;
      each = λ k lt. ap (λ r. r.time k) here ∙ each k lt;
      rest = λ at ne. ap (λ rs. row_at rs at) same ∙ ap seen (get_or-set_other rows loc at row (blank_row levels) ne);
    }

-- a location that has no row
pub unwritten_at : {levels : ℕ} (rows : List (Row levels)) (loc : ℕ) → length rows ≤ loc → row_at rows loc ≡ unwritten
unwritten_at {levels} rows loc h = ap seen (get_or_past rows loc (blank_row levels) h) ∙ unwritten_seen levels

-- a row that was never written has time 0
pub unwritten_time : (number level : ℕ) → row_time unwritten number level ≡ 0
unwritten_time number level = cond_same (nat_le number 0)
  where
    cond_same : (b : Bool) → ◌≡◌ {A = ℕ} (cond b 0 0) 0
    cond_same true = refl
    cond_same false = refl

-- a time of a row that has 32 bits where it is live
pub cut_time : (row : Seen) (number level : ℕ) → row_time row number level < 2 ^ 32 → cond (nat_le number row.stamp) (row.time level % 2 ^ 32) 0 ≡ row_time row number level
cut_time row number level small = cut_if (nat_le number row.stamp) (row.time level) small
  where
    cut_if : (b : Bool) (t : ℕ) → cond b t 0 < 2 ^ 32 → cond b (t % 2 ^ 32) 0 ≡ cond b t 0
    cut_if true t low = omega arith
    cut_if false t low = refl
