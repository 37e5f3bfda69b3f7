-- Lists with one time for each live level.
use Rattle.std.proofs.Common.{◌≡◌, ℕ, ◌+◌, ◌%◌, ◌^◌, ◌<◌, max, zero, suc, List, [], ◌∷◌, length, map, replicate, get_or, refl, ap, sym, ◌∙◌, arith}
use Rattle.std.specs.Prelude.{if◌then◌else◌, Bool, true, false, slice_index, slice_index_or}
use Rattle.std.proofs.Math.Nat.{zero-max}
use Rattle.std.specs.List.{refill}
use Rattle.k_shadow.specs.Content.{Content, at_levels, after_none, after_one, after_two, time_at}
use Rattle.k_shadow.proofs.Levels.{is-at_levels, get_or-at_levels, length-at_levels}
use Rattle.k_shadow.proofs.Plain.{refilled}
use Rattle.std.proofs.lemmas.List.{ext_get_or, get_or-map, get_or-replicate, length-map, length-replicate}
use Rattle.k_hcpa_meaning.specs.Timings.{later, after}

pub later_length : (xs ys : List ℕ) → length (later xs ys) ≡ length xs
later_length [] ys = refl
later_length (x ∷ xs) [] = refl
later_length (x ∷ xs) (y ∷ ys) = ap (λ n. suc n) (later_length xs ys)

pub get_or-later : (xs ys : List ℕ) (k : ℕ) → length xs ≡ length ys → k < length xs → get_or (later xs ys) k 0 ≡ max (get_or xs k 0) (get_or ys k 0)
get_or-later [] ys k same lt = absurd (omega arith)
get_or-later (x ∷ xs) [] k same lt = absurd (omega arith)
get_or-later (x ∷ xs) (y ∷ ys) zero same lt = refl
get_or-later (x ∷ xs) (y ∷ ys) (suc k) same lt = get_or-later xs ys k (omega arith) (omega arith)

-- a list whose times are the later ones
pub later_is : (new old by : List ℕ) → length new ≡ length old → length old ≡ length by
    → ((k : ℕ) → k < length old → get_or new k 0 ≡ max (get_or old k 0) (get_or by k 0)) → new ≡ later old by
later_is new old by as_long same each =
    ext_get_or 0 new (later old by) (as_long ∙ sym (later_length old by))
    (λ k lt. let within : k < length old = omega arith in each k within ∙ sym (get_or-later old by k same within))

-- a list whose times are later by the latency
pub after_is : (latency : ℕ) (new old : List ℕ) → length new ≡ length old
    → ((k : ℕ) → k < length old → get_or new k 0 ≡ (get_or old k 0 + latency) % 2 ^ 64) → new ≡ after latency old
after_is latency new old as_long each =
    let f : ℕ → ℕ = λ time. (time + latency) % 2 ^ 64 in
    ext_get_or 0 new (after latency old) (as_long ∙ sym (length-map old f))
    (λ k lt. let within : k < length old = omega arith in each k within ∙ sym (get_or-map f old k 0 0 within))

-- a list whose times are 0
pub zeros_are : (new : List ℕ) (n : ℕ) → length new ≡ n → ((k : ℕ) → k < n → get_or new k 0 ≡ 0) → new ≡ replicate n 0
zeros_are new n as_long each =
    ext_get_or 0 new (replicate n 0) (as_long ∙ sym (length-replicate n 0))
    (λ k lt. each k (omega arith) ∙ sym (get_or-replicate n k 0 0 (omega arith)))

-- a list whose times are the later ones of itself and of a location
pub raised_is : (at : ℕ) (new old : List ℕ) (levels : List (ℕ → ℕ)) → length new ≡ length old → length old ≡ length levels
    → ((k : ℕ) → k < length levels → slice_index new k ≡ max (slice_index old k) (slice_index_or levels k (λ _. 0) at))
    → new ≡ later old (map (λ level. level at) levels)
raised_is at new old levels as_long same each =
    let f : (ℕ → ℕ) → ℕ = λ level. level at in
    later_is new old (map f levels) as_long (same ∙ sym (length-map levels f))
    (λ k lt. let within : k < length levels = omega arith in each k within ∙ ap (λ time. max (get_or old k 0) time) (sym (get_or-map f levels k (λ _. 0) 0 within)))

-- the later one of no time and a time
pub later-zeros : (xs : List ℕ) → later (replicate (length xs) 0) xs ≡ xs
later-zeros [] = refl
later-zeros (x ∷ xs) = λ i. zero-max x i ∷ later-zeros xs i

-- a list that was lent for that
pub raised_back : (at : ℕ) (new lent old : List ℕ) (levels : List (ℕ → ℕ)) → lent ≡ old → length new ≡ length lent → length old ≡ length levels
    → ((k : ℕ) → k < length levels → slice_index new k ≡ max (slice_index lent k) (slice_index_or levels k (λ _. 0) at))
    → refill (length old) old new ≡ later old (map (λ level. level at) levels)
raised_back at new lent old levels same as_long lengths each =
    let long : length new ≡ length old = as_long ∙ ap (λ xs. length xs) same in
    refilled (length old) new old long
    ∙ raised_is at new old levels long lengths (λ k lt. each k lt ∙ ap (λ (xs : List ℕ). max (slice_index xs k) (slice_index_or levels k (λ _. 0) at)) same)

-- what a location holds, read into a list of no times
pub read_is : (at : ℕ) (new old : List ℕ) (levels : List (ℕ → ℕ)) → length old ≡ length levels
    → new ≡ later (replicate (length old) 0) (map (λ level. level at) levels) → new ≡ map (λ level. level at) levels
read_is at new old levels same is =
    let f : (ℕ → ℕ) → ℕ = λ level. level at in
    is ∙ ap (λ n. later (replicate n 0) (map f levels)) (same ∙ sym (length-map levels f)) ∙ later-zeros (map f levels)

pub length_unless : (broken : Bool) (xs ys : List ℕ) → length (if broken then xs else later xs ys) ≡ length xs
length_unless true xs ys = refl
length_unless false xs ys = later_length xs ys

-- as many times are later
after_length : (latency : ℕ) (xs : List ℕ) → length (after latency xs) ≡ length xs
after_length latency xs = length-map xs _

get_or-after : (latency : ℕ) (xs : List ℕ) (k : ℕ) → k < length xs → get_or (after latency xs) k 0 ≡ (get_or xs k 0 + latency) % 2 ^ 64
get_or-after latency xs k lt = get_or-map (λ time. (time + latency) % 2 ^ 64) xs k 0 0 lt

-- a row and the paths that were lent to be settled
pub after_back : (latency : ℕ) (new lent old : List ℕ) → lent ≡ old → length new ≡ length lent
    → ((k : ℕ) → k < length lent → get_or new k 0 ≡ (get_or lent k 0 + latency) % 2 ^ 64) → refill (length old) old new ≡ after latency old
after_back latency new lent old same as_long each =
    refilled (length old) new old (as_long ∙ ap (λ xs. length xs) same)
    ∙ after_is latency new lent as_long each
    ∙ ap (λ xs. after latency xs) same

-- the paths that were lent to be raised to times
pub later_back : (times new lent old : List ℕ) → lent ≡ old → length new ≡ length lent → length old ≡ length times
    → ((k : ℕ) → k < length times → get_or new k 0 ≡ max (get_or lent k 0) (get_or times k 0)) → refill (length old) old new ≡ later old times
later_back times new lent old same as_long lengths each =
    let long : length new ≡ length old = as_long ∙ ap (λ xs. length xs) same in
    refilled (length old) new old long
    ∙ later_is new old times long lengths
    (λ k lt. let within : k < length times = omega arith in each k within ∙ ap (λ (xs : List ℕ). max (get_or xs k 0) (get_or times k 0)) same)

-- the times of an operation that waits for the control source alone
pub none_after : (n latency : ℕ) (before : List ℕ) → length before ≡ n → at_levels n (after_none before latency) ≡ after latency before
none_after n latency before long =
    sym (is-at_levels n (after_none before latency) (after latency before) (after_length latency before ∙ long)
    (λ k lt. let within : k < length before = omega arith in get_or-after latency before k within))

-- those of one that waits for a location too
pub one_after : (c : Content) (from latency : ℕ) (before : List ℕ) → length before ≡ length c.levels
    → at_levels (length c.levels) (after_one c from before latency) ≡ after latency (later before (map (λ level. level from) c.levels))
one_after c from latency before long =
    let f : (ℕ → ℕ) → ℕ = λ level. level from in
    let row : List ℕ = later before (map f c.levels) in
    let rows : length row ≡ length before = later_length before (map f c.levels) in
    let same : length before ≡ length (map f c.levels) = long ∙ sym (length-map c.levels f) in
    sym (is-at_levels (length c.levels) (after_one c from before latency) (after latency row) (after_length latency row ∙ rows ∙ long)
    (λ k lt.
    let within : k < length before = omega arith in
    let at_row : k < length row = omega arith in
    let swapped : max (get_or before k 0) (time_at c k from) ≡ max (time_at c k from) (get_or before k 0) = omega arith in
    get_or-after latency row k at_row
    ∙ ap (λ time. (time + latency) % 2 ^ 64)
    (get_or-later before (map f c.levels) k same within ∙ ap (λ time. max (get_or before k 0) time) (get_or-map f c.levels k (λ _. 0) 0 lt) ∙ swapped)))

-- those of one that waits for two
pub two_after : (c : Content) (left right latency : ℕ) (before : List ℕ) → length before ≡ length c.levels
    → at_levels (length c.levels) (after_two c left right before latency)
    ≡ after latency (later (later before (map (λ level. level left) c.levels)) (map (λ level. level right) c.levels))
two_after c left right latency before long =
    let f : (ℕ → ℕ) → ℕ = λ level. level left in
    let g : (ℕ → ℕ) → ℕ = λ level. level right in
    let first : List ℕ = later before (map f c.levels) in
    let row : List ℕ = later first (map g c.levels) in
    let firsts : length first ≡ length before = later_length before (map f c.levels) in
    let rows : length row ≡ length first = later_length first (map g c.levels) in
    let same : length before ≡ length (map f c.levels) = long ∙ sym (length-map c.levels f) in
    let same_too : length first ≡ length (map g c.levels) = firsts ∙ long ∙ sym (length-map c.levels g) in
    sym (is-at_levels (length c.levels) (after_two c left right before latency) (after latency row) (after_length latency row ∙ rows ∙ firsts ∙ long)
    (λ k lt.
    let at_before : k < length before = omega arith in
    let at_first : k < length first = omega arith in
    let at_row : k < length row = omega arith in
    let b = get_or before k 0 in
    let swapped : max (max b (time_at c k left)) (time_at c k right) ≡ max (max (time_at c k left) (time_at c k right)) b = omega arith in
    get_or-after latency row k at_row
    ∙ ap (λ time. (time + latency) % 2 ^ 64)
    (get_or-later first (map g c.levels) k same_too at_first
    ∙ ap (λ time. max time (get_or (map g c.levels) k 0))
    (get_or-later before (map f c.levels) k same at_before ∙ ap (λ time. max b time) (get_or-map f c.levels k (λ _. 0) 0 lt))
    ∙ ap (λ time. max (max b (time_at c k left)) time) (get_or-map g c.levels k (λ _. 0) 0 lt)
    ∙ swapped)))

-- the paths that were lent to be raised to what an operation gives at each level
pub paths_back : (f : ℕ → ℕ) (n : ℕ) (times new lent old : List ℕ) → at_levels n f ≡ times → lent ≡ old → length new ≡ length lent → length old ≡ n
    → ((k : ℕ) → k < n → get_or new k 0 ≡ max (get_or lent k 0) (f k)) → refill (length old) old new ≡ later old times
paths_back f n times new lent old is same as_long lengths each =
    let many : length times ≡ n = sym (ap (λ xs. length xs) is) ∙ length-at_levels n f in
    later_back times new lent old same as_long (lengths ∙ sym many)
    (λ k lt. let within : k < n = omega arith in
    each k within ∙ ap (λ time. max (get_or lent k 0) time) (sym (get_or-at_levels n f k within) ∙ ap (λ (xs : List ℕ). get_or xs k 0) is))

-- the paths that were lent to be settled with a row
pub settled_paths : (latency : ℕ) (row_new row_lent row new lent old : List ℕ) → row_lent ≡ row → lent ≡ old → length row_new ≡ length row_lent → length new ≡ length lent
    → length old ≡ length row
    → ((k : ℕ) → k < length row_lent → get_or row_new k 0 ≡ (get_or row_lent k 0 + latency) % 2 ^ 64)
    → ((k : ℕ) → k < length row_lent → get_or new k 0 ≡ max (get_or lent k 0) (get_or row_new k 0))
    → refill (length old) old new ≡ later old (after latency row)
settled_paths latency row_new row_lent row new lent old same_row same rows as_long lengths delayed raised =
    let is : row_new ≡ after latency row = after_is latency row_new row_lent rows delayed ∙ ap (λ xs. after latency xs) same_row in
    later_back row_new new lent old same as_long (lengths ∙ sym (rows ∙ ap (λ xs. length xs) same_row))
    (λ k lt. let within : k < length row_lent = omega arith in raised k within)
    ∙ ap (λ xs. later old xs) is

-- the times of an operation, where those that it waits for were lent
pub none_lent : (n latency : ℕ) (lent before : List ℕ) → lent ≡ before → length before ≡ n → at_levels n (after_none lent latency) ≡ after latency before
none_lent n latency lent before same long = ap (λ (b : List ℕ). at_levels n (after_none b latency)) same ∙ none_after n latency before long

pub one_lent : (c : Content) (from latency : ℕ) (lent before : List ℕ) → lent ≡ before → length before ≡ length c.levels
    → at_levels (length c.levels) (after_one c from lent latency) ≡ after latency (later before (map (λ level. level from) c.levels))
one_lent c from latency lent before same long = ap (λ (b : List ℕ). at_levels (length c.levels) (after_one c from b latency)) same ∙ one_after c from latency before long

pub two_lent : (c : Content) (left right latency : ℕ) (lent before : List ℕ) → lent ≡ before → length before ≡ length c.levels
    → at_levels (length c.levels) (after_two c left right lent latency)
    ≡ after latency (later (later before (map (λ level. level left) c.levels)) (map (λ level. level right) c.levels))
two_lent c left right latency lent before same long =
    ap (λ (b : List ℕ). at_levels (length c.levels) (after_two c left right b latency)) same ∙ two_after c left right latency before long
