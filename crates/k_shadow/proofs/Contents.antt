-- What the calls of a shadow whose locations have rows make of its content.
use Rattle.std.proofs.Common.{◌≡◌, ℕ, ◌+◌, ◌<◌, ◌≤◌, ◌≢◌, ◌^◌, List, length, max, refl, ap, sym, ◌∙◌, arith}
use Rattle.std.specs.Prelude.{slice_index}
use Rattle.k_shadow.specs.Content.{depth, time_at, at_levels, entered, level_dropped, written, written_by, cleared}
use Rattle.k_shadow.specs.Numbers.{Numbers, number_given, number_left, WereGiven}
use Rattle.k_shadow.specs.Rows.{Seen, row_time, content_of}
use Rattle.k_shadow.proofs.Levels.{length-at_levels, get_or-at_levels}
use Rattle.k_shadow.proofs.Places.{length-with_places}
use Rattle.k_shadow.proofs.Rows.{time_from_rows, levels-entered, levels-left, IsWritten, levels-written, IsCleared, levels-cleared, levels-set, row_time_since, given_at}

-- how many levels are live
pub depth_counted : (rows : ℕ → Seen) (v : Numbers) (limit : ℕ) → depth (content_of rows v limit) ≡ length v.live
depth_counted rows v limit = length-with_places (λ n j at. row_time (rows at) n j) 0 v.live

-- the time of a location at a live level is that of its row
pub time_at_row : (rows : ℕ → Seen) (v : Numbers) (limit level loc : ℕ) → level < length v.live → time_at (content_of rows v limit) level loc ≡ row_time (rows loc) (slice_index v.live level) level
time_at_row rows v limit level loc h = time_from_rows rows v.live level loc h

pub content-entered : (rows : ℕ → Seen) (v : Numbers) (limit : ℕ) → ((loc : ℕ) → (rows loc).stamp ≤ v.given) → content_of rows (number_given v) limit ≡ entered (content_of rows v limit)
content-entered rows v limit h = λ i. record { levels = levels-entered rows v.live v.given h i; entries = v.given + 1; limit = limit }

pub content-left : (rows : ℕ → Seen) (v : Numbers) (limit : ℕ) → content_of rows (number_left v) limit ≡ level_dropped (content_of rows v limit)
content-left rows v limit = λ i. record { levels = levels-left rows v.live i; entries = v.given; limit = limit }

pub content-written : (rows others : ℕ → Seen) (v : Numbers) (limit loc : ℕ) (times : List ℕ) → IsWritten rows others loc v.given times → WereGiven v.given v.live → length times ≡ depth (content_of rows v limit) → content_of others v limit ≡ written loc times (content_of rows v limit)
content-written rows others v limit loc times w given same = λ i. record { levels = levels-written rows others loc v.given times v.live w given (same ∙ depth_counted rows v limit) i; entries = v.given; limit = limit }

pub content-cleared : (rows others : ℕ → Seen) (v : Numbers) (limit first count : ℕ) → IsCleared rows others first count → WereGiven v.given v.live → content_of others v limit ≡ cleared first count (content_of rows v limit)
content-cleared rows others v limit first count h given = λ i. record { levels = levels-cleared rows others first count v.given v.live h given i; entries = v.given; limit = limit }

-- the time of a location's row at a live level
pub time_here : (rows : ℕ → Seen) (v : Numbers) (limit loc : ℕ) (row : Seen) (numbers : List ℕ) → row ≡ rows loc → numbers ≡ v.live → (level : ℕ) → level < depth (content_of rows v limit) → row_time row (slice_index numbers level) level ≡ time_at (content_of rows v limit) level loc
time_here rows v limit loc row numbers here same level h =
    let live : level < length v.live = omega (arith, depth_counted rows v limit) in
    (λ i. row_time (here i) (slice_index (same i) level) level) ∙ sym (time_at_row rows v limit level loc live)

-- times that come of a row's come of its location's
pub by_location : (F : ℕ → ℕ → ℕ) (rows : ℕ → Seen) (v : Numbers) (limit loc : ℕ) (row : Seen) (numbers new : List ℕ) → row ≡ rows loc → numbers ≡ v.live → ((k : ℕ) → k < length numbers → slice_index new k ≡ F k (row_time row (slice_index numbers k) k))
    → (level : ℕ) → level < depth (content_of rows v limit) → slice_index new level ≡ F level (time_at (content_of rows v limit) level loc)
by_location F rows v limit loc row numbers new here same each level h =
    let inside : level < length numbers = omega (arith, depth_counted rows v limit, ap (λ ns. length ns) same) in
    each level inside ∙ ap (λ t. F level t) (time_here rows v limit loc row numbers here same level h)

-- a location whose row has these times at all live levels
pub content-set : (rows others : ℕ → Seen) (v : Numbers) (limit loc : ℕ) (f : ℕ → ℕ) → ((at : ℕ) → at ≢ loc → others at ≡ rows at) → ((k : ℕ) → k < length v.live → row_time (others loc) (slice_index v.live k) k ≡ f k) → content_of others v limit ≡ written_by loc f (content_of rows v limit)
content-set rows others v limit loc f rest each =
    let n = depth (content_of rows v limit) in
    let counted : n ≡ length v.live = depth_counted rows v limit in
    let times = at_levels n f in
    λ i. record { levels = levels-set rows others loc times v.live rest (λ k lt. each k lt ∙ sym (get_or-at_levels n f k (omega (arith, counted)))) (length-at_levels n f ∙ counted) i; entries = v.given; limit = limit }

-- a location that got another's row
pub content-passed : (rows others : ℕ → Seen) (v : Numbers) (limit from to : ℕ) → ((at : ℕ) → at ≢ to → others at ≡ rows at) → others to ≡ rows from → content_of others v limit ≡ written_by to (λ level. time_at (content_of rows v limit) level from) (content_of rows v limit)
content-passed rows others v limit from to rest here =
    content-set rows others v limit to (λ level. time_at (content_of rows v limit) level from) rest (λ k lt. ap (λ r. row_time r (slice_index v.live k) k) here ∙ sym (time_at_row rows v limit k from lt))

-- a location that was given these times and the last number's stamp
pub content-stamped : (rows others : ℕ → Seen) (v : Numbers) (limit loc : ℕ) (f : ℕ → ℕ) → WereGiven v.given v.live → ((at : ℕ) → at ≢ loc → others at ≡ rows at) → (others loc).stamp ≡ v.given → ((k : ℕ) → k < length v.live → (others loc).time k ≡ f k) → content_of others v limit ≡ written_by loc f (content_of rows v limit)
content-stamped rows others v limit loc f given rest stamp each =
    content-set rows others v limit loc f rest (λ k lt. row_time_since (others loc) (slice_index v.live k) k (let most : slice_index v.live k ≤ v.given = given_at v.given v.live given k lt in omega (arith, stamp)) ∙ each k lt)

-- lanes that come of a row's times at the outermost levels come of its location's times
pub lanes_here : (n : ℕ) (rows : ℕ → Seen) (v : Numbers) (limit loc : ℕ) (row : Seen) (starts : List ℕ) (before new : ℕ → ℕ) → row ≡ rows loc → v.given < 2 ^ 32 → depth (content_of rows v limit) ≤ n
    → (v.given < 2 ^ 32 → (k : ℕ) → k < length v.live → slice_index starts k ≡ slice_index v.live k)
    → ((k : ℕ) → k < n → row_time row (slice_index starts k) k < 2 ^ 32 → new k ≡ max (before k) (row_time row (slice_index starts k) k))
    → ((level : ℕ) → level < depth (content_of rows v limit) → time_at (content_of rows v limit) level loc < 2 ^ 32)
    → (level : ℕ) → level < depth (content_of rows v limit) → new level ≡ max (before level) (time_at (content_of rows v limit) level loc)
lanes_here n rows v limit loc row starts before new here few shallow same each small level h =
    let live : level < length v.live = omega (arith, depth_counted rows v limit) in
    let inside : level < n = omega arith in
    let number : slice_index starts level ≡ slice_index v.live level = same few level live in
    let time : row_time row (slice_index starts level) level ≡ time_at (content_of rows v limit) level loc = ap (λ n. row_time row n level) number ∙ time_here rows v limit loc row v.live here refl level h in
    each level inside (omega (arith, time, small level h)) ∙ ap (λ t. max (before level) t) time
