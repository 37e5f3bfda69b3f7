-- What the rows that were given times are of the content.
use Rattle.std.proofs.Common.{◌≡◌, ℕ, ◌+◌, ◌%◌, ◌^◌, ◌<◌, ◌≤◌, List, max, get_or, ap, ◌∙◌, refl, arith}
use Rattle.k_shadow.specs.Content.{Content, depth, time_at, time_after, after_one, after_two, written_by}
use Rattle.k_shadow.specs.Numbers.{Numbers, WereGiven}
use Rattle.k_shadow.specs.Rows.{Seen, row_time, content_of}
use Rattle.k_shadow.proofs.Contents.{depth_counted, time_here, content-stamped}
use Rattle.k_shadow_rows.specs.Given.{IsGiven, AreRaised, after_row, after_rows}

-- the content of the registers' rows
abbrev pub content_in : (ℕ → Seen) → Numbers → Content
content_in rows v = content_of rows v 2097152

-- what comes of a location's row comes of its time
pub one_row : (F : ℕ → ℕ → ℕ) (rows : ℕ → Seen) (v : Numbers) (from : ℕ) (numbers : List ℕ) → numbers ≡ v.live → (k : ℕ) → k < depth (content_in rows v) → F k (row_time (rows from) (get_or numbers k 0) k) ≡ F k (time_at (content_in rows v) k from)
one_row F rows v from numbers same k h = ap (λ t. F k t) (time_here rows v 2097152 from (rows from) numbers refl same k h)

pub two_rows : (F : ℕ → ℕ → ℕ → ℕ) (rows : ℕ → Seen) (v : Numbers) (left right : ℕ) (numbers : List ℕ) → numbers ≡ v.live → (k : ℕ) → k < depth (content_in rows v) → F k (row_time (rows left) (get_or numbers k 0) k) (row_time (rows right) (get_or numbers k 0) k) ≡ F k (time_at (content_in rows v) k left) (time_at (content_in rows v) k right)
two_rows F rows v left right numbers same k h =
    let first = time_here rows v 2097152 left (rows left) numbers refl same k h in
    let second = time_here rows v 2097152 right (rows right) numbers refl same k h in
    λ i. F k (first i) (second i)

-- the time of an operation with operands
pub one_operand : (rows : ℕ → Seen) (v : Numbers) (from : ℕ) (numbers before : List ℕ) (latency : ℕ) → numbers ≡ v.live → (k : ℕ) → k < depth (content_in rows v) → after_row (rows from) numbers before latency k ≡ after_one (content_in rows v) from before latency k
one_operand rows v from numbers before latency = one_row (λ k t. (max t (get_or before k 0) + latency) % 2 ^ 64) rows v from numbers

pub two_operands : (rows : ℕ → Seen) (v : Numbers) (left right : ℕ) (numbers before : List ℕ) (latency : ℕ) → numbers ≡ v.live → (k : ℕ) → k < depth (content_in rows v) → after_rows (rows left) (rows right) numbers before latency k ≡ after_two (content_in rows v) left right before latency k
two_operands rows v left right numbers before latency = two_rows (λ k t u. time_after t u (get_or before k 0) latency) rows v left right numbers

-- times for which a location has room are times that its rows can have
pub within-room : (rows : ℕ → Seen) (v : Numbers) (n most top : ℕ) (f g : ℕ → ℕ) → n ≡ depth (content_in rows v) → most ≤ top → ((k : ℕ) → k < depth (content_in rows v) → g k ≤ most) → ((k : ℕ) → k < depth (content_in rows v) → f k ≡ g k) → (k : ℕ) → k < n → f k ≤ top
within-room rows v n most top f g many le each same k lt =
    let live : k < depth (content_in rows v) = omega (arith, many) in
    omega (arith, le, each k live, same k live)

-- the row that was given times
pub content-given : (rows new : ℕ → Seen) (v : Numbers) (to stamp n : ℕ) (f g : ℕ → ℕ) → n ≡ depth (content_in rows v) → stamp ≡ v.given → WereGiven v.given v.live → IsGiven f to stamp n rows new → ((k : ℕ) → k < depth (content_in rows v) → f k ≡ g k) → content_in new v ≡ written_by to g (content_in rows v)
content-given rows new v to stamp n f g many last given is same =
    let counted = depth_counted rows v 2097152 in
    content-stamped rows new v 2097152 to g given is.others (is.stamped ∙ last) (λ k lt. is.given k (omega (arith, counted, many)) ∙ same k (omega (arith, counted)))

-- the paths that were raised
pub paths-given : (rows : ℕ → Seen) (v : Numbers) (n : ℕ) (f g : ℕ → ℕ) (paths raised : List ℕ) → n ≡ depth (content_in rows v) → AreRaised f n paths raised → ((k : ℕ) → k < depth (content_in rows v) → f k ≡ g k) → (k : ℕ) → k < depth (content_in rows v) → get_or raised k 0 ≡ max (get_or paths k 0) (g k)
paths-given rows v n f g paths raised many is same k lt = is k (omega (arith, many)) ∙ ap (λ t. max (get_or paths k 0) t) (same k lt)
