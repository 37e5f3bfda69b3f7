-- Levels that were given times, range behind range.
use Rattle.std.proofs.Common.{◌≡◌, ℕ, ◌+◌, ◌%◌, ◌^◌, ◌<◌, ◌≤◌, List, length, max, get_or, true, false, nat_le, refl, ap, sym, ◌∙◌, arith, ⊎_elim, lit≤}
use Rattle.std.proofs.lemmas.Bool.{cases_lt}
use Rattle.std.proofs.lemmas.Bool.Decides.{nat_tests}
use Rattle.k_shadow.specs.Content.{after_none, time_after}
use Rattle.k_shadow.specs.Numbers.{AreRising}
use Rattle.k_shadow.specs.Rows.{Seen, row_time}
use Rattle.k_shadow.proofs.Rows.{above_low, rising_to, row_time_since, row_time_later}
use Rattle.k_shadow_rows.specs.Given.{AreGiven, IsLive, after_row, after_rows, after_live_row, after_live_rows}
use Rattle.k_shadow_rows.specs.Rows.{greatest}
use Rattle.k_shadow_rows.specs.declared.rows.Rows.{Rows}
use Rattle.k_shadow_rows.specs.declared.rows.Rows.TheVariants.{NarrowEight, NarrowThirtyTwo, Eight, ThirtyTwo}

-- no level
pub given-none : (f : ℕ → ℕ) (to low : ℕ) (rows : ℕ → Seen) (paths : List ℕ) → AreGiven f to low low rows rows paths paths
given-none f to low rows paths = record {
  stamps = λ at. refl;
  others = λ at ne. refl;
  given = λ k le lt. absurd (omega arith);
  before = λ at k lt. refl;
  behind = λ at k le. refl;
  raised_to = λ k le lt. absurd (omega arith);
  paths_before = λ k lt. refl;
  paths_behind = λ k le. refl;
}

-- the levels of one range, and those of the next
pub given-more : (f g : ℕ → ℕ) (to low mid high : ℕ) (first next last : ℕ → Seen) (paths between raised : List ℕ) → low ≤ mid → mid ≤ high → AreGiven f to low mid first next paths between → AreGiven g to mid high next last between raised → ((k : ℕ) → mid ≤ k → k < high → g k ≡ f k) → AreGiven f to low high first last paths raised
given-more f g to low mid high first next last paths between raised le more a b same = record {
  stamps = λ at. b.stamps at ∙ a.stamps at;
  others = λ at ne. b.others at ne ∙ a.others at ne;
  given = λ k low_k lt. ⊎_elim
      (λ (in_first : k < mid). b.before to k in_first ∙ a.given k low_k in_first)
      (λ (in_next : mid ≤ k). b.given k in_next lt ∙ same k in_next lt)
      (cases_lt k mid);
  before = λ at k lt. b.before at k (omega arith) ∙ a.before at k lt;
  behind = λ at k high_k. b.behind at k high_k ∙ a.behind at k (omega arith);
  raised_to = λ k low_k lt. ⊎_elim
      (λ (in_first : k < mid). b.paths_before k in_first ∙ a.raised_to k low_k in_first)
      (λ (in_next : mid ≤ k). b.raised_to k in_next lt ∙ (λ i. max (a.paths_behind k in_next i) (same k in_next lt i)))
      (cases_lt k mid);
  paths_before = λ k lt. b.paths_before k (omega arith) ∙ a.paths_before k lt;
  paths_behind = λ k high_k. b.paths_behind k high_k ∙ a.paths_behind k (omega arith);
}

-- the same times by another word
pub given-as : (f g : ℕ → ℕ) (to low high : ℕ) (old new : ℕ → Seen) (paths raised : List ℕ) → AreGiven f to low high old new paths raised → ((k : ℕ) → low ≤ k → k < high → f k ≡ g k) → AreGiven g to low high old new paths raised
given-as f g to low high old new paths raised a same = record {
  stamps = a.stamps;
  others = a.others;
  given = λ k le lt. a.given k le lt ∙ same k le lt;
  before = a.before;
  behind = a.behind;
  raised_to = λ k le lt. a.raised_to k le lt ∙ ap (λ t. max (get_or paths k 0) t) (same k le lt);
  paths_before = a.paths_before;
  paths_behind = a.paths_behind;
}

at_most : (n stamp : ℕ) → nat_le n stamp ≡ true → n ≤ stamp
at_most n stamp h = grind (arith, nat_tests)

not_at_most : (n stamp : ℕ) → nat_le n stamp ≡ false → stamp < n
not_at_most n stamp h = grind (arith, nat_tests)

no_left : (a b latency : ℕ) → time_after 0 a b latency ≡ (max a b + latency) % 2 ^ 64
no_left a b latency = let e : max (max 0 a) b ≡ max a b = omega arith in ap (λ t. (t + latency) % 2 ^ 64) e

none_left : (b latency : ℕ) → (max 0 b + latency) % 2 ^ 64 ≡ (b + latency) % 2 ^ 64
none_left b latency = let e : max 0 b ≡ b = omega arith in ap (λ t. (t + latency) % 2 ^ 64) e

-- the order of two operands makes no difference
pub either_order : (a b c latency : ℕ) → time_after a b c latency ≡ time_after b a c latency
either_order a b c latency = let e : max (max a b) c ≡ max (max b a) c = omega arith in ap (λ t. (t + latency) % 2 ^ 64) e

-- the range at which a row is live, and the range behind it
pub one_and_none : (from : Seen) (numbers before : List ℕ) (latency to low live depth : ℕ) (first next last : ℕ → Seen) (paths between raised : List ℕ) → low ≤ live → live ≤ depth → depth ≡ length numbers → IsLive from numbers live → AreGiven (after_live_row from before latency) to low live first next paths between → AreGiven (after_none before latency) to live depth next last between raised
    → AreGiven (after_row from numbers before latency) to low depth first last paths raised
one_and_none from numbers before latency to low live depth first next last paths between raised le more same is a b =
    given-more (after_row from numbers before latency) (after_none before latency) to low live depth first next last paths between raised le more
    (given-as (after_live_row from before latency) (after_row from numbers before latency) to low live first next paths between a (λ k low_k lt. ap (λ t. (max t (get_or before k 0) + latency) % 2 ^ 64) (sym (is.inside k lt))))
    b
    (λ k le_k lt. sym (ap (λ t. (max t (get_or before k 0) + latency) % 2 ^ 64) (is.outside k le_k (omega arith)) ∙ none_left (get_or before k 0) latency))

-- the range at which two rows are live, and behind it that of the longer one and of none
pub both_and_one : (shorter longer : Seen) (numbers before : List ℕ) (latency to low high depth : ℕ) (first next last : ℕ → Seen) (paths between raised : List ℕ) → low ≤ high → low ≤ depth → depth ≡ length numbers → IsLive shorter numbers low → IsLive longer numbers high → AreGiven (after_live_rows shorter longer before latency) to 0 low first next paths between → AreGiven (after_row longer numbers before latency) to low depth next last between raised
    → AreGiven (after_rows shorter longer numbers before latency) to 0 depth first last paths raised
both_and_one shorter longer numbers before latency to low high depth first next last paths between raised le more same short long a b =
    given-more (after_rows shorter longer numbers before latency) (after_row longer numbers before latency) to 0 low depth first next last paths between raised (omega arith) more
    (given-as (after_live_rows shorter longer before latency) (after_rows shorter longer numbers before latency) to 0 low first next paths between a (λ k low_k lt i. time_after (sym (short.inside k lt) i) (sym (long.inside k (omega arith)) i) (get_or before k 0) latency))
    b
    (λ k le_k lt. sym (ap (λ t. time_after t (row_time longer (get_or numbers k 0) k) (get_or before k 0) latency) (short.outside k le_k (omega arith)) ∙ no_left (row_time longer (get_or numbers k 0) k) (get_or before k 0) latency))

-- the longer row as it stands behind the first range
pub longer_same : (longer to low high : ℕ) (f : ℕ → ℕ) (first next last : ℕ → Seen) (before : List ℕ) (latency : ℕ) (paths between raised : List ℕ) → AreGiven f to 0 low first next paths between → AreGiven (after_live_row (next longer) before latency) to low high next last between raised → AreGiven (after_live_row (first longer) before latency) to low high next last between raised
longer_same longer to low high f first next last before latency paths between raised a b =
    given-as (after_live_row (next longer) before latency) (after_live_row (first longer) before latency) to low high next last between raised b (λ k low_k lt. ap (λ t. (max t (get_or before k 0) + latency) % 2 ^ 64) (a.behind longer k low_k))

-- what is live at a level was written, since the first number is 1
pub some_stamp : (ns : List ℕ) (stamp level : ℕ) → AreRising 0 ns → level < length ns → nat_le (get_or ns level 0) stamp ≡ true → 0 < stamp
some_stamp ns stamp level rising lt h =
    let low : 0 < get_or ns level 0 = above_low 0 ns rising level lt in
    let most : get_or ns level 0 ≤ stamp = at_most (get_or ns level 0) stamp h in
    omega arith

-- what is gone at a level is gone at each inner one
pub gone_behind : (ns : List ℕ) (stamp level : ℕ) → AreRising 0 ns → nat_le (get_or ns level 0) stamp ≡ false → (k : ℕ) → level ≤ k → k < length ns → stamp < get_or ns k 0
gone_behind ns stamp level rising h k le lt =
    let up : get_or ns level 0 ≤ get_or ns k 0 = rising_to 0 ns rising level k le lt in
    let above : stamp < get_or ns level 0 = not_at_most (get_or ns level 0) stamp h in
    omega arith

-- a row is live where its stamp is no less than the level's number
pub live-by_stamp : (row : Seen) (numbers : List ℕ) (live : ℕ) → ((k : ℕ) → k < live → get_or numbers k 0 ≤ row.stamp) → ((k : ℕ) → live ≤ k → k < length numbers → row.stamp < get_or numbers k 0) → IsLive row numbers live
live-by_stamp row numbers live inside outside = record {
  inside = λ k lt. row_time_since row (get_or numbers k 0) k (inside k lt);
  outside = λ k le lt. row_time_later row (get_or numbers k 0) k (outside k le lt);
}

-- rows of each kind have times of 32 bits at least
pub narrow_great : (rows : Rows) → 4294967295 ≤ greatest rows
narrow_great (NarrowEight rows) = lit≤ tt
narrow_great (NarrowThirtyTwo rows) = lit≤ tt
narrow_great (Eight rows) = lit≤ tt
narrow_great (ThirtyTwo rows) = lit≤ tt
