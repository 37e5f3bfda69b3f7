-- Rows that are seen the same though they are of another kind.
use Rattle.std.proofs.Common.{◌≡◌, ℕ, ◌<◌, ◌≤◌, List, length, ap, sym, ◌∙◌, ⊎_elim, arith}
use Rattle.std.proofs.lemmas.Bool.{cases_lt}
use Rattle.std.proofs.lemmas.List.{get_or_past}
use Rattle.k_shadow.specs.Rows.{Seen, unwritten}
use Rattle.k_shadow_rows.specs.Rows.{rows_at}

-- a location that has no row
unwritten_at : {R : Type 0} (seen : R → Seen) (blank : R) (rows : List R) (loc : ℕ) → seen blank ≡ unwritten → length rows ≤ loc → rows_at seen blank rows loc ≡ unwritten
unwritten_at seen blank rows loc never h = ap seen (get_or_past rows loc blank h) ∙ never

-- all rows, and no row behind them
pub all_widened : {W R : Type 0} (seen_wide : W → Seen) (blank_wide : W) (seen : R → Seen) (blank : R) (wide : List W) (rows : List R) → seen_wide blank_wide ≡ unwritten → seen blank ≡ unwritten → length wide ≡ length rows → ((k : ℕ) → k < length rows → rows_at seen_wide blank_wide wide k ≡ rows_at seen blank rows k)
    → (loc : ℕ) → rows_at seen_wide blank_wide wide loc ≡ rows_at seen blank rows loc
all_widened seen_wide blank_wide seen blank wide rows never_wide never size same loc = ⊎_elim
    (λ (lt : loc < length rows). same loc lt)
    (λ (ge : length rows ≤ loc). unwritten_at seen_wide blank_wide wide loc never_wide (omega arith) ∙ sym (unwritten_at seen blank rows loc never ge))
    (cases_lt loc (length rows))

-- a row is seen the same where its stamp is, and each time
pub seen_same : (wide row : Seen) → wide.stamp ≡ row.stamp → ((k : ℕ) → wide.time k ≡ row.time k) → wide ≡ row
seen_same wide row stamp time = λ i. record { stamp = stamp i; time = λ k. time k i }
