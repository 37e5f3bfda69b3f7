use Rattle.std.proofs.Common.{◌≡◌, ℕ, ◌-◌, ◌/◌, ◌<◌, ◌≤◌}
use Rattle.std.specs.Prelude.{IsSome}
use Rattle.k_spage.specs.Pages.{key_of, paged_row, paged_width, paged_greatest, ArePages, HasRowsFor}
use Rattle.k_spage.proofs.pages.make_pages.Given as goal

-- the pages so far are there and can have such times, no other was made, none can have less than before, and each row is as it was
abbrev pub invariant-loop-page : goal.invariant-loop-page
invariant-loop-page l = record {
  pages : ArePages l.pages.slots l.table.items;
  same : (loc : ℕ) → paged_row l.pages.slots l.table.items loc ≡ paged_row l.initial.pages.slots l.initial.table.items loc;
  kept : (p : ℕ) → IsSome (key_of l.initial.table.items p) → IsSome (key_of l.table.items p);
  wider : (p : ℕ) → paged_width l.initial.pages.slots l.initial.table.items p ≤ paged_width l.pages.slots l.table.items p;
  greater : (p : ℕ) → paged_greatest l.initial.pages.slots l.initial.table.items p ≤ paged_greatest l.pages.slots l.table.items p;
  others : (p : ℕ) → (l.first < l.end → l.first / 256 ≤ p → p ≤ (l.end - 1) / 256 → ⊥) → key_of l.table.items p ≡ key_of l.initial.table.items p;
  made : (p : ℕ) → l.first / 256 ≤ p → p < l.page → HasRowsFor l.pages.slots l.table.items l.depth l.most p;
}
