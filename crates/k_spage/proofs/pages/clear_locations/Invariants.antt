use Rattle.std.proofs.Common.{◌≡◌, ℕ, ◌/◌, ◌<◌, ◌≤◌}
use Rattle.k_spage.specs.Pages.{paged_row, paged_width, paged_greatest, ArePages}
use Rattle.k_spage.proofs.pages.clear_locations.Given as goal

-- the rows of the locations in the pages so far have the stamp 0, the others are as before, and no page can have less than before
abbrev pub invariant-loop-page : goal.invariant-loop-page
invariant-loop-page l = record {
  pages : ArePages l.pages.slots l.table;
  wider : (p : ℕ) → paged_width l.initial.pages.slots l.table p ≤ paged_width l.pages.slots l.table p;
  greater : (p : ℕ) → paged_greatest l.initial.pages.slots l.table p ≤ paged_greatest l.pages.slots l.table p;
  among : (at : ℕ) → l.first ≤ at → at < l.end → at / 256 < l.page → (paged_row l.pages.slots l.table at).stamp ≡ 0;
  before : (at : ℕ) → at < l.first → paged_row l.pages.slots l.table at ≡ paged_row l.initial.pages.slots l.table at;
  behind : (at : ℕ) → l.end ≤ at → paged_row l.pages.slots l.table at ≡ paged_row l.initial.pages.slots l.table at;
}
