use Rattle.std.proofs.Common.{◌≡◌, ℕ, ◌+◌, ◌-◌, ◌<◌, ◌≤◌, List, length, take, map, subst, ap, sym, ◌∙◌, arith, rules, vec_len}
use Rattle.std.specs.Prelude.{slice_index}
use Rattle.k_shadow.specs.Rows.{seen, row_at, row_time, times_of}
use Rattle.k_shadow.proofs.Entries.{copied_back, saved_counted, saved-next}
use Rattle.k_shadow.proofs.control.Control.back.Goals as goal

pub invariant_of-self : goal.invariant_of-self
invariant_of-self c =
    let s = c.self.inside in
    let live = s.versions.live in
    let new = c.copy_entry.new.to in
    let P : List ℕ → Type 0 = λ ns. (k : ℕ) → k < length ns → slice_index new k ≡ row_time (row_at s.rows.items (s.count - 1)) (slice_index ns k) k in
    let each = subst P c.live.ensures.live c.copy_entry.ensures in
    let room_for : length live ≤ length new = omega (arith, c.self.invariant.0, c.copy_entry.auto.to) in
    (c.self.invariant.0, c.self.invariant.1, c.self.invariant.2, omega (arith, c.self.invariant.3), λ on. copied_back (row_at s.rows.items (s.count - 1)) live new room_for each, omega (arith, c.copy_entry.auto.to))

pub returns-clause-saved : goal.returns-clause-saved
returns-clause-saved c =
    let s = c.self.inside in
    let live = s.versions.live in
    let row = row_at s.rows.items (s.count - 1) in
    let new = c.copy_entry.new.to in
    let P : List ℕ → Type 0 = λ ns. (k : ℕ) → k < length ns → slice_index new k ≡ row_time row (slice_index ns k) k in
    let each = subst P c.live.ensures.live c.copy_entry.ensures in
    let room_for : length live ≤ length new = omega (arith, c.self.invariant.0, c.copy_entry.auto.to) in
    let counted : vec_len s.rows ≡ length s.rows.items = search rules in
    let few : s.count ≤ length s.rows.items = omega (arith, counted, c.self.invariant.3) in
    let some : length c.args.self.now.saved ≡ s.count = sym (ap (λ x. length x.saved) c.self.view_is) ∙ saved_counted s.rows.items live s.count few in
    let one : s.count ≡ s.count - 1 + 1 = omega (arith, c.requires, some) in
    let within : s.count - 1 < length s.rows.items = omega (arith, few, one) in
    sym (ap (λ x. x.saved) c.self.view_is)
    ∙ ap (λ n. map (λ r. times_of (seen r) live) (take n s.rows.items)) one
    ∙ saved-next s.rows.items live (take (length live) new) (s.count - 1) within (copied_back row live new room_for each)
