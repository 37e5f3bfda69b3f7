use Rattle.std.proofs.Common.{◌≡◌, ◌<◌, ◌≤◌, ◌-◌, ◌^◌, ℕ, List, [], length, sym, subst, ap, ◌∙◌, arith, rules, vec_len}
use Rattle.std.specs.Prelude.{slice_index, slice_index_or}
use Rattle.k_shadow.specs.Content.{at_levels}
use Rattle.k_shadow.specs.Rows.{row_at, row_time, times_of}
use Rattle.k_shadow.proofs.Entries.{levels_counted, newest_saved, saved_counted}
use Rattle.k_shadow.proofs.Rows.{row_at_stamp, time_from_row}
use Rattle.k_shadow.proofs.control.Control.saved_lanes.Goals as goal

pub read_lanes-requires-clause-shallow : goal.read_lanes-requires-clause-shallow
read_lanes-requires-clause-shallow g c =
    let s = c.self.inside in
    let within : length s.versions.live ≤ length s.current = omega (arith, c.self.invariant.0, c.self.invariant.5) in
    let same : length s.versions.live ≡ length c.args.self.now.current = levels_counted s.current s.versions.live c.args.self.now within (ap (λ x. x.current) c.self.view_is) in
    omega (arith, same, c.requires.shallow)

pub read_lanes-requires-clause-stamp : goal.read_lanes-requires-clause-stamp
read_lanes-requires-clause-stamp g c =
    let s = c.self.inside in
    row_at_stamp s.versions.given s.rows.items c.self.invariant.1 (s.count - 1)

pub read_lanes-requires-clause-small : goal.read_lanes-requires-clause-small
read_lanes-requires-clause-small g c k lt =
    let s = c.self.inside in
    let live = s.versions.live in
    let saved = c.args.self.now.saved in
    let row = row_at s.rows.items (s.count - 1) in
    let within : length live ≤ length s.current = omega (arith, c.self.invariant.0, c.self.invariant.5) in
    let same : length live ≡ length c.args.self.now.current = levels_counted s.current live c.args.self.now within (ap (λ x. x.current) c.self.view_is) in
    let counted : vec_len s.rows ≡ length s.rows.items = search rules in
    let few : s.count ≤ length s.rows.items = omega (arith, counted, c.self.invariant.3) in
    let as_many : length saved ≡ s.count = sym (ap (λ x. length x.saved) c.self.view_is) ∙ saved_counted s.rows.items live s.count few in
    let some : 0 < s.count = omega (arith, as_many, c.requires.some) in
    let newest : slice_index_or saved (length saved - 1) [] ≡ times_of row live = newest_saved s.rows.items live s.count saved some few (ap (λ x. x.saved) c.self.view_is) in
    let small : slice_index (times_of row live) k < 2 ^ 32 = subst (λ (ts : List ℕ). slice_index ts k < 2 ^ 32) newest (c.requires.small k (omega (arith, same, lt))) in
    let here : slice_index (times_of row live) k ≡ row_time row (slice_index live k) k = time_from_row row live k lt in
    omega (arith, small, here)

pub returns : goal.returns
returns g c =
    let s = c.self.inside in
    let live = s.versions.live in
    let saved = c.args.self.now.saved in
    let time : ℕ → ℕ = g.V.TimeLanes.time c.read_lanes.result in
    let within : length live ≤ length s.current = omega (arith, c.self.invariant.0, c.self.invariant.5) in
    let same : length live ≡ length c.args.self.now.current = levels_counted s.current live c.args.self.now within (ap (λ x. x.current) c.self.view_is) in
    let counted : vec_len s.rows ≡ length s.rows.items = search rules in
    let few : s.count ≤ length s.rows.items = omega (arith, counted, c.self.invariant.3) in
    let as_many : length saved ≡ s.count = sym (ap (λ x. length x.saved) c.self.view_is) ∙ saved_counted s.rows.items live s.count few in
    let some : 0 < s.count = omega (arith, as_many, c.requires.some) in
    let newest : slice_index_or saved (length saved - 1) [] ≡ times_of (row_at s.rows.items (s.count - 1)) live = newest_saved s.rows.items live s.count saved some few (ap (λ x. x.saved) c.self.view_is) in
    record { times = ap (λ n. at_levels n time) (sym same) ∙ sym c.read_lanes.ensures ∙ sym newest }
