use Rattle.std.proofs.Common.{◌≡◌, ◌<◌, ◌%◌, ◌^◌, length, sym, ap, ◌∙◌, arith}
use Rattle.std.proofs.lemmas.List.{get_or_default}
use Rattle.std.specs.Prelude.{slice_index, nat_le, if◌then◌else◌}
use Rattle.k_shadow.specs.Rows.{Seen, blank_row, seen, row_at, row_time, times_of}
use Rattle.k_shadow.proofs.Levels.{is-at_levels}
use Rattle.k_shadow.proofs.Places.{length-with_places}
use Rattle.k_shadow.proofs.Rows.{cut_time, time_from_row}
use Rattle.k_shadow.proofs.saved_rows.read_lanes.Goals as goal

pub returns : goal.returns
returns g c =
    let time = g.V.TimeLanes.time in
    let live = c.args.versions.now.live in
    let read = c.index-row.result.now in
    let row : Seen = row_at c.args.rows.now.items c.args.at in
    let within : c.args.at < length c.args.rows.now.items = omega (arith, c.requires.within) in
    let same : seen {levels = 32} read ≡ row = ap (seen {levels = 32}) (c.index-row.ensures ∙ get_or_default c.args.rows.now.items c.args.at read (blank_row 32) within) in
    is-at_levels (length live) (time c.begun.result) (times_of row live) (length-with_places (row_time row) 0 live)
    (λ k lt.
    let inside : k < g.V.TimeLanes.count = omega (arith, lt, c.requires.shallow) in
    let start : slice_index c.starts.result.now k ≡ slice_index live k = c.starts.ensures.starts c.requires.few k lt in
    time_from_row row live k lt ∙ sym (c.begun.ensures.times k inside
    ∙ ap (λ n. if nat_le n read.stamp then slice_index read.times k % 2 ^ 32 else 0) start
    ∙ ap (λ (r : Seen). if nat_le (slice_index live k) r.stamp then r.time k % 2 ^ 32 else 0) same
    ∙ cut_time row (slice_index live k) k (c.requires.small k lt)))
