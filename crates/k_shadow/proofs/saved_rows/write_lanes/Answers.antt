use Rattle.std.proofs.Common.{◌≡◌, ℕ, ◌<◌, ◌≤◌, length, get_or-set_same, sym, ap, ◌∙◌, arith}
use Rattle.k_shadow.specs.Content.{at_levels}
use Rattle.k_shadow.specs.declared.row.Row.{Row}
use Rattle.k_shadow.specs.Rows.{seen, blank_row, times_of}
use Rattle.k_shadow.proofs.Entries.{stamped-set}
use Rattle.k_shadow.proofs.Levels.{get_or-at_levels, length-at_levels}
use Rattle.k_shadow.proofs.Rows.{times-written}
use Rattle.k_shadow.proofs.saved_rows.write_lanes.Goals as goal

pub returns-clause-held : goal.returns-clause-held
returns-clause-held g c =
    let time : ℕ → ℕ = g.V.TimeLanes.time c.args.times in
    let live = c.args.versions.now.live in
    let n = length live in
    let row : Row 32 = c.write_lanes.new.self in
    let within : c.args.at < length c.args.rows.now.items = omega (arith, c.requires.within) in
    let long : length (at_levels n time) ≡ n = length-at_levels n time in
    ap (λ r. times_of (seen r) live) (get_or-set_same c.args.rows.now.items c.args.at row (blank_row 32) within)
    ∙ times-written (seen row) c.args.versions.now.given (at_levels n time) live (c.write_lanes.ensures.stamp ∙ c.last_given.ensures.last)
    (λ k lt. c.write_lanes.ensures.times k (omega (arith, long, c.requires.shallow)) ∙ sym (get_or-at_levels n time k (omega (arith, long)))) c.last_given.ensures.given long

pub returns-clause-stamped : goal.returns-clause-stamped
returns-clause-stamped g c =
    let row : Row 32 = c.write_lanes.new.self in
    let low : row.stamp ≤ c.args.versions.now.given = omega (arith, c.write_lanes.ensures.stamp, c.last_given.ensures.last) in
    stamped-set c.args.versions.now.given c.args.at row c.args.rows.now.items low
