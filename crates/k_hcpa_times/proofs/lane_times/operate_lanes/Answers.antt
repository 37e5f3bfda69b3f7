use Rattle.std.proofs.Common.{◌≡◌, ◌≤◌, take, sym, subst, ap, ◌∙◌, arith}
use Rattle.k_shadow.specs.Content.{at_levels, depth}
use Rattle.k_hcpa_meaning.specs.Timings.{Timing, begun}
use Rattle.k_hcpa_times.specs.Seen.{NoLevelAbove}
use Rattle.k_hcpa_times.specs.Lanes.{Laid, locations_from}
use Rattle.k_hcpa_times.proofs.InLanes.{none_waits, operated_is, take_levels}
use Rattle.k_hcpa_times.proofs.Within.{none_same}
use Rattle.k_hcpa_times.proofs.lane_times.operate_lanes.Goals as goal

pub returns-clause-operated : goal.returns-clause-operated
returns-clause-operated g c t held waits paths =
    let from = c.args.from in
    let may = c.requires.may in
    let count = depth (g.S.Shadow.content c.args.registers.now) in
    let lanes = g.V.TimeLanes.count in
    let control = g.V.TimeLanes.time c.lanes.inside.control in
    let was : lanes ≡ c.args.lanes.now.lanes = ap (λ (l : Laid). l.lanes) c.lanes.view_is in
    let few : count ≤ lanes = omega (arith, was, c.requires.holds.shallow) in
    let here : t.control ≡ at_levels count control = waits ∙ sym (ap (λ (l : Laid). take count l.control) c.lanes.view_is) ∙ take_levels count lanes control few in
    let levels : NoLevelAbove may.reach t.registers = subst (λ ls. NoLevelAbove may.reach ls) (sym held) may.held in
    let begins = c.waited-waits.ensures.waits t held here in
    let up = none_same may.reach _ _ (sym (ap (λ (u : Timing). u.row) begins)) (none_waits may.reach from.sources from.left from.right (begun t) (none_same may.reach _ _ waits may.waits) levels) in
    operated_is (locations_from from) c.args.latency t _ _ _ _ begins (c.settle_lanes.ensures.times count may.reach few up may.fits) paths (c.settle_lanes.ensures.paths count few)
