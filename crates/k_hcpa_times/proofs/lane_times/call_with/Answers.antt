use Rattle.std.proofs.Common.{◌≡◌, ◌≤◌, ℕ, take, sym, ap, ◌∙◌, arith}
use Rattle.k_shadow.specs.Content.{Content, at_levels, depth}
use Rattle.k_hcpa_meaning.specs.Calls.{arguments_handed}
use Rattle.k_hcpa_meaning.specs.Timings.{begun}
use Rattle.k_hcpa_times.specs.Seen.{NoneAbove}
use Rattle.k_hcpa_times.specs.Lanes.{AreHanded, Laid}
use Rattle.k_hcpa_times.proofs.InLanes.{take_levels}
use Rattle.k_hcpa_times.proofs.LanesHanded.{levels_within, row_within, settled_is}
use Rattle.k_hcpa_times.proofs.Within.{none_same}
use Rattle.k_hcpa_times.proofs.lane_times.call_with.Goals as goal

pub returns-clause-within : goal.returns-clause-within
returns-clause-within g c reach held =
    let content = g.S.Shadow.content in
    levels_within c.args.first c.args.to c.args.count c.args.args.now (content c.args.registers.now) (content c.hand_all_lanes-waits.new.registers)
    (g.V.TimeLanes.time c.lanes.inside.control) (g.V.TimeLanes.time c.hand_all_lanes-waits.result) c.hand_all_lanes-waits.ensures.handed reach held

pub returns-clause-called : goal.returns-clause-called
returns-clause-called g c t held control paths =
    let may = c.requires.may in
    let old : Content = g.S.Shadow.content c.args.registers.now in
    let new : Content = g.S.Shadow.content c.hand_all_lanes-waits.new.registers in
    let count = depth old in
    let lanes = g.V.TimeLanes.count in
    let before : ℕ → ℕ = g.V.TimeLanes.time c.lanes.inside.control in
    let behind : ℕ → ℕ = g.V.TimeLanes.time c.hand_all_lanes-waits.result in
    let was : lanes ≡ c.args.lanes.now.lanes = ap (λ (l : Laid). l.lanes) c.lanes.view_is in
    let few : count ≤ lanes = omega (arith, was, c.requires.holds.shallow) in
    let told : take count c.args.lanes.now.control ≡ at_levels count before
    = sym (ap (λ (l : Laid). take count l.control) c.lanes.view_is) ∙ take_levels count lanes before few in
    let handed : AreHanded c.args.first c.args.to c.args.count c.args.args.now old before new behind = c.hand_all_lanes-waits.ensures.handed in
    let up : NoneAbove may.reach (at_levels count behind)
    = row_within c.args.first c.args.to c.args.count c.args.args.now old new before behind handed may.reach may.held (none_same may.reach _ _ (sym told) may.waits) in
    settled_is c.args.latency t (arguments_handed c.args.first c.args.to c.args.count c.args.args.now (begun t)) new.levels (at_levels count behind) _ _ _
    (handed.handed (begun t) held (control ∙ told)) (c.settle_lanes.ensures.times count may.reach few up may.fits) paths (c.settle_lanes.ensures.paths count few)
