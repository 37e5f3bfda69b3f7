use Rattle.std.proofs.Common.{◌≡◌, ◌≤◌, ℕ, List, [], ◌∷◌, ◌++◌, take, map, sym, subst, ap, ◌∙◌, arith}
use Rattle.k_shadow.specs.Content.{at_levels, depth}
use Rattle.k_hcpa_meaning.specs.Timings.{Element, Timing, begun, later}
use Rattle.k_hcpa_times.specs.Seen.{NoLevelAbove, NoneAbove}
use Rattle.k_hcpa_times.specs.Lanes.{Laid, locations_from}
use Rattle.k_hcpa_times.proofs.InLanes.{none_waits, operated_is, take_levels, waits_loaded}
use Rattle.k_hcpa_times.proofs.Within.{none_later, none_same, none_there}
use Rattle.k_hcpa_times.proofs.lane_times.load_with.Goals as goal

pub returns-clause-operated : goal.returns-clause-operated
returns-clause-operated g c t held stored waits paths =
    let from = c.args.from in
    let may = c.requires.may in
    let count = depth (g.R.Shadow.content c.args.registers.now) in
    let kept = (g.P.Shadow.content c.args.elements.now).levels in
    let time = g.V.TimeLanes.time in
    let lanes = g.V.TimeLanes.count in
    let control : ℕ → ℕ = time c.lanes.inside.control in
    let first : ℕ → ℕ = time c.waited-waits.result in
    let second : ℕ → ℕ = time c.raise_lanes-waits.result in
    let was : lanes ≡ c.args.lanes.now.lanes = ap (λ (l : Laid). l.lanes) c.lanes.view_is in
    let few : count ≤ lanes = omega (arith, was, c.requires.registers.shallow) in
    let here : t.control ≡ at_levels count control = waits ∙ sym (ap (λ (l : Laid). take count l.control) c.lanes.view_is) ∙ take_levels count lanes control few in
    let at : List (ℕ → ℕ) → List ℕ = λ levels. map (λ level. level c.args.element) levels in
    let levels : NoLevelAbove may.reach t.registers = subst (λ ls. NoLevelAbove may.reach ls) (sym held) may.held in
    let begins = c.waited-waits.ensures.waits t held here in
    let up : NoneAbove may.reach (at_levels count first) = none_same may.reach _ _ (sym (ap (λ (u : Timing). u.row) begins)) (none_waits may.reach from.sources from.left from.right (begun t) (none_same may.reach _ _ waits may.waits) levels) in
    let there : at_levels count second ≡ later (at_levels count first) (at kept)
    = subst (λ (n : ℕ). at_levels n second ≡ later (at_levels n first) (at kept)) c.requires.same c.raise_lanes-waits.ensures.raised in
    let more : NoneAbove may.reach (at_levels count second) = none_same may.reach _ _ there (none_later may.reach (at_levels count first) (at kept) up (none_there may.reach c.args.element kept may.stored)) in
    let loaded = waits_loaded (locations_from from) c.args.element t (at_levels count first) (at_levels count second) begins (there ∙ ap (λ ls. later (at_levels count first) (at ls)) (sym stored)) in
    operated_is (locations_from from ++ Element c.args.element ∷ []) c.args.latency t (at_levels count second) (at_levels count (time c.settle_lanes.result)) _ _ loaded (c.settle_lanes.ensures.times count may.reach few more may.fits) paths (c.settle_lanes.ensures.paths count few)
