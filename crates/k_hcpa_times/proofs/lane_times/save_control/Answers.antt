use Rattle.std.proofs.Common.{◌≡◌, ◌≤◌, ℕ, [], ◌∷◌, ◌++◌, length, take, ap, sym, ◌∙◌, arith}
use Rattle.k_shadow.specs.Content.{at_levels}
use Rattle.k_hcpa_times.specs.Lanes.{Laid}
use Rattle.k_hcpa_times.proofs.InLanes.{take_levels}
use Rattle.k_hcpa_times.proofs.lane_times.save_control.Goals as goal

pub returns-clause-saved : goal.returns-clause-saved
returns-clause-saved g c =
    let lanes = g.V.TimeLanes.count in
    let control : ℕ → ℕ = g.V.TimeLanes.time c.lanes.inside.control in
    let old = c.args.control.now in
    let count = length old.current in
    let was : lanes ≡ c.args.lanes.now.lanes = ap (λ (l : Laid). l.lanes) c.lanes.view_is in
    let few : count ≤ lanes = omega (arith, was, c.requires.shallow) in
    let same : at_levels count control ≡ take count c.args.lanes.now.control = sym (take_levels count lanes control few) ∙ ap (λ (l : Laid). take count l.control) c.lanes.view_is in
    c.save_lanes.ensures.saved ∙ ap (λ ts. old.saved ++ ts ∷ []) same
