use Rattle.std.proofs.Common.{◌≡◌, ◌+◌, ◌≤◌, ℕ, Bool, List, [], ◌∷◌, map, refl, ap, sym, subst, ◌∙◌, arith}
use Rattle.std.specs.Prelude.{if◌then◌else◌}
use Rattle.k_code.specs.declared.instruction.Arg.{Arg}
use Rattle.k_shadow.specs.Content.{Content, at_levels, depth}
use Rattle.k_hcpa_meaning.specs.Timings.{later}
use Rattle.k_hcpa_times.specs.Lanes.{AreHanded}
use Rattle.k_hcpa_times.proofs.InLanes.{lanes_latest}
use Rattle.k_hcpa_times.proofs.LanesHanded.{lanes_read, register_handed}
use Rattle.k_hcpa_times.proofs.lane_times.hand_lanes.Goals as goal

pub returns-then-broken-clause-handed : goal.returns-then-broken-clause-handed
returns-then-broken-clause-handed g c =
    let old : Content = g.S.Shadow.content c.args.registers.now in
    let new : Content = g.S.Shadow.content c.put_lanes.new.self in
    let time = g.V.TimeLanes.time in
    let count = depth old in
    let first = c.args.first in
    let broken = c.in-Reg.broken in
    let before : ℕ → ℕ = time c.args.waits in
    let times : ℕ → ℕ = time c.raise_lanes-times.result in
    let none : ℕ → ℕ = time c.of.result in
    let few : count ≤ g.V.TimeLanes.count = c.requires.holds.shallow in
    let reads : at_levels count times ≡ map (λ level. level (first + c.in-Reg.register)) old.levels
    = lanes_read count (first + c.in-Reg.register) times none old.levels refl (λ k lt. c.of.ensures k (omega arith)) c.raise_lanes-times.ensures.raised in
    let by : Bool → List ℕ = λ (b : Bool). if b then at_levels count before else later (at_levels count before) (at_levels count times) in
    subst (λ (a : Arg). AreHanded first c.args.to 1 (a ∷ []) old before new before) (sym c.in-Reg.is)
    (register_handed first c.args.to c.in-Reg.register broken old new before times before c.put_lanes.ensures.content reads
    (sym (ap by c.if-broken.true)))

pub returns-else-broken-clause-handed : goal.returns-else-broken-clause-handed
returns-else-broken-clause-handed g c =
    let old : Content = g.S.Shadow.content c.args.registers.now in
    let new : Content = g.S.Shadow.content c.put_lanes.new.self in
    let time = g.V.TimeLanes.time in
    let count = depth old in
    let first = c.args.first in
    let broken = c.in-Reg.broken in
    let before : ℕ → ℕ = time c.args.waits in
    let times : ℕ → ℕ = time c.raise_lanes-times.result in
    let none : ℕ → ℕ = time c.of.result in
    let few : count ≤ g.V.TimeLanes.count = c.requires.holds.shallow in
    let reads : at_levels count times ≡ map (λ level. level (first + c.in-Reg.register)) old.levels
    = lanes_read count (first + c.in-Reg.register) times none old.levels refl (λ k lt. c.of.ensures k (omega arith)) c.raise_lanes-times.ensures.raised in
    let by : Bool → List ℕ = λ (b : Bool). if b then at_levels count before else later (at_levels count before) (at_levels count times) in
    subst (λ (a : Arg). AreHanded first c.args.to 1 (a ∷ []) old before new (time c.later.result)) (sym c.in-Reg.is)
    (register_handed first c.args.to c.in-Reg.register broken old new before times (time c.later.result) c.put_lanes.ensures.content reads
    (lanes_latest count g.V.TimeLanes.count (time c.later.result) before times few c.later.ensures ∙ sym (ap by c.if-broken.false)))
