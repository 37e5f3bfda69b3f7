use Rattle.std.proofs.Common.{◌≡◌, ◌<◌, ◌≤◌, ◌%◌, ◌^◌, ℕ, length, take, get_or, refl, sym, ap, ◌∙◌, arith}
use Rattle.std.proofs.lemmas.List.{get_or-take}
use Rattle.k_shadow.proofs.Entries.{levels_counted}
use Rattle.k_shadow.proofs.Levels.{is-at_levels}
use Rattle.k_shadow.proofs.control.Control.lanes.Goals as goal

pub returns : goal.returns
returns g c =
    let s = c.self.inside in
    let live = s.versions.live in
    let current = c.args.self.now.current in
    let lane : ℕ → ℕ = g.V.TimeLanes.time c.cut.result in
    let within : length live ≤ length s.current = omega (arith, c.self.invariant.0, c.self.invariant.5) in
    let is : take (length live) s.current ≡ current = ap (λ x. x.current) c.self.view_is in
    let same : length live ≡ length current = levels_counted s.current live c.args.self.now within is in
    record {
      times = sym (is-at_levels (length current) lane current refl (λ k lt.
          let inside : k < g.V.TimeLanes.count = omega (arith, lt, c.requires.shallow) in
          let here : get_or s.current k 0 ≡ get_or current k 0 = sym (get_or-take (length live) s.current k 0 (omega (arith, same, lt))) ∙ ap (λ ts. get_or ts k 0) is in
          let low : get_or current k 0 < 2 ^ 32 = c.requires.small k lt in
          let cuts : lane k ≡ get_or s.current k 0 % 2 ^ 32 = c.cut.ensures.times k inside in
          omega (arith, here, low, cuts)));
    }
