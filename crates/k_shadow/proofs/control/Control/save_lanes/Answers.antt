use Rattle.std.proofs.Common.{◌≡◌, ◌<◌, ◌≤◌, ℕ, [], ◌∷◌, ◌++◌, length, map, true, nat_lt, ap, ◌∙◌, arith, rules, vec_len}
use Rattle.std.proofs.lemmas.Bool.Decides.{nat_tests}
use Rattle.k_shadow.specs.Content.{at_levels}
use Rattle.k_shadow.specs.Rows.{seen, times_of}
use Rattle.k_shadow.proofs.Entries.{levels_counted, saved-next}
use Rattle.k_shadow.proofs.control.Control.save_lanes.Goals as goal

pub returns-clause-saved : goal.returns-clause-saved
returns-clause-saved g c =
    let s = c.self.inside in
    let live = s.versions.live in
    let time : ℕ → ℕ = g.V.TimeLanes.time c.args.times in
    let rows = c.write_lanes.new.rows.items in
    let within : length live ≤ length s.current = omega (arith, c.self.invariant.0) in
    let same : length live ≡ length c.args.self.now.current = levels_counted s.current live c.args.self.now within (ap (λ x. x.current) c.self.view_is) in
    let counted : vec_len c.write_lanes.new.rows ≡ length rows = search rules in
    let tested : nat_lt s.count (vec_len s.rows) ≡ true = ap (λ x. x.room) c.self.view_is ∙ c.requires.room in
    let less : s.count < vec_len s.rows = grind (arith, nat_tests, tested) in
    let inside : s.count < length rows = omega (arith, counted, c.write_lanes.ensures.size, less) in
    saved-next rows live (at_levels (length live) time) s.count inside c.write_lanes.ensures.held
    ∙ (λ i. map (λ r. times_of (seen r) live) (c.write_lanes.ensures.front i) ++ at_levels (same i) time ∷ [])
    ∙ ap (λ x. x.saved ++ at_levels (length c.args.self.now.current) time ∷ []) c.self.view_is
