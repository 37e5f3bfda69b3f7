use Rattle.std.proofs.Common.{◌^◌, ◌<◌, List, ℕ, Option, ◌+◌, ◌∙◌, ap, sym, subst, arith}
use Rattle.k_shadow.proofs.Contents.{depth_counted, lanes_here}
use Rattle.k_spage.specs.Pages.{paged_row}
use Rattle.k_spage.proofs.shadow_pages.ShadowPagesShadow.later_lanes.Goals as goal

pub later_lanes-requires-clause-stamp : goal.later_lanes-requires-clause-stamp
later_lanes-requires-clause-stamp g c =
    let s = c.args.self.now in
    let P : List (Option ℕ) → Type 0 = λ table. (paged_row s.pages.slots table c.args.loc).stamp < 2 ^ 32 in
    subst P (sym c.deref.ensures.value) (omega (arith, s.stamped c.args.loc, c.requires.few))

pub later_lanes-requires-clause-shallow : goal.later_lanes-requires-clause-shallow
later_lanes-requires-clause-shallow g c =
    let s = c.args.self.now in
    omega (arith, c.depth-depth.ensures.count, depth_counted (paged_row s.pages.slots s.table.items) s.versions 4194304, c.requires.shallow)

pub returns-clause-times : goal.returns-clause-times
returns-clause-times g c =
    let s = c.args.self.now in
    let here = ap (λ table. paged_row s.pages.slots table c.args.loc) c.deref.ensures.value in
    lanes_here c.depth-depth.result (paged_row s.pages.slots s.table.items) s.versions 4194304 c.args.loc (paged_row s.pages.slots c.deref.result.now c.args.loc) c.starts-starts.result.now (g.V.TimeLanes.time c.args.before) (g.V.TimeLanes.time c.later_lanes.result) here c.requires.few (omega (arith, c.depth-depth.ensures.count, depth_counted (paged_row s.pages.slots s.table.items) s.versions 4194304)) c.starts-starts.ensures.starts c.later_lanes.ensures.times c.requires.small

pub returns-clause-steps : goal.returns-clause-steps
returns-clause-steps g c =
    let s = c.args.self.now in
    c.later_lanes.ensures.steps ∙ ap (λ n. c.args.steps.now + n) (c.depth-depth.ensures.count ∙ sym (depth_counted (paged_row s.pages.slots s.table.items) s.versions 4194304))
