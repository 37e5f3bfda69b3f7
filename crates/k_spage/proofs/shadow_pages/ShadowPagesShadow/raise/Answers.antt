use Rattle.std.proofs.Common.{length, ◌+◌, ◌∙◌, ap, sym, max}
use Rattle.std.specs.Prelude.{slice_index}
use Rattle.k_spage.specs.Pages.{paged_row}
use Rattle.k_shadow.proofs.Contents.{depth_counted, by_location}
use Rattle.k_spage.proofs.shadow_pages.ShadowPagesShadow.raise.Goals as goal

pub raise-requires-clause-each : goal.raise-requires-clause-each
raise-requires-clause-each g c =
    let s = c.args.self.now in
    c.requires.each ∙ depth_counted (paged_row s.pages.slots s.table.items) s.versions 4194304 ∙ sym (ap (λ ns. length ns) c.live-numbers.ensures.live)

pub returns-clause-raised : goal.returns-clause-raised
returns-clause-raised g c =
    let s = c.args.self.now in
    let here = ap (λ table. paged_row s.pages.slots table c.args.loc) c.deref.ensures.value in
    by_location (λ k t. max (slice_index c.args.times.now k) t) (paged_row s.pages.slots s.table.items) s.versions 4194304 c.args.loc (paged_row s.pages.slots c.deref.result.now c.args.loc) c.live-numbers.result.now c.raise.new.times here c.live-numbers.ensures.live c.raise.ensures.raised

pub returns-clause-steps : goal.returns-clause-steps
returns-clause-steps g c =
    let s = c.args.self.now in
    c.raise.ensures.steps ∙ ap (λ n. c.args.steps.now + n) (ap (λ ns. length ns) c.live-numbers.ensures.live ∙ sym (depth_counted (paged_row s.pages.slots s.table.items) s.versions 4194304))
