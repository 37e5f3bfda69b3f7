use Rattle.std.proofs.Common.{length, ◌+◌, ◌∙◌, ap, sym, max, refl}
use Rattle.std.specs.Prelude.{slice_index}
use Rattle.k_shadow.proofs.Contents.{depth_counted, by_location}
use Rattle.k_shadow_rows.specs.Rows.{row_in}
use Rattle.k_sreg.proofs.shadow_regs.ShadowRegsShadow.latest.Goals as goal

pub latest-requires-clause-each : goal.latest-requires-clause-each
latest-requires-clause-each g c =
    let s = c.args.self.now in
    c.requires.each ∙ depth_counted (row_in s.rows) s.versions 2097152 ∙ sym (ap (λ ns. length ns) c.live.ensures.live)

pub latest-requires-clause-times : goal.latest-requires-clause-times
latest-requires-clause-times g c =
    let s = c.args.self.now in
    c.requires.times ∙ depth_counted (row_in s.rows) s.versions 2097152 ∙ sym (ap (λ ns. length ns) c.live.ensures.live)

pub returns-clause-times : goal.returns-clause-times
returns-clause-times g c =
    let s = c.args.self.now in
    let rows = row_in s.rows in
    by_location (λ k t. max t (slice_index c.args.before.now k)) rows s.versions 2097152 c.args.loc (rows c.args.loc) c.live.result.now c.latest.new.times refl c.live.ensures.live c.latest.ensures.times

pub returns-clause-steps : goal.returns-clause-steps
returns-clause-steps g c =
    let s = c.args.self.now in
    c.latest.ensures.steps ∙ ap (λ n. c.args.steps.now + n) (ap (λ ns. length ns) c.live.ensures.live ∙ sym (depth_counted (row_in s.rows) s.versions 2097152))
