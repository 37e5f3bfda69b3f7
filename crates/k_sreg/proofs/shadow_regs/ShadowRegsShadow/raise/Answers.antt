use Rattle.std.proofs.Common.{length, ◌+◌, ◌∙◌, ap, sym, max, refl}
use Rattle.std.specs.Prelude.{slice_index}
use Rattle.k_shadow.proofs.Contents.{depth_counted, by_location}
use Rattle.k_shadow_rows.specs.Rows.{row_in}
use Rattle.k_sreg.proofs.shadow_regs.ShadowRegsShadow.raise.Goals as goal

pub raise-requires-clause-each : goal.raise-requires-clause-each
raise-requires-clause-each g c =
    let s = c.args.self.now in
    c.requires.each ∙ depth_counted (row_in s.rows) s.versions 2097152 ∙ sym (ap (λ ns. length ns) c.live.ensures.live)

pub returns-clause-raised : goal.returns-clause-raised
returns-clause-raised g c =
    let s = c.args.self.now in
    let rows = row_in s.rows in
    by_location (λ k t. max (slice_index c.args.times.now k) t) rows s.versions 2097152 c.args.loc (rows c.args.loc) c.live.result.now c.raise.new.times refl c.live.ensures.live c.raise.ensures.raised

pub returns-clause-steps : goal.returns-clause-steps
returns-clause-steps g c =
    let s = c.args.self.now in
    c.raise.ensures.steps ∙ ap (λ n. c.args.steps.now + n) (ap (λ ns. length ns) c.live.ensures.live ∙ sym (depth_counted (row_in s.rows) s.versions 2097152))
