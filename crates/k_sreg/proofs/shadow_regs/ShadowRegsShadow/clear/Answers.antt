use Rattle.k_shadow.proofs.Contents.{content-cleared}
use Rattle.k_shadow.proofs.Rows.{IsCleared}
use Rattle.k_shadow_rows.specs.Rows.{row_in}
use Rattle.k_sreg.proofs.shadow_regs.ShadowRegsShadow.clear.Goals as goal

pub returns-then-depth-gt0-clause-content : goal.returns-then-depth-gt0-clause-content
returns-then-depth-gt0-clause-content c =
    let s = c.args.self.now in
    let rows = row_in s.rows in
    let new = row_in c.clear.new.self in
    let e = c.clear.ensures in
    let cleared : IsCleared rows new c.args.first c.args.count = record { among = e.among; before = e.before; behind = e.behind } in
    content-cleared rows new s.versions 2097152 c.args.first c.args.count cleared c.depth.ensures.given
