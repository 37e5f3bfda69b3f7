use Rattle.std.proofs.Common.{◌∙◌, length, refl, arith}
use Rattle.std.specs.Prelude.{slice_index}
use Rattle.k_shadow.proofs.Contents.{depth_counted, content-written}
use Rattle.k_shadow.proofs.Rows.{IsWritten}
use Rattle.k_shadow_rows.specs.Rows.{row_in, greatest}
use Rattle.k_sreg.proofs.Written.{within-room}
use Rattle.k_sreg.proofs.shadow_regs.ShadowRegsShadow.put.Goals as goal

pub put-requires-clause-row : goal.put-requires-clause-row
put-requires-clause-row c =
    let s = c.args.self.now in
    (omega (arith, c.requires.room.there.0.0), omega (arith, c.requires.room.there.0.1, c.requires.each, depth_counted (row_in s.rows) s.versions 2097152))

pub put-requires-clause-within : goal.put-requires-clause-within
put-requires-clause-within c =
    let s = c.args.self.now in
    let times = c.args.times.now in
    let room = c.requires.room in
    within-room (row_in s.rows) s.versions (length times) room.most (greatest s.rows) (slice_index times) (slice_index times) c.requires.each room.there.1 room.within (λ k lt. refl)

pub returns-clause-content : goal.returns-clause-content
returns-clause-content c =
    let s = c.args.self.now in
    let rows = row_in s.rows in
    let new = row_in c.put.new.self in
    let is = c.put.ensures.given in
    let w : IsWritten rows new c.args.loc s.versions.given c.args.times.now = record { stamp = is.stamped ∙ c.last_given-stamp.ensures.last; each = is.given; rest = is.others } in
    content-written rows new s.versions 2097152 c.args.loc c.args.times.now w c.last_given-stamp.ensures.given c.requires.each
