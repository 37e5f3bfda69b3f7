use Rattle.std.proofs.Common.{ℕ, length, arith, refl}
use Rattle.std.specs.Prelude.{slice_index}
use Rattle.k_shadow.specs.Content.{after_none}
use Rattle.k_shadow.specs.Rooms.{delayed}
use Rattle.k_shadow.proofs.Contents.{depth_counted}
use Rattle.k_shadow_rows.specs.Rows.{row_in, greatest}
use Rattle.k_sreg.proofs.Written.{content-given, within-room}
use Rattle.k_sreg.proofs.shadow_regs.ShadowRegsShadow.write_after.Goals as goal

pub write_none-requires-clause-row : goal.write_none-requires-clause-row
write_none-requires-clause-row c =
    let s = c.args.self.now in
    (c.requires.room.there.0.0, omega (arith, c.requires.room.there.0.1, c.requires.each, depth_counted (row_in s.rows) s.versions 2097152))

pub write_none-requires-clause-within : goal.write_none-requires-clause-within
write_none-requires-clause-within c =
    let s = c.args.self.now in
    let before = c.args.before.now in
    let times : ℕ → ℕ = λ k. delayed (slice_index before k) c.args.latency in
    let room = c.requires.room in
    within-room (row_in s.rows) s.versions (length before) room.most (greatest s.rows) times times c.requires.each room.there.1 room.within (λ k lt. refl)

pub returns-clause-content : goal.returns-clause-content
returns-clause-content c =
    let s = c.args.self.now in
    let before = c.args.before.now in
    let times = after_none before c.args.latency in
    content-given (row_in s.rows) (row_in c.write_none.new.self) s.versions c.args.to c.last_given-stamp.result (length before) times times c.requires.each c.last_given-stamp.ensures.last c.last_given-stamp.ensures.given c.write_none.ensures.given (λ k lt. refl)
