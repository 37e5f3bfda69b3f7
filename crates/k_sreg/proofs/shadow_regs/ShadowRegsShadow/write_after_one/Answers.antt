use Rattle.std.proofs.Common.{◌≡◌, ℕ, ◌<◌, length, max, ap, ◌∙◌, sym, arith}
use Rattle.std.specs.Prelude.{slice_index}
use Rattle.k_shadow.specs.Content.{depth, time_at, after_one}
use Rattle.k_shadow.specs.Rooms.{delayed}
use Rattle.k_shadow.specs.Rows.{row_time}
use Rattle.k_shadow.proofs.Contents.{depth_counted}
use Rattle.k_shadow_rows.specs.Given.{after_row}
use Rattle.k_shadow_rows.specs.Rows.{row_in, greatest}
use Rattle.k_sreg.proofs.Written.{content_in, content-given, paths-given, one_operand, one_row, within-room}
use Rattle.k_sreg.proofs.shadow_regs.ShadowRegsShadow.write_after_one.Goals as goal

pub write_one-requires-clause-row : goal.write_one-requires-clause-row
write_one-requires-clause-row g c =
    let s = c.args.self.now in
    (c.requires.room.there.0.0, omega (arith, c.requires.room.there.0.1, c.requires.each, depth_counted (row_in s.rows) s.versions 2097152))

pub write_one-requires-clause-within : goal.write_one-requires-clause-within
write_one-requires-clause-within g c =
    let s = c.args.self.now in
    let rows = row_in s.rows in
    let before = c.args.before.now in
    let numbers = c.live.result.now in
    let from = c.args.from in
    let after : ℕ → ℕ → ℕ = λ k time. delayed (max time (slice_index before k)) c.args.latency in
    let room = c.requires.room in
    within-room rows s.versions (length before) room.most (greatest s.rows) (λ k. after k (row_time (rows from) (slice_index numbers k) k)) (λ k. after k (time_at (content_in rows s.versions) k from)) c.requires.each room.there.1 room.within (one_row after rows s.versions from numbers c.live.ensures.live)

pub write_one-requires-clause-live : goal.write_one-requires-clause-live
write_one-requires-clause-live g c =
    let s = c.args.self.now in
    c.requires.each ∙ depth_counted (row_in s.rows) s.versions 2097152 ∙ sym (ap (λ ns. length ns) c.live.ensures.live)

pub returns-clause-content : goal.returns-clause-content
returns-clause-content g c =
    let s = c.args.self.now in
    let rows = row_in s.rows in
    let before = c.args.before.now in
    let f = after_row (rows c.args.from) c.live.result.now before c.args.latency in
    let times = after_one (content_in rows s.versions) c.args.from before c.args.latency in
    let same : (k : ℕ) → k < depth (content_in rows s.versions) → f k ≡ times k = one_operand rows s.versions c.args.from c.live.result.now before c.args.latency c.live.ensures.live in
    content-given rows (row_in c.write_one.new.self) s.versions c.args.to c.last_given-stamp.result (length before) f times c.requires.each c.last_given-stamp.ensures.last c.last_given-stamp.ensures.given c.write_one.ensures.given same

pub returns-clause-paths : goal.returns-clause-paths
returns-clause-paths g c =
    let s = c.args.self.now in
    let rows = row_in s.rows in
    let before = c.args.before.now in
    let f = after_row (rows c.args.from) c.live.result.now before c.args.latency in
    let times = after_one (content_in rows s.versions) c.args.from before c.args.latency in
    let same : (k : ℕ) → k < depth (content_in rows s.versions) → f k ≡ times k = one_operand rows s.versions c.args.from c.live.result.now before c.args.latency c.live.ensures.live in
    paths-given rows s.versions (length before) f times c.args.paths.now c.write_one.new.paths c.requires.each c.write_one.ensures.raised same
