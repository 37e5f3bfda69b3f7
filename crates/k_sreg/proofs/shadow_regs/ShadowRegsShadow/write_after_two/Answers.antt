use Rattle.std.proofs.Common.{◌≡◌, ℕ, ◌<◌, length, max, ap, ◌∙◌, sym, arith}
use Rattle.std.specs.Prelude.{slice_index}
use Rattle.k_shadow.specs.Content.{depth, time_at, after_two}
use Rattle.k_shadow.specs.Rooms.{delayed}
use Rattle.k_shadow.specs.Rows.{row_time}
use Rattle.k_shadow.proofs.Contents.{depth_counted}
use Rattle.k_shadow_rows.specs.Given.{after_rows}
use Rattle.k_shadow_rows.specs.Rows.{row_in, greatest}
use Rattle.k_sreg.proofs.Written.{content_in, content-given, paths-given, two_operands, two_rows, within-room}
use Rattle.k_sreg.proofs.shadow_regs.ShadowRegsShadow.write_after_two.Goals as goal

pub write_both-requires-clause-row : goal.write_both-requires-clause-row
write_both-requires-clause-row g c =
    let s = c.args.self.now in
    (c.requires.room.there.0.0, omega (arith, c.requires.room.there.0.1, c.requires.each, depth_counted (row_in s.rows) s.versions 2097152))

pub write_both-requires-clause-within : goal.write_both-requires-clause-within
write_both-requires-clause-within g c =
    let s = c.args.self.now in
    let rows = row_in s.rows in
    let before = c.args.before.now in
    let numbers = c.live.result.now in
    let left = c.args.left in
    let right = c.args.right in
    let after : ℕ → ℕ → ℕ → ℕ = λ k first second. delayed (max (max first second) (slice_index before k)) c.args.latency in
    let room = c.requires.room in
    within-room rows s.versions (length before) room.most (greatest s.rows) (λ k. after k (row_time (rows left) (slice_index numbers k) k) (row_time (rows right) (slice_index numbers k) k)) (λ k. after k (time_at (content_in rows s.versions) k left) (time_at (content_in rows s.versions) k right)) c.requires.each room.there.1 room.within (two_rows after rows s.versions left right numbers c.live.ensures.live)

pub write_both-requires-clause-live : goal.write_both-requires-clause-live
write_both-requires-clause-live g c =
    let s = c.args.self.now in
    c.requires.each ∙ depth_counted (row_in s.rows) s.versions 2097152 ∙ sym (ap (λ ns. length ns) c.live.ensures.live)

pub returns-clause-content : goal.returns-clause-content
returns-clause-content g c =
    let s = c.args.self.now in
    let rows = row_in s.rows in
    let before = c.args.before.now in
    let f = after_rows (rows c.args.left) (rows c.args.right) c.live.result.now before c.args.latency in
    let times = after_two (content_in rows s.versions) c.args.left c.args.right before c.args.latency in
    let same : (k : ℕ) → k < depth (content_in rows s.versions) → f k ≡ times k = two_operands rows s.versions c.args.left c.args.right c.live.result.now before c.args.latency c.live.ensures.live in
    content-given rows (row_in c.write_both.new.self) s.versions c.args.to c.last_given-stamp.result (length before) f times c.requires.each c.last_given-stamp.ensures.last c.last_given-stamp.ensures.given c.write_both.ensures.given same

pub returns-clause-paths : goal.returns-clause-paths
returns-clause-paths g c =
    let s = c.args.self.now in
    let rows = row_in s.rows in
    let before = c.args.before.now in
    let f = after_rows (rows c.args.left) (rows c.args.right) c.live.result.now before c.args.latency in
    let times = after_two (content_in rows s.versions) c.args.left c.args.right before c.args.latency in
    let same : (k : ℕ) → k < depth (content_in rows s.versions) → f k ≡ times k = two_operands rows s.versions c.args.left c.args.right c.live.result.now before c.args.latency c.live.ensures.live in
    paths-given rows s.versions (length before) f times c.args.paths.now c.write_both.new.paths c.requires.each c.write_both.ensures.raised same
