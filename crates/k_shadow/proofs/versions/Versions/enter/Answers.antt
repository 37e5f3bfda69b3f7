use Rattle.std.proofs.Common.{◌≡◌, ◌+◌, ◌<◌, length, take, ap, arith}
use Rattle.std.proofs.lemmas.List.{length-take, take_more_set}
use Rattle.k_shadow.proofs.Rows.{WereGiven-next, AreRising-next, starts-more}
use Rattle.k_shadow.proofs.versions.Versions.enter.Goals as goal

pub invariant_of-self : goal.invariant_of-self
invariant_of-self c =
    let s = c.self.inside in
    let same : length (take s.depth s.numbers) ≡ length c.args.self.now.live = ap (λ v. length v.live) c.self.view_is in
    let h : s.depth < length s.numbers = omega (arith, length-take s.depth s.numbers, c.requires.shallow) in
    let more = take_more_set s.numbers s.depth (s.given + 1) h in
    (omega arith, rw more (WereGiven-next _ _ c.self.invariant.1), rw more (AreRising-next 0 _ _ (omega arith) c.self.invariant.1 c.self.invariant.2), starts-more s.depth s.numbers s.starts (s.given + 1) h (omega arith) c.self.invariant.3)
