use Rattle.std.proofs.Common.{ap, reverse, arith, refl}
use Rattle.k_hcpa_summaries.specs.Whole.{summing_of}
use Rattle.k_hcpa_summaries.proofs.Wholes.{open_in, whole_behind}
use Rattle.k_hcpa_summaries.proofs.summaries.Summaries.close.Goals as goal

pub close_levels-requires-clause-open : goal.close_levels-requires-clause-open
close_levels-requires-clause-open c =
    let s = c.self.inside in
    open_in (summing_of s.levels.items s.opened s.entered s.work s.dict) c.self.invariant.0

pub invariant_of-self-2 : goal.invariant_of-self-2
invariant_of-self-2 c =
    let s = c.self.inside in
    let new = c.close_levels.new in (
      whole_behind (summing_of s.levels.items s.opened s.entered s.work s.dict) (summing_of new.levels.items c.args.opened s.entered c.args.work new.dict) c.args.work
          (reverse c.args.paths.now) c.self.invariant.0 c.in_ok-close_levels.ensures.ok (omega (arith, c.requires.opened, ap (λ x. x.opened) c.self.view_is)) refl,
      omega (arith, c.close_levels.ensures.room, c.self.invariant.1),
    )
