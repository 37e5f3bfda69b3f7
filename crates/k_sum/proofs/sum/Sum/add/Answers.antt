use Rattle.std.proofs.Common.{◌≡◌, rules, sym, subst}
use Rattle.k_sum.specs.Sums.{HasBounds, IsLarge}
use Rattle.k_sum.specs.declared.sum.Sum.{Sum}
use Rattle.k_sum.proofs.Bounds.{added_is, bounds_both}
use Rattle.k_sum.proofs.sum.Sum.add.Goals as goal

pub returns-in-Ok-clause-adds : goal.returns-in-Ok-clause-adds
returns-in-Ok-clause-adds c =
    let regions : c.args.self.now.regions ≡ c.args.other.now.regions = search rules in
    let small : ¬ IsLarge c.args.self.now c.args.other.now = search rules in
    let is = added_is c.args.self.now c.args.other.now c.in-Ok.exits c.as_slice-3.result.now c.in-Ok.roots c.as_slice-4.result.now c.join.new.dict
    c.as_slice-3.ensures c.as_slice-4.ensures c.in-Ok.ensures.joins in
    let P : Sum → Type 0 = HasBounds in
    (regions, small, is, subst P (sym is) (bounds_both c.args.self.now c.args.other.now c.requires.bounds c.requires.more small))
