use Rattle.std.proofs.Common.{sym, ◌∙◌}
use Rattle.std.proofs.lemmas.Bool.{false≢true}
use Rattle.k_sum_read.proofs.RootSteps.{are_within, roots_hold}
use Rattle.k_sum_read.proofs.roots.are_roots.Goals as goal

pub returns-then-may_be_roots : goal.returns-then-may_be_roots
returns-then-may_be_roots c =
    roots_hold c.args.runs c.args.regions.now c.args.entries.now c.args.roots.now c.args.sums c.requires.some c.requires.most c.requires.below c.requires.sums c.is_none_left.result
    (c.may_be_roots.ensures.0 c.if-may_be_roots.true) c.is_none_left.ensures

pub returns-else-may_be_roots : goal.returns-else-may_be_roots
returns-else-may_be_roots c = (
  λ h. absurd (false≢true h),
  λ are. sym c.if-may_be_roots.false ∙ c.may_be_roots.ensures.1
      (are_within c.args.runs c.args.regions.now c.args.entries.now c.args.roots.now c.args.sums c.requires.some c.requires.most c.requires.below c.requires.sums are, are.main),
)
