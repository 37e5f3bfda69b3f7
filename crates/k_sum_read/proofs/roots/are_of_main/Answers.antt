use Rattle.std.proofs.Common.{sym, ◌∙◌}
use Rattle.std.proofs.lemmas.Bool.{false≢true}
use Rattle.k_sum_read.proofs.RootSteps.{main_tested, tested_main}
use Rattle.k_sum_read.proofs.roots.are_of_main.Goals as goal

pub returns-then-is_main : goal.returns-then-is_main
returns-then-is_main c = (
  λ h. tested_main c.args.regions.now c.args.entries.now c.args.roots.now c.in-Some.field-0-1.now c.in-Some.first.now c.index-entries-first.result c.index-regions-region.result
      c.in-Some.ensures.cases.0 c.requires.below c.requires.named c.index-entries-first.is c.index-regions-region.is
      (c.is_main.ensures.0 c.if-is_main.true, c.are_of_region.ensures.0 h),
  λ are. c.are_of_region.ensures.1
      (main_tested c.args.regions.now c.args.entries.now c.args.roots.now c.in-Some.field-0-1.now c.in-Some.first.now c.index-entries-first.result c.index-regions-region.result
      c.in-Some.ensures.cases.0 c.requires.below c.requires.named c.index-entries-first.is c.index-regions-region.is are).1,
)

pub returns-else-is_main : goal.returns-else-is_main
returns-else-is_main c = (
  λ h. absurd (false≢true h),
  λ are. sym c.if-is_main.false ∙ c.is_main.ensures.1
      (main_tested c.args.regions.now c.args.entries.now c.args.roots.now c.in-Some.field-0-1.now c.in-Some.first.now c.index-entries-first.result c.index-regions-region.result
      c.in-Some.ensures.cases.0 c.requires.below c.requires.named c.index-entries-first.is c.index-regions-region.is are).0,
)
