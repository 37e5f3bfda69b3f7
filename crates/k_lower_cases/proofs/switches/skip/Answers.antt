use Rattle.k_lower_expressions.specs.Arounds.{program_of}
use Rattle.k_lower_cases.proofs.Fronts.{none_skipped, some_skipped}
use Rattle.k_lower_cases.proofs.switches.skip.Goals as goal

pub returns-then-count-eq0 : goal.returns-then-count-eq0
returns-then-count-eq0 c = none_skipped (program_of c.args.around.now) c.args.place c.args.count _ c.if-count-eq0.true

pub returns : goal.returns
returns c =
    some_skipped (program_of c.args.around.now) c.args.place c.args.count _ _ _ c.does.result _ _ c.if-count-eq0.false c.in_ok-number.ensures c.in_ok-behind.ensures
    c.in_ok-to.ensures c.does.ensures
