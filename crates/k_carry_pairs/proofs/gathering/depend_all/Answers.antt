use Rattle.std.proofs.Common.{List, ap, sym, ◌∙◌}
use Rattle.k_carry_pairs.specs.declared.found.Found.{Found}
use Rattle.k_carry_pairs.specs.declared.origin.Origin.{Origin}
use Rattle.k_carry_pairs.specs.Gathered.{found_all}
use Rattle.k_carry_pairs.proofs.Uncarried.{uncarried}
use Rattle.k_carry_pairs.proofs.gathering.depend_all.Goals as goal

-- an operation that no level carries gives no pair
pub loop-origin-preserved : goal.loop-origin-preserved
loop-origin-preserved c = record {
  on =
      ap (λ (f : List Found). found_all c.args.levels.now c.in-Some.later.now c.args.to f)
      (sym (uncarried c.args.levels.now c.in-Some.origin.now c.args.to c.loop-origin.found.items (sym c.some_carries.ensures ∙ c.if-some_carries.false)))
      ∙ ap (λ (rest : List Origin). found_all c.args.levels.now rest c.args.to c.loop-origin.found.items) (sym c.in-Some.ensures.cases.0)
      ∙ c.loop-origin.invariant.on;
  sorted = c.loop-origin.invariant.sorted;
}
