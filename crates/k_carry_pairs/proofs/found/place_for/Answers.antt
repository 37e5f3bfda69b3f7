use Rattle.std.proofs.Common.{sym, ◌∙◌}
use Rattle.k_carry_pairs.proofs.Putting.{goes_down, goes_up, narrowed}
use Rattle.k_carry_pairs.proofs.found.place_for.Goals as goal

pub loop-low-preserved-then-precedes : goal.loop-low-preserved-then-precedes
loop-low-preserved-then-precedes c =
    goes_up c.args.new.now _ c.args.found.now c.loop-low.low c.loop-low.high c.requires c.loop-low.invariant c.loop-low-test.true (sym c.precedes.ensures ∙ c.if-precedes.true)

pub loop-low-preserved : goal.loop-low-preserved
loop-low-preserved c =
    goes_down c.args.new.now _ c.args.found.now c.loop-low.low c.loop-low.high c.requires c.loop-low.invariant c.loop-low-test.true (sym c.precedes.ensures ∙ c.if-precedes.false)

pub returns-clause-point : goal.returns-clause-point
returns-clause-point c = narrowed c.args.new.now c.args.found.now c.loop-low.low c.loop-low.high c.loop-low.invariant c.loop-low-test.false
