use Rattle.std.proofs.Common.{◌≡◌, ◌∙◌, length, true, subst, sym}
use Rattle.std.specs.Prelude.{◌↔◌, IsTrue}
use Rattle.k_code.specs.Valid.{is_in_range}
use Rattle.k_code.proofs.Decided.{all_have, none_before, one_has_not, one_more, same_test}
use Rattle.k_code.proofs.validity.ranges.all_in_range.Goals as goal

pub loop-k-init : goal.loop-k-init
loop-k-init c = none_before (λ k i. is_in_range c.args.code.now c.args.entry (length c.args.instrs.now) k i ≡ true) c.args.instrs.now

pub returns-then-not-is_in_range : goal.returns-then-not-is_in_range
returns-then-not-is_in_range c =
    one_has_not (λ k i. is_in_range c.args.code.now c.args.entry (length c.args.instrs.now) k i ≡ true) c.args.instrs.now c.loop-k.k c.index-instrs-k.result c.is_in_range.result
    (
    subst (λ i. IsTrue c.is_in_range.result ↔ (is_in_range c.args.code.now c.args.entry (length c.args.instrs.now) c.loop-k.k i ≡ true)) c.index-instrs-k.is
    (same_test _ _ c.is_in_range.ensures)
    ) c.loop-k-test.true c.if-not-is_in_range.true

pub loop-k-preserved : goal.loop-k-preserved
loop-k-preserved c =
    one_more (λ k i. is_in_range c.args.code.now c.args.entry (length c.args.instrs.now) k i ≡ true) c.args.instrs.now c.loop-k.k c.index-instrs-k.result
    (
    subst (λ i. is_in_range c.args.code.now c.args.entry (length c.args.instrs.now) c.loop-k.k i ≡ true) c.index-instrs-k.is
    (sym c.is_in_range.ensures ∙ c.if-not-is_in_range.false)
    ) c.loop-k-test.true c.loop-k.invariant

pub returns : goal.returns
returns c =
    all_have (λ k i. is_in_range c.args.code.now c.args.entry (length c.args.instrs.now) k i ≡ true) c.args.instrs.now c.loop-k.k c.loop-k-test.false c.loop-k.invariant
