use Rattle.std.proofs.Common.{ap, ◌∙◌, arith}
use Rattle.std.specs.Prelude.{[], ◌∷◌, ◌++◌, ◌+◌, ◌-◌, ◌/◌, ◌%◌, ◌^◌}
use Rattle.k_real.specs.Digits.{value}
use Rattle.k_real.specs.Texts.{digits}
use Rattle.k_real.proofs.DigitLaws.{next_written, written_on, written_out}
use Rattle.k_real.proofs.digits.put_digits.Goals as goal

pub loop-left-preserved : goal.loop-left-preserved
loop-left-preserved c =
    let v = value c.args.xs.now in
    let left = c.loop-left.left in
    let out = c.loop-left.out.items in
    ap (λ l. l ++ digits (left - 1) v) (c.in_ok-push.ensures.items ∙ ap (λ k. out ++ (48 + k) ∷ []) c.digit_at.ensures.value)
    ∙ written_on _ out (digits left v) (digits (left - 1) v) (48 + v / 10 ^ (left - 1) % 10) c.loop-left.invariant (next_written v left c.loop-left-test.true)

pub returns : goal.returns
returns c = written_out c.loop-left.out.items _ (value c.args.xs.now) c.loop-left.left (omega (arith, c.loop-left-test.false)) c.loop-left.invariant
