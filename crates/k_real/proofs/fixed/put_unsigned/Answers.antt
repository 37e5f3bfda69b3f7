use Rattle.std.proofs.Common.{ap, sym, ◌∙◌}
use Rattle.std.specs.Prelude.{◌++◌}
use Rattle.std.specs.Float.{float_is_finite}
use Rattle.std.specs.Float.Ieee.{ne}
use Rattle.k_real.specs.Codes.{real_of}
use Rattle.k_real.proofs.SizeLaws.{finite_field, finite_text, nan_text, infinite_text}
use Rattle.k_real.proofs.fixed.put_unsigned.Goals as goal

pub put_fixed-requires : goal.put_fixed-requires
put_fixed-requires c = finite_field c.args.a (ap float_is_finite (sym c.real_of_code-x.ensures) ∙ sym c.is_finite.ensures.value ∙ c.if-is_finite.true)

pub returns-then-is_finite : goal.returns-then-is_finite
returns-then-is_finite c =
    let finite = ap float_is_finite (sym c.real_of_code-x.ensures) ∙ sym c.is_finite.ensures.value ∙ c.if-is_finite.true in
    c.in_ok-put_fixed.ensures ∙ ap (λ l. c.args.out.now.items ++ l) (sym (finite_text (real_of c.args.a) c.args.many finite))

pub returns-then-x : goal.returns-then-x
returns-then-x c =
    let is_nan = ap (λ x. ne x x) (sym c.real_of_code-x.ensures) ∙ c.if-x.true in
    c.in_ok-extend_from_slice.ensures.items ∙ ap (λ l. c.args.out.now.items ++ l) (nan_text (real_of c.args.a) c.args.many is_nan)

pub returns : goal.returns
returns c =
    let endless = ap float_is_finite (sym c.real_of_code-x.ensures) ∙ sym c.is_finite.ensures.value ∙ c.if-is_finite.false in
    let is_no_nan = ap (λ x. ne x x) (sym c.real_of_code-x.ensures) ∙ c.if-x.false in
    c.in_ok-extend_from_slice-2.ensures.items ∙ ap (λ l. c.args.out.now.items ++ l) (infinite_text (real_of c.args.a) c.args.many endless is_no_nan)
