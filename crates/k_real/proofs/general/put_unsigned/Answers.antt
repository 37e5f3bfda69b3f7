use Rattle.std.proofs.Common.{ap, sym, ◌∙◌}
use Rattle.std.specs.Prelude.{◌++◌}
use Rattle.std.specs.Float.{float_is_finite}
use Rattle.std.specs.Float.Ieee.{ne}
use Rattle.k_real.specs.Codes.{real_of}
use Rattle.k_real.proofs.SizeLaws.{finite_field}
use Rattle.k_real.proofs.GeneralLaws.{finite_unsigned, nan_unsigned, infinite_unsigned}
use Rattle.k_real.proofs.general.put_unsigned.Goals as goal

pub put_general-requires-clause-finite : goal.put_general-requires-clause-finite
put_general-requires-clause-finite c = finite_field c.args.a (ap float_is_finite (sym c.real_of_code-x.ensures) ∙ sym c.is_finite.ensures.value ∙ c.if-is_finite.true)

pub returns-then-is_finite : goal.returns-then-is_finite
returns-then-is_finite c =
    let finite = ap float_is_finite (sym c.real_of_code-x.ensures) ∙ sym c.is_finite.ensures.value ∙ c.if-is_finite.true in
    c.in_ok-put_general.ensures ∙ ap (λ l. c.args.out.now.items ++ l) (sym (finite_unsigned (real_of c.args.a) c.args.many c.args.a finite))

pub returns-then-x : goal.returns-then-x
returns-then-x c =
    let is_nan = ap (λ x. ne x x) (sym c.real_of_code-x.ensures) ∙ c.if-x.true in
    c.in_ok-extend_from_slice.ensures.items ∙ ap (λ l. c.args.out.now.items ++ l) (nan_unsigned (real_of c.args.a) c.args.many c.args.a is_nan)

pub returns : goal.returns
returns c =
    let endless = ap float_is_finite (sym c.real_of_code-x.ensures) ∙ sym c.is_finite.ensures.value ∙ c.if-is_finite.false in
    let is_no_nan = ap (λ x. ne x x) (sym c.real_of_code-x.ensures) ∙ c.if-x.false in
    c.in_ok-extend_from_slice-2.ensures.items ∙ ap (λ l. c.args.out.now.items ++ l) (infinite_unsigned (real_of c.args.a) c.args.many c.args.a endless is_no_nan)
