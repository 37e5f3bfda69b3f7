use Rattle.std.proofs.Common.{ap, sym, ◌∙◌}
use Rattle.std.specs.Prelude.{◌++◌}
use Rattle.std.specs.Float.{float_is_finite}
use Rattle.std.specs.Float.Ieee.{ne}
use Rattle.k_real.specs.Codes.{real_of}
use Rattle.k_real.proofs.ScientificLaws.{finite_unsigned, nan_unsigned, infinite_unsigned}
use Rattle.k_real.proofs.scientific.put_unsigned.Goals as goal

pub returns-then-is_finite : goal.returns-then-is_finite
returns-then-is_finite c =
    let finite = ap float_is_finite (sym c.real_of_code-x.ensures) ∙ sym c.is_finite.ensures.value ∙ c.if-is_finite.true in
    c.in_ok-put_scientific.ensures ∙ ap (λ l. c.args.out.now.items ++ l) (sym (finite_unsigned (real_of c.args.a) c.args.many c.args.a finite))

pub returns-then-x : goal.returns-then-x
returns-then-x c =
    let is_nan = ap (λ x. ne x x) (sym c.real_of_code-x.ensures) ∙ c.if-x.true in
    c.in_ok-extend_from_slice.ensures.items ∙ ap (λ l. c.args.out.now.items ++ l) (nan_unsigned (real_of c.args.a) c.args.many c.args.a is_nan)

pub returns : goal.returns
returns c =
    let endless = ap float_is_finite (sym c.real_of_code-x.ensures) ∙ sym c.is_finite.ensures.value ∙ c.if-is_finite.false in
    let is_no_nan = ap (λ x. ne x x) (sym c.real_of_code-x.ensures) ∙ c.if-x.false in
    c.in_ok-extend_from_slice-2.ensures.items ∙ ap (λ l. c.args.out.now.items ++ l) (infinite_unsigned (real_of c.args.a) c.args.many c.args.a endless is_no_nan)
