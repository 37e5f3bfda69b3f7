use Rattle.std.proofs.Common.{◌≡◌, ◌+◌, ◌*◌, ◌-◌, ap, ◌∙◌, arith}
use Rattle.std.specs.Prelude.{min}
use Rattle.k_hexadecimal.proofs.HexadecimalLaws.{next_decimal, last_decimal}
use Rattle.k_hexadecimal.proofs.hexadecimal.decimal_number.Goals as goal

pub loop-b-preserved : goal.loop-b-preserved
loop-b-preserved c =
    let n = c.loop-b.n in
    let step : c.min-n.result ≡ min (n * 10 + (c.in-Some.b.now - 48)) 1208925819614629174706176 = c.min-n.ensures ∙ ap (λ w. min (n * 10 + w) 1208925819614629174706176) (c.from.ensures ∙ c.saturating_sub.ensures) in
    record {
      most = omega (arith, step);
      capped = next_decimal 1208925819614629174706176 n c.min-n.result c.in-Some.b.now c.loop-b.rest.now c.in-Some.later.now c.args.digits.now step c.in-Some.ensures.cases.0 c.loop-b.invariant.capped;
    }

pub returns : goal.returns
returns c = last_decimal 1208925819614629174706176 c.loop-b.n c.loop-b.rest.now c.args.digits.now c.loop-b.invariant.most c.in_default.ensures.cases c.loop-b.invariant.capped
