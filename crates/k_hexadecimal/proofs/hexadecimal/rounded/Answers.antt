use Rattle.std.proofs.Common.{◌≡◌, ◌<◌, ◌-◌, ◌*◌, ◌+◌, ◌^◌, ◌%◌, arith, ap, sym, ◌∙◌}
use Rattle.std.specs.Float.Ieee.Nearest.{closest}
use Rattle.std.proofs.lemmas.Nat.{one_shl}
use Rattle.k_hexadecimal.proofs.HexadecimalLaws.{without_more, with_more}
use Rattle.k_hexadecimal.proofs.SizedLaws.{below_half, above_half, half_and_more, at_half}
use Rattle.k_hexadecimal.proofs.hexadecimal.rounded.Goals as goal

pub returns-then-rest-half : goal.returns-then-rest-half
returns-then-rest-half c =
    let d = c.args.drop in
    let less : c.args.head % 2 ^ d < 2 ^ (d - 1) = omega (arith, ap (λ w. c.args.head % w) (one_shl d 64 c.requires.drop), one_shl (d - 1) 64 (omega (arith, c.requires.drop)), c.if-rest-half.true) in
    λ c' l C h is. sym (below_half c.args.head l c' d C h c.requires.some less)

pub returns-then-rest-half-2 : goal.returns-then-rest-half-2
returns-then-rest-half-2 c =
    let d = c.args.drop in
    let more : 2 ^ (d - 1) < c.args.head % 2 ^ d = omega (arith, ap (λ w. c.args.head % w) (one_shl d 64 c.requires.drop), one_shl (d - 1) 64 (omega (arith, c.requires.drop)), c.if-rest-half-2.true) in
    λ c' l C h is. sym (above_half c.args.head l c' d C h c.requires.some more)

pub returns-then-more : goal.returns-then-more
returns-then-more c =
    let d = c.args.drop in
    let even : c.args.head % 2 ^ d ≡ 2 ^ (d - 1) =
    omega (arith, ap (λ w. c.args.head % w) (one_shl d 64 c.requires.drop), one_shl (d - 1) 64 (omega (arith, c.requires.drop)), c.if-rest-half.false, c.if-rest-half-2.false) in
    λ c' l C h is. sym (half_and_more c.args.head l c' d C h c.requires.some even (with_more l (sym c.if-more.true ∙ is)))

pub returns-else-more : goal.returns-else-more
returns-else-more c =
    let d = c.args.drop in
    let even : c.args.head % 2 ^ d ≡ 2 ^ (d - 1) =
    omega (arith, ap (λ w. c.args.head % w) (one_shl d 64 c.requires.drop), one_shl (d - 1) 64 (omega (arith, c.requires.drop)), c.if-rest-half.false, c.if-rest-half-2.false) in
    λ c' l C h is. sym (ap (λ k. closest (c.args.head * c' + k) (c' * 2 ^ d)) (without_more l (sym c.if-more.false ∙ is)) ∙ at_half c.args.head c' d C c.requires.some even)
