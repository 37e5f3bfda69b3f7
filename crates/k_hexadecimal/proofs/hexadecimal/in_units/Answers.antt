use Rattle.std.proofs.Common.{◌≡◌, ◌≤◌, ◌-◌, ◌*◌, ◌+◌, ◌^◌, arith, ap, sym, ◌∙◌}
use native.Mathlib.Nat.{mod-eq_of_lt}
use Rattle.std.specs.Float.Ieee.Nearest.{closest}
use Rattle.k_hexadecimal.proofs.HexadecimalLaws.{without_more}
use Rattle.k_hexadecimal.proofs.SizedLaws.{nothing_dropped, some_dropped}
use Rattle.k_hexadecimal.proofs.hexadecimal.in_units.Goals as goal

pub overflow_cast-result : goal.overflow_cast-result
overflow_cast-result c = let small = c.requires.shift (omega (arith, c.if-b-k.true)) in record { fits = omega (arith, small) }

pub overflow_shl-result : goal.overflow_shl-result
overflow_shl-result c = c.requires.shift (omega (arith, c.if-b-k.true))

pub returns-then-b-k : goal.returns-then-b-k
returns-then-b-k c =
    let H = c.args.s.head in
    let a = c.args.a in
    let b = c.args.b in
    let k = c.args.k in
    let within : b + k ≤ a = omega (arith, c.if-b-k.true) in
    λ c' l C h is.
    mod-eq_of_lt (c.requires.room within)
    ∙ sym (ap (λ w. closest ((H * c' + w) * 2 ^ a) (c' * 2 ^ b * 2 ^ k)) (without_more l (sym (c.requires.exact within) ∙ is)) ∙ nothing_dropped H c' a b k C within)

pub returns-else-b-k : goal.returns-else-b-k
returns-else-b-k c =
    let sum : c.args.b + c.args.k ≡ c.args.a + (c.args.b + c.args.k - c.args.a) = omega (arith, c.if-b-k.false) in
    λ c' l C h is. c.cut.ensures c' l C h is ∙ sym (some_dropped (c.args.s.head * c' + l) c' c.args.a c.args.b c.args.k (c.args.b + c.args.k - c.args.a) C sum)
