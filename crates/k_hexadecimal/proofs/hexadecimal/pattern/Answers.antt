use Rattle.std.proofs.Common.{◌≤◌, ◌*◌, arith, sym, subst, ◌∙◌}
use Rattle.std.specs.Float.Ieee.Digits.{size-lt}
use Rattle.std.specs.Float.Ieee.{ones, hid}
use Rattle.k_real.specs.Codes.{format}
use Rattle.k_hexadecimal.proofs.SizedLaws.{size_above}
use Rattle.k_hexadecimal.proofs.HexadecimalLaws.{exact_head, shifted_head, few_digits, kept_within, cut_off, cut_is, cut_below, huge_bits, bits_within, pattern_is}
use Rattle.std.specs.Float.Ieee.{prec}
use Rattle.k_hexadecimal.proofs.hexadecimal.pattern.Goals as goal

pub in_units-kept-requires-clause-exact : goal.in_units-kept-requires-clause-exact
in_units-kept-requires-clause-exact c =
    λ h. exact_head c.args.s.head _ c.args.a c.args.b c.places-k.result (prec (format c.args.p)) c.args.s.more (size-lt c.args.s.head) c.places-k.ensures.value (size_above c.args.s.head 0 c.requires.some) (few_digits c.args.p) c.requires.full h

pub in_units-kept-requires-clause-shift : goal.in_units-kept-requires-clause-shift
in_units-kept-requires-clause-shift c =
    λ h. (shifted_head c.args.s.head _ c.args.a c.args.b c.places-k.result (prec (format c.args.p)) (size-lt c.args.s.head) c.places-k.ensures.value (size_above c.args.s.head 0 c.requires.some) (few_digits c.args.p) h).0

pub in_units-kept-requires-clause-room : goal.in_units-kept-requires-clause-room
in_units-kept-requires-clause-room c =
    λ h. (shifted_head c.args.s.head _ c.args.a c.args.b c.places-k.result (prec (format c.args.p)) (size-lt c.args.s.head) c.places-k.ensures.value (size_above c.args.s.head 0 c.requires.some) (few_digits c.args.p) h).1

pub packed-requires-clause-digits : goal.packed-requires-clause-digits
packed-requires-clause-digits c =
    kept_within c.args.p c.args.s.head (cut_off c.args.s.more) c.args.a c.args.b c.places-k.result c.in_units-kept.result (cut_below c.args.s.more) c.requires.some c.places-k.ensures.value
    (c.in_units-kept.ensures 2 (cut_off c.args.s.more) (omega arith) (cut_below c.args.s.more) (cut_is c.args.s.more))

pub returns-then-k-lt2047-clause-within : goal.returns-then-k-lt2047-clause-within
returns-then-k-lt2047-clause-within c = subst (λ w. w ≤ ones (format c.args.p) * hid (format c.args.p)) (sym c.packed.ensures) (bits_within c.args.p _ _)

pub returns-then-k-lt2047-clause-value : goal.returns-then-k-lt2047-clause-value
returns-then-k-lt2047-clause-value c =
    λ num den c' l D C h is eq.
    pattern_is c.args.p num den c.args.s.head l c' c.args.a c.args.b c.places-k.result c.in_units-kept.result c.packed.result D C h c.requires.some c.places-k.ensures.value (c.in_units-kept.ensures c' l C h is) c.packed.ensures eq

pub returns-else-k-lt2047-clause-value : goal.returns-else-k-lt2047-clause-value
returns-else-k-lt2047-clause-value c =
    λ num den c' l D C h is eq.
    pattern_is c.args.p num den c.args.s.head l c' c.args.a c.args.b c.places-k.result c.in_units-kept.result c.infinity.result D C h c.requires.some c.places-k.ensures.value (c.in_units-kept.ensures c' l C h is)
    (c.infinity.ensures ∙ huge_bits c.args.p c.in_units-kept.result c.places-k.result (omega (arith, c.if-k-lt2047.false))) eq
