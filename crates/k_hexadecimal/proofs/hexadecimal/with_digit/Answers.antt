use Rattle.std.proofs.Common.{◌≡◌, ◌+◌, ◌*◌, ◌<◌, ◌≤◌, ◌^◌, ap, sym, refl, ◌∙◌, ◌||◌, arith}
use Rattle.std.specs.Prelude.{not, nat_eq}
use Rattle.k_hexadecimal.proofs.HexadecimalLaws.{into_head, dropped_digit}
use Rattle.k_hexadecimal.proofs.hexadecimal.with_digit.Goals as goal

pub returns-then-s-lt-FULL-clause-value : goal.returns-then-s-lt-FULL-clause-value
returns-then-s-lt-FULL-clause-value c =
    let room : c.args.s.head < 2 ^ 56 = omega (arith, c.if-s-lt-FULL.true) in
    let same : c.args.s.head * 16 + c.from.result ≡ c.args.s.head * 16 + c.args.digit = ap (λ d. c.args.s.head * 16 + d) c.from.ensures in
    λ m h. into_head c.args.s (record { head = c.args.s.head * 16 + c.from.result; dropped = c.args.s.dropped; more = c.args.s.more }) m c.args.digit room c.requires.digit same refl refl h

pub returns-then-s-clause-value : goal.returns-then-s-clause-value
returns-then-s-clause-value c =
    let full : 2 ^ 56 ≤ c.args.s.head = omega (arith, c.if-s-lt-FULL.false) in
    λ m h. dropped_digit c.args.s (record { head = c.args.s.head; dropped = c.args.s.dropped + 1; more = c.args.s.more }) m c.args.digit full c.requires.digit refl refl
    (c.if-s.true ∙ sym (ap (λ w. w || not (nat_eq c.args.digit 0)) c.if-s.true)) h

pub returns-else-s-clause-value : goal.returns-else-s-clause-value
returns-else-s-clause-value c =
    let full : 2 ^ 56 ≤ c.args.s.head = omega (arith, c.if-s-lt-FULL.false) in
    λ m h. dropped_digit c.args.s (record { head = c.args.s.head; dropped = c.args.s.dropped + 1; more = not (nat_eq c.args.digit 0) }) m c.args.digit full c.requires.digit refl refl
    (sym (ap (λ w. w || not (nat_eq c.args.digit 0)) c.if-s.false)) h
