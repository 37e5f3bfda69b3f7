-- Conversion between kinds: it gives a value of the kind, keeps the kind's own values, depends on the number modulo 2^n
-- alone, and so commutes with sums and products.
use Rattle.std.specs.Prelude.{ℕ, ◌+◌, ◌-◌, ◌*◌, ◌/◌, ◌^◌, ◌<◌, ◌≤◌, ◌⊎◌, Bool, true, false, ◌&&◌, if◌then◌else◌, IsTrue, ◌≡◌, refl, ℤ, pos, negsuc, neg_ℤ, ◌+ℤ◌, ◌-ℤ◌, ◌*ℤ◌, ◌<ℤ◌, int_le, unsigned_abs}
use Rattle.std.specs.Int.{int_rem_euclid}
use Rattle.std.proofs.Common.{arith, sym, ap, inl, inr, ◌∙◌, subst}
use Rattle.std.proofs.Math.Nat.{mul-le-mul_left, mul-le-mul_right, pow-le-pow_right, mod-lt, mod-eq_of_lt}
use Rattle.std.proofs.Math.IntN.{*ℤ_comm}
use Rattle.std.proofs.lemmas.Bool.{cases_order}
use Rattle.std.proofs.lemmas.Int.{ints, int_rem_euclid_is}
use Rattle.std.proofs.lemmas.Nat.{div-add-mod', pow_pos, pow-add}
use borrow.Author.Differences.{up, down, same_in, same_out, sum_is_lem, product_is}
use Rattle.k_num.specs.declared.numbers.Kind.{Kind}
use Rattle.k_num.specs.declared.numbers.Kind.TheVariants.{I8, U8, I16, U16, I32, U32, I64, U64}
use Rattle.k_num.specs.Kind.{width, is_signed, is_held, remainder, value_of_bits, converted}
use Rattle.k_num.specs.KindLaws.{IsSameModulo, ConvertedIsHeld, ConvertedIsSame, ConvertedIsUnique, ConvertedKeepsHeld, ConvertedIsAlike, ConvertedIsRemainder, WiderCovers, WiderCoversUnsigned}

pub same_self : (m : ℕ) (a : ℤ) → IsSameModulo m a a
same_self m a = record { over = 0; under = 0; same = refl }

pub same_back : (m : ℕ) (a b : ℤ) → IsSameModulo m a b → IsSameModulo m b a
same_back m a b s = record { over = s.under; under = s.over; same = sym s.same }

pub same_chain : (m : ℕ) (a b c : ℤ) → IsSameModulo m a b → IsSameModulo m b c → IsSameModulo m a c
same_chain m a b c s t = record { over = s.over + t.over; under = s.under + t.under; same = let p = s.same in let q = t.same in omega (arith, ints) }

-- and modulo each divisor of m
same_divisor : (m k n : ℕ) (a b : ℤ) → m ≡ k * n → IsSameModulo m a b → IsSameModulo n a b
same_divisor m k n a b e s =
    let p = s.same in
    let over = ap (λ x. s.over * x) e in
    let under = ap (λ x. s.under * x) e in
    record { over = s.over * k; under = s.under * k; same = omega (arith, ints) }

-- the same for the widths of kinds
pub same_narrower : (narrow wide : Kind) (a b : ℤ) → width narrow ≤ width wide → IsSameModulo (2 ^ width wide) a b → IsSameModulo (2 ^ width narrow) a b
same_narrower narrow wide a b h =
    same_divisor (2 ^ width wide) (2 ^ (width wide - width narrow)) (2 ^ width narrow) a b
    (ap (λ n. 2 ^ n) (omega arith) ∙ pow-add 2 (width wide - width narrow) (width narrow))

pub same_sum : (m : ℕ) (a b c d : ℤ) → IsSameModulo m a b → IsSameModulo m c d → IsSameModulo m (a +ℤ c) (b +ℤ d)
same_sum m a b c d s t = record { over = s.over + t.over; under = s.under + t.under; same = let p = s.same in let q = t.same in omega (arith, ints) }

pub same_difference : (m : ℕ) (a b c d : ℤ) → IsSameModulo m a b → IsSameModulo m c d → IsSameModulo m (a -ℤ c) (b -ℤ d)
same_difference m a b c d s t = record { over = s.over + t.under; under = s.under + t.over; same = let p = s.same in let q = t.same in omega (arith, ints) }

same_times : (m : ℕ) (a b c : ℤ) → IsSameModulo m a b → IsSameModulo m (a *ℤ c) (b *ℤ c)
same_times m a b c s =
    let p = s.same in
    let sum : up a + s.over * m + down b ≡ up b + s.under * m + down a = omega (arith, same_out, sum_is_lem) in
    let above = ap (λ x. x * up c) sum in
    let below = ap (λ x. x * down c) sum in
    record {
      over = s.over * up c + s.under * down c;
      under = s.under * up c + s.over * down c;
      same = omega (arith, same_in, sum_is_lem, product_is);
    }

pub same_product : (m : ℕ) (a b c d : ℤ) → IsSameModulo m a b → IsSameModulo m c d → IsSameModulo m (a *ℤ c) (b *ℤ d)
same_product m a b c d s t =
    same_chain m (a *ℤ c) (b *ℤ c) (b *ℤ d) (same_times m a b c s)
    (subst (λ x. IsSameModulo m x (b *ℤ d)) (*ℤ_comm c b) (subst (λ x. IsSameModulo m (c *ℤ b) x) (*ℤ_comm d b) (same_times m c d b t)))

-- the remainder depends on the number modulo m alone
remainder_same : (m : ℕ) (a b : ℤ) → 0 < m → IsSameModulo m a b → int_rem_euclid a (pos m) ≡ int_rem_euclid b (pos m)
remainder_same m a b some s =
    let p = s.same in
    let t = down a + down b in
    let far : t * 1 ≤ t * m = mul-le-mul_left t some in
    let n = up a + (s.over + t) * m - down a in
    int_rem_euclid_is a (pos m) m (s.over + t) n some refl (omega (arith, ints))
    ∙ sym (int_rem_euclid_is b (pos m) m (s.under + t) n some refl (omega (arith, ints)))

-- a number is its remainder modulo m
same_remainder : (m : ℕ) (v : ℤ) → 0 < m → IsSameModulo m (pos (unsigned_abs (int_rem_euclid v (pos m)))) v
same_remainder m (pos a) some = record { over = a / m; under = 0; same = let split = div-add-mod' a m in omega (arith, ints) }
same_remainder m (negsuc a) some =
    record { over = 0; under = a / m + 1; same = let split = div-add-mod' a m in let small = mod-lt a some in omega (arith, ints) }

remainder_small : (m : ℕ) (v : ℤ) → 0 < m → unsigned_abs (int_rem_euclid v (pos m)) < m
remainder_small m (pos a) some = mod-lt a some
remainder_small m (negsuc a) some = omega arith

-- each remainder is below 2^n
pub remainder_below : (kind : Kind) (v : ℤ) → remainder kind v < 2 ^ width kind
remainder_below kind v = remainder_small (2 ^ width kind) v (pow_pos (width kind))

-- numbers that are equal modulo 2^n have one remainder
pub remainder_alike : (kind : Kind) (a b : ℤ) → IsSameModulo (2 ^ width kind) a b → remainder kind a ≡ remainder kind b
remainder_alike kind a b s = ap unsigned_abs (remainder_same (2 ^ width kind) a b (pow_pos (width kind)) s)

-- a number is equal to its remainder modulo 2^n
pub same_as_remainder : (kind : Kind) (v : ℤ) → IsSameModulo (2 ^ width kind) (pos (remainder kind v)) v
same_as_remainder kind v = same_remainder (2 ^ width kind) v (pow_pos (width kind))

-- ---- what a kind holds

pub zero_held : (kind : Kind) → IsTrue (is_held kind (pos 0))
zero_held I8 = refl
zero_held U8 = refl
zero_held I16 = refl
zero_held U16 = refl
zero_held I32 = refl
zero_held U32 = refl
zero_held I64 = refl
zero_held U64 = refl

-- an unsigned kind holds each remainder modulo 2^n
pub natural_held : (kind : Kind) (r : ℕ) → is_signed kind ≡ false → r < 2 ^ width kind → IsTrue (is_held kind (pos r))
natural_held I8 r e h = cc
natural_held U8 r e h = grind (arith, ints)
natural_held I16 r e h = cc
natural_held U16 r e h = grind (arith, ints)
natural_held I32 r e h = cc
natural_held U32 r e h = grind (arith, ints)
natural_held I64 r e h = cc
natural_held U64 r e h = grind (arith, ints)

-- two values of a kind are less than 2^n apart
pub held_span : (kind : Kind) (a b : ℤ) → IsTrue (is_held kind a) → IsTrue (is_held kind b) → a <ℤ (b +ℤ pos (2 ^ width kind))
held_span I8 a b p q = grind (arith, ints)
held_span U8 a b p q = grind (arith, ints)
held_span I16 a b p q = grind (arith, ints)
held_span U16 a b p q = grind (arith, ints)
held_span I32 a b p q = grind (arith, ints)
held_span U32 a b p q = grind (arith, ints)
held_span I64 a b p q = grind (arith, ints)
held_span U64 a b p q = grind (arith, ints)

-- two numbers less than m apart and equal modulo m are one
apart : (m : ℕ) (a b : ℤ) → a <ℤ (b +ℤ pos m) → b <ℤ (a +ℤ pos m) → IsSameModulo m a b → a ≡ b
apart m a b p q s = by (cases_order s.over s.under)
  where
    by : (s.over ≡ s.under) ⊎ ((s.over < s.under) ⊎ (s.under < s.over)) → a ≡ b
    by (inr (inl l)) = absurd (let e = s.same in let far : (s.over + 1) * m ≤ s.under * m = mul-le-mul_right m (omega arith) in omega (arith, ints))
    by (inl l) = let e = s.same in let even : s.over * m ≡ s.under * m = ap (λ x. x * m) l in omega (arith, ints)
    by (inr (inr l)) = absurd (let e = s.same in let far : (s.under + 1) * m ≤ s.over * m = mul-le-mul_right m (omega arith) in omega (arith, ints))

-- a kind has one value that equals a number modulo 2^n
pub held_once : (kind : Kind) (a b : ℤ) → IsTrue (is_held kind a) → IsTrue (is_held kind b) → IsSameModulo (2 ^ width kind) a b → a ≡ b
held_once kind a b p q s = apart (2 ^ width kind) a b (held_span kind a b p q) (held_span kind b a q p) s

-- it is a value of the kind
pub held_value_of_bits : (kind : Kind) (r : ℕ) → r < 2 ^ width kind → IsTrue (is_held kind (value_of_bits kind r))
held_value_of_bits kind r h = by kind (is_held kind (pos r)) refl h
  where
    by : (kind : Kind) (t : Bool) → is_held kind (pos r) ≡ t → r < 2 ^ width kind → IsTrue (is_held kind (if t then pos r else pos r -ℤ pos (2 ^ width kind)))
    by kind true e h = e
    by I8 false e h = grind (arith, ints)
    by U8 false e h = grind (arith, ints)
    by I16 false e h = grind (arith, ints)
    by U16 false e h = grind (arith, ints)
    by I32 false e h = grind (arith, ints)
    by U32 false e h = grind (arith, ints)
    by I64 false e h = grind (arith, ints)
    by U64 false e h = grind (arith, ints)

-- the value of n bits equals them modulo 2^n
pub same_value_of_bits : (kind : Kind) (r : ℕ) → IsSameModulo (2 ^ width kind) (value_of_bits kind r) (pos r)
same_value_of_bits kind r = by (is_held kind (pos r))
  where
    by : (t : Bool) → IsSameModulo (2 ^ width kind) (if t then pos r else pos r -ℤ pos (2 ^ width kind)) (pos r)
    by true = same_self (2 ^ width kind) (pos r)
    by false = record { over = 1; under = 0; same = omega (arith, ints) }

-- the bits of the value of n bits are those bits
pub remainder-value_of_bits : (kind : Kind) (r : ℕ) → r < 2 ^ width kind → remainder kind (value_of_bits kind r) ≡ r
remainder-value_of_bits kind r h = remainder_alike kind (value_of_bits kind r) (pos r) (same_value_of_bits kind r) ∙ mod-eq_of_lt h

-- ---- conversion

-- it gives a value of the kind
pub held_converted : ConvertedIsHeld
held_converted kind v = held_value_of_bits kind (remainder kind v) (remainder_below kind v)

-- it equals the number modulo 2^n
pub same_converted : ConvertedIsSame
same_converted kind v =
    same_chain (2 ^ width kind) (converted kind v) (pos (remainder kind v)) v (same_value_of_bits kind (remainder kind v))
    (same_as_remainder kind v)

-- and it is the one value of the kind that does
pub converted_is : ConvertedIsUnique
converted_is kind v r h s =
    held_once kind (converted kind v) r (held_converted kind v) h
    (same_chain (2 ^ width kind) (converted kind v) v r (same_converted kind v) (same_back (2 ^ width kind) r v s))

-- numbers that are equal modulo 2^n are converted alike
pub converted_alike : ConvertedIsAlike
converted_alike kind a b s =
    converted_is kind a (converted kind b) (held_converted kind b)
    (same_chain (2 ^ width kind) (converted kind b) b a (same_converted kind b) (same_back (2 ^ width kind) a b s))

-- a value of the kind stays as it is
pub converted_held : ConvertedKeepsHeld
converted_held kind v h = converted_is kind v v h (same_self (2 ^ width kind) v)

-- an unsigned kind has the remainder
pub remainder_converted : ConvertedIsRemainder
remainder_converted kind v e =
    converted_is kind v (pos (remainder kind v)) (natural_held kind (remainder kind v) e (remainder_below kind v)) (same_as_remainder kind v)

-- to convert again changes nothing
pub converted-converted : (kind : Kind) (v : ℤ) → converted kind (converted kind v) ≡ converted kind v
converted-converted kind v = converted_held kind (converted kind v) (held_converted kind v)

-- to convert on the way to a sum or a product changes nothing
pub converted-sum : (kind : Kind) (x y : ℤ) → converted kind (x +ℤ y) ≡ converted kind (converted kind x +ℤ converted kind y)
converted-sum kind x y =
    sym (converted_alike kind (converted kind x +ℤ converted kind y) (x +ℤ y)
    (same_sum (2 ^ width kind) (converted kind x) x (converted kind y) y (same_converted kind x) (same_converted kind y)))

-- and likewise to a product
pub converted-product : (kind : Kind) (x y : ℤ) → converted kind (x *ℤ y) ≡ converted kind (converted kind x *ℤ converted kind y)
converted-product kind x y =
    sym (converted_alike kind (converted kind x *ℤ converted kind y) (x *ℤ y)
    (same_product (2 ^ width kind) (converted kind x) x (converted kind y) y (same_converted kind x) (same_converted kind y)))

signed_wider : (p q : ℕ) (v : ℤ) → 0 < p → p ≤ q → IsTrue (int_le (neg_ℤ (pos p)) v && int_le v (pos (p - 1))) → IsTrue (int_le (neg_ℤ (pos q)) v && int_le v (pos (q - 1)))
signed_wider p q v some h held = grind (arith, ints)

unsigned_wider : (p q : ℕ) (v : ℤ) → 0 < p → p ≤ q → IsTrue (int_le (pos 0) v && int_le v (pos (p - 1))) → IsTrue (int_le (pos 0) v && int_le v (pos (q - 1)))
unsigned_wider p q v some h held = grind (arith, ints)

unsigned_in_signed : (p q : ℕ) (v : ℤ) → 0 < p → p ≤ q → IsTrue (int_le (pos 0) v && int_le v (pos (p - 1))) → IsTrue (int_le (neg_ℤ (pos q)) v && int_le v (pos (q - 1)))
unsigned_in_signed p q v some h held = grind (arith, ints)

-- a wider kind of the same sign holds what the narrower holds
pub held_wider : WiderCovers
held_wider from to e h v p = by (is_signed from) (is_signed to) e p
  where
    bounds : Bool → ℕ → ℤ → Bool
    bounds signed n v =
        int_le (if signed then neg_ℤ (pos (2 ^ (n - 1))) else pos 0) v && int_le v (if signed then pos (2 ^ (n - 1) - 1) else pos (2 ^ n - 1))

    by : (s t : Bool) → s ≡ t → IsTrue (bounds s (width from) v) → IsTrue (bounds t (width to) v)
    by true true e p = signed_wider (2 ^ (width from - 1)) (2 ^ (width to - 1)) v (pow_pos (width from - 1)) (pow-le-pow_right (omega arith) (omega arith)) p
    by true false e p = cc
    by false true e p = cc
    by false false e p = unsigned_wider (2 ^ width from) (2 ^ width to) v (pow_pos (width from)) (pow-le-pow_right (omega arith) h) p

-- a wider kind holds what an unsigned one holds
pub held_unsigned_wider : WiderCoversUnsigned
held_unsigned_wider from to e h v p = by (is_signed from) (is_signed to) e p
  where
    bounds : Bool → ℕ → ℤ → Bool
    bounds signed n v =
        int_le (if signed then neg_ℤ (pos (2 ^ (n - 1))) else pos 0) v && int_le v (if signed then pos (2 ^ (n - 1) - 1) else pos (2 ^ n - 1))

    by : (s t : Bool) → s ≡ false → IsTrue (bounds s (width from) v) → IsTrue (bounds t (width to) v)
    by true t e p = cc
    by false true e p = unsigned_in_signed (2 ^ width from) (2 ^ (width to - 1)) v (pow_pos (width from)) (pow-le-pow_right (omega arith) (omega arith)) p
    by false false e p = unsigned_wider (2 ^ width from) (2 ^ width to) v (pow_pos (width from)) (pow-le-pow_right (omega arith) (omega arith)) p

-- so a conversion to it keeps the number
pub converted_wider : (from to : Kind) (v : ℤ) → is_signed from ≡ is_signed to → width from ≤ width to → IsTrue (is_held from v) → converted to v ≡ v
converted_wider from to v e h p = converted_held to v (held_wider from to e h v p)
