-- Promotion, and the common kind of two operands.
use Rattle.std.proofs.Common.{arith, ◌≡◌, ◌-◌, ◌^◌, ◌<◌, ◌≤◌, Bool, true, false, IsTrue, ℕ, suc, pos, negsuc, refl, sym, ◌∙◌}
use Rattle.std.specs.Prelude.{nat_lt, if◌then◌else◌}
use Rattle.std.proofs.Math.Nat.{pow-le-pow_right}
use Rattle.std.proofs.lemmas.Bool.{ltb-true, ltb-false}
use Rattle.std.proofs.lemmas.Int.{ints}
use Rattle.k_num.specs.declared.numbers.Kind.{Kind}
use Rattle.k_num.specs.declared.numbers.Kind.TheVariants.{I8, U8, I16, U16, I32, U32, I64, U64}
use Rattle.k_num.specs.Kind.{width, is_signed, is_held, promoted, higher, common_kind}
use Rattle.k_num.specs.KindLaws.{Covers, PromotedKeepsValue, CommonIsSymmetric, CommonIsWider, CommonIsUnsigned, CommonIsNotNarrower, CommonKeepsValue, CommonKeepsNatural, CommonLiftsNegative}
use Rattle.k_num.proofs.KindLaws.{zero_held, natural_held, held_span, held_wider, held_unsigned_wider, converted_held, converted_is}

-- the kind of a width and a sign
kind_of : ℕ → Bool → Kind
kind_of n signed =
    if nat_lt n 16 then (if signed then I8 else U8)
    else if nat_lt n 32 then (if signed then I16 else U16)
    else if nat_lt n 64 then (if signed then I32 else U32)
    else if signed then I64 else U64

kind_of-width : (kind : Kind) → kind_of (width kind) (is_signed kind) ≡ kind
unfolding kind_of
kind_of-width I8 = refl
kind_of-width U8 = refl
kind_of-width I16 = refl
kind_of-width U16 = refl
kind_of-width I32 = refl
kind_of-width U32 = refl
kind_of-width I64 = refl
kind_of-width U64 = refl

-- a kind is told by its width and its sign
same_kind : (a b : Kind) → width a ≡ width b → is_signed a ≡ is_signed b → a ≡ b
same_kind a b e s = sym (kind_of-width a) ∙ (λ i. kind_of (e i) (s i)) ∙ kind_of-width b

-- a fact of the higher of two kinds, by cases on which it is
higher_by : (P : Kind → Type 0) (a b : Kind) → (width a < width b → P b) → (width b < width a → P a)
    → (width a ≡ width b → is_signed a ≡ true → P b) → (width a ≡ width b → is_signed a ≡ false → P a) → P (higher a b)
higher_by P a b second first signed unsigned = by (nat_lt (width a) (width b)) refl (nat_lt (width b) (width a)) refl (is_signed a) refl
  where
    even : nat_lt (width a) (width b) ≡ false → nat_lt (width b) (width a) ≡ false → width a ≡ width b
    even e f = let p = ltb-false (width a) (width b) e in let q = ltb-false (width b) (width a) f in omega arith

    by : (s : Bool) → nat_lt (width a) (width b) ≡ s → (t : Bool) → nat_lt (width b) (width a) ≡ t → (u : Bool) → is_signed a ≡ u
        → P (if s then b else if t then a else if u then b else a)
    by true e t f u g = second (ltb-true (width a) (width b) e)
    by false e true f u g = first (ltb-true (width b) (width a) f)
    by false e false f true g = signed (even e f) g
    by false e false f false g = unsigned (even e f) g

-- ---- promotion

promoted_covers : (kind : Kind) → Covers kind (promoted kind)
promoted_covers I8 v h = held_wider I8 I32 refl (omega arith) v h
promoted_covers U8 v h = held_unsigned_wider U8 I32 refl (omega arith) v h
promoted_covers I16 v h = held_wider I16 I32 refl (omega arith) v h
promoted_covers U16 v h = held_unsigned_wider U16 I32 refl (omega arith) v h
promoted_covers I32 v h = h
promoted_covers U32 v h = h
promoted_covers I64 v h = h
promoted_covers U64 v h = h

promoted_not_narrower : (kind : Kind) → width kind ≤ width (promoted kind)
promoted_not_narrower I8 = omega arith
promoted_not_narrower U8 = omega arith
promoted_not_narrower I16 = omega arith
promoted_not_narrower U16 = omega arith
promoted_not_narrower I32 = omega arith
promoted_not_narrower U32 = omega arith
promoted_not_narrower I64 = omega arith
promoted_not_narrower U64 = omega arith

pub promoted_keeps : PromotedKeepsValue
promoted_keeps kind v h = converted_held (promoted kind) v (promoted_covers kind v h)

-- ---- the common kind

higher_symmetric : (a b : Kind) → higher a b ≡ higher b a
higher_symmetric a b =
    higher_by (λ k. k ≡ higher b a) a b
    (λ less. higher_by (λ k. b ≡ k) b a (λ l. absurd (omega arith)) (λ l. refl) (λ e s. absurd (omega arith)) (λ e s. refl))
    (λ more. higher_by (λ k. a ≡ k) b a (λ l. refl) (λ l. absurd (omega arith)) (λ e s. refl) (λ e s. absurd (omega arith)))
    (λ even signed. higher_by (λ k. b ≡ k) b a (λ l. absurd (omega arith)) (λ l. refl) (λ e s. same_kind b a e (s ∙ sym signed)) (λ e s. refl))
    (λ even unsigned. higher_by (λ k. a ≡ k) b a (λ l. refl) (λ l. absurd (omega arith)) (λ e s. refl) (λ e s. same_kind a b even (unsigned ∙ sym s)))

pub common_symmetric : CommonIsSymmetric
common_symmetric a b = higher_symmetric (promoted a) (promoted b)

pub common_wider : CommonIsWider
common_wider a b less =
    higher_by (λ k. k ≡ promoted b) (promoted a) (promoted b) (λ l. refl) (λ l. absurd (omega arith)) (λ e s. refl) (λ e s. absurd (omega arith))

pub common_unsigned : CommonIsUnsigned
common_unsigned a b even unsigned =
    higher_by (λ k. k ≡ promoted b) (promoted a) (promoted b) (λ l. refl) (λ l. absurd (omega arith)) (λ e s. refl)
    (λ e s. same_kind (promoted a) (promoted b) even (s ∙ sym unsigned))

pub common_not_narrower : CommonIsNotNarrower
common_not_narrower a b =
    let own = promoted_not_narrower a in
    higher_by (λ k. width a ≤ width k) (promoted a) (promoted b) (λ l. omega arith) (λ l. own) (λ e s. omega arith) (λ e s. own)

signed_covers : (a b : Kind) → width a < width b → is_signed b ≡ true → Covers a b
signed_covers a b less signed v h = by (is_signed a) refl
  where
    by : (s : Bool) → is_signed a ≡ s → IsTrue (is_held b v)
    by true e = held_wider a b (e ∙ sym signed) (omega arith) v h
    by false e = held_unsigned_wider a b e less v h

-- a signed common kind has each value of an operand
common_covers : (a b : Kind) → is_signed (common_kind a b) ≡ true → Covers a (common_kind a b)
common_covers a b signed v h =
    higher_by (λ k. is_signed k ≡ true → IsTrue (is_held k v)) (promoted a) (promoted b)
    (λ l s. signed_covers (promoted a) (promoted b) l s v own)
    (λ l s. own)
    (λ e t s. held_wider (promoted a) (promoted b) (t ∙ sym s) (omega arith) v own)
    (λ e t s. own)
    signed
  where
    own : IsTrue (is_held (promoted a) v)
    own = promoted_covers a v h

pub common_keeps : CommonKeepsValue
common_keeps a b v signed h = converted_held (common_kind a b) v (common_covers a b signed v h)

-- the numbers of n bits of an operand's kind are among those of the common kind
pow_common : (a b : Kind) → 2 ^ width a ≤ 2 ^ width (common_kind a b)
pow_common a b = pow-le-pow_right (omega arith) (common_not_narrower a b)

pub common_keeps_natural : CommonKeepsNatural
common_keeps_natural a b v h = converted_held (common_kind a b) (pos v) (by (is_signed (common_kind a b)) refl)
  where
    by : (s : Bool) → is_signed (common_kind a b) ≡ s → IsTrue (is_held (common_kind a b) (pos v))
    by true e = common_covers a b e (pos v) h
    by false e =
        natural_held (common_kind a b) v e
        (let small = held_span a (pos v) (pos 0) h (zero_held a) in let wide = pow_common a b in omega (arith, ints))

pub common_lifts : CommonLiftsNegative
common_lifts a b v unsigned h =
    converted_is (common_kind a b) (negsuc v) (pos (2 ^ width (common_kind a b) - suc v))
    (natural_held (common_kind a b) (2 ^ width (common_kind a b) - suc v) unsigned (omega (arith, small)))
    (record { over = 0; under = 1; same = omega (arith, ints, small) })
    ∙ omega (arith, ints, small)
  where
    small : suc v < 2 ^ width (common_kind a b)
    small = let low = held_span a (pos 0) (negsuc v) (zero_held a) h in let wide = pow_common a b in omega (arith, ints)
