-- Digits of base 16 and 10, one after the other.
use Rattle.std.specs.Prelude.{◌≡◌, ◌+◌, ◌*◌, ◌-◌, ◌^◌, ◌<◌, ◌≤◌, ℕ, zero, suc, min, nat_lt, Bool, true, false, ◌||◌, not, List, ◌∷◌, [], length, if◌then◌else◌}
use native.Mathlib.Nat.{suc-mul, mul-le-mul_right, pow-suc, mul_right_comm, one-le-pow, zero-lt-suc, lt_of_lt_of_le, le_trans, zero-mul}
use Rattle.std.proofs.Common.{refl, ap, sym, subst, ◌∙◌, arith, mul_assoc, ltb-true, ltb-false}
use Rattle.std.proofs.lemmas.Bool.{eqb-true, eqb-false}
use lib.Dec.{ltb, eqb}
use lib.Pow.{pow-add, pow_mono, shl_lt}
use Rattle.std.specs.Char.{is_ascii_hexdigit}
use Rattle.std.specs.Float.Ieee.{size, prec, low, hid, ones, round, of_bits}
use Rattle.std.specs.Float.Ieee.Nearest.{closest}
use Rattle.k_hexadecimal.specs.declared.hexadecimal.Significand.{Significand}
use Rattle.k_hexadecimal.specs.Hexadecimal.{digit, number, many, behind, decimal, IsOf, scaled_bits}
use Rattle.k_real.specs.declared.precision.Precision.{Precision}
use Rattle.k_real.specs.declared.precision.Precision.TheVariants.{Single, Double}
use Rattle.k_real.specs.Codes.{format}
use Rattle.k_hexadecimal.proofs.PatternLaws.{of_bits-scaled_bits}
use Rattle.k_hexadecimal.proofs.SizedLaws.{between, size_above, kept_of, rounded_by}

-- ---- a digit more

-- it is one of the head: none was dropped
pub into_head : (s t : Significand) (m d : ℕ) → s.head < 2 ^ 56 → d < 16 → t.head ≡ s.head * 16 + d → t.dropped ≡ s.dropped → t.more ≡ s.more → IsOf s m → IsOf t (m * 16 + d)
into_head s t m d room D head dropped more (l, h) =
    let nothing : s.dropped ≡ 0 = none (s.dropped) (h.full) room in
    let no_rest : l ≡ 0 = rest (s.dropped) l nothing h.below in (
      0,
      record {
        number_is = value (s.head) (t.head) (s.dropped) (t.dropped) m l d nothing dropped no_rest head h.number_is;
        below = small (t.dropped) (dropped ∙ nothing);
        more = more ∙ h.more ∙ ap (nat_lt 0) no_rest;
        small = omega (arith, head, room, D);
        full = λ some. absurd (omega (arith, some, dropped, nothing));
      },
    )
  where
    none : (n : ℕ) → (0 < n → 2 ^ 56 ≤ s.head) → s.head < 2 ^ 56 → n ≡ 0
    none zero full less = refl
    none (suc n) full less = absurd (omega (arith, full (omega arith), less))

    rest : (n l : ℕ) → n ≡ 0 → l < 16 ^ n → l ≡ 0
    rest n l e below = let b : l < 1 = subst (λ k. l < 16 ^ k) e below in omega (arith, b)

    small : (n : ℕ) → n ≡ 0 → 0 < 16 ^ n
    small n e = subst (λ k. 0 < 16 ^ k) (sym e) (omega arith)

    value : (h g n k m l d : ℕ) → n ≡ 0 → k ≡ n → l ≡ 0 → g ≡ h * 16 + d → m ≡ h * 16 ^ n + l → m * 16 + d ≡ g * 16 ^ k + 0
    value h g n k m l d e f z head is =
        let one : 16 ^ n ≡ 1 = ap (λ w. 16 ^ w) e in
        let two : 16 ^ k ≡ 1 = ap (λ w. 16 ^ w) f ∙ one in
        let first : m ≡ h * 1 + l = is ∙ ap (λ w. h * w + l) one in
        let second : g * 16 ^ k + 0 ≡ g * 1 + 0 = ap (λ w. g * w + 0) two in
        omega (arith, first, second, z, head)

more_is : (a l d : ℕ) (s e b : Bool) → s ≡ nat_lt 0 l → b ≡ (s || not (eqb d 0)) → b ≡ nat_lt 0 (l * 16 + d)
more_is a l d s e b h is = is ∙ ap (λ w. w || not (eqb d 0)) h ∙ by_cases (ltb 0 l) (eqb d 0) refl refl
  where
    by_cases : (x y : Bool) → ltb 0 l ≡ x → eqb d 0 ≡ y → (x || not y) ≡ nat_lt 0 (l * 16 + d)
    by_cases true y p q = sym (positive (ltb 0 (l * 16 + d)) refl (omega (arith, ltb-true 0 l p)))
      where
        positive : (c : Bool) → ltb 0 (l * 16 + d) ≡ c → 0 < l * 16 + d → c ≡ true
        positive true r g = refl
        positive false r g = absurd (omega (arith, ltb-false 0 (l * 16 + d) r, g))
    by_cases false true p q = sym (nothing (ltb 0 (l * 16 + d)) refl)
      where
        nothing : (c : Bool) → ltb 0 (l * 16 + d) ≡ c → c ≡ false
        nothing true r = absurd (omega (arith, ltb-true 0 (l * 16 + d) r, ltb-false 0 l p, eqb-true d 0 q))
        nothing false r = refl
    by_cases false false p q = sym (some (ltb 0 (l * 16 + d)) refl)
      where
        some : (c : Bool) → ltb 0 (l * 16 + d) ≡ c → c ≡ true
        some true r = refl
        some false r = absurd (omega (arith, ltb-false 0 (l * 16 + d) r, eqb-false d 0 q))

pub dropped_digit : (s t : Significand) (m d : ℕ) → 2 ^ 56 ≤ s.head → d < 16 → t.head ≡ s.head → t.dropped ≡ s.dropped + 1 → t.more ≡ (s.more || not (eqb d 0)) → IsOf s m → IsOf t (m * 16 + d)
dropped_digit s t m d full D head dropped more (l, h) =
    let n = s.dropped in
    let step : 16 ^ (n + 1) ≡ 16 ^ n * 16 = pow-add 16 n 1 in (
      l * 16 + d,
      record {
        number_is = value m l d (16 ^ n) h.number_is ∙ ap (λ w. s.head * w + (l * 16 + d)) (sym step) ∙ ap (λ w. w * 16 ^ (n + 1) + (l * 16 + d)) (sym head) ∙ ap (λ k. t.head * 16 ^ k + (l * 16 + d)) (sym dropped);
        below = subst (λ k. l * 16 + d < 16 ^ k) (sym dropped) (subst (λ w. l * 16 + d < w) (sym step) (let b = h.below in omega (arith, b, D)));
        more = more_is 0 l d (s.more) true (t.more) h.more more;
        small = subst (λ w. w < 2 ^ 60) (sym head) h.small;
        full = λ some. subst (λ w. 2 ^ 56 ≤ w) (sym head) full;
      },
    )
  where
    value : (m l d p : ℕ) → m ≡ s.head * p + l → m * 16 + d ≡ s.head * (p * 16) + (l * 16 + d)
    value m l d p is = let a : s.head * (p * 16) ≡ s.head * p * 16 = sym (mul_assoc (s.head) p 16) in omega (arith, a, is)

-- ---- an exponent

empty : (xs : List ℕ) → length xs ≡ 0 → xs ≡ []
empty [] h = refl
empty (x ∷ xs) h = absurd (omega (arith, h))

capped : (v d cap : ℕ) → min (min v cap * 10 + d) cap ≡ min (v * 10 + d) cap
capped v d cap = omega arith

pub capped_decimal : (cap v : ℕ) (ds : List ℕ) → min (decimal (min v cap) ds) cap ≡ min (decimal v ds) cap
capped_decimal cap v [] = omega arith
capped_decimal cap v (b ∷ bs) =
    let x = min v cap * 10 + (b - 48) in
    sym (capped_decimal cap x bs) ∙ ap (λ w. min (decimal w bs) cap) (capped v (b - 48) cap) ∙ capped_decimal cap (v * 10 + (b - 48)) bs

pub next_decimal : (cap n next b : ℕ) (rest later whole : List ℕ) → next ≡ min (n * 10 + (b - 48)) cap → rest ≡ b ∷ later → min (decimal n rest) cap ≡ min (decimal 0 whole) cap
    → min (decimal next later) cap ≡ min (decimal 0 whole) cap
next_decimal cap n next b rest later whole step is h =
    ap (λ w. min (decimal w later) cap) step ∙ capped_decimal cap (n * 10 + (b - 48)) later ∙ sym (ap (λ l. min (decimal n l) cap) is) ∙ h

pub last_decimal : (cap n : ℕ) (rest whole : List ℕ) → n ≤ cap → length rest ≡ 0 → min (decimal n rest) cap ≡ min (decimal 0 whole) cap → n ≡ min (decimal 0 whole) cap
last_decimal cap n rest whole most is h = let a : min n cap ≡ n = omega (arith, most) in sym a ∙ sym (ap (λ l. min (decimal n l) cap) (empty rest is)) ∙ h

-- ---- the digits at the front of a text

abbrev pub Reads : Significand → Significand → List ℕ → List ℕ → Type 0
Reads start s rest text = (m : ℕ) → IsOf start m → (n : ℕ) × (IsOf s n × (number n rest ≡ number m text))

pub read_more : (start s t : Significand) (rest later text : List ℕ) (b d : ℕ) → rest ≡ b ∷ later → is_ascii_hexdigit b ≡ true → d ≡ digit b → Reads start s rest text → ((m : ℕ) → IsOf s m → IsOf t (m * 16 + d))
    → Reads start t later text
read_more start s t rest later text b d is hex same reads step = λ m h. go m (reads m h)
  where
    go : (m : ℕ) → (n : ℕ) × (IsOf s n × (number n rest ≡ number m text)) → (n : ℕ) × (IsOf t n × (number n later ≡ number m text))
    go m (n, (p, e)) = (
      n * 16 + d,
      (
        step n p,
        ap (λ w. number (n * 16 + w) later) same ∙ sym (ap (λ c. if c then number (n * 16 + digit b) later else n) hex) ∙ sym (ap (number n) is) ∙ e,
      ),
    )

pub read_to : (start s : Significand) (rest later text : List ℕ) (b : ℕ) → rest ≡ b ∷ later → is_ascii_hexdigit b ≡ false → Reads start s rest text → (m : ℕ) → IsOf start m → IsOf s (number m text)
read_to start s rest later text b is hex reads m h = go (reads m h)
  where
    go : (n : ℕ) × (IsOf s n × (number n rest ≡ number m text)) → IsOf s (number m text)
    go (n, (p, e)) = subst (IsOf s) (sym (ap (λ c. if c then number (n * 16 + digit b) later else n) hex) ∙ sym (ap (number n) is) ∙ e) p

pub read_all : (start s : Significand) (rest text : List ℕ) → length rest ≡ 0 → Reads start s rest text → (m : ℕ) → IsOf start m → IsOf s (number m text)
read_all start s rest text is reads m h = go (reads m h)
  where
    go : (n : ℕ) × (IsOf s n × (number n rest ≡ number m text)) → IsOf s (number m text)
    go (n, (p, e)) = subst (IsOf s) (sym (ap (number n) (empty rest is)) ∙ e) p

pub begins : (start : Significand) (text : List ℕ) → Reads start start text text
begins start text = λ m h. (m, (h, refl))

pub still_behind : (rest later text : List ℕ) (b : ℕ) → rest ≡ b ∷ later → is_ascii_hexdigit b ≡ false → behind rest ≡ behind text → rest ≡ behind text
still_behind rest later text b is hex e = is ∙ sym (ap (λ c. if c then behind later else b ∷ later) hex) ∙ sym (ap behind is) ∙ e

pub later_behind : (rest later text : List ℕ) (b : ℕ) → rest ≡ b ∷ later → is_ascii_hexdigit b ≡ true → behind rest ≡ behind text → behind later ≡ behind text
later_behind rest later text b is hex e = sym (ap (λ c. if c then behind later else b ∷ later) hex) ∙ sym (ap behind is) ∙ e

-- ---- how many digits of base 2

pub size_by : (n z j : ℕ) → z + suc j ≡ 64 → 2 ^ j ≤ n → n < 2 ^ suc j → 64 - z ≡ size n
size_by n z j sum least most =
    let is : size n ≡ suc j = between n (suc j) (omega arith) (subst (λ w. 2 ^ w ≤ n) (pred j) least) most in
    omega (arith, is, sum)
  where
    pred : (j : ℕ) → j ≡ suc j - 1
    pred j = omega arith

-- ---- rounding

pub without_more : (l : ℕ) → false ≡ nat_lt 0 l → l ≡ 0
without_more l h = omega (arith, ltb-false 0 l (sym h))

pub with_more : (l : ℕ) → true ≡ nat_lt 0 l → 0 < l
with_more l h = ltb-true 0 l (sym h)

-- ---- what holds of a significand of some number

pub small_head : (s : Significand) (m : ℕ) → IsOf s m → s.head < 2 ^ 60
small_head s m (l, h) = h.small

pub full_head : (s : Significand) (m : ℕ) → IsOf s m → s.more ≡ true → 2 ^ 56 ≤ s.head
full_head s m (l, h) more = h.full (some (s.dropped) l (with_more l (sym more ∙ h.more)) h.below)
  where
    some : (n l : ℕ) → 0 < l → l < 16 ^ n → 0 < n
    some zero l p b = let c : l < 1 = b in absurd (omega (arith, p, c))
    some (suc n) l p b = omega arith

pub no_head : (s : Significand) (m : ℕ) → s.head ≡ 0 → IsOf s m → m ≡ 0
no_head s m zero_head (l, h) = go (s.dropped) l h.full h.below h.number_is
  where
    go : (n l : ℕ) → (0 < n → 2 ^ 56 ≤ s.head) → l < 16 ^ n → m ≡ s.head * 16 ^ n + l → m ≡ 0
    go zero l full b is = let c : l < 1 = b in let d : m ≡ s.head * 1 + l = is in omega (arith, c, d, zero_head)
    go (suc n) l full b is = absurd (omega (arith, full (omega arith), zero_head))

pub sixteen_pos : (n : ℕ) → 0 < 16 ^ n
sixteen_pos n = one-le-pow n 16 (zero-lt-suc 15)

pub some_number : (s : Significand) (m : ℕ) → 0 < s.head → IsOf s m → 0 < m
some_number s m some (l, h) =
    let a : 1 * 16 ^ s.dropped ≤ s.head * 16 ^ s.dropped = mul-le-mul_right (16 ^ s.dropped) some in
    let is = h.number_is in
    let p = sixteen_pos (s.dropped) in
    omega (arith, a, is, p)

pub hex_power : (n : ℕ) → 2 ^ (4 * n) ≡ 16 ^ n
hex_power zero = refl
hex_power (suc n) =
    let sum : 4 * suc n ≡ 4 * n + 4 = omega arith in
    ap (λ w. 2 ^ w) sum ∙ pow-add 2 (4 * n) 4 ∙ ap (λ w. w * 16) (hex_power n) ∙ sym (pow-suc 16 n)

pub number_below : (s : Significand) (m : ℕ) → IsOf s m → m < 2 ^ (60 + 4 * s.dropped)
number_below s m (l, h) =
    let c = 16 ^ s.dropped in
    let next : suc (s.head) * c ≤ 2 ^ 60 * c = mul-le-mul_right c h.small in
    let sum : suc (s.head) * c ≡ s.head * c + c = suc-mul (s.head) c in
    let is = h.number_is in
    let under = h.below in
    subst (λ w. m < w) (sym (pow-add 2 60 (4 * s.dropped) ∙ ap (λ w. 2 ^ 60 * w) (hex_power (s.dropped)))) (omega (arith, next, sum, is, under))

-- the fraction in units of a format's least value
pub in_least : (H l d up down n low a b m : ℕ) → m ≡ H * 16 ^ d + l → a ≡ up + 4 * d + low → b ≡ down + 4 * n → m * 2 ^ up * 2 ^ low * (16 ^ d * 2 ^ b) ≡ (H * 16 ^ d + l) * 2 ^ a * (2 ^ down * 16 ^ n)
in_least H l d up down n low a b m is above below =
    let first : 2 ^ a ≡ 2 ^ up * 16 ^ d * 2 ^ low = ap (λ w. 2 ^ w) above ∙ pow-add 2 (up + 4 * d) low ∙ ap (λ w. w * 2 ^ low) (pow-add 2 up (4 * d) ∙ ap (λ w. 2 ^ up * w) (hex_power d)) in
    let second : 2 ^ b ≡ 2 ^ down * 16 ^ n = ap (λ w. 2 ^ w) below ∙ pow-add 2 down (4 * n) ∙ ap (λ w. 2 ^ down * w) (hex_power n) in
    moved m (2 ^ up) (2 ^ low) (16 ^ d) (2 ^ b) ∙ ap (λ w. m * (2 ^ up * 16 ^ d * 2 ^ low) * w) second ∙ ap (λ w. m * w * (2 ^ down * 16 ^ n)) (sym first) ∙ ap (λ w. w * 2 ^ a * (2 ^ down * 16 ^ n)) is
  where
    moved : (m p q r t : ℕ) → m * p * q * (r * t) ≡ m * (p * r * q) * t
    moved m p q r t =
        sym (mul_assoc (m * p * q) r t) ∙ ap (λ w. w * t) (mul_assoc (m * p) q r ∙ mul_assoc m p (q * r) ∙ ap (λ w. m * w) (sym (mul_assoc p q r) ∙ mul_right_comm p q r))

-- ---- how much is kept

pub no_more_digits : (H a b k p : ℕ) → k ≡ H + a - b - p → 0 < H → b + k ≤ a → (H ≤ p) × (a - b - k ≤ p - H)
no_more_digits H a b k p is some within = (omega (arith, is, some, within), omega (arith, is, some, within))

pub is_false : (b : Bool) → (b ≡ true → ⊥) → b ≡ false
is_false true h = absurd (h refl)
is_false false h = refl

pub exact_head : (H z a b k p : ℕ) (more : Bool) → H < 2 ^ z → k ≡ z + a - b - p → 0 < z → p ≤ 53 → (more ≡ true → 2 ^ 56 ≤ H) → b + k ≤ a → more ≡ false
exact_head H z a b k p more under is some small full within =
    let few = no_more_digits z a b k p is some within in
    let bound : H < 2 ^ 53 = lt_of_lt_of_le under (pow_mono {i = z} {j = 53} (omega (arith, few.0, small))) in
    is_false more (λ t. absurd (omega (arith, bound, full t)))

pub shifted_head : (H z a b k p : ℕ) → H < 2 ^ z → k ≡ z + a - b - p → 0 < z → p ≤ 53 → b + k ≤ a → (a - b - k < 64) × (H * 2 ^ (a - b - k) < 2 ^ 64)
shifted_head H z a b k p under is some small within =
    let few = no_more_digits z a b k p is some within in
    let t = a - b - k in
    let wide : H * 2 ^ t < 2 ^ (z + t) = shl_lt {a = H} z t under in
    (omega (arith, few.1, small, some), lt_of_lt_of_le wide (pow_mono {i = z + t} {j = 64} (omega (arith, few.0, few.1, small))))

pub huge_bits : (p : Precision) (q k : ℕ) → 2047 ≤ k → ones (format p) * hid (format p) ≡ scaled_bits (format p) q k
huge_bits Single q k h = omega (arith, h)
huge_bits Double q k h = omega (arith, h)

pub few_digits : (p : Precision) → prec (format p) ≤ 53
few_digits Single = omega arith
few_digits Double = omega arith

pub bits_within : (p : Precision) (q k : ℕ) → scaled_bits (format p) q k ≤ ones (format p) * hid (format p)
bits_within p q k = least (k * hid (format p) + q) (ones (format p) * hid (format p))
  where
    least : (a b : ℕ) → min a b ≤ b
    least a b = omega arith

-- one number that a significand may be cut from
abbrev pub cut_off : Bool → ℕ
cut_off b = if b then 1 else 0

pub cut_is : (b : Bool) → b ≡ nat_lt 0 (cut_off b)
cut_is true = refl
cut_is false = refl

pub cut_below : (b : Bool) → cut_off b < 2
cut_below true = omega arith
cut_below false = omega arith

pub kept_within : (p : Precision) (H l a b k q : ℕ) → l < 2 → 0 < H → k ≡ size H + a - b - prec (format p) → q ≡ closest ((H * 2 + l) * 2 ^ a) (2 * 2 ^ b * 2 ^ k) → q ≤ 2 ^ 53
kept_within p H l a b k q h some is at =
    let most = (kept_of (format p) H l 2 a b k (omega arith) h (size_above H 0 some) is).0 in
    le_trans (subst (λ w. w ≤ 2 ^ prec (format p)) (sym at) most) (pow_mono (few_digits p))

pub pattern_is : (p : Precision) (num den H l c a b k q r : ℕ) → 0 < den → 0 < c → l < c → 0 < H → k ≡ size H + a - b - prec (format p) → q ≡ closest ((H * c + l) * 2 ^ a) (c * 2 ^ b * 2 ^ k)
    → r ≡ scaled_bits (format p) q k → num * 2 ^ low (format p) * (c * 2 ^ b) ≡ (H * c + l) * 2 ^ a * den → of_bits (format p) r ≡ round (format p) false num den
pattern_is p num den H l c a b k q r D C h some is at bits eq =
    let f = format p in
    let x = closest ((H * c + l) * 2 ^ a) (c * 2 ^ b * 2 ^ k) in
    let kept = kept_of f H l c a b k C h (size_above H 0 some) is in
    ap (of_bits f) (bits ∙ ap (λ w. scaled_bits f w k) at) ∙ of_bits-scaled_bits f x k kept.0 kept.1 ∙ sym (rounded_by f num den H l c a b k D C h (size_above H 0 some) eq is)

-- ---- how many digits stand at the front

counted_step : (b : ℕ) (bs : List ℕ) (c : Bool) → many bs + length (behind bs) ≡ length bs → (if c then suc (many bs) else 0) + length (if c then behind bs else b ∷ bs) ≡ suc (length bs)
counted_step b bs true h = omega (arith, h)
counted_step b bs false h = omega arith

pub all_counted : (text : List ℕ) → many text + length (behind text) ≡ length text
all_counted [] = refl
all_counted (b ∷ bs) = counted_step b bs (is_ascii_hexdigit b) (all_counted bs)

zero_times : (h p : ℕ) → h ≡ 0 → 0 ≡ h * p + 0
zero_times h p e = let z : h * p ≡ 0 = ap (λ w. w * p) e ∙ zero-mul p in omega (arith, z)

pub none_yet : (s : Significand) → s.head ≡ 0 → s.dropped ≡ 0 → s.more ≡ false → IsOf s 0
none_yet s head dropped more = (
  0,
  record {
    number_is = zero_times (s.head) (16 ^ s.dropped) head;
    below = sixteen_pos (s.dropped);
    more = more;
    small = omega (arith, head);
    full = λ some. absurd (omega (arith, some, dropped));
  },
)
