-- What spells a conversion is read as that, whatever stands behind.
use Rattle.std.specs.Prelude.{◌≡◌, ◌≤◌, ◌-◌, ℕ, min, Bool, true, false, not, ◌&&◌, ◌||◌, ◌==◌, nat_le, List, [], ◌∷◌, ◌++◌, length, drop, Option, Some, None}
use Rattle.std.proofs.Common.{refl, ap, sym, subst, ◌∙◌, arith}
use Rattle.std.proofs.lemmas.Bool.{eqb-true, leb-true, not-true, ne_eqb, and_parts}
use Rattle.std.proofs.lemmas.List.{append_assoc, length-append}
use Rattle.std.specs.List.{list_all}
use Rattle.std.specs.Char.{is_ascii_digit}
use Rattle.k_shaped.specs.declared.shape.Shape.{Shape}
use Rattle.k_shaped.specs.declared.shape.Length.{Length}
use Rattle.k_shaped.specs.declared.shape.Length.TheVariants.{Plain, Char, Short, Long, LongLong, Size, Greatest, Difference}
use Rattle.k_shaped.specs.declared.shape.Conversion.{Conversion}
use Rattle.k_shaped.specs.Letters.{is_signed, is_based, is_whole, is_fixed, is_scientific, is_real, is_number}
use Rattle.k_shaped.specs.Accepted.{is_small, is_letter, have_flags, has_precision, has_length, stands_alone, is_accepted}
use Rattle.k_shaped.specs.Spelling.{is_flag, has, value, spelling, AreDigits, BeginsAboveZero, SpellsPrecision, Spells}
use Rattle.k_shaped.specs.Reading.{front, behind, number, flagged, behind_flags, behind_digits, precision, behind_precision, begins, length_from, length_at, bytes_of, shape_of, kept, ended, with_length, read}
use Rattle.k_shaped.specs.ShapedLaws.{SpelledAreRead, SpelledOnce}

-- ---- the bytes at the front that pass a test

-- the first byte fails it, or there is none
unfoldable pub stops : (ℕ → Bool) → List ℕ → Bool
stops p [] = true
stops p (b ∷ bs) = not (p b)

pub front_of : (p : ℕ → Bool) (xs ys : List ℕ) → list_all p xs ≡ true → stops p ys ≡ true → front p (xs ++ ys) ≡ xs
unfolding stops
front_of p [] [] a s = refl
front_of p [] (y ∷ ys) a s = let e : p y ≡ false = not-true (p y) s in rw e refl
front_of p (x ∷ xs) ys a s =
    let e : p x ≡ true = (and_parts (p x) (list_all p xs) a).0 in
    rw e (ap (λ l. x ∷ l) (front_of p xs ys (and_parts (p x) (list_all p xs) a).1 s))

pub behind_of : (p : ℕ → Bool) (xs ys : List ℕ) → list_all p xs ≡ true → stops p ys ≡ true → behind p (xs ++ ys) ≡ ys
unfolding stops
behind_of p [] [] a s = refl
behind_of p [] (y ∷ ys) a s = let e : p y ≡ false = not-true (p y) s in rw e refl
behind_of p (x ∷ xs) ys a s =
    let e : p x ≡ true = (and_parts (p x) (list_all p xs) a).0 in
    rw e (behind_of p xs ys (and_parts (p x) (list_all p xs) a).1 s)

-- ---- a letter is no byte of what stands before it

-- no flag, no digit, no point, and no byte of a length
pub is_other : ℕ → Bool
is_other c =
    not (is_flag c) && (not (is_ascii_digit c) && (not (c == 46) && (not (c == 104) && (not (c == 108) && (not (c == 122) && (not (c == 106) && not (c == 116)))))))

either : (P : Type 0) (a b : Bool) → (a || b) ≡ true → (a ≡ true → P) → (b ≡ true → P) → P
either P true b e f g = f refl
either P false b e f g = g e

other_at : (k : ℕ) → is_other k ≡ true → (c : ℕ) → (c == k) ≡ true → is_other c ≡ true
other_at k o c e = subst (λ d. is_other d ≡ true) (sym (eqb-true c k e)) o

whole_other : (c : ℕ) → is_whole c ≡ true → is_other c ≡ true
unfolding is_whole is_signed is_based is_other is_flag
whole_other c e =
    either _ ((c == 100 || c == 105) || c == 117) ((c == 111 || c == 120) || c == 88) e
    (λ e. either _ (c == 100 || c == 105) (c == 117) e (λ e. either _ (c == 100) (c == 105) e (other_at 100 refl c) (other_at 105 refl c)) (other_at 117 refl c))
    (λ e. either _ (c == 111 || c == 120) (c == 88) e (λ e. either _ (c == 111) (c == 120) e (other_at 111 refl c) (other_at 120 refl c)) (other_at 88 refl c))

real_other : (c : ℕ) → is_real c ≡ true → is_other c ≡ true
unfolding is_real is_fixed is_scientific is_other is_flag
real_other c e =
    either _ (((c == 102 || c == 70) || (c == 101 || c == 69)) || c == 103) (c == 71) e
    (λ e. either _ ((c == 102 || c == 70) || (c == 101 || c == 69)) (c == 103) e
    (λ e. either _ (c == 102 || c == 70) (c == 101 || c == 69) e
    (λ e. either _ (c == 102) (c == 70) e (other_at 102 refl c) (other_at 70 refl c))
    (λ e. either _ (c == 101) (c == 69) e (other_at 101 refl c) (other_at 69 refl c)))
    (other_at 103 refl c))
    (other_at 71 refl c)

pub letter_other : (c : ℕ) → is_letter c ≡ true → is_other c ≡ true
unfolding is_letter is_number is_other is_flag
letter_other c e =
    either _ (((is_whole c || is_real c) || c == 99) || c == 115) (c == 37) e
    (λ e. either _ ((is_whole c || is_real c) || c == 99) (c == 115) e
    (λ e. either _ (is_whole c || is_real c) (c == 99) e (λ e. either _ (is_whole c) (is_real c) e (whole_other c) (real_other c)) (other_at 99 refl c))
    (other_at 115 refl c))
    (other_at 37 refl c)

-- what a byte is not, one by one
pub record Other (c : ℕ) : Type 0 where
  pub flag : is_flag c ≡ false
  pub digit : is_ascii_digit c ≡ false
  pub point : (c == 46) ≡ false
  pub h : (c == 104) ≡ false
  pub l : (c == 108) ≡ false
  pub z : (c == 122) ≡ false
  pub j : (c == 106) ≡ false
  pub t : (c == 116) ≡ false

pub other : (c : ℕ) → is_other c ≡ true → Other c
unfolding is_other
other c e0 =
    let p0 = and_parts (not (is_flag c)) _ e0 in
    let p1 = and_parts (not (is_ascii_digit c)) _ p0.1 in
    let p2 = and_parts (not (c == 46)) _ p1.1 in
    let p3 = and_parts (not (c == 104)) _ p2.1 in
    let p4 = and_parts (not (c == 108)) _ p3.1 in
    let p5 = and_parts (not (c == 122)) _ p4.1 in
    let p6 = and_parts (not (c == 106)) _ p5.1 in
    record {
      flag = not-true (is_flag c) p0.0;
      digit = not-true (is_ascii_digit c) p1.0;
      point = not-true (c == 46) p2.0;
      h = not-true (c == 104) p3.0;
      l = not-true (c == 108) p4.0;
      z = not-true (c == 122) p5.0;
      j = not-true (c == 106) p6.0;
      t = not-true (c == 116) p6.1;
    }

-- ---- where a part stops

long_stops : (q : ℕ → Bool) (l : Length) (c : ℕ) (rest : List ℕ) → q 104 ≡ false → q 108 ≡ false → q 122 ≡ false → q 106 ≡ false → q 116 ≡ false → q c ≡ false
    → stops q (spelling l ++ c ∷ rest) ≡ true
unfolding stops
long_stops q Plain c rest eh el ez ej et e = ap not e
long_stops q Char c rest eh el ez ej et e = ap not eh
long_stops q Short c rest eh el ez ej et e = ap not eh
long_stops q Long c rest eh el ez ej et e = ap not el
long_stops q LongLong c rest eh el ez ej et e = ap not el
long_stops q Size c rest eh el ez ej et e = ap not ez
long_stops q Greatest c rest eh el ez ej et e = ap not ej
long_stops q Difference c rest eh el ez ej et e = ap not et

precise_stops : (q : ℕ → Bool) (bytes : List ℕ) (o : Option ℕ) (t : List ℕ) → SpellsPrecision bytes o → q 46 ≡ false → stops q t ≡ true → stops q (bytes ++ t) ≡ true
unfolding stops
precise_stops q bytes None t h e s = subst (λ b. stops q (b ++ t) ≡ true) (sym h) s
precise_stops q bytes (Some p) t h e s = subst (λ b. stops q (b ++ t) ≡ true) (sym h.1) (ap not e)

digit_no_flag : (d : ℕ) → is_ascii_digit d ≡ true → (d == 48) ≡ false → is_flag d ≡ false
unfolding is_flag
digit_no_flag d a e =
    let low : 48 ≤ d = leb-true 48 d (and_parts (nat_le 48 d) (nat_le d 57) a).0 in
    let a45 : (d == 45) ≡ false = ne_eqb d 45 (λ k. omega (arith, k)) in
    let a43 : (d == 43) ≡ false = ne_eqb d 43 (λ k. omega (arith, k)) in
    let a32 : (d == 32) ≡ false = ne_eqb d 32 (λ k. omega (arith, k)) in
    let a35 : (d == 35) ≡ false = ne_eqb d 35 (λ k. omega (arith, k)) in
    rw (a45, a43, a32, a35, e) refl

width_stops : (w t : List ℕ) → AreDigits w → BeginsAboveZero w → stops is_flag t ≡ true → stops is_flag (w ++ t) ≡ true
unfolding stops
width_stops [] t a b s = s
width_stops (d ∷ ds) t a b s = ap not (digit_no_flag d (and_parts (is_ascii_digit d) (list_all is_ascii_digit ds) a).0 b)

-- ---- each part is read

number_of : (ds t : List ℕ) (n : ℕ) → AreDigits ds → stops is_ascii_digit t ≡ true → n ≡ value 0 ds → n ≤ 4095 → number (ds ++ t) ≡ n
unfolding number
number_of ds t n a s e h =
    ap (λ l. min 4096 (value 0 l)) (front_of is_ascii_digit ds t a s) ∙ subst (λ v. min 4096 v ≡ n) e (omega (arith, h))

flagged_of : (f : ℕ) (fs t : List ℕ) → list_all is_flag fs ≡ true → stops is_flag t ≡ true → flagged f (fs ++ t) ≡ has f fs
unfolding flagged
flagged_of f fs t a s = ap (has f) (front_of is_flag fs t a s)

behind_flags_of : (fs t : List ℕ) → list_all is_flag fs ≡ true → stops is_flag t ≡ true → behind_flags (fs ++ t) ≡ t
unfolding behind_flags
behind_flags_of fs t a s = behind_of is_flag fs t a s

behind_digits_of : (ds t : List ℕ) → AreDigits ds → stops is_ascii_digit t ≡ true → behind_digits (ds ++ t) ≡ t
unfolding behind_digits
behind_digits_of ds t a s = behind_of is_ascii_digit ds t a s

is_point : ℕ → Bool
is_point b = b == 46

no_precision : (t : List ℕ) → stops is_point t ≡ true → (precision t ≡ None) × (behind_precision t ≡ t)
unfolding stops precision behind_precision is_point
no_precision [] s = (refl, refl)
no_precision (b ∷ t) s = let e : (b == 46) ≡ false = not-true (b == 46) s in (rw e refl, rw e refl)

small_precision : (p : ℕ) → is_small (Some p) ≡ true → p ≤ 4095
unfolding is_small
small_precision p e = leb-true p 4095 e

precision_of : (bytes : List ℕ) (o : Option ℕ) (t : List ℕ) → SpellsPrecision bytes o → is_small o ≡ true → stops is_ascii_digit t ≡ true → stops is_point t ≡ true
    → (precision (bytes ++ t) ≡ o) × (behind_precision (bytes ++ t) ≡ t)
unfolding precision behind_precision
precision_of bytes None t h e s q = subst (λ b. (precision (b ++ t) ≡ None) × (behind_precision (b ++ t) ≡ t)) (sym h) (no_precision t q)
precision_of bytes (Some p) t h e s q =
    subst (λ b. (precision (b ++ t) ≡ Some p) × (behind_precision (b ++ t) ≡ t)) (sym h.1)
    (ap Some (number_of h.0 t p h.2 s h.3 (small_precision p e)), behind_digits_of h.0 t h.2 s)

length_of : (l : Length) (c : ℕ) (rest : List ℕ) → Other c → (length_at (spelling l ++ c ∷ rest) ≡ l) × (drop (bytes_of l) (spelling l ++ c ∷ rest) ≡ c ∷ rest)
unfolding length_at length_from begins bytes_of
length_of Plain c rest o = (rw (o.h, o.l, o.z, o.j, o.t) refl, refl)
length_of Char c rest o = (refl, refl)
length_of Short c rest o = (rw o.h refl, refl)
length_of Long c rest o = (rw o.l refl, refl)
length_of LongLong c rest o = (refl, refl)
length_of Size c rest o = (refl, refl)
length_of Greatest c rest o = (refl, refl)
length_of Difference c rest o = (refl, refl)

-- ---- what a conversion that is accepted is

pub record Fits (s : Shape) : Type 0 where
  pub letter : is_letter s.conversion ≡ true
  pub width : s.width ≤ 4095
  pub precision : is_small s.precision ≡ true

pub fits : (s : Shape) (l : Length) → is_accepted s l ≡ true → Fits s
unfolding is_accepted
fits s l e =
    let c = s.conversion in
    let a = and_parts ((((is_letter c && (nat_le s.width 4095 && is_small s.precision)) && have_flags s) && has_precision s) && has_length c l) (stands_alone s) e in
    let b = and_parts (((is_letter c && (nat_le s.width 4095 && is_small s.precision)) && have_flags s) && has_precision s) (has_length c l) a.0 in
    let d = and_parts ((is_letter c && (nat_le s.width 4095 && is_small s.precision)) && have_flags s) (has_precision s) b.0 in
    let f = and_parts (is_letter c && (nat_le s.width 4095 && is_small s.precision)) (have_flags s) d.0 in
    let g = and_parts (is_letter c) (nat_le s.width 4095 && is_small s.precision) f.0 in
    let h = and_parts (nat_le s.width 4095) (is_small s.precision) g.1 in
    record { letter = g.0; width = leb-true s.width 4095 h.0; precision = h.1 }

-- ---- the whole

-- the text is in five parts, and each is read
record Parts (s : Shape) (l : Length) (text sized precise long rest : List ℕ) : Type 0 where
  flags : behind_flags text ≡ sized
  digits : behind_digits sized ≡ precise
  point : behind_precision precise ≡ long
  size : length_at long ≡ l
  last : drop (bytes_of l) long ≡ s.conversion ∷ rest
  minus : flagged 45 text ≡ s.minus
  plus : flagged 43 text ≡ s.plus
  space : flagged 32 text ≡ s.space
  hash : flagged 35 text ≡ s.hash
  zero : flagged 48 text ≡ s.zero
  width : number sized ≡ s.width
  precision : precision precise ≡ s.precision

same_shape : (s : Shape) (l : Length) (text sized precise long rest : List ℕ) → Parts s l text sized precise long rest → shape_of text sized precise s.conversion ≡ s
unfolding shape_of
same_shape s l text sized precise long rest h =
    λ i. record { conversion = s.conversion; minus = h.minus i; plus = h.plus i; space = h.space i; hash = h.hash i; zero = h.zero i; width = h.width i; precision = h.precision i }

kept_so : (s : Shape) (l : Length) (used : ℕ) → is_accepted s l ≡ true → kept s l used ≡ Some (record { shape = s; length = l; used = used })
unfolding kept
kept_so s l used e = rw e refl

ended_so : (s : Shape) (l : Length) (text sized precise rest : List ℕ) (c : ℕ) → shape_of text sized precise c ≡ s → is_accepted s l ≡ true
    → ended text sized precise l (c ∷ rest) ≡ Some (record { shape = s; length = l; used = length text - length rest })
unfolding ended
ended_so s l text sized precise rest c e a = ap (λ r. kept r l (length text - length rest)) e ∙ kept_so s l (length text - length rest) a

read_so : (s : Shape) (l : Length) (text sized precise long rest : List ℕ) → Parts s l text sized precise long rest → is_accepted s l ≡ true
    → read text ≡ Some (record { shape = s; length = l; used = length text - length rest })
unfolding read with_length
read_so s l text sized precise long rest h a =
    let e0 = h.flags in
    let e1 : behind_digits (behind_flags text) ≡ precise = ap behind_digits e0 ∙ h.digits in
    let e2 : behind_precision (behind_digits (behind_flags text)) ≡ long = ap behind_precision e1 ∙ h.point in
    ap (λ x. with_length text x (behind_digits x) (behind_precision (behind_digits x))) e0
    ∙ ap (λ x. with_length text sized x (behind_precision x)) h.digits
    ∙ ap (λ x. with_length text sized precise x) h.point
    ∙ ap (λ m. ended text sized precise m (drop (bytes_of m) long)) h.size
    ∙ ap (ended text sized precise l) h.last
    ∙ ended_so s l text sized precise rest s.conversion (same_shape s l text sized precise long rest h) a

parts_of : (s : Shape) (l : Length) (bytes rest : List ℕ) (h : Spells bytes s l)
    → Parts s l (h.flags ++ (h.width ++ (h.precision ++ (spelling l ++ s.conversion ∷ rest)))) (h.width ++ (h.precision ++ (spelling l ++ s.conversion ∷ rest)))
    (h.precision ++ (spelling l ++ s.conversion ∷ rest)) (spelling l ++ s.conversion ∷ rest) rest
unfolding is_flag is_point
parts_of s l bytes rest h =
    let c = s.conversion in
    let k = fits s l h.accepted in
    let o = other c (letter_other c k.letter) in
    let long = spelling l ++ c ∷ rest in
    let precise = h.precision ++ long in
    let sized = h.width ++ precise in
    let flag3 : stops is_flag long ≡ true = long_stops is_flag l c rest refl refl refl refl refl o.flag in
    let digit3 : stops is_ascii_digit long ≡ true = long_stops is_ascii_digit l c rest refl refl refl refl refl o.digit in
    let point3 : stops is_point long ≡ true = long_stops is_point l c rest refl refl refl refl refl o.point in
    let flag2 : stops is_flag precise ≡ true = precise_stops is_flag h.precision s.precision long h.precision_is refl flag3 in
    let digit2 : stops is_ascii_digit precise ≡ true = precise_stops is_ascii_digit h.precision s.precision long h.precision_is refl digit3 in
    let flag1 : stops is_flag sized ≡ true = width_stops h.width precise h.width_digits h.width_begins flag2 in
    let p = precision_of h.precision s.precision long h.precision_is k.precision digit3 point3 in
    let m = length_of l c rest o in
    record {
      flags = behind_flags_of h.flags sized h.are_flags flag1;
      digits = behind_digits_of h.width precise h.width_digits digit2;
      point = p.1;
      size = m.0;
      last = m.1;
      minus = flagged_of 45 h.flags sized h.are_flags flag1 ∙ sym h.minus;
      plus = flagged_of 43 h.flags sized h.are_flags flag1 ∙ sym h.plus;
      space = flagged_of 32 h.flags sized h.are_flags flag1 ∙ sym h.space;
      hash = flagged_of 35 h.flags sized h.are_flags flag1 ∙ sym h.hash;
      zero = flagged_of 48 h.flags sized h.are_flags flag1 ∙ sym h.zero;
      width = number_of h.width precise s.width h.width_digits digit2 h.width_is k.width;
      precision = p.0;
    }

regrouped : (a b c d : List ℕ) (x : ℕ) (rest : List ℕ) → (a ++ (b ++ (c ++ (d ++ x ∷ [])))) ++ rest ≡ a ++ (b ++ (c ++ (d ++ x ∷ rest)))
regrouped a b c d x rest = simp append_assoc

pub spelled_are_read : SpelledAreRead
spelled_are_read bytes rest s l h =
    let text = h.flags ++ (h.width ++ (h.precision ++ (spelling l ++ s.conversion ∷ rest))) in
    let whole : bytes ++ rest ≡ text = ap (λ b. b ++ rest) h.spelled ∙ regrouped h.flags h.width h.precision (spelling l) s.conversion rest in
    let used : length text - length rest ≡ length bytes = omega (arith, ap length whole, length-append bytes rest) in
    ap read whole ∙ read_so s l text _ _ _ rest (parts_of s l bytes rest h) h.accepted ∙ ap (λ (n : ℕ). Some (record { shape = s; length = l; used = n })) used

abbrev conversion : Shape → Length → ℕ → Conversion
conversion s l n = record { shape = s; length = l; used = n }

pub spelled_once : SpelledOnce
spelled_once a b c d s t l m e h k =
    let q : Some (conversion s l (length a)) ≡ Some (conversion t m (length c)) = sym (spelled_are_read a b s l h) ∙ ap read e ∙ spelled_are_read c d t m k in
    let r : conversion s l (length a) ≡ conversion t m (length c) = cc in
    (ap (λ (x : Conversion). x.shape) r, ap (λ (x : Conversion). x.length) r, ap (λ (x : Conversion). x.used) r)
