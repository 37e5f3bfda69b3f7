-- What a spelling is, by its first byte.
use Rattle.std.proofs.Common.{◌≡◌, ℕ, ◌<◌, Bool, true, false, not, ◌&&◌, ◌||◌, eqb, List, [], ◌∷◌, refl, sym, ap}
use Rattle.std.proofs.lemmas.Bool.{and_left, and_right, or_parts, or_from, false≢true, agree_below, agree_below_at}
use Rattle.k_lex_pieces.specs.declared.pieces.Piece.TheVariants as p
use Rattle.k_lex_pieces.specs.Bytes.{is_letter, is_digit, in_name, is_blank, every, same}
use Rattle.k_lex_pieces.specs.Marks.{marks, mark_of}
use Rattle.k_lex_pieces.specs.Pieces
use Rattle.k_lex_pieces.proofs.Tables.{no_key, all_keys}

-- ---- by the tests in their order

pub class_name : (s : List ℕ) → Pieces.is_name s ≡ true → Pieces.class_of s ≡ p.Name
class_name s h = rw h refl

pub class_number : (s : List ℕ) → Pieces.is_name s ≡ false → Pieces.is_number s ≡ true → Pieces.class_of s ≡ p.Number
class_number s n h = rw (n, h) refl

pub class_character : (s : List ℕ) → Pieces.is_name s ≡ false → Pieces.is_number s ≡ false → Pieces.is_character s ≡ true → Pieces.class_of s ≡ p.Character
class_character s n m h = rw (n, m, h) refl

pub class_string : (s : List ℕ) → Pieces.is_name s ≡ false → Pieces.is_number s ≡ false → Pieces.is_character s ≡ false → Pieces.is_string s ≡ true → Pieces.class_of s ≡ p.Str
class_string s n m c h = rw (n, m, c, h) refl

pub class_comment : (s : List ℕ) → Pieces.is_name s ≡ false → Pieces.is_number s ≡ false → Pieces.is_character s ≡ false → Pieces.is_string s ≡ false → Pieces.is_comment s ≡ true → Pieces.class_of s ≡ p.Comment
class_comment s n m c t h = rw (n, m, c, t, h) refl

pub class_blank : (s : List ℕ) → Pieces.is_name s ≡ false → Pieces.is_number s ≡ false → Pieces.is_character s ≡ false → Pieces.is_string s ≡ false → Pieces.is_comment s ≡ false → Pieces.is_blank_piece s ≡ true → Pieces.class_of s ≡ p.Blank
class_blank s n m c t o h = rw (n, m, c, t, o, h) refl

pub class_mark : (s : List ℕ) → Pieces.is_name s ≡ false → Pieces.is_number s ≡ false → Pieces.is_character s ≡ false → Pieces.is_string s ≡ false → Pieces.is_comment s ≡ false → Pieces.is_blank_piece s ≡ false → same s (10 ∷ []) ≡ false → Pieces.class_of s ≡ Pieces.mark_piece (mark_of s)
class_mark s n m c t o b l = rw (n, m, c, t, o, b, l) refl

-- ---- tests that the first byte fails

pub not_name : (b : ℕ) (t : List ℕ) → is_letter b ≡ false → Pieces.is_name (b ∷ t) ≡ false
not_name b t h = and_left (is_letter b) (every in_name t) h

pub not_number : (b : ℕ) (t : List ℕ) → is_digit b ≡ false → eqb b 46 ≡ false → Pieces.is_number (b ∷ t) ≡ false
not_number b [] h g = h
not_number b (c ∷ t) h g = and_left (is_digit b || (eqb b 46 && is_digit c)) _ (or_from _ _ h (and_left (eqb b 46) (is_digit c) g))

pub not_character : (b : ℕ) (t : List ℕ) → eqb b 39 ≡ false → Pieces.is_character (b ∷ t) ≡ false
not_character b t h = and_left (eqb b 39 && Pieces.closes 39 false t) _ (and_left (eqb b 39) _ h)

pub not_string : (b : ℕ) (t : List ℕ) → eqb b 34 ≡ false → Pieces.is_string (b ∷ t) ≡ false
not_string b t h = and_left (eqb b 34) _ h

pub not_comment : (b : ℕ) (t : List ℕ) → eqb b 47 ≡ false → Pieces.is_comment (b ∷ t) ≡ false
not_comment b [] h = refl
not_comment b (c ∷ t) h = and_left (eqb b 47) _ h

pub not_blank : (b : ℕ) (t : List ℕ) → is_blank b ≡ false → Pieces.is_blank_piece (b ∷ t) ≡ false
not_blank b t h = and_right (same t []) (is_blank b) h

pub not_newline : (b : ℕ) (t : List ℕ) → eqb b 10 ≡ false → same (b ∷ t) (10 ∷ []) ≡ false
not_newline b t h = and_right (same t []) (eqb b 10) h

abbrev pub first_is : (ℕ → Bool) → List ℕ → Bool
first_is test [] = false
first_is test (b ∷ bs) = test b

-- no mark begins so
pub no_mark : (test : ℕ → Bool) (b : ℕ) (t : List ℕ) → all_keys (λ s. not (first_is test s)) marks ≡ true → test b ≡ true → Pieces.mark_piece (mark_of (b ∷ t)) ≡ p.Unknown
no_mark test b t all h = ap Pieces.mark_piece (no_key marks (λ s. not (first_is test s)) (b ∷ t) all (ap not h))

-- ---- classes of first bytes are apart

abbrev pub rest_after_letter : ℕ → Bool
rest_after_letter b = is_digit b || eqb b 46 || eqb b 39 || eqb b 34 || eqb b 47 || is_blank b || eqb b 10

abbrev pub either : (ℕ → Bool) → (ℕ → Bool) → ℕ → Bool
either f g b = not (f b && g b)

pub apart : (f g : ℕ → Bool) (b : ℕ) → agree_below (either f g) (λ _. true) 256 ≡ true → b < 256 → f b ≡ true → g b ≡ false
apart f g b all lt h = by (f b) (g b) h (agree_below_at (either f g) (λ _. true) 256 b all lt)
  where
    by : (x y : Bool) → x ≡ true → not (x && y) ≡ true → y ≡ false
    by true true _ e = sym e
    by true false _ e = refl
    by false y e _ = absurd (false≢true e)

pub letter_apart : (b : ℕ) → b < 256 → is_letter b ≡ true → rest_after_letter b ≡ false
letter_apart b lt h = apart is_letter rest_after_letter b refl lt h

abbrev pub rest_after_digit : ℕ → Bool
rest_after_digit b = is_letter b || eqb b 39 || eqb b 34 || eqb b 47 || is_blank b || eqb b 10

abbrev pub digit_or_point : ℕ → Bool
digit_or_point b = is_digit b || eqb b 46

pub digit_apart : (b : ℕ) → b < 256 → digit_or_point b ≡ true → rest_after_digit b ≡ false
digit_apart b lt h = apart digit_or_point rest_after_digit b refl lt h

abbrev pub digit_or_letter : ℕ → Bool
digit_or_letter b = is_letter b || is_digit b

abbrev pub rest_after_blank : ℕ → Bool
rest_after_blank b = digit_or_letter b || eqb b 46 || eqb b 39 || eqb b 34 || eqb b 47 || eqb b 10

pub blank_apart : (b : ℕ) → b < 256 → is_blank b ≡ true → rest_after_blank b ≡ false
blank_apart b lt h = apart is_blank rest_after_blank b refl lt h

pub six_parts : (a b c d e f : Bool) → (a || b || c || d || e || f) ≡ false → (a ≡ false) × (b ≡ false) × (c ≡ false) × (d ≡ false) × (e ≡ false) × (f ≡ false)
six_parts a b c d e f h =
    let o1 = or_parts (a || b || c || d || e) f h in
    let o2 = or_parts (a || b || c || d) e o1.0 in
    let o3 = or_parts (a || b || c) d o2.0 in
    let o4 = or_parts (a || b) c o3.0 in
    let o5 = or_parts a b o4.0 in
    (o5.0, o5.1, o4.1, o3.1, o2.1, o1.1)

-- what a byte that begins a number is not: a letter, a quote, a slash, a blank, a newline
pub digit_is_not : (b : ℕ) → b < 256 → digit_or_point b ≡ true → (is_letter b ≡ false) × (eqb b 39 ≡ false) × (eqb b 34 ≡ false) × (eqb b 47 ≡ false) × (is_blank b ≡ false) × (eqb b 10 ≡ false)
digit_is_not b lt h = six_parts (is_letter b) (eqb b 39) (eqb b 34) (eqb b 47) (is_blank b) (eqb b 10) (digit_apart b lt h)

-- what a blank is not
pub blank_is_not : (b : ℕ) → b < 256 → is_blank b ≡ true → (digit_or_letter b ≡ false) × (eqb b 46 ≡ false) × (eqb b 39 ≡ false) × (eqb b 34 ≡ false) × (eqb b 47 ≡ false) × (eqb b 10 ≡ false)
blank_is_not b lt h = six_parts (digit_or_letter b) (eqb b 46) (eqb b 39) (eqb b 34) (eqb b 47) (eqb b 10) (blank_apart b lt h)
