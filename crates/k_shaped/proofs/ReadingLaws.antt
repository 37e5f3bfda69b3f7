-- What is read as a conversion is spelled at the front of the text.
use Rattle.std.specs.Prelude.{◌≡◌, ◌≤◌, ◌-◌, ℕ, Bool, true, false, not, ◌||◌, ◌==◌, if◌then◌else◌, List, [], ◌∷◌, ◌++◌, length, drop, Some, None}
use Rattle.std.proofs.Common.{refl, ap, sym, subst, ◌∙◌, arith}
use Rattle.std.proofs.lemmas.Bool.{false≢true, eqb-true, leb-true, not-true, and_from}
use Rattle.std.proofs.lemmas.List.{append_assoc, length-append}
use Rattle.std.specs.List.{list_all}
use Rattle.std.specs.Char.{is_ascii_digit}
use Rattle.k_shaped.specs.declared.shape.Length.{Length}
use Rattle.k_shaped.specs.declared.shape.Length.TheVariants.{Plain, Char, Short, Long, LongLong, Size, Greatest, Difference}
use Rattle.k_shaped.specs.declared.shape.Conversion.{Conversion}
use Rattle.k_shaped.specs.Accepted.{is_small, is_accepted}
use Rattle.k_shaped.specs.Spelling.{is_flag, value, spelling, BeginsAboveZero, SpellsPrecision, Spells}
use Rattle.k_shaped.specs.Reading.{front, behind, number, flagged, behind_flags, behind_digits, precision, behind_precision, begins, length_from, length_at, bytes_of, shape_of, kept, ended, with_length, read}
use Rattle.k_shaped.specs.ShapedLaws.{ReadAreSpelled}
use Rattle.k_shaped.proofs.SpellingLaws.{stops, fits}

-- ---- a text is what stands at the front and what stands behind

joined : (p : ℕ → Bool) (t : List ℕ) → front p t ++ behind p t ≡ t
joined p [] = refl
joined p (b ∷ bs) = go (p b) (joined p bs)
  where
    go : (q : Bool) → front p bs ++ behind p bs ≡ bs → (if q then b ∷ front p bs else []) ++ (if q then behind p bs else b ∷ bs) ≡ b ∷ bs
    go true r = ap (λ l. b ∷ l) r
    go false r = refl

all_front : (p : ℕ → Bool) (t : List ℕ) → list_all p (front p t) ≡ true
all_front p [] = refl
all_front p (b ∷ bs) = go (p b) refl (all_front p bs)
  where
    go : (q : Bool) → p b ≡ q → list_all p (front p bs) ≡ true → list_all p (if q then b ∷ front p bs else []) ≡ true
    go true e r = and_from (p b) (list_all p (front p bs)) e r
    go false e r = refl

behind_stops : (p : ℕ → Bool) (t : List ℕ) → stops p (behind p t) ≡ true
unfolding stops
behind_stops p [] = refl
behind_stops p (b ∷ bs) = go (p b) refl (behind_stops p bs)
  where
    go : (q : Bool) → p b ≡ q → stops p (behind p bs) ≡ true → stops p (if q then behind p bs else b ∷ bs) ≡ true
    go true e r = r
    go false e r = ap not e

-- ---- numbers

number_is : (t : List ℕ) → number t ≤ 4095 → number t ≡ value 0 (front is_ascii_digit t)
unfolding number
number_is t h = omega (arith, h)

-- behind flags no number begins with 0
begins_above : (t : List ℕ) → stops is_flag t ≡ true → BeginsAboveZero (front is_ascii_digit t)
unfolding stops is_flag
begins_above [] s = tt
begins_above (b ∷ bs) s = go (is_ascii_digit b)
  where
    above : (d : ℕ) → not ((((d == 45 || d == 43) || d == 32) || d == 35) || d == 48) ≡ true → (d == 48) ≡ false
    above d e = last ((((d == 45 || d == 43) || d == 32) || d == 35)) (d == 48) (not-true ((((d == 45 || d == 43) || d == 32) || d == 35) || d == 48) e)
      where
        last : (x y : Bool) → (x || y) ≡ false → y ≡ false
        last true y e = absurd (false≢true (sym e))
        last false y e = e

    go : (q : Bool) → BeginsAboveZero (if q then b ∷ front is_ascii_digit bs else [])
    go true = above b s
    go false = tt

-- ---- the precision

precision_front : List ℕ → List ℕ
precision_front [] = []
precision_front (b ∷ t) = if b == 46 then b ∷ front is_ascii_digit t else []

precision_joined : (t : List ℕ) → precision_front t ++ behind_precision t ≡ t
unfolding precision_front behind_precision behind_digits
precision_joined [] = refl
precision_joined (b ∷ t) = go (b == 46)
  where
    go : (q : Bool) → (if q then b ∷ front is_ascii_digit t else []) ++ (if q then behind is_ascii_digit t else b ∷ t) ≡ b ∷ t
    go true = ap (λ l. b ∷ l) (joined is_ascii_digit t)
    go false = refl

small : (p : ℕ) → is_small (Some p) ≡ true → p ≤ 4095
unfolding is_small
small p e = leb-true p 4095 e

precision_spelled : (t : List ℕ) → is_small (precision t) ≡ true → SpellsPrecision (precision_front t) (precision t)
unfolding precision_front precision
precision_spelled [] s = refl
precision_spelled (b ∷ t) s = go (b == 46) refl s
  where
    go : (q : Bool) → (b == 46) ≡ q → is_small (if q then Some (number t) else None) ≡ true
        → SpellsPrecision (if q then b ∷ front is_ascii_digit t else []) (if q then Some (number t) else None)
    go true e s = (front is_ascii_digit t, ap (λ c. c ∷ front is_ascii_digit t) (eqb-true b 46 e), all_front is_ascii_digit t, number_is t (small (number t) s))
    go false e s = refl

-- ---- the length

-- the length is spelled at the front of the text
AtFront : Length → List ℕ → Type 0
AtFront l t = spelling l ++ drop (bytes_of l) t ≡ t

chosen : (t : List ℕ) (q : Bool) (l m : Length) → (q ≡ true → AtFront l t) → (q ≡ false → AtFront m t) → AtFront (if q then l else m) t
chosen t true l m f g = f refl
chosen t false l m f g = g refl

one_byte : (l : Length) (k : ℕ) (t : List ℕ) (b : ℕ) → ((u : List ℕ) → AtFront l (k ∷ u)) → (b == k) ≡ true → AtFront l (b ∷ t)
one_byte l k t b f e = subst (λ c. AtFront l (c ∷ t)) (sym (eqb-true b k e)) (f t)

two_bytes : (l : Length) (k : ℕ) (t : List ℕ) (b : ℕ) → ((u : List ℕ) → AtFront l (k ∷ k ∷ u)) → (b == k) ≡ true → begins k t ≡ true → AtFront l (b ∷ t)
unfolding begins
two_bytes l k [] b f e g = absurd (false≢true g)
two_bytes l k (c ∷ t) b f e g =
    subst (λ x. AtFront l (x ∷ c ∷ t)) (sym (eqb-true b k e)) (subst (λ y. AtFront l (k ∷ y ∷ t)) (sym (eqb-true c k g)) (f t))

length_front : (t : List ℕ) → AtFront (length_at t) t
unfolding length_at length_from AtFront bytes_of
length_front [] = refl
length_front (b ∷ t) =
    chosen (b ∷ t) (b == 104) _ _
    (λ e. chosen (b ∷ t) (begins 104 t) Char Short (two_bytes Char 104 t b (λ u. refl) e) (λ g. one_byte Short 104 t b (λ u. refl) e))
    (λ e. chosen (b ∷ t) (b == 108) _ _
    (λ e. chosen (b ∷ t) (begins 108 t) LongLong Long (two_bytes LongLong 108 t b (λ u. refl) e) (λ g. one_byte Long 108 t b (λ u. refl) e))
    (λ e. chosen (b ∷ t) (b == 122) Size _ (one_byte Size 122 t b (λ u. refl))
    (λ e. chosen (b ∷ t) (b == 106) Greatest _ (one_byte Greatest 106 t b (λ u. refl))
    (λ e. chosen (b ∷ t) (b == 116) Difference Plain (one_byte Difference 116 t b (λ u. refl)) (λ e. refl)))))

-- ---- the whole

-- a conversion is spelled at the front of the text
IsSpelled : List ℕ → Conversion → Type 0
IsSpelled text r = (bytes rest : List ℕ) × (text ≡ bytes ++ rest) × (length bytes ≡ r.used) × Spells bytes r.shape r.length

regrouped : (a b c d : List ℕ) (x : ℕ) (rest : List ℕ) → a ++ (b ++ (c ++ (d ++ x ∷ rest))) ≡ (a ++ (b ++ (c ++ (d ++ x ∷ [])))) ++ rest
regrouped a b c d x rest = simp append_assoc

sized : List ℕ → List ℕ
sized text = behind_flags text

precise : List ℕ → List ℕ
precise text = behind_digits (behind_flags text)

long : List ℕ → List ℕ
long text = behind_precision (behind_digits (behind_flags text))

-- the parts as they stand one behind the other
in_parts : (text : List ℕ) (c : ℕ) (rest : List ℕ) → drop (bytes_of (length_at (long text))) (long text) ≡ c ∷ rest
    → text ≡ front is_flag text ++ (front is_ascii_digit (sized text) ++ (precision_front (precise text) ++ (spelling (length_at (long text)) ++ c ∷ rest)))
unfolding sized precise long AtFront behind_flags behind_digits
in_parts text c rest e =
    let four = ap (λ t. spelling (length_at (long text)) ++ t) (sym e) ∙ length_front (long text) in
    let three = ap (λ t. precision_front (precise text) ++ t) four ∙ precision_joined (precise text) in
    let two = ap (λ t. front is_ascii_digit (sized text) ++ t) three ∙ joined is_ascii_digit (sized text) in
    sym (ap (λ t. front is_flag text ++ t) two ∙ joined is_flag text)

spells_so : (text : List ℕ) (c : ℕ) → let s = shape_of text (sized text) (precise text) c in let l = length_at (long text) in is_accepted s l ≡ true
    → Spells (front is_flag text ++ (front is_ascii_digit (sized text) ++ (precision_front (precise text) ++ (spelling l ++ c ∷ [])))) s l
unfolding shape_of flagged sized behind_flags
spells_so text c a =
    let k = fits (shape_of text (sized text) (precise text) c) (length_at (long text)) a in
    record {
      flags = front is_flag text;
      width = front is_ascii_digit (sized text);
      precision = precision_front (precise text);
      spelled = refl;
      are_flags = all_front is_flag text;
      minus = refl;
      plus = refl;
      space = refl;
      hash = refl;
      zero = refl;
      width_digits = all_front is_ascii_digit (sized text);
      width_begins = begins_above (sized text) (behind_stops is_flag text);
      width_is = number_is (sized text) k.width;
      precision_is = precision_spelled (precise text) k.precision;
      accepted = a;
    }

kept_spelled : (text rest : List ℕ) (c : ℕ) (r : Conversion) → drop (bytes_of (length_at (long text))) (long text) ≡ c ∷ rest
    → kept (shape_of text (sized text) (precise text) c) (length_at (long text)) (length text - length rest) ≡ Some r → IsSpelled text r
unfolding kept IsSpelled
kept_spelled text rest c r e k = go (is_accepted (shape_of text (sized text) (precise text) c) (length_at (long text))) refl k
  where
    go : (q : Bool) → is_accepted (shape_of text (sized text) (precise text) c) (length_at (long text)) ≡ q
        → (if q then Some (record { shape = shape_of text (sized text) (precise text) c; length = length_at (long text); used = length text - length rest }) else None) ≡ Some r → IsSpelled text r
    go true a k =
        let l = length_at (long text) in
        let bytes = front is_flag text ++ (front is_ascii_digit (sized text) ++ (precision_front (precise text) ++ (spelling l ++ c ∷ []))) in
        let whole : text ≡ bytes ++ rest = in_parts text c rest e ∙ regrouped (front is_flag text) (front is_ascii_digit (sized text)) (precision_front (precise text)) (spelling l) c rest in
        let r' : Conversion = record { shape = shape_of text (sized text) (precise text) c; length = l; used = length text - length rest } in
        let same : r' ≡ r = cc in
        let used : length bytes ≡ length text - length rest = omega (arith, ap length whole, length-append bytes rest) in
        subst (IsSpelled text) same (bytes, rest, whole, used, spells_so text c a)
    go false a k = cc

ended_spelled : (text last : List ℕ) (r : Conversion) → drop (bytes_of (length_at (long text))) (long text) ≡ last
    → ended text (sized text) (precise text) (length_at (long text)) last ≡ Some r → IsSpelled text r
unfolding ended
ended_spelled text [] r e k = cc
ended_spelled text (c ∷ rest) r e k = kept_spelled text rest c r e k

pub read_are_spelled : ReadAreSpelled
unfolding read with_length sized precise long IsSpelled
read_are_spelled text s l used k =
    ended_spelled text (drop (bytes_of (length_at (long text))) (long text)) (record { shape = s; length = l; used = used }) refl k
