-- Escaped bytes are text.
use Rattle.std.proofs.Common.{ℕ, zero, suc, ◌-◌, ◌≤◌, ◌≡◌, Bool, true, false, ◌&&◌, if◌then◌else◌, nat_le, nat_lt, ◌==◌, List, [], ◌∷◌, ◌++◌, get_or, append_assoc, arith, refl, sym, ap, ◌∙◌, subst}
use Rattle.std.proofs.lemmas.Bool.{and_parts, false≢true}
use Rattle.std.proofs.lemmas.Bool.Decides.{nat_tests}
use Rattle.std.proofs.lemmas.Grind.{common_steps}
use Rattle.k_page.specs.Escapes.{escape_from, escaped, first_written, is_four, is_mark, is_plain, is_second_of_four, is_second_of_three, is_tail, is_three, is_two, name_of, next_left, next_written, stands, tails}
use Rattle.k_page.specs.Html.{IsText, ended, named, plain}
use Rattle.k_page.specs.Laws.{EscapedIsText}

-- a text behind a text
pub text_beside : (front back : List ℕ) → IsText front → IsText back → IsText (front ++ back)
text_beside _ back ended b = b
text_beside _ back (plain x front free a) b = plain x (front ++ back) free (text_beside front back a b)
text_beside _ back (named x front a) b = subst IsText (sym (append_assoc (name_of x) front back)) (named x (front ++ back) (text_beside front back a b))

-- a byte of 128 or more is no mark
high : (b : ℕ) → 128 ≤ b → is_mark b ≡ false
high b is = grind (arith, nat_tests)

high_tail : (b : ℕ) → is_tail b ≡ true → is_mark b ≡ false
high_tail b is = let (low, most) = and_parts (nat_le 128 b) (nat_le b 191) is in let at : 128 ≤ b = grind (arith, nat_tests) in high b at

high_second : (b low : ℕ) → 128 ≤ low → nat_le low b && nat_le b 191 ≡ true → is_mark b ≡ false
high_second b low least is = let (at, most) = and_parts (nat_le low b) (nat_le b 191) is in let here : low ≤ b = grind (arith, nat_tests) in high b (omega arith)

high_below : (b most : ℕ) → nat_le 128 b && nat_le b most ≡ true → is_mark b ≡ false
high_below b most is = let (low, at) = and_parts (nat_le 128 b) (nat_le b most) is in let here : 128 ≤ b = grind (arith, nat_tests) in high b here

three_by : (c : ℕ) (one other : Bool) → (if one then nat_le 160 c && nat_le c 191 else if other then nat_le 128 c && nat_le c 159 else is_tail c) ≡ true → is_mark c ≡ false
three_by c true other is = high_second c 160 (omega arith) is
three_by c false true is = high_below c 159 is
three_by c false false is = high_tail c is

four_by : (c : ℕ) (one other : Bool) → (if one then nat_le 144 c && nat_le c 191 else if other then nat_le 128 c && nat_le c 143 else is_tail c) ≡ true → is_mark c ≡ false
four_by c true other is = high_second c 144 (omega arith) is
four_by c false true is = high_below c 143 is
four_by c false false is = high_tail c is

-- so many of the first bytes, where they are there, are no marks
NoMarks : ℕ → List ℕ → Type 0
NoMarks zero text = Unit {0}
NoMarks (suc k) [] = Unit {0}
NoMarks (suc k) (b ∷ text) = (is_mark b ≡ false) × NoMarks k text

module _ (first : ℕ) where
  two_marks : (behind : List ℕ) → is_two first behind ≡ true → NoMarks 1 behind
  unfolding NoMarks
  two_marks [] is = tt
  two_marks (c ∷ behind) is = let parts = and_parts _ (is_tail c) is in (high_tail c parts.1, tt)

  three_marks : (behind : List ℕ) → is_three first behind ≡ true → NoMarks 2 behind
  unfolding NoMarks
  three_marks [] is = tt
  three_marks (c ∷ []) is =
      let last = and_parts _ (is_tail 0) is in absurd (false≢true last.1)
  three_marks (c ∷ d ∷ behind) is =
      let last = and_parts _ (is_tail d) is in
      let second = and_parts _ (is_second_of_three first c) last.0 in
      (three_by c (first == 224) (first == 237) second.1, (high_tail d last.1, tt))

  four_marks : (behind : List ℕ) → is_four first behind ≡ true → NoMarks 3 behind
  unfolding NoMarks
  four_marks [] is = tt
  four_marks (c ∷ []) is = let last = and_parts _ (is_tail 0) is in absurd (false≢true last.1)
  four_marks (c ∷ d ∷ []) is = let last = and_parts _ (is_tail 0) is in absurd (false≢true last.1)
  four_marks (c ∷ d ∷ e ∷ behind) is =
      let last = and_parts _ (is_tail e) is in
      let third = and_parts _ (is_tail d) last.0 in
      let second = and_parts _ (is_second_of_four first c) third.0 in
      (four_by c (first == 240) (first == 244) second.1, (high_tail d third.1, (high_tail e last.1, tt)))

  by_length : (behind : List ℕ) (two three four : Bool) → is_two first behind ≡ two → is_three first behind ≡ three → is_four first behind ≡ four
      → NoMarks (if two then 1 else if three then 2 else if four then 3 else 0) behind
  unfolding NoMarks
  by_length behind true three four a b c = two_marks behind a
  by_length behind false true four a b c = three_marks behind b
  by_length behind false false true a b c = four_marks behind c
  by_length behind false false false a b c = tt

  -- what goes on a character is no mark
  tails_marks : (behind : List ℕ) → NoMarks (tails first behind) behind
  tails_marks behind = by_length behind (is_two first behind) (is_three first behind) (is_four first behind) refl refl refl

-- a byte that stands for itself is no mark
plain_mark : (b : ℕ) → is_plain b ≡ true → is_mark b ≡ false
plain_mark b is = grind (arith, nat_tests, common_steps)

standing : (b k : ℕ) (low : Bool) → nat_lt b 128 ≡ low → (if low then is_plain b else nat_lt 0 k) ≡ true → is_mark b ≡ false
standing b k true below is = plain_mark b is
standing b k false below is = let here : 128 ≤ b = grind (arith, nat_tests) in high b here

written_by : (b k : ℕ) (rest : List ℕ) (is : Bool) → stands b k ≡ is → IsText rest → IsText ((if is then b ∷ [] else name_of b) ++ rest)
written_by b k rest true is text = plain b rest (standing b k (nat_lt b 128) refl is) text
written_by b k rest false is text = named b rest text

-- a byte that goes on a character that began earlier
going_on : (left b : ℕ) (behind : List ℕ) → escape_from (suc left) (b ∷ behind) ≡ b ∷ escape_from left behind
going_on left b behind =
    let is : nat_lt 0 (suc left) ≡ true = grind (arith, nat_tests) in
    let less : suc left - 1 ≡ left = omega arith in
    rw (is, less) refl

escaped_text : (left : ℕ) (bytes : List ℕ) → NoMarks left bytes → IsText (escape_from left bytes)
unfolding NoMarks
escaped_text left [] free = ended
escaped_text zero (b ∷ behind) free =
    written_by b (tails b behind) (escape_from (tails b behind) behind) (stands b (tails b behind)) refl
    (escaped_text (tails b behind) behind (tails_marks b behind))
escaped_text (suc left) (b ∷ behind) free =
    subst IsText (sym (going_on left b behind)) (plain b (escape_from left behind) free.0 (escaped_text left behind free.1))

pub escaped_is_text : EscapedIsText
unfolding escaped NoMarks
escaped_is_text bytes = escaped_text 0 bytes tt
