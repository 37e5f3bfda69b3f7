-- The longest piece at the front of a text, by its first bytes.
use Rattle.std.proofs.Common.{◌≡◌, ◌≢◌, ℕ, zero, suc, ◌+◌, ◌<◌, ◌≤◌, Bool, true, false, not, ◌&&◌, ◌||◌, if◌then◌else◌, eqb, leb, List, [], ◌∷◌, Option, Some, None, length, take, refl, sym, ap, ◌∙◌, inl, inr, arith, add-one}
use Rattle.std.proofs.lemmas.Bool.{and_left, and_right, and_from, and_parts, or_parts, or_from, or_left, or_right, or_cases, cases_eq, cases_Bool, false≢true, lt-leb, le-leb, eq-eqb}
use Rattle.std.proofs.lemmas.Bool.Decides.{nat_tests}
use Rattle.std.proofs.lemmas.List.{length-take-le}
use Rattle.k_lex_pieces.specs.declared.pieces.Piece.{Piece}
use Rattle.k_lex_pieces.specs.declared.pieces.Piece.TheVariants as p
use Rattle.k_lex_pieces.specs.Bytes.{is_letter, is_digit, in_name, is_blank, every, span, begins}
use Rattle.k_lex_pieces.specs.Marks.{marks, mark_of}
use Rattle.k_lex_pieces.specs.Pieces
use Rattle.k_lex_pieces.specs.Pieces.{piece_by, starts_number, piece_of_length, class_of, is_known, longest}
use Rattle.k_lex_pieces.specs.Scans.{number_span, close_at, comment_at, header_at, or_mark, mark_at}
use Rattle.k_lex_pieces.proofs.Longest
use Rattle.k_lex_pieces.proofs.Longest.{is_at}
use Rattle.k_lex_pieces.proofs.Classes
use Rattle.k_lex_pieces.proofs.Tables.{no_key}
use Rattle.k_tree.specs.declared.tokens.mark.Mark.{Mark}

pub test_fails : (a b : ℕ) → a ≢ b → eqb a b ≡ false
test_fails a b ne = grind (arith, nat_tests)

abbrev known : List ℕ → Bool
known s = is_known (class_of s)

-- the text does not begin a comment of several lines
abbrev NoComment : ℕ → List ℕ → Type 0
NoComment b bs = begins (47 ∷ 42 ∷ []) (b ∷ bs) ≡ false

pub no_slash : (b : ℕ) (bs : List ℕ) → eqb b 47 ≡ false → begins (47 ∷ 42 ∷ []) (b ∷ bs) ≡ false
no_slash b bs h = and_left (eqb 47 b) (begins (42 ∷ []) bs) (grind (arith, nat_tests))

pub piece_found : (class : List ℕ → Piece) (b : ℕ) (bs : List ℕ) (n : ℕ) (x : Piece) → NoComment b bs → class (b ∷ take n bs) ≡ x → piece_of_length class (b ∷ bs) (suc n) ≡ (x, suc n)
piece_found class b bs n x clear e =
    let h : (begins (47 ∷ 42 ∷ []) (b ∷ bs) && leb (suc n) 1) ≡ false = and_left _ _ clear in
    let z : eqb (suc n) 0 ≡ false = grind (arith, nat_tests) in
    rw (h, z, e) refl

pub longer_found : (class : List ℕ → Piece) (b c : ℕ) (bs : List ℕ) (n : ℕ) (x : Piece) → class (b ∷ c ∷ take n bs) ≡ x → 1 ≤ n → piece_of_length class (b ∷ c ∷ bs) (suc (suc n)) ≡ (x, suc (suc n))
longer_found class b c bs n x e le =
    let h : (begins (47 ∷ 42 ∷ []) (b ∷ c ∷ bs) && leb (suc (suc n)) 1) ≡ false = and_right _ _ (lt-leb (suc (suc n)) 1 (omega arith)) in
    let z : eqb (suc (suc n)) 0 ≡ false = grind (arith, nat_tests) in
    rw (h, z, e) refl

-- ---- names

letter_known : (b : ℕ) (t : List ℕ) → b < 256 → is_letter b ≡ true → known (b ∷ t) ≡ every in_name t
letter_known b t lt h = elim (cases_Bool (every in_name t)) [
  | inl e ↦ ap is_known (Classes.class_name (b ∷ t) (and_from (is_letter b) (every in_name t) h e)) ∙ sym e
  | inr e ↦ ap is_known (unmarked e) ∙ sym e
]
  where
    others : Classes.rest_after_letter b ≡ false
    others = Classes.letter_apart b lt h

    unmarked : every in_name t ≡ false → class_of (b ∷ t) ≡ p.Unknown
    unmarked e =
        let o1 = or_parts _ _ others in
        let o2 = or_parts _ _ o1.0 in
        let o3 = or_parts _ _ o2.0 in
        let o4 = or_parts _ _ o3.0 in
        let o5 = or_parts _ _ o4.0 in
        let o6 = or_parts _ _ o5.0 in
        Classes.class_mark (b ∷ t)
        (and_right (is_letter b) (every in_name t) e)
        (Classes.not_number b t o6.0 o6.1)
        (Classes.not_character b t o5.1)
        (Classes.not_string b t o4.1)
        (Classes.not_comment b t o3.1)
        (Classes.not_blank b t o2.1)
        (Classes.not_newline b t o1.1)
        ∙ Classes.no_mark is_letter b t refl h

pub name_is : (b : ℕ) (bs : List ℕ) (n : ℕ) → b < 256 → is_letter b ≡ true → n ≡ span in_name bs → (p.Name, n + 1) ≡ piece_by class_of (b ∷ bs)
unfolding piece_by
name_is b bs n lt h e =
    let within = Longest.span_within in_name bs in
    let found : longest known (b ∷ bs) (suc (length bs)) ≡ suc n =
    Longest.longest_up_to known b bs n (omega arith) (λ m le. letter_known b (take m bs) lt h ∙ Longest.every_take in_name bs m le ∙ ap (leb m) (sym e)) in
    let passed : every in_name (take n bs) ≡ true = Longest.every_take in_name bs n (omega arith) ∙ le-leb n (span in_name bs) (omega arith) in
    let o = or_parts _ _ (or_parts _ _ (or_parts _ _ (Classes.letter_apart b lt h)).0).0 in
    let class : class_of (b ∷ take n bs) ≡ p.Name = Classes.class_name (b ∷ take n bs) (and_from (is_letter b) _ h passed) in
    let whole = piece_found class_of b bs n p.Name (no_slash b bs o.1) class in
    ap (λ k. (p.Name, k)) (add-one n) ∙ sym whole ∙ ap (piece_of_length class_of (b ∷ bs)) (sym found)

-- ---- numbers

number_known : (b : ℕ) (t : List ℕ) → b < 256 → Classes.digit_or_point b ≡ true → known (b ∷ t) ≡ Pieces.is_number (b ∷ t)
number_known b t lt h = elim (cases_Bool (Pieces.is_number (b ∷ t))) [
  | inl e ↦ ap is_known (Classes.class_number (b ∷ t) (Classes.not_name b t letter) e) ∙ sym e
  | inr e ↦ ap is_known (unmarked e) ∙ sym e
]
  where
    others : (is_letter b ≡ false) × (eqb b 39 ≡ false) × (eqb b 34 ≡ false) × (eqb b 47 ≡ false) × (is_blank b ≡ false) × (eqb b 10 ≡ false)
    others = Classes.digit_is_not b lt h

    letter : is_letter b ≡ false
    letter = others.0

    unmarked : Pieces.is_number (b ∷ t) ≡ false → class_of (b ∷ t) ≡ p.Unknown
    unmarked e =
        Classes.class_mark (b ∷ t) (Classes.not_name b t letter) e
        (Classes.not_character b t others.1)
        (Classes.not_string b t others.2)
        (Classes.not_comment b t others.3)
        (Classes.not_blank b t others.4)
        (Classes.not_newline b t others.5)
        ∙ Classes.no_mark Classes.digit_or_point b t refl h

number_fails : (b : ℕ) (t : List ℕ) → Pieces.number_goes_on b t ≡ false → Pieces.is_number (b ∷ t) ≡ false
number_fails b [] e = absurd (false≢true (sym e))
number_fails b (c ∷ t) e = and_right _ (Pieces.number_goes_on b (c ∷ t)) e

number_front : (b : ℕ) (bs : List ℕ) (m : ℕ) → m ≤ length bs → m ≡ number_span b bs → starts_number b bs ≡ true → Pieces.is_number (b ∷ take m bs) ≡ true
number_front b [] zero le e h = h
number_front b [] (suc m) le e h = absurd (omega arith)
number_front b (c ∷ cs) zero le e h = elim (or_cases (is_digit b) (eqb b 46 && is_digit c) h) [
  | inl d ↦ d
  | inr d ↦
      let digit : is_digit c ≡ true = (and_parts (eqb b 46) (is_digit c) d).1 in
      let on : Pieces.goes_on b c ≡ true = or_left _ _ (or_left _ _ (or_right (is_letter c) (is_digit c) digit)) in
      let count : 0 ≡ suc (number_span c cs) = e ∙ ap (λ v. if◌then◌else◌ v (suc (number_span c cs)) 0) on in
      absurd (omega arith)
]
number_front b (c ∷ cs) (suc m) le e h =
    and_from _ _ h (Longest.number_take b (c ∷ cs) (suc m) le ∙ le-leb (suc m) (number_span b (c ∷ cs)) (omega arith))

pub number_is : (b : ℕ) (bs : List ℕ) (n : ℕ) → b < 256 → starts_number b bs ≡ true → n ≡ number_span b bs → (p.Number, n + 1) ≡ piece_by class_of (b ∷ bs)
unfolding piece_by
number_is b bs n lt h e =
    let dp : Classes.digit_or_point b ≡ true = starts_by b bs h in
    let within = Longest.number_within b bs in
    let holds : Pieces.is_number (b ∷ take n bs) ≡ true = number_front b bs n (omega arith) e h in
    let found : longest known (b ∷ bs) (suc (length bs)) ≡ suc n =
    Longest.longest_exact known b bs n (omega arith) (number_known b (take n bs) lt dp ∙ holds)
    (λ m above le. number_known b (take m bs) lt dp ∙ number_fails b (take m bs) (Longest.number_take b bs m le ∙ lt-leb m (number_span b bs) (omega arith))) in
    let others = Classes.digit_is_not b lt dp in
    let class : class_of (b ∷ take n bs) ≡ p.Number = Classes.class_number (b ∷ take n bs) (Classes.not_name b (take n bs) others.0) holds in
    let whole = piece_found class_of b bs n p.Number (no_slash b bs others.3) class in
    ap (λ k. (p.Number, k)) (add-one n) ∙ sym whole ∙ ap (piece_of_length class_of (b ∷ bs)) (sym found)
  where
    starts_by : (b : ℕ) (bs : List ℕ) → starts_number b bs ≡ true → Classes.digit_or_point b ≡ true
    starts_by b [] h = or_left (is_digit b) (eqb b 46) h
    starts_by b (c ∷ cs) h = elim (or_cases (is_digit b) (eqb b 46 && is_digit c) h) [
      | inl d ↦ or_left (is_digit b) (eqb b 46) d
      | inr d ↦ or_right (is_digit b) (eqb b 46) (and_parts (eqb b 46) (is_digit c) d).0
    ]

-- ---- literals

character_known : (t : List ℕ) → known (39 ∷ t) ≡ Pieces.is_character (39 ∷ t)
character_known t = elim (cases_Bool (Pieces.is_character (39 ∷ t))) [
  | inl e ↦ ap is_known (Classes.class_character (39 ∷ t) (Classes.not_name 39 t refl) (Classes.not_number 39 t refl refl) e) ∙ sym e
  | inr e ↦ ap is_known (
      Classes.class_mark (39 ∷ t) (Classes.not_name 39 t refl) (Classes.not_number 39 t refl refl) e
      (Classes.not_string 39 t refl) (Classes.not_comment 39 t refl) (Classes.not_blank 39 t refl) (Classes.not_newline 39 t refl)
      ∙ Classes.no_mark (λ b. eqb b 39) 39 t refl refl) ∙ sym e
]

-- a character constant's length
pub character_is : (bs : List ℕ) (n : ℕ) → close_at 39 false 0 bs ≡ Some n → Pieces.item_length (take n bs) + 1 ≡ n → (p.Character, n + 1) ≡ piece_by class_of (39 ∷ bs)
unfolding piece_by
character_is bs n at item =
    let within : n ≤ length bs = omega (arith, Longest.close_within 39 false 0 bs n at) in
    let closed = λ (m : ℕ) (le : m ≤ length bs). Longest.closes_take 39 false 0 bs m le ∙ ap (λ o. is_at o (0 + m)) at in
    let long : length (take n bs) ≡ n = length-take-le n bs within in
    let holds : Pieces.is_character (39 ∷ take n bs) ≡ true =
    and_from _ _ (closed n within ∙ eq-eqb (0 + n) n (omega arith)) (eq-eqb _ _ (omega arith)) in
    let found : longest known (39 ∷ bs) (suc (length bs)) ≡ suc n =
    Longest.longest_exact known 39 bs n within (character_known (take n bs) ∙ holds)
    (λ m above le. character_known (take m bs) ∙ and_left _ _ (closed m le ∙ let ne : 0 + m ≢ n = omega arith in grind (arith, nat_tests))) in
    let class : class_of (39 ∷ take n bs) ≡ p.Character =
    Classes.class_character (39 ∷ take n bs) (Classes.not_name 39 (take n bs) refl) (Classes.not_number 39 (take n bs) refl refl) holds in
    let whole = piece_found class_of 39 bs n p.Character refl class in
    ap (λ k. (p.Character, k)) (add-one n) ∙ sym whole ∙ ap (piece_of_length class_of (39 ∷ bs)) (sym found)

pub character_open : (bs : List ℕ) → ((n : ℕ) → close_at 39 false 0 bs ≡ Some n → Pieces.item_length (take n bs) + 1 ≢ n) → (p.OpenLiteral, 1) ≡ piece_by class_of (39 ∷ bs)
unfolding piece_by
character_open bs differs =
    let found : longest known (39 ∷ bs) (suc (length bs)) ≡ 0 =
    Longest.longest_none known 39 bs (λ m le. character_known (take m bs) ∙ fails m le (close_at 39 false 0 bs) refl) in
    ap (piece_of_length class_of (39 ∷ bs)) (sym found)
  where
    fails : (m : ℕ) → m ≤ length bs → (o : Option ℕ) → close_at 39 false 0 bs ≡ o → Pieces.is_character (39 ∷ take m bs) ≡ false
    fails m le None e = and_left _ _ (Longest.closes_take 39 false 0 bs m le ∙ ap (λ o. is_at o (0 + m)) e)
    fails m le (Some n) e = elim (cases_eq m n) [
      | inl same_as ↦ and_right _ _ (
          let long : length (take m bs) ≡ m = length-take-le m bs le in
          let other : Pieces.item_length (take m bs) + 1 ≢ m = λ q. differs n e (ap (λ j. Pieces.item_length (take j bs) + 1) (sym same_as) ∙ q ∙ same_as) in
          let ne : Pieces.item_length (take m bs) + 1 ≢ length (take m bs) = λ q. other (q ∙ long) in
          let test : eqb (Pieces.item_length (take m bs) + 1) (length (take m bs)) ≡ false = grind (arith, nat_tests) in
          test)
      | inr ne ↦ and_left _ _ (Longest.closes_take 39 false 0 bs m le ∙ ap (λ o. is_at o (0 + m)) e ∙ (let test : eqb (0 + m) n ≡ false = grind (arith, nat_tests) in test))
    ]

string_known : (t : List ℕ) → known (34 ∷ t) ≡ Pieces.closes 34 false t
string_known t = elim (cases_Bool (Pieces.closes 34 false t)) [
  | inl e ↦ ap is_known (Classes.class_string (34 ∷ t) (Classes.not_name 34 t refl) (Classes.not_number 34 t refl refl) (Classes.not_character 34 t refl) e) ∙ sym e
  | inr e ↦ ap is_known (
      Classes.class_mark (34 ∷ t) (Classes.not_name 34 t refl) (Classes.not_number 34 t refl refl) (Classes.not_character 34 t refl) e
      (Classes.not_comment 34 t refl) (Classes.not_blank 34 t refl) (Classes.not_newline 34 t refl)
      ∙ Classes.no_mark (λ b. eqb b 34) 34 t refl refl) ∙ sym e
]

pub string_is : (bs : List ℕ) (n : ℕ) → close_at 34 false 0 bs ≡ Some n → (p.Str, n + 1) ≡ piece_by class_of (34 ∷ bs)
unfolding piece_by
string_is bs n at =
    let within : n ≤ length bs = omega (arith, Longest.close_within 34 false 0 bs n at) in
    let closed = λ (m : ℕ) (le : m ≤ length bs). Longest.closes_take 34 false 0 bs m le ∙ ap (λ o. is_at o (0 + m)) at in
    let holds : Pieces.closes 34 false (take n bs) ≡ true = closed n within ∙ eq-eqb (0 + n) n (omega arith) in
    let found : longest known (34 ∷ bs) (suc (length bs)) ≡ suc n =
    Longest.longest_exact known 34 bs n within (string_known (take n bs) ∙ holds)
    (λ m above le. string_known (take m bs) ∙ closed m le ∙ let ne : 0 + m ≢ n = omega arith in grind (arith, nat_tests)) in
    let class : class_of (34 ∷ take n bs) ≡ p.Str =
    Classes.class_string (34 ∷ take n bs) (Classes.not_name 34 (take n bs) refl) (Classes.not_number 34 (take n bs) refl refl) (Classes.not_character 34 (take n bs) refl) holds in
    let whole = piece_found class_of 34 bs n p.Str refl class in
    ap (λ k. (p.Str, k)) (add-one n) ∙ sym whole ∙ ap (piece_of_length class_of (34 ∷ bs)) (sym found)

pub string_open : (bs : List ℕ) → close_at 34 false 0 bs ≡ None → (p.OpenLiteral, 1) ≡ piece_by class_of (34 ∷ bs)
unfolding piece_by
string_open bs at =
    let found : longest known (34 ∷ bs) (suc (length bs)) ≡ 0 =
    Longest.longest_none known 34 bs (λ m le. string_known (take m bs) ∙ Longest.closes_take 34 false 0 bs m le ∙ ap (λ o. is_at o (0 + m)) at) in
    ap (piece_of_length class_of (34 ∷ bs)) (sym found)

-- ---- comments

abbrev opens_comment : List ℕ → Bool
opens_comment s = begins (47 ∷ 42 ∷ []) s

comment_known : (t : List ℕ) → known (47 ∷ 42 ∷ t) ≡ Pieces.ends_comment false t
comment_known t = elim (cases_Bool (Pieces.ends_comment false t)) [
  | inl e ↦ ap is_known (Classes.class_comment (47 ∷ 42 ∷ t) refl refl refl refl (or_left _ _ e)) ∙ sym e
  | inr e ↦ ap is_known (
      Classes.class_mark (47 ∷ 42 ∷ t) refl refl refl refl (or_from _ _ e refl) refl refl
      ∙ ap Pieces.mark_piece (no_key marks (λ s. not (opens_comment s)) (47 ∷ 42 ∷ t) refl refl)) ∙ sym e
]

comment_some_length : (bs : List ℕ) (n : ℕ) → comment_at false 0 bs ≡ Some n → 1 ≤ n
comment_some_length bs n at =
    let early : is_at (Some n) 0 ≡ false = ap (λ o. is_at o 0) (sym at) ∙ Longest.comment_later false 0 bs 0 (omega arith) in
    grind (arith, nat_tests)

pub comment_by : (class : List ℕ → Piece) → ((t : List ℕ) → is_known (class (47 ∷ 42 ∷ t)) ≡ Pieces.ends_comment false t) → ((t : List ℕ) → Pieces.ends_comment false t ≡ true → class (47 ∷ 42 ∷ t) ≡ p.Comment) → (bs : List ℕ) (n : ℕ) → comment_at false 0 bs ≡ Some n → (p.Comment, n + 2) ≡ piece_by class (47 ∷ 42 ∷ bs)
unfolding piece_by
comment_by class opens closed bs n at =
    let within : n ≤ length bs = omega (arith, Longest.comment_within false 0 bs n at) in
    let ends = λ (m : ℕ) (le : m ≤ length bs). Longest.comment_take false 0 bs m le ∙ ap (λ o. is_at o (0 + m)) at in
    let holds : Pieces.ends_comment false (take n bs) ≡ true = ends n within ∙ eq-eqb (0 + n) n (omega arith) in
    let found : longest (λ s. is_known (class s)) (47 ∷ 42 ∷ bs) (suc (suc (length bs))) ≡ suc (suc n) =
    Longest.longest_exact (λ s. is_known (class s)) 47 (42 ∷ bs) (suc n) (omega arith) (opens (take n bs) ∙ holds) (above ends) in
    let whole = longer_found class 47 42 bs n p.Comment (closed (take n bs) holds) (comment_some_length bs n at) in
    let two : n + 2 ≡ suc (suc n) = omega arith in
    ap (λ k. (p.Comment, k)) two ∙ sym whole ∙ ap (piece_of_length class (47 ∷ 42 ∷ bs)) (sym found)
  where
    above : ((m : ℕ) → m ≤ length bs → Pieces.ends_comment false (take m bs) ≡ is_at (Some n) (0 + m)) → (m : ℕ) → suc n < m → m ≤ suc (length bs) → is_known (class (47 ∷ take m (42 ∷ bs))) ≡ false
    above ends zero lt le = absurd (omega arith)
    above ends (suc m) lt le = opens (take m bs) ∙ ends m (omega arith) ∙ (let ne : 0 + m ≢ n = omega arith in grind (arith, nat_tests))

pub comment_open_by : (class : List ℕ → Piece) → ((t : List ℕ) → is_known (class (47 ∷ 42 ∷ t)) ≡ Pieces.ends_comment false t) → is_known (class (47 ∷ [])) ≡ true → (bs : List ℕ) → comment_at false 0 bs ≡ None → (p.OpenComment, 1) ≡ piece_by class (47 ∷ 42 ∷ bs)
unfolding piece_by
comment_open_by class opens slash bs at =
    let found : longest (λ s. is_known (class s)) (47 ∷ 42 ∷ bs) (suc (suc (length bs))) ≡ suc 0 =
    Longest.longest_exact (λ s. is_known (class s)) 47 (42 ∷ bs) 0 (omega arith) slash above in
    ap (piece_of_length class (47 ∷ 42 ∷ bs)) (sym found)
  where
    above : (m : ℕ) → 0 < m → m ≤ suc (length bs) → is_known (class (47 ∷ take m (42 ∷ bs))) ≡ false
    above zero lt le = absurd (omega arith)
    above (suc m) lt le = opens (take m bs) ∙ Longest.comment_take false 0 bs m (omega arith) ∙ ap (λ o. is_at o (0 + m)) at

pub comment_is : (bs : List ℕ) (n : ℕ) → comment_at false 0 bs ≡ Some n → (p.Comment, n + 2) ≡ piece_by class_of (47 ∷ 42 ∷ bs)
comment_is bs n at = comment_by class_of comment_known (λ t e. Classes.class_comment (47 ∷ 42 ∷ t) refl refl refl refl (or_left _ _ e)) bs n at

pub comment_open : (bs : List ℕ) → comment_at false 0 bs ≡ None → (p.OpenComment, 1) ≡ piece_by class_of (47 ∷ 42 ∷ bs)
comment_open bs at = comment_open_by class_of comment_known refl bs at

line_known : (t : List ℕ) → known (47 ∷ 47 ∷ t) ≡ every Pieces.in_line t
line_known t = elim (cases_Bool (every Pieces.in_line t)) [
  | inl e ↦ ap is_known (Classes.class_comment (47 ∷ 47 ∷ t) refl refl refl refl e) ∙ sym e
  | inr e ↦ ap is_known (
      Classes.class_mark (47 ∷ 47 ∷ t) refl refl refl refl e refl refl
      ∙ ap Pieces.mark_piece (no_key marks (λ s. not (begins (47 ∷ 47 ∷ []) s)) (47 ∷ 47 ∷ t) refl refl)) ∙ sym e
]

pub line_by : (class : List ℕ → Piece) → ((t : List ℕ) → is_known (class (47 ∷ 47 ∷ t)) ≡ every Pieces.in_line t) → ((t : List ℕ) → every Pieces.in_line t ≡ true → class (47 ∷ 47 ∷ t) ≡ p.Comment) → (bs : List ℕ) (n : ℕ) → n ≡ span Pieces.in_line bs → (p.Comment, n + 2) ≡ piece_by class (47 ∷ 47 ∷ bs)
unfolding piece_by
line_by class opens closed bs n e =
    let within = Longest.span_within Pieces.in_line bs in
    let holds : every Pieces.in_line (take n bs) ≡ true = Longest.every_take Pieces.in_line bs n (omega arith) ∙ le-leb n (span Pieces.in_line bs) (omega arith) in
    let found : longest (λ s. is_known (class s)) (47 ∷ 47 ∷ bs) (suc (suc (length bs))) ≡ suc (suc n) =
    Longest.longest_exact (λ s. is_known (class s)) 47 (47 ∷ bs) (suc n) (omega arith) (opens (take n bs) ∙ holds) above in
    let whole = piece_found class 47 (47 ∷ bs) (suc n) p.Comment refl (closed (take n bs) holds) in
    let two : n + 2 ≡ suc (suc n) = omega arith in
    ap (λ k. (p.Comment, k)) two ∙ sym whole ∙ ap (piece_of_length class (47 ∷ 47 ∷ bs)) (sym found)
  where
    above : (m : ℕ) → suc n < m → m ≤ suc (length bs) → is_known (class (47 ∷ take m (47 ∷ bs))) ≡ false
    above zero lt le = absurd (omega arith)
    above (suc m) lt le = opens (take m bs) ∙ Longest.every_take Pieces.in_line bs m (omega arith) ∙ lt-leb m (span Pieces.in_line bs) (omega arith)

pub line_is : (bs : List ℕ) (n : ℕ) → n ≡ span Pieces.in_line bs → (p.Comment, n + 2) ≡ piece_by class_of (47 ∷ 47 ∷ bs)
line_is bs n e = line_by class_of line_known (λ t h. Classes.class_comment (47 ∷ 47 ∷ t) refl refl refl refl h) bs n e

-- ---- blanks and newlines

-- no front of more than this byte is a piece
single_at : (class : List ℕ → Piece) (b : ℕ) (bs : List ℕ) (x : Piece) → NoComment b bs → class (b ∷ []) ≡ x → is_known x ≡ true → ((m : ℕ) → 0 < m → m ≤ length bs → is_known (class (b ∷ take m bs)) ≡ false) → (x, 1) ≡ piece_by class (b ∷ bs)
unfolding piece_by
single_at class b bs x clear e holds fails =
    let found : longest (λ s. is_known (class s)) (b ∷ bs) (suc (length bs)) ≡ suc 0 =
    Longest.longest_exact (λ s. is_known (class s)) b bs 0 (omega arith) (ap is_known e ∙ holds) fails in
    sym (piece_found class b bs 0 x clear e) ∙ ap (piece_of_length class (b ∷ bs)) (sym found)

single_is : (class : List ℕ → Piece) (b : ℕ) (bs : List ℕ) (x : Piece) → NoComment b bs → class (b ∷ []) ≡ x → is_known x ≡ true → ((c : ℕ) (t : List ℕ) → is_known (class (b ∷ c ∷ t)) ≡ false) → (x, 1) ≡ piece_by class (b ∷ bs)
single_is class b bs x clear e holds fails = single_at class b bs x clear e holds (above bs)
  where
    above : (bs : List ℕ) (m : ℕ) → 0 < m → m ≤ length bs → is_known (class (b ∷ take m bs)) ≡ false
    above bs zero lt le = absurd (omega arith)
    above [] (suc m) lt le = absurd (omega arith)
    above (c ∷ cs) (suc m) lt le = fails c (take m cs)

pub blank_is : (b : ℕ) (bs : List ℕ) → b < 256 → is_blank b ≡ true → (p.Blank, 1) ≡ piece_by class_of (b ∷ bs)
blank_is b bs lt h = single_is class_of b bs p.Blank (no_slash b bs others.4) class refl fails
  where
    others : (Classes.digit_or_letter b ≡ false) × (eqb b 46 ≡ false) × (eqb b 39 ≡ false) × (eqb b 34 ≡ false) × (eqb b 47 ≡ false) × (eqb b 10 ≡ false)
    others = Classes.blank_is_not b lt h

    two : (is_letter b ≡ false) × (is_digit b ≡ false)
    two = or_parts (is_letter b) (is_digit b) others.0

    class : class_of (b ∷ []) ≡ p.Blank
    class = Classes.class_blank (b ∷ []) (Classes.not_name b [] two.0) two.1 (Classes.not_character b [] others.2) (Classes.not_string b [] others.3) refl h

    fails : (c : ℕ) (t : List ℕ) → known (b ∷ c ∷ t) ≡ false
    fails c t = ap is_known (
        Classes.class_mark (b ∷ c ∷ t) (Classes.not_name b (c ∷ t) two.0) (Classes.not_number b (c ∷ t) two.1 others.1)
        (Classes.not_character b (c ∷ t) others.2) (Classes.not_string b (c ∷ t) others.3) (Classes.not_comment b (c ∷ t) others.4) refl refl
        ∙ Classes.no_mark is_blank b (c ∷ t) refl h)

pub newline_is : (bs : List ℕ) → (p.Newline, 1) ≡ piece_by class_of (10 ∷ bs)
newline_is bs = single_is class_of 10 bs p.Newline refl refl refl fails
  where
    fails : (c : ℕ) (t : List ℕ) → known (10 ∷ c ∷ t) ≡ false
    fails c t = ap is_known (
        Classes.class_mark (10 ∷ c ∷ t) refl refl refl refl refl refl refl ∙ Classes.no_mark (λ b. eqb b 10) 10 (c ∷ t) refl refl)

-- ---- marks

no_longer_mark : (a b c d : ℕ) (t : List ℕ) → mark_of (a ∷ b ∷ c ∷ d ∷ t) ≡ None
no_longer_mark a b c d t =
    no_key marks (λ s. leb (length s) 3) (a ∷ b ∷ c ∷ d ∷ t) refl (lt-leb (suc (suc (suc (suc (length t))))) 3 (omega arith))

abbrev of_some : Option Mark → ℕ → ℕ → ℕ
of_some o n other = if is_known (Pieces.mark_piece o) then n else other

-- the piece at a length that the longest of three marks gives
by_marks : (b : ℕ) (bs : List ℕ) (n : ℕ) (o : Option Mark) (k : ℕ) (other : Piece × ℕ) → NoComment b bs → class_of (b ∷ take n bs) ≡ Pieces.mark_piece o → piece_of_length class_of (b ∷ bs) k ≡ other → piece_of_length class_of (b ∷ bs) (of_some o (suc n) k) ≡ or_mark o (suc n) other
by_marks b bs n None k other clear e h = h
by_marks b bs n (Some m) k other clear e h = piece_found class_of b bs n (p.Mark m) clear e

unquoted : (b : ℕ) (bs : List ℕ) → NoComment b bs → eqb b 39 ≡ false → eqb b 34 ≡ false → piece_of_length class_of (b ∷ bs) 0 ≡ (p.Unknown, 1)
unquoted b bs clear q d =
    let h : (begins (47 ∷ 42 ∷ []) (b ∷ bs) && leb 0 1) ≡ false = and_left _ _ clear in
    let q' : eqb 39 b ≡ false = grind (arith, nat_tests) in
    let d' : eqb 34 b ≡ false = grind (arith, nat_tests) in
    rw (h, q', d') refl

pub mark_is : (b : ℕ) (bs : List ℕ) → NoComment b bs → eqb b 39 ≡ false → eqb b 34 ≡ false → ((m : ℕ) → m ≤ length bs → class_of (b ∷ take m bs) ≡ Pieces.mark_piece (mark_of (b ∷ take m bs))) → mark_at (b ∷ bs) ≡ piece_by class_of (b ∷ bs)
unfolding piece_by
mark_is b [] clear q d class =
    let k1 : known (b ∷ []) ≡ is_known (Pieces.mark_piece (mark_of (b ∷ []))) = ap is_known (class 0 (omega arith)) in
    sym (by_marks b [] 0 (mark_of (b ∷ [])) 0 (p.Unknown, 1) clear (class 0 (omega arith)) (unquoted b [] clear q d))
    ∙ ap (λ v. piece_of_length class_of (b ∷ []) (if v then 1 else 0)) (sym k1)
mark_is b (c ∷ []) clear q d class =
    let k1 : known (b ∷ []) ≡ is_known (Pieces.mark_piece (mark_of (b ∷ []))) = ap is_known (class 0 (omega arith)) in
    let k2 : known (b ∷ c ∷ []) ≡ is_known (Pieces.mark_piece (mark_of (b ∷ c ∷ []))) = ap is_known (class 1 (omega arith)) in
    sym (by_marks b (c ∷ []) 1 (mark_of (b ∷ c ∷ [])) _ _ clear (class 1 (omega arith))
    (by_marks b (c ∷ []) 0 (mark_of (b ∷ [])) 0 (p.Unknown, 1) clear (class 0 (omega arith)) (unquoted b (c ∷ []) clear q d)))
    ∙ ap (λ v. piece_of_length class_of (b ∷ c ∷ []) (if v then 2 else of_some (mark_of (b ∷ [])) 1 0)) (sym k2)
    ∙ ap (λ v. piece_of_length class_of (b ∷ c ∷ []) (if known (b ∷ c ∷ []) then 2 else (if v then 1 else 0))) (sym k1)
mark_is b (c ∷ e ∷ es) clear q d class =
    let k1 : known (b ∷ []) ≡ is_known (Pieces.mark_piece (mark_of (b ∷ []))) = ap is_known (class 0 (omega arith)) in
    let k2 : known (b ∷ c ∷ []) ≡ is_known (Pieces.mark_piece (mark_of (b ∷ c ∷ []))) = ap is_known (class 1 (omega arith)) in
    let k3 : known (b ∷ c ∷ e ∷ []) ≡ is_known (Pieces.mark_piece (mark_of (b ∷ c ∷ e ∷ []))) = ap is_known (class 2 (omega arith)) in
    let cut : longest known (b ∷ c ∷ e ∷ es) (suc (suc (suc (length es)))) ≡ longest known (b ∷ c ∷ e ∷ es) 3 =
    Longest.longest_cut known (b ∷ c ∷ e ∷ es) 3 (suc (suc (suc (length es)))) (omega arith) (above es class) in
    sym (by_marks b (c ∷ e ∷ es) 2 (mark_of (b ∷ c ∷ e ∷ [])) _ _ clear (class 2 (omega arith))
    (by_marks b (c ∷ e ∷ es) 1 (mark_of (b ∷ c ∷ [])) _ _ clear (class 1 (omega arith))
    (by_marks b (c ∷ e ∷ es) 0 (mark_of (b ∷ [])) 0 (p.Unknown, 1) clear (class 0 (omega arith)) (unquoted b (c ∷ e ∷ es) clear q d))))
    ∙ ap (λ v. piece_of_length class_of (b ∷ c ∷ e ∷ es) (if v then 3 else of_some (mark_of (b ∷ c ∷ [])) 2 (of_some (mark_of (b ∷ [])) 1 0))) (sym k3)
    ∙ ap (λ v. piece_of_length class_of (b ∷ c ∷ e ∷ es) (if known (b ∷ c ∷ e ∷ []) then 3 else (if v then 2 else of_some (mark_of (b ∷ [])) 1 0))) (sym k2)
    ∙ ap (λ v. piece_of_length class_of (b ∷ c ∷ e ∷ es) (if known (b ∷ c ∷ e ∷ []) then 3 else (if known (b ∷ c ∷ []) then 2 else (if v then 1 else 0)))) (sym k1)
    ∙ ap (piece_of_length class_of (b ∷ c ∷ e ∷ es)) (sym cut)
  where
    above : (es : List ℕ) → ((m : ℕ) → m ≤ suc (suc (length es)) → class_of (b ∷ take m (c ∷ e ∷ es)) ≡ Pieces.mark_piece (mark_of (b ∷ take m (c ∷ e ∷ es)))) → (m : ℕ) → 3 < m → m ≤ suc (suc (suc (length es))) → known (take m (b ∷ c ∷ e ∷ es)) ≡ false
    above es class zero lt le = absurd (omega arith)
    above es class (suc zero) lt le = absurd (omega arith)
    above es class (suc (suc zero)) lt le = absurd (omega arith)
    above es class (suc (suc (suc zero))) lt le = absurd (omega arith)
    above [] class (suc (suc (suc (suc m)))) lt le = absurd (omega arith)
    above (f ∷ fs) class (suc (suc (suc (suc m)))) lt le =
        ap is_known (class (suc (suc (suc m))) (omega arith) ∙ ap Pieces.mark_piece (no_longer_mark b c e f (take m fs)))

-- ---- what is left begins marks, or nothing

not_number_front : (b : ℕ) (bs : List ℕ) (m : ℕ) → m ≤ length bs → starts_number b bs ≡ false → Pieces.is_number (b ∷ take m bs) ≡ false
not_number_front b [] zero le h = h
not_number_front b [] (suc m) le h = absurd (omega arith)
not_number_front b (c ∷ cs) zero le h = (or_parts (is_digit b) (eqb b 46 && is_digit c) h).0
not_number_front b (c ∷ cs) (suc m) le h = and_left (is_digit b || (eqb b 46 && is_digit c)) (Pieces.number_goes_on b (c ∷ take m cs)) h

pub other_is : (b : ℕ) (bs : List ℕ) → is_letter b ≡ false → starts_number b bs ≡ false → eqb b 39 ≡ false → eqb b 34 ≡ false → eqb b 47 ≡ false → is_blank b ≡ false → eqb b 10 ≡ false → mark_at (b ∷ bs) ≡ piece_by class_of (b ∷ bs)
other_is b bs l n q d s w e = mark_is b bs (no_slash b bs s) q d (λ m le.
    Classes.class_mark (b ∷ take m bs) (Classes.not_name b (take m bs) l) (not_number_front b bs m le n) (Classes.not_character b (take m bs) q)
    (Classes.not_string b (take m bs) d) (Classes.not_comment b (take m bs) s) (Classes.not_blank b (take m bs) w) (Classes.not_newline b (take m bs) e))

slash_class : (t : List ℕ) → Pieces.is_comment (47 ∷ t) ≡ false → class_of (47 ∷ t) ≡ Pieces.mark_piece (mark_of (47 ∷ t))
slash_class t h = Classes.class_mark (47 ∷ t) refl (Classes.not_number 47 t refl refl) (Classes.not_character 47 t refl) (Classes.not_string 47 t refl) h
    (Classes.not_blank 47 t refl) (Classes.not_newline 47 t refl)

pub slash_alone_is : mark_at (47 ∷ []) ≡ piece_by class_of (47 ∷ [])
slash_alone_is = mark_is 47 [] refl refl refl class
  where
    class : (m : ℕ) → m ≤ 0 → class_of (47 ∷ take m []) ≡ Pieces.mark_piece (mark_of (47 ∷ take m []))
    class zero le = refl
    class (suc m) le = absurd (omega arith)

pub slash_is : (c : ℕ) (cs : List ℕ) → eqb c 42 ≡ false → eqb c 47 ≡ false → mark_at (47 ∷ c ∷ cs) ≡ piece_by class_of (47 ∷ c ∷ cs)
slash_is c cs s t = mark_is 47 (c ∷ cs) clear refl refl class
  where
    clear : begins (47 ∷ 42 ∷ []) (47 ∷ c ∷ cs) ≡ false
    clear = and_left (eqb 42 c) true (grind (arith, nat_tests))

    class : (m : ℕ) → m ≤ suc (length cs) → class_of (47 ∷ take m (c ∷ cs)) ≡ Pieces.mark_piece (mark_of (47 ∷ take m (c ∷ cs)))
    class zero le = refl
    class (suc m) le = slash_class (c ∷ take m cs) (or_from _ _ (and_left (eqb c 42) _ s) (and_left (eqb c 47) _ t))

-- ---- in a `#pragma`

abbrev in_pragma : List ℕ → Piece
in_pragma = Pieces.class_in_pragma

pragma_comment : (t : List ℕ) → Pieces.ends_comment false t ≡ true → in_pragma (47 ∷ 42 ∷ t) ≡ p.Comment
pragma_comment t e = let h : Pieces.is_comment (47 ∷ 42 ∷ t) ≡ true = or_left _ _ e in rw h refl

no_single : (b c : ℕ) (t : List ℕ) → Pieces.is_comment (b ∷ c ∷ t) ≡ false → is_known (in_pragma (b ∷ c ∷ t)) ≡ false
no_single b c t h =
    let z : eqb (suc (suc (length t))) 1 ≡ false = grind (arith, nat_tests) in
    rw (h, z) refl

pragma_opens : (t : List ℕ) → is_known (in_pragma (47 ∷ 42 ∷ t)) ≡ Pieces.ends_comment false t
pragma_opens t = elim (cases_Bool (Pieces.ends_comment false t)) [
  | inl e ↦ ap is_known (pragma_comment t e) ∙ sym e
  | inr e ↦ no_single 47 42 t (or_from _ _ e refl) ∙ sym e
]

pragma_line : (t : List ℕ) → is_known (in_pragma (47 ∷ 47 ∷ t)) ≡ every Pieces.in_line t
pragma_line t = elim (cases_Bool (every Pieces.in_line t)) [
  | inl e ↦ (let h : Pieces.is_comment (47 ∷ 47 ∷ t) ≡ true = e in rw h refl)
  | inr e ↦ no_single 47 47 t e ∙ sym e
]

pub pragma_comment_is : (bs : List ℕ) (n : ℕ) → comment_at false 0 bs ≡ Some n → (p.Comment, n + 2) ≡ piece_by Pieces.class_in_pragma (47 ∷ 42 ∷ bs)
pragma_comment_is bs n at = comment_by in_pragma pragma_opens pragma_comment bs n at

pub pragma_comment_open : (bs : List ℕ) → comment_at false 0 bs ≡ None → (p.OpenComment, 1) ≡ piece_by Pieces.class_in_pragma (47 ∷ 42 ∷ bs)
pragma_comment_open bs at = comment_open_by in_pragma pragma_opens refl bs at

pub pragma_line_is : (bs : List ℕ) (n : ℕ) → n ≡ span Pieces.in_line bs → (p.Comment, n + 2) ≡ piece_by Pieces.class_in_pragma (47 ∷ 47 ∷ bs)
pragma_line_is bs n e = line_by in_pragma pragma_line (λ t h. let k : Pieces.is_comment (47 ∷ 47 ∷ t) ≡ true = h in rw k refl) bs n e

pub pragma_newline_is : (bs : List ℕ) → (p.Newline, 1) ≡ piece_by Pieces.class_in_pragma (10 ∷ bs)
pragma_newline_is bs = single_is in_pragma 10 bs p.Newline refl refl refl (λ c t. no_single 10 c t refl)

pub pragma_slash_alone_is : (p.Blank, 1) ≡ piece_by Pieces.class_in_pragma (47 ∷ [])
unfolding piece_by
pragma_slash_alone_is = refl

pub pragma_slash_is : (c : ℕ) (cs : List ℕ) → eqb c 42 ≡ false → eqb c 47 ≡ false → (p.Blank, 1) ≡ piece_by Pieces.class_in_pragma (47 ∷ c ∷ cs)
pragma_slash_is c cs s t = single_at in_pragma 47 (c ∷ cs) p.Blank clear refl refl above
  where
    clear : begins (47 ∷ 42 ∷ []) (47 ∷ c ∷ cs) ≡ false
    clear = and_left (eqb 42 c) true (grind (arith, nat_tests))

    above : (m : ℕ) → 0 < m → m ≤ suc (length cs) → is_known (in_pragma (47 ∷ take m (c ∷ cs))) ≡ false
    above zero lt le = absurd (omega arith)
    above (suc m) lt le = no_single 47 c (take m cs) (or_from _ _ (and_left (eqb c 42) _ s) (and_left (eqb c 47) _ t))

pub pragma_other_is : (b : ℕ) (bs : List ℕ) → eqb b 47 ≡ false → eqb b 10 ≡ false → (p.Blank, 1) ≡ piece_by Pieces.class_in_pragma (b ∷ bs)
pragma_other_is b bs s e = single_is in_pragma b bs p.Blank (no_slash b bs s) (rw e refl) refl (λ c t. no_single b c t (Classes.not_comment b (c ∷ t) s))

pub pragma_end_is : (p.Unknown, 1) ≡ piece_by Pieces.class_in_pragma []
unfolding piece_by
pragma_end_is = refl

pub end_is : (p.Unknown, 1) ≡ piece_by class_of []
unfolding piece_by
end_is = refl

-- ---- behind `#include`

abbrev in_include : List ℕ → Piece
in_include = Pieces.class_in_include

header_known : (t : List ℕ) → is_known (in_include (60 ∷ t)) ≡ Pieces.closes_header t
header_known t = elim (cases_Bool (Pieces.closes_header t)) [
  | inl e ↦ rw e refl
  | inr e ↦ rw e refl
]

pub header_is : (bs : List ℕ) (n : ℕ) → header_at 0 bs ≡ Some n → (p.Header, n + 1) ≡ piece_by Pieces.class_in_include (60 ∷ bs)
unfolding piece_by
header_is bs n at =
    let within : n ≤ length bs = omega (arith, Longest.header_within 0 bs n at) in
    let closed = λ (m : ℕ) (le : m ≤ length bs). Longest.header_take 0 bs m le ∙ ap (λ o. is_at o (0 + m)) at in
    let holds : Pieces.closes_header (take n bs) ≡ true = closed n within ∙ eq-eqb (0 + n) n (omega arith) in
    let found : longest (λ s. is_known (in_include s)) (60 ∷ bs) (suc (length bs)) ≡ suc n =
    Longest.longest_exact (λ s. is_known (in_include s)) 60 bs n within (header_known (take n bs) ∙ holds)
    (λ m above le. header_known (take m bs) ∙ closed m le ∙ (let ne : 0 + m ≢ n = omega arith in grind (arith, nat_tests))) in
    let class : in_include (60 ∷ take n bs) ≡ p.Header = rw holds refl in
    let whole = piece_found in_include 60 bs n p.Header refl class in
    ap (λ k. (p.Header, k)) (add-one n) ∙ sym whole ∙ ap (piece_of_length in_include (60 ∷ bs)) (sym found)

pub header_open : (bs : List ℕ) → header_at 0 bs ≡ None → (p.Unknown, 1) ≡ piece_by Pieces.class_in_include (60 ∷ bs)
unfolding piece_by
header_open bs at =
    let found : longest (λ s. is_known (in_include s)) (60 ∷ bs) (suc (length bs)) ≡ 0 =
    Longest.longest_none (λ s. is_known (in_include s)) 60 bs (λ m le. header_known (take m bs) ∙ Longest.header_take 0 bs m le ∙ ap (λ o. is_at o (0 + m)) at) in
    ap (piece_of_length in_include (60 ∷ bs)) (sym found)

pub include_other_is : (b : ℕ) (bs : List ℕ) → eqb b 60 ≡ false → piece_by class_of (b ∷ bs) ≡ piece_by Pieces.class_in_include (b ∷ bs)
unfolding piece_by
include_other_is b bs e =
    ap (piece_of_length class_of (b ∷ bs)) (Longest.longest_same known (λ s. is_known (in_include s)) (b ∷ bs) (suc (length bs)) (λ m. ap is_known (agree m)))
    ∙ at_length (longest (λ s. is_known (in_include s)) (b ∷ bs) (suc (length bs)))
  where
    agree : (m : ℕ) → class_of (take m (b ∷ bs)) ≡ in_include (take m (b ∷ bs))
    agree zero = refl
    agree (suc m) = let h : (eqb 60 b && true) ≡ false = and_left (eqb 60 b) true (grind (arith, nat_tests)) in rw h refl

    at_length : (n : ℕ) → piece_of_length class_of (b ∷ bs) n ≡ piece_of_length in_include (b ∷ bs) n
    at_length n = ap (λ x. if begins (47 ∷ 42 ∷ []) (b ∷ bs) && leb n 1 then (p.OpenComment, 1)
        else (if eqb n 0 then ((if begins (39 ∷ []) (b ∷ bs) || begins (34 ∷ []) (b ∷ bs) then p.OpenLiteral else p.Unknown), 1)
        else (x, n))) (agree n)

pub include_end_is : piece_by class_of [] ≡ piece_by Pieces.class_in_include []
unfolding piece_by
include_end_is = refl

-- ---- a piece has a byte, and not more than the text

pub longest_within : (passes : List ℕ → Bool) (text : List ℕ) (k : ℕ) → longest passes text k ≤ k
longest_within passes text zero = omega arith
longest_within passes text (suc k) = elim (passes (take (suc k) text)) as (λ v. (if v then suc k else longest passes text k) ≤ suc k) [
  | true ↦ omega arith
  | false ↦ omega (arith, longest_within passes text k)
]

pub piece_length : (class : List ℕ → Piece) (b : ℕ) (bs : List ℕ) → (1 ≤ (piece_by class (b ∷ bs)).1) × ((piece_by class (b ∷ bs)).1 ≤ suc (length bs))
unfolding piece_by
piece_length class b bs = by (longest (λ s. is_known (class s)) (b ∷ bs) (suc (length bs))) (longest_within (λ s. is_known (class s)) (b ∷ bs) (suc (length bs)))
  where
    by : (n : ℕ) → n ≤ suc (length bs) → (1 ≤ (piece_of_length class (b ∷ bs) n).1) × ((piece_of_length class (b ∷ bs) n).1 ≤ suc (length bs))
    by n le = elim (begins (47 ∷ 42 ∷ []) (b ∷ bs) && leb n 1) as (λ v. let x : Piece × ℕ = if v then (p.OpenComment, 1) else (if eqb n 0 then ((if begins (39 ∷ []) (b ∷ bs) || begins (34 ∷ []) (b ∷ bs) then p.OpenLiteral else p.Unknown), 1) else (class (take n (b ∷ bs)), n)) in (1 ≤ x.1) × (x.1 ≤ suc (length bs))) [
      | true ↦ (omega arith, omega arith)
      | false ↦ elim (cases_eq n 0) [
        | inl z ↦ (let e : eqb n 0 ≡ true = eq-eqb n 0 z in rw e (omega arith, omega arith))
        | inr z ↦ (let e : eqb n 0 ≡ false = grind (arith, nat_tests) in rw e (omega arith, le))
      ]
    ]
