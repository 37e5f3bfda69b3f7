-- Where pieces can be made longer, for each of the three ways of cutting a text.
use Rattle.std.proofs.Common.{◌≡◌, ◌≢◌, ℕ, suc, ◌+◌, ◌≤◌, Bool, true, false, not, ◌&&◌, ◌||◌, ◌⊎◌, if◌then◌else◌, eqb, leb, List, [], ◌∷◌, ◌++◌, Option, Some, None, is_some, length, take, drop, refl, sym, ap, ◌∙◌, inl, inr, arith}
use Rattle.std.proofs.lemmas.Bool.{and_left, and_right, and_from, and_parts, or_left, or_right, or_cases, or_from, cases_Bool, false≢true, eqb-true, eq-eqb, lt-leb}
use Rattle.std.proofs.lemmas.List.{length-append}
use Rattle.k_tree.specs.declared.tokens.mark.Mark.{Mark}
use Rattle.k_lex_pieces.specs.declared.pieces.Piece.{Piece}
use Rattle.k_lex_pieces.specs.declared.pieces.Piece.TheVariants as p
use Rattle.k_lex_pieces.specs.Bytes.{is_letter, is_digit, in_name, is_blank, every, same, begins}
use Rattle.k_lex_pieces.specs.Marks.{marks, mark_of}
use Rattle.k_lex_pieces.specs.Pieces.{is_name, is_number, is_character, is_string, is_comment, is_blank_piece, is_header, takes_sign, goes_on, number_goes_on, closes, ends_comment, closes_header, in_line, mark_piece, class_of, class_in_pragma, class_in_include, is_known}
use Rattle.k_lex_pieces.proofs.Classes.{first_is, not_number, not_character, not_comment, not_blank}
use Rattle.k_lex_pieces.proofs.PieceLaws.{test_fails}
use Rattle.k_lex_pieces.proofs.Tables.{all_keys, no_key}
use Rattle.k_pragma_laws.proofs.Fronts.{IsParted, IsCut}

-- ---- what makes a spelling a piece

abbrev tests : List ℕ → Bool
tests s = is_name s || (is_number s || (is_character s || (is_string s || (is_comment s || (is_blank_piece s || (same s (10 ∷ []) || is_some (mark_of s)))))))

by_tests : (a b c d e f g : Bool) (o : Option Mark)
    → is_known (if a then p.Name else (if b then p.Number else (if c then p.Character else (if d then p.Str else (if e then p.Comment else (if f then p.Blank else (if g then p.Newline else mark_piece o)))))))
    ≡ (a || (b || (c || (d || (e || (f || (g || is_some o)))))))
by_tests true b c d e f g o = refl
by_tests false true c d e f g o = refl
by_tests false false true d e f g o = refl
by_tests false false false true e f g o = refl
by_tests false false false false true f g o = refl
by_tests false false false false false true g o = refl
by_tests false false false false false false true o = refl
by_tests false false false false false false false None = refl
by_tests false false false false false false false (Some m) = refl

known_tests : (s : List ℕ) → is_known (class_of s) ≡ tests s
known_tests s = by_tests (is_name s) (is_number s) (is_character s) (is_string s) (is_comment s) (is_blank_piece s) (same s (10 ∷ [])) (mark_of s)

-- what holds of each of eight
each : (P : Type 0) (a b c d e f g h : Bool) → (a || (b || (c || (d || (e || (f || (g || h))))))) ≡ true
    → (a ≡ true → P) → (b ≡ true → P) → (c ≡ true → P) → (d ≡ true → P) → (e ≡ true → P) → (f ≡ true → P) → (g ≡ true → P) → (h ≡ true → P) → P
each P true b c d e f g h t fa fb fc fd fe ff fg fh = fa refl
each P false true c d e f g h t fa fb fc fd fe ff fg fh = fb refl
each P false false true d e f g h t fa fb fc fd fe ff fg fh = fc refl
each P false false false true e f g h t fa fb fc fd fe ff fg fh = fd refl
each P false false false false true f g h t fa fb fc fd fe ff fg fh = fe refl
each P false false false false false true g h t fa fb fc fd fe ff fg fh = ff refl
each P false false false false false false true h t fa fb fc fd fe ff fg fh = fg refl
each P false false false false false false false h t fa fb fc fd fe ff fg fh = fh t

module _ (s : List ℕ) where
  abbrev Known : Type 0
  Known = is_known (class_of s) ≡ true

  from_name : is_name s ≡ true → Known
  from_name h = known_tests s ∙ or_left _ _ h

  from_number : is_number s ≡ true → Known
  from_number h = known_tests s ∙ or_right _ _ (or_left _ _ h)

  from_comment : is_comment s ≡ true → Known
  from_comment h = known_tests s ∙ or_right (is_name s) _ (or_right (is_number s) _ (or_right (is_character s) _ (or_right (is_string s) _ (or_left (is_comment s) (is_blank_piece s || (same s (10 ∷ []) || is_some (mark_of s))) h))))

  from_mark : is_some (mark_of s) ≡ true → Known
  from_mark h = known_tests s ∙ or_right (is_name s) _ (or_right (is_number s) _ (or_right (is_character s) _ (or_right (is_string s) _ (or_right (is_comment s) _ (or_right (is_blank_piece s) _ (or_right (same s (10 ∷ [])) (is_some (mark_of s)) h))))))

  -- what holds of each kind of piece
  piece : (P : Type 0) → Known → (is_name s ≡ true → P) → (is_number s ≡ true → P) → (is_character s ≡ true → P) → (is_string s ≡ true → P) → (is_comment s ≡ true → P)
      → (is_blank_piece s ≡ true → P) → (same s (10 ∷ []) ≡ true → P) → (is_some (mark_of s) ≡ true → P) → P
  piece P h = each P (is_name s) (is_number s) (is_character s) (is_string s) (is_comment s) (is_blank_piece s) (same s (10 ∷ [])) (is_some (mark_of s)) (sym (known_tests s) ∙ h)

-- ---- fronts

every_front : (f : ℕ → Bool) (xs : List ℕ) (b : ℕ) (s : List ℕ) → every f (xs ++ b ∷ s) ≡ true → every f (xs ++ b ∷ []) ≡ true
every_front f [] b s h = and_from (f b) true (and_parts (f b) (every f s) h).0 refl
every_front f (x ∷ xs) b s h =
    let parts = and_parts (f x) (every f (xs ++ b ∷ s)) h in
    and_from (f x) _ parts.0 (every_front f xs b s parts.1)

every_last : (f : ℕ → Bool) (xs : List ℕ) (b : ℕ) (s : List ℕ) → every f (xs ++ b ∷ s) ≡ true → f b ≡ true
every_last f [] b s h = (and_parts (f b) (every f s) h).0
every_last f (x ∷ xs) b s h = every_last f xs b s (and_parts (f x) (every f (xs ++ b ∷ s)) h).1

every_other : (f : ℕ → Bool) (xs : List ℕ) (b c : ℕ) → f b ≡ true → every f (xs ++ c ∷ []) ≡ true → every f (xs ++ b ∷ []) ≡ true
every_other f [] b c e h = and_from (f b) true e refl
every_other f (x ∷ xs) b c e h =
    let parts = and_parts (f x) (every f (xs ++ c ∷ [])) h in
    and_from (f x) _ parts.0 (every_other f xs b c e parts.1)

goes_front : (before : ℕ) (xs : List ℕ) (b : ℕ) (s : List ℕ) → number_goes_on before (xs ++ b ∷ s) ≡ true → number_goes_on before (xs ++ b ∷ []) ≡ true
goes_front before [] b s h = and_from (goes_on before b) true (and_parts (goes_on before b) (number_goes_on b s) h).0 refl
goes_front before (x ∷ xs) b s h =
    let parts = and_parts (goes_on before x) (number_goes_on x (xs ++ b ∷ s)) h in
    and_from (goes_on before x) _ parts.0 (goes_front x xs b s parts.1)

goes_last : (before : ℕ) (xs : List ℕ) (b : ℕ) (s : List ℕ) → number_goes_on before (xs ++ b ∷ s) ≡ true → (x : ℕ) × (goes_on x b ≡ true)
goes_last before [] b s h = (before, (and_parts (goes_on before b) (number_goes_on b s) h).0)
goes_last before (x ∷ xs) b s h = goes_last x xs b s (and_parts (goes_on before x) (number_goes_on x (xs ++ b ∷ s)) h).1

not_empty : (xs : List ℕ) (b : ℕ) (s : List ℕ) → same (xs ++ b ∷ s) [] ≡ true → ⊥
not_empty [] b s h = false≢true h
not_empty (x ∷ xs) b s h = false≢true h

-- what a quote closes is not closed before
closes_once : (quote : ℕ) (escaped : Bool) (xs : List ℕ) (b : ℕ) (s : List ℕ) → closes quote escaped xs ≡ true → closes quote escaped (xs ++ b ∷ s) ≡ true → ⊥
closes_once quote escaped [] b s = λ h k. false≢true h
closes_once quote escaped (x ∷ xs) b s =
    elim (not escaped && eqb x quote) as (λ v. (if v then same xs [] else (not (eqb x 10) && closes quote (not escaped && eqb x 92) xs)) ≡ true
    → (if v then same (xs ++ b ∷ s) [] else (not (eqb x 10) && closes quote (not escaped && eqb x 92) (xs ++ b ∷ s))) ≡ true → ⊥) [
      | true ↦ λ h k. not_empty xs b s k
      | false ↦ λ h k. closes_once quote (not escaped && eqb x 92) xs b s (and_parts (not (eqb x 10)) _ h).1 (and_parts (not (eqb x 10)) _ k).1
    ]

ends_once : (star : Bool) (xs : List ℕ) (b : ℕ) (s : List ℕ) → ends_comment star xs ≡ true → ends_comment star (xs ++ b ∷ s) ≡ true → ⊥
ends_once star [] b s = λ h k. false≢true h
ends_once star (x ∷ xs) b s =
    elim (star && eqb x 47) as (λ v. (if v then same xs [] else ends_comment (eqb x 42) xs) ≡ true → (if v then same (xs ++ b ∷ s) [] else ends_comment (eqb x 42) (xs ++ b ∷ s)) ≡ true → ⊥) [
      | true ↦ λ h k. not_empty xs b s k
      | false ↦ λ h k. ends_once (eqb x 42) xs b s h k
    ]

header_once : (xs : List ℕ) (b : ℕ) (s : List ℕ) → closes_header xs ≡ true → closes_header (xs ++ b ∷ s) ≡ true → ⊥
header_once [] b s = λ h k. false≢true h
header_once (x ∷ xs) b s =
    elim (eqb x 62) as (λ v. (if v then same xs [] else (not (eqb x 10) && closes_header xs)) ≡ true → (if v then same (xs ++ b ∷ s) [] else (not (eqb x 10) && closes_header (xs ++ b ∷ s))) ≡ true → ⊥) [
      | true ↦ λ h k. not_empty xs b s k
      | false ↦ λ h k. header_once xs b s (and_parts (not (eqb x 10)) _ h).1 (and_parts (not (eqb x 10)) _ k).1
    ]

-- ---- marks

-- what all marks pass, a mark passes
mark_passes : (passes : List ℕ → Bool) (s : List ℕ) → all_keys passes marks ≡ true → is_some (mark_of s) ≡ true → passes s ≡ true
mark_passes passes s all h = elim (cases_Bool (passes s)) [
  | inl e ↦ e
  | inr e ↦ absurd (false≢true (sym (ap is_some (no_key marks passes s all e)) ∙ h))
]

-- no mark begins so
no_mark : (passes : List ℕ → Bool) (s : List ℕ) → all_keys passes marks ≡ true → passes s ≡ false → is_some (mark_of s) ≡ true → ⊥
no_mark passes s all e h = false≢true (sym e ∙ mark_passes passes s all h)

-- a mark has at most three bytes, and the first two of three are one
abbrev grows : List ℕ → Bool
grows s = leb (length s) 2 || (eqb (length s) 3 && is_some (mark_of (take 2 s)))

too_long : (s : List ℕ) → 4 ≤ length s → grows s ≡ false
too_long s le = or_from _ _ (lt-leb (length s) 2 (omega arith)) (and_left _ _ (test_fails (length s) 3 (λ e. absurd (omega (arith, e)))))

mark_front : (p : List ℕ) (b : ℕ) (s : List ℕ) → 1 ≤ length p → is_some (mark_of (p ++ b ∷ s)) ≡ true → is_some (mark_of (p ++ b ∷ [])) ≡ true
mark_front [] b s some h = absurd (omega arith)
mark_front (x ∷ []) b [] some h = h
mark_front (x ∷ []) b (c ∷ []) some h = mark_passes grows (x ∷ b ∷ c ∷ []) refl h
mark_front (x ∷ []) b (c ∷ d ∷ s) some h = absurd (no_mark grows (x ∷ b ∷ c ∷ d ∷ s) refl (too_long (x ∷ b ∷ c ∷ d ∷ s) (omega arith)) h)
mark_front (x ∷ y ∷ []) b [] some h = h
mark_front (x ∷ y ∷ []) b (c ∷ s) some h = absurd (no_mark grows (x ∷ y ∷ b ∷ c ∷ s) refl (too_long (x ∷ y ∷ b ∷ c ∷ s) (omega arith)) h)
mark_front (x ∷ y ∷ z ∷ []) b s some h = absurd (no_mark grows (x ∷ y ∷ z ∷ b ∷ s) refl (too_long (x ∷ y ∷ z ∷ b ∷ s) (omega arith)) h)
mark_front (x ∷ y ∷ z ∷ w ∷ q) b s some h = absurd (no_mark grows (x ∷ y ∷ z ∷ w ∷ (q ++ b ∷ s)) refl (too_long (x ∷ y ∷ z ∷ w ∷ (q ++ b ∷ s)) (omega arith)) h)

-- no mark has a space or a `/` behind its first byte
abbrev unparted : ℕ → Bool
unparted b = not (eqb b 32) && not (eqb b 47)

mark_parted : (p : List ℕ) (c : ℕ) → 1 ≤ length p → unparted c ≡ false → is_some (mark_of (p ++ c ∷ [])) ≡ true → ⊥
mark_parted [] c some e h = absurd (omega arith)
mark_parted (x ∷ p) c some e h = false≢true (sym e ∙ every_last unparted p c [] (mark_passes (λ s. every unparted (drop 1 s)) (x ∷ (p ++ c ∷ [])) refl h))

-- ---- spellings that begin with a quote or a slash

quoted : (t : List ℕ) → is_known (class_of (39 ∷ t)) ≡ true → closes 39 false t ≡ true
quoted t k = piece (39 ∷ t) (closes 39 false t ≡ true) k
    (λ h. absurd (false≢true h))
    (λ h. absurd (false≢true (sym (not_number 39 t refl refl) ∙ h)))
    (λ h. (and_parts (closes 39 false t) _ h).0)
    (λ h. absurd (false≢true h))
    (λ h. absurd (false≢true (sym (not_comment 39 t refl) ∙ h)))
    (λ h. absurd (false≢true (sym (not_blank 39 t refl) ∙ h)))
    (λ h. absurd (false≢true (sym (and_right (same t []) false refl) ∙ h)))
    (λ h. absurd (no_mark (λ s. not (first_is (λ b. eqb b 39) s)) (39 ∷ t) refl refl h))

double_quoted : (t : List ℕ) → is_known (class_of (34 ∷ t)) ≡ true → closes 34 false t ≡ true
double_quoted t k = piece (34 ∷ t) (closes 34 false t ≡ true) k
    (λ h. absurd (false≢true h))
    (λ h. absurd (false≢true (sym (not_number 34 t refl refl) ∙ h)))
    (λ h. absurd (false≢true (sym (not_character 34 t refl) ∙ h)))
    (λ h. h)
    (λ h. absurd (false≢true (sym (not_comment 34 t refl) ∙ h)))
    (λ h. absurd (false≢true (sym (not_blank 34 t refl) ∙ h)))
    (λ h. absurd (false≢true (sym (and_right (same t []) false refl) ∙ h)))
    (λ h. absurd (no_mark (λ s. not (first_is (λ b. eqb b 34) s)) (34 ∷ t) refl refl h))

-- what begins as a comment of several lines is one
block : (t : List ℕ) → is_known (class_of (47 ∷ 42 ∷ t)) ≡ true → ends_comment false t ≡ true
block t k = piece (47 ∷ 42 ∷ t) (ends_comment false t ≡ true) k
    (λ h. absurd (false≢true h)) (λ h. absurd (false≢true h)) (λ h. absurd (false≢true h)) (λ h. absurd (false≢true h))
    (block_ends t) (λ h. absurd (false≢true h)) (λ h. absurd (false≢true h))
    (λ h. absurd (no_mark (λ s. not (begins (47 ∷ 42 ∷ []) s)) (47 ∷ 42 ∷ t) refl refl h))
  where
    block_ends : (t : List ℕ) → is_comment (47 ∷ 42 ∷ t) ≡ true → ends_comment false t ≡ true
    block_ends t h = elim (or_cases (ends_comment false t) false h) [ inl e ↦ e | inr e ↦ absurd (false≢true e) ]

-- ---- comments

-- a comment that is longer than a piece goes on behind it
abbrev comment_by : ℕ → ℕ → List ℕ → Bool
comment_by b c cs = eqb b 47 && ((eqb c 42 && ends_comment false cs) || (eqb c 47 && every in_line cs))

comment_kind : (b c : ℕ) (cs : List ℕ) → comment_by b c cs ≡ true → (b ≡ 47) × (((c ≡ 42) × (ends_comment false cs ≡ true)) ⊎ ((c ≡ 47) × (every in_line cs ≡ true)))
comment_kind b c cs h =
    let parts = and_parts (eqb b 47) _ h in (
      eqb-true b 47 parts.0,
      elim (or_cases (eqb c 42 && ends_comment false cs) (eqb c 47 && every in_line cs) parts.1) [
        | inl e ↦ (let two = and_parts (eqb c 42) (ends_comment false cs) e in inl (eqb-true c 42 two.0, two.1))
        | inr e ↦ (let two = and_parts (eqb c 47) (every in_line cs) e in inr (eqb-true c 47 two.0, two.1))
      ],
    )

line_comment : (b c : ℕ) (cs : List ℕ) → b ≡ 47 → c ≡ 47 → every in_line cs ≡ true → is_comment (b ∷ c ∷ cs) ≡ true
line_comment b c cs e d h = and_from (eqb b 47) _ (eq-eqb b 47 e) (or_right (eqb c 42 && ends_comment false cs) _ (and_from (eqb c 47) _ (eq-eqb c 47 d) h))

same_first : (x y c d : ℕ) (t : List ℕ) → x ≡ c → y ≡ d → x ∷ y ∷ t ≡ c ∷ d ∷ t
same_first x y c d t e f = λ i. e i ∷ f i ∷ t

comment_front : (p : List ℕ) (b : ℕ) (s : List ℕ) → 1 ≤ length p → ((t : List ℕ) → p ≡ 47 ∷ 42 ∷ t → ends_comment false t ≡ true) → (p ≡ 47 ∷ [] → b ≡ 42 → ⊥)
    → is_comment (p ++ b ∷ s) ≡ true → is_comment (p ++ b ∷ []) ≡ true
comment_front [] b s some ends opens h = absurd (omega arith)
comment_front (x ∷ []) b s some ends opens h = by (comment_kind x b s h)
  where
    by : (x ≡ 47) × (((b ≡ 42) × (ends_comment false s ≡ true)) ⊎ ((b ≡ 47) × (every in_line s ≡ true))) → is_comment (x ∷ b ∷ []) ≡ true
    by (e, inl k) = absurd (opens (ap (λ y. y ∷ []) e) k.0)
    by (e, inr k) = line_comment x b [] e k.0 refl
comment_front (x ∷ y ∷ q) b s some ends opens h = by (comment_kind x y (q ++ b ∷ s) h)
  where
    by : (x ≡ 47) × (((y ≡ 42) × (ends_comment false (q ++ b ∷ s) ≡ true)) ⊎ ((y ≡ 47) × (every in_line (q ++ b ∷ s) ≡ true))) → is_comment (x ∷ y ∷ (q ++ b ∷ [])) ≡ true
    by (e, inl k) = absurd (ends_once false q b s (ends q (same_first x y 47 42 q e k.0)) k.1)
    by (e, inr k) = line_comment x y (q ++ b ∷ []) e k.0 (every_front in_line q b s k.1)

comment_parted : (p : List ℕ) (b c : ℕ) → 1 ≤ length p → ((t : List ℕ) → p ≡ 47 ∷ 42 ∷ t → ends_comment false t ≡ true) → IsParted p b c
    → is_comment (p ++ c ∷ []) ≡ true → is_comment (p ++ b ∷ []) ≡ true
comment_parted [] b c some ends parted h = absurd (omega arith)
comment_parted (x ∷ []) b c some ends parted h = absurd (by (comment_kind x c [] h) parted.byte)
  where
    by : (x ≡ 47) × (((c ≡ 42) × (ends_comment false [] ≡ true)) ⊎ ((c ≡ 47) × (every in_line [] ≡ true))) → (c ≡ 32) ⊎ ((c ≡ 47) × (x ∷ [] ≡ 47 ∷ [] → ⊥)) → ⊥
    by (e, inl k) is = false≢true k.1
    by (e, inr k) (inl is) = let other : c ≡ 47 = k.0 in let here : c ≡ 32 = is in omega arith
    by (e, inr k) (inr is) = is.1 (ap (λ y. y ∷ []) e)
comment_parted (x ∷ y ∷ q) b c some ends parted h = by (comment_kind x y (q ++ c ∷ []) h)
  where
    by : (x ≡ 47) × (((y ≡ 42) × (ends_comment false (q ++ c ∷ []) ≡ true)) ⊎ ((y ≡ 47) × (every in_line (q ++ c ∷ []) ≡ true))) → is_comment (x ∷ y ∷ (q ++ b ∷ [])) ≡ true
    by (e, inl k) = absurd (ends_once false q c [] (ends q (same_first x y 47 42 q e k.0)) k.1)
    by (e, inr k) = line_comment x y (q ++ b ∷ []) e k.0 (every_other in_line q b c (in_a_line b parted.line) k.1)
      where
        in_a_line : (b : ℕ) → b ≢ 10 → in_line b ≡ true
        in_a_line b ne = elim (cases_Bool (eqb b 10)) [ inl e ↦ absurd (ne (eqb-true b 10 e)) | inr e ↦ ap not e ]

-- ---- names and numbers

name_front : (p : List ℕ) (b : ℕ) (s : List ℕ) → 1 ≤ length p → is_name (p ++ b ∷ s) ≡ true → is_name (p ++ b ∷ []) ≡ true
name_front [] b s some h = absurd (omega arith)
name_front (x ∷ p) b s some h =
    let parts = and_parts (is_letter x) (every in_name (p ++ b ∷ s)) h in
    and_from (is_letter x) _ parts.0 (every_front in_name p b s parts.1)

number_front : (p : List ℕ) (b : ℕ) (s : List ℕ) → 1 ≤ length p → is_number (p ++ b ∷ s) ≡ true → is_number (p ++ b ∷ []) ≡ true
number_front [] b s some h = absurd (omega arith)
number_front (x ∷ []) b s some h =
    let parts = and_parts (is_digit x || (eqb x 46 && is_digit b)) (number_goes_on x (b ∷ s)) h in
    and_from (is_digit x || (eqb x 46 && is_digit b)) _ parts.0 (goes_front x [] b s parts.1)
number_front (x ∷ y ∷ p) b s some h =
    let parts = and_parts (is_digit x || (eqb x 46 && is_digit y)) (number_goes_on x (y ∷ (p ++ b ∷ s))) h in
    and_from (is_digit x || (eqb x 46 && is_digit y)) _ parts.0 (goes_front x (y ∷ p) b s parts.1)

-- a space and a `/` stand in no name and in no number
abbrev parts_pieces : ℕ → Type 0
parts_pieces c = (c ≡ 32) ⊎ (c ≡ 47)

name_parted : (p : List ℕ) (c : ℕ) → 1 ≤ length p → parts_pieces c → is_name (p ++ c ∷ []) ≡ true → ⊥
name_parted [] c some is h = absurd (omega arith)
name_parted (x ∷ p) c some is h = by is (every_last in_name p c [] (and_parts (is_letter x) (every in_name (p ++ c ∷ [])) h).1)
  where
    by : parts_pieces c → in_name c ≡ true → ⊥
    by (inl e) k = false≢true (ap in_name (sym e) ∙ k)
    by (inr e) k = false≢true (ap in_name (sym e) ∙ k)

no_goes : (x c : ℕ) → parts_pieces c → goes_on x c ≡ true → ⊥
no_goes x c (inl e) h = false≢true (sym (and_right (takes_sign x) false refl) ∙ ap (goes_on x) (sym e) ∙ h)
no_goes x c (inr e) h = false≢true (sym (and_right (takes_sign x) false refl) ∙ ap (goes_on x) (sym e) ∙ h)

number_parted : (p : List ℕ) (c : ℕ) → 1 ≤ length p → parts_pieces c → is_number (p ++ c ∷ []) ≡ true → ⊥
number_parted [] c some is h = absurd (omega arith)
number_parted (x ∷ []) c some is h =
    let last = goes_last x [] c [] (and_parts (is_digit x || (eqb x 46 && is_digit c)) (number_goes_on x (c ∷ [])) h).1 in
    no_goes last.0 c is last.1
number_parted (x ∷ y ∷ p) c some is h =
    let last = goes_last x (y ∷ p) c [] (and_parts (is_digit x || (eqb x 46 && is_digit y)) (number_goes_on x (y ∷ (p ++ c ∷ []))) h).1 in
    no_goes last.0 c is last.1

-- ---- literals, blanks and ends of lines

no_longer_character : (p : List ℕ) (b : ℕ) (s : List ℕ) → 1 ≤ length p → is_known (class_of p) ≡ true → is_character (p ++ b ∷ s) ≡ true → ⊥
no_longer_character [] b s some k h = absurd (omega arith)
no_longer_character (x ∷ p) b s some k h =
    let two = and_parts (eqb x 39 && closes 39 false (p ++ b ∷ s)) _ h in
    let parts = and_parts (eqb x 39) (closes 39 false (p ++ b ∷ s)) two.0 in
    closes_once 39 false p b s (quoted p (ap (λ y. is_known (class_of (y ∷ p))) (sym (eqb-true x 39 parts.0)) ∙ k)) parts.1

no_longer_string : (p : List ℕ) (b : ℕ) (s : List ℕ) → 1 ≤ length p → is_known (class_of p) ≡ true → is_string (p ++ b ∷ s) ≡ true → ⊥
no_longer_string [] b s some k h = absurd (omega arith)
no_longer_string (x ∷ p) b s some k h =
    let parts = and_parts (eqb x 34) (closes 34 false (p ++ b ∷ s)) h in
    closes_once 34 false p b s (double_quoted p (ap (λ y. is_known (class_of (y ∷ p))) (sym (eqb-true x 34 parts.0)) ∙ k)) parts.1

no_longer_blank : (p : List ℕ) (b : ℕ) (s : List ℕ) → 1 ≤ length p → is_blank_piece (p ++ b ∷ s) ≡ true → ⊥
no_longer_blank [] b s some h = absurd (omega arith)
no_longer_blank (x ∷ p) b s some h = not_empty p b s (and_parts (same (p ++ b ∷ s) []) (is_blank x) h).0

no_longer_newline : (p : List ℕ) (b : ℕ) (s : List ℕ) → 1 ≤ length p → same (p ++ b ∷ s) (10 ∷ []) ≡ true → ⊥
no_longer_newline [] b s some h = absurd (omega arith)
no_longer_newline (x ∷ p) b s some h = not_empty p b s (and_parts (same (p ++ b ∷ s) []) (eqb x 10) h).0

block_of : (p t : List ℕ) → is_known (class_of p) ≡ true → p ≡ 47 ∷ 42 ∷ t → ends_comment false t ≡ true
block_of p t k e = block t (ap (λ q. is_known (class_of q)) (sym e) ∙ k)

-- ---- a text outside of `#pragma` and `#include`

which : (p : List ℕ) (b c : ℕ) → IsParted p b c → parts_pieces c
which p b c parted = elim parted.byte [ inl e ↦ inl e | inr e ↦ inr e.0 ]

unparted_not : (c : ℕ) → parts_pieces c → unparted c ≡ false
unparted_not c (inl e) = ap unparted e
unparted_not c (inr e) = ap unparted e

pub cut_of : IsCut class_of
cut_of = record {
  front = λ p b s some k opens h. piece (p ++ b ∷ s) (is_known (class_of (p ++ b ∷ [])) ≡ true) h
      (λ q. from_name (p ++ b ∷ []) (name_front p b s some q))
      (λ q. from_number (p ++ b ∷ []) (number_front p b s some q))
      (λ q. absurd (no_longer_character p b s some k q))
      (λ q. absurd (no_longer_string p b s some k q))
      (λ q. from_comment (p ++ b ∷ []) (comment_front p b s some (λ t. block_of p t k) opens q))
      (λ q. absurd (no_longer_blank p b s some q))
      (λ q. absurd (no_longer_newline p b s some q))
      (λ q. from_mark (p ++ b ∷ []) (mark_front p b s some q));
  parted = λ p b c some k parted h. piece (p ++ c ∷ []) (is_known (class_of (p ++ b ∷ [])) ≡ true) h
      (λ q. absurd (name_parted p c some (which p b c parted) q))
      (λ q. absurd (number_parted p c some (which p b c parted) q))
      (λ q. absurd (no_longer_character p c [] some k q))
      (λ q. absurd (no_longer_string p c [] some k q))
      (λ q. from_comment (p ++ b ∷ []) (comment_parted p b c some (λ t. block_of p t k) parted q))
      (λ q. absurd (no_longer_blank p c [] some q))
      (λ q. absurd (no_longer_newline p c [] some q))
      (λ q. absurd (mark_parted p c some (unparted_not c (which p b c parted)) q));
}

-- ---- in a `#pragma`

pragma_tests : (s : List ℕ) → is_known (class_in_pragma s) ≡ (is_comment s || (same s (10 ∷ []) || eqb (length s) 1))
pragma_tests s = by (is_comment s) (same s (10 ∷ [])) (eqb (length s) 1)
  where
    by : (a b c : Bool) → is_known (if a then p.Comment else (if b then p.Newline else (if c then p.Blank else p.Unknown))) ≡ (a || (b || c))
    by true b c = refl
    by false true c = refl
    by false false true = refl
    by false false false = refl

pragma_piece : (s : List ℕ) (P : Type 0) → is_known (class_in_pragma s) ≡ true → (is_comment s ≡ true → P) → (same s (10 ∷ []) ≡ true → P) → (eqb (length s) 1 ≡ true → P) → P
pragma_piece s P h comment newline one = elim (or_cases (is_comment s) (same s (10 ∷ []) || eqb (length s) 1) (sym (pragma_tests s) ∙ h)) [
  | inl e ↦ comment e
  | inr e ↦ elim (or_cases (same s (10 ∷ [])) (eqb (length s) 1) e) [ inl k ↦ newline k | inr k ↦ one k ]
]

pragma_block : (p t : List ℕ) → is_known (class_in_pragma p) ≡ true → p ≡ 47 ∷ 42 ∷ t → ends_comment false t ≡ true
pragma_block p t k e = pragma_piece (47 ∷ 42 ∷ t) (ends_comment false t ≡ true) (ap (λ q. is_known (class_in_pragma q)) (sym e) ∙ k)
    (λ h. elim (or_cases (ends_comment false t) false h) [ inl e ↦ e | inr e ↦ absurd (false≢true e) ])
    (λ h. absurd (false≢true h))
    (λ h. let two : suc (suc (length t)) ≡ 1 = eqb-true (suc (suc (length t))) 1 h in absurd (omega arith))

pragma_comment : (s : List ℕ) → is_comment s ≡ true → is_known (class_in_pragma s) ≡ true
pragma_comment s h = pragma_tests s ∙ or_left _ _ h

two_bytes : (p : List ℕ) (b : ℕ) (s : List ℕ) → 1 ≤ length p → eqb (length (p ++ b ∷ s)) 1 ≡ true → ⊥
two_bytes p b s some h =
    let one : length (p ++ b ∷ s) ≡ 1 = eqb-true (length (p ++ b ∷ s)) 1 h in
    let long : length (p ++ b ∷ s) ≡ length p + suc (length s) = length-append p (b ∷ s) in
    absurd (omega (arith, one, long))

pub cut_in_pragma : IsCut class_in_pragma
cut_in_pragma = record {
  front = λ p b s some k opens h. pragma_piece (p ++ b ∷ s) (is_known (class_in_pragma (p ++ b ∷ [])) ≡ true) h
      (λ q. pragma_comment (p ++ b ∷ []) (comment_front p b s some (λ t. pragma_block p t k) opens q))
      (λ q. absurd (no_longer_newline p b s some q))
      (λ q. absurd (two_bytes p b s some q));
  parted = λ p b c some k parted h. pragma_piece (p ++ c ∷ []) (is_known (class_in_pragma (p ++ b ∷ [])) ≡ true) h
      (λ q. pragma_comment (p ++ b ∷ []) (comment_parted p b c some (λ t. pragma_block p t k) parted q))
      (λ q. absurd (no_longer_newline p c [] some q))
      (λ q. absurd (two_bytes p c [] some q));
}

-- ---- behind `#include`

abbrev include_by : Bool → Bool → Piece → Piece
include_by a b other = if a then (if b then p.Header else p.Unknown) else other

header_by : (b : Bool) (other : Piece) → is_known (include_by true b other) ≡ true → b ≡ true
header_by true other h = refl
header_by false other h = absurd (false≢true h)

-- which of the two a spelling is, by its first byte
include_kind : (x : ℕ) (t : List ℕ) (a : Bool) → (eqb 60 x && true) ≡ a → class_in_include (x ∷ t) ≡ include_by a (is_header (x ∷ t)) (class_of (x ∷ t))
include_kind x t a e = ap (λ v. include_by v (is_header (x ∷ t)) (class_of (x ∷ t))) e

no_longer_header : (x : ℕ) (p : List ℕ) (b : ℕ) (s : List ℕ) → (eqb 60 x && true) ≡ true → is_known (class_in_include (x ∷ p)) ≡ true → is_known (class_in_include (x ∷ (p ++ b ∷ s))) ≡ true → ⊥
no_longer_header x p b s e k h =
    let first = header_by (is_header (x ∷ p)) (class_of (x ∷ p)) (ap is_known (sym (include_kind x p true e)) ∙ k) in
    let second = header_by (is_header (x ∷ (p ++ b ∷ s))) (class_of (x ∷ (p ++ b ∷ s))) (ap is_known (sym (include_kind x (p ++ b ∷ s) true e)) ∙ h) in
    header_once p b s (and_parts (eqb x 60) (closes_header p) first).1 (and_parts (eqb x 60) (closes_header (p ++ b ∷ s)) second).1

include_front : (p : List ℕ) (b : ℕ) (s : List ℕ) → 1 ≤ length p → is_known (class_in_include p) ≡ true → (p ≡ 47 ∷ [] → b ≡ 42 → ⊥)
    → is_known (class_in_include (p ++ b ∷ s)) ≡ true → is_known (class_in_include (p ++ b ∷ [])) ≡ true
include_front [] b s some k opens h = absurd (omega arith)
include_front (x ∷ p) b s some k opens h = elim (cases_Bool (eqb 60 x && true)) [
  | inl e ↦ absurd (no_longer_header x p b s e k h)
  | inr e ↦ ap is_known (include_kind x (p ++ b ∷ []) false e)
      ∙ cut_of.front (x ∷ p) b s some (ap is_known (sym (include_kind x p false e)) ∙ k) opens (ap is_known (sym (include_kind x (p ++ b ∷ s) false e)) ∙ h)
]

include_parted : (p : List ℕ) (b c : ℕ) → 1 ≤ length p → is_known (class_in_include p) ≡ true → IsParted p b c
    → is_known (class_in_include (p ++ c ∷ [])) ≡ true → is_known (class_in_include (p ++ b ∷ [])) ≡ true
include_parted [] b c some k parted h = absurd (omega arith)
include_parted (x ∷ p) b c some k parted h = elim (cases_Bool (eqb 60 x && true)) [
  | inl e ↦ absurd (no_longer_header x p c [] e k h)
  | inr e ↦ ap is_known (include_kind x (p ++ b ∷ []) false e)
      ∙ cut_of.parted (x ∷ p) b c some (ap is_known (sym (include_kind x p false e)) ∙ k) parted (ap is_known (sym (include_kind x (p ++ c ∷ []) false e)) ∙ h)
]

pub cut_in_include : IsCut class_in_include
cut_in_include = record { front = include_front; parted = include_parted }
