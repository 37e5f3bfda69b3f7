-- The notes of regions: a comment that ends where it is to end, and nothing or a line of a `#pragma`.
use Rattle.std.proofs.Common.{◌≡◌, ℕ, zero, suc, ◌+◌, ◌/◌, ◌%◌, Bool, true, false, not, eqb, ltb, nat_eq, if◌then◌else◌, List, [], ◌∷◌, ◌++◌, Option, Some, None, slice_get, codes, map, subst, refl, sym, ap, ◌∙◌, inl, inr, arith}
use Rattle.std.specs.List.{flat_map, list_all, list_any}
use Rattle.std.specs.Fmt.{decimal, digits, digits_onto, digit_glyph}
use Rattle.std.proofs.lemmas.Bool.{and_from, and_parts, cases_Bool, false≢true, eqb-true}
use Rattle.std.proofs.lemmas.List.{map-append}
use Rattle.k_num.specs.declared.place.Place.{Place}
use Rattle.k_optab.specs.declared.region.Region.{Region}
use Rattle.k_optab.specs.declared.region.RegionKind.{RegionKind}
use Rattle.k_optab.specs.declared.region.RegionKind.TheVariants.{Func, Loop, Body}
use Rattle.k_selfpar.specs.declared.row.Row.{Row}
use Rattle.k_tree.specs.declared.tokens.Token.{Token}
use Rattle.k_types_meaning.specs.declared.tree.unit.TFunc.{TFunc}
use Rattle.k_types_meaning.specs.declared.tree.unit.TVariable.{TVariable}
use Rattle.k_marks_meaning.specs.declared.uses.Group.TheVariants.{Sums, Products, Ands, Ors, Xors}
use Rattle.k_lex_pieces.specs.Bytes.{every}
use Rattle.k_lex_pieces.specs.Pieces.{ends_comment}
use Rattle.k_lex_pieces.proofs.PieceLaws.{test_fails}
use Rattle.k_lex.proofs.Outcomes.{Each, each_append}
use Rattle.k_pragma_texts.specs.declared.occurrence.LoopText.{LoopText}
use Rattle.k_pragma_texts.specs.declared.occurrence.Occurrence.{Occurrence}
use Rattle.k_pragma_texts.specs.declared.occurrence.Setter.{Setter}
use Rattle.k_pragma_texts.specs.Texts.{function_held}
use Rattle.k_pragma_written.specs.declared.told.Written.{Written}
use Rattle.k_pragma.specs.declared.clauses.Clause.{Clause}
use Rattle.k_pragma.specs.declared.clauses.Clause.TheVariants.{Reduction, Private}
use Rattle.k_pragma.specs.declared.notes.Note.{Note}
use Rattle.k_pragma.specs.declared.pragmas.Pragma.{Pragma}
use Rattle.k_pragma.specs.Clauses.{all_names, behind_comma, clause_head, clause_of, clause_text, clauses, has_names, numbers_in, numbers_in_all, pragma_text}
use Rattle.k_pragma.specs.Insertions.{comment, follows_pragma, line_at, line_of, note_by, note_for, note_of, notes_of}
use Rattle.k_pragma.specs.Marked.{is_fit, is_ready, pragma_by, pragmas_in, pragmas_of, pragmas_of_text, region_of_loop}
use Rattle.k_pragma.specs.Names.{are_apart, is_in_word, is_word, name_of, names_of, same_name, stands_apart}
use Rattle.k_pragma_laws.proofs.Notes.{IsHarmless, IsPragmaLine, is_plain}

every_append : (f : ℕ → Bool) (xs ys : List ℕ) → every f xs ≡ true → every f ys ≡ true → every f (xs ++ ys) ≡ true
every_append f [] ys first second = second
every_append f (x ∷ xs) ys first second =
    let parts = and_parts (f x) (every f xs) first in
    and_from (f x) _ parts.0 (every_append f xs ys parts.1 second)

-- ---- comments

-- no `*`
abbrev is_quiet : ℕ → Bool
is_quiet b = not (eqb b 42)

ends_quiet : (xs : List ℕ) → every is_quiet xs ≡ true → ends_comment false (xs ++ codes " */") ≡ true
ends_quiet [] h = refl
ends_quiet (x ∷ xs) h =
    let parts = and_parts (is_quiet x) (every is_quiet xs) h in
    ap (λ b. ends_comment b (xs ++ codes " */")) (no_from (eqb x 42) parts.0) ∙ ends_quiet xs parts.1
  where
    no_from : (b : Bool) → not b ≡ true → b ≡ false
    no_from true e = absurd (false≢true e)
    no_from false e = refl

glyph_quiet : (d : ℕ) → is_quiet (digit_glyph false d) ≡ true
glyph_quiet d = by (ltb d 10)
  where
    by : (b : Bool) → is_quiet (if b then 48 + d else 87 + d) ≡ true
    by true = ap not (test_fails (48 + d) 42 (λ e. absurd (omega (arith, e))))
    by false = ap not (test_fails (87 + d) 42 (λ e. absurd (omega (arith, e))))

digits_quiet : (k n : ℕ) (acc : List ℕ) → every is_quiet acc ≡ true → every is_quiet (digits_onto k 10 false n acc) ≡ true
digits_quiet zero n acc h = h
digits_quiet (suc k) n acc h =
    let more = digit_glyph false (n % 10) ∷ acc in
    let quiet : every is_quiet more ≡ true = and_from (is_quiet (digit_glyph false (n % 10))) (every is_quiet acc) (glyph_quiet (n % 10)) h in
    elim (eqb (n / 10) 0) as (λ v. every is_quiet (if v then more else digits_onto k 10 false (n / 10) more) ≡ true) [
      | true ↦ quiet
      | false ↦ digits_quiet k (n / 10) more quiet
    ]

decimal_quiet : (n : ℕ) → every is_quiet (decimal n) ≡ true
unfolding digits
decimal_quiet n = digits_quiet 64 n [] refl

-- what stands between `/*` and ` */`
abbrev told : List ℕ → Row → List ℕ
told kind row =
    codes " kremlin: " ++ kind ++ codes " n=" ++ decimal row.instances ++ codes " work=" ++ decimal row.work ++ codes " path=" ++ decimal row.path ++ codes " sp=" ++ decimal row.sp.0 ++ codes "/"
    ++ decimal row.sp.1

told_quiet : (kind : List ℕ) (row : Row) → every is_quiet kind ≡ true → every is_quiet (told kind row) ≡ true
told_quiet kind row h =
    let a = codes " kremlin: " ++ kind in
    let b = a ++ codes " n=" ++ decimal row.instances in
    let c = b ++ codes " work=" ++ decimal row.work in
    let d = c ++ codes " path=" ++ decimal row.path in
    let e = d ++ codes " sp=" ++ decimal row.sp.0 in
    let ha : every is_quiet a ≡ true = every_append is_quiet (codes " kremlin: ") kind refl h in
    let hb : every is_quiet b ≡ true = one_more a (codes " n=") row.instances ha refl in
    let hc : every is_quiet c ≡ true = one_more b (codes " work=") row.work hb refl in
    let hd : every is_quiet d ≡ true = one_more c (codes " path=") row.path hc refl in
    let he : every is_quiet e ≡ true = one_more d (codes " sp=") row.sp.0 hd refl in
    one_more e (codes "/") row.sp.1 he refl
  where
    one_more : (xs name : List ℕ) (n : ℕ) → every is_quiet xs ≡ true → every is_quiet name ≡ true → every is_quiet (xs ++ name ++ decimal n) ≡ true
    one_more xs name n hx hn = every_append is_quiet (xs ++ name) (decimal n) (every_append is_quiet xs name hx hn) (decimal_quiet n)

a_note_harmless : (place : Place) (kind : List ℕ) (row : Row) (line : List ℕ) → every is_quiet kind ≡ true → IsPragmaLine line → IsHarmless (record { place = place; comment = comment kind row; line = line })
a_note_harmless place kind row line quiet is =
    record { inside = told kind row ++ codes " */"; comment = refl; ends = ends_quiet (told kind row) (told_quiet kind row quiet); line = is }

-- ---- lines

-- a word is plain
in_word_plain : (b : ℕ) → is_in_word b ≡ true → is_plain b ≡ true
in_word_plain b h =
    and_from (not (eqb b 47)) _ (unless 47 refl)
    (and_from (not (eqb b 10)) _ (unless 10 refl)
    (and_from (not (eqb b 92)) (not (eqb b 63)) (unless 92 refl) (unless 63 refl)))
  where
    unless : (c : ℕ) → is_in_word c ≡ false → not (eqb b c) ≡ true
    unless c fails = elim (cases_Bool (eqb b c)) [
      | inl e ↦ absurd (false≢true (sym fails ∙ ap is_in_word (sym (eqb-true b c e)) ∙ h))
      | inr e ↦ ap not e
    ]

in_words_plain : (xs : List ℕ) → list_all is_in_word xs ≡ true → every is_plain xs ≡ true
in_words_plain [] h = refl
in_words_plain (x ∷ xs) h =
    let parts = and_parts (is_in_word x) (list_all is_in_word xs) h in
    and_from (is_plain x) (every is_plain xs) (in_word_plain x parts.0) (in_words_plain xs parts.1)

word_plain : (name : List ℕ) → is_word name ≡ true → every is_plain name ≡ true
word_plain [] h = refl
word_plain (x ∷ xs) h = in_words_plain (x ∷ xs) h

-- bytes without a newline and a `/`
abbrev IsPlain : List ℕ → Type 0
IsPlain bytes = every is_plain bytes ≡ true

-- names that are words are plain
apart_plain : (names : List (List ℕ)) → are_apart names ≡ true → Each IsPlain names
apart_plain [] h = tt
apart_plain (name ∷ names) h =
    let parts = and_parts (stands_apart name names) (are_apart names) h in
    let word = and_parts (is_word name) (not (list_any (same_name name) names)) parts.0 in
    (word_plain name word.0, apart_plain names parts.1)

each_parts : (P : List ℕ → Type 0) (xs ys : List (List ℕ)) → Each P (xs ++ ys) → Each P xs × Each P ys
each_parts P [] ys h = (tt, h)
each_parts P (x ∷ xs) ys h = let rest = each_parts P xs ys h.1 in ((h.0, rest.0), rest.1)

behind_plain : (names : List (List ℕ)) → Each IsPlain names → every is_plain (flat_map behind_comma names) ≡ true
behind_plain [] h = refl
behind_plain (name ∷ names) h = every_append is_plain (behind_comma name) (flat_map behind_comma names) (every_append is_plain (codes ",") name refl h.0) (behind_plain names h.1)

head_plain : (clause : Clause) → every is_plain (clause_head clause) ≡ true
head_plain (Reduction Sums) = refl
head_plain (Reduction Products) = refl
head_plain (Reduction Ands) = refl
head_plain (Reduction Ors) = refl
head_plain (Reduction Xors) = refl
head_plain Private = refl

clause_of_plain : (clause : Clause) (names : List (List ℕ)) → Each IsPlain names → every is_plain (clause_of clause names) ≡ true
clause_of_plain clause [] h = refl
clause_of_plain clause (name ∷ names) h =
    let others = flat_map behind_comma names in
    let first = clause_head clause ++ name in
    let one : every is_plain first ≡ true = every_append is_plain (clause_head clause) name (head_plain clause) h.0 in
    let all : every is_plain (first ++ others) ≡ true = every_append is_plain first others one (behind_plain names h.1) in
    every_append is_plain (first ++ others) (codes ")") all refl

module _ (names : List (List ℕ)) (occurs : List Occurrence) (l : LoopText) (vs : List TVariable) where
  clauses_plain : (list : List Clause) → Each IsPlain (map (name_of names) (numbers_in_all occurs l vs list)) → every is_plain (flat_map (clause_text names occurs l vs) list) ≡ true
  clauses_plain [] h = refl
  clauses_plain (clause ∷ list) h =
      let first = numbers_in occurs l clause 0 vs in
      let rest = numbers_in_all occurs l vs list in
      let both = each_parts IsPlain (map (name_of names) first) (map (name_of names) rest) (subst (Each IsPlain) (map-append (name_of names) first rest) h) in
      every_append is_plain (clause_text names occurs l vs clause) (flat_map (clause_text names occurs l vs) list) (clause_of_plain clause (map (name_of names) first) both.0) (clauses_plain list both.1)

  -- the line of a loop is one of a `#pragma`
  pragma_line : has_names names occurs l vs ≡ true → IsPragmaLine (pragma_text names occurs l vs)
  pragma_line h =
      let said = flat_map (clause_text names occurs l vs) clauses in
      let plain : every is_plain said ≡ true = clauses_plain clauses (apart_plain (all_names names occurs l vs) h) in
      inr (codes "omp parallel for" ++ said, (every_append is_plain (codes "omp parallel for") said refl plain, refl))

-- each line of loops is one of a `#pragma`
abbrev HasLine : Pragma → Type 0
HasLine pragma = IsPragmaLine pragma.text

module _ (among : List ℕ) (counted : List Bool) where
  lines_of_text : (bare : List Bool) (names : List (List ℕ)) (number : ℕ) (vs : List TVariable) (occurs : List Occurrence) (setters : List Setter) (loops : List LoopText)
      → Each HasLine (pragmas_of_text among counted bare names number vs occurs setters loops)
  lines_of_text bare names number vs occurs setters [] = tt
  lines_of_text bare names number vs occurs setters (l ∷ loops) =
      each_append HasLine (pragma_by among counted bare names number vs occurs setters l) (pragmas_of_text among counted bare names number vs occurs setters loops)
      (by (is_ready among counted bare names region vs occurs setters l) refl) (lines_of_text bare names number vs occurs setters loops)
    where
      region : ℕ
      region = region_of_loop number l.number

      by : (ready : Bool) → is_ready among counted bare names region vs occurs setters l ≡ ready
          → Each HasLine (if ready then record { region = region_of_loop number l.number; text = pragma_text names occurs l vs } ∷ [] else [])
      by true e = (pragma_line names occurs l vs (and_parts (is_fit among counted bare region vs occurs setters l) (has_names names occurs l vs) e).1, tt)
      by false e = tt

  lines_in : (written : Written) (number : ℕ) (fs : List TFunc) → Each HasLine (pragmas_in among counted written number fs)
  lines_in written number [] = tt
  lines_in written number (f ∷ fs) =
      each_append HasLine (pragmas_of among counted written number f) (pragmas_in among counted written (number + 1) fs)
      (lines_of_text written.bare (names_of written number) number f.variables (function_held f).occurs (function_held f).setters (function_held f).loops)
      (lines_in written (number + 1) fs)

line_of_pragmas : (region : ℕ) (pragmas : List Pragma) → Each HasLine pragmas → IsPragmaLine (line_of region pragmas)
line_of_pragmas region [] h = inl refl
line_of_pragmas region (pragma ∷ pragmas) h = elim (nat_eq pragma.region region) as (λ v. IsPragmaLine (if v then pragma.text else line_of region pragmas)) [
  | true ↦ h.0
  | false ↦ line_of_pragmas region pragmas h.1
]

module _ (lines : List Place) (tokens : List Token) where
  line_at_pragmas : (place : Place) (region : ℕ) (pragmas : List Pragma) → Each HasLine pragmas → IsPragmaLine (line_at lines tokens place region pragmas)
  line_at_pragmas place region pragmas h = elim (follows_pragma lines tokens place) as (λ v. IsPragmaLine (if v then [] else line_of region pragmas)) [
    | true ↦ inl refl
    | false ↦ line_of_pragmas region pragmas h
  ]

  -- ---- notes

  -- a note is harmless and stands at such a place
  abbrev IsRightNote : (Place → Type 0) → Note → Type 0
  IsRightNote IsPlace n = IsHarmless n × IsPlace n.place

  note_right : (IsPlace : Place → Type 0) (kind : RegionKind) (place : Place) (pragmas : List Pragma) (row : Row) → Each HasLine pragmas → IsPlace place → Each (IsRightNote IsPlace) (note_by lines tokens kind place pragmas row)
  note_right IsPlace Func place pragmas row right at = ((a_note_harmless place (codes "func") row [] refl (inl refl), at), tt)
  note_right IsPlace Loop place pragmas row right at = ((a_note_harmless place (codes "loop") row (line_at lines tokens place row.region pragmas) refl (line_at_pragmas place row.region pragmas right), at), tt)
  note_right IsPlace Body place pragmas row right at = tt

  note_for_right : (IsPlace : Place → Type 0) (found : Option Region) (pragmas : List Pragma) (row : Row) → Each HasLine pragmas → ((r : Region) → found ≡ Some r → IsPlace r.place)
      → Each (IsRightNote IsPlace) (note_for lines tokens found pragmas row)
  note_for_right IsPlace None pragmas row right at = tt
  note_for_right IsPlace (Some region) pragmas row right at = note_right IsPlace region.kind region.place pragmas row right (at region refl)

  notes_right : (IsPlace : Place → Type 0) (regions : List Region) (pragmas : List Pragma) (rows : List Row) → Each HasLine pragmas
      → ((n : ℕ) (r : Region) → slice_get regions n ≡ Some r → IsPlace r.place) → Each (IsRightNote IsPlace) (notes_of lines tokens regions pragmas rows)
  unfolding notes_of
  notes_right IsPlace regions pragmas [] right at = tt
  notes_right IsPlace regions pragmas (row ∷ rows) right at =
      each_append (IsRightNote IsPlace) (note_of lines tokens regions pragmas row) (flat_map (note_of lines tokens regions pragmas) rows)
      (note_for_right IsPlace (slice_get regions row.region) pragmas row right (at row.region)) (notes_right IsPlace regions pragmas rows right at)

-- THE NOTES of regions that stand at such places are harmless and stand there.
pub notes_of_right : (lines : List Place) (tokens : List Token) (IsPlace : Place → Type 0) (among : List ℕ) (counted : List Bool) (written : Written) (fs : List TFunc) (regions : List Region) (rows : List Row)
    → ((n : ℕ) (r : Region) → slice_get regions n ≡ Some r → IsPlace r.place)
    → Each (λ n. IsHarmless n × IsPlace n.place) (notes_of lines tokens regions (pragmas_in among counted written 0 fs) rows)
notes_of_right lines tokens IsPlace among counted written fs regions rows at =
    notes_right lines tokens IsPlace regions (pragmas_in among counted written 0 fs) rows (lines_in among counted written 0 fs) at
