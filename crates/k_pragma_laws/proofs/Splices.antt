-- Where C would join lines: in a text with what is inserted nowhere that it would not in the text.
use Rattle.std.proofs.Common.{◌≡◌, ℕ, suc, ◌-◌, ◌≤◌, Bool, true, false, not, ◌&&◌, ◌||◌, ◌⊎◌, eqb, if◌then◌else◌, List, [], ◌∷◌, ◌++◌, Option, Some, None, is_some, Result, Ok, Err, length, take, drop, codes, refl, sym, ap, ◌∙◌, inl, inr, arith}
use Rattle.std.proofs.lemmas.Bool.{and_from, and_parts, or_cases, or_right, cases_Bool, eqb-true, false≢true}
use Rattle.std.proofs.lemmas.Option.{none-some}
use Rattle.k_num.specs.declared.place.Place.{Place}
use Rattle.k_lex_pieces.specs.declared.fault.Fault.{Fault}
use Rattle.k_lex_pieces.specs.declared.fault.Refusal.TheVariants as r
use Rattle.k_lex_pieces.specs.declared.pieces.Piece.{Piece}
use Rattle.k_lex_pieces.specs.Bytes.{after, begins}
use Rattle.k_lex_pieces.specs.Outcome.{◌>>=◌, refused}
use Rattle.k_lex_pieces.specs.Splices.{is_splice, splice_in}
use Rattle.k_lex.specs.declared.lines.Mode.{Mode}
use Rattle.k_lex.specs.declared.lines.Mode.TheVariants as m
use Rattle.k_lex.specs.Lines.{State, include, joins_lines, step}
use Rattle.k_lex.specs.Tokens.{ends_with_line, first_place, is_pragma, splice_of, turn, turn_at}
use Rattle.k_pragma_laws.proofs.Blind.{unplaced_mode}
use Rattle.k_pragma_laws.proofs.Steps.{IsText}

-- ---- where it is does not depend on places

found_alike : (p q : Place) (n : ℕ) (text : List ℕ) → is_some (splice_in p n text) ≡ is_some (splice_in q n text)
found_alike p q n [] = refl
found_alike p q n (b ∷ bs) =
    elim (eqb n 0) as (λ v. is_some (if v then None else (if is_splice (b ∷ bs) then Some p else splice_in (after p b) (n - 1) bs))
    ≡ is_some (if v then None else (if is_splice (b ∷ bs) then Some q else splice_in (after q b) (n - 1) bs))) [
      | true ↦ refl
      | false ↦ elim (is_splice (b ∷ bs)) as (λ v. is_some (if v then Some p else splice_in (after p b) (n - 1) bs) ≡ is_some (if v then Some q else splice_in (after q b) (n - 1) bs)) [
        | true ↦ refl
        | false ↦ found_alike (after p b) (after q b) (n - 1) bs
      ]
    ]

line_unplaced : (mode : Mode) (text : List ℕ) → ends_with_line mode text ≡ ends_with_line (unplaced_mode mode) text
line_unplaced m.Start text = refl
line_unplaced m.Middle text = refl
line_unplaced (m.Hash hash) text = refl
line_unplaced (m.Define hash) text = refl
line_unplaced (m.Body at) text = refl
line_unplaced (m.Again a) text = refl
line_unplaced (m.Include hash) text = refl
line_unplaced (m.Header d) text = refl
line_unplaced m.Pragma text = refl

pub splice_unplaced : (mode : Mode) (place : Place) (text : List ℕ) (n : ℕ) → is_some (splice_of mode place text n) ≡ is_some (splice_of (unplaced_mode mode) first_place text n)
splice_unplaced mode place text n =
    by (ends_with_line mode text) ∙ ap (λ (v : Bool). is_some (if v then splice_in first_place n text else None)) (line_unplaced mode text)
  where
    by : (v : Bool) → is_some (if v then splice_in place n text else None) ≡ is_some (if v then splice_in first_place n text else None)
    by true = found_alike place first_place n text
    by false = refl

-- there is none
pub none_unplaced : (mode : Mode) (place : Place) (text : List ℕ) (n : ℕ) → splice_of mode place text n ≡ None → splice_of (unplaced_mode mode) first_place text n ≡ None
none_unplaced mode place text n h = by (splice_of (unplaced_mode mode) first_place text n) (sym (splice_unplaced mode place text n) ∙ ap is_some h)
  where
    by : (o : Option Place) → is_some o ≡ false → o ≡ None
    by None e = refl
    by (Some at) e = absurd (false≢true (sym e))

-- ---- what it comes to

then_fails : (given : Result State Fault) (at : Place) → (f : Fault) × ((given >>= λ new. refused {A = State} r.BadByte at) ≡ Err f)
then_fails (Ok new) at = (record { what = r.BadByte; place = at }, refl)
then_fails (Err f) at = (f, refl)

-- a refusal
pub joins_fail : (mode : Mode) (at : Place) (old : State) → (f : Fault) × (joins_lines mode at old ≡ Err f)
joins_fail m.Start at old = (record { what = r.BadByte; place = at }, refl)
joins_fail m.Middle at old = (record { what = r.BadByte; place = at }, refl)
joins_fail (m.Hash hash) at old = (record { what = r.BadByte; place = at }, refl)
joins_fail (m.Define hash) at old = (record { what = r.BadDirective; place = hash }, refl)
joins_fail (m.Body name) at old = (record { what = r.BadByte; place = at }, refl)
joins_fail (m.Again a) at old = (record { what = r.BadByte; place = at }, refl)
joins_fail (m.Include hash) at old = (record { what = r.BadDirective; place = hash }, refl)
joins_fail (m.Header d) at old = then_fails (include d.name d.header old) at
joins_fail m.Pragma at old = (record { what = r.BadByte; place = at }, refl)

-- so a piece behind which the lexer goes on has none, and its step is what it does
pub turn_parts : (place : Place) (old new : State) (text : List ℕ) (x : Piece × ℕ) → turn place old text x ≡ Ok new
    → (splice_of old.mode place text x.1 ≡ None) × (step place (take x.1 text) (drop x.1 text) x.0 old ≡ Ok new)
turn_parts place old new text x = by (splice_of old.mode place text x.1)
  where
    by : (o : Option Place) → turn_at o place old text x ≡ Ok new → (o ≡ None) × (step place (take x.1 text) (drop x.1 text) x.0 old ≡ Ok new)
    by None e = (refl, e)
    by (Some at) e = absurd (cc (sym (joins_fail old.mode at old).1 ∙ e))

-- ---- in lines of text

-- only a `//` comment has one
pub text_splice : (mode : Mode) (place : Place) (text : List ℕ) (n : ℕ) → IsText mode → begins (codes "//") text ≡ false → splice_of mode place text n ≡ None
text_splice m.Start place text n is h = ap (λ (v : Bool). if v || (false && not (begins (codes "/*") text)) then splice_in place n text else None) h
text_splice m.Middle place text n is h = ap (λ (v : Bool). if v || (false && not (begins (codes "/*") text)) then splice_in place n text else None) h
text_splice (m.Hash hash) place text n is h = absurd is
text_splice (m.Define hash) place text n is h = absurd is
text_splice (m.Body at) place text n is h = absurd is
text_splice (m.Again a) place text n is h = absurd is
text_splice (m.Include hash) place text n is h = absurd is
text_splice (m.Header d) place text n is h = absurd is
text_splice m.Pragma place text n is h = absurd is

-- it is BadByte
pub joins_in_text : (mode : Mode) (at : Place) (old : State) → IsText mode → joins_lines mode at old ≡ refused r.BadByte at
joins_in_text m.Start at old is = refl
joins_in_text m.Middle at old is = refl
joins_in_text (m.Hash hash) at old is = absurd is
joins_in_text (m.Define hash) at old is = absurd is
joins_in_text (m.Body name) at old is = absurd is
joins_in_text (m.Again a) at old is = absurd is
joins_in_text (m.Include hash) at old is = absurd is
joins_in_text (m.Header d) at old is = absurd is
joins_in_text m.Pragma at old is = absurd is

-- it is where it would be at the beginning of a line
pub fresh_splice : (mode : Mode) (place : Place) (text : List ℕ) (n : ℕ) → IsText mode → splice_of m.Start place text n ≡ splice_of mode place text n
fresh_splice m.Start place text n is = refl
fresh_splice m.Middle place text n is = refl
fresh_splice (m.Hash hash) place text n is = absurd is
fresh_splice (m.Define hash) place text n is = absurd is
fresh_splice (m.Body at) place text n is = absurd is
fresh_splice (m.Again a) place text n is = absurd is
fresh_splice (m.Include hash) place text n is = absurd is
fresh_splice (m.Header d) place text n is = absurd is
fresh_splice m.Pragma place text n is = absurd is

-- ---- in a `#pragma`

none_within_none : (place : Place) (text : List ℕ) → splice_in place 0 text ≡ None
none_within_none place [] = refl
none_within_none place (b ∷ bs) = refl

-- a byte that begins none
pub byte_splice : (b : ℕ) (bs : List ℕ) → is_splice (b ∷ bs) ≡ false → splice_of m.Pragma first_place (b ∷ bs) 1 ≡ None
byte_splice b bs h = by (ends_with_line m.Pragma (b ∷ bs))
  where
    none : splice_in first_place 1 (b ∷ bs) ≡ None
    none = ap (λ (v : Bool). if v then Some first_place else splice_in (after first_place b) 0 bs) h ∙ none_within_none (after first_place b) bs

    by : (v : Bool) → (if v then splice_in first_place 1 (b ∷ bs) else None) ≡ None
    by true = none
    by false = refl

-- ---- another text behind a piece

-- a pattern without a space, and without a `/` that is its end or has a `*` behind it
abbrev unopened : ℕ → List ℕ → Bool
unopened c [] = not (eqb c 47)
unopened c (d ∷ p) = not (eqb c 47 && eqb d 42)

abbrev pub is_apart : List ℕ → Bool
is_apart [] = true
is_apart (c ∷ p) = not (eqb c 32) && (unopened c p && is_apart p)

-- such a pattern that begins the second text begins the first
abbrev pub Spaced : List ℕ → List ℕ → Type 0
Spaced r s = (pattern : List ℕ) → is_apart pattern ≡ true → begins pattern s ≡ true → begins pattern r ≡ true

pub apart_rest : (c : ℕ) (p : List ℕ) → is_apart (c ∷ p) ≡ true → is_apart p ≡ true
apart_rest c p a = (and_parts (unopened c p) (is_apart p) (and_parts (not (eqb c 32)) _ a).1).1

not_true : (v : Bool) → v ≡ true → not v ≡ true → ⊥
not_true true e h = false≢true h
not_true false e h = false≢true e

-- none begins what is inserted
pub not_inserted : (pattern xs : List ℕ) (c : ℕ) → is_apart (c ∷ pattern) ≡ true → (begins (c ∷ pattern) (32 ∷ xs) ≡ true) ⊎ (begins (c ∷ pattern) (47 ∷ 42 ∷ xs) ≡ true) → ⊥
not_inserted pattern xs c a (inl h) = not_true (eqb c 32) (and_parts (eqb c 32) (begins pattern xs) h).0 (and_parts (not (eqb c 32)) _ a).0
not_inserted [] xs c a (inr h) =
    let unopen = (and_parts (not (eqb c 47)) true (and_parts (not (eqb c 32)) _ a).1).0 in
    not_true (eqb c 47) (and_parts (eqb c 47) true h).0 unopen
not_inserted (d ∷ p) xs c a (inr h) =
    let unopen = (and_parts (not (eqb c 47 && eqb d 42)) (is_apart (d ∷ p)) (and_parts (not (eqb c 32)) _ a).1).0 in
    let parts = and_parts (eqb c 47) (begins (d ∷ p) (42 ∷ xs)) h in
    not_true (eqb c 47 && eqb d 42) (and_from (eqb c 47) (eqb d 42) parts.0 (and_parts (eqb d 42) (begins p xs) parts.1).0) unopen

begins_kept : (pattern xs r s : List ℕ) → is_apart pattern ≡ true → Spaced r s → begins pattern (xs ++ s) ≡ true → begins pattern (xs ++ r) ≡ true
begins_kept pattern [] r s a spaced h = spaced pattern a h
begins_kept [] (x ∷ xs) r s a spaced h = refl
begins_kept (c ∷ p) (x ∷ xs) r s a spaced h =
    let parts = and_parts (eqb c x) (begins p (xs ++ s)) h in
    and_from (eqb c x) (begins p (xs ++ r)) parts.0 (begins_kept p xs r s (apart_rest c p a) spaced parts.1)

splice_kept : (xs r s : List ℕ) → Spaced r s → is_splice (xs ++ s) ≡ true → is_splice (xs ++ r) ≡ true
splice_kept xs r s spaced h = elim (or_cases (begins (92 ∷ 10 ∷ []) (xs ++ s)) (begins (63 ∷ 63 ∷ 47 ∷ 10 ∷ []) (xs ++ s)) h) [
  | inl e ↦ ap (λ (v : Bool). v || begins (63 ∷ 63 ∷ 47 ∷ 10 ∷ []) (xs ++ r)) (begins_kept (92 ∷ 10 ∷ []) xs r s refl spaced e)
  | inr e ↦ or_right (begins (92 ∷ 10 ∷ []) (xs ++ r)) (begins (63 ∷ 63 ∷ 47 ∷ 10 ∷ []) (xs ++ r)) (begins_kept (63 ∷ 63 ∷ 47 ∷ 10 ∷ []) xs r s refl spaced e)
]

none_in : (place : Place) (n : ℕ) (xs r s : List ℕ) → n ≤ length xs → Spaced r s → splice_in place n (xs ++ r) ≡ None → splice_in place n (xs ++ s) ≡ None
none_in place n [] r s le spaced h = (let none : n ≡ 0 = omega arith in ap (λ k. splice_in place k s) none) ∙ none_within_none place s
none_in place n (x ∷ xs) r s le spaced h = elim (cases_Bool (eqb n 0)) [
  | inl e ↦ ap (λ (v : Bool). if v then None else (if is_splice (x ∷ (xs ++ s)) then Some place else splice_in (after place x) (n - 1) (xs ++ s))) e
  | inr e ↦
      let before = ap (λ (v : Bool). if v then None else (if is_splice (x ∷ (xs ++ r)) then Some place else splice_in (after place x) (n - 1) (xs ++ r))) (sym e) ∙ h in
      ap (λ (v : Bool). if v then None else (if is_splice (x ∷ (xs ++ s)) then Some place else splice_in (after place x) (n - 1) (xs ++ s))) e
      ∙ behind (is_splice (x ∷ (xs ++ r))) (is_splice (x ∷ (xs ++ s))) (splice_kept (x ∷ xs) r s spaced) before (none_in (after place x) (n - 1) xs r s (omega arith) spaced)
]
  where
    behind : (v w : Bool) → (w ≡ true → v ≡ true) → (if v then Some place else splice_in (after place x) (n - 1) (xs ++ r)) ≡ None
        → (splice_in (after place x) (n - 1) (xs ++ r) ≡ None → splice_in (after place x) (n - 1) (xs ++ s) ≡ None)
        → (if w then Some place else splice_in (after place x) (n - 1) (xs ++ s)) ≡ None
    behind true w to h more = absurd (none-some place (sym h))
    behind false true to h more = absurd (false≢true (to refl))
    behind false false to h more = more h

-- A PIECE THAT HAD NONE has none with another text behind it.
pub none_kept : (mode : Mode) (place : Place) (b : ℕ) (q r s : List ℕ) → Spaced r s → splice_of mode place (b ∷ (q ++ r)) (suc (length q)) ≡ None → splice_of mode place (b ∷ (q ++ s)) (suc (length q)) ≡ None
none_kept mode place b (c ∷ q) r s spaced h = by (ends_with_line mode (b ∷ c ∷ [])) h
  where
    by : (v : Bool) → (if v then splice_in place (suc (suc (length q))) (b ∷ c ∷ (q ++ r)) else None) ≡ None → (if v then splice_in place (suc (suc (length q))) (b ∷ c ∷ (q ++ s)) else None) ≡ None
    by true h = none_in place (suc (suc (length q))) (b ∷ c ∷ q) r s (omega arith) spaced h
    by false h = refl
none_kept mode place b [] r s spaced h = elim (cases_Bool (is_splice (b ∷ s))) [
  | inr e ↦ none (ends_with_line mode (b ∷ s)) e
  | inl e ↦ elim (or_cases (begins (92 ∷ 10 ∷ []) (b ∷ s)) (begins (63 ∷ 63 ∷ 47 ∷ 10 ∷ []) (b ∷ s)) e) [
    | inl first ↦ by 92 (sym (eqb-true 92 b (and_parts (eqb 92 b) (begins (10 ∷ []) s) first).0)) (is_pragma mode && true) refl refl (splice_kept (b ∷ []) r s spaced e)
    | inr first ↦ by 63 (sym (eqb-true 63 b (and_parts (eqb 63 b) (begins (63 ∷ 47 ∷ 10 ∷ []) s) first).0)) (is_pragma mode && true) refl refl (splice_kept (b ∷ []) r s spaced e)
  ]
]
  where
    none : (v : Bool) → is_splice (b ∷ s) ≡ false → (if v then splice_in place 1 (b ∷ s) else None) ≡ None
    none true e = ap (λ (w : Bool). if w then Some place else splice_in (after place b) 0 s) e ∙ none_within_none (after place b) s
    none false e = refl

    by : (x : ℕ) → b ≡ x → (v : Bool) → ends_with_line mode (x ∷ r) ≡ v → ends_with_line mode (x ∷ s) ≡ v → is_splice (b ∷ r) ≡ true → (if ends_with_line mode (b ∷ s) then splice_in place 1 (b ∷ s) else None) ≡ None
    by x is v first second there = ap (λ (w : Bool). if w then splice_in place 1 (b ∷ s) else None) (ap (λ y. ends_with_line mode (y ∷ s)) is ∙ second) ∙ here v
        (ap (λ (w : Bool). if w then splice_in place 1 (b ∷ r) else None) (sym (ap (λ y. ends_with_line mode (y ∷ r)) is ∙ first)) ∙ h)
      where
        here : (v : Bool) → (if v then splice_in place 1 (b ∷ r) else None) ≡ None → (if v then splice_in place 1 (b ∷ s) else None) ≡ None
        here true h = absurd (none-some place (sym h ∙ ap (λ (w : Bool). if w then Some place else splice_in (after place b) 0 r) there))
        here false h = refl
