-- A text with what is inserted gives what the text gives, but for places.
use Rattle.std.proofs.Common.{◌≡◌, ◌≢◌, ℕ, zero, suc, ◌-◌, ◌≤◌, Bool, true, false, ◌&&◌, eqb, ◌⊎◌, if◌then◌else◌, List, [], ◌∷◌, ◌++◌, Option, Some, None, Result, Ok, Err, length, take, drop, codes, refl, sym, ap, subst, ◌∙◌, inl, inr, arith}
use Rattle.std.specs.Prelude.{IfOk}
use Rattle.std.proofs.lemmas.Bool.{and_from, and_parts, cases_Bool, eqb-true, eqb-false}
use Rattle.std.proofs.lemmas.List.{length-take-le, take-append-drop}
use Rattle.std.proofs.lemmas.Result.{IfOk-at_ok}
use Rattle.k_num.specs.declared.place.Place.{Place}
use Rattle.k_lex_pieces.specs.declared.fault.Fault.{Fault}
use Rattle.k_lex_pieces.specs.declared.pieces.Piece.{Piece}
use Rattle.k_lex_pieces.specs.declared.pieces.Piece.TheVariants as p
use Rattle.k_lex_pieces.specs.Bytes.{after, begins, same}
use Rattle.k_lex_pieces.specs.Outcome.{◌>>=◌}
use Rattle.k_lex_pieces.specs.Pieces.{class_of, class_in_pragma, piece_by}
use Rattle.k_lex_pieces.specs.Scans.{comment_at}
use Rattle.k_lex_pieces.specs.Bytes.{span}
use Rattle.k_lex_pieces.specs.Pieces.{in_line}
use Rattle.k_lex_pieces.proofs.PieceLaws.{newline_is, pragma_comment_is, pragma_comment_open, pragma_line_is, pragma_newline_is, pragma_other_is, pragma_slash_alone_is, pragma_slash_is}
use Rattle.k_lex_pieces.proofs.Tables.{same_true}
use Rattle.k_lex.specs.declared.lines.Mode.{Mode}
use Rattle.k_lex.specs.declared.lines.Mode.TheVariants as m
use Rattle.k_lex.specs.Lines.{State, step, step_in}
use Rattle.k_lex.specs.Tokens.{piece_in, splice_of, turn, run, first_place}
use Rattle.k_lex.proofs.Outcomes.{Each}
use Rattle.k_lex.proofs.RunLaws.{piece_in_length}
use Rattle.k_pragma.specs.declared.notes.Note.{Note}
use Rattle.k_pragma.specs.Insertions.{inserted_at, note_text, parted, same_place, spells_for, with_notes}
use Rattle.k_pragma_laws.proofs.Notes.{IsHarmless}
use Rattle.k_pragma_laws.proofs.Allowed.{Fits, IsAllowed, IsSilent}
use Rattle.k_pragma_laws.proofs.Blind.{unplaced, unplaced_mode, if_ok, seen, Alike, step_agrees}
use Rattle.k_pragma_laws.proofs.Fronts.{Follows, is_sound}
use Rattle.k_pragma_laws.proofs.Inserted.{fresh_same, hash_piece, read_inserted, text_piece}
use Rattle.k_pragma_laws.proofs.Reading.{blind, blind_piece, blind_skip, final, piece_in_unplaced, piece_kept, run_blind}
use Rattle.k_pragma_laws.proofs.Splices.{Spaced, apart_rest, none_kept, none_unplaced, not_inserted, turn_parts}
use Rattle.k_pragma_laws.proofs.Steps.{Goes, IsText, IsSolid, define_stays, step_goes}

-- ---- what is inserted at a place

silent_nothing : (place : Place) (text : List ℕ) (notes : List Note) → IsSilent notes place → inserted_at place text notes ≡ []
silent_nothing place text [] silent = refl
silent_nothing place text (n ∷ notes) silent =
    ap (λ v. (if v then note_text text n else []) ++ inserted_at place text notes) silent.0 ∙ silent_nothing place text notes silent.1

-- nothing, or what begins with `/*`
slash_first : (place : Place) (text : List ℕ) (notes : List Note) → Each IsHarmless notes → (inserted_at place text notes ≡ []) ⊎ ((xs : List ℕ) × (inserted_at place text notes ≡ 47 ∷ 42 ∷ xs))
slash_first place text [] harmless = inl refl
slash_first place text (n ∷ notes) harmless =
    let more = inserted_at place text notes in
    let line = if spells_for text then n.line else [] in
    elim (same_place n.place place) as (λ v. ((if v then note_text text n else []) ++ more ≡ []) ⊎ ((xs : List ℕ) × ((if v then note_text text n else []) ++ more ≡ 47 ∷ 42 ∷ xs))) [
      | true ↦ inr ((harmless.0.inside ++ line) ++ more, ap (λ c. (c ++ line) ++ more) harmless.0.comment)
      | false ↦ slash_first place text notes harmless.1
    ]

-- ---- what stands behind a piece

-- the last byte of a text, or what is given
abbrev last_of : ℕ → List ℕ → ℕ
last_of before [] = before
last_of before (b ∷ bs) = last_of b bs

-- something is inserted behind this byte, before a token of a line of text
record Parting (before : ℕ) (mode : Mode) (b c : ℕ) : Type 0 where
  text : IsText mode
  line : b ≢ 10
  byte : (c ≡ 32) ⊎ ((c ≡ 47) × (before ≢ 47))

-- how a text may begin in place of another one behind this byte
abbrev Next : ℕ → Mode → List ℕ → List ℕ → Type 0
Next before mode [] [] = Unit {0}
Next before mode [] (c ∷ s) = ⊥
Next before mode (b ∷ r) [] = ⊥
Next before mode (b ∷ r) (c ∷ s) = (b ≡ c) ⊎ Parting before mode b c

next_follows : (b : ℕ) (q : List ℕ) (mode : Mode) (r s : List ℕ) → Next (last_of b q) mode r s → Follows (b ∷ q) r s
next_follows b q mode [] [] next = tt
next_follows b q mode [] (c ∷ s) next = next
next_follows b q mode (x ∷ r) [] next = next
next_follows b q mode (x ∷ r) (c ∷ s) (inl e) = inl e
next_follows b q mode (x ∷ r) (c ∷ s) (inr parting) = inr (record { line = parting.line; byte = by parting.byte })
  where
    by : (c ≡ 32) ⊎ ((c ≡ 47) × (last_of b q ≢ 47)) → (c ≡ 32) ⊎ ((c ≡ 47) × (b ∷ q ≡ 47 ∷ [] → ⊥))
    by (inl e) = inl e
    by (inr e) = inr (e.0, λ h. e.1 (ap (last_of 0) h))

-- a token begins with no end of line
solid_byte : (mode : Mode) (b : ℕ) (bs : List ℕ) → IsText mode → IsSolid (piece_in mode (b ∷ bs)).0 → b ≢ 10
solid_byte mode b bs text solid e =
    let at : piece_in mode (b ∷ bs) ≡ (p.Newline, 1) = ap (λ x. piece_in mode (x ∷ bs)) e ∙ text_piece mode (10 ∷ bs) text ∙ sym (newline_is bs) in
    subst (λ (x : Piece × ℕ). IsSolid x.0) at solid

ok_parts : (A : Type 0) (B : State → Type 0) (given : Result State Fault) (go : State → Result (State × Place) Fault) (end : State × Place) → (given >>= go) ≡ Ok end → IfOk given (λ new. A × B new) → A
ok_parts A B (Ok new) go end e h = h.0
ok_parts A B (Err f) go end e h = absurd (cc)

module _ (notes : List Note) (harmless : Each IsHarmless notes) where
  -- what is inserted parts the byte before it from the token behind it
  inserted_next : (place : Place) (before : ℕ) (new : State) (b : ℕ) (bs rest : List ℕ) → IsAllowed notes place new.mode (piece_in new.mode (b ∷ bs)).0
      → Next before new.mode (b ∷ bs) (parted before (inserted_at place (b ∷ bs) notes) ++ b ∷ rest)
  inserted_next place before new b bs rest (inl silent) =
      subst (λ ins. Next before new.mode (b ∷ bs) (parted before ins ++ b ∷ rest)) (sym (silent_nothing place (b ∷ bs) notes silent)) (inl refl)
  inserted_next place before new b bs rest (inr allowed) = by (slash_first place (b ∷ bs) notes harmless)
    where
      behind : (xs : List ℕ) → Next before new.mode (b ∷ bs) (parted before (47 ∷ xs) ++ b ∷ rest)
      behind xs = elim (cases_Bool (eqb before 47)) [
        | inl e ↦ subst (λ v. Next before new.mode (b ∷ bs) ((if v then 32 ∷ 47 ∷ xs else 47 ∷ xs) ++ b ∷ rest)) (sym e)
            (inr (record { text = allowed.0; line = solid_byte new.mode b bs allowed.0 allowed.1; byte = inl refl }))
        | inr e ↦ subst (λ v. Next before new.mode (b ∷ bs) ((if v then 32 ∷ 47 ∷ xs else 47 ∷ xs) ++ b ∷ rest)) (sym e)
            (inr (record { text = allowed.0; line = solid_byte new.mode b bs allowed.0 allowed.1; byte = inr (refl, eqb-false before 47 e) }))
      ]

      by : (inserted_at place (b ∷ bs) notes ≡ []) ⊎ ((xs : List ℕ) × (inserted_at place (b ∷ bs) notes ≡ 47 ∷ 42 ∷ xs))
          → Next before new.mode (b ∷ bs) (parted before (inserted_at place (b ∷ bs) notes) ++ b ∷ rest)
      by (inl e) = subst (λ ins. Next before new.mode (b ∷ bs) (parted before ins ++ b ∷ rest)) (sym e) (inl refl)
      by (inr (xs, e)) = subst (λ ins. Next before new.mode (b ∷ bs) (parted before ins ++ b ∷ rest)) (sym e) (behind (42 ∷ xs))

  -- what is inserted begins with no byte at which C joins lines
  spaced : (place : Place) (before : ℕ) (bs : List ℕ) → Spaced bs (with_notes notes place before bs)
  spaced place before [] pattern a h = h
  spaced place before (b ∷ bs) [] a h = refl
  spaced place before (b ∷ bs) (c ∷ pattern) a h = by (slash_first place (b ∷ bs) notes harmless) (spaced (after place b) b bs pattern (apart_rest c pattern a))
    where
      rest : List ℕ
      rest = with_notes notes (after place b) b bs

      never : (xs : List ℕ) (v : Bool) → begins (c ∷ pattern) ((if v then 32 ∷ 47 ∷ 42 ∷ xs else 47 ∷ 42 ∷ xs) ++ b ∷ rest) ≡ true → ⊥
      never xs true k = not_inserted pattern (47 ∷ 42 ∷ (xs ++ b ∷ rest)) c a (inl k)
      never xs false k = not_inserted pattern (xs ++ b ∷ rest) c a (inr k)

      by : (inserted_at place (b ∷ bs) notes ≡ []) ⊎ ((xs : List ℕ) × (inserted_at place (b ∷ bs) notes ≡ 47 ∷ 42 ∷ xs))
          → (begins pattern rest ≡ true → begins pattern bs ≡ true) → begins (c ∷ pattern) (b ∷ bs) ≡ true
      by (inl e) more =
          let parts = and_parts (eqb c b) (begins pattern rest) (subst (λ ins. begins (c ∷ pattern) (parted before ins ++ b ∷ rest) ≡ true) e h) in
          and_from (eqb c b) (begins pattern bs) parts.0 (more parts.1)
      by (inr (xs, e)) more = absurd (never xs (eqb before 47) (subst (λ ins. begins (c ∷ pattern) (parted before ins ++ b ∷ rest) ≡ true) e h))

  -- Within a piece nothing is inserted.
  split : (k : ℕ) (place : Place) (before : ℕ) (new : State) (bs : List ℕ) (end : State × Place) → k ≤ length bs → run k place new bs ≡ Ok end → Fits notes k place new bs
      → (take k (with_notes notes place before bs) ≡ take k bs) × Next (last_of before (take k bs)) new.mode (drop k bs) (drop k (with_notes notes place before bs))
      × Spaced (drop k bs) (drop k (with_notes notes place before bs))
  split zero place before new [] end le e fits = (refl, tt, spaced place before [])
  split (suc k) place before new [] end le e fits = absurd (omega arith)
  split zero place before new (b ∷ bs) end le e fits =
      let x = piece_in new.mode (b ∷ bs) in
      let allowed : IsAllowed notes place new.mode x.0 =
      ok_parts (IsAllowed notes place new.mode x.0) (λ (next : State). Fits notes (x.1 - 1) (after place b) next bs) (turn place new (b ∷ bs) x) (λ next. run (x.1 - 1) (after place b) next bs) end e fits in
      (refl, inserted_next place before new b bs (with_notes notes (after place b) b bs) allowed, spaced place before (b ∷ bs))
  split (suc k) place before new (b ∷ bs) end le e fits =
      let rest = with_notes notes (after place b) b bs in
      let more = split k (after place b) b new bs end (omega arith) e fits.1 in
      subst (λ ins. (take (suc k) (parted before ins ++ b ∷ rest) ≡ b ∷ take k bs) × Next (last_of b (take k bs)) new.mode (drop k bs) (drop (suc k) (parted before ins ++ b ∷ rest))
      × Spaced (drop k bs) (drop (suc k) (parted before ins ++ b ∷ rest)))
      (sym (silent_nothing place (b ∷ bs) notes fits.0)) (ap (λ t. b ∷ t) more.0, more.1, more.2)

-- ---- the piece at the front

-- a `#pragma` has no other pieces than sound ones, but the beginning of a comment
pragma_sound : (b : ℕ) (bs : List ℕ) → ((piece_by class_in_pragma (b ∷ bs)).0 ≡ p.OpenComment) ⊎ (is_sound (piece_by class_in_pragma (b ∷ bs)).0 ≡ true)
pragma_sound b bs = elim (cases_Bool (eqb b 47)) [
  | inr slash ↦ elim (cases_Bool (eqb b 10)) [
    | inr other ↦ inr (ap (λ (x : Piece × ℕ). is_sound x.0) (sym (pragma_other_is b bs slash other)))
    | inl line ↦ inr (ap (λ y. is_sound (piece_by class_in_pragma (y ∷ bs)).0) (eqb-true b 10 line) ∙ ap (λ (x : Piece × ℕ). is_sound x.0) (sym (pragma_newline_is bs)))
  ]
  | inl slash ↦ subst (λ y. ((piece_by class_in_pragma (y ∷ bs)).0 ≡ p.OpenComment) ⊎ (is_sound (piece_by class_in_pragma (y ∷ bs)).0 ≡ true)) (sym (eqb-true b 47 slash)) (behind bs)
]
  where
    opened : (cs : List ℕ) (o : Option ℕ) → comment_at false 0 cs ≡ o
        → ((piece_by class_in_pragma (47 ∷ 42 ∷ cs)).0 ≡ p.OpenComment) ⊎ (is_sound (piece_by class_in_pragma (47 ∷ 42 ∷ cs)).0 ≡ true)
    opened cs None e = inl (ap (λ (x : Piece × ℕ). x.0) (sym (pragma_comment_open cs e)))
    opened cs (Some n) e = inr (ap (λ (x : Piece × ℕ). is_sound x.0) (sym (pragma_comment_is cs n e)))

    behind : (bs : List ℕ) → ((piece_by class_in_pragma (47 ∷ bs)).0 ≡ p.OpenComment) ⊎ (is_sound (piece_by class_in_pragma (47 ∷ bs)).0 ≡ true)
    behind [] = inr (ap (λ (x : Piece × ℕ). is_sound x.0) (sym pragma_slash_alone_is))
    behind (c ∷ cs) = elim (cases_Bool (eqb c 42)) [
      | inl star ↦ subst (λ y. ((piece_by class_in_pragma (47 ∷ y ∷ cs)).0 ≡ p.OpenComment) ⊎ (is_sound (piece_by class_in_pragma (47 ∷ y ∷ cs)).0 ≡ true)) (sym (eqb-true c 42 star)) (opened cs (comment_at false 0 cs) refl)
      | inr star ↦ elim (cases_Bool (eqb c 47)) [
        | inl slash ↦ inr (ap (λ y. is_sound (piece_by class_in_pragma (47 ∷ y ∷ cs)).0) (eqb-true c 47 slash) ∙ ap (λ (x : Piece × ℕ). is_sound x.0) (sym (pragma_line_is cs (span in_line cs) refl)))
        | inr slash ↦ inr (ap (λ (x : Piece × ℕ). is_sound x.0) (sym (pragma_slash_is c cs star slash)))
      ]
    ]

-- a piece behind which the lexer goes on is kept, whatever follows it
piece_stays : (mode : Mode) (b : ℕ) (q r s : List ℕ) (c : Piece) → piece_in mode (b ∷ (q ++ r)) ≡ (c, suc (length q)) → Goes mode c (b ∷ q) → Follows (b ∷ q) r s
    → piece_in mode (b ∷ (q ++ s)) ≡ (c, suc (length q))
piece_stays mode b q r s c e (inl sound) follows = piece_kept mode (b ∷ q) r s c e sound follows
piece_stays mode b q r s c e (inr (inl (start, hash))) follows =
    let whole : b ∷ q ≡ 35 ∷ [] = same_true (b ∷ q) (35 ∷ []) hash in
    known whole s ∙ sym (known whole r) ∙ e
  where
    known : b ∷ q ≡ 35 ∷ [] → (rest : List ℕ) → piece_in mode (b ∷ (q ++ rest)) ≡ (p.Unknown, 1)
    known whole rest = ap (λ t. piece_in mode (t ++ rest)) whole ∙ ap (λ k. piece_in k (35 ∷ rest)) start ∙ hash_piece rest
piece_stays mode b q r s c e (inr (inr (start, opens))) follows = elim (pragma_sound b (q ++ r)) [
  | inl bad ↦ absurd (opens (sym (ap (λ (x : Piece × ℕ). x.0) e) ∙ ap (λ k. (piece_in k (b ∷ (q ++ r))).0) start ∙ bad))
  | inr sound ↦ piece_kept mode (b ∷ q) r s c e (ap (λ (x : Piece × ℕ). is_sound x.0) (sym e) ∙ ap (λ k. is_sound (piece_in k (b ∷ (q ++ r))).0) start ∙ sound) follows
]

-- behind a name that is defined the text begins as before
alike : (mode : Mode) (place : Place) (t r s : List ℕ) (before : ℕ) (c : Piece) (old new : State) → old.mode ≡ mode → step place t r c old ≡ Ok new → Next before new.mode r s → Alike mode r s
alike m.Start place t r s before c old new e done next = tt
alike m.Middle place t r s before c old new e done next = tt
alike (m.Hash hash) place t r s before c old new e done next = tt
alike (m.Body at) place t r s before c old new e done next = tt
alike (m.Again a) place t r s before c old new e done next = tt
alike (m.Include hash) place t r s before c old new e done next = tt
alike (m.Header d) place t r s before c old new e done next = tt
alike m.Pragma place t r s before c old new e done next = tt
alike (m.Define hash) place t r s before c old new e done next =
    by r s (IfOk-at_ok (λ (x : State). IsText x.mode → ⊥) (ap (λ k. step_in k place t r c old) (sym e) ∙ done) (define_stays hash place t r c old e)) next
  where
    by : (r s : List ℕ) → (IsText new.mode → ⊥) → Next before new.mode r s → begins (codes "(") s ≡ begins (codes "(") r
    by [] [] never next = refl
    by [] (x ∷ s) never next = absurd next
    by (x ∷ r) [] never next = absurd next
    by (x ∷ r) (y ∷ s) never (inl e) = ap (λ z. eqb 40 z && true) (sym e)
    by (x ∷ r) (y ∷ s) never (inr parting) = absurd (never parting.text)

-- the first byte of what is no directive's `#`
no_hash : (mode : Mode) (b : ℕ) (q more : List ℕ) → IsText mode → IsSolid (piece_in mode (b ∷ more)).0 → same (b ∷ q) (codes "#") ≡ false
no_hash mode b q more text solid = elim (cases_Bool (same (b ∷ q) (35 ∷ []))) [
  | inr e ↦ e
  | inl e ↦
      let first : b ≡ 35 = eqb-true b 35 (and_parts (same q []) (eqb b 35) e).1 in
      let at : piece_in mode (b ∷ more) ≡ (p.Unknown, 1) = ap (λ x. piece_in mode (x ∷ more)) first ∙ text_piece mode (35 ∷ more) text ∙ hash_piece more in
      absurd (subst (λ (x : Piece × ℕ). IsSolid x.0) at solid)
]

text_unplaced : (mode : Mode) → IsText mode → IsText (unplaced_mode mode)
text_unplaced m.Start is = tt
text_unplaced m.Middle is = tt
text_unplaced (m.Hash hash) is = absurd is
text_unplaced (m.Define hash) is = absurd is
text_unplaced (m.Body at) is = absurd is
text_unplaced (m.Again a) is = absurd is
text_unplaced (m.Include hash) is = absurd is
text_unplaced (m.Header d) is = absurd is
text_unplaced m.Pragma is = absurd is

-- ---- all pieces

module _ (notes : List Note) (harmless : Each IsHarmless notes) where
  abbrev with_all : Place → ℕ → List ℕ → List ℕ
  with_all place before bs = with_notes notes place before bs

  -- a piece of the text, the bytes behind its first and what stands behind it: in the text, and with what is inserted
  ok_piece : (place : Place) (before : ℕ) (old new : State) (b : ℕ) (bs q r more s : List ℕ) (end : State × Place) (k : ℕ) (c : Piece)
      → piece_in old.mode (b ∷ bs) ≡ (c, suc k) → splice_of old.mode place (b ∷ bs) (suc k) ≡ None → step place (b ∷ q) r c old ≡ Ok new
      → q ++ r ≡ bs → q ++ s ≡ more → length q ≡ k → Next (last_of b q) new.mode r s → Spaced r s
      → IsAllowed notes place old.mode c → blind k (unplaced new) more ≡ Some (unplaced end.0)
      → blind 0 (unplaced old) (parted before (inserted_at place (b ∷ bs) notes) ++ b ∷ more) ≡ Some (unplaced end.0)
  ok_piece place before old new b bs q r more s end k c e none done front whole long next apart allowed rest = inserted allowed
    where
      first : piece_in old.mode (b ∷ (q ++ r)) ≡ (c, suc (length q))
      first = ap (λ t. piece_in old.mode (b ∷ t)) front ∙ e ∙ ap (λ n. (c, suc n)) (sym long)

      kept : piece_in old.mode (b ∷ (q ++ s)) ≡ (c, suc (length q))
      kept = piece_stays old.mode b q r s c first (IfOk-at_ok (λ (_ : State). Goes old.mode c (b ∷ q)) done (step_goes old.mode place (b ∷ q) r c old)) (next_follows b q new.mode r s next)

      unjoined : splice_of (unplaced_mode old.mode) first_place (b ∷ (q ++ s)) (suc (length q)) ≡ None
      unjoined = none_unplaced old.mode place (b ∷ (q ++ s)) (suc (length q)) (none_kept old.mode place b q r s apart
          (ap (λ t. splice_of old.mode place (b ∷ t) (suc (length q))) front ∙ ap (λ n. splice_of old.mode place (b ∷ bs) (suc n)) long ∙ none))

      blindly : if_ok (step first_place (b ∷ q) s c (unplaced old)) ≡ Some (unplaced new)
      blindly = sym (step_agrees old.mode place (b ∷ q) r s c old (alike old.mode place (b ∷ q) r s (last_of b q) c old new refl done next)) ∙ ap seen done

      read : blind 0 (unplaced old) (b ∷ more) ≡ Some (unplaced end.0)
      read =
          ap (λ t. blind 0 (unplaced old) (b ∷ t)) (sym whole)
          ∙ blind_piece (unplaced old) (unplaced new) b q s c (piece_in_unplaced old.mode (b ∷ (q ++ s)) ∙ kept) unjoined blindly
          ∙ sym (blind_skip k (unplaced new) q s (sym long))
          ∙ ap (blind k (unplaced new)) whole
          ∙ rest

      inserted : IsAllowed notes place old.mode c → blind 0 (unplaced old) (parted before (inserted_at place (b ∷ bs) notes) ++ b ∷ more) ≡ Some (unplaced end.0)
      inserted (inl silent) = ap (λ ins. blind 0 (unplaced old) (parted before ins ++ b ∷ more)) (silent_nothing place (b ∷ bs) notes silent) ∙ read
      inserted (inr (text, solid)) =
          let there : IsText (unplaced_mode old.mode) = text_unplaced old.mode text in
          let here : piece_by class_of (b ∷ more) ≡ (c, suc (length q)) =
          sym (text_piece (unplaced_mode old.mode) (b ∷ more) there) ∙ piece_in_unplaced old.mode (b ∷ more) ∙ ap (λ t. piece_in old.mode (b ∷ t)) (sym whole) ∙ kept in
          read_inserted place before (unplaced old) (b ∷ bs) (b ∷ more) notes there harmless
          (fresh_same (unplaced old) b more c (suc (length q)) there here solid
          (no_hash old.mode b (take (length q) more) bs text (subst (λ (x : Piece × ℕ). IsSolid x.0) (sym e) solid)))
          ∙ read

  -- a piece of which the last k bytes stand behind its first
  at_piece : (place : Place) (before : ℕ) (old : State) (b : ℕ) (bs : List ℕ) (end : State × Place) (k : ℕ) (c : Piece) (given : Result State Fault)
      → piece_in old.mode (b ∷ bs) ≡ (c, suc k) → k ≤ length bs → turn place old (b ∷ bs) (c, suc k) ≡ given → (given >>= λ new. run k (after place b) new bs) ≡ Ok end
      → IfOk given (λ new. IsAllowed notes place old.mode c × Fits notes k (after place b) new bs)
      → ((new : State) → run k (after place b) new bs ≡ Ok end → Fits notes k (after place b) new bs → blind k (unplaced new) (with_all (after place b) b bs) ≡ Some (unplaced end.0))
      → blind 0 (unplaced old) (parted before (inserted_at place (b ∷ bs) notes) ++ b ∷ with_all (after place b) b bs) ≡ Some (unplaced end.0)
  at_piece place before old b bs end k c (Err f) e le done went fits next = absurd (cc)
  at_piece place before old b bs end k c (Ok new) e le done went fits next =
      let more = with_all (after place b) b bs in
      let halves = split notes harmless k (after place b) b new bs end le went fits.1 in
      let parts = turn_parts place old new (b ∷ bs) (c, suc k) done in
      ok_piece place before old new b bs (take k bs) (drop k bs) more (drop k more) end k c e parts.0 parts.1 (take-append-drop k bs) (ap (λ t. t ++ drop k more) (sym halves.0) ∙ take-append-drop k more)
      (length-take-le k bs le) halves.1 halves.2 fits.0 (next new went fits.1)

  -- A TEXT WITH WHAT IS INSERTED gives what the text gives.
  pub keeps : (skip : ℕ) (place : Place) (before : ℕ) (old : State) (text : List ℕ) (end : State × Place) → run skip place old text ≡ Ok end → Fits notes skip place old text
      → blind skip (unplaced old) (with_notes notes place before text) ≡ Some (unplaced end.0)
  keeps zero place before old [] end e fits = sym (run_blind zero place old []) ∙ ap final e
  keeps (suc skip) place before old [] end e fits = sym (run_blind (suc skip) place old []) ∙ ap final e
  keeps (suc skip) place before old (b ∷ bs) end e fits =
      ap (λ ins. blind (suc skip) (unplaced old) (parted before ins ++ b ∷ with_all (after place b) b bs)) (silent_nothing place (b ∷ bs) notes fits.0)
      ∙ keeps skip (after place b) b old bs end e fits.1
  keeps zero place before old (b ∷ bs) end e fits =
      let x = piece_in old.mode (b ∷ bs) in
      let within = piece_in_length old.mode b bs in
      let count : x.1 ≡ suc (x.1 - 1) = omega (arith, within.0) in
      at_piece place before old b bs end (x.1 - 1) x.0 (turn place old (b ∷ bs) x) (ap (λ n. (x.0, n)) count) (omega (arith, within.1))
      (ap (λ n. turn place old (b ∷ bs) (x.0, n)) (sym count)) e fits
      (λ new went more. keeps (x.1 - 1) (after place b) b new bs end went more)
