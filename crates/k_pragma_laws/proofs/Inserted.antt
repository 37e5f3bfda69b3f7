-- What is inserted before a token is read as if it were not there.
use Rattle.std.proofs.Common.{◌≡◌, ℕ, suc, ◌+◌, ◌-◌, Bool, true, false, not, ◌&&◌, ◌⊎◌, eqb, if◌then◌else◌, List, [], ◌∷◌, ◌++◌, Option, Some, None, Result, Ok, length, take, drop, codes, refl, sym, ap, ◌∙◌, inl, inr, append_assoc, option_and_then, arith}
use Rattle.std.proofs.lemmas.Bool.{and_left, and_right, and_parts, or_from, eqb-false, false≢true}
use Rattle.k_num.specs.declared.place.Place.{Place}
use Rattle.k_lex_pieces.specs.declared.fault.Fault.{Fault}
use Rattle.k_lex_pieces.specs.declared.pieces.Piece.{Piece}
use Rattle.k_lex_pieces.specs.declared.pieces.Piece.TheVariants as p
use Rattle.k_lex_pieces.specs.Bytes.{every, same}
use Rattle.k_lex_pieces.specs.Marks.{marks, mark_of}
use Rattle.k_lex_pieces.specs.Pieces.{class_of, ends_comment, piece_by}
use Rattle.k_lex_pieces.specs.Scans.{comment_at, or_mark}
use Rattle.k_lex_pieces.proofs.Classes.{first_is}
use Rattle.k_lex_pieces.proofs.PieceLaws.{blank_is, comment_is, name_is, newline_is, other_is, pragma_newline_is, pragma_other_is, test_fails}
use Rattle.k_lex_pieces.proofs.Tables.{no_key}
use Rattle.k_lex.specs.declared.lines.Mode.{Mode}
use Rattle.k_lex.specs.declared.lines.Mode.TheVariants as m
use Rattle.k_lex.specs.Lines.{State, in_mode, in_text, step_in}
use Rattle.k_lex.specs.Tokens.{piece_in, splice_of, turn, turn_at, first_place}
use Rattle.k_lex.proofs.Outcomes.{Each}
use Rattle.k_pragma.specs.declared.notes.Note.{Note}
use Rattle.k_pragma.specs.Insertions.{inserted_at, note_text, parted, same_place, spells_for}
use Rattle.k_pragma_laws.proofs.Notes.{IsHarmless, IsPragmaLine, is_plain}
use Rattle.k_pragma_laws.proofs.Blind.{if_ok}
use Rattle.k_pragma_laws.proofs.Reading.{blind, blind_piece}
use Rattle.k_pragma_laws.proofs.Splices.{byte_splice, fresh_splice, joins_in_text, text_splice}
use Rattle.k_pragma_laws.proofs.Steps.{IsText, IsSolid}

pub text_piece : (mode : Mode) (text : List ℕ) → IsText mode → piece_in mode text ≡ piece_by class_of text
text_piece m.Start text is = refl
text_piece m.Middle text is = refl
text_piece (m.Hash hash) text is = absurd is
text_piece (m.Define hash) text is = absurd is
text_piece (m.Body at) text is = absurd is
text_piece (m.Again a) text is = absurd is
text_piece (m.Include hash) text is = absurd is
text_piece (m.Header d) text is = absurd is
text_piece m.Pragma text is = absurd is

not_hash : (x : ℕ) (xs : List ℕ) → eqb x 35 ≡ false → same (x ∷ xs) (codes "#") ≡ false
not_hash x xs e = and_right (same xs []) (eqb x 35) e

-- a comment and a blank leave what has been read
passes_over : (mode : Mode) (x : ℕ) (xs rest : List ℕ) (c : Piece) (s : State) → IsText mode → eqb x 35 ≡ false → (c ≡ p.Comment) ⊎ (c ≡ p.Blank) → if_ok (step_in mode first_place (x ∷ xs) rest c s) ≡ Some s
passes_over m.Start x xs rest c s is e kind =
    ap (λ b. if_ok (if b then Ok (in_mode (m.Hash first_place) s) else in_text first_place (x ∷ xs) c s)) (not_hash x xs e) ∙ by kind
  where
    by : (c ≡ p.Comment) ⊎ (c ≡ p.Blank) → if_ok (in_text first_place (x ∷ xs) c s) ≡ Some s
    by (inl k) = ap (λ d. if_ok (in_text first_place (x ∷ xs) d s)) k
    by (inr k) = ap (λ d. if_ok (in_text first_place (x ∷ xs) d s)) k
passes_over m.Middle x xs rest c s is e (inl k) = ap (λ d. if_ok (in_text first_place (x ∷ xs) d s)) k
passes_over m.Middle x xs rest c s is e (inr k) = ap (λ d. if_ok (in_text first_place (x ∷ xs) d s)) k
passes_over (m.Hash hash) x xs rest c s is e kind = absurd is
passes_over (m.Define hash) x xs rest c s is e kind = absurd is
passes_over (m.Body at) x xs rest c s is e kind = absurd is
passes_over (m.Again a) x xs rest c s is e kind = absurd is
passes_over (m.Include hash) x xs rest c s is e kind = absurd is
passes_over (m.Header d) x xs rest c s is e kind = absurd is
passes_over m.Pragma x xs rest c s is e kind = absurd is

-- ---- comments and spaces

empty_list : (xs : List ℕ) → same xs [] ≡ true → xs ≡ []
empty_list [] h = refl
empty_list (x ∷ xs) h = absurd (false≢true h)

ends_at : (star : Bool) (count : ℕ) (xs rest : List ℕ) → ends_comment star xs ≡ true → comment_at star count (xs ++ rest) ≡ Some (count + length xs)
ends_at star count [] rest = λ h. absurd (false≢true h)
ends_at star count (x ∷ xs) rest =
    elim (star && eqb x 47) as (λ v. (if v then same xs [] else ends_comment (eqb x 42) xs) ≡ true
    → (if v then Some (count + 1) else comment_at (eqb x 42) (count + 1) (xs ++ rest)) ≡ Some (count + suc (length xs))) [
      | true ↦ λ h. (let none : length xs ≡ 0 = ap length (empty_list xs h) in ap Some (omega arith))
      | false ↦ λ h. ends_at (eqb x 42) (count + 1) xs rest h ∙ ap Some (omega arith)
    ]

pub read_comment : (s : State) (xs rest : List ℕ) → IsText s.mode → ends_comment false xs ≡ true → blind 0 s (47 ∷ 42 ∷ (xs ++ rest)) ≡ blind 0 s rest
read_comment s xs rest is h =
    let found : comment_at false 0 (xs ++ rest) ≡ Some (length xs) = ends_at false 0 xs rest h ∙ ap Some (omega arith) in
    let two : length xs + 2 ≡ suc (suc (length xs)) = omega arith in
    blind_piece s s 47 (42 ∷ xs) rest p.Comment
    (text_piece s.mode (47 ∷ 42 ∷ (xs ++ rest)) is ∙ sym (comment_is (xs ++ rest) (length xs) found) ∙ ap (λ n. (p.Comment, n)) two)
    (text_splice s.mode first_place (47 ∷ 42 ∷ (xs ++ rest)) (suc (suc (length xs))) is refl)
    (passes_over s.mode 47 (42 ∷ xs) rest p.Comment s is refl (inl refl))

read_space : (s : State) (rest : List ℕ) → IsText s.mode → blind 0 s (32 ∷ rest) ≡ blind 0 s rest
read_space s rest is =
    blind_piece s s 32 [] rest p.Blank (text_piece s.mode (32 ∷ rest) is ∙ sym (blank_is 32 rest (omega arith) refl))
    (text_splice s.mode first_place (32 ∷ rest) 1 is refl) (passes_over s.mode 32 [] rest p.Blank s is refl (inr refl))

-- ---- a line of a `#pragma`

hash_mark : (t : List ℕ) → mark_of (35 ∷ t) ≡ None
hash_mark t = no_key marks (λ s. not (first_is (λ b. eqb b 35) s)) (35 ∷ t) refl refl

-- `#` is no piece, whatever stands behind it
pub hash_piece : (rest : List ℕ) → piece_by class_of (35 ∷ rest) ≡ (p.Unknown, 1)
hash_piece [] = sym (other_is 35 [] refl refl refl refl refl refl refl) ∙ ap (λ o. or_mark o 1 (p.Unknown, 1)) (hash_mark [])
hash_piece (b ∷ []) =
    sym (other_is 35 (b ∷ []) refl refl refl refl refl refl refl) ∙ ap (λ o. or_mark o 2 (or_mark (mark_of (35 ∷ [])) 1 (p.Unknown, 1))) (hash_mark (b ∷ []))
    ∙ ap (λ o. or_mark o 1 (p.Unknown, 1)) (hash_mark [])
hash_piece (b ∷ c ∷ cs) =
    sym (other_is 35 (b ∷ c ∷ cs) refl refl refl refl refl refl refl)
    ∙ ap (λ o. or_mark o 3 (or_mark (mark_of (35 ∷ b ∷ [])) 2 (or_mark (mark_of (35 ∷ [])) 1 (p.Unknown, 1)))) (hash_mark (b ∷ c ∷ []))
    ∙ ap (λ o. or_mark o 2 (or_mark (mark_of (35 ∷ [])) 1 (p.Unknown, 1))) (hash_mark (b ∷ []))
    ∙ ap (λ o. or_mark o 1 (p.Unknown, 1)) (hash_mark [])

ends_line : (mode : Mode) (rest : List ℕ) (s : State) → IsText mode → if_ok (step_in mode first_place (10 ∷ []) rest p.Newline s) ≡ Some (in_mode m.Start s)
ends_line m.Start rest s is = refl
ends_line m.Middle rest s is = refl
ends_line (m.Hash hash) rest s is = absurd is
ends_line (m.Define hash) rest s is = absurd is
ends_line (m.Body at) rest s is = absurd is
ends_line (m.Again a) rest s is = absurd is
ends_line (m.Include hash) rest s is = absurd is
ends_line (m.Header d) rest s is = absurd is
ends_line m.Pragma rest s is = absurd is

pragma_bytes : (s : State) (xs rest : List ℕ) → every is_plain xs ≡ true → blind 0 (in_mode m.Pragma s) (xs ++ 10 ∷ rest) ≡ blind 0 (in_mode m.Start s) rest
pragma_bytes s [] rest h = blind_piece (in_mode m.Pragma s) (in_mode m.Start s) 10 [] rest p.Newline (sym (pragma_newline_is rest)) (byte_splice 10 rest refl) refl
pragma_bytes s (x ∷ xs) rest h =
    let parts = and_parts (is_plain x) (every is_plain xs) h in
    let slash = and_parts (not (eqb x 47)) _ parts.0 in
    let line = and_parts (not (eqb x 10)) _ slash.1 in
    let two = and_parts (not (eqb x 92)) (not (eqb x 63)) line.1 in
    blind_piece (in_mode m.Pragma s) (in_mode m.Pragma s) x [] (xs ++ 10 ∷ rest) p.Blank (sym (pragma_other_is x (xs ++ 10 ∷ rest) (no_from (eqb x 47) slash.0) (no_from (eqb x 10) line.0)))
    (byte_splice x (xs ++ 10 ∷ rest) (or_from _ _ (and_left (eqb 92 x) _ (test_turned x 92 (no_from (eqb x 92) two.0))) (and_left (eqb 63 x) _ (test_turned x 63 (no_from (eqb x 63) two.1))))) refl
    ∙ pragma_bytes s xs rest parts.1
  where
    no_from : (b : Bool) → not b ≡ true → b ≡ false
    no_from true e = absurd (false≢true e)
    no_from false e = refl

    test_turned : (a b : ℕ) → eqb a b ≡ false → eqb b a ≡ false
    test_turned a b h = test_fails b a (λ e. eqb-false a b h (sym e))

read_line : (s : State) (xs rest : List ℕ) → IsText s.mode → every is_plain xs ≡ true → blind 0 s (codes "\n#pragma " ++ (xs ++ 10 ∷ rest)) ≡ blind 0 (in_mode m.Start s) rest
read_line s xs rest is h =
    let line = 32 ∷ (xs ++ 10 ∷ rest) in
    let named = codes "pragma" ++ line in
    blind_piece s (in_mode m.Start s) 10 [] (35 ∷ named) p.Newline (text_piece s.mode (10 ∷ 35 ∷ named) is ∙ sym (newline_is (35 ∷ named)))
    (text_splice s.mode first_place (10 ∷ 35 ∷ named) 1 is refl) (ends_line s.mode (35 ∷ named) s is)
    ∙ blind_piece (in_mode m.Start s) (in_mode (m.Hash first_place) s) 35 [] named p.Unknown (hash_piece named) refl refl
    ∙ blind_piece (in_mode (m.Hash first_place) s) (in_mode m.Pragma s) 112 (codes "ragma") line p.Name (sym (name_is 112 (codes "ragma" ++ line) 5 (omega arith) refl refl)) refl refl
    ∙ pragma_bytes s (32 ∷ xs) rest h

-- ---- a note, and all that is inserted at a place

read_behind : (s : State) (line more : List ℕ) (there : Bool) (goal : Option State) → IsText s.mode → IsPragmaLine line → blind 0 s more ≡ goal → blind 0 (in_mode m.Start s) more ≡ goal
    → blind 0 s ((if there then line else []) ++ more) ≡ goal
read_behind s line more false goal is kind first second = first
read_behind s line more true goal is (inl e) first second = ap (λ l. blind 0 s (l ++ more)) e ∙ first
read_behind s line more true goal is (inr (xs, (plain, e))) first second =
    ap (λ l. blind 0 s (l ++ more)) e ∙ ap (λ l. blind 0 s (codes "\n#pragma " ++ l)) (append_assoc xs (10 ∷ []) more) ∙ read_line s xs more is plain ∙ second

read_note : (s : State) (text more : List ℕ) (n : Note) (goal : Option State) → IsText s.mode → IsHarmless n → blind 0 s more ≡ goal → blind 0 (in_mode m.Start s) more ≡ goal
    → blind 0 s (note_text text n ++ more) ≡ goal
read_note s text more n goal is harmless first second =
    let line = if spells_for text then n.line else [] in
    ap (λ c. blind 0 s ((c ++ line) ++ more)) harmless.comment
    ∙ ap (λ t. blind 0 s (47 ∷ 42 ∷ t)) (append_assoc harmless.inside line more)
    ∙ read_comment s harmless.inside (line ++ more) is harmless.ends
    ∙ read_behind s n.line more (spells_for text) goal is harmless.line first second

-- from a line of text, and from the beginning of a line
read_notes : (place : Place) (s : State) (text rest : List ℕ) (notes : List Note) → IsText s.mode → Each IsHarmless notes → blind 0 (in_mode m.Start s) rest ≡ blind 0 s rest
    → (blind 0 s (inserted_at place text notes ++ rest) ≡ blind 0 s rest) × (blind 0 (in_mode m.Start s) (inserted_at place text notes ++ rest) ≡ blind 0 s rest)
read_notes place s text rest [] is harmless fresh = (refl, fresh)
read_notes place s text rest (n ∷ notes) is harmless fresh =
    let more = inserted_at place text notes in
    let behind = read_notes place s text rest notes is harmless.1 fresh in
    elim (same_place n.place place) as (λ v. (blind 0 s (((if v then note_text text n else []) ++ more) ++ rest) ≡ blind 0 s rest)
    × (blind 0 (in_mode m.Start s) (((if v then note_text text n else []) ++ more) ++ rest) ≡ blind 0 s rest)) [
      | false ↦ behind
      | true ↦ (
        ap (blind 0 s) (append_assoc (note_text text n) more rest) ∙ read_note s text (more ++ rest) n (blind 0 s rest) is harmless.0 behind.0 behind.1,
        ap (blind 0 (in_mode m.Start s)) (append_assoc (note_text text n) more rest) ∙ read_note (in_mode m.Start s) text (more ++ rest) n (blind 0 s rest) tt harmless.0 behind.1 behind.1,
      )
    ]

read_parted : (before : ℕ) (s : State) (inserted rest : List ℕ) → IsText s.mode → blind 0 s (parted before inserted ++ rest) ≡ blind 0 s (inserted ++ rest)
read_parted before s [] rest is = refl
read_parted before s (x ∷ xs) rest is = elim (eqb before 47) as (λ v. blind 0 s ((if v then 32 ∷ x ∷ xs else x ∷ xs) ++ rest) ≡ blind 0 s ((x ∷ xs) ++ rest)) [
  | true ↦ read_space s (x ∷ (xs ++ rest)) is
  | false ↦ refl
]

-- WHAT IS INSERTED is passed over, where the text behind it gives the same at the beginning of a line.
pub read_inserted : (place : Place) (before : ℕ) (s : State) (text rest : List ℕ) (notes : List Note) → IsText s.mode → Each IsHarmless notes → blind 0 (in_mode m.Start s) rest ≡ blind 0 s rest
    → blind 0 s (parted before (inserted_at place text notes) ++ rest) ≡ blind 0 s rest
read_inserted place before s text rest notes is harmless fresh =
    read_parted before s (inserted_at place text notes) rest is ∙ (read_notes place s text rest notes is harmless fresh).0

-- ---- a token at the beginning of a line

text_fresh : (t : List ℕ) (c : Piece) (s : State) → IsSolid c → in_text first_place t c (in_mode m.Start s) ≡ in_text first_place t c s
text_fresh t p.Name s solid = refl
text_fresh t p.Number s solid = refl
text_fresh t p.Character s solid = refl
text_fresh t p.Str s solid = refl
text_fresh t (p.Mark mark) s solid = refl
text_fresh t p.Blank s solid = absurd solid
text_fresh t p.Comment s solid = absurd solid
text_fresh t p.Newline s solid = absurd solid
text_fresh t p.Header s solid = absurd solid
text_fresh t p.OpenComment s solid = absurd solid
text_fresh t p.OpenLiteral s solid = absurd solid
text_fresh t p.Unknown s solid = absurd solid

step_fresh : (mode : Mode) (t more : List ℕ) (c : Piece) (s : State) → IsText mode → IsSolid c → same t (codes "#") ≡ false
    → step_in m.Start first_place t more c (in_mode m.Start s) ≡ step_in mode first_place t more c s
step_fresh m.Start t more c s is solid e =
    ap (λ b. if b then Ok (in_mode (m.Hash first_place) (in_mode m.Start s)) else in_text first_place t c (in_mode m.Start s)) e
    ∙ text_fresh t c s solid ∙ sym (ap (λ b. if b then Ok (in_mode (m.Hash first_place) s) else in_text first_place t c s) e)
step_fresh m.Middle t more c s is solid e =
    ap (λ b. if b then Ok (in_mode (m.Hash first_place) (in_mode m.Start s)) else in_text first_place t c (in_mode m.Start s)) e ∙ text_fresh t c s solid
step_fresh (m.Hash hash) t more c s is solid e = absurd is
step_fresh (m.Define hash) t more c s is solid e = absurd is
step_fresh (m.Body at) t more c s is solid e = absurd is
step_fresh (m.Again a) t more c s is solid e = absurd is
step_fresh (m.Include hash) t more c s is solid e = absurd is
step_fresh (m.Header d) t more c s is solid e = absurd is
step_fresh m.Pragma t more c s is solid e = absurd is

-- a token gives the same there
pub fresh_same : (s : State) (b : ℕ) (bs : List ℕ) (c : Piece) (n : ℕ) → IsText s.mode → piece_by class_of (b ∷ bs) ≡ (c, n) → IsSolid c → same (take n (b ∷ bs)) (codes "#") ≡ false
    → blind 0 (in_mode m.Start s) (b ∷ bs) ≡ blind 0 s (b ∷ bs)
fresh_same s b bs c n is e solid differs =
    let by = λ (from : State) (x : Piece × ℕ). option_and_then (λ new. blind (x.1 - 1) new bs) (if_ok (turn first_place from (b ∷ bs) x)) in
    let went = λ (r : Result State Fault). option_and_then (λ new. blind (n - 1) new bs) (if_ok r) in
    ap (by (in_mode m.Start s)) e
    ∙ ap (λ (o : Option Place). went (turn_at o first_place (in_mode m.Start s) (b ∷ bs) (c, n))) (fresh_splice s.mode first_place (b ∷ bs) n is)
    ∙ same_turn (splice_of s.mode first_place (b ∷ bs) n) went
    ∙ ap (by s) (sym (text_piece s.mode (b ∷ bs) is ∙ e))
  where
    same_turn : (o : Option Place) (went : Result State Fault → Option State) → went (turn_at o first_place (in_mode m.Start s) (b ∷ bs) (c, n)) ≡ went (turn_at o first_place s (b ∷ bs) (c, n))
    same_turn None went = ap went (step_fresh s.mode (take n (b ∷ bs)) (drop n (b ∷ bs)) c s is solid differs)
    same_turn (Some at) went = ap went (sym (joins_in_text s.mode at s is))
