-- Reading a text without places.
use Rattle.std.proofs.Common.{◌≡◌, ℕ, zero, suc, ◌-◌, true, List, [], ◌∷◌, ◌++◌, Option, Some, None, is_some, Result, Ok, Err, length, take, drop, refl, sym, ap, ◌∙◌, option_and_then, arith}
use Rattle.std.proofs.lemmas.Bool.{false≢true}
use Rattle.std.proofs.lemmas.List.{take_at, drop_at}
use Rattle.std.proofs.lemmas.Option.{none-some, same_Some}
use Rattle.k_num.specs.declared.place.Place.{Place}
use Rattle.k_lex_pieces.specs.declared.fault.Fault.{Fault}
use Rattle.k_lex_pieces.specs.declared.pieces.Piece.{Piece}
use Rattle.k_lex_pieces.specs.declared.pieces.Piece.TheVariants as p
use Rattle.k_lex_pieces.specs.Bytes.{after}
use Rattle.k_lex_pieces.specs.Outcome.{◌>>=◌}
use Rattle.k_lex_pieces.specs.Pieces.{class_of, class_in_pragma, class_in_include, piece_by}
use Rattle.k_lex.specs.declared.lines.Mode.{Mode}
use Rattle.k_lex.specs.declared.lines.Mode.TheVariants as m
use Rattle.k_lex.specs.Lines.{State, step}
use Rattle.k_lex.specs.Tokens.{piece_in, splice_of, turn, turn_at, run, first_place}
use Rattle.k_pragma_laws.proofs.Blind.{unplaced_mode, unplaced, if_ok, seen, Agree, Alike, step_agrees}
use Rattle.k_pragma_laws.proofs.Classes.{cut_of, cut_in_pragma, cut_in_include}
use Rattle.k_pragma_laws.proofs.Fronts.{IsCut, Follows, front_of, is_sound, keep, piece_of, sound_known}
use Rattle.k_pragma_laws.proofs.Splices.{joins_fail, splice_unplaced}

-- what has been read at the end of the text, without places: the first skip bytes belong to the piece before
abbrev pub blind : ℕ → State → List ℕ → Option State
blind skip old [] = if_ok (step first_place [] [] p.Newline old)
blind (suc skip) old (b ∷ bs) = blind skip old bs
blind zero old (b ∷ bs) =
    let piece = piece_in old.mode (b ∷ bs) in
    option_and_then (λ new. blind (piece.1 - 1) new bs) (if_ok (turn first_place old (b ∷ bs) piece))

-- what has been read at the end, without places, unless there is a fault
abbrev pub final : Result (State × Place) Fault → Option State
final (Ok end) = Some (unplaced end.0)
final (Err f) = None

final_then : (g h : Result State Fault) (f : State → Result (State × Place) Fault) (k : State → Option State) → Agree g h → ((s : State) → final (f s) ≡ k (unplaced s)) → final (g >>= f) ≡ option_and_then k (if_ok h)
final_then (Ok x) (Ok y) f k e next = next x ∙ ap k (same_Some (unplaced x) y e)
final_then (Ok x) (Err y) f k e next = absurd (none-some (unplaced x) (sym e))
final_then (Err x) (Ok y) f k e next = absurd (none-some y e)
final_then (Err x) (Err y) f k e next = refl

final_last : (g h : Result State Fault) (place : Place) → Agree g h → final (g >>= λ new. Ok (new, place)) ≡ if_ok h
final_last (Ok x) h place e = e
final_last (Err x) h place e = e

pub piece_in_unplaced : (mode : Mode) (text : List ℕ) → piece_in (unplaced_mode mode) text ≡ piece_in mode text
piece_in_unplaced m.Start text = refl
piece_in_unplaced m.Middle text = refl
piece_in_unplaced (m.Hash hash) text = refl
piece_in_unplaced (m.Define hash) text = refl
piece_in_unplaced (m.Body at) text = refl
piece_in_unplaced (m.Again a) text = refl
piece_in_unplaced (m.Include hash) text = refl
piece_in_unplaced (m.Header d) text = refl
piece_in_unplaced m.Pragma text = refl

alike_same : (mode : Mode) (text : List ℕ) → Alike mode text text
alike_same m.Start text = tt
alike_same m.Middle text = tt
alike_same (m.Hash hash) text = tt
alike_same (m.Define hash) text = refl
alike_same (m.Body at) text = tt
alike_same (m.Again a) text = tt
alike_same (m.Include hash) text = tt
alike_same (m.Header d) text = tt
alike_same m.Pragma text = tt

turn_agrees : (place : Place) (old : State) (text : List ℕ) (x : Piece × ℕ) → Agree (turn place old text x) (turn first_place (unplaced old) text x)
turn_agrees place old text x = by (splice_of old.mode place text x.1) (splice_of (unplaced_mode old.mode) first_place text x.1) (splice_unplaced old.mode place text x.1)
  where
    by : (o u : Option Place) → is_some o ≡ is_some u → Agree (turn_at o place old text x) (turn_at u first_place (unplaced old) text x)
    by None None e = step_agrees old.mode place (take x.1 text) (drop x.1 text) (drop x.1 text) x.0 old (alike_same old.mode (drop x.1 text))
    by None (Some at) e = absurd (false≢true e)
    by (Some at) None e = absurd (false≢true (sym e))
    by (Some at) (Some to) e = ap seen (joins_fail old.mode at old).1 ∙ sym (ap if_ok (joins_fail (unplaced_mode old.mode) to (unplaced old)).1)

-- WHAT A TEXT GIVES does not depend on places, but for the places themselves.
pub run_blind : (skip : ℕ) (place : Place) (old : State) (text : List ℕ) → final (run skip place old text) ≡ blind skip (unplaced old) text
run_blind zero place old [] =
    final_last (step place [] [] p.Newline old) (step first_place [] [] p.Newline (unplaced old)) place (step_agrees old.mode place [] [] [] p.Newline old (alike_same old.mode []))
run_blind (suc skip) place old [] =
    final_last (step place [] [] p.Newline old) (step first_place [] [] p.Newline (unplaced old)) place (step_agrees old.mode place [] [] [] p.Newline old (alike_same old.mode []))
run_blind (suc skip) place old (b ∷ bs) = run_blind skip (after place b) old bs
run_blind zero place old (b ∷ bs) =
    let x = piece_in old.mode (b ∷ bs) in
    final_then (turn place old (b ∷ bs) x) (turn first_place (unplaced old) (b ∷ bs) x) (λ new. run (x.1 - 1) (after place b) new bs) (λ new. blind (x.1 - 1) new bs)
    (turn_agrees place old (b ∷ bs) x)
    (λ new. run_blind (x.1 - 1) (after place b) new bs)
    ∙ ap (λ (y : Piece × ℕ). option_and_then (λ new. blind (y.1 - 1) new bs) (if_ok (turn first_place (unplaced old) (b ∷ bs) y))) (sym (piece_in_unplaced old.mode (b ∷ bs)))

-- ---- one piece after another

pub blind_skip : (k : ℕ) (s : State) (xs rest : List ℕ) → k ≡ length xs → blind k s (xs ++ rest) ≡ blind 0 s rest
blind_skip k s [] rest e = ap (λ j. blind j s rest) e
blind_skip zero s (x ∷ xs) rest e = absurd (omega arith)
blind_skip (suc k) s (x ∷ xs) rest e = blind_skip k s xs rest (omega arith)

-- a piece at the front of a text, where C joins no lines, and what stands behind it
pub blind_piece : (s new : State) (x : ℕ) (xs rest : List ℕ) (c : Piece) → piece_in s.mode (x ∷ (xs ++ rest)) ≡ (c, suc (length xs)) → splice_of s.mode first_place (x ∷ (xs ++ rest)) (suc (length xs)) ≡ None
    → if_ok (step first_place (x ∷ xs) rest c s) ≡ Some new → blind 0 s (x ∷ (xs ++ rest)) ≡ blind 0 new rest
blind_piece s new x xs rest c e none done =
    let n = suc (length xs) in
    let go = λ (next : State). blind (n - 1) next (xs ++ rest) in
    ap (λ (y : Piece × ℕ). option_and_then (λ next. blind (y.1 - 1) next (xs ++ rest)) (if_ok (turn first_place s (x ∷ (xs ++ rest)) y))) e
    ∙ ap (λ (o : Option Place). option_and_then go (if_ok (turn_at o first_place s (x ∷ (xs ++ rest)) (c, n)))) none
    ∙ ap (λ t. option_and_then go (if_ok (step first_place t (drop n (x ∷ (xs ++ rest))) c s))) (take_at (x ∷ xs) rest n refl)
    ∙ ap (λ t. option_and_then go (if_ok (step first_place (x ∷ xs) t c s))) (drop_at (x ∷ xs) rest n refl)
    ∙ ap (option_and_then go) done
    ∙ blind_skip (n - 1) new xs rest (let less : suc (length xs) - 1 ≡ length xs = omega arith in less)

-- ---- a piece with another text behind it

-- what a spelling is, in a mode
abbrev class_at : Mode → (List ℕ → Piece)
class_at m.Pragma = class_in_pragma
class_at (m.Include hash) = class_in_include
class_at _ = class_of

piece_at : (mode : Mode) (text : List ℕ) → piece_in mode text ≡ piece_by (class_at mode) text
piece_at m.Start text = refl
piece_at m.Middle text = refl
piece_at (m.Hash hash) text = refl
piece_at (m.Define hash) text = refl
piece_at (m.Body at) text = refl
piece_at (m.Again a) text = refl
piece_at (m.Include hash) text = refl
piece_at (m.Header d) text = refl
piece_at m.Pragma text = refl

cut_at : (mode : Mode) → IsCut (class_at mode)
cut_at m.Start = cut_of
cut_at m.Middle = cut_of
cut_at (m.Hash hash) = cut_of
cut_at (m.Define hash) = cut_of
cut_at (m.Body at) = cut_of
cut_at (m.Again a) = cut_of
cut_at (m.Include hash) = cut_in_include
cut_at (m.Header d) = cut_of
cut_at m.Pragma = cut_in_pragma

pub piece_kept : (mode : Mode) (q r s : List ℕ) (c : Piece) → piece_in mode (q ++ r) ≡ (c, length q) → is_sound c ≡ true → Follows q r s → piece_in mode (q ++ s) ≡ (c, length q)
piece_kept mode q r s c e sound follows =
    let front = front_of (class_at mode) q r c (sym (piece_at mode (q ++ r)) ∙ e) sound in
    piece_at mode (q ++ s) ∙ piece_of (class_at mode) q s c (keep (class_at mode) q r s c (cut_at mode) (sound_known c sound) follows front) (sound_known c sound)
