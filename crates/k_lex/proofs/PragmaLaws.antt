-- The lines of `#pragma`, one piece after another.
use Rattle.std.proofs.Common.{◌≡◌, ℕ, zero, suc, ◌-◌, ◌<◌, ◌≤◌, List, [], ◌∷◌, ◌++◌, Result, Ok, Err, length, take, drop, refl, sym, ap, ◌∙◌, arith}
use Rattle.std.proofs.lemmas.List.{append_assoc, append-nil}
use Rattle.k_num.specs.declared.place.Place.{Place}
use Rattle.k_lex_pieces.specs.Bytes.{after, behind}
use Rattle.k_lex_pieces.specs.declared.fault.Fault.{Fault}
use Rattle.k_lex_pieces.specs.declared.fault.Stop.{Stop}
use Rattle.k_lex_pieces.specs.declared.fault.Stop.TheVariants as stop
use Rattle.k_lex_pieces.specs.declared.pieces.Piece.{Piece}
use Rattle.k_lex_pieces.specs.Outcome.{Fails}
use Rattle.k_lex.specs.Lines.{State}
use Rattle.k_lex.specs.PragmaLines.{if_read, lines_from, pragma_by}
use Rattle.k_lex.specs.Tokens.{piece_in, turn}
use Rattle.k_lex.proofs.RunLaws

-- what a piece of so many bytes at the front of a text gives, and what stands behind it
abbrev pub behind_piece : Place → State → List ℕ → Piece × ℕ → List Place
behind_piece place s text x =
    pragma_by s.mode (take x.1 text) x.0
    ++ if_read (turn place s text x) (λ new. lines_from 0 (behind place (take x.1 text)) new (drop x.1 text))

read_same : {f g : State → List Place} (r : Result State Fault) → ((new : State) → f new ≡ g new) → if_read r f ≡ if_read r g
read_same (Ok new) h = h new
read_same (Err e) h = refl

lines_skip : (k : ℕ) (place : Place) (s : State) (bs : List ℕ) → k ≤ length bs → lines_from k place s bs ≡ lines_from 0 (behind place (take k bs)) s (drop k bs)
lines_skip zero place s bs le = refl
lines_skip (suc k) place s [] le = absurd (omega arith)
lines_skip (suc k) place s (b ∷ bs) le = lines_skip k (after place b) s bs (omega arith)

-- the same, where the bytes of the piece behind its first are skipped
abbrev by_length : Place → State → ℕ → List ℕ → Piece × ℕ → List Place
by_length place s b bs x =
    pragma_by s.mode (take x.1 (b ∷ bs)) x.0 ++ if_read (turn place s (b ∷ bs) x) (λ new. lines_from (x.1 - 1) (after place b) new bs)

by_piece : (place : Place) (s : State) (b : ℕ) (bs : List ℕ) (piece : Piece) (n : ℕ) → 1 ≤ n → n ≤ suc (length bs)
    → by_length place s b bs (piece, n) ≡ behind_piece place s (b ∷ bs) (piece, n)
by_piece place s b bs piece zero low high = absurd (omega arith)
by_piece place s b bs piece (suc k) low high =
    ap (λ rest. pragma_by s.mode (take (suc k) (b ∷ bs)) piece ++ rest)
    (read_same (turn place s (b ∷ bs) (piece, suc k))
    (λ new. ap (λ j. lines_from j (after place b) new bs) (let count : suc k - 1 ≡ k = omega arith in count) ∙ lines_skip k (after place b) new bs (omega arith)))

-- A text gives what its first piece gives, and what stands behind that.
pub lines_piece : (place : Place) (s : State) (text : List ℕ) (piece : Piece) (n : ℕ) → (piece, n) ≡ piece_in s.mode text → 0 < length text
    → lines_from 0 place s text ≡ behind_piece place s text (piece, n)
lines_piece place s [] piece n pe lt = absurd (omega arith)
lines_piece place s (b ∷ bs) piece n pe lt =
    let count : n ≡ (piece_in s.mode (b ∷ bs)).1 = ap (λ (y : Piece × ℕ). y.1) pe in
    let within = RunLaws.piece_in_length s.mode b bs in
    ap (by_length place s b bs) (sym pe) ∙ by_piece place s b bs piece n (omega (arith, within.0)) (omega (arith, within.1))

-- Where the piece is read, what was noted and what stands behind it give what the text gives.
pub lines_step : (place next : Place) (s new : State) (text front more : List ℕ) (piece : Piece) (n : ℕ) (noted old whole : List Place)
    → (piece, n) ≡ piece_in s.mode text → 0 < length text → front ≡ take n text → more ≡ drop n text → next ≡ behind place front
    → turn place s text (piece, n) ≡ Ok new → noted ≡ old ++ pragma_by s.mode front piece → old ++ lines_from 0 place s text ≡ whole
    → noted ++ lines_from 0 next new more ≡ whole
lines_step place next s new text front more piece n noted old whole pe lt fe me ne se note e =
    ap (λ q. noted ++ lines_from 0 q new more) (ne ∙ ap (behind place) fe)
    ∙ ap (λ m. noted ++ lines_from 0 (behind place (take n text)) new m) me
    ∙ ap (λ x. x ++ lines_from 0 (behind place (take n text)) new (drop n text)) (note ∙ ap (λ f. old ++ pragma_by s.mode f piece) fe)
    ∙ append_assoc old (pragma_by s.mode (take n text) piece) (lines_from 0 (behind place (take n text)) new (drop n text))
    ∙ ap (λ r. old ++ (pragma_by s.mode (take n text) piece ++ if_read r (λ u. lines_from 0 (behind place (take n text)) u (drop n text)))) (sym se)
    ∙ ap (λ x. old ++ x) (sym (lines_piece place s text piece n pe lt))
    ∙ e

-- Where it is refused, what was noted is all.
pub lines_stop : (place : Place) (s : State) (text front : List ℕ) (piece : Piece) (n : ℕ) (why : Stop) (f : Fault) (noted old whole : List Place)
    → why ≡ stop.Refused f → (piece, n) ≡ piece_in s.mode text → 0 < length text → front ≡ take n text
    → Fails why (turn place s text (piece, n)) → noted ≡ old ++ pragma_by s.mode front piece → old ++ lines_from 0 place s text ≡ whole → noted ≡ whole
lines_stop place s text front piece n stop.Memory f noted old whole is pe lt fe se note e = absurd (cc)
lines_stop place s text front piece n (stop.Refused g) f noted old whole is pe lt fe se note e =
    note ∙ ap (λ f. old ++ pragma_by s.mode f piece) fe
    ∙ ap (λ x. old ++ x) (sym (append-nil (pragma_by s.mode (take n text) piece)))
    ∙ ap (λ r. old ++ (pragma_by s.mode (take n text) piece ++ if_read r (λ u. lines_from 0 (behind place (take n text)) u (drop n text)))) (sym se)
    ∙ ap (λ x. old ++ x) (sym (lines_piece place s text piece n pe lt))
    ∙ e
