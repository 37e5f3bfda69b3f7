-- The pieces of a source, one behind another.
use Rattle.std.proofs.Common.{◌≡◌, ℕ, zero, suc, ◌-◌, ◌≤◌, List, [], ◌∷◌, ◌++◌, Result, Ok, Err, length, take, drop, refl, ap, ◌∙◌, append_assoc, arith}
use Rattle.std.specs.Prelude.{IsOk}
use Rattle.std.proofs.lemmas.Bool.{false≢true}
use Rattle.std.proofs.lemmas.List.{take-append-drop, append-nil}
use Rattle.k_num.specs.declared.place.Place.{Place}
use Rattle.k_lex_pieces.specs.declared.fault.Fault.{Fault}
use Rattle.k_lex_pieces.specs.Bytes.{after}
use Rattle.k_lex.specs.Lines.{State}
use Rattle.k_lex.specs.Tokens.{piece_in, turn, run}
use Rattle.k_lex.specs.Cuts.{Cut, cut, cuts, joined_pieces}
use Rattle.k_lex_pieces.specs.Outcome.{◌>>=◌}
use Rattle.k_lex.proofs.RunLaws.{piece_in_within}

pub behind_first : (n : ℕ) (b : ℕ) (bs : List ℕ) → 1 ≤ n → take n (b ∷ bs) ++ drop (n - 1) bs ≡ b ∷ bs
behind_first zero b bs le = absurd (omega arith)
behind_first (suc n) b bs le =
    let e : suc n - 1 ≡ n = omega arith in
    ap (λ k. b ∷ (take n bs ++ drop k bs)) e ∙ ap (λ t. b ∷ t) (take-append-drop n bs)

after_turn : (piece : Cut) (rest : List ℕ) (r : Result State Fault) (go : State → Result (State × Place) Fault) (more : State → List Cut) → ((new : State) → IsOk (go new) → joined_pieces (more new) ≡ rest) → IsOk (r >>= go) → joined_pieces (cut piece r more) ≡ piece.spelling ++ rest
after_turn piece rest (Ok new) go more h ok = ap (λ t. piece.spelling ++ t) (h new ok)
after_turn piece rest (Err f) go more h ok = absurd (false≢true ok)

pub cuts_whole : (skip : ℕ) (place : Place) (old : State) (text : List ℕ) → skip ≤ length text → IsOk (run skip place old text) → joined_pieces (cuts skip place old text) ≡ drop skip text
cuts_whole zero place old [] le ok = refl
cuts_whole (suc skip) place old [] le ok = refl
cuts_whole (suc skip) place old (b ∷ bs) le ok = cuts_whole skip (after place b) old bs (omega arith) ok
cuts_whole zero place old (b ∷ bs) le ok =
    let piece = piece_in old.mode (b ∷ bs) in
    let within = piece_in_within old.mode (b ∷ bs) (omega arith) in
    let first : Cut = record { place = place; what = piece.0; spelling = take piece.1 (b ∷ bs) } in
    after_turn first (drop (piece.1 - 1) bs) (turn place old (b ∷ bs) piece) (λ new. run (piece.1 - 1) (after place b) new bs) (λ new. cuts (piece.1 - 1) (after place b) new bs)
    (λ new ok. cuts_whole (piece.1 - 1) (after place b) new bs (omega (arith, within.1)) ok) ok
    ∙ behind_first piece.1 b bs within.0

-- ---- up to a fault

abbrev Front : List Cut → List ℕ → Type 0
Front pieces text = (rest : List ℕ) × (joined_pieces pieces ++ rest ≡ text)

front_of_turn : (piece : Cut) (rest : List ℕ) (r : Result State Fault) (more : State → List Cut) → ((new : State) → Front (more new) rest) → Front (cut piece r more) (piece.spelling ++ rest)
front_of_turn piece rest (Ok new) more h = ((h new).0, append_assoc piece.spelling (joined_pieces (more new)) (h new).0 ∙ ap (λ t. piece.spelling ++ t) (h new).1)
front_of_turn piece rest (Err f) more h = (rest, ap (λ t. t ++ rest) (append-nil piece.spelling))

pub cuts_front : (skip : ℕ) (place : Place) (old : State) (text : List ℕ) → skip ≤ length text → Front (cuts skip place old text) (drop skip text)
cuts_front zero place old [] le = ([], refl)
cuts_front (suc skip) place old [] le = ([], refl)
cuts_front (suc skip) place old (b ∷ bs) le = cuts_front skip (after place b) old bs (omega arith)
cuts_front zero place old (b ∷ bs) le =
    let piece = piece_in old.mode (b ∷ bs) in
    let within = piece_in_within old.mode (b ∷ bs) (omega arith) in
    let first : Cut = record { place = place; what = piece.0; spelling = take piece.1 (b ∷ bs) } in
    let h = front_of_turn first (drop (piece.1 - 1) bs) (turn place old (b ∷ bs) piece) (λ new. cuts (piece.1 - 1) (after place b) new bs)
    (λ new. cuts_front (piece.1 - 1) (after place b) new bs (omega (arith, within.1))) in
    (h.0, h.1 ∙ behind_first piece.1 b bs within.0)
