-- The pieces of a text, one after another.
use Rattle.std.proofs.Common.{◌≡◌, ℕ, zero, suc, ◌-◌, ◌<◌, ◌≤◌, Bool, true, false, ◌&&◌, ◌||◌, if◌then◌else◌, eqb, leb, List, [], ◌∷◌, Result, Ok, Err, length, take, drop, refl, sym, ap, ◌∙◌, inl, inr, arith}
use Rattle.std.proofs.lemmas.Bool.{cases_Bool}
use Rattle.k_num.specs.declared.place.Place.{Place}
use Rattle.k_tree.specs.declared.tokens.mark.Mark.{Mark}
use Rattle.k_lex_pieces.specs.declared.fault.Fault.{Fault}
use Rattle.k_lex_pieces.specs.declared.pieces.Piece.{Piece}
use Rattle.k_lex_pieces.specs.declared.pieces.Piece.TheVariants as p
use Rattle.k_lex.specs.declared.lines.Mode.{Mode}
use Rattle.k_lex.specs.declared.lines.Mode.TheVariants as m
use Rattle.k_lex_pieces.specs.Bytes.{after, behind, begins, same}
use Rattle.k_lex_pieces.specs.Marks.{mark_of}
use Rattle.k_lex_pieces.specs.Pieces
use Rattle.k_lex_pieces.specs.Pieces.{piece_by, piece_of_length, longest, class_of, class_in_pragma, class_in_include, is_known, is_name}
use Rattle.k_lex.specs.Lines.{State, step}
use Rattle.k_lex.specs.Tokens.{run, turn, piece_in}
use Rattle.k_lex_pieces.specs.Outcome.{◌>>=◌, Fails}
use Rattle.k_lex_pieces.specs.declared.fault.Stop.{Stop}
use Rattle.k_lex_pieces.specs.declared.fault.Stop.TheVariants as stop
use Rattle.k_lex_pieces.proofs.PieceLaws.{piece_length}
use Rattle.std.specs.Prelude.{Option, Some, None}

-- ---- a piece that is a name is spelled as one

unnamed : (b c d e f g : Bool) (x : Piece) → (x ≡ p.Name → ⊥) → (if b then p.Number else (if c then p.Character else (if d then p.Str else (if e then p.Comment else (if f then p.Blank else (if g then p.Newline else x)))))) ≡ p.Name → ⊥
unnamed true c d e f g x ne h = cc
unnamed false true d e f g x ne h = cc
unnamed false false true e f g x ne h = cc
unnamed false false false true f g x ne h = cc
unnamed false false false false true g x ne h = cc
unnamed false false false false false true x ne h = cc
unnamed false false false false false false x ne h = ne h

no_mark_name : (o : Option Mark) → Pieces.mark_piece o ≡ p.Name → ⊥
no_mark_name None h = cc
no_mark_name (Some m) h = cc

class_named : (s : List ℕ) → class_of s ≡ p.Name → is_name s ≡ true
class_named s h = elim (cases_Bool (is_name s)) [
  | inl e ↦ e
  | inr e ↦ absurd (unnamed (Pieces.is_number s) (Pieces.is_character s) (Pieces.is_string s) (Pieces.is_comment s) (Pieces.is_blank_piece s) (same s (10 ∷ []))
      (Pieces.mark_piece (mark_of s)) (no_mark_name (mark_of s)) (sym (rest_of e) ∙ h))
]
  where
    rest_of : is_name s ≡ false → class_of s ≡ (if Pieces.is_number s then p.Number else (if Pieces.is_character s then p.Character else (if Pieces.is_string s then p.Str else (if Pieces.is_comment s then p.Comment else (if Pieces.is_blank_piece s then p.Blank else (if same s (10 ∷ []) then p.Newline else Pieces.mark_piece (mark_of s)))))))
    rest_of e = rw e refl

pragma_named : (s : List ℕ) → class_in_pragma s ≡ p.Name → is_name s ≡ true
pragma_named s h = absurd (by (Pieces.is_comment s) (same s (10 ∷ [])) (eqb (length s) 1) h)
  where
    by : (b c d : Bool) → (if b then p.Comment else (if c then p.Newline else (if d then p.Blank else p.Unknown))) ≡ p.Name → ⊥
    by true c d h = cc
    by false true d h = cc
    by false false true h = cc
    by false false false h = cc

include_named : (s : List ℕ) → class_in_include s ≡ p.Name → is_name s ≡ true
include_named s h = class_named s (by (begins (60 ∷ []) s) (Pieces.is_header s) h)
  where
    by : (b c : Bool) → (if b then (if c then p.Header else p.Unknown) else class_of s) ≡ p.Name → class_of s ≡ p.Name
    by true true h = absurd (cc)
    by true false h = absurd (cc)
    by false c h = h

by_named : (class : List ℕ → Piece) → ((s : List ℕ) → class s ≡ p.Name → is_name s ≡ true) → (text : List ℕ) (n : ℕ) → (piece_of_length class text n).0 ≡ p.Name → is_name (take (piece_of_length class text n).1 text) ≡ true
by_named class named text n = by (begins (47 ∷ 42 ∷ []) text && leb n 1) (eqb n 0) (begins (39 ∷ []) text || begins (34 ∷ []) text)
  where
    by : (b c d : Bool) → let x : Piece × ℕ = if b then (p.OpenComment, 1) else (if c then ((if d then p.OpenLiteral else p.Unknown), 1) else (class (take n text), n)) in x.0 ≡ p.Name → is_name (take x.1 text) ≡ true
    by true c d h = absurd (cc)
    by false true true h = absurd (cc)
    by false true false h = absurd (cc)
    by false false d h = named (take n text) h

piece_by_named : (class : List ℕ → Piece) → ((s : List ℕ) → class s ≡ p.Name → is_name s ≡ true) → (text : List ℕ) → (piece_by class text).0 ≡ p.Name → is_name (take (piece_by class text).1 text) ≡ true
unfolding piece_by
piece_by_named class named text = by_named class named text (longest (λ s. is_known (class s)) text (length text))

pub piece_in_named : (mode : Mode) (text : List ℕ) → (piece_in mode text).0 ≡ p.Name → is_name (take (piece_in mode text).1 text) ≡ true
piece_in_named m.Pragma text = piece_by_named class_in_pragma pragma_named text
piece_in_named (m.Include hash) text = piece_by_named class_in_include include_named text
piece_in_named m.Start text = piece_by_named class_of class_named text
piece_in_named m.Middle text = piece_by_named class_of class_named text
piece_in_named (m.Hash hash) text = piece_by_named class_of class_named text
piece_in_named (m.Define hash) text = piece_by_named class_of class_named text
piece_in_named (m.Body at) text = piece_by_named class_of class_named text
piece_in_named (m.Again again) text = piece_by_named class_of class_named text
piece_in_named (m.Header directive) text = piece_by_named class_of class_named text

pub piece_in_length : (mode : Mode) (b : ℕ) (bs : List ℕ) → (1 ≤ (piece_in mode (b ∷ bs)).1) × ((piece_in mode (b ∷ bs)).1 ≤ suc (length bs))
piece_in_length m.Pragma b bs = piece_length class_in_pragma b bs
piece_in_length (m.Include hash) b bs = piece_length class_in_include b bs
piece_in_length m.Start b bs = piece_length class_of b bs
piece_in_length m.Middle b bs = piece_length class_of b bs
piece_in_length (m.Hash hash) b bs = piece_length class_of b bs
piece_in_length (m.Define hash) b bs = piece_length class_of b bs
piece_in_length (m.Body at) b bs = piece_length class_of b bs
piece_in_length (m.Again again) b bs = piece_length class_of b bs
piece_in_length (m.Header directive) b bs = piece_length class_of b bs

pub piece_in_within : (mode : Mode) (text : List ℕ) → 0 < length text → (1 ≤ (piece_in mode text).1) × ((piece_in mode text).1 ≤ length text)
piece_in_within mode [] lt = absurd (omega arith)
piece_in_within mode (b ∷ bs) lt = piece_in_length mode b bs

-- ---- one piece after another

run_skip : (k : ℕ) (place : Place) (s : State) (bs : List ℕ) → k ≤ length bs → run k place s bs ≡ run 0 (behind place (take k bs)) s (drop k bs)
run_skip zero place s bs le = refl
run_skip (suc k) place s [] le = absurd (omega arith)
run_skip (suc k) place s (b ∷ bs) le = run_skip k (after place b) s bs (omega arith)

run_turn : (place : Place) (s : State) (b : ℕ) (bs : List ℕ) (n : ℕ) → n ≡ (piece_in s.mode (b ∷ bs)).1 → 1 ≤ n → n ≤ suc (length bs) → run 0 place s (b ∷ bs) ≡ (turn place s (b ∷ bs) (piece_in s.mode (b ∷ bs)) >>= λ new. run 0 (behind place (take n (b ∷ bs))) new (drop n (b ∷ bs)))
run_turn place s b bs zero e low high = absurd (omega arith)
run_turn place s b bs (suc k) e low high =
    bind_same (turn place s (b ∷ bs) (piece_in s.mode (b ∷ bs)))
    (λ new. ap (λ j. run j (after place b) new bs) (let count : (piece_in s.mode (b ∷ bs)).1 - 1 ≡ k = omega arith in count) ∙ run_skip k (after place b) new bs (omega arith))
  where
    bind_same : {f g : State → Result (State × Place) Fault} (r : Result State Fault) → ((new : State) → f new ≡ g new) → (r >>= f) ≡ (r >>= g)
    bind_same (Ok new) h = h new
    bind_same (Err e) h = refl

-- What is left of the text gives what the text gives.
pub run_step : (place next : Place) (s new : State) (text front more : List ℕ) (piece : Piece) (n : ℕ) (whole : Result (State × Place) Fault)
    → (piece, n) ≡ piece_in s.mode text → 0 < length text → front ≡ take n text → more ≡ drop n text → next ≡ behind place front
    → turn place s text (piece, n) ≡ Ok new → run 0 place s text ≡ whole → run 0 next new more ≡ whole
run_step place next s new [] front more piece n whole pe lt fe me ne se e = absurd (omega arith)
run_step place next s new (b ∷ bs) front more piece n whole pe lt fe me ne se e =
    let x = piece_in s.mode (b ∷ bs) in
    let count : n ≡ x.1 = ap (λ (y : Piece × ℕ). y.1) pe in
    let within = piece_in_length s.mode b bs in
    let done : turn place s (b ∷ bs) x ≡ Ok new = ap (turn place s (b ∷ bs)) (sym pe) ∙ se in
    ap (λ q. run 0 q new more) (ne ∙ ap (behind place) fe) ∙ ap (run 0 (behind place (take n (b ∷ bs))) new) me
    ∙ sym (ap (λ r. r >>= λ u. run 0 (behind place (take n (b ∷ bs))) u (drop n (b ∷ bs))) done)
    ∙ sym (run_turn place s b bs n count (omega (arith, within.0)) (omega (arith, within.1)))
    ∙ e

pub run_stops : (place : Place) (s : State) (text : List ℕ) (piece : Piece) (n : ℕ) (f : Fault) (whole : Result (State × Place) Fault)
    → (piece, n) ≡ piece_in s.mode text → 0 < length text → turn place s text (piece, n) ≡ Err f → run 0 place s text ≡ whole → whole ≡ Err f
run_stops place s [] piece n f whole pe lt se e = absurd (omega arith)
run_stops place s (b ∷ bs) piece n f whole pe lt se e =
    let x = piece_in s.mode (b ∷ bs) in
    let done : turn place s (b ∷ bs) x ≡ Err f = ap (turn place s (b ∷ bs)) (sym pe) ∙ se in
    sym e ∙ ap (λ r. r >>= λ u. run (x.1 - 1) (after place b) u bs) done

pub read_name : (mode : Mode) (text front : List ℕ) (piece : Piece) (n : ℕ) → (piece, n) ≡ piece_in mode text → front ≡ take n text → piece ≡ p.Name → is_name front ≡ true
read_name mode text front piece n pe fe h =
    let count : n ≡ (piece_in mode text).1 = ap (λ (y : Piece × ℕ). y.1) pe in
    let kind : piece ≡ (piece_in mode text).0 = ap (λ (y : Piece × ℕ). y.0) pe in
    ap is_name (fe ∙ ap (λ k. take k text) count) ∙ piece_in_named mode text (sym kind ∙ h)

pub fails_run : (place : Place) (s : State) (text : List ℕ) (piece : Piece) (n : ℕ) (e : Stop) (whole : Result (State × Place) Fault)
    → (piece, n) ≡ piece_in s.mode text → 0 < length text → Fails e (turn place s text (piece, n)) → run 0 place s text ≡ whole → Fails e whole
fails_run place s text piece n stop.Memory whole pe lt h e = tt
fails_run place s text piece n (stop.Refused f) whole pe lt h e = run_stops place s text piece n f whole pe lt h e

pub end_ok : (place : Place) (s new : State) (text : List ℕ) (whole : Result (State × Place) Fault) → length text ≡ 0 → step place [] [] p.Newline s ≡ Ok new → run 0 place s text ≡ whole → whole ≡ Ok (new, place)
end_ok place s new [] whole z h e = sym e ∙ ap (λ r. r >>= λ u. Ok (u, place)) h
end_ok place s new (b ∷ bs) whole z h e = absurd (omega arith)

pub end_fails : (place : Place) (s : State) (text : List ℕ) (e : Stop) (whole : Result (State × Place) Fault) → length text ≡ 0 → Fails e (step place [] [] p.Newline s) → run 0 place s text ≡ whole → Fails e whole
end_fails place s text stop.Memory whole z h e = tt
end_fails place s [] (stop.Refused f) whole z h e = sym e ∙ ap (λ r. r >>= λ u. Ok (u, place)) h
end_fails place s (b ∷ bs) (stop.Refused f) whole z h e = absurd (omega arith)
