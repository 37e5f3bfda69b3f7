-- Text without a directive, a comment or a character constant, behind `#include <stdio.h>`: its pieces and tokens by its bytes.
use Rattle.std.proofs.Common.{◌≡◌, ℕ, zero, suc, ◌+◌, ◌-◌, ◌≤◌, ◌<◌, Bool, true, false, ◌&&◌, not, if◌then◌else◌, eqb, List, [], ◌∷◌, ◌++◌, Option, Some, None, Result, Ok, Err, length, take, refl, sym, ap, subst, ◌∙◌, inl, inr, arith, append_assoc}
use Rattle.std.specs.Prelude.{nat_lt, is_none}
use Rattle.std.proofs.lemmas.Bool.{cases_Bool, and_parts, and_right, and_left, le-leb, false≢true}
use Rattle.std.proofs.lemmas.Bool.Decides.{nat_tests}
use Rattle.std.proofs.lemmas.List.{append-nil, length-append, length-take-le}
use Rattle.k_num.specs.declared.place.Place.{Place}
use Rattle.k_tree.specs.declared.tokens.Token.{Token}
use Rattle.k_tree.specs.declared.tokens.TokenKind.{TokenKind}
use Rattle.k_tree.specs.declared.tokens.TokenKind.TheVariants as t
use Rattle.k_lex_pieces.specs.declared.fault.Fault.{Fault}
use Rattle.k_lex_pieces.specs.declared.fault.Refusal.TheVariants as r
use Rattle.k_lex_pieces.specs.declared.pieces.Piece.{Piece}
use Rattle.k_lex_pieces.specs.declared.pieces.Piece.TheVariants as p
use Rattle.k_lex_pieces.specs.Bytes.{after, behind, begins, every, in_name, is_blank, is_digit, is_letter, same, span}
use Rattle.k_lex_pieces.specs.Outcome.{◌>>=◌, refused}
use Rattle.k_lex_pieces.specs.Pieces.{class_of, piece_by, starts_number}
use Rattle.k_lex_pieces.specs.Scans.{close_at, mark_at, number_span, or_mark}
use Rattle.k_lex_pieces.specs.Marks.{mark_of, marks}
use Rattle.k_lex_pieces.proofs.Tables.{no_key}
use Rattle.k_lex_pieces.proofs.PieceLaws.{blank_is, name_is, newline_is, number_is, other_is, piece_length, string_is, string_open}
use Rattle.k_lex_macros.specs.declared.macros.Lexeme.{Lexeme}
use Rattle.k_lex_macros.specs.declared.headers.Header.TheVariants as h
use Rattle.k_lex_macros.specs.Macros.{Macro, full_or, fulls, header_macros, lexeme, replaced, used}
use Rattle.k_lex.specs.declared.lines.Mode.{Mode}
use Rattle.k_lex.specs.declared.lines.Mode.TheVariants as m
use Rattle.k_lex.specs.Lines.{State, add, has_room, in_mode, in_text, is_literal, step_in, token_in_text, token_of}
use Rattle.k_lex.specs.Tokens.{limits, piece_in, run, turn}

-- ---- the longest piece

-- a string, if it is closed
abbrev pub string_scanned : Option ℕ → Piece × ℕ
string_scanned None = (p.OpenLiteral, 1)
string_scanned (Some n) = (p.Str, n + 1)

-- a mark: before the end of a line it has one byte, whatever stands behind that
abbrev pub mark_scanned : ℕ → List ℕ → Piece × ℕ
mark_scanned b [] = mark_at (b ∷ [])
mark_scanned b (c ∷ cs) = if eqb c 10 then or_mark (mark_of (b ∷ [])) 1 (p.Unknown, 1) else mark_at (b ∷ c ∷ cs)

-- no mark goes over the end of a line
abbrev in_one_line : List ℕ → Bool
in_one_line s = every (λ c. not (eqb c 10)) s

no_longer : (b : ℕ) (t : List ℕ) → mark_of (b ∷ 10 ∷ t) ≡ None
no_longer b t = no_key marks in_one_line (b ∷ 10 ∷ t) refl (and_right (not (eqb b 10)) false refl)

at_line_end : (b : ℕ) (cs : List ℕ) → or_mark (mark_of (b ∷ [])) 1 (p.Unknown, 1) ≡ mark_at (b ∷ 10 ∷ cs)
at_line_end b [] = ap (λ o. or_mark o 2 (or_mark (mark_of (b ∷ [])) 1 (p.Unknown, 1))) (sym (no_longer b []))
at_line_end b (d ∷ ds) =
    ap (λ o. or_mark o 2 (or_mark (mark_of (b ∷ [])) 1 (p.Unknown, 1))) (sym (no_longer b []))
    ∙ ap (λ o. or_mark o 3 (or_mark (mark_of (b ∷ 10 ∷ [])) 2 (or_mark (mark_of (b ∷ [])) 1 (p.Unknown, 1)))) (sym (no_longer b (d ∷ [])))

at_end_of : (b c : ℕ) (cs : List ℕ) → c ≡ 10 → or_mark (mark_of (b ∷ [])) 1 (p.Unknown, 1) ≡ mark_at (b ∷ c ∷ cs)
at_end_of b c cs e = subst (λ (n : ℕ). or_mark (mark_of (b ∷ [])) 1 (p.Unknown, 1) ≡ mark_at (b ∷ n ∷ cs)) (sym e) (at_line_end b cs)

mark_is_scanned : (b : ℕ) (bs : List ℕ) → mark_scanned b bs ≡ mark_at (b ∷ bs)
mark_is_scanned b [] = refl
mark_is_scanned b (c ∷ cs) = elim (cases_Bool (eqb c 10)) [
  | inl e ↦ (let same : c ≡ 10 = grind (arith, nat_tests) in rw e (at_end_of b c cs same))
  | inr e ↦ rw e refl
]

-- the piece that begins with a byte that is no quote of a character, slash or point
abbrev pub scanned : ℕ → List ℕ → Piece × ℕ
scanned b bs =
    if is_letter b then (p.Name, span in_name bs + 1)
    else if is_digit b then (p.Number, number_span b bs + 1)
    else if eqb b 34 then string_scanned (close_at 34 false 0 bs)
    else if is_blank b then (p.Blank, 1)
    else if eqb b 10 then (p.Newline, 1)
    else mark_scanned b bs

-- a byte that begins no directive, character constant, comment or number without a digit before its point
abbrev pub is_simple : ℕ → Bool
is_simple b = not (eqb b 35) && (not (eqb b 39) && (not (eqb b 47) && (not (eqb b 46) && nat_lt b 256)))

pub record Simple (b : ℕ) : Type 0 where
  pub hash : eqb b 35 ≡ false
  pub quote : eqb b 39 ≡ false
  pub slash : eqb b 47 ≡ false
  pub point : eqb b 46 ≡ false
  pub byte : b < 256

not_true : (x : Bool) → not x ≡ true → x ≡ false
not_true true e = absurd (false≢true e)
not_true false e = refl

pub simple_is : (b : ℕ) → is_simple b ≡ true → Simple b
simple_is b e =
    let a = and_parts (not (eqb b 35)) _ e in
    let c = and_parts (not (eqb b 39)) _ a.1 in
    let d = and_parts (not (eqb b 47)) _ c.1 in
    let f = and_parts (not (eqb b 46)) (nat_lt b 256) d.1 in
    let small : nat_lt b 256 ≡ true = f.1 in
    record {
      hash = not_true (eqb b 35) a.0;
      quote = not_true (eqb b 39) c.0;
      slash = not_true (eqb b 47) d.0;
      point = not_true (eqb b 46) f.0;
      byte = grind (arith, nat_tests);
    }

starts : (b : ℕ) (bs : List ℕ) → is_digit b ≡ true → starts_number b bs ≡ true
starts b [] e = e
starts b (c ∷ cs) e = rw e refl

starts_not : (b : ℕ) (bs : List ℕ) → is_digit b ≡ false → eqb b 46 ≡ false → starts_number b bs ≡ false
starts_not b [] e f = e
starts_not b (c ∷ cs) e f = rw (e, f) refl

string_is_scanned : (bs : List ℕ) (o : Option ℕ) → close_at 34 false 0 bs ≡ o → string_scanned o ≡ piece_by class_of (34 ∷ bs)
string_is_scanned bs None e = string_open bs e
string_is_scanned bs (Some n) e = string_is bs n e

module _ (b : ℕ) (bs : List ℕ) (is : Simple b) where
  abbrev from_blank : Bool → Bool → Piece × ℕ
  from_blank w n = if w then (p.Blank, 1) else if n then (p.Newline, 1) else mark_scanned b bs

  abbrev from_letter : Bool → Bool → Bool → Bool → Bool → Piece × ℕ
  from_letter l d q w n =
      if l then (p.Name, span in_name bs + 1)
      else if d then (p.Number, number_span b bs + 1)
      else if q then string_scanned (close_at 34 false 0 bs)
      else from_blank w n

  quoted : (b' : ℕ) → b' ≡ 34 → string_scanned (close_at 34 false 0 bs) ≡ piece_by class_of (b' ∷ bs)
  quoted b' e = subst (λ (c : ℕ). string_scanned (close_at 34 false 0 bs) ≡ piece_by class_of (c ∷ bs)) (sym e) (string_is_scanned bs (close_at 34 false 0 bs) refl)

  ended : (b' : ℕ) → b' ≡ 10 → (p.Newline, 1) ≡ piece_by class_of (b' ∷ bs)
  ended b' e = subst (λ (c : ℕ). (p.Newline, 1) ≡ piece_by class_of (c ∷ bs)) (sym e) (newline_is bs)

  by : (l d q w n : Bool) → is_letter b ≡ l → is_digit b ≡ d → eqb b 34 ≡ q → is_blank b ≡ w → eqb b 10 ≡ n → from_letter l d q w n ≡ piece_by class_of (b ∷ bs)
  by true d q w n le de qe we ne = name_is b bs (span in_name bs) is.byte le refl
  by false true q w n le de qe we ne = number_is b bs (number_span b bs) is.byte (starts b bs de) refl
  by false false true w n le de qe we ne = quoted b (grind (arith, nat_tests))
  by false false false true n le de qe we ne = blank_is b bs is.byte we
  by false false false false true le de qe we ne = ended b (grind (arith, nat_tests))
  by false false false false false le de qe we ne = mark_is_scanned b bs ∙ other_is b bs le (starts_not b bs de is.point) is.quote qe is.slash we ne

  pub scanned_is : scanned b bs ≡ piece_by class_of (b ∷ bs)
  scanned_is = by (is_letter b) (is_digit b) (eqb b 34) (is_blank b) (eqb b 10) refl refl refl refl refl

-- ---- tokens

-- the macros of `<stdio.h>`
abbrev pub stdio : List Macro
stdio = header_macros h.Stdio

-- a token that no macro of `<stdio.h>` is
abbrev pub is_plain : Result TokenKind Fault → Bool
is_plain (Ok what) = is_none (used stdio what)
is_plain (Err fault) = false

-- a token, or the end in its place
abbrev pub kind_or : Result TokenKind Fault → TokenKind
kind_or (Ok what) = what
kind_or (Err fault) = t.End

-- a piece may stand in the text
abbrev pub passes : Place → List ℕ → Piece → Bool
passes place s p.Blank = true
passes place s p.Newline = true
passes place s p.Comment = false
passes place s piece = is_plain (token_of place s piece)

-- the tokens that a piece is
abbrev pub group : Place → List ℕ → Piece → List Token
group place s p.Blank = []
group place s p.Newline = []
group place s p.Comment = []
group place s piece = record { what = kind_or (token_of place s piece); place = place } ∷ []

-- a text may be read, of which the first skip bytes belong to what came before
abbrev pub may_read : ℕ → Place → List ℕ → Bool
may_read skip place [] = true
may_read (suc skip) place (b ∷ bs) = may_read skip (after place b) bs
may_read zero place (b ∷ bs) =
    is_simple b && (passes place (take (scanned b bs).1 (b ∷ bs)) (scanned b bs).0 && may_read ((scanned b bs).1 - 1) (after place b) bs)

-- its tokens
abbrev pub tokens_in : ℕ → Place → List ℕ → List Token
tokens_in skip place [] = []
tokens_in (suc skip) place (b ∷ bs) = tokens_in skip (after place b) bs
tokens_in zero place (b ∷ bs) = group place (take (scanned b bs).1 (b ∷ bs)) (scanned b bs).0 ++ tokens_in ((scanned b bs).1 - 1) (after place b) bs

-- the line is no directive
abbrev pub IsText : Mode → Type 0
IsText m.Start = Unit {0}
IsText m.Middle = Unit {0}
IsText (m.Hash hash) = ⊥
IsText (m.Define hash) = ⊥
IsText (m.Body at) = ⊥
IsText (m.Again again) = ⊥
IsText (m.Include hash) = ⊥
IsText (m.Header directive) = ⊥
IsText m.Pragma = ⊥

-- what has been read behind `#include <stdio.h>`, where so many bytes may still be read
pub record IsReading (s : State) (room : ℕ) : Type 0 where
  pub text : IsText s.mode
  pub macros : s.macros ≡ stdio
  pub limit : s.limits ≡ limits
  pub tokens : length s.tokens + room ≤ 400000
  pub spelled : s.spelled + room ≤ 400000

-- what is read of a piece
pub record Reads (old new : State) (room : ℕ) (made : List Token) : Type 0 where
  pub reading : IsReading new room
  pub tokens : new.tokens ≡ old.tokens ++ made

none_used : (o : Option ℕ) → is_none o ≡ true → o ≡ None
none_used None e = refl
none_used (Some n) e = absurd (false≢true e)

-- a token that is no macro
module _ (place : Place) (s : List ℕ) (piece : Piece) (old : State) (room : ℕ) (is : IsReading old (length s + room)) (some : 1 ≤ length s) where
  abbrev with_token : TokenKind → State
  with_token what = record old { mode = m.Middle; tokens = old.tokens ++ record { what = what; place = place } ∷ []; spelled = old.spelled + (length s + 0) }

  has : has_room old 1 (length s) ≡ true
  has =
      let tokens_limit : old.limits.tokens ≡ 400000 = ap (λ l. l.tokens) is.limit in
      let spelling_limit : old.limits.spelling ≡ 4194304 = ap (λ l. l.spelling) is.limit in
      let few : length old.tokens + 1 ≤ old.limits.tokens = omega (arith, is.tokens, some, tokens_limit) in
      let short : old.spelled + length s ≤ old.limits.spelling = omega (arith, is.spelled, spelling_limit) in
      rw (le-leb _ _ few, le-leb _ _ short) refl

  has_more : has_room old 1 (length s + 0) ≡ true
  has_more =
      let same : length s + 0 ≡ length s = omega arith in
      rw (same, has) refl

  added : (what : TokenKind) → used stdio what ≡ None → add place (replaced old.macros (lexeme what (length s))) old ≡ Ok (with_token what)
  added what none =
      let one : replaced old.macros (lexeme what (length s)) ≡ lexeme what (length s) ∷ [] =
      ap (λ (macros : List Macro). replaced macros (lexeme what (length s))) is.macros ∙ ap (full_or (fulls stdio) (lexeme what (length s))) none in
      ap (λ (xs : List Lexeme). add place xs old) one
      ∙ ap (λ (b : Bool). if b then Ok (with_token what) else refused r.TokensMany place) has_more

  by_token : (given : Result TokenKind Fault) → token_of place s piece ≡ given → is_plain given ≡ true → token_in_text place s piece old ≡ Ok (with_token (kind_or given))
  by_token (Err fault) e plain = absurd (false≢true plain)
  by_token (Ok what) e plain =
      let full : (is_literal piece && not (has_room old 1 (length s))) ≡ false = and_right (is_literal piece) _ (ap not has) in
      ap (λ (b : Bool). if b then refused r.TokensMany place else (token_of place s piece >>= λ what. add place (replaced old.macros (lexeme what (length s))) old)) full
      ∙ ap (λ (g : Result TokenKind Fault). g >>= λ what. add place (replaced old.macros (lexeme what (length s))) old) e
      ∙ added what (none_used (used stdio what) plain)

  reads_token : (what : TokenKind) → Reads old (with_token what) room (record { what = what; place = place } ∷ [])
  reads_token what = record {
    reading = record {
      text = tt;
      macros = is.macros;
      limit = is.limit;
      tokens = omega (arith, length-append old.tokens (record { what = what; place = place } ∷ []), is.tokens, some);
      spelled = omega (arith, is.spelled);
    };
    tokens = refl;
  }

  token_reads : is_plain (token_of place s piece) ≡ true
      → (new : State) × (token_in_text place s piece old ≡ Ok new) × Reads old new room (record { what = kind_or (token_of place s piece); place = place } ∷ [])
  token_reads plain =
      (with_token (kind_or (token_of place s piece)), by_token (token_of place s piece) refl plain, reads_token (kind_or (token_of place s piece)))

  -- a piece
  kept : (new : State) → IsText new.mode → new.macros ≡ old.macros → new.limits ≡ old.limits → new.tokens ≡ old.tokens → new.spelled ≡ old.spelled → Reads old new room []
  kept new text macros same_limits same_tokens same_spelled =
      let count : length new.tokens ≡ length old.tokens = ap length same_tokens in
      record {
        reading = record {
          text = text;
          macros = macros ∙ is.macros;
          limit = same_limits ∙ is.limit;
          tokens = omega (arith, is.tokens, count);
          spelled = omega (arith, is.spelled, same_spelled);
        };
        tokens = same_tokens ∙ sym (append-nil old.tokens);
      }

module _ (place : Place) (s : List ℕ) (old : State) (room : ℕ) (is : IsReading old (length s + room)) (some : 1 ≤ length s) where
  abbrev Read : Piece → Type 0
  Read piece = (new : State) × (in_text place s piece old ≡ Ok new) × Reads old new room (group place s piece)

  in_text_reads : (piece : Piece) → passes place s piece ≡ true → Read piece
  in_text_reads p.Blank e = (old, refl, kept place s p.Blank old room is some old is.text refl refl refl refl)
  in_text_reads p.Newline e = (in_mode m.Start old, refl, kept place s p.Newline old room is some (in_mode m.Start old) tt refl refl refl refl)
  in_text_reads p.Comment e = absurd (false≢true e)
  in_text_reads p.Name e = token_reads place s p.Name old room is some e
  in_text_reads p.Number e = token_reads place s p.Number old room is some e
  in_text_reads p.Character e = token_reads place s p.Character old room is some e
  in_text_reads p.Str e = token_reads place s p.Str old room is some e
  in_text_reads (p.Mark mark) e = token_reads place s (p.Mark mark) old room is some e
  in_text_reads p.Header e = absurd (false≢true e)
  in_text_reads p.OpenComment e = absurd (false≢true e)
  in_text_reads p.OpenLiteral e = absurd (false≢true e)
  in_text_reads p.Unknown e = absurd (false≢true e)

-- ---- the turn of a piece

no_hash : (n b : ℕ) (bs : List ℕ) → eqb b 35 ≡ false → same (take n (b ∷ bs)) (35 ∷ []) ≡ false
no_hash zero b bs e = refl
no_hash (suc n) b bs e = and_right (same (take n bs) []) (eqb b 35) e

no_line : (b : ℕ) (bs : List ℕ) → eqb b 47 ≡ false → begins (47 ∷ 47 ∷ []) (b ∷ bs) ≡ false
no_line b bs e = and_left (eqb 47 b) (begins (47 ∷ []) bs) (grind (arith, nat_tests))

start_turn : (place : Place) (old : State) (b : ℕ) (bs : List ℕ) (x : Piece × ℕ) → old.mode ≡ m.Start → eqb b 47 ≡ false → eqb b 35 ≡ false
    → turn place old (b ∷ bs) x ≡ in_text place (take x.1 (b ∷ bs)) x.0 old
start_turn place old b bs x e slash hash = rw (e, no_line b bs slash, no_hash x.1 b bs hash) refl

middle_turn : (place : Place) (old : State) (b : ℕ) (bs : List ℕ) (x : Piece × ℕ) → old.mode ≡ m.Middle → eqb b 47 ≡ false
    → turn place old (b ∷ bs) x ≡ in_text place (take x.1 (b ∷ bs)) x.0 old
middle_turn place old b bs x e slash = rw (e, no_line b bs slash) refl

text_turn : (place : Place) (old : State) (b : ℕ) (bs : List ℕ) (x : Piece × ℕ) (mode : Mode) → old.mode ≡ mode → IsText mode → eqb b 47 ≡ false → eqb b 35 ≡ false
    → turn place old (b ∷ bs) x ≡ in_text place (take x.1 (b ∷ bs)) x.0 old
text_turn place old b bs x m.Start e text slash hash = start_turn place old b bs x e slash hash
text_turn place old b bs x m.Middle e text slash hash = middle_turn place old b bs x e slash
text_turn place old b bs x (m.Hash at) e text slash hash = absurd text
text_turn place old b bs x (m.Define at) e text slash hash = absurd text
text_turn place old b bs x (m.Body at) e text slash hash = absurd text
text_turn place old b bs x (m.Again again) e text slash hash = absurd text
text_turn place old b bs x (m.Include at) e text slash hash = absurd text
text_turn place old b bs x (m.Header directive) e text slash hash = absurd text
text_turn place old b bs x m.Pragma e text slash hash = absurd text

text_piece : (mode : Mode) (text : List ℕ) → IsText mode → piece_in mode text ≡ piece_by class_of text
text_piece m.Start text is = refl
text_piece m.Middle text is = refl
text_piece (m.Hash at) text is = absurd is
text_piece (m.Define at) text is = absurd is
text_piece (m.Body at) text is = absurd is
text_piece (m.Again again) text is = absurd is
text_piece (m.Include at) text is = absurd is
text_piece (m.Header directive) text is = absurd is
text_piece m.Pragma text is = absurd is

-- ---- all pieces

-- the end of a text in a state
last_step : (mode : Mode) (place : Place) (old : State) → IsText mode → step_in mode place [] [] p.Newline old ≡ Ok (in_mode m.Start old)
last_step m.Start place old is = refl
last_step m.Middle place old is = refl
last_step (m.Hash at) place old is = absurd is
last_step (m.Define at) place old is = absurd is
last_step (m.Body at) place old is = absurd is
last_step (m.Again again) place old is = absurd is
last_step (m.Include at) place old is = absurd is
last_step (m.Header directive) place old is = absurd is
last_step m.Pragma place old is = absurd is

-- a text is read to its end
pub record IsRun (skip : ℕ) (place : Place) (old : State) (text : List ℕ) : Type 0 where
  pub end : State
  pub runs : run skip place old text ≡ Ok (end, behind place text)
  pub made : end.tokens ≡ old.tokens ++ tokens_in skip place text

at_end : (skip : ℕ) (place : Place) (old : State) → IsText old.mode → run skip place old [] ≡ Ok (in_mode m.Start old, place)
at_end zero place old is = ap (λ (g : Result State Fault). g >>= λ new. Ok (new, place)) (last_step old.mode place old is)
at_end (suc skip) place old is = ap (λ (g : Result State Fault). g >>= λ new. Ok (new, place)) (last_step old.mode place old is)

-- one piece, and then the others
run_piece : (place : Place) (old new : State) (b : ℕ) (bs : List ℕ) (x : Piece × ℕ) (end : Result (State × Place) Fault) → piece_in old.mode (b ∷ bs) ≡ x
    → turn place old (b ∷ bs) x ≡ Ok new → run (x.1 - 1) (after place b) new bs ≡ end → run 0 place old (b ∷ bs) ≡ end
run_piece place old new b bs x end is turned rest =
    ap (λ (y : Piece × ℕ). turn place old (b ∷ bs) y >>= λ new. run (y.1 - 1) (after place b) new bs) is
    ∙ ap (λ (g : Result State Fault). g >>= λ new. run (x.1 - 1) (after place b) new bs) turned
    ∙ rest

-- the tokens of one piece, and then those of the others
made_piece : (before found more all : List Token) (made : List Token) → all ≡ found ++ more → found ≡ before ++ made → all ≡ before ++ (made ++ more)
made_piece before found more all made is same = is ∙ ap (λ (ts : List Token). ts ++ more) same ∙ append_assoc before made more

pub run_reads : (skip : ℕ) (place : Place) (old : State) (text : List ℕ) (room : ℕ) → skip ≤ length text → length text ≡ skip + room → may_read skip place text ≡ true
    → IsReading old room → IsRun skip place old text
run_reads zero place old [] room le long may is = record { end = in_mode m.Start old; runs = at_end zero place old is.text; made = sym (append-nil old.tokens) }
run_reads (suc skip) place old [] room le long may is = absurd (omega (arith, le))
run_reads (suc skip) place old (b ∷ bs) room le long may is =
    let rest : IsRun skip (after place b) old bs = run_reads skip (after place b) old bs room (omega (arith, le)) (omega (arith, long)) may is in
    record { end = rest.end; runs = rest.runs; made = rest.made }
run_reads zero place old (b ∷ bs) room le long may is =
    let first = and_parts (is_simple b) _ may in
    let simple : Simple b = simple_is b first.0 in
    let x : Piece × ℕ = scanned b bs in
    let s : List ℕ = take x.1 (b ∷ bs) in
    let second = and_parts (passes place s x.0) (may_read (x.1 - 1) (after place b) bs) first.1 in
    let whole : scanned b bs ≡ piece_by class_of (b ∷ bs) = scanned_is b bs simple in
    let within = piece_length class_of b bs in
    let count : x.1 ≡ (piece_by class_of (b ∷ bs)).1 = ap (λ (y : Piece × ℕ). y.1) whole in
    let some : 1 ≤ x.1 = omega (arith, within.0, count) in
    let few : x.1 ≤ length (b ∷ bs) = omega (arith, within.1, count) in
    let size : length s ≡ x.1 = length-take-le x.1 (b ∷ bs) few in
    let left : ℕ = room - x.1 in
    let reading : IsReading old (length s + left) = record {
      text = is.text;
      macros = is.macros;
      limit = is.limit;
      tokens = omega (arith, is.tokens, size, few, long);
      spelled = omega (arith, is.spelled, size, few, long);
    } in
    let found = in_text_reads place s old left reading (omega (arith, some, size)) x.0 second.0 in
    let turned : turn place old (b ∷ bs) x ≡ Ok found.0 = text_turn place old b bs x old.mode refl is.text simple.slash simple.hash ∙ found.1 in
    let rest : IsRun (x.1 - 1) (after place b) found.0 bs =
    run_reads (x.1 - 1) (after place b) found.0 bs left (omega (arith, some, few)) (omega (arith, some, few, long)) second.1 found.2.reading in
    record {
      end = rest.end;
      runs =
          run_piece place old found.0 b bs x (Ok (rest.end, behind place (b ∷ bs))) (text_piece old.mode (b ∷ bs) is.text ∙ sym whole) turned rest.runs;
      made =
          made_piece old.tokens found.0.tokens (tokens_in (x.1 - 1) (after place b) bs) rest.end.tokens (group place s x.0) rest.made found.2.tokens;
    }
