-- What the lexer goes on behind: sound pieces, and the `#` of a directive; and what a piece adds to the tokens.
use Rattle.std.proofs.Common.{◌≡◌, ℕ, ◌+◌, true, ◌&&◌, ◌||◌, not, eqb, ◌⊎◌, if◌then◌else◌, List, [], ◌∷◌, ◌++◌, Option, Some, None, Result, Ok, Err, length, map, codes, refl, subst, inl, inr, is_some}
use Rattle.std.specs.Prelude.{IfOk}
use Rattle.k_num.specs.declared.place.Place.{Place}
use Rattle.k_tree.specs.declared.tokens.Token.{Token}
use Rattle.k_tree.specs.declared.tokens.TokenKind.{TokenKind}
use Rattle.k_lex_pieces.specs.declared.fault.Fault.{Fault}
use Rattle.k_lex_pieces.specs.declared.fault.Refusal.TheVariants as r
use Rattle.k_lex_pieces.specs.declared.pieces.Piece.{Piece}
use Rattle.k_lex_pieces.specs.declared.pieces.Piece.TheVariants as p
use Rattle.k_lex_pieces.specs.Bytes.{begins, same}
use Rattle.k_lex_pieces.specs.Outcome.{◌>>=◌, refused}
use Rattle.k_lex_pieces.specs.Words.{word_of}
use Rattle.k_lex_macros.specs.declared.headers.Header.{Header}
use Rattle.k_lex_macros.specs.declared.macros.Lexeme.{Lexeme}
use Rattle.k_lex_macros.specs.Macros.{lexeme, find, body_at, replaced, is_named, mentions, stands_at, header_macros, breaks_order, changes, included, sizes, placed}
use Rattle.k_lex.specs.declared.lines.Mode.{Mode}
use Rattle.k_lex.specs.declared.lines.Mode.TheVariants as m
use Rattle.k_lex.specs.Lines
use Rattle.k_lex.specs.Lines.{State, step_in, token_of}
use Rattle.k_lex.proofs.Outcomes.{Each, bind_any, bind_ok, cond_ok, when_ok}
use Rattle.k_pragma_laws.proofs.Fronts.{is_sound}

-- the line is text so far, or nothing
abbrev pub IsText : Mode → Type 0
IsText m.Start = Unit {0}
IsText m.Middle = Unit {0}
IsText _ = ⊥

-- a piece that is a token, or a name
abbrev pub IsSolid : Piece → Type 0
IsSolid p.Name = Unit {0}
IsSolid p.Number = Unit {0}
IsSolid p.Character = Unit {0}
IsSolid p.Str = Unit {0}
IsSolid (p.Mark mark) = Unit {0}
IsSolid _ = ⊥

-- ---- a piece behind which the lexer goes on

-- a sound piece, the `#` of a directive, or any piece of a `#pragma` but the beginning of a comment
abbrev pub Goes : Mode → Piece → List ℕ → Type 0
Goes mode c s = (is_sound c ≡ true) ⊎ (((mode ≡ m.Start) × (same s (codes "#") ≡ true)) ⊎ ((mode ≡ m.Pragma) × (c ≡ p.OpenComment → ⊥)))

sure : {X : Type 0} (P : Type 0) (given : Result X Fault) → P → IfOk given (λ _. P)
sure P (Ok x) h = h
sure P (Err f) h = tt

start_goes : (place : Place) (s : List ℕ) (c : Piece) (old : State) → IfOk (Lines.in_text place s c old) (λ _. Goes m.Start c s) → IfOk (Lines.in_start place s c old) (λ _. Goes m.Start c s)
start_goes place s c old text =
    when_ok (λ (_ : State). Goes m.Start c s) (same s (codes "#")) (Ok (Lines.in_mode (m.Hash place) old)) (Lines.in_text place s c old) (λ e. inr (inl (refl, e))) text

none_goes : (P : State → Type 0) (hash place : Place) (s : List ℕ) → IfOk {T = State} {E = Fault} (if begins (codes "<") s || begins (codes "\"") s then refused r.UnknownHeader place else refused r.BadDirective hash) P
none_goes P hash place s = cond_ok P (begins (codes "<") s || begins (codes "\"") s) (refused r.UnknownHeader place) (refused r.BadDirective hash) tt tt

-- of the other pieces
open_comment_goes : (mode : Mode) (place : Place) (s rest : List ℕ) (old : State) → IfOk (step_in mode place s rest p.OpenComment old) (λ _. Goes mode p.OpenComment s)
open_comment_goes m.Start place s rest old = start_goes place s p.OpenComment old tt
open_comment_goes m.Middle place s rest old = tt
open_comment_goes (m.Hash hash) place s rest old = tt
open_comment_goes (m.Define hash) place s rest old = tt
open_comment_goes (m.Body at) place s rest old = tt
open_comment_goes (m.Again a) place s rest old = tt
open_comment_goes (m.Include hash) place s rest old = none_goes (λ _. Goes (m.Include hash) p.OpenComment s) hash place s
open_comment_goes (m.Header d) place s rest old = bind_any (λ _. Goes (m.Header d) p.OpenComment s) (Lines.include d.name d.header old) (λ new. refused r.OpenComment place) (λ new. tt)
open_comment_goes m.Pragma place s rest old = tt

open_literal_goes : (mode : Mode) (place : Place) (s rest : List ℕ) (old : State) → IfOk (step_in mode place s rest p.OpenLiteral old) (λ _. Goes mode p.OpenLiteral s)
open_literal_goes m.Start place s rest old = start_goes place s p.OpenLiteral old tt
open_literal_goes m.Middle place s rest old = tt
open_literal_goes (m.Hash hash) place s rest old = tt
open_literal_goes (m.Define hash) place s rest old = tt
open_literal_goes (m.Body at) place s rest old = tt
open_literal_goes (m.Again a) place s rest old = tt
open_literal_goes (m.Include hash) place s rest old = none_goes (λ _. Goes (m.Include hash) p.OpenLiteral s) hash place s
open_literal_goes (m.Header d) place s rest old = bind_any (λ _. Goes (m.Header d) p.OpenLiteral s) (Lines.include d.name d.header old) (λ new. refused r.OpenLiteral place) (λ new. tt)
open_literal_goes m.Pragma place s rest old = inr (inr (refl, λ e. cc))

unknown_goes : (mode : Mode) (place : Place) (s rest : List ℕ) (old : State) → IfOk (step_in mode place s rest p.Unknown old) (λ _. Goes mode p.Unknown s)
unknown_goes m.Start place s rest old = start_goes place s p.Unknown old tt
unknown_goes m.Middle place s rest old = tt
unknown_goes (m.Hash hash) place s rest old = tt
unknown_goes (m.Define hash) place s rest old = tt
unknown_goes (m.Body at) place s rest old = tt
unknown_goes (m.Again a) place s rest old = tt
unknown_goes (m.Include hash) place s rest old = none_goes (λ _. Goes (m.Include hash) p.Unknown s) hash place s
unknown_goes (m.Header d) place s rest old = bind_any (λ _. Goes (m.Header d) p.Unknown s) (Lines.include d.name d.header old) (λ new. refused r.BadByte place) (λ new. tt)
unknown_goes m.Pragma place s rest old = inr (inr (refl, λ e. cc))

pub step_goes : (mode : Mode) (place : Place) (s rest : List ℕ) (c : Piece) (old : State) → IfOk (step_in mode place s rest c old) (λ _. Goes mode c s)
step_goes mode place s rest p.OpenComment old = open_comment_goes mode place s rest old
step_goes mode place s rest p.OpenLiteral old = open_literal_goes mode place s rest old
step_goes mode place s rest p.Unknown old = unknown_goes mode place s rest old
step_goes mode place s rest p.Name old = sure (Goes mode p.Name s) (step_in mode place s rest p.Name old) (inl refl)
step_goes mode place s rest p.Number old = sure (Goes mode p.Number s) (step_in mode place s rest p.Number old) (inl refl)
step_goes mode place s rest p.Character old = sure (Goes mode p.Character s) (step_in mode place s rest p.Character old) (inl refl)
step_goes mode place s rest p.Str old = sure (Goes mode p.Str s) (step_in mode place s rest p.Str old) (inl refl)
step_goes mode place s rest p.Comment old = sure (Goes mode p.Comment s) (step_in mode place s rest p.Comment old) (inl refl)
step_goes mode place s rest p.Blank old = sure (Goes mode p.Blank s) (step_in mode place s rest p.Blank old) (inl refl)
step_goes mode place s rest p.Newline old = sure (Goes mode p.Newline s) (step_in mode place s rest p.Newline old) (inl refl)
step_goes mode place s rest (p.Mark mark) old = sure (Goes mode (p.Mark mark) s) (step_in mode place s rest (p.Mark mark) old) (inl refl)
step_goes mode place s rest p.Header old = sure (Goes mode p.Header s) (step_in mode place s rest p.Header old) (inl refl)

-- ---- behind `#define` the line stays a directive

-- the line is no text
abbrev pub NoText : State → Type 0
NoText new = IsText new.mode → ⊥

named_stays : (place : Place) (s : List ℕ) (number : Option ℕ) (old : State) → IfOk (Lines.named place s number old) NoText
named_stays place s (Some number) old = λ h. h
named_stays place s None old = cond_ok NoText (mentions old.macros s) (refused r.MacroOrder place) (Ok (record old { mode = m.Body place; name = s; body = [] })) tt (λ h. h)

pub define_stays : (hash place : Place) (s rest : List ℕ) (c : Piece) (old : State) → old.mode ≡ m.Define hash → IfOk (Lines.in_define hash place s rest c old) NoText
define_stays hash place s rest p.Blank old e = λ h. subst IsText e h
define_stays hash place s rest p.Comment old e = λ h. subst IsText e h
define_stays hash place s rest p.Name old e =
    cond_ok NoText (is_some (word_of s) || begins (codes "(") rest) (refused r.BadDirective hash) (Lines.named place s (find old.macros s) old) tt (named_stays place s (find old.macros s) old)
define_stays hash place s rest p.Newline old e = tt
define_stays hash place s rest p.Number old e = tt
define_stays hash place s rest p.Character old e = tt
define_stays hash place s rest p.Str old e = tt
define_stays hash place s rest (p.Mark mark) old e = tt
define_stays hash place s rest p.Header old e = tt
define_stays hash place s rest p.OpenComment old e = tt
define_stays hash place s rest p.OpenLiteral old e = tt
define_stays hash place s rest p.Unknown old e = tt

-- ---- what a piece adds

-- a token of a line of text adds tokens at its place
pub record Grows (mode : Mode) (place : Place) (c : Piece) (old new : State) : Type 0 where
  pub text : IsText mode
  pub solid : IsSolid c
  pub group : List Token
  pub grown : new.tokens ≡ old.tokens ++ group
  pub placed : Each (λ (token : Token). token.place ≡ place) group

-- all else adds none
abbrev pub Adds : Mode → Place → Piece → State → State → Type 0
Adds mode place c old new = (new.tokens ≡ old.tokens) ⊎ Grows mode place c old new

all_placed : (place : Place) (xs : List Lexeme) → Each (λ (token : Token). token.place ≡ place) (map (placed place) xs)
all_placed place [] = tt
all_placed place (x ∷ xs) = (refl, all_placed place xs)

in_line_adds : (mode : Mode) (place : Place) (s : List ℕ) (c : Piece) (old : State) → IsText mode → IsSolid c → IfOk (Lines.token_in_text place s c old) (Adds mode place c old)
in_line_adds mode place s c old text solid =
    let xs = λ (what : TokenKind). replaced old.macros (lexeme what (length s)) in
    cond_ok (Adds mode place c old) (Lines.is_literal c && not (Lines.has_room old 1 (length s))) (refused r.TokensMany place) (token_of place s c >>= λ what. Lines.add place (xs what) old) tt
    (bind_any (Adds mode place c old) (token_of place s c) (λ what. Lines.add place (xs what) old)
    (λ what. cond_ok (Adds mode place c old) (Lines.has_room old (length (xs what)) (sizes (xs what)))
    (Ok (record old { mode = m.Middle; tokens = old.tokens ++ map (placed place) (xs what); spelled = old.spelled + sizes (xs what) })) (refused r.TokensMany place)
    (inr (record { text = text; solid = solid; group = map (placed place) (xs what); grown = refl; placed = all_placed place (xs what) })) tt))

text_adds : (mode : Mode) (place : Place) (s : List ℕ) (c : Piece) (old : State) → IsText mode → IfOk (Lines.in_text place s c old) (Adds mode place c old)
text_adds mode place s p.Blank old text = inl refl
text_adds mode place s p.Comment old text = inl refl
text_adds mode place s p.Newline old text = inl refl
text_adds mode place s p.Name old text = in_line_adds mode place s p.Name old text tt
text_adds mode place s p.Number old text = in_line_adds mode place s p.Number old text tt
text_adds mode place s p.Character old text = in_line_adds mode place s p.Character old text tt
text_adds mode place s p.Str old text = in_line_adds mode place s p.Str old text tt
text_adds mode place s (p.Mark mark) old text = in_line_adds mode place s (p.Mark mark) old text tt
text_adds mode place s p.Header old text = tt
text_adds mode place s p.OpenComment old text = tt
text_adds mode place s p.OpenLiteral old text = tt
text_adds mode place s p.Unknown old text = tt

start_adds : (place : Place) (s : List ℕ) (c : Piece) (old : State) → IfOk (Lines.in_start place s c old) (Adds m.Start place c old)
start_adds place s c old =
    cond_ok (Adds m.Start place c old) (same s (codes "#")) (Ok (Lines.in_mode (m.Hash place) old)) (Lines.in_text place s c old) (inl refl) (text_adds m.Start place s c old tt)

-- a piece of a directive adds none

-- the tokens are what they were
abbrev Kept : State → State → Type 0
Kept old new = new.tokens ≡ old.tokens

directive_adds : (hash : Place) (mode : Option Mode) (old : State) → IfOk (Lines.directive hash mode old) (Kept old)
directive_adds hash None old = tt
directive_adds hash (Some mode) old = refl

hash_adds : (hash : Place) (s : List ℕ) (c : Piece) (old : State) → IfOk (Lines.in_hash hash s c old) (Kept old)
hash_adds hash s p.Blank old = refl
hash_adds hash s p.Comment old = refl
hash_adds hash s p.Newline old = refl
hash_adds hash s p.Name old = directive_adds hash (Lines.directive_mode hash s) old
hash_adds hash s p.Number old = tt
hash_adds hash s p.Character old = tt
hash_adds hash s p.Str old = tt
hash_adds hash s (p.Mark mark) old = tt
hash_adds hash s p.Header old = tt
hash_adds hash s p.OpenComment old = tt
hash_adds hash s p.OpenLiteral old = tt
hash_adds hash s p.Unknown old = tt

named_adds : (place : Place) (s : List ℕ) (number : Option ℕ) (old : State) → IfOk (Lines.named place s number old) (Kept old)
named_adds place s (Some number) old = refl
named_adds place s None old = cond_ok (Kept old) (mentions old.macros s) (refused r.MacroOrder place) (Ok (record old { mode = m.Body place; name = s; body = [] })) tt refl

define_adds : (hash place : Place) (s rest : List ℕ) (c : Piece) (old : State) → IfOk (Lines.in_define hash place s rest c old) (Kept old)
define_adds hash place s rest p.Blank old = refl
define_adds hash place s rest p.Comment old = refl
define_adds hash place s rest p.Name old =
    cond_ok (Kept old) (is_some (word_of s) || begins (codes "(") rest) (refused r.BadDirective hash) (Lines.named place s (find old.macros s) old) tt (named_adds place s (find old.macros s) old)
define_adds hash place s rest p.Newline old = tt
define_adds hash place s rest p.Number old = tt
define_adds hash place s rest p.Character old = tt
define_adds hash place s rest p.Str old = tt
define_adds hash place s rest (p.Mark mark) old = tt
define_adds hash place s rest p.Header old = tt
define_adds hash place s rest p.OpenComment old = tt
define_adds hash place s rest p.OpenLiteral old = tt
define_adds hash place s rest p.Unknown old = tt

body_token_adds : (at place : Place) (s : List ℕ) (c : Piece) (old : State) → IfOk (Lines.body_token at place s c old) (Kept old)
body_token_adds at place s c old =
    let grown = λ (what : TokenKind). record old { body = old.body ++ lexeme what (length s) ∷ [] } in
    bind_any (Kept old) (token_of place s c) (λ what. if is_named old.name what then refused r.MacroOrder at else Ok (grown what))
    (λ what. cond_ok (Kept old) (is_named old.name what) (refused r.MacroOrder at) (Ok (grown what)) tt refl)

body_adds : (at place : Place) (s : List ℕ) (c : Piece) (old : State) → IfOk (Lines.in_body at place s c old) (Kept old)
body_adds at place s p.Blank old = refl
body_adds at place s p.Comment old = refl
body_adds at place s p.Newline old = refl
body_adds at place s p.Name old = body_token_adds at place s p.Name old
body_adds at place s p.Number old = body_token_adds at place s p.Number old
body_adds at place s p.Character old = body_token_adds at place s p.Character old
body_adds at place s p.Str old = body_token_adds at place s p.Str old
body_adds at place s (p.Mark mark) old = body_token_adds at place s (p.Mark mark) old
body_adds at place s p.Header old = body_token_adds at place s p.Header old
body_adds at place s p.OpenComment old = body_token_adds at place s p.OpenComment old
body_adds at place s p.OpenLiteral old = body_token_adds at place s p.OpenLiteral old
body_adds at place s p.Unknown old = body_token_adds at place s p.Unknown old

again_token_adds : (at : Place) (number count : ℕ) (place : Place) (s : List ℕ) (c : Piece) (old : State) → IfOk (Lines.again_token at number count place s c old) (Kept old)
again_token_adds at number count place s c old =
    let further = Lines.in_mode (m.Again (record { name = at; number = number; at = count + 1 })) old in
    bind_any (Kept old) (token_of place s c) (λ what. if stands_at (body_at old.macros number) count what then Ok further else refused r.MacroAgain at)
    (λ what. cond_ok (Kept old) (stands_at (body_at old.macros number) count what) (Ok further) (refused r.MacroAgain at) refl tt)

again_adds : (at : Place) (number count : ℕ) (place : Place) (s : List ℕ) (c : Piece) (old : State) → IfOk (Lines.in_again at number count place s c old) (Kept old)
again_adds at number count place s p.Blank old = refl
again_adds at number count place s p.Comment old = refl
again_adds at number count place s p.Newline old =
    cond_ok (Kept old) (eqb (length (body_at old.macros number)) count) (Ok (Lines.in_mode m.Start old)) (refused r.MacroAgain at) refl tt
again_adds at number count place s p.Name old = again_token_adds at number count place s p.Name old
again_adds at number count place s p.Number old = again_token_adds at number count place s p.Number old
again_adds at number count place s p.Character old = again_token_adds at number count place s p.Character old
again_adds at number count place s p.Str old = again_token_adds at number count place s p.Str old
again_adds at number count place s (p.Mark mark) old = again_token_adds at number count place s (p.Mark mark) old
again_adds at number count place s p.Header old = again_token_adds at number count place s p.Header old
again_adds at number count place s p.OpenComment old = again_token_adds at number count place s p.OpenComment old
again_adds at number count place s p.OpenLiteral old = again_token_adds at number count place s p.OpenLiteral old
again_adds at number count place s p.Unknown old = again_token_adds at number count place s p.Unknown old

include_line_adds : (hash place : Place) (s : List ℕ) (c : Piece) (old : State) → IfOk (Lines.in_include hash place s c old) (Kept old)
include_line_adds hash place s p.Blank old = refl
include_line_adds hash place s p.Comment old = refl
include_line_adds hash place s p.Header old = refl
include_line_adds hash place s p.Newline old = none_goes (Kept old) hash place s
include_line_adds hash place s p.Name old = none_goes (Kept old) hash place s
include_line_adds hash place s p.Number old = none_goes (Kept old) hash place s
include_line_adds hash place s p.Character old = none_goes (Kept old) hash place s
include_line_adds hash place s p.Str old = none_goes (Kept old) hash place s
include_line_adds hash place s (p.Mark mark) old = none_goes (Kept old) hash place s
include_line_adds hash place s p.OpenComment old = none_goes (Kept old) hash place s
include_line_adds hash place s p.OpenLiteral old = none_goes (Kept old) hash place s
include_line_adds hash place s p.Unknown old = none_goes (Kept old) hash place s

include_adds : (at : Place) (header : Option Header) (old : State) → IfOk (Lines.include at header old) (Kept old)
include_adds at None old = tt
include_adds at (Some header) old =
    let taken = record old { macros = included old.macros (header_macros header) } in
    cond_ok (Kept old) (breaks_order old.macros (header_macros header)) (refused r.MacroOrder at)
    (if changes old.macros (header_macros header) then refused r.MacroAgain at else Ok taken) tt
    (cond_ok (Kept old) (changes old.macros (header_macros header)) (refused r.MacroAgain at) (Ok taken) tt refl)

header_adds : (hash at : Place) (header : Option Header) (place : Place) (c : Piece) (old : State) → IfOk (Lines.in_header hash at header place c old) (Kept old)
header_adds hash at header place p.Blank old = refl
header_adds hash at header place p.Comment old = refl
header_adds hash at header place p.Newline old =
    bind_ok (Kept old) (Kept old) (Lines.include at header old) (λ new. Ok (Lines.in_mode m.Start new)) (include_adds at header old) (λ new e. e)
header_adds hash at header place p.OpenComment old = bind_any (Kept old) (Lines.include at header old) (λ new. refused r.OpenComment place) (λ new. tt)
header_adds hash at header place p.OpenLiteral old = bind_any (Kept old) (Lines.include at header old) (λ new. refused r.OpenLiteral place) (λ new. tt)
header_adds hash at header place p.Unknown old = bind_any (Kept old) (Lines.include at header old) (λ new. refused r.BadByte place) (λ new. tt)
header_adds hash at header place p.Name old = tt
header_adds hash at header place p.Number old = tt
header_adds hash at header place p.Character old = tt
header_adds hash at header place p.Str old = tt
header_adds hash at header place (p.Mark mark) old = tt
header_adds hash at header place p.Header old = tt

pragma_adds : (place : Place) (c : Piece) (old : State) → IfOk (Lines.in_pragma place c old) (Kept old)
pragma_adds place p.Newline old = refl
pragma_adds place p.OpenComment old = tt
pragma_adds place p.Blank old = refl
pragma_adds place p.Comment old = refl
pragma_adds place p.Name old = refl
pragma_adds place p.Number old = refl
pragma_adds place p.Character old = refl
pragma_adds place p.Str old = refl
pragma_adds place (p.Mark mark) old = refl
pragma_adds place p.Header old = refl
pragma_adds place p.OpenLiteral old = refl
pragma_adds place p.Unknown old = refl

kept_adds : (mode : Mode) (place : Place) (c : Piece) (old : State) (given : Result State Fault) → IfOk given (Kept old) → IfOk given (Adds mode place c old)
kept_adds mode place c old (Ok new) e = inl e
kept_adds mode place c old (Err f) e = tt

pub step_adds : (mode : Mode) (place : Place) (s rest : List ℕ) (c : Piece) (old : State) → IfOk (step_in mode place s rest c old) (Adds mode place c old)
step_adds m.Start place s rest c old = start_adds place s c old
step_adds m.Middle place s rest c old = text_adds m.Middle place s c old tt
step_adds (m.Hash hash) place s rest c old = kept_adds (m.Hash hash) place c old (Lines.in_hash hash s c old) (hash_adds hash s c old)
step_adds (m.Define hash) place s rest c old = kept_adds (m.Define hash) place c old (Lines.in_define hash place s rest c old) (define_adds hash place s rest c old)
step_adds (m.Body at) place s rest c old = kept_adds (m.Body at) place c old (Lines.in_body at place s c old) (body_adds at place s c old)
step_adds (m.Again a) place s rest c old = kept_adds (m.Again a) place c old (Lines.in_again a.name a.number a.at place s c old) (again_adds a.name a.number a.at place s c old)
step_adds (m.Include hash) place s rest c old = kept_adds (m.Include hash) place c old (Lines.in_include hash place s c old) (include_line_adds hash place s c old)
step_adds (m.Header d) place s rest c old = kept_adds (m.Header d) place c old (Lines.in_header d.hash d.name d.header place c old) (header_adds d.hash d.name d.header place c old)
step_adds m.Pragma place s rest c old = kept_adds m.Pragma place c old (Lines.in_pragma place c old) (pragma_adds place c old)
