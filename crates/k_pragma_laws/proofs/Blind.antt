-- What a piece does, without places: states that differ in places alone become states that differ in places alone.
use Rattle.std.proofs.Common.{◌≡◌, ℕ, zero, suc, ◌+◌, ◌-◌, Bool, true, false, ◌&&◌, ◌||◌, not, eqb, leb, if◌then◌else◌, List, [], ◌∷◌, ◌++◌, Option, Some, None, Result, Ok, Err, length, map, codes, refl, sym, ap, subst, ◌∙◌, is_some}
use Rattle.std.proofs.lemmas.List.{length-map}
use Rattle.std.proofs.lemmas.Option.{none-some, same_Some}
use Rattle.k_num.specs.declared.numbers.Kind.{Kind}
use Rattle.k_num.specs.declared.place.Place.{Place}
use Rattle.k_tree.specs.declared.tokens.Token.{Token}
use Rattle.k_tree.specs.declared.tokens.TokenKind.TheVariants as t
use Rattle.k_lex_pieces.specs.declared.fault.Fault.{Fault}
use Rattle.k_lex_pieces.specs.declared.fault.Refusal.TheVariants as r
use Rattle.k_lex_pieces.specs.declared.pieces.Piece.{Piece}
use Rattle.k_lex_pieces.specs.declared.pieces.Piece.TheVariants as p
use Rattle.k_lex_pieces.specs.Bytes.{begins, same, after}
use Rattle.k_lex_pieces.specs.Literals.{escape_value, in_byte, byte_or_fault, item_at, content, inside, begins_high, as_char, character_of}
use Rattle.k_lex_pieces.specs.Numbers.{number_of}
use Rattle.k_lex_pieces.specs.Outcome.{◌>>=◌, refused}
use Rattle.k_lex_pieces.specs.Pieces.{item_length}
use Rattle.k_lex_pieces.specs.Words.{word_of}
use Rattle.k_lex_macros.specs.declared.headers.Header.{Header}
use Rattle.k_lex_macros.specs.declared.macros.Lexeme.{Lexeme}
use Rattle.k_lex_macros.specs.Macros.{lexeme, find, body_at, replaced, is_named, mentions, stands_at, header_macros, breaks_order, changes, included, sizes, placed}
use Rattle.k_lex.specs.declared.lines.Mode.{Mode}
use Rattle.k_lex.specs.declared.lines.Mode.TheVariants as m
use Rattle.k_lex.specs.Lines
use Rattle.k_lex.specs.Lines.{State, step_in, token_of}
use Rattle.k_lex.specs.Tokens.{first_place}

-- a mode without its places
abbrev pub unplaced_mode : Mode → Mode
unplaced_mode m.Start = m.Start
unplaced_mode m.Middle = m.Middle
unplaced_mode (m.Hash hash) = m.Hash first_place
unplaced_mode (m.Define hash) = m.Define first_place
unplaced_mode (m.Body at) = m.Body first_place
unplaced_mode (m.Again a) = m.Again (record { name = first_place; number = a.number; at = a.at })
unplaced_mode (m.Include hash) = m.Include first_place
unplaced_mode (m.Header d) = m.Header (record { hash = first_place; name = first_place; header = d.header })
unplaced_mode m.Pragma = m.Pragma

-- a token without its place
abbrev pub unplaced_token : Token → Token
unplaced_token token = record { what = token.what; place = first_place }

-- what has been read, without places
abbrev pub unplaced : State → State
unplaced s = record {
  limits = s.limits;
  mode = unplaced_mode s.mode;
  name = s.name;
  body = s.body;
  macros = s.macros;
  tokens = map unplaced_token s.tokens;
  spelled = s.spelled;
}

-- the value of a result, if there is one
abbrev pub if_ok : {X : Type 0} → Result X Fault → Option X
if_ok (Ok x) = Some x
if_ok (Err f) = None

-- what has been read without places, unless there is a fault
abbrev pub seen : Result State Fault → Option State
seen (Ok s) = Some (unplaced s)
seen (Err f) = None

-- the second is the first without places
abbrev pub Agree : Result State Fault → Result State Fault → Type 0
Agree a b = seen a ≡ if_ok b

-- ---- tests and steps one behind another

agree_by : (b c : Bool) (x y u v : Result State Fault) → c ≡ b → Agree x u → Agree y v → Agree (if b then x else y) (if c then u else v)
agree_by b c x y u v e first second = subst (λ (d : Bool). Agree (if b then x else y) (if d then u else v)) (sym e) (one b first second)
  where
    one : (b : Bool) → Agree x u → Agree y v → Agree (if b then x else y) (if b then u else v)
    one true first second = first
    one false first second = second

agree_if : (b : Bool) (x y u v : Result State Fault) → Agree x u → Agree y v → Agree (if b then x else y) (if b then u else v)
agree_if b x y u v = agree_by b b x y u v refl

agree_bind : {X : Type 0} (g h : Result X Fault) (f k : X → Result State Fault) → if_ok g ≡ if_ok h → ((x : X) → Agree (f x) (k x)) → Agree (g >>= f) (h >>= k)
agree_bind (Ok x) (Ok y) f k e next = subst (λ z. Agree (f x) (k z)) (same_Some x y e) (next x)
agree_bind (Ok x) (Err y) f k e next = absurd (none-some x (sym e))
agree_bind (Err x) (Ok y) f k e next = absurd (none-some y e)
agree_bind (Err x) (Err y) f k e next = refl

agree_then : (g h : Result State Fault) (f k : State → Result State Fault) → Agree g h → ((s : State) → Agree (f s) (k (unplaced s))) → Agree (g >>= f) (h >>= k)
agree_then (Ok x) (Ok y) f k e next = subst (λ z. Agree (f x) (k z)) (same_Some (unplaced x) y e) (next x)
agree_then (Ok x) (Err y) f k e next = absurd (none-some (unplaced x) (sym e))
agree_then (Err x) (Ok y) f k e next = absurd (none-some y e)
agree_then (Err x) (Err y) f k e next = refl

ok_if : {X : Type 0} (b : Bool) (x y u v : Result X Fault) → if_ok x ≡ if_ok u → if_ok y ≡ if_ok v → if_ok (if b then x else y) ≡ if_ok (if b then u else v)
ok_if true x y u v first second = first
ok_if false x y u v first second = second

ok_bind : {X Y : Type 0} (g h : Result X Fault) (f k : X → Result Y Fault) → if_ok g ≡ if_ok h → ((x : X) → if_ok (f x) ≡ if_ok (k x)) → if_ok (g >>= f) ≡ if_ok (h >>= k)
ok_bind (Ok x) (Ok y) f k e next = next x ∙ ap (λ z. if_ok (k z)) (same_Some x y e)
ok_bind (Ok x) (Err y) f k e next = absurd (none-some x (sym e))
ok_bind (Err x) (Ok y) f k e next = absurd (none-some y e)
ok_bind (Err x) (Err y) f k e next = refl

-- ---- a token

byte_ok : (a b : Place) (v : Option ℕ) → if_ok (byte_or_fault a v) ≡ if_ok (byte_or_fault b v)
byte_ok a b None = refl
byte_ok a b (Some v) = refl

item_ok : (a b : Place) (text : List ℕ) → if_ok (item_at a text) ≡ if_ok (item_at b text)
item_ok a b [] = refl
item_ok a b (x ∷ xs) = ok_if (eqb x 92) (byte_or_fault a (in_byte (escape_value xs))) (Ok x) (byte_or_fault b (in_byte (escape_value xs))) (Ok x) (byte_ok a b (in_byte (escape_value xs))) refl

content_ok : (a b : Place) (skip : ℕ) (text : List ℕ) → if_ok (content a skip text) ≡ if_ok (content b skip text)
content_ok a b skip [] = refl
content_ok a b (suc skip) (x ∷ xs) = content_ok (after a x) (after b x) skip xs
content_ok a b zero (x ∷ xs) =
    let n = item_length (x ∷ xs) - 1 in
    ok_bind (item_at a (x ∷ xs)) (item_at b (x ∷ xs)) (λ v. content (after a x) n xs >>= λ vs. Ok (v ∷ vs)) (λ v. content (after b x) n xs >>= λ vs. Ok (v ∷ vs)) (item_ok a b (x ∷ xs))
    (λ v. ok_bind (content (after a x) n xs) (content (after b x) n xs) (λ vs. Ok (v ∷ vs)) (λ vs. Ok (v ∷ vs)) (content_ok (after a x) (after b x) n xs) (λ vs. refl))

character_ok : (a b : Place) (text : List ℕ) → if_ok (character_of a text) ≡ if_ok (character_of b text)
character_ok a b text =
    ok_if (begins_high text) (refused r.BadByte a) (item_at a text >>= λ v. Ok (as_char v)) (refused r.BadByte b) (item_at b text >>= λ v. Ok (as_char v)) refl
    (ok_bind (item_at a text) (item_at b text) (λ v. Ok (as_char v)) (λ v. Ok (as_char v)) (item_ok a b text) (λ v. refl))

number_ok : (a b : Place) (number : Option (Kind × ℕ)) → if_ok (Lines.number_token a number) ≡ if_ok (Lines.number_token b number)
number_ok a b None = refl
number_ok a b (Some n) = refl

token_ok : (a b : Place) (s : List ℕ) (piece : Piece) → if_ok (token_of a s piece) ≡ if_ok (token_of b s piece)
token_ok a b s p.Name = refl
token_ok a b s p.Number = number_ok a b (number_of s)
token_ok a b s p.Character =
    ok_bind (character_of (after a 39) (inside s)) (character_of (after b 39) (inside s)) (λ c. Ok (t.Char c)) (λ c. Ok (t.Char c)) (character_ok (after a 39) (after b 39) (inside s)) (λ c. refl)
token_ok a b s p.Str =
    ok_bind (content (after a 34) 0 (inside s)) (content (after b 34) 0 (inside s)) (λ bytes. Ok (t.Str bytes)) (λ bytes. Ok (t.Str bytes)) (content_ok (after a 34) (after b 34) 0 (inside s)) (λ bytes. refl)
token_ok a b s (p.Mark mark) = refl
token_ok a b s p.OpenComment = refl
token_ok a b s p.OpenLiteral = refl
token_ok a b s p.Blank = refl
token_ok a b s p.Comment = refl
token_ok a b s p.Newline = refl
token_ok a b s p.Header = refl
token_ok a b s p.Unknown = refl

-- ---- a piece of a line of text

room_same : (s : State) (count bytes : ℕ) → Lines.has_room (unplaced s) count bytes ≡ Lines.has_room s count bytes
room_same s count bytes = ap (λ n. leb (n + count) s.limits.tokens && leb (s.spelled + bytes) s.limits.spelling) (length-map s.tokens unplaced_token)

placed_same : (place : Place) (xs : List Lexeme) → map unplaced_token (map (placed place) xs) ≡ map (placed first_place) xs
placed_same place [] = refl
placed_same place (x ∷ xs) = ap (λ (ts : List Token). placed first_place x ∷ ts) (placed_same place xs)

tokens_same : (place : Place) (old : List Token) (xs : List Lexeme) → map unplaced_token (old ++ map (placed place) xs) ≡ map unplaced_token old ++ map (placed first_place) xs
tokens_same place [] xs = placed_same place xs
tokens_same place (o ∷ old) xs = ap (λ (ts : List Token). unplaced_token o ∷ ts) (tokens_same place old xs)

add_agrees : (place : Place) (xs : List Lexeme) (s : State) → Agree (Lines.add place xs s) (Lines.add first_place xs (unplaced s))
add_agrees place xs s =
    agree_by (Lines.has_room s (length xs) (sizes xs)) (Lines.has_room (unplaced s) (length xs) (sizes xs))
    (Ok (record s { mode = m.Middle; tokens = s.tokens ++ map (placed place) xs; spelled = s.spelled + sizes xs })) (refused r.TokensMany place)
    (Ok (record (unplaced s) { mode = m.Middle; tokens = map unplaced_token s.tokens ++ map (placed first_place) xs; spelled = s.spelled + sizes xs })) (refused r.TokensMany first_place)
    (room_same s (length xs) (sizes xs))
    (ap (λ (ts : List Token). Some (record (unplaced s) { mode = m.Middle; tokens = ts; spelled = s.spelled + sizes xs })) (tokens_same place s.tokens xs)) refl

in_line_agrees : (place : Place) (s : List ℕ) (piece : Piece) (old : State) → Agree (Lines.token_in_text place s piece old) (Lines.token_in_text first_place s piece (unplaced old))
in_line_agrees place s piece old =
    agree_by (Lines.is_literal piece && not (Lines.has_room old 1 (length s))) (Lines.is_literal piece && not (Lines.has_room (unplaced old) 1 (length s)))
    (refused r.TokensMany place) (token_of place s piece >>= λ what. Lines.add place (replaced old.macros (lexeme what (length s))) old)
    (refused r.TokensMany first_place) (token_of first_place s piece >>= λ what. Lines.add first_place (replaced old.macros (lexeme what (length s))) (unplaced old))
    (ap (λ b. Lines.is_literal piece && not b) (room_same old 1 (length s))) refl
    (agree_bind (token_of place s piece) (token_of first_place s piece) (λ what. Lines.add place (replaced old.macros (lexeme what (length s))) old)
    (λ what. Lines.add first_place (replaced old.macros (lexeme what (length s))) (unplaced old)) (token_ok place first_place s piece)
    (λ what. add_agrees place (replaced old.macros (lexeme what (length s))) old))

text_agrees : (place : Place) (s : List ℕ) (piece : Piece) (old : State) → Agree (Lines.in_text place s piece old) (Lines.in_text first_place s piece (unplaced old))
text_agrees place s p.Blank old = refl
text_agrees place s p.Comment old = refl
text_agrees place s p.Newline old = refl
text_agrees place s p.Name old = in_line_agrees place s p.Name old
text_agrees place s p.Number old = in_line_agrees place s p.Number old
text_agrees place s p.Character old = in_line_agrees place s p.Character old
text_agrees place s p.Str old = in_line_agrees place s p.Str old
text_agrees place s (p.Mark mark) old = in_line_agrees place s (p.Mark mark) old
text_agrees place s p.Header old = in_line_agrees place s p.Header old
text_agrees place s p.OpenComment old = in_line_agrees place s p.OpenComment old
text_agrees place s p.OpenLiteral old = in_line_agrees place s p.OpenLiteral old
text_agrees place s p.Unknown old = in_line_agrees place s p.Unknown old

start_agrees : (place : Place) (s : List ℕ) (piece : Piece) (old : State) → Agree (Lines.in_start place s piece old) (Lines.in_start first_place s piece (unplaced old))
start_agrees place s piece old =
    agree_if (same s (codes "#")) (Ok (Lines.in_mode (m.Hash place) old)) (Lines.in_text place s piece old)
    (Ok (Lines.in_mode (m.Hash first_place) (unplaced old))) (Lines.in_text first_place s piece (unplaced old)) refl (text_agrees place s piece old)

-- ---- a piece of a directive

directive_agrees : (hash : Place) (s : List ℕ) (old : State)
    → Agree (Lines.directive hash (Lines.directive_mode hash s) old) (Lines.directive first_place (Lines.directive_mode first_place s) (unplaced old))
directive_agrees hash s old = by (same s (codes "define")) (same s (codes "include")) (same s (codes "pragma"))
  where
    by : (a b c : Bool) → Agree (Lines.directive hash (if a then Some (m.Define hash) else (if b then Some (m.Include hash) else (if c then Some m.Pragma else None))) old)
        (Lines.directive first_place (if a then Some (m.Define first_place) else (if b then Some (m.Include first_place) else (if c then Some m.Pragma else None))) (unplaced old))
    by true b c = refl
    by false true c = refl
    by false false true = refl
    by false false false = refl

hash_agrees : (hash : Place) (s : List ℕ) (piece : Piece) (old : State) → Agree (Lines.in_hash hash s piece old) (Lines.in_hash first_place s piece (unplaced old))
hash_agrees hash s p.Blank old = refl
hash_agrees hash s p.Comment old = refl
hash_agrees hash s p.Newline old = refl
hash_agrees hash s p.Name old = directive_agrees hash s old
hash_agrees hash s p.Number old = refl
hash_agrees hash s p.Character old = refl
hash_agrees hash s p.Str old = refl
hash_agrees hash s (p.Mark mark) old = refl
hash_agrees hash s p.Header old = refl
hash_agrees hash s p.OpenComment old = refl
hash_agrees hash s p.OpenLiteral old = refl
hash_agrees hash s p.Unknown old = refl

named_agrees : (place : Place) (s : List ℕ) (number : Option ℕ) (old : State) → Agree (Lines.named place s number old) (Lines.named first_place s number (unplaced old))
named_agrees place s (Some number) old = refl
named_agrees place s None old =
    agree_if (mentions old.macros s) (refused r.MacroOrder place) (Ok (record old { mode = m.Body place; name = s; body = [] }))
    (refused r.MacroOrder first_place) (Ok (record (unplaced old) { mode = m.Body first_place; name = s; body = [] })) refl refl

define_agrees : (hash place : Place) (s rest more : List ℕ) (piece : Piece) (old : State) → begins (codes "(") more ≡ begins (codes "(") rest
    → Agree (Lines.in_define hash place s rest piece old) (Lines.in_define first_place first_place s more piece (unplaced old))
define_agrees hash place s rest more p.Blank old e = refl
define_agrees hash place s rest more p.Comment old e = refl
define_agrees hash place s rest more p.Name old e =
    agree_by (is_some (word_of s) || begins (codes "(") rest) (is_some (word_of s) || begins (codes "(") more)
    (refused r.BadDirective hash) (Lines.named place s (find old.macros s) old) (refused r.BadDirective first_place) (Lines.named first_place s (find old.macros s) (unplaced old))
    (ap (λ b. is_some (word_of s) || b) e) refl (named_agrees place s (find old.macros s) old)
define_agrees hash place s rest more p.Newline old e = refl
define_agrees hash place s rest more p.Number old e = refl
define_agrees hash place s rest more p.Character old e = refl
define_agrees hash place s rest more p.Str old e = refl
define_agrees hash place s rest more (p.Mark mark) old e = refl
define_agrees hash place s rest more p.Header old e = refl
define_agrees hash place s rest more p.OpenComment old e = refl
define_agrees hash place s rest more p.OpenLiteral old e = refl
define_agrees hash place s rest more p.Unknown old e = refl

body_token_agrees : (at place : Place) (s : List ℕ) (piece : Piece) (old : State) → Agree (Lines.body_token at place s piece old) (Lines.body_token first_place first_place s piece (unplaced old))
body_token_agrees at place s piece old =
    agree_bind (token_of place s piece) (token_of first_place s piece)
    (λ what. if is_named old.name what then refused r.MacroOrder at else Ok (record old { body = old.body ++ lexeme what (length s) ∷ [] }))
    (λ what. if is_named old.name what then refused r.MacroOrder first_place else Ok (record (unplaced old) { body = old.body ++ lexeme what (length s) ∷ [] }))
    (token_ok place first_place s piece)
    (λ what. agree_if (is_named old.name what) (refused r.MacroOrder at) (Ok (record old { body = old.body ++ lexeme what (length s) ∷ [] }))
    (refused r.MacroOrder first_place) (Ok (record (unplaced old) { body = old.body ++ lexeme what (length s) ∷ [] })) refl refl)

body_agrees : (at place : Place) (s : List ℕ) (piece : Piece) (old : State) → Agree (Lines.in_body at place s piece old) (Lines.in_body first_place first_place s piece (unplaced old))
body_agrees at place s p.Blank old = refl
body_agrees at place s p.Comment old = refl
body_agrees at place s p.Newline old = refl
body_agrees at place s p.Name old = body_token_agrees at place s p.Name old
body_agrees at place s p.Number old = body_token_agrees at place s p.Number old
body_agrees at place s p.Character old = body_token_agrees at place s p.Character old
body_agrees at place s p.Str old = body_token_agrees at place s p.Str old
body_agrees at place s (p.Mark mark) old = body_token_agrees at place s (p.Mark mark) old
body_agrees at place s p.Header old = body_token_agrees at place s p.Header old
body_agrees at place s p.OpenComment old = body_token_agrees at place s p.OpenComment old
body_agrees at place s p.OpenLiteral old = body_token_agrees at place s p.OpenLiteral old
body_agrees at place s p.Unknown old = body_token_agrees at place s p.Unknown old

again_token_agrees : (at : Place) (number count : ℕ) (place : Place) (s : List ℕ) (piece : Piece) (old : State)
    → Agree (Lines.again_token at number count place s piece old) (Lines.again_token first_place number count first_place s piece (unplaced old))
again_token_agrees at number count place s piece old =
    let further = λ (from : Place) (state : State). Lines.in_mode (m.Again (record { name = from; number = number; at = count + 1 })) state in
    agree_bind (token_of place s piece) (token_of first_place s piece)
    (λ what. if stands_at (body_at old.macros number) count what then Ok (further at old) else refused r.MacroAgain at)
    (λ what. if stands_at (body_at old.macros number) count what then Ok (further first_place (unplaced old)) else refused r.MacroAgain first_place)
    (token_ok place first_place s piece)
    (λ what. agree_if (stands_at (body_at old.macros number) count what) (Ok (further at old)) (refused r.MacroAgain at)
    (Ok (further first_place (unplaced old))) (refused r.MacroAgain first_place) refl refl)

again_agrees : (at : Place) (number count : ℕ) (place : Place) (s : List ℕ) (piece : Piece) (old : State)
    → Agree (Lines.in_again at number count place s piece old) (Lines.in_again first_place number count first_place s piece (unplaced old))
again_agrees at number count place s p.Blank old = refl
again_agrees at number count place s p.Comment old = refl
again_agrees at number count place s p.Newline old =
    agree_if (eqb (length (body_at old.macros number)) count) (Ok (Lines.in_mode m.Start old)) (refused r.MacroAgain at)
    (Ok (Lines.in_mode m.Start (unplaced old))) (refused r.MacroAgain first_place) refl refl
again_agrees at number count place s p.Name old = again_token_agrees at number count place s p.Name old
again_agrees at number count place s p.Number old = again_token_agrees at number count place s p.Number old
again_agrees at number count place s p.Character old = again_token_agrees at number count place s p.Character old
again_agrees at number count place s p.Str old = again_token_agrees at number count place s p.Str old
again_agrees at number count place s (p.Mark mark) old = again_token_agrees at number count place s (p.Mark mark) old
again_agrees at number count place s p.Header old = again_token_agrees at number count place s p.Header old
again_agrees at number count place s p.OpenComment old = again_token_agrees at number count place s p.OpenComment old
again_agrees at number count place s p.OpenLiteral old = again_token_agrees at number count place s p.OpenLiteral old
again_agrees at number count place s p.Unknown old = again_token_agrees at number count place s p.Unknown old

none_agrees : (hash place : Place) (s : List ℕ)
    → Agree (if begins (codes "<") s || begins (codes "\"") s then refused r.UnknownHeader place else refused r.BadDirective hash)
    (if begins (codes "<") s || begins (codes "\"") s then refused r.UnknownHeader first_place else refused r.BadDirective first_place)
none_agrees hash place s = agree_if (begins (codes "<") s || begins (codes "\"") s) (refused r.UnknownHeader place) (refused r.BadDirective hash)
    (refused r.UnknownHeader first_place) (refused r.BadDirective first_place) refl refl

include_line_agrees : (hash place : Place) (s : List ℕ) (piece : Piece) (old : State) → Agree (Lines.in_include hash place s piece old) (Lines.in_include first_place first_place s piece (unplaced old))
include_line_agrees hash place s p.Blank old = refl
include_line_agrees hash place s p.Comment old = refl
include_line_agrees hash place s p.Header old = refl
include_line_agrees hash place s p.Newline old = none_agrees hash place s
include_line_agrees hash place s p.Name old = none_agrees hash place s
include_line_agrees hash place s p.Number old = none_agrees hash place s
include_line_agrees hash place s p.Character old = none_agrees hash place s
include_line_agrees hash place s p.Str old = none_agrees hash place s
include_line_agrees hash place s (p.Mark mark) old = none_agrees hash place s
include_line_agrees hash place s p.OpenComment old = none_agrees hash place s
include_line_agrees hash place s p.OpenLiteral old = none_agrees hash place s
include_line_agrees hash place s p.Unknown old = none_agrees hash place s

include_agrees : (at : Place) (header : Option Header) (old : State) → Agree (Lines.include at header old) (Lines.include first_place header (unplaced old))
include_agrees at None old = refl
include_agrees at (Some header) old =
    let taken = λ (state : State). record state { macros = included old.macros (header_macros header) } in
    agree_if (breaks_order old.macros (header_macros header)) (refused r.MacroOrder at)
    (if changes old.macros (header_macros header) then refused r.MacroAgain at else Ok (taken old)) (refused r.MacroOrder first_place)
    (if changes old.macros (header_macros header) then refused r.MacroAgain first_place else Ok (taken (unplaced old))) refl
    (agree_if (changes old.macros (header_macros header)) (refused r.MacroAgain at) (Ok (taken old)) (refused r.MacroAgain first_place) (Ok (taken (unplaced old))) refl refl)

header_agrees : (hash at : Place) (header : Option Header) (place : Place) (piece : Piece) (old : State)
    → Agree (Lines.in_header hash at header place piece old) (Lines.in_header first_place first_place header first_place piece (unplaced old))
header_agrees hash at header place p.Blank old = refl
header_agrees hash at header place p.Comment old = refl
header_agrees hash at header place p.Newline old =
    agree_then (Lines.include at header old) (Lines.include first_place header (unplaced old)) (λ new. Ok (Lines.in_mode m.Start new)) (λ new. Ok (Lines.in_mode m.Start new)) (include_agrees at header old) (λ new. refl)
header_agrees hash at header place p.OpenComment old =
    agree_then (Lines.include at header old) (Lines.include first_place header (unplaced old)) (λ new. refused r.OpenComment place) (λ new. refused r.OpenComment first_place) (include_agrees at header old) (λ new. refl)
header_agrees hash at header place p.OpenLiteral old =
    agree_then (Lines.include at header old) (Lines.include first_place header (unplaced old)) (λ new. refused r.OpenLiteral place) (λ new. refused r.OpenLiteral first_place) (include_agrees at header old) (λ new. refl)
header_agrees hash at header place p.Unknown old =
    agree_then (Lines.include at header old) (Lines.include first_place header (unplaced old)) (λ new. refused r.BadByte place) (λ new. refused r.BadByte first_place) (include_agrees at header old) (λ new. refl)
header_agrees hash at header place p.Name old = refl
header_agrees hash at header place p.Number old = refl
header_agrees hash at header place p.Character old = refl
header_agrees hash at header place p.Str old = refl
header_agrees hash at header place (p.Mark mark) old = refl
header_agrees hash at header place p.Header old = refl

pragma_agrees : (place : Place) (piece : Piece) (old : State) → Agree (Lines.in_pragma place piece old) (Lines.in_pragma first_place piece (unplaced old))
pragma_agrees place p.Newline old = refl
pragma_agrees place p.OpenComment old = refl
pragma_agrees place p.Blank old = refl
pragma_agrees place p.Comment old = refl
pragma_agrees place p.Name old = refl
pragma_agrees place p.Number old = refl
pragma_agrees place p.Character old = refl
pragma_agrees place p.Str old = refl
pragma_agrees place (p.Mark mark) old = refl
pragma_agrees place p.Header old = refl
pragma_agrees place p.OpenLiteral old = refl
pragma_agrees place p.Unknown old = refl

-- ---- any piece

-- behind `#define` what stands behind the name has to begin alike
abbrev pub Alike : Mode → List ℕ → List ℕ → Type 0
Alike (m.Define hash) rest more = begins (codes "(") more ≡ begins (codes "(") rest
Alike _ rest more = Unit {0}

-- A PIECE DOES THE SAME without places, whatever stands behind it, but for a `(` behind a name that is defined.
pub step_agrees : (mode : Mode) (place : Place) (s rest more : List ℕ) (piece : Piece) (old : State) → Alike mode rest more
    → Agree (step_in mode place s rest piece old) (step_in (unplaced_mode mode) first_place s more piece (unplaced old))
step_agrees m.Start place s rest more piece old e = start_agrees place s piece old
step_agrees m.Middle place s rest more piece old e = text_agrees place s piece old
step_agrees (m.Hash hash) place s rest more piece old e = hash_agrees hash s piece old
step_agrees (m.Define hash) place s rest more piece old e = define_agrees hash place s rest more piece old e
step_agrees (m.Body at) place s rest more piece old e = body_agrees at place s piece old
step_agrees (m.Again a) place s rest more piece old e = again_agrees a.name a.number a.at place s piece old
step_agrees (m.Include hash) place s rest more piece old e = include_line_agrees hash place s piece old
step_agrees (m.Header d) place s rest more piece old e = header_agrees d.hash d.name d.header place piece old
step_agrees m.Pragma place s rest more piece old e = pragma_agrees place piece old
