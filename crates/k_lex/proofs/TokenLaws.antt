-- What is true of each token that a source gives: it is no end, its kind holds its number, it is no keyword where it is a name, its string is no longer
-- than its spelling, and it stands among the places of a source.
use Rattle.std.proofs.Common.{◌≡◌, ◌≢◌, ℕ, zero, suc, ◌+◌, ◌-◌, ◌≤◌, sum, Bool, true, false, ◌&&◌, ◌||◌, not, nat_lt, eqb, if◌then◌else◌, List, [], ◌∷◌, ◌++◌, Option, Some, None, Result, Ok, Err, length, map, take, drop, codes, rules, arith, refl, ap, ◌∙◌, subst, is_none, is_some}
use Rattle.std.specs.Prelude.{IfOk, IfSome, IsTrue, pos, nat_le}
use Rattle.std.proofs.lemmas.Result.{IfOk-at_ok}
use Rattle.std.specs.List.{flat_map, All, AllByRecursion}
use Rattle.std.proofs.lemmas.Bool.Decides.{nat_tests}
use Rattle.std.proofs.lemmas.List.{length-append, length-take, length-drop}
use Rattle.std.proofs.lemmas.Int.{ints}
use Rattle.std.proofs.lemmas.List.Elements.{All-from_recursion}
use Rattle.std.proofs.lemmas.List.Sums.{sum_by-cons}
use Rattle.k_num.specs.declared.place.Place.{Place}
use Rattle.k_num.specs.declared.numbers.Kind.{Kind}
use Rattle.k_num.specs.declared.numbers.Kind.TheVariants.{I8, U8, I16, U16, I32, U32, I64, U64}
use Rattle.k_num.specs.Kind.{is_held}
use Rattle.k_tree.specs.declared.tokens.Token.{Token}
use Rattle.k_tree.specs.declared.tokens.TokenKind.{TokenKind}
use Rattle.k_tree.specs.declared.tokens.TokenKind.TheVariants as t
use Rattle.k_tree.specs.declared.tokens.word.Word.{Word}
use Rattle.k_lex_pieces.specs.declared.fault.Fault.{Fault}
use Rattle.k_lex_pieces.specs.declared.fault.Refusal.TheVariants as r
use Rattle.k_lex_pieces.specs.declared.pieces.Piece.{Piece}
use Rattle.k_lex_pieces.specs.declared.pieces.Piece.TheVariants as p
use Rattle.k_lex.specs.declared.lines.Mode.{Mode}
use Rattle.k_lex.specs.declared.lines.Mode.TheVariants as m
use Rattle.k_lex_macros.specs.declared.macros.Lexeme.{Lexeme}
use Rattle.k_lex_macros.specs.declared.headers.Header.{Header}
use Rattle.k_lex_macros.specs.declared.headers.Header.TheVariants as h
use Rattle.k_lex_pieces.specs.Bytes.{is_digit, is_octal, is_hexadecimal, span, look_up, same, begins, after}
use Rattle.k_lex_pieces.specs.Words.{word_of}
use Rattle.k_lex_pieces.specs.Numbers
use Rattle.k_lex_pieces.specs.Numbers.{number_of}
use Rattle.k_lex_pieces.specs.Marks.{mark_of}
use Rattle.k_lex_pieces.specs.Pieces.{class_in_include, class_in_pragma, class_of, is_blank_piece, is_character, is_comment, is_header, is_known, is_name, is_number, is_string, item_length, longest, mark_piece, piece_by, piece_of_length}
use Rattle.k_tree.specs.declared.tokens.mark.Mark.{Mark}
use Rattle.k_lex_pieces.specs.Literals.{content, item_at, inside, character_of}
use Rattle.k_lex_macros.specs.Macros.{Macro, lexeme, find, full_at, full_or, used, replaced_by, fulls_from, fulls, replaced, is_named, mentions, body_at, stands_at, header_macros, breaks_order, changes, included, sizes, placed}
use Rattle.k_lex.specs.Lines
use Rattle.k_lex.specs.Lines.{State, step_in}
use Rattle.k_lex_pieces.specs.Outcome.{◌>>=◌, refused}
use Rattle.k_lex.specs.Tokens.{piece_in, turn, run, join_kinds, join, joined, first_place, nothing_read, tokens_within, limits, tokens}
use Rattle.k_tree.specs.Closed.{EndsOnce}
use Rattle.k_tree.specs.Literals.{string_bytes, NumberIsHeld}
use Rattle.k_lex.proofs.Outcomes.{Each, each_append, each_one_more, either_way, cond_ok, when_ok, bind_ok, bind_any, answered, turn_ok}
use Rattle.k_lex.specs.Laws.{IsInside, IsNamed, IsRightKind, IsRightToken, kinds_of, most_place, EachListEndsOnce, EachNumberIsHeld, EachTokenIsRight, StringsAreWithinLimit}

-- ---- kinds, and lists of them

-- the kind is not the end, a number is held, and a name is one
abbrev IsInner : TokenKind → Type 0
IsInner t.End = ⊥
IsInner (t.Name name) = IsNamed name
IsInner (t.Word word) = Unit {0}
IsInner (t.Number kind value) = IsTrue (is_held kind (pos value))
IsInner (t.Char value) = Unit {0}
IsInner (t.Str bytes) = Unit {0}
IsInner (t.Mark mark) = Unit {0}

inner_differs : (what : TokenKind) → IsInner what → what ≢ t.End
inner_differs what inner e = subst IsInner e inner

inner_held : (what : TokenKind) → IsInner what → NumberIsHeld what
inner_held t.End inner = absurd inner
inner_held (t.Name name) inner = tt
inner_held (t.Word word) inner = tt
inner_held (t.Number kind value) inner = inner
inner_held (t.Char value) inner = tt
inner_held (t.Str bytes) inner = tt
inner_held (t.Mark mark) inner = tt

-- a kind, and how many bytes spell it, which are no fewer than those of its string
abbrev IsSpelled : ℕ → TokenKind → Type 0
IsSpelled size what = IsInner what × (string_bytes what ≤ size)

-- a token of a body
abbrev IsInnerLexeme : Lexeme → Type 0
IsInnerLexeme x = IsSpelled x.size x.what

-- a token of a source
abbrev IsInnerToken : Token → Type 0
IsInnerToken x = IsInner x.what × IsInside x.place

-- the tokens of a body, or those that it is replaced by
abbrev AreInner : List Lexeme → Type 0
AreInner xs = Each IsInnerLexeme xs

-- a macro's body
abbrev HasInnerBody : Macro → Type 0
HasInnerBody macro = AreInner macro.1

-- ---- macros

flat_map_inner : (f : Lexeme → List Lexeme) (xs : List Lexeme) → ((x : Lexeme) → IsInnerLexeme x → AreInner (f x)) → AreInner xs → AreInner (flat_map f xs)
flat_map_inner f [] each inner = tt
flat_map_inner f (x ∷ xs) each inner = each_append IsInnerLexeme (f x) (flat_map f xs) (each x inner.0) (flat_map_inner f xs each inner.1)

full_at_inner : (lists : List (List Lexeme)) (k : ℕ) → Each AreInner lists → AreInner (full_at lists k)
full_at_inner [] k inner = tt
full_at_inner (xs ∷ lists) zero inner = inner.0
full_at_inner (xs ∷ lists) (suc k) inner = full_at_inner lists k inner.1

full_or_inner : (lists : List (List Lexeme)) (x : Lexeme) (number : Option ℕ) → Each AreInner lists → IsInnerLexeme x → AreInner (full_or lists x number)
full_or_inner lists x None lists_inner inner = (inner, tt)
full_or_inner lists x (Some k) lists_inner inner = full_at_inner lists k lists_inner

replaced_by_inner : (table : List Macro) (lists : List (List Lexeme)) (x : Lexeme) → Each AreInner lists → IsInnerLexeme x → AreInner (replaced_by table lists x)
replaced_by_inner table lists x lists_inner inner = full_or_inner lists x (used table x.what) lists_inner inner

fulls_from_inner : (seen : List Macro) (lists : List (List Lexeme)) (macros : List Macro) → Each AreInner lists → Each HasInnerBody macros → Each AreInner (fulls_from seen lists macros)
fulls_from_inner seen lists [] lists_inner inner = lists_inner
fulls_from_inner seen lists (macro ∷ macros) lists_inner inner =
    let full = flat_map (replaced_by seen lists) macro.1 in
    let full_inner = flat_map_inner (replaced_by seen lists) macro.1 (λ x one. replaced_by_inner seen lists x lists_inner one) inner.0 in
    fulls_from_inner (seen ++ macro ∷ []) (lists ++ full ∷ []) macros (each_one_more AreInner lists full lists_inner full_inner) inner.1

fulls_inner : (table : List Macro) → Each HasInnerBody table → Each AreInner (fulls table)
unfolding fulls
fulls_inner table inner = fulls_from_inner [] [] table tt inner

replaced_inner : (table : List Macro) (x : Lexeme) → Each HasInnerBody table → IsInnerLexeme x → AreInner (replaced table x)
replaced_inner table x table_inner inner = replaced_by_inner table (fulls table) x (fulls_inner table table_inner) inner

header_macros_inner : (header : Header) → Each HasInnerBody (header_macros header)
header_macros_inner h.Stdio = search rules
header_macros_inner h.Stdlib = search rules
header_macros_inner h.Stddef = search rules
header_macros_inner h.Limits = search rules

included_inner : (table macros : List Macro) → Each HasInnerBody table → Each HasInnerBody macros → Each HasInnerBody (included table macros)
included_inner table [] table_inner inner = table_inner
included_inner table (macro ∷ macros) table_inner inner =
    let more = table ++ (macro.0, macro.1) ∷ [] in
    either_way (Each HasInnerBody) (is_none (find table macro.0)) (included more macros) (included table macros)
    (included_inner more macros (each_one_more HasInnerBody table (macro.0, macro.1) table_inner inner.0) inner.1)
    (included_inner table macros table_inner inner.1)

-- ---- the token that a piece is

-- the kind holds the number
abbrev IsHeldPair : Kind × ℕ → Type 0
IsHeldPair n = IsTrue (is_held n.0 (pos n.1))

kind_holds : (kind : Kind) (v : ℕ) → nat_le v (Numbers.greatest kind) ≡ true → IsTrue (is_held kind (pos v))
kind_holds I8 v e = grind (arith, ints, nat_tests)
kind_holds U8 v e = grind (arith, ints, nat_tests)
kind_holds I16 v e = grind (arith, ints, nat_tests)
kind_holds U16 v e = grind (arith, ints, nat_tests)
kind_holds I32 v e = grind (arith, ints, nat_tests)
kind_holds U32 v e = grind (arith, ints, nat_tests)
kind_holds I64 v e = grind (arith, ints, nat_tests)
kind_holds U64 v e = grind (arith, ints, nat_tests)

some_if : {X : Type 0} (P : X → Type 0) (b : Bool) (x y : Option X) → (b ≡ true → IfSome x P) → IfSome y P → IfSome (if b then x else y) P
some_if P true x y first second = first refl
some_if P false x y first second = second

first_kind_held : (kinds : List Kind) (v : ℕ) → IfSome (Numbers.first_kind kinds v) IsHeldPair
first_kind_held [] v = tt
first_kind_held (kind ∷ kinds) v = some_if IsHeldPair (nat_le v (Numbers.greatest kind)) (Some (kind, v)) (Numbers.first_kind kinds v) (kind_holds kind v) (first_kind_held kinds v)

with_suffix_held : (decimal : Bool) (v : ℕ) (suffix : Option (Bool × Bool)) → IfSome (Numbers.with_suffix decimal v suffix) IsHeldPair
with_suffix_held decimal v None = tt
with_suffix_held decimal v (Some suffix) = first_kind_held (Numbers.kinds decimal suffix) v

constant_held : (base n : ℕ) (text : List ℕ) → IfSome (Numbers.constant base n text) IsHeldPair
constant_held base n text =
    let decimal = eqb base 10 in
    let v = Numbers.value base 0 (take n text) in
    some_if IsHeldPair (eqb n 0) None (Numbers.with_suffix decimal v (look_up Numbers.suffixes (drop n text))) (λ e. tt)
    (with_suffix_held decimal v (look_up Numbers.suffixes (drop n text)))

number_held : (s : List ℕ) → IfSome (number_of s) IsHeldPair
number_held s =
    let hexadecimal = Numbers.constant 16 (span is_hexadecimal (drop 2 s)) (drop 2 s) in
    let octal = Numbers.constant 8 (span is_octal s) s in
    let decimal = Numbers.constant 10 (span is_digit s) s in
    some_if IsHeldPair (begins (codes "0x") s || begins (codes "0X") s) hexadecimal (if begins (codes "0") s then octal else decimal)
    (λ e. constant_held 16 (span is_hexadecimal (drop 2 s)) (drop 2 s))
    (some_if IsHeldPair (begins (codes "0") s) octal decimal (λ e. constant_held 8 (span is_octal s) s) (constant_held 10 (span is_digit s) s))

-- the bytes of a text's characters and escapes are no more than the text's
abbrev IsNoLonger : List ℕ → List ℕ → Type 0
IsNoLonger text bytes = length bytes ≤ length text

item_before : (b : ℕ) (bs : List ℕ) (first : Result ℕ Fault) (rest : Result (List ℕ) Fault) → IfOk rest (IsNoLonger bs) → IfOk (first >>= λ v. rest >>= λ vs. Ok (v ∷ vs)) (IsNoLonger (b ∷ bs))
item_before b bs (Err fault) rest le = tt
item_before b bs (Ok v) (Err fault) le = tt
item_before b bs (Ok v) (Ok vs) le = omega arith

content_no_longer : (place : Place) (skip : ℕ) (text : List ℕ) → IfOk (content place skip text) (IsNoLonger text)
content_no_longer place zero [] = omega arith
content_no_longer place (suc skip) [] = omega arith
content_no_longer place (suc skip) (b ∷ bs) = weaker (content (after place b) skip bs) (content_no_longer (after place b) skip bs)
  where
    weaker : (given : Result (List ℕ) Fault) → IfOk given (IsNoLonger bs) → IfOk given (IsNoLonger (b ∷ bs))
    weaker (Ok bytes) le = omega arith
    weaker (Err fault) le = tt
content_no_longer place zero (b ∷ bs) =
    item_before b bs (item_at place (b ∷ bs)) (content (after place b) (item_length (b ∷ bs) - 1) bs) (content_no_longer (after place b) (item_length (b ∷ bs) - 1) bs)

inside_no_longer : (s : List ℕ) → length (inside s) ≤ length s
inside_no_longer s = omega (arith, length-take (length s - 2) (drop 1 s), length-drop 1 s)

-- the spelling of a piece that is a name is one
abbrev Spells : Piece → List ℕ → Type 0
Spells p.Name s = is_name s ≡ true
Spells _ s = Unit {0}

name_inner : (size : ℕ) (s : List ℕ) (word : Option Word) → word_of s ≡ word → is_name s ≡ true → IsSpelled size (Lines.name_token s word)
name_inner size s None none is = (record { name = is; no_word = none }, omega arith)
name_inner size s (Some word) some is = (tt, omega arith)

number_inner : (size : ℕ) (place : Place) (number : Option (Kind × ℕ)) → IfSome number IsHeldPair → IfOk (Lines.number_token place number) (IsSpelled size)
number_inner size place None held = tt
number_inner size place (Some number) held = (held, omega arith)

token_inner : (place : Place) (s : List ℕ) (piece : Piece) → Spells piece s → IfOk (Lines.token_of place s piece) (IsSpelled (length s))
token_inner place s p.Name spells = name_inner (length s) s (word_of s) refl spells
token_inner place s p.Number spells = number_inner (length s) place (number_of s) (number_held s)
token_inner place s p.Character spells = bind_any (IsSpelled (length s)) (character_of (after place 39) (inside s)) (λ c. Ok (t.Char c)) (λ c. (tt, omega arith))
token_inner place s p.Str spells =
    bind_ok (IsNoLonger (inside s)) (IsSpelled (length s)) (content (after place 34) 0 (inside s)) (λ bytes. Ok (t.Str bytes)) (content_no_longer (after place 34) 0 (inside s))
    (λ bytes le. (tt, omega (arith, inside_no_longer s)))
token_inner place s (p.Mark mark) spells = (tt, omega arith)
token_inner place s p.Blank spells = tt
token_inner place s p.Newline spells = tt
token_inner place s p.Comment spells = tt
token_inner place s p.Header spells = tt
token_inner place s p.OpenComment spells = tt
token_inner place s p.OpenLiteral spells = tt
token_inner place s p.Unknown spells = tt

-- ---- the strings of tokens

-- how many bytes the tokens have as strings
abbrev strings : List Token → ℕ
strings [] = 0
strings (x ∷ xs) = string_bytes x.what + strings xs

strings-append : (xs ys : List Token) → strings (xs ++ ys) ≡ strings xs + strings ys
strings-append [] ys = omega arith
strings-append (x ∷ xs) ys = omega (arith, strings-append xs ys)

strings_summed : (xs : List Token) → sum (map string_bytes (kinds_of xs)) ≡ strings xs
strings_summed [] = refl
strings_summed (x ∷ xs) = sum_by-cons (λ n. n) (string_bytes x.what) (map string_bytes (kinds_of xs)) ∙ ap (λ n. string_bytes x.what + n) (strings_summed xs)

strings_placed : (place : Place) (xs : List Lexeme) → AreInner xs → strings (map (placed place) xs) ≤ sizes xs
strings_placed place [] inner = omega arith
strings_placed place (x ∷ xs) inner = omega (arith, inner.0.1, strings_placed place xs inner.1)

-- ---- what has been read

-- the strings are no more than what spells the tokens, which is within the limit
abbrev AreWithin : State → Type 0
AreWithin s = (strings s.tokens ≤ s.spelled) × (s.spelled ≤ s.limits.spelling) × (s.limits.spelling ≤ limits.spelling)

-- each token that has been read, and each of the new body and of a macro, is as it should be
abbrev HasInner : State → Type 0
HasInner s = Each IsInnerToken s.tokens × AreInner s.body × Each HasInnerBody s.macros × AreWithin s

placed_inner : (place : Place) (xs : List Lexeme) → IsInside place → AreInner xs → Each IsInnerToken (map (placed place) xs)
placed_inner place [] inside inner = tt
placed_inner place (x ∷ xs) inside inner = ((inner.0.0, inside), placed_inner place xs inside inner.1)

within_added : (place : Place) (xs : List Lexeme) (s : State) → AreInner xs → AreWithin s → Lines.has_room s (length xs) (sizes xs) ≡ true
    → (strings (s.tokens ++ map (placed place) xs) ≤ s.spelled + sizes xs) × (s.spelled + sizes xs ≤ s.limits.spelling)
within_added place xs s inner within room =
    let fits : s.spelled + sizes xs ≤ s.limits.spelling = grind (arith, nat_tests, room) in
    (omega (arith, within.0, strings-append s.tokens (map (placed place) xs), strings_placed place xs inner), fits)

add_inner : (place : Place) (xs : List Lexeme) (s : State) → IsInside place → AreInner xs → HasInner s → IfOk (Lines.add place xs s) HasInner
add_inner place xs s inside inner read =
    let added = record s { mode = m.Middle; tokens = s.tokens ++ map (placed place) xs; spelled = s.spelled + sizes xs } in
    when_ok HasInner (Lines.has_room s (length xs) (sizes xs)) (Ok added) (refused r.TokensMany place)
    (λ room.
    let within = within_added place xs s inner read.3 room in
    (each_append IsInnerToken s.tokens (map (placed place) xs) read.0 (placed_inner place xs inside inner), read.1, read.2, (within.0, within.1, read.3.2))) tt

token_in_text_inner : (place : Place) (s : List ℕ) (piece : Piece) (old : State) → IsInside place → Spells piece s → HasInner old → IfOk (Lines.token_in_text place s piece old) HasInner
token_in_text_inner place s piece old inside spells read =
    let put = λ (what : TokenKind). Lines.add place (replaced old.macros (lexeme what (length s))) old in
    cond_ok HasInner (Lines.is_literal piece && not (Lines.has_room old 1 (length s))) (refused r.TokensMany place) (Lines.token_of place s piece >>= put) tt
    (bind_ok (IsSpelled (length s)) HasInner (Lines.token_of place s piece) put (token_inner place s piece spells)
    (λ what inner. add_inner place (replaced old.macros (lexeme what (length s))) old inside (replaced_inner old.macros (lexeme what (length s)) read.2 inner) read))

in_text_inner : (place : Place) (s : List ℕ) (piece : Piece) (old : State) → IsInside place → Spells piece s → HasInner old → IfOk (Lines.in_text place s piece old) HasInner
in_text_inner place s p.Blank old inside spells read = read
in_text_inner place s p.Comment old inside spells read = read
in_text_inner place s p.Newline old inside spells read = read
in_text_inner place s p.Name old inside spells read = token_in_text_inner place s p.Name old inside spells read
in_text_inner place s p.Number old inside spells read = token_in_text_inner place s p.Number old inside spells read
in_text_inner place s p.Character old inside spells read = token_in_text_inner place s p.Character old inside spells read
in_text_inner place s p.Str old inside spells read = token_in_text_inner place s p.Str old inside spells read
in_text_inner place s (p.Mark mark) old inside spells read = token_in_text_inner place s (p.Mark mark) old inside spells read
in_text_inner place s p.Header old inside spells read = token_in_text_inner place s p.Header old inside spells read
in_text_inner place s p.OpenComment old inside spells read = token_in_text_inner place s p.OpenComment old inside spells read
in_text_inner place s p.OpenLiteral old inside spells read = token_in_text_inner place s p.OpenLiteral old inside spells read
in_text_inner place s p.Unknown old inside spells read = token_in_text_inner place s p.Unknown old inside spells read

-- ---- directives

directive_inner : (hash : Place) (mode : Option Mode) (old : State) → HasInner old → IfOk (Lines.directive hash mode old) HasInner
directive_inner hash None old read = tt
directive_inner hash (Some mode) old read = read

in_hash_inner : (hash : Place) (s : List ℕ) (piece : Piece) (old : State) → HasInner old → IfOk (Lines.in_hash hash s piece old) HasInner
in_hash_inner hash s p.Blank old read = read
in_hash_inner hash s p.Comment old read = read
in_hash_inner hash s p.Newline old read = read
in_hash_inner hash s p.Name old read = directive_inner hash (Lines.directive_mode hash s) old read
in_hash_inner hash s p.Number old read = tt
in_hash_inner hash s p.Character old read = tt
in_hash_inner hash s p.Str old read = tt
in_hash_inner hash s (p.Mark mark) old read = tt
in_hash_inner hash s p.Header old read = tt
in_hash_inner hash s p.OpenComment old read = tt
in_hash_inner hash s p.OpenLiteral old read = tt
in_hash_inner hash s p.Unknown old read = tt

named_inner : (place : Place) (s : List ℕ) (number : Option ℕ) (old : State) → HasInner old → IfOk (Lines.named place s number old) HasInner
named_inner place s (Some number) old read = read
named_inner place s None old read =
    let begun = record old { mode = m.Body place; name = s; body = [] } in
    cond_ok HasInner (mentions old.macros s) (refused r.MacroOrder place) (Ok begun) tt (read.0, tt, read.2, read.3)

in_define_inner : (hash place : Place) (s rest : List ℕ) (piece : Piece) (old : State) → HasInner old → IfOk (Lines.in_define hash place s rest piece old) HasInner
in_define_inner hash place s rest p.Blank old read = read
in_define_inner hash place s rest p.Comment old read = read
in_define_inner hash place s rest p.Name old read =
    cond_ok HasInner (is_some (word_of s) || begins (codes "(") rest) (refused r.BadDirective hash) (Lines.named place s (find old.macros s) old) tt
    (named_inner place s (find old.macros s) old read)
in_define_inner hash place s rest p.Newline old read = tt
in_define_inner hash place s rest p.Number old read = tt
in_define_inner hash place s rest p.Character old read = tt
in_define_inner hash place s rest p.Str old read = tt
in_define_inner hash place s rest (p.Mark mark) old read = tt
in_define_inner hash place s rest p.Header old read = tt
in_define_inner hash place s rest p.OpenComment old read = tt
in_define_inner hash place s rest p.OpenLiteral old read = tt
in_define_inner hash place s rest p.Unknown old read = tt

body_token_inner : (at place : Place) (s : List ℕ) (piece : Piece) (old : State) → Spells piece s → HasInner old → IfOk (Lines.body_token at place s piece old) HasInner
body_token_inner at place s piece old spells read =
    let grown = λ (what : TokenKind). record old { body = old.body ++ lexeme what (length s) ∷ [] } in
    bind_ok (IsSpelled (length s)) HasInner (Lines.token_of place s piece) (λ what. if is_named old.name what then refused r.MacroOrder at else Ok (grown what)) (token_inner place s piece spells)
    (λ what inner. cond_ok HasInner (is_named old.name what) (refused r.MacroOrder at) (Ok (grown what)) tt
    (read.0, each_one_more IsInnerLexeme old.body (lexeme what (length s)) read.1 inner, read.2, read.3))

in_body_inner : (at place : Place) (s : List ℕ) (piece : Piece) (old : State) → Spells piece s → HasInner old → IfOk (Lines.in_body at place s piece old) HasInner
in_body_inner at place s p.Blank old spells read = read
in_body_inner at place s p.Comment old spells read = read
in_body_inner at place s p.Newline old spells read = (read.0, tt, each_one_more HasInnerBody old.macros (old.name, old.body) read.2 read.1, read.3)
in_body_inner at place s p.Name old spells read = body_token_inner at place s p.Name old spells read
in_body_inner at place s p.Number old spells read = body_token_inner at place s p.Number old spells read
in_body_inner at place s p.Character old spells read = body_token_inner at place s p.Character old spells read
in_body_inner at place s p.Str old spells read = body_token_inner at place s p.Str old spells read
in_body_inner at place s (p.Mark mark) old spells read = body_token_inner at place s (p.Mark mark) old spells read
in_body_inner at place s p.Header old spells read = body_token_inner at place s p.Header old spells read
in_body_inner at place s p.OpenComment old spells read = body_token_inner at place s p.OpenComment old spells read
in_body_inner at place s p.OpenLiteral old spells read = body_token_inner at place s p.OpenLiteral old spells read
in_body_inner at place s p.Unknown old spells read = body_token_inner at place s p.Unknown old spells read

again_token_inner : (at : Place) (number count : ℕ) (place : Place) (s : List ℕ) (piece : Piece) (old : State) → HasInner old → IfOk (Lines.again_token at number count place s piece old) HasInner
again_token_inner at number count place s piece old read =
    let further = Lines.in_mode (m.Again (record { name = at; number = number; at = count + 1 })) old in
    bind_any HasInner (Lines.token_of place s piece) (λ what. if stands_at (body_at old.macros number) count what then Ok further else refused r.MacroAgain at)
    (λ what. cond_ok HasInner (stands_at (body_at old.macros number) count what) (Ok further) (refused r.MacroAgain at) read tt)

in_again_inner : (at : Place) (number count : ℕ) (place : Place) (s : List ℕ) (piece : Piece) (old : State) → HasInner old → IfOk (Lines.in_again at number count place s piece old) HasInner
in_again_inner at number count place s p.Blank old read = read
in_again_inner at number count place s p.Comment old read = read
in_again_inner at number count place s p.Newline old read =
    cond_ok HasInner (eqb (length (body_at old.macros number)) count) (Ok (Lines.in_mode m.Start old)) (refused r.MacroAgain at) read tt
in_again_inner at number count place s p.Name old read = again_token_inner at number count place s p.Name old read
in_again_inner at number count place s p.Number old read = again_token_inner at number count place s p.Number old read
in_again_inner at number count place s p.Character old read = again_token_inner at number count place s p.Character old read
in_again_inner at number count place s p.Str old read = again_token_inner at number count place s p.Str old read
in_again_inner at number count place s (p.Mark mark) old read = again_token_inner at number count place s (p.Mark mark) old read
in_again_inner at number count place s p.Header old read = again_token_inner at number count place s p.Header old read
in_again_inner at number count place s p.OpenComment old read = again_token_inner at number count place s p.OpenComment old read
in_again_inner at number count place s p.OpenLiteral old read = again_token_inner at number count place s p.OpenLiteral old read
in_again_inner at number count place s p.Unknown old read = again_token_inner at number count place s p.Unknown old read

none_included : (hash place : Place) (s : List ℕ) → IfOk {T = State} {E = Fault} (if begins (codes "<") s || begins (codes "\"") s then refused r.UnknownHeader place else refused r.BadDirective hash) HasInner
none_included hash place s = cond_ok HasInner (begins (codes "<") s || begins (codes "\"") s) (refused r.UnknownHeader place) (refused r.BadDirective hash) tt tt

in_include_inner : (hash place : Place) (s : List ℕ) (piece : Piece) (old : State) → HasInner old → IfOk (Lines.in_include hash place s piece old) HasInner
in_include_inner hash place s p.Blank old read = read
in_include_inner hash place s p.Comment old read = read
in_include_inner hash place s p.Header old read = read
in_include_inner hash place s p.Newline old read = none_included hash place s
in_include_inner hash place s p.Name old read = none_included hash place s
in_include_inner hash place s p.Number old read = none_included hash place s
in_include_inner hash place s p.Character old read = none_included hash place s
in_include_inner hash place s p.Str old read = none_included hash place s
in_include_inner hash place s (p.Mark mark) old read = none_included hash place s
in_include_inner hash place s p.OpenComment old read = none_included hash place s
in_include_inner hash place s p.OpenLiteral old read = none_included hash place s
in_include_inner hash place s p.Unknown old read = none_included hash place s

include_inner : (at : Place) (header : Option Header) (old : State) → HasInner old → IfOk (Lines.include at header old) HasInner
include_inner at None old read = tt
include_inner at (Some header) old read =
    let macros = header_macros header in
    let new = record old { macros = included old.macros macros } in
    cond_ok HasInner (breaks_order old.macros macros) (refused r.MacroOrder at) (if changes old.macros macros then refused r.MacroAgain at else Ok new) tt
    (cond_ok HasInner (changes old.macros macros) (refused r.MacroAgain at) (Ok new) tt
    (read.0, read.1, included_inner old.macros macros read.2 (header_macros_inner header), read.3))

in_header_inner : (hash at : Place) (header : Option Header) (place : Place) (piece : Piece) (old : State) → HasInner old → IfOk (Lines.in_header hash at header place piece old) HasInner
in_header_inner hash at header place p.Blank old read = read
in_header_inner hash at header place p.Comment old read = read
in_header_inner hash at header place p.Newline old read =
    bind_ok HasInner HasInner (Lines.include at header old) (λ new. Ok (Lines.in_mode m.Start new)) (include_inner at header old read) (λ new inner. inner)
in_header_inner hash at header place p.OpenComment old read = bind_any HasInner (Lines.include at header old) (λ new. refused r.OpenComment place) (λ new. tt)
in_header_inner hash at header place p.OpenLiteral old read = bind_any HasInner (Lines.include at header old) (λ new. refused r.OpenLiteral place) (λ new. tt)
in_header_inner hash at header place p.Unknown old read = bind_any HasInner (Lines.include at header old) (λ new. refused r.BadByte place) (λ new. tt)
in_header_inner hash at header place p.Name old read = tt
in_header_inner hash at header place p.Number old read = tt
in_header_inner hash at header place p.Character old read = tt
in_header_inner hash at header place p.Str old read = tt
in_header_inner hash at header place (p.Mark mark) old read = tt
in_header_inner hash at header place p.Header old read = tt

in_pragma_inner : (place : Place) (piece : Piece) (old : State) → HasInner old → IfOk (Lines.in_pragma place piece old) HasInner
in_pragma_inner place p.Newline old read = read
in_pragma_inner place p.OpenComment old read = tt
in_pragma_inner place p.Blank old read = read
in_pragma_inner place p.Comment old read = read
in_pragma_inner place p.Name old read = read
in_pragma_inner place p.Number old read = read
in_pragma_inner place p.Character old read = read
in_pragma_inner place p.Str old read = read
in_pragma_inner place (p.Mark mark) old read = read
in_pragma_inner place p.Header old read = read
in_pragma_inner place p.OpenLiteral old read = read
in_pragma_inner place p.Unknown old read = read

in_start_inner : (place : Place) (s : List ℕ) (piece : Piece) (old : State) → IsInside place → Spells piece s → HasInner old → IfOk (Lines.in_start place s piece old) HasInner
in_start_inner place s piece old inside spells read =
    cond_ok HasInner (same s (codes "#")) (Ok (Lines.in_mode (m.Hash place) old)) (Lines.in_text place s piece old) read (in_text_inner place s piece old inside spells read)

-- ---- a piece, and all of them

step_inner : (mode : Mode) (place : Place) (s rest : List ℕ) (piece : Piece) (old : State) → IsInside place → Spells piece s → HasInner old → IfOk (step_in mode place s rest piece old) HasInner
step_inner m.Start place s rest piece old inside spells read = in_start_inner place s piece old inside spells read
step_inner m.Middle place s rest piece old inside spells read = in_text_inner place s piece old inside spells read
step_inner (m.Hash hash) place s rest piece old inside spells read = in_hash_inner hash s piece old read
step_inner (m.Define hash) place s rest piece old inside spells read = in_define_inner hash place s rest piece old read
step_inner (m.Body at) place s rest piece old inside spells read = in_body_inner at place s piece old spells read
step_inner (m.Again a) place s rest piece old inside spells read = in_again_inner a.name a.number a.at place s piece old read
step_inner (m.Include hash) place s rest piece old inside spells read = in_include_inner hash place s piece old read
step_inner (m.Header d) place s rest piece old inside spells read = in_header_inner d.hash d.name d.header place piece old read
step_inner m.Pragma place s rest piece old inside spells read = in_pragma_inner place piece old read

-- the spelling of the piece at the front, where class says what a spelling is
by_length : (class : List ℕ → Piece) (text : List ℕ) (n : ℕ) → ((t : List ℕ) → Spells (class t) t)
    → Spells (piece_of_length class text n).0 (take (piece_of_length class text n).1 text)
by_length class text n each = by_comment (begins (codes "/*") text && nat_le n 1)
  where
    by_quote : (b : Bool) → Spells (if b then p.OpenLiteral else p.Unknown) (take 1 text)
    by_quote true = tt
    by_quote false = tt

    by_none : (b : Bool) → let found : Piece × ℕ = if b then ((if begins (codes "'") text || begins (codes "\"") text then p.OpenLiteral else p.Unknown), 1) else (class (take n text), n)
        in Spells found.0 (take found.1 text)
    by_none true = by_quote (begins (codes "'") text || begins (codes "\"") text)
    by_none false = each (take n text)

    by_comment : (b : Bool) → let found : Piece × ℕ = if b then (p.OpenComment, 1) else
        (if eqb n 0 then ((if begins (codes "'") text || begins (codes "\"") text then p.OpenLiteral else p.Unknown), 1) else (class (take n text), n))
        in Spells found.0 (take found.1 text)
    by_comment true = tt
    by_comment false = by_none (eqb n 0)

-- what a test lets through, and what it does not
by_test : (b : Bool) (x y : Piece) (s : List ℕ) → (b ≡ true → Spells x s) → Spells y s → Spells (if b then x else y) s
by_test true x y s first second = first refl
by_test false x y s first second = second

mark_spells : (mark : Option Mark) (s : List ℕ) → Spells (mark_piece mark) s
mark_spells None s = tt
mark_spells (Some mark) s = tt

class_spells : (s : List ℕ) → Spells (class_of s) s
class_spells s =
    by_test (is_name s) p.Name _ s (λ is. is)
    (by_test (is_number s) p.Number _ s (λ is. tt)
    (by_test (is_character s) p.Character _ s (λ is. tt)
    (by_test (is_string s) p.Str _ s (λ is. tt)
    (by_test (is_comment s) p.Comment _ s (λ is. tt)
    (by_test (is_blank_piece s) p.Blank _ s (λ is. tt)
    (by_test (same s (10 ∷ [])) p.Newline _ s (λ is. tt) (mark_spells (mark_of s) s)))))))

pragma_spells : (s : List ℕ) → Spells (class_in_pragma s) s
pragma_spells s =
    by_test (is_comment s) p.Comment _ s (λ is. tt)
    (by_test (same s (10 ∷ [])) p.Newline _ s (λ is. tt) (by_test (eqb (length s) 1) p.Blank p.Unknown s (λ is. tt) tt))

include_spells : (s : List ℕ) → Spells (class_in_include s) s
include_spells s =
    by_test (begins (codes "<") s) (if is_header s then p.Header else p.Unknown) (class_of s) s
    (λ is. by_test (is_header s) p.Header p.Unknown s (λ header. tt) tt) (class_spells s)

spelled_by : (class : List ℕ → Piece) (text : List ℕ) → ((t : List ℕ) → Spells (class t) t) → Spells (piece_by class text).0 (take (piece_by class text).1 text)
unfolding piece_by
spelled_by class text each = by_length class text (longest (λ s. is_known (class s)) text (length text)) each

-- the spelling of a piece that is a name is one, in each mode
piece_spells : (mode : Mode) (text : List ℕ) → Spells (piece_in mode text).0 (take (piece_in mode text).1 text)
piece_spells m.Start text = spelled_by class_of text class_spells
piece_spells m.Middle text = spelled_by class_of text class_spells
piece_spells (m.Hash hash) text = spelled_by class_of text class_spells
piece_spells (m.Define hash) text = spelled_by class_of text class_spells
piece_spells (m.Body at) text = spelled_by class_of text class_spells
piece_spells (m.Again a) text = spelled_by class_of text class_spells
piece_spells (m.Include hash) text = spelled_by class_in_include text include_spells
piece_spells (m.Header d) text = spelled_by class_of text class_spells
piece_spells m.Pragma text = spelled_by class_in_pragma text pragma_spells

-- so many bytes may follow a place in a source
record HasBehind (place : Place) (n : ℕ) : Type 0 where
  line : 1 ≤ place.line
  lines : place.line + n ≤ most_place
  column : 1 ≤ place.column
  columns : place.column + n ≤ most_place

inside_of : (place : Place) (n : ℕ) → HasBehind place n → IsInside place
inside_of place n h =
    let lines : place.line + n ≤ most_place = h.lines in
    let columns : place.column + n ≤ most_place = h.columns in
    record { line = h.line; last_line = omega (arith, lines); column = h.column; last_column = omega (arith, columns) }

-- one byte further, whatever byte it is
behind_after : (place : Place) (b n : ℕ) → HasBehind place (suc n) → HasBehind (after place b) n
behind_after place b n h = by (eqb b 10)
  where
    by : (newline : Bool) → HasBehind (if newline then record { line = place.line + 1; column = 1 } else record { line = place.line; column = place.column + 1 }) n
    by true =
        let lines : place.line + suc n ≤ most_place = h.lines in
        let columns : place.column + suc n ≤ most_place = h.columns in
        let some : 1 ≤ place.column = h.column in
        record { line = omega arith; lines = omega (arith, lines); column = omega arith; columns = omega (arith, columns, some) }
    by false =
        let lines : place.line + suc n ≤ most_place = h.lines in
        let columns : place.column + suc n ≤ most_place = h.columns in
        record { line = h.line; lines = omega (arith, lines); column = omega arith; columns = omega (arith, columns) }

-- the state at the end, behind which the place stands
abbrev EndsInner : State × Place → Type 0
EndsInner end = HasInner end.0 × IsInside end.1

last_line_inner : (place : Place) (old : State) → IsInside place → HasInner old → IfOk (Lines.step place [] [] p.Newline old >>= λ new. Ok (new, place)) EndsInner
last_line_inner place old inside read =
    bind_ok HasInner EndsInner (Lines.step place [] [] p.Newline old) (λ new. Ok (new, place)) (step_inner old.mode place [] [] p.Newline old inside tt read)
    (λ new inner. (inner, inside))

run_inner : (skip : ℕ) (place : Place) (old : State) (text : List ℕ) → HasBehind place (length text) → HasInner old → IfOk (run skip place old text) EndsInner
run_inner zero place old [] h read = last_line_inner place old (inside_of place 0 h) read
run_inner (suc skip) place old [] h read = last_line_inner place old (inside_of place 0 h) read
run_inner (suc skip) place old (b ∷ bs) h read = run_inner skip (after place b) old bs (behind_after place b (length bs) h) read
run_inner zero place old (b ∷ bs) h read =
    let piece = piece_in old.mode (b ∷ bs) in
    bind_ok HasInner EndsInner (turn place old (b ∷ bs) piece) (λ new. run (piece.1 - 1) (after place b) new bs)
    (turn_ok HasInner place old (b ∷ bs) piece
    (step_inner old.mode place (take piece.1 (b ∷ bs)) (drop piece.1 (b ∷ bs)) piece.0 old (inside_of place (length (b ∷ bs)) h) (piece_spells old.mode (b ∷ bs)) read))
    (λ new inner. run_inner (piece.1 - 1) (after place b) new bs (behind_after place b (length bs) h) inner)

-- ---- neighbouring strings, and the end

join_kinds_inner : (a : Token) (ts : List Token) (b : Token) (x y : TokenKind) → IsInnerToken a → Each IsInnerToken (b ∷ ts) → Each IsInnerToken (join_kinds a ts b x y)
join_kinds_inner a ts b (t.Str x) (t.Str y) first rest = ((tt, first.1), rest.1)
join_kinds_inner a ts b (t.Str x) (t.Name y) first rest = (first, rest)
join_kinds_inner a ts b (t.Str x) (t.Word y) first rest = (first, rest)
join_kinds_inner a ts b (t.Str x) (t.Number kind y) first rest = (first, rest)
join_kinds_inner a ts b (t.Str x) (t.Char y) first rest = (first, rest)
join_kinds_inner a ts b (t.Str x) (t.Mark y) first rest = (first, rest)
join_kinds_inner a ts b (t.Str x) t.End first rest = (first, rest)
join_kinds_inner a ts b (t.Name x) y first rest = (first, rest)
join_kinds_inner a ts b (t.Word x) y first rest = (first, rest)
join_kinds_inner a ts b (t.Number kind x) y first rest = (first, rest)
join_kinds_inner a ts b (t.Char x) y first rest = (first, rest)
join_kinds_inner a ts b (t.Mark x) y first rest = (first, rest)
join_kinds_inner a ts b t.End y first rest = (first, rest)

join_inner : (a : Token) (ts : List Token) → IsInnerToken a → Each IsInnerToken ts → Each IsInnerToken (join a ts)
join_inner a [] first rest = (first, tt)
join_inner a (b ∷ ts) first rest = join_kinds_inner a ts b a.what b.what first rest

joined_inner : (ts : List Token) → Each IsInnerToken ts → Each IsInnerToken (joined ts)
joined_inner [] inner = tt
joined_inner (a ∷ ts) inner = join_inner a (joined ts) inner.0 (joined_inner ts inner.1)

-- ---- how many bytes the joined strings have

-- a token and a joined list have as many bytes as strings as the two joined
join_kinds_strings : (a : Token) (ts : List Token) (b : Token) (x y : TokenKind) → a.what ≡ x → b.what ≡ y → strings (join_kinds a ts b x y) ≡ strings (a ∷ b ∷ ts)
join_kinds_strings a ts b (t.Str x) (t.Str y) xe ye = omega (arith, length-append x y, ap string_bytes xe, ap string_bytes ye)
join_kinds_strings a ts b (t.Str x) (t.Name y) xe ye = refl
join_kinds_strings a ts b (t.Str x) (t.Word y) xe ye = refl
join_kinds_strings a ts b (t.Str x) (t.Number kind y) xe ye = refl
join_kinds_strings a ts b (t.Str x) (t.Char y) xe ye = refl
join_kinds_strings a ts b (t.Str x) (t.Mark y) xe ye = refl
join_kinds_strings a ts b (t.Str x) t.End xe ye = refl
join_kinds_strings a ts b (t.Name x) y xe ye = refl
join_kinds_strings a ts b (t.Word x) y xe ye = refl
join_kinds_strings a ts b (t.Number kind x) y xe ye = refl
join_kinds_strings a ts b (t.Char x) y xe ye = refl
join_kinds_strings a ts b (t.Mark x) y xe ye = refl
join_kinds_strings a ts b t.End y xe ye = refl

join_strings : (a : Token) (ts : List Token) → strings (join a ts) ≡ strings (a ∷ ts)
join_strings a [] = refl
join_strings a (b ∷ ts) = join_kinds_strings a ts b a.what b.what refl refl

joined_strings : (ts : List Token) → strings (joined ts) ≡ strings ts
joined_strings [] = refl
joined_strings (a ∷ ts) = omega (arith, join_strings a (joined ts), joined_strings ts)

-- ---- the whole list

end_once : (ts : List Token) (last : Token) → Each IsInnerToken ts → last.what ≡ t.End → EndsOnce (ts ++ last ∷ [])
end_once [] last inner e = e
end_once (a ∷ []) last inner e = (inner_differs a.what inner.0.0, e)
end_once (a ∷ b ∷ ts) last inner e = (inner_differs a.what inner.0.0, end_once (b ∷ ts) last inner.1 e)

each_held : (ts : List Token) (last : Token) → Each IsInnerToken ts → NumberIsHeld last.what → AllByRecursion NumberIsHeld (kinds_of (ts ++ last ∷ []))
each_held [] last inner held = (held, tt)
each_held (a ∷ ts) last inner held = (inner_held a.what inner.0.0, each_held ts last inner.1 held)

-- what stands in a list is right
right_kind : (what : TokenKind) → IsInner what → IsRightKind what
right_kind t.End inner = absurd inner
right_kind (t.Name name) inner = inner
right_kind (t.Word word) inner = tt
right_kind (t.Number kind value) inner = tt
right_kind (t.Char value) inner = tt
right_kind (t.Str bytes) inner = tt
right_kind (t.Mark mark) inner = tt

each_right : (ts : List Token) (last : Token) → Each IsInnerToken ts → IsRightToken last → AllByRecursion IsRightToken (ts ++ last ∷ [])
each_right [] last inner right = (right, tt)
each_right (a ∷ ts) last inner right = (record { inside = inner.0.1; kind = right_kind a.what inner.0.0 }, each_right ts last inner.1 right)

-- the list ends once, its numbers are held, its strings are within the limit, and its tokens are right
abbrev IsClosed : List Token → Type 0
IsClosed list = EndsOnce list × All NumberIsHeld (kinds_of list) × (sum (map string_bytes (kinds_of list)) ≤ limits.spelling) × All IsRightToken list

closed : (end : State × Place) → EndsInner end → IsClosed (joined end.0.tokens ++ record { what = t.End; place = end.1 } ∷ [])
closed end (inner, inside) =
    let last : Token = record { what = t.End; place = end.1 } in
    let list = joined end.0.tokens in
    let each = joined_inner end.0.tokens inner.0 in (
      end_once list last each refl,
      All-from_recursion NumberIsHeld (kinds_of (list ++ last ∷ [])) (each_held list last each tt),
      omega (arith, strings_summed (list ++ last ∷ []), strings-append list (last ∷ []), joined_strings end.0.tokens, inner.3.0, inner.3.1, inner.3.2),
      All-from_recursion IsRightToken (list ++ last ∷ []) (each_right list last each (record { inside = inside; kind = tt })),
    )

-- a source that is not too long may stand behind the first place
not_long : (bytes : List ℕ) → nat_lt 1048576 (length bytes) ≡ false → HasBehind first_place (length bytes)
not_long bytes fits =
    let few : length bytes ≤ 1048576 = grind (arith, nat_tests, fits) in
    record { line = omega arith; lines = omega (arith, few); column = omega arith; columns = omega (arith, few) }

-- P of the value behind a test that has to fail
unless_ok : {X : Type 0} (P : X → Type 0) (b : Bool) (x y : Result X Fault) → IfOk x P → (b ≡ false → IfOk y P) → IfOk (if b then x else y) P
unless_ok P true x y first second = first
unless_ok P false x y first second = second refl

whole_closed : (bytes : List ℕ) → IfOk (tokens_within limits bytes) IsClosed
whole_closed bytes =
    let start = nothing_read limits in
    let whole = λ (end : State × Place). joined end.0.tokens ++ record { what = t.End; place = end.1 } ∷ [] in
    unless_ok IsClosed (nat_lt limits.source (length bytes)) (refused r.SourceLong first_place) (run 0 first_place start bytes >>= λ end. Ok (whole end)) tt
    (λ fits.
    bind_ok EndsInner IsClosed (run 0 first_place start bytes) (λ end. Ok (whole end))
    (run_inner 0 first_place start bytes (not_long bytes fits) (tt, tt, tt, (omega arith, omega arith, omega arith))) closed)

list_closed : (source : List ℕ) (list : List Token) → tokens source ≡ Ok list → IsClosed list
list_closed source list e = IfOk-at_ok IsClosed e (answered IsClosed (tokens_within limits source) (whole_closed source))

-- the last token of what a source gives is the end, and no other token is
pub ends_once : EachListEndsOnce
ends_once source list e = (list_closed source list e).0

-- each number of what a source gives is held by its kind
pub numbers_held : EachNumberIsHeld
numbers_held source list e = (list_closed source list e).1

-- the strings of what a source gives are within the limit
pub strings_fit : StringsAreWithinLimit
strings_fit source list e = (list_closed source list e).2

-- each token of what a source gives stands in it, and each name is one
pub tokens_right : EachTokenIsRight
tokens_right source list e = (list_closed source list e).3
