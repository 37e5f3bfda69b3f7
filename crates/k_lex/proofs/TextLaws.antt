-- Which pieces of a source its tokens come of: those outside of directives.
use Rattle.std.proofs.Common.{◌≡◌, ℕ, zero, suc, ◌+◌, ◌-◌, Bool, true, false, ◌&&◌, ◌||◌, not, nat_lt, eqb, if◌then◌else◌, List, [], ◌∷◌, ◌++◌, Option, Some, None, Result, Ok, Err, length, map, take, drop, codes, refl, sym, ap, subst, ◌∙◌, inl, inr, append_assoc, is_none, is_some}
use Rattle.std.specs.Prelude.{IfOk}
use Rattle.std.specs.List.{All, list_any}
use Rattle.std.proofs.lemmas.Bool.{cases_Bool, false≢true}
use Rattle.std.proofs.lemmas.List.{append-nil}
use Rattle.std.proofs.lemmas.List.Elements.{All-nil, All-cons}
use Rattle.std.proofs.lemmas.Result.{IfOk-at_ok}
use Rattle.k_num.specs.declared.place.Place.{Place}
use Rattle.k_tree.specs.declared.tokens.Token.{Token}
use Rattle.k_tree.specs.declared.tokens.TokenKind.{TokenKind}
use Rattle.k_tree.specs.declared.tokens.TokenKind.TheVariants as t
use Rattle.k_tree.specs.declared.tokens.word.Word.{Word}
use Rattle.k_num.specs.declared.numbers.Kind.{Kind}
use Rattle.k_lex_pieces.specs.declared.fault.Fault.{Fault}
use Rattle.k_lex_pieces.specs.declared.fault.Refusal.TheVariants as r
use Rattle.k_lex_pieces.specs.declared.pieces.Piece.{Piece}
use Rattle.k_lex_pieces.specs.declared.pieces.Piece.TheVariants as p
use Rattle.k_lex.specs.declared.lines.Mode.{Mode}
use Rattle.k_lex.specs.declared.lines.Mode.TheVariants as m
use Rattle.k_lex_macros.specs.declared.macros.Lexeme.{Lexeme}
use Rattle.k_lex_macros.specs.declared.headers.Header.{Header}
use Rattle.k_lex_pieces.specs.Bytes.{same, begins, after, behind}
use Rattle.k_lex_pieces.specs.Words.{word_of}
use Rattle.k_lex_pieces.specs.Numbers.{number_of}
use Rattle.k_lex_pieces.specs.Literals.{content, inside, character_of}
use Rattle.k_lex_macros.specs.Macros.{Macro, lexeme, find, find_from, full_or, fulls, used, replaced, is_named, mentions, body_at, stands_at, header_macros, breaks_order, changes, included, sizes, placed}
use Rattle.k_lex.specs.Lines
use Rattle.k_lex.specs.Lines.{State, token_of, step_in}
use Rattle.k_lex_pieces.specs.Outcome.{◌>>=◌, refused}
use Rattle.k_lex.specs.Tokens.{piece_in, turn, run, joined, first_place, nothing_read, tokens_within, limits}
use Rattle.k_lex.specs.Cuts.{Cut, cut, cuts}
use Rattle.k_lex.specs.Laws.{Line, Fresh, Text, Directive, begun, line_behind, is_text, is_directive, pieces_of, header_names, names_in, names_of, is_in_directive, IsToken, Gives, Come, with_end, TokensComeOfText}
use Rattle.k_lex_pieces.proofs.Tables.{same_true, same_refl}
use Rattle.k_lex.proofs.Outcomes.{Each, each_one_more, either_way, cond_ok, bind_ok, bind_any, bind_equal, answered, turn_ok}

-- ---- names that may be macros

-- each of the names is known
abbrev AreKnown : (List ℕ → Bool) → List (List ℕ) → Type 0
AreKnown known names = Each (λ name. known name ≡ true) names

-- the names of the macros are known
abbrev HasKnown : (List ℕ → Bool) → List Macro → Type 0
HasKnown known macros = Each (λ macro. known macro.0 ≡ true) macros

-- what is known of the macro that a line is about
abbrev ModeKnown : (List ℕ → Bool) → List ℕ → Mode → Type 0
ModeKnown known name m.Start = Unit {0}
ModeKnown known name m.Middle = Unit {0}
ModeKnown known name (m.Hash hash) = Unit {0}
ModeKnown known name (m.Define hash) = Unit {0}
ModeKnown known name (m.Body at) = known name ≡ true
ModeKnown known name (m.Again again) = Unit {0}
ModeKnown known name (m.Include hash) = Unit {0}
ModeKnown known name (m.Header directive) = AreKnown known (header_names directive.header)
ModeKnown known name m.Pragma = Unit {0}

-- the macros that have been read, and the one that is being read, have known names
abbrev Knows : (List ℕ → Bool) → State → Type 0
Knows known s = HasKnown known s.macros × ModeKnown known s.name s.mode

-- what the line is in a mode
abbrev line_of : Mode → Line
line_of m.Start = Fresh
line_of m.Middle = Text
line_of (m.Hash hash) = Directive
line_of (m.Define hash) = Directive
line_of (m.Body at) = Directive
line_of (m.Again again) = Directive
line_of (m.Include hash) = Directive
line_of (m.Header directive) = Directive
line_of m.Pragma = Directive

header_known : (known : List ℕ → Bool) (macros : List Macro) → AreKnown known (map (λ macro. macro.0) macros) → HasKnown known macros
header_known known [] names = tt
header_known known (macro ∷ macros) names = (names.0, header_known known macros names.1)

included_known : (known : List ℕ → Bool) (table macros : List Macro) → HasKnown known table → HasKnown known macros → HasKnown known (included table macros)
included_known known table [] old new = old
included_known known table (macro ∷ macros) old new =
    let P : Macro → Type 0 = λ (x : Macro). known x.0 ≡ true in
    let more = table ++ (macro.0, macro.1) ∷ [] in
    either_way (HasKnown known) (is_none (find table macro.0)) (included more macros) (included table macros)
    (included_known known more macros (each_one_more P table (macro.0, macro.1) old new.0) new.1) (included_known known table macros old new.1)

-- ---- what a piece adds

-- what a piece adds to the tokens, where its line is this with it
abbrev Adds : (List ℕ → Bool) → Line → Piece → Place → List ℕ → List Token → List Token → Type 0
Adds known Fresh piece place s old new = new ≡ old
Adds known Directive piece place s old new = new ≡ old
Adds known Text piece place s old new = (group : List Token) × ((new ≡ old ++ group) × Gives known piece place s group)

-- what a piece leaves, where its line is this with it
abbrev Does : (List ℕ → Bool) → Line → Piece → Place → List ℕ → State → State → Type 0
Does known line piece place s old new = (line_of new.mode ≡ line) × Knows known new × Adds known line piece place s old.tokens new.tokens

-- a token of a line of text, and what it is replaced by

find_unknown : (known : List ℕ → Bool) (count : ℕ) (macros : List Macro) (name : List ℕ) → HasKnown known macros → known name ≡ false → find_from count macros name ≡ None
find_unknown known count [] name knows unknown = refl
find_unknown known count (macro ∷ macros) name knows unknown = elim (cases_Bool (same macro.0 name)) [
  | inl e ↦ absurd (false≢true (sym unknown ∙ ap known (sym (same_true macro.0 name e)) ∙ knows.0))
  | inr e ↦ ap (λ (b : Bool). if b then Some count else find_from (count + 1) macros name) e ∙ find_unknown known (count + 1) macros name knows.1 unknown
]

replaced_unused : (table : List Macro) (x : Lexeme) → used table x.what ≡ None → replaced table x ≡ x ∷ []
replaced_unused table x e = ap (full_or (fulls table) x) e

-- the tokens at the place of a use
abbrev group_of : Place → List ℕ → State → TokenKind → List Token
group_of place s old what = map (placed place) (replaced old.macros (lexeme what (length s)))

all_placed : (place : Place) (xs : List Lexeme) → All (λ token. token.place ≡ place) (map (placed place) xs)
all_placed place [] = All-nil (λ (token : Token). token.place ≡ place)
all_placed place (x ∷ xs) = All-cons (λ (token : Token). token.place ≡ place) (placed place x) (map (placed place) xs) refl (all_placed place xs)

itself : (place : Place) (s : List ℕ) (piece : Piece) (old : State) (what : TokenKind) → token_of place s piece ≡ Ok what → used old.macros what ≡ None → IsToken piece place s (group_of place s old what)
itself place s piece old what given unused = (what, (given, ap (map (placed place)) (replaced_unused old.macros (lexeme what (length s)) unused)))

-- a name that is unknown is no macro
name_unused : (known : List ℕ → Bool) (table : List Macro) (s : List ℕ) (word : Option Word) → HasKnown known table → known s ≡ false → used table (Lines.name_token s word) ≡ None
name_unused known table s None knows unknown = find_unknown known 0 table s knows unknown
name_unused known table s (Some word) knows unknown = refl

-- a number, a character, a string and a mark are no macros
abbrev IsUnused : List Macro → TokenKind → Type 0
IsUnused table what = used table what ≡ None

number_unused : (table : List Macro) (place : Place) (number : Option (Kind × ℕ)) → IfOk (Lines.number_token place number) (IsUnused table)
number_unused table place None = tt
number_unused table place (Some number) = refl

character_unused : (table : List Macro) (place : Place) (s : List ℕ) → IfOk (token_of place s p.Character) (IsUnused table)
character_unused table place s = bind_any (IsUnused table) (character_of (after place 39) (inside s)) (λ c. Ok (t.Char c)) (λ c. refl)

string_unused : (table : List Macro) (place : Place) (s : List ℕ) → IfOk (token_of place s p.Str) (IsUnused table)
string_unused table place s = bind_any (IsUnused table) (content (after place 34) 0 (inside s)) (λ bytes. Ok (t.Str bytes)) (λ bytes. refl)

is_ok : {X : Type 0} (x y : X) → ◌≡◌ {A = Result X Fault} (Ok x) (Ok y) → x ≡ y
is_ok x y e = cc

-- a piece is no blank
abbrev IsSolid : Piece → Type 0
IsSolid p.Blank = ⊥
IsSolid p.Comment = ⊥
IsSolid p.Newline = ⊥
IsSolid p.Name = Unit {0}
IsSolid p.Number = Unit {0}
IsSolid p.Character = Unit {0}
IsSolid p.Str = Unit {0}
IsSolid (p.Mark mark) = Unit {0}
IsSolid p.Header = Unit {0}
IsSolid p.OpenComment = Unit {0}
IsSolid p.OpenLiteral = Unit {0}
IsSolid p.Unknown = Unit {0}

gives : (known : List ℕ → Bool) (place : Place) (s : List ℕ) (piece : Piece) (old : State) (what : TokenKind) → HasKnown known old.macros → IsSolid piece → token_of place s piece ≡ Ok what → Gives known piece place s (group_of place s old what)
gives known place s p.Blank old what knows solid given = absurd solid
gives known place s p.Comment old what knows solid given = absurd solid
gives known place s p.Newline old what knows solid given = absurd solid
gives known place s p.Name old what knows solid given = (
  all_placed place (replaced old.macros (lexeme what (length s))),
  λ unknown. itself place s p.Name old what given (ap (used old.macros) (sym (is_ok (Lines.name_token s (word_of s)) what given)) ∙ name_unused known old.macros s (word_of s) knows unknown),
)
gives known place s p.Number old what knows solid given = itself place s p.Number old what given (IfOk-at_ok (IsUnused old.macros) given (number_unused old.macros place (number_of s)))
gives known place s p.Character old what knows solid given = itself place s p.Character old what given (IfOk-at_ok (IsUnused old.macros) given (character_unused old.macros place s))
gives known place s p.Str old what knows solid given = itself place s p.Str old what given (IfOk-at_ok (IsUnused old.macros) given (string_unused old.macros place s))
gives known place s (p.Mark mark) old what knows solid given = itself place s (p.Mark mark) old what given (ap (used old.macros) (sym (is_ok (t.Mark mark) what given)))
gives known place s p.Header old what knows solid given = absurd (cc)
gives known place s p.OpenComment old what knows solid given = absurd (cc)
gives known place s p.OpenLiteral old what knows solid given = absurd (cc)
gives known place s p.Unknown old what knows solid given = absurd (cc)

add_does : (known : List ℕ → Bool) (place : Place) (s : List ℕ) (piece : Piece) (old : State) (what : TokenKind) → HasKnown known old.macros → IsSolid piece → token_of place s piece ≡ Ok what
    → IfOk (Lines.add place (replaced old.macros (lexeme what (length s))) old) (Does known Text piece place s old)
add_does known place s piece old what knows solid given =
    let xs = replaced old.macros (lexeme what (length s)) in
    let added : State = record old { mode = m.Middle; tokens = old.tokens ++ map (placed place) xs; spelled = old.spelled + sizes xs } in
    cond_ok (Does known Text piece place s old) (Lines.has_room old (length xs) (sizes xs)) (Ok added) (refused r.TokensMany place)
    (refl, (knows, tt), (map (placed place) xs, (refl, gives known place s piece old what knows solid given))) tt

token_in_text_does : (known : List ℕ → Bool) (place : Place) (s : List ℕ) (piece : Piece) (old : State) → HasKnown known old.macros → IsSolid piece → IfOk (Lines.token_in_text place s piece old) (Does known Text piece place s old)
token_in_text_does known place s piece old knows solid =
    let put = λ (what : TokenKind). Lines.add place (replaced old.macros (lexeme what (length s))) old in
    cond_ok (Does known Text piece place s old) (Lines.is_literal piece && not (Lines.has_room old 1 (length s))) (refused r.TokensMany place) (token_of place s piece >>= put) tt
    (bind_equal (Does known Text piece place s old) (token_of place s piece) put (λ what given. add_does known place s piece old what knows solid given))

-- ---- a piece of a line of text

in_text_does : (known : List ℕ → Bool) (place : Place) (s : List ℕ) (piece : Piece) (old : State) → Knows known old → line_of old.mode ≡ Text → IfOk (Lines.in_text place s piece old) (Does known (line_behind Text piece s) piece place s old)
in_text_does known place s p.Blank old knows line = (line, knows, ([], (sym (append-nil old.tokens), refl)))
in_text_does known place s p.Comment old knows line = (line, knows, ([], (sym (append-nil old.tokens), refl)))
in_text_does known place s p.Newline old knows line = (refl, (knows.0, tt), refl)
in_text_does known place s p.Name old knows line = token_in_text_does known place s p.Name old knows.0 tt
in_text_does known place s p.Number old knows line = token_in_text_does known place s p.Number old knows.0 tt
in_text_does known place s p.Character old knows line = token_in_text_does known place s p.Character old knows.0 tt
in_text_does known place s p.Str old knows line = token_in_text_does known place s p.Str old knows.0 tt
in_text_does known place s (p.Mark mark) old knows line = token_in_text_does known place s (p.Mark mark) old knows.0 tt
in_text_does known place s p.Header old knows line = token_in_text_does known place s p.Header old knows.0 tt
in_text_does known place s p.OpenComment old knows line = token_in_text_does known place s p.OpenComment old knows.0 tt
in_text_does known place s p.OpenLiteral old knows line = token_in_text_does known place s p.OpenLiteral old knows.0 tt
in_text_does known place s p.Unknown old knows line = token_in_text_does known place s p.Unknown old knows.0 tt

-- a piece of a line that has had blanks alone
fresh_does : (known : List ℕ → Bool) (place : Place) (s : List ℕ) (piece : Piece) (old : State) → Knows known old → line_of old.mode ≡ Fresh → IfOk (Lines.in_text place s piece old) (Does known (begun piece) piece place s old)
fresh_does known place s p.Blank old knows line = (line, knows, refl)
fresh_does known place s p.Comment old knows line = (line, knows, refl)
fresh_does known place s p.Newline old knows line = (refl, (knows.0, tt), refl)
fresh_does known place s p.Name old knows line = token_in_text_does known place s p.Name old knows.0 tt
fresh_does known place s p.Number old knows line = token_in_text_does known place s p.Number old knows.0 tt
fresh_does known place s p.Character old knows line = token_in_text_does known place s p.Character old knows.0 tt
fresh_does known place s p.Str old knows line = token_in_text_does known place s p.Str old knows.0 tt
fresh_does known place s (p.Mark mark) old knows line = token_in_text_does known place s (p.Mark mark) old knows.0 tt
fresh_does known place s p.Header old knows line = token_in_text_does known place s p.Header old knows.0 tt
fresh_does known place s p.OpenComment old knows line = token_in_text_does known place s p.OpenComment old knows.0 tt
fresh_does known place s p.OpenLiteral old knows line = token_in_text_does known place s p.OpenLiteral old knows.0 tt
fresh_does known place s p.Unknown old knows line = token_in_text_does known place s p.Unknown old knows.0 tt

in_start_does : (known : List ℕ → Bool) (place : Place) (s : List ℕ) (piece : Piece) (old : State) → Knows known old → line_of old.mode ≡ Fresh → IfOk (Lines.in_start place s piece old) (Does known (line_behind Fresh piece s) piece place s old)
in_start_does known place s piece old knows line = by (same s (codes "#"))
  where
    by : (b : Bool) → IfOk (if b then Ok (Lines.in_mode (m.Hash place) old) else Lines.in_text place s piece old) (Does known (if b then Directive else begun piece) piece place s old)
    by true = (refl, (knows.0, tt), refl)
    by false = fresh_does known place s piece old knows line

-- ---- a piece of a directive

-- what a piece of a directive leaves
abbrev Leaves : (List ℕ → Bool) → Piece → Place → List ℕ → State → Result State Fault → Type 0
Leaves known piece place s old given = IfOk given (Does known (line_behind Directive piece s) piece place s old)

in_hash_does : (known : List ℕ → Bool) (hash place : Place) (s : List ℕ) (piece : Piece) (old : State) → Knows known old → line_of old.mode ≡ Directive → Leaves known piece place s old (Lines.in_hash hash s piece old)
in_hash_does known hash place s p.Blank old knows line = (line, knows, refl)
in_hash_does known hash place s p.Comment old knows line = (line, knows, refl)
in_hash_does known hash place s p.Newline old knows line = (refl, (knows.0, tt), refl)
in_hash_does known hash place s p.Name old knows line = by (same s (codes "define")) (same s (codes "include")) (same s (codes "pragma"))
  where
    by : (b c d : Bool) → IfOk (Lines.directive hash (if b then Some (m.Define hash) else (if c then Some (m.Include hash) else (if d then Some m.Pragma else None))) old) (Does known Directive p.Name place s old)
    by true c d = (refl, (knows.0, tt), refl)
    by false true d = (refl, (knows.0, tt), refl)
    by false false true = (refl, (knows.0, tt), refl)
    by false false false = tt
in_hash_does known hash place s p.Number old knows line = tt
in_hash_does known hash place s p.Character old knows line = tt
in_hash_does known hash place s p.Str old knows line = tt
in_hash_does known hash place s (p.Mark mark) old knows line = tt
in_hash_does known hash place s p.Header old knows line = tt
in_hash_does known hash place s p.OpenComment old knows line = tt
in_hash_does known hash place s p.OpenLiteral old knows line = tt
in_hash_does known hash place s p.Unknown old knows line = tt

named_does : (known : List ℕ → Bool) (place : Place) (s : List ℕ) (number : Option ℕ) (old : State) → Knows known old → known s ≡ true → IfOk (Lines.named place s number old) (Does known Directive p.Name place s old)
named_does known place s (Some number) old knows there = (refl, (knows.0, tt), refl)
named_does known place s None old knows there =
    let new : State = record old { mode = m.Body place; name = s; body = [] } in
    cond_ok (Does known Directive p.Name place s old) (mentions old.macros s) (refused r.MacroOrder place) (Ok new) tt (refl, (knows.0, there), refl)

in_define_does : (known : List ℕ → Bool) (hash place : Place) (s rest : List ℕ) (piece : Piece) (old : State) → Knows known old → line_of old.mode ≡ Directive → AreKnown known (names_in piece s) → Leaves known piece place s old (Lines.in_define hash place s rest piece old)
in_define_does known hash place s rest p.Blank old knows line names = (line, knows, refl)
in_define_does known hash place s rest p.Comment old knows line names = (line, knows, refl)
in_define_does known hash place s rest p.Name old knows line names =
    cond_ok (Does known Directive p.Name place s old) (is_some (word_of s) || begins (codes "(") rest) (refused r.BadDirective hash) (Lines.named place s (find old.macros s) old) tt
    (named_does known place s (find old.macros s) old knows names.0)
in_define_does known hash place s rest p.Newline old knows line names = tt
in_define_does known hash place s rest p.Number old knows line names = tt
in_define_does known hash place s rest p.Character old knows line names = tt
in_define_does known hash place s rest p.Str old knows line names = tt
in_define_does known hash place s rest (p.Mark mark) old knows line names = tt
in_define_does known hash place s rest p.Header old knows line names = tt
in_define_does known hash place s rest p.OpenComment old knows line names = tt
in_define_does known hash place s rest p.OpenLiteral old knows line names = tt
in_define_does known hash place s rest p.Unknown old knows line names = tt

body_token_does : (known : List ℕ → Bool) (at place : Place) (s : List ℕ) (piece : Piece) (old : State) → Knows known old → line_of old.mode ≡ Directive → IfOk (Lines.body_token at place s piece old) (Does known Directive piece place s old)
body_token_does known at place s piece old knows line =
    let grown = λ (what : TokenKind). record old { body = old.body ++ lexeme what (length s) ∷ [] } in
    bind_any (Does known Directive piece place s old) (token_of place s piece) (λ what. if is_named old.name what then refused r.MacroOrder at else Ok (grown what))
    (λ what. cond_ok (Does known Directive piece place s old) (is_named old.name what) (refused r.MacroOrder at) (Ok (grown what)) tt (line, knows, refl))

in_body_does : (known : List ℕ → Bool) (at place : Place) (s : List ℕ) (piece : Piece) (old : State) → Knows known old → line_of old.mode ≡ Directive → known old.name ≡ true → Leaves known piece place s old (Lines.in_body at place s piece old)
in_body_does known at place s p.Blank old knows line there = (line, knows, refl)
in_body_does known at place s p.Comment old knows line there = (line, knows, refl)
in_body_does known at place s p.Newline old knows line there =
    let P : Macro → Type 0 = λ (x : Macro). known x.0 ≡ true in
    (refl, (each_one_more P old.macros (old.name, old.body) knows.0 there, tt), refl)
in_body_does known at place s p.Name old knows line there = body_token_does known at place s p.Name old knows line
in_body_does known at place s p.Number old knows line there = body_token_does known at place s p.Number old knows line
in_body_does known at place s p.Character old knows line there = body_token_does known at place s p.Character old knows line
in_body_does known at place s p.Str old knows line there = body_token_does known at place s p.Str old knows line
in_body_does known at place s (p.Mark mark) old knows line there = body_token_does known at place s (p.Mark mark) old knows line
in_body_does known at place s p.Header old knows line there = body_token_does known at place s p.Header old knows line
in_body_does known at place s p.OpenComment old knows line there = body_token_does known at place s p.OpenComment old knows line
in_body_does known at place s p.OpenLiteral old knows line there = body_token_does known at place s p.OpenLiteral old knows line
in_body_does known at place s p.Unknown old knows line there = body_token_does known at place s p.Unknown old knows line

again_token_does : (known : List ℕ → Bool) (at : Place) (number count : ℕ) (place : Place) (s : List ℕ) (piece : Piece) (old : State) → Knows known old → IfOk (Lines.again_token at number count place s piece old) (Does known Directive piece place s old)
again_token_does known at number count place s piece old knows =
    let further = Lines.in_mode (m.Again (record { name = at; number = number; at = count + 1 })) old in
    bind_any (Does known Directive piece place s old) (token_of place s piece) (λ what. if stands_at (body_at old.macros number) count what then Ok further else refused r.MacroAgain at)
    (λ what. cond_ok (Does known Directive piece place s old) (stands_at (body_at old.macros number) count what) (Ok further) (refused r.MacroAgain at) (refl, (knows.0, tt), refl) tt)

in_again_does : (known : List ℕ → Bool) (at : Place) (number count : ℕ) (place : Place) (s : List ℕ) (piece : Piece) (old : State) → Knows known old → line_of old.mode ≡ Directive → Leaves known piece place s old (Lines.in_again at number count place s piece old)
in_again_does known at number count place s p.Blank old knows line = (line, knows, refl)
in_again_does known at number count place s p.Comment old knows line = (line, knows, refl)
in_again_does known at number count place s p.Newline old knows line =
    cond_ok (Does known Fresh p.Newline place s old) (eqb (length (body_at old.macros number)) count) (Ok (Lines.in_mode m.Start old)) (refused r.MacroAgain at) (refl, (knows.0, tt), refl) tt
in_again_does known at number count place s p.Name old knows line = again_token_does known at number count place s p.Name old knows
in_again_does known at number count place s p.Number old knows line = again_token_does known at number count place s p.Number old knows
in_again_does known at number count place s p.Character old knows line = again_token_does known at number count place s p.Character old knows
in_again_does known at number count place s p.Str old knows line = again_token_does known at number count place s p.Str old knows
in_again_does known at number count place s (p.Mark mark) old knows line = again_token_does known at number count place s (p.Mark mark) old knows
in_again_does known at number count place s p.Header old knows line = again_token_does known at number count place s p.Header old knows
in_again_does known at number count place s p.OpenComment old knows line = again_token_does known at number count place s p.OpenComment old knows
in_again_does known at number count place s p.OpenLiteral old knows line = again_token_does known at number count place s p.OpenLiteral old knows
in_again_does known at number count place s p.Unknown old knows line = again_token_does known at number count place s p.Unknown old knows

none_included : (Q : State → Type 0) (hash place : Place) (s : List ℕ) → IfOk {T = State} {E = Fault} (if begins (codes "<") s || begins (codes "\"") s then refused r.UnknownHeader place else refused r.BadDirective hash) Q
none_included Q hash place s = cond_ok Q (begins (codes "<") s || begins (codes "\"") s) (refused r.UnknownHeader place) (refused r.BadDirective hash) tt tt

in_include_does : (known : List ℕ → Bool) (hash place : Place) (s : List ℕ) (piece : Piece) (old : State) → Knows known old → line_of old.mode ≡ Directive → AreKnown known (names_in piece s) → Leaves known piece place s old (Lines.in_include hash place s piece old)
in_include_does known hash place s p.Blank old knows line names = (line, knows, refl)
in_include_does known hash place s p.Comment old knows line names = (line, knows, refl)
in_include_does known hash place s p.Header old knows line names = (refl, (knows.0, names), refl)
in_include_does known hash place s p.Newline old knows line names = none_included (Does known Fresh p.Newline place s old) hash place s
in_include_does known hash place s p.Name old knows line names = none_included (Does known Directive p.Name place s old) hash place s
in_include_does known hash place s p.Number old knows line names = none_included (Does known Directive p.Number place s old) hash place s
in_include_does known hash place s p.Character old knows line names = none_included (Does known Directive p.Character place s old) hash place s
in_include_does known hash place s p.Str old knows line names = none_included (Does known Directive p.Str place s old) hash place s
in_include_does known hash place s (p.Mark mark) old knows line names = none_included (Does known Directive (p.Mark mark) place s old) hash place s
in_include_does known hash place s p.OpenComment old knows line names = none_included (Does known Directive p.OpenComment place s old) hash place s
in_include_does known hash place s p.OpenLiteral old knows line names = none_included (Does known Directive p.OpenLiteral place s old) hash place s
in_include_does known hash place s p.Unknown old knows line names = none_included (Does known Directive p.Unknown place s old) hash place s

-- the macros of a header come in, and nothing else changes
abbrev IsIncluded : (List ℕ → Bool) → State → State → Type 0
IsIncluded known old new = HasKnown known new.macros × (new.tokens ≡ old.tokens)

include_does : (known : List ℕ → Bool) (at : Place) (header : Option Header) (old : State) → Knows known old → AreKnown known (header_names header) → IfOk (Lines.include at header old) (IsIncluded known old)
include_does known at None old knows names = tt
include_does known at (Some header) old knows names =
    let macros = header_macros header in
    let new : State = record old { macros = included old.macros macros } in
    cond_ok (IsIncluded known old) (breaks_order old.macros macros) (refused r.MacroOrder at) (if changes old.macros macros then refused r.MacroAgain at else Ok new) tt
    (cond_ok (IsIncluded known old) (changes old.macros macros) (refused r.MacroAgain at) (Ok new) tt
    (included_known known old.macros macros knows.0 (header_known known macros names), refl))

in_header_does : (known : List ℕ → Bool) (hash at : Place) (header : Option Header) (place : Place) (s : List ℕ) (piece : Piece) (old : State) → Knows known old → line_of old.mode ≡ Directive → AreKnown known (header_names header)
    → Leaves known piece place s old (Lines.in_header hash at header place piece old)
in_header_does known hash at header place s p.Blank old knows line names = (line, knows, refl)
in_header_does known hash at header place s p.Comment old knows line names = (line, knows, refl)
in_header_does known hash at header place s p.Newline old knows line names =
    bind_ok (IsIncluded known old) (Does known Fresh p.Newline place s old) (Lines.include at header old) (λ new. Ok (Lines.in_mode m.Start new)) (include_does known at header old knows names) (λ new done. (refl, (done.0, tt), done.1))
in_header_does known hash at header place s p.OpenComment old knows line names = bind_any (Does known Directive p.OpenComment place s old) (Lines.include at header old) (λ new. refused r.OpenComment place) (λ new. tt)
in_header_does known hash at header place s p.OpenLiteral old knows line names = bind_any (Does known Directive p.OpenLiteral place s old) (Lines.include at header old) (λ new. refused r.OpenLiteral place) (λ new. tt)
in_header_does known hash at header place s p.Unknown old knows line names = bind_any (Does known Directive p.Unknown place s old) (Lines.include at header old) (λ new. refused r.BadByte place) (λ new. tt)
in_header_does known hash at header place s p.Name old knows line names = tt
in_header_does known hash at header place s p.Number old knows line names = tt
in_header_does known hash at header place s p.Character old knows line names = tt
in_header_does known hash at header place s p.Str old knows line names = tt
in_header_does known hash at header place s (p.Mark mark) old knows line names = tt
in_header_does known hash at header place s p.Header old knows line names = tt

in_pragma_does : (known : List ℕ → Bool) (place : Place) (s : List ℕ) (piece : Piece) (old : State) → Knows known old → line_of old.mode ≡ Directive → Leaves known piece place s old (Lines.in_pragma place piece old)
in_pragma_does known place s p.Newline old knows line = (refl, (knows.0, tt), refl)
in_pragma_does known place s p.OpenComment old knows line = tt
in_pragma_does known place s p.Blank old knows line = (line, knows, refl)
in_pragma_does known place s p.Comment old knows line = (line, knows, refl)
in_pragma_does known place s p.Name old knows line = (line, knows, refl)
in_pragma_does known place s p.Number old knows line = (line, knows, refl)
in_pragma_does known place s p.Character old knows line = (line, knows, refl)
in_pragma_does known place s p.Str old knows line = (line, knows, refl)
in_pragma_does known place s (p.Mark mark) old knows line = (line, knows, refl)
in_pragma_does known place s p.Header old knows line = (line, knows, refl)
in_pragma_does known place s p.OpenLiteral old knows line = (line, knows, refl)
in_pragma_does known place s p.Unknown old knows line = (line, knows, refl)

-- ---- any piece

-- where the line is a directive with the piece, the names in the piece are known
abbrev AreKnownIn : (List ℕ → Bool) → Line → Piece → List ℕ → Type 0
AreKnownIn known Directive piece s = AreKnown known (names_in piece s)
AreKnownIn known Fresh piece s = Unit {0}
AreKnownIn known Text piece s = Unit {0}

-- a name or a header is not the end of its line
define_known : (known : List ℕ → Bool) (piece : Piece) (s : List ℕ) → AreKnownIn known (line_behind Directive piece s) piece s → AreKnown known (names_in piece s)
define_known known p.Newline s names = tt
define_known known p.Blank s names = names
define_known known p.Comment s names = names
define_known known p.Name s names = names
define_known known p.Number s names = names
define_known known p.Character s names = names
define_known known p.Str s names = names
define_known known (p.Mark mark) s names = names
define_known known p.Header s names = names
define_known known p.OpenComment s names = names
define_known known p.OpenLiteral s names = names
define_known known p.Unknown s names = names

step_does : (known : List ℕ → Bool) (mode : Mode) (place : Place) (s rest : List ℕ) (piece : Piece) (old : State) → old.mode ≡ mode → Knows known old → AreKnownIn known (line_behind (line_of mode) piece s) piece s
    → IfOk (step_in mode place s rest piece old) (Does known (line_behind (line_of mode) piece s) piece place s old)
step_does known m.Start place s rest piece old e knows names = in_start_does known place s piece old knows (ap line_of e)
step_does known m.Middle place s rest piece old e knows names = in_text_does known place s piece old knows (ap line_of e)
step_does known (m.Hash hash) place s rest piece old e knows names = in_hash_does known hash place s piece old knows (ap line_of e)
step_does known (m.Define hash) place s rest piece old e knows names = in_define_does known hash place s rest piece old knows (ap line_of e) (define_known known piece s names)
step_does known (m.Body at) place s rest piece old e knows names = in_body_does known at place s piece old knows (ap line_of e) (subst (ModeKnown known old.name) e knows.1)
step_does known (m.Again a) place s rest piece old e knows names = in_again_does known a.name a.number a.at place s piece old knows (ap line_of e)
step_does known (m.Include hash) place s rest piece old e knows names = in_include_does known hash place s piece old knows (ap line_of e) (define_known known piece s names)
step_does known (m.Header d) place s rest piece old e knows names = in_header_does known d.hash d.name d.header place s piece old knows (ap line_of e) (subst (ModeKnown known old.name) e knows.1)
step_does known m.Pragma place s rest piece old e knows names = in_pragma_does known place s piece old knows (ap line_of e)

-- ---- all pieces

-- the names in the directives of the rest are known
abbrev RestKnown : (List ℕ → Bool) → Line → List Cut → Type 0
RestKnown known line cuts = AreKnown known (names_of (pieces_of is_directive line cuts))

each_front : {X : Type 0} (P : X → Type 0) (xs ys : List X) → Each P (xs ++ ys) → Each P xs
each_front P [] ys both = tt
each_front P (x ∷ xs) ys both = (both.0, each_front P xs ys both.1)

each_back : {X : Type 0} (P : X → Type 0) (xs ys : List X) → Each P (xs ++ ys) → Each P ys
each_back P [] ys both = both
each_back P (x ∷ xs) ys both = each_back P xs ys both.1

-- the pieces behind a piece whose line is this with it
abbrev pieces_with : (Line → Bool) → Line → Cut → List Cut → List Cut
pieces_with passes now first rest = if passes now then first ∷ pieces_of passes now rest else pieces_of passes now rest

first_known : (known : List ℕ → Bool) (now : Line) (first : Cut) (rest : List Cut) → AreKnown known (names_of (pieces_with is_directive now first rest)) → AreKnownIn known now first.what first.spelling
first_known known Directive first rest names = each_front (λ name. known name ≡ true) (names_in first.what first.spelling) (names_of (pieces_of is_directive Directive rest)) names
first_known known Fresh first rest names = tt
first_known known Text first rest names = tt

rest_known : (known : List ℕ → Bool) (now : Line) (first : Cut) (rest : List Cut) → AreKnown known (names_of (pieces_with is_directive now first rest)) → RestKnown known now rest
rest_known known Directive first rest names = each_back (λ name. known name ≡ true) (names_in first.what first.spelling) (names_of (pieces_of is_directive Directive rest)) names
rest_known known Fresh first rest names = names
rest_known known Text first rest names = names

-- the tokens behind those before come of the pieces, and the text ends there
abbrev Comes : (List ℕ → Bool) → Line → List Cut → List Token → Place → State × Place → Type 0
Comes known line cuts before final end = (end.1 ≡ final) × ((made : List Token) × ((end.0.tokens ≡ before ++ made) × Come known (pieces_of is_text line cuts) made))

comes_more : (known : List ℕ → Bool) (now : Line) (first : Cut) (rest : List Cut) (before middle : List Token) (final : Place) (end : State × Place)
    → Adds known now first.what first.place first.spelling before middle → Comes known now rest middle final end
    → (end.1 ≡ final) × ((made : List Token) × ((end.0.tokens ≡ before ++ made) × Come known (pieces_with is_text now first rest) made))
comes_more known Fresh first rest before middle final end adds comes = (comes.0, (comes.1.0, (comes.1.1.0 ∙ ap (λ (ts : List Token). ts ++ comes.1.0) adds, comes.1.1.1)))
comes_more known Directive first rest before middle final end adds comes = (comes.0, (comes.1.0, (comes.1.1.0 ∙ ap (λ (ts : List Token). ts ++ comes.1.0) adds, comes.1.1.1)))
comes_more known Text first rest before middle final end adds comes =
    let group = adds.0 in
    let made = comes.1.0 in
    (comes.0, (group ++ made, (comes.1.1.0 ∙ ap (λ (ts : List Token). ts ++ made) adds.1.0 ∙ append_assoc before group made, (group, (made, (refl, adds.1.1, comes.1.1.1))))))

weaker_ok : {X : Type 0} (P Q : X → Type 0) (given : Result X Fault) → ((x : X) → P x → Q x) → IfOk given P → IfOk given Q
weaker_ok P Q (Ok x) to holds = to x holds
weaker_ok P Q (Err fault) to holds = tt

turn_comes : (known : List ℕ → Bool) (line : Line) (first : Cut) (old : State) (given : Result State Fault) (go : State → Result (State × Place) Fault) (more : State → List Cut) (final : Place)
    → let now = line_behind line first.what first.spelling in
    (AreKnownIn known now first.what first.spelling → IfOk given (Does known now first.what first.place first.spelling old))
    → AreKnown known (names_of (pieces_of is_directive line (cut first given more)))
    → ((new : State) → Knows known new → RestKnown known (line_of new.mode) (more new) → IfOk (go new) (Comes known (line_of new.mode) (more new) new.tokens final))
    → IfOk (given >>= go) (Comes known line (cut first given more) old.tokens final)
turn_comes known line first old (Err fault) go more final step names next = tt
turn_comes known line first old (Ok new) go more final step names next =
    let now = line_behind line first.what first.spelling in
    let does = step (first_known known now first (more new) names) in
    let rest = next new does.1 (subst (λ (l : Line). RestKnown known l (more new)) (sym does.0) (rest_known known now first (more new) names)) in
    weaker_ok (Comes known now (more new) new.tokens final) (Comes known line (first ∷ more new) old.tokens final) (go new)
    (λ end comes. comes_more known now first (more new) old.tokens new.tokens final end does.2 comes)
    (subst (λ (l : Line). IfOk (go new) (Comes known l (more new) new.tokens final)) does.0 rest)

newline_behind : (line : Line) → line_behind line p.Newline [] ≡ Fresh
newline_behind Fresh = refl
newline_behind Text = refl
newline_behind Directive = refl

newline_known : (known : List ℕ → Bool) (line : Line) → AreKnownIn known (line_behind line p.Newline []) p.Newline []
newline_known known Fresh = tt
newline_known known Text = tt
newline_known known Directive = tt

last_comes : (known : List ℕ → Bool) (place : Place) (old : State) → Knows known old → IfOk (Lines.step place [] [] p.Newline old >>= λ new. Ok (new, place)) (Comes known (line_of old.mode) [] old.tokens place)
last_comes known place old knows =
    let done = step_does known old.mode place [] [] p.Newline old refl knows (newline_known known (line_of old.mode)) in
    bind_ok (Does known Fresh p.Newline place [] old) (Comes known (line_of old.mode) [] old.tokens place) (Lines.step place [] [] p.Newline old) (λ new. Ok (new, place))
    (subst (λ (l : Line). IfOk (Lines.step place [] [] p.Newline old) (Does known l p.Newline place [] old)) (newline_behind (line_of old.mode)) done)
    (λ new does. (refl, ([], (does.2 ∙ sym (append-nil old.tokens), refl))))

run_comes : (known : List ℕ → Bool) (skip : ℕ) (place : Place) (old : State) (text : List ℕ) → Knows known old → RestKnown known (line_of old.mode) (cuts skip place old text)
    → IfOk (run skip place old text) (Comes known (line_of old.mode) (cuts skip place old text) old.tokens (behind place text))
run_comes known zero place old [] knows names = last_comes known place old knows
run_comes known (suc skip) place old [] knows names = last_comes known place old knows
run_comes known (suc skip) place old (b ∷ bs) knows names = run_comes known skip (after place b) old bs knows names
run_comes known zero place old (b ∷ bs) knows names =
    let piece = piece_in old.mode (b ∷ bs) in
    let s = take piece.1 (b ∷ bs) in
    let first : Cut = record { place = place; what = piece.0; spelling = s } in
    turn_comes known (line_of old.mode) first old (turn place old (b ∷ bs) piece) (λ new. run (piece.1 - 1) (after place b) new bs) (λ new. cuts (piece.1 - 1) (after place b) new bs) (behind (after place b) bs)
    (λ there. turn_ok (Does known (line_behind (line_of old.mode) piece.0 s) piece.0 place s old) place old (b ∷ bs) piece
    (step_does known old.mode place s (drop piece.1 (b ∷ bs)) piece.0 old refl knows there)) names
    (λ new new_knows rest. run_comes known (piece.1 - 1) (after place b) new bs new_knows rest)

-- ---- the whole source

or_true : (b c : Bool) → c ≡ true → (b || c) ≡ true
or_true true c e = refl
or_true false c e = e

-- the name is one of these
abbrev among : List (List ℕ) → List ℕ → Bool
among names name = list_any (λ (n : List ℕ). same n name) names

among_more : (x : List ℕ) (all names : List (List ℕ)) → AreKnown (among all) names → AreKnown (among (x ∷ all)) names
among_more x all [] names_known = tt
among_more x all (name ∷ names) names_known = (or_true (same x name) (among all name) names_known.0, among_more x all names names_known.1)

among_all : (names : List (List ℕ)) → AreKnown (among names) names
among_all [] = tt
among_all (name ∷ names) = (ap (λ (b : Bool). b || among names name) (same_refl name), among_more name names names (among_all names))

-- the list is what the pieces of lines of text give
abbrev ComesOf : (List ℕ → Bool) → List Cut → Place → List Token → Type 0
ComesOf known read final list = (made : List Token) × ((list ≡ with_end final made) × Come known (pieces_of is_text Fresh read) made)

pub tokens_come_of_text : TokensComeOfText
tokens_come_of_text source list e =
    let start = nothing_read limits in
    let read = cuts 0 first_place start source in
    let known = is_in_directive read in
    let final = behind first_place source in
    let whole = λ (end : State × Place). joined end.0.tokens ++ record { what = t.End; place = end.1 } ∷ [] in
    let run_all = run_comes known 0 first_place start source (tt, tt) (among_all (names_of (pieces_of is_directive Fresh read))) in
    let given : IfOk (tokens_within limits source) (ComesOf known read final) =
    cond_ok (ComesOf known read final) (nat_lt limits.source (length source)) (refused r.SourceLong first_place) (run 0 first_place start source >>= λ end. Ok (whole end)) tt
    (bind_ok (Comes known Fresh read [] final) (ComesOf known read final) (run 0 first_place start source) (λ end. Ok (whole end)) run_all
    (λ end comes. (comes.1.0, (ap (λ (ts : List Token). joined ts ++ record { what = t.End; place = end.1 } ∷ []) comes.1.1.0 ∙ ap (λ (place : Place). with_end place comes.1.0) comes.0, comes.1.1.1)))) in
    IfOk-at_ok (ComesOf known read final) e (answered (ComesOf known read final) (tokens_within limits source) given)
