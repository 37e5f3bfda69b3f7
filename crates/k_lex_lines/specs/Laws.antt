-- Believed with a public law.
-- What holds of the reading of lines.
use Rattle.std.specs.Prelude.{◌≡◌, ℕ, codes, Bool, true, false, List, [], ◌∷◌, ◌++◌, None, Some, Ok, Err}
use Rattle.k_num.specs.declared.place.Place.{Place}
use Rattle.k_tree.specs.declared.tokens.Token.{Token}
use Rattle.k_tree.specs.declared.tokens.TokenKind.{TokenKind}
use Rattle.k_tree.specs.declared.tokens.TokenKind.TheVariants as t
use Rattle.k_lex_pieces.specs.declared.fault.Refusal.TheVariants as r
use Rattle.k_lex_groups.specs.Steps.{Opens, is_read}
use Rattle.k_lex_expansion.specs.declared.macros.Macro.{Macro}
use Rattle.k_lex_expansion.specs.declared.macros.Operand.TheVariants as o
use Rattle.k_lex_expansion.specs.Listing.{unhidden}
use Rattle.k_lex_expansion.specs.Expansion.{named}
use Rattle.k_lex_lines.specs.declared.lines.Placed.{Placed}
use Rattle.k_lex_lines.specs.declared.lines.Line.{Line}
use Rattle.k_lex_lines.specs.declared.rules.Sizes.{Sizes}
use Rattle.k_lex_lines.specs.declared.rules.Limits.{Limits}
use Rattle.k_lex_lines.specs.declared.rules.Rules.{Rules}
use Rattle.k_lex_lines.specs.declared.lines.Wrong.TheVariants as wrong
use Rattle.k_lex_lines.specs.declared.lines.Test.TheVariants as question
use Rattle.k_lex_lines.specs.declared.lines.Branch.TheVariants as parts
use Rattle.k_lex_lines.specs.declared.lines.Directive.TheVariants as does
use Rattle.k_lex_lines.specs.declared.lines.Line.TheVariants as l
use Rattle.k_lex_lines.specs.Lines.{fault_at, text_of, behind_text}
use Rattle.k_lex_lines.specs.Text.{kind_of, sized, fits}
use Rattle.k_lex_lines.specs.declared.state.State.{State}
use Rattle.k_lex_lines.specs.Reading.{start, opening, Answer, Reads}
use Rattle.k_lex_lines.specs.Sections.{IsGroup, IsRest}

-- lines have one reading, or are refused in one way
abbrev pub ReadingsAreOne : Type 0
ReadingsAreOne = (rules : Rules) (s : State) (lines : List Line) (r q : Answer) → Reads rules s lines r → Reads rules s lines q → r ≡ q

-- C17 6.10.1p6: the lines of a group that isn't read give nothing and change nothing, whatever stands in them
abbrev pub UnreadGroupsGiveNothing : Type 0
UnreadGroupsGiveNothing = (rules : Rules) (s : State) (ts us : List Line) (r : Answer) → is_read s.opens ≡ false → IsGroup ts → Reads rules s us r → Reads rules s (ts ++ us) r

-- these are open in an `#if` at this place of which no group is waited for any more, since one was read or none is to be
abbrev pub settled : Place → Bool → Opens → Opens
settled place on opens = record { place = place; waits = false; reads = on; ends = false } ∷ opens

-- C17 6.10.1p6: behind a group that is read no other of its section is: what follows it up to `#endif` gives nothing and changes nothing, and no condition is looked at
abbrev pub OneGroupIsRead : Type 0
OneGroupIsRead = (rules : Rules) (s : State) (place : Place) (on : Bool) (opens : Opens) (us vs : List Line) (r : Answer) → IsRest (is_read opens) us
    → Reads rules (opening opens s) vs r → Reads rules (opening (settled place on opens) s) (us ++ vs) r

-- the text is these tokens, each spelled by its own, where no macro is named in it, and so many may be there
pub data AreOwn (macros : List Macro) (limits : Limits) : Sizes → List Placed → List Token → Type 0 where
  no_token : (sizes : Sizes) → AreOwn macros limits sizes [] []
  token : (sizes : Sizes) (t : Placed) (ts : List Placed) (what : TokenKind) (us : List Token) → named macros t.token.spelling ≡ None
      → kind_of t.place t.token.spelling ≡ Ok what → fits limits (sized (unhidden t.token ∷ []) sizes) ≡ true
      → AreOwn macros limits (sized (unhidden t.token ∷ []) sizes) ts us → AreOwn macros limits sizes (t ∷ ts) (record { what = what; place = t.place } ∷ us)

-- text without directives in which no macro is named is read as its own tokens
abbrev pub PlainTextStays : Type 0
PlainTextStays = (rules : Rules) (s : State) (lines : List Line) (us : List Token) → s.opens ≡ [] → behind_text lines ≡ []
    → AreOwn s.macros rules.limits s.count.sizes (text_of lines) us → Reads rules s lines (Ok us)

-- ---- examples

-- the limits of a source, without headers
abbrev pub plain_rules : Rules
plain_rules = record { limits = record { made = 2097152; tokens = 400000; bytes = 4194304 }; headers = []; names = [] }

-- the first byte of a line
abbrev pub at : ℕ → Place
at line = record { line = line; column = 1 }

-- a token that begins a line
abbrev pub word_at : ℕ → List ℕ → Placed
word_at line spelling = record { token = record { spelling = spelling; spaced = false }; place = at line }

-- `#ifdef A`, a byte that begins no token, `#else`, `x`, `#endif`
abbrev pub alternatives : List Line
alternatives = l.Branch (at 1) None (parts.Starts (question.AsksName true (codes "A"))) ∷ l.Broken false (fault_at (wrong.Lexical r.BadByte) (at 2)) ∷ l.Branch (at 3) None parts.Final
    ∷ l.Text (word_at 4 (codes "x") ∷ []) ∷ l.Branch (at 5) None parts.Endif ∷ []

-- they give `x`: in a group that isn't read no token is asked for
abbrev pub AlternativesGive : Type 0
AlternativesGive = Reads plain_rules start alternatives (Ok (record { what = t.Name (codes "x"); place = at 4 } ∷ []))

-- `#ifndef A`, `#elif` without a condition, `#error`, `#else`, `#else`
abbrev pub second_else : List Line
second_else = l.Branch (at 1) None (parts.Starts (question.AsksName false (codes "A"))) ∷ l.Branch (at 2) None (parts.Elif []) ∷ l.Directive (at 3) None does.Error ∷ l.Branch (at 4) None parts.Final
    ∷ l.Branch (at 5) None parts.Final ∷ []

-- the second `#else` is refused, and nothing before it: the group of `#ifndef` is read
abbrev pub SecondElseIsStray : Type 0
SecondElseIsStray = Reads plain_rules start second_else (Err (fault_at wrong.StrayElse (at 5)))

-- `#define A`, `#ifdef A`, and the end
abbrev pub open_section : List Line
open_section = l.Directive (at 1) None (does.Define (at 1) (record { name = codes "A"; parameters = None; body = [] }))
    ∷ l.Branch (at 2) None (parts.Starts (question.AsksName true (codes "A"))) ∷ []

-- the fault is at the `#ifdef`
abbrev pub OpenIfIsAtIf : Type 0
OpenIfIsAtIf = Reads plain_rules start open_section (Err (fault_at wrong.OpenIf (at 2)))

-- a macro A without tokens
abbrev pub empty_macro : Macro
empty_macro = record { name = codes "A"; parameters = None; body = [] }

-- `#define A`, `#if defined(A)`, `#error`
abbrev pub found_name : List Line
found_name = l.Directive (at 1) None (does.Define (at 1) empty_macro)
    ∷ l.Branch (at 2) None (parts.Starts (question.AsksCondition (word_at 2 (codes "defined") ∷ word_at 2 (codes "(") ∷ word_at 2 (codes "A") ∷ word_at 2 (codes ")") ∷ [])))
    ∷ l.Directive (at 3) None does.Error ∷ []

-- the condition holds, so that `#error` is read
abbrev pub FoundNameHolds : Type 0
FoundNameHolds = Reads plain_rules start found_name (Err (fault_at wrong.ErrorLine (at 3)))

-- `#define F(a) a`
abbrev pub macro_of_one : Macro
macro_of_one = record { name = codes "F"; parameters = Some (codes "a" ∷ []); body = record { spaced = false; first = o.Parameter 0; more = [] } ∷ [] }

-- that, `F`, and `#` in the next line
abbrev pub cut_use : List Line
cut_use = l.Directive (at 1) None (does.Define (at 1) macro_of_one) ∷ l.Text (word_at 2 (codes "F") ∷ []) ∷ l.Directive (at 3) None does.Nothing ∷ []

-- the use goes on in the next line, and a directive is a fault there, at its `#`
abbrev pub CutUseIsRefused : Type 0
CutUseIsRefused = Reads plain_rules start cut_use (Err (fault_at (wrong.Lexical r.BadDirective) (at 3)))
