-- Believed with a public law.
-- The reading of a source, line by line (C17 6.10).
use Rattle.std.specs.Prelude.{◌≡◌, Bool, true, false, ◌||◌, not, List, [], ◌∷◌, ◌++◌, Option, Some, None, Result, Ok, Err, if◌then◌else◌}
use Rattle.k_num.specs.declared.place.Place.{Place}
use Rattle.k_tree.specs.declared.tokens.Token.{Token}
use Rattle.k_lex_pieces.specs.declared.fault.Refusal.TheVariants as r
use Rattle.k_lex_groups.specs.Steps.{Opens, is_read, asks, innermost, opened, another, otherwise, closed}
use Rattle.k_lex_expansion.specs.declared.macros.Macro.{Macro}
use Rattle.k_lex_lines.specs.declared.lines.Placed.{Placed}
use Rattle.k_lex_lines.specs.declared.lines.Fault.{Fault}
use Rattle.k_lex_lines.specs.declared.lines.Test.{Test}
use Rattle.k_lex_lines.specs.declared.lines.Branch.{Branch}
use Rattle.k_lex_lines.specs.declared.lines.Directive.{Directive}
use Rattle.k_lex_lines.specs.declared.lines.Line.{Line}
use Rattle.k_lex_lines.specs.declared.rules.Rules.{Rules}
use Rattle.k_lex_lines.specs.declared.state.State.{State}
use Rattle.k_lex_lines.specs.declared.lines.Wrong.TheVariants as wrong
use Rattle.k_lex_lines.specs.declared.lines.Test.TheVariants as question
use Rattle.k_lex_lines.specs.declared.lines.Branch.TheVariants as parts
use Rattle.k_lex_lines.specs.declared.lines.Directive.TheVariants as does
use Rattle.k_lex_lines.specs.declared.lines.Line.TheVariants as l
use Rattle.k_lex_lines.specs.Lines.{fault_at, text_of, behind_text, cut_by}
use Rattle.k_lex_lines.specs.Text.{TextRead, Text, in_text}
use Rattle.k_lex_lines.specs.Directives.{defined, undefined, Included, no_header, another_macro, with_macros, included, is_defined, Decision, Decides}

-- nothing is read: no macro is known
abbrev pub start : State
start = record { macros = []; opens = []; count = record { made = 0; sizes = record { tokens = 0; bytes = 0 } } }

-- with these `#if`s open
abbrev pub opening : Opens → State → State
opening opens s = record { macros = s.macros; opens = opens; count = s.count }

-- with these macros
abbrev pub knowing : List Macro → State → State
knowing macros s = record { macros = macros; opens = s.opens; count = s.count }

-- what a line does: it is refused, or changes what is known, or its text is read, or its condition says which `#if`s are open
pub data Turn : Type 0 where
  stops : Fault → Turn
  goes : State → Turn
  reads : List Placed → Turn
  decides : Place → List Placed → Opens → Opens → Turn

-- what a directive does whose form is right, or has that fault
abbrev pub formed : Option Fault → Turn → Turn
formed None turn = turn
formed (Some fault) turn = stops fault

-- ---- groups

-- the lines around the section of the innermost `#if` are read
abbrev pub is_read_around : Opens → Bool
is_read_around [] = true
is_read_around (g ∷ opens) = is_read opens

-- an `#if` in a group that is read (6.10.1p3, p5)
abbrev pub tested : Rules → Place → Test → State → Turn
tested rules hash (question.AsksCondition ts) s = decides hash ts (opened hash true s.opens) (opened hash false s.opens)
tested rules hash (question.AsksName true name) s = goes (opening (opened hash (is_defined rules s.macros name) s.opens) s)
tested rules hash (question.AsksName false name) s = goes (opening (opened hash (not (is_defined rules s.macros name)) s.opens) s)

-- an `#elif` that leaves these open where its condition holds, or these; none where it can't stand
abbrev pub alternative : Place → Option Fault → List Placed → Option Opens → Option Opens → State → Turn
alternative hash form ts (Some taken) (Some passed) s = if asks s.opens then formed form (decides hash ts taken passed) else goes (opening passed s)
alternative hash form ts _ _ s = stops (fault_at wrong.StrayElse hash)

-- an `#else` or `#endif` that leaves these open; none where it can't stand
abbrev pub changed : Place → Option Fault → Option Opens → State → Turn
changed hash form None s = stops (fault_at wrong.StrayElse hash)
changed hash form (Some new) s = if is_read_around s.opens then formed form (goes (opening new s)) else goes (opening new s)

-- A directive that parts lines (6.10.1p6). Its form and its condition are looked at only where they say which lines are read.
abbrev pub parted : Rules → Place → Option Fault → Branch → State → Turn
parted rules hash form (parts.Starts test) s = if is_read s.opens then formed form (tested rules hash test s) else goes (opening (opened hash false s.opens) s)
parted rules hash form (parts.Elif ts) s = alternative hash form ts (another true s.opens) (another false s.opens) s
parted rules hash form parts.Final s = changed hash form (otherwise s.opens) s
parted rules hash form parts.Endif s = changed hash form (closed s.opens) s

-- ---- other directives

-- with these macros, or MacroAgain at this place
abbrev pub defining : Place → Option (List Macro) → State → Turn
defining place None s = stops (fault_at (wrong.Lexical r.MacroAgain) place)
defining place (Some macros) s = goes (knowing macros s)

-- the same behind a header
abbrev pub including : Place → Included → State → Turn
including place no_header s = stops (fault_at (wrong.Lexical r.UnknownHeader) place)
including place another_macro s = stops (fault_at (wrong.Lexical r.MacroAgain) place)
including place (with_macros macros) s = goes (knowing macros s)

-- another directive in a group that is read (6.10.2, 6.10.3, 6.10.5 to 6.10.7)
abbrev pub obeyed : Rules → Place → Directive → State → Turn
obeyed rules hash (does.Define place m) s = defining place (defined s.macros m) s
obeyed rules hash (does.Undefine name) s = goes (knowing (undefined s.macros name) s)
obeyed rules hash (does.Include place name) s = including place (included rules s.macros name) s
obeyed rules hash does.Error s = stops (fault_at wrong.ErrorLine hash)
obeyed rules hash does.Nothing s = goes s

-- ---- lines

-- What a line does. In a group that isn't read it does nothing, but where it parts lines into groups (6.10.1p6).
abbrev pub turn : Rules → State → Line → Turn
turn rules s (l.Text ts) = if is_read s.opens then reads ts else goes s
turn rules s (l.Broken always fault) = if always || is_read s.opens then stops fault else goes s
turn rules s (l.Branch hash form it) = parted rules hash form it s
turn rules s (l.Directive hash form it) = if is_read s.opens then formed form (obeyed rules hash it s) else goes s

-- the tokens that are read, or the first fault
abbrev pub Answer : Type 0
Answer = Result (List Token) Fault

-- tokens before an answer
abbrev pub in_front : List Token → Answer → Answer
in_front us (Ok vs) = Ok (us ++ vs)
in_front us (Err e) = Err e

-- the end of the source: each `#if` has its `#endif`
abbrev pub at_end : Option Place → Answer
at_end None = Ok []
at_end (Some place) = Err (fault_at wrong.OpenIf place)

-- tokens and what is known behind them, or a fault
abbrev pub Behind : Type 0
Behind = Result (List Token × State) Fault

-- what is known behind text
abbrev pub after_text : State → TextRead → Behind
after_text s (Ok (us, count)) = Ok (us, record { macros = s.macros; opens = s.opens; count = count })
after_text s (Err e) = Err e

-- what is known behind a condition, where these are open if it holds, or these
abbrev pub after_condition : State → Opens → Opens → Decision → Behind
after_condition s taken passed (Ok (holds, made)) =
    Ok ([], record { macros = s.macros; opens = if holds then taken else passed; count = record { made = made; sizes = s.count.sizes } })
after_condition s taken passed (Err e) = Err e

mutual
  -- The lines give that, where this is known before them. Text goes on to the next line that is none.
  pub data Reads (rules : Rules) : State → List Line → Answer → Type 0 where
    over : (s : State) → Reads rules s [] (at_end (innermost s.opens))
    refuses : (s : State) (line : Line) (lines : List Line) (fault : Fault) → turn rules s line ≡ stops fault → Reads rules s (line ∷ lines) (Err fault)
    moves : (s new : State) (line : Line) (lines : List Line) (r : Answer) → turn rules s line ≡ goes new → Reads rules new lines r → Reads rules s (line ∷ lines) r
    replaces : (s : State) (line : Line) (lines : List Line) (ts : List Placed) (read : TextRead) (r : Answer) → turn rules s line ≡ reads ts
        → Text s.macros rules.limits.made (in_text rules.limits) (cut_by lines) s.count (ts ++ text_of lines) read
        → ReadsOn rules (after_text s read) (behind_text lines) r → Reads rules s (line ∷ lines) r
    tests : (s : State) (line : Line) (lines : List Line) (hash : Place) (ts : List Placed) (taken passed : Opens) (d : Decision) (r : Answer) → turn rules s line ≡ decides hash ts taken passed
        → Decides rules s.macros hash s.count.made ts d → ReadsOn rules (after_condition s taken passed d) lines r → Reads rules s (line ∷ lines) r

  -- the lines give that behind these tokens, or a fault came first
  pub data ReadsOn (rules : Rules) : Behind → List Line → Answer → Type 0 where
    on : (us : List Token) (s : State) (lines : List Line) (r : Answer) → Reads rules s lines r → ReadsOn rules (Ok (us, s)) lines (in_front us r)
    failed : (e : Fault) (lines : List Line) → ReadsOn rules (Err e) lines (Err e)
