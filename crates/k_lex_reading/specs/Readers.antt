-- For contracts between crates: nobody has to believe it.
-- A reader that is given lines one by one, by what it makes of those that come.
use Rattle.std.specs.Prelude.{◌≡◌, Bool, true, false, List, [], ◌∷◌, Option, Some, None, Result, Ok, Err}
use Rattle.k_tree.specs.declared.tokens.Token.{Token}
use Rattle.k_lex_lines.specs.declared.lines.Placed.{Placed}
use Rattle.k_lex_lines.specs.declared.lines.Fault.{Fault}
use Rattle.k_lex_lines.specs.declared.lines.Line.{Line}
use Rattle.k_lex_lines.specs.declared.lines.Line.TheVariants as l
use Rattle.k_lex_lines.specs.declared.rules.Rules.{Rules}
use Rattle.k_lex_lines.specs.declared.state.State.{State}
use Rattle.k_lex_lines.specs.Lines.{text_of, behind_text, cut_by}
use Rattle.k_lex_lines.specs.Reading.{start, Answer, in_front, Reads}
use Rattle.k_lex_reading.specs.declared.fault.ReadFault.{ReadFault}
use Rattle.k_lex_reading.specs.declared.fault.ReadFault.TheVariants as stop

-- what is known, the text since the last line that was none, and the tokens before that
pub record Held : Type 0 where
  pub rules : Rules
  pub state : State
  pub pending : List Placed
  pub tokens : List Token

-- a text before lines, if there is one
abbrev pub with_text : List Placed → List Line → List Line
with_text [] lines = lines
with_text (t ∷ ts) lines = l.Text (t ∷ ts) ∷ lines

-- THE READER'S ANSWER to the lines that come: that of its text before them, behind its tokens
pub record Gives (h : Held) (lines : List Line) (answer : Answer) : Type 0 where
  pub rest : Answer
  pub reading : Reads h.rules h.state (with_text h.pending lines) rest
  pub is : answer ≡ in_front h.tokens rest

-- a line was read
abbrev pub Takes : {X : Type 0} → Result X ReadFault → Held → Line → Held → Type 0
Takes (Ok _) old line new = (lines : List Line) (answer : Answer) → Gives new lines answer → Gives old (line ∷ lines) answer
Takes (Err (stop.Refused f)) old line new = (lines : List Line) → Gives old (line ∷ lines) (Err f)
Takes (Err stop.Memory) old line new = Unit {0}

-- these are all the lines
abbrev pub Ends : Result (List Token) ReadFault → Held → Type 0
Ends (Ok ts) h = Gives h [] (Ok ts)
Ends (Err (stop.Refused f)) h = Gives h [] (Err f)
Ends (Err stop.Memory) h = Unit {0}

-- the lines are all the source
abbrev pub ReadsAll : Result (List Token) ReadFault → Rules → List Line → Type 0
ReadsAll (Ok ts) rules lines = Reads rules start lines (Ok ts)
ReadsAll (Err (stop.Refused f)) rules lines = Reads rules start lines (Err f)
ReadsAll (Err stop.Memory) rules lines = Unit {0}

-- text stops at these lines, which cut it so
pub record StopsAt (cut : Option Fault) (lines : List Line) : Type 0 where
  pub cut_is : cut_by lines ≡ cut
  pub no_text : text_of lines ≡ []
  pub all_behind : behind_text lines ≡ lines

-- the text was read up to lines at which it stops
pub record WasFlushed (cut : Option Fault) (old new : Held) : Type 0 where
  pub leads : (lines : List Line) (answer : Answer) → StopsAt cut lines → Gives new lines answer → Gives old lines answer
  pub empty : new.pending ≡ []
  pub rules_are : new.rules ≡ old.rules

-- the same, or the text is refused
abbrev pub Flushes : {X : Type 0} → Result X ReadFault → Option Fault → Held → Held → Type 0
Flushes (Ok _) cut old new = WasFlushed cut old new
Flushes (Err (stop.Refused f)) cut old new = (lines : List Line) → StopsAt cut lines → Gives old lines (Err f)
Flushes (Err stop.Memory) cut old new = Unit {0}

-- the line is no text
abbrev pub is_other : Line → Bool
is_other (l.Text ts) = false
is_other _ = true
