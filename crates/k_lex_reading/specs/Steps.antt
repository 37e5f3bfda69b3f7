-- For contracts between crates: nobody has to believe it.
-- What the code tells of what a line does.
use Rattle.std.specs.Prelude.{◌≡◌, ℕ, Bool, true, false, List, [], ◌∷◌, ◌++◌, Option, Some, None, Result, Ok, Err, if◌then◌else◌}
use Rattle.k_num.specs.declared.place.Place.{Place}
use Rattle.k_num.specs.declared.memory.NoMemory.{NoMemory}
use Rattle.k_tree.specs.declared.tokens.Token.{Token}
use Rattle.k_lex_groups.specs.Steps.{Opens}
use Rattle.k_lex_lines.specs.declared.lines.Placed.{Placed}
use Rattle.k_lex_lines.specs.declared.lines.Fault.{Fault}
use Rattle.k_lex_lines.specs.declared.lines.Line.{Line}
use Rattle.k_lex_lines.specs.declared.lines.Line.TheVariants as l
use Rattle.k_lex_lines.specs.declared.rules.Rules.{Rules}
use Rattle.k_lex_lines.specs.declared.state.State.{State}
use Rattle.k_lex_lines.specs.Lines.{text_of, behind_text, cut_by}
use Rattle.k_lex_lines.specs.Directives.{Decides}
use Rattle.k_lex_lines.specs.Reading.{Turn, stops, goes, formed, opening, turn, Reads, Answer}
use Rattle.k_lex_reading.specs.declared.fault.ReadFault.{ReadFault}
use Rattle.k_lex_reading.specs.declared.fault.ReadFault.TheVariants as stop

-- these are open, or nothing can stand here
abbrev pub Changes : Result Bool NoMemory → Option Opens → State → State → Type 0
Changes (Ok true) want old new = (want ≡ Some new.opens) × (new ≡ opening new.opens old)
Changes (Ok false) want old new = want ≡ None
Changes (Err _) want old new = Unit {0}

-- what a turn does that reads nothing
abbrev pub Does : {X : Type 0} → Result X ReadFault → Turn → State → Type 0
Does (Ok _) t new = t ≡ goes new
Does (Err (stop.Refused f)) t new = t ≡ stops f
Does (Err stop.Memory) t new = Unit {0}

-- a form is right, or isn't looked at
abbrev pub Looks : {X : Type 0} → Result X ReadFault → Bool → Option Fault → Type 0
Looks (Ok _) looked form = (t : Turn) → (if looked then formed form t else t) ≡ t
Looks (Err (stop.Refused f)) looked form = (t : Turn) → (if looked then formed form t else t) ≡ stops f
Looks (Err stop.Memory) looked form = Unit {0}

-- the lines behind a line that does this are read from here on, or it is refused
abbrev pub Leads : {X : Type 0} → Result X ReadFault → Rules → State → Turn → State → Type 0
Leads (Ok _) rules old t new = (line : Line) (lines : List Line) (r : Answer) → turn rules old line ≡ t → Reads rules new lines r → Reads rules old (line ∷ lines) r
Leads (Err (stop.Refused f)) rules old t new = (line : Line) (lines : List Line) → turn rules old line ≡ t → Reads rules old (line ∷ lines) (Err f)
Leads (Err stop.Memory) rules old t new = Unit {0}

-- with so much made
abbrev pub making : ℕ → State → State
making made s = record { macros = s.macros; opens = s.opens; count = record { made = made; sizes = s.count.sizes } }

-- a condition was decided
pub record WasDecided (rules : Rules) (hash : Place) (ts : List Placed) (holds : Bool) (old new : State) : Type 0 where
  pub decides : Decides rules old.macros hash old.count.made ts (Ok (holds, new.count.made))
  pub is : new ≡ making new.count.made old

-- a condition
abbrev pub Evaluates : Result Bool ReadFault → Rules → Place → List Placed → State → State → Type 0
Evaluates (Ok holds) rules hash ts old new = WasDecided rules hash ts holds old new
Evaluates (Err (stop.Refused f)) rules hash ts old new = Decides rules old.macros hash old.count.made ts (Err f)
Evaluates (Err stop.Memory) rules hash ts old new = Unit {0}
