-- For contracts between crates: nobody has to believe it.
-- How far the expansion of a list is, and what is still owed.
use Rattle.std.specs.Prelude.{◌≡◌, ℕ, ◌+◌, ◌-◌, ◌*◌, ◌<◌, ◌≤◌, Bool, true, List, [], ◌∷◌, ◌++◌, Option, Some, None, Result, Ok, Err, length, drop, slice_get}
use Rattle.k_num.specs.declared.memory.NoMemory.{NoMemory}
use Rattle.k_lex_expansion.specs.declared.tokens.Spelled.{Spelled}
use Rattle.k_lex_expansion.specs.declared.tokens.Listed.{Listed}
use Rattle.k_lex_expansion.specs.declared.macros.Macro.{Macro}
use Rattle.k_lex_expansion.specs.declared.macros.Chain.{Chain}
use Rattle.k_lex_expansion.specs.declared.failure.Failure.{Failure}
use Rattle.k_lex_expansion.specs.Expansion.{Source, Work, Done, Expansions, put_in, Continues}
use Rattle.k_lex_expansion.specs.Replacing.{replaced, asks}
use Rattle.k_lex_expanding.specs.declared.calls.OpenCall.{OpenCall}
use Rattle.k_lex_expanding.specs.declared.calls.Frame.{Frame}
use Rattle.k_lex_expanding.specs.declared.machine.Machine.{Machine}
use Rattle.k_lex_expanding.specs.declared.turn.Turn.{Turn}
use Rattle.k_lex_expanding.specs.declared.turn.Turn.TheVariants as turn
use Rattle.k_lex_expanding.specs.declared.expansion.Expanded.{Expanded}
use Rattle.k_lex_expanding.specs.Macros.{body_of}
use Rattle.k_lex_expanding.specs.Arguments.{Arguments}

-- ---- sources

-- behind an argument there is nothing
abbrev pub nothing_behind : Source
nothing_behind = record { tokens = []; ends = true }

-- the source behind the list, where these calls wait
abbrev pub source_at : List Frame → Source → Source
source_at [] outer = outer
source_at (f ∷ frames) outer = nothing_behind

-- what is left of the source
abbrev pub left_of : List Spelled → Bool → ℕ → Source
left_of source ends taken = record { tokens = drop taken source; ends = ends }

-- ---- what an expansion comes to

-- tokens before an expansion
abbrev pub with_tokens : List Listed → Result Done Failure → Result Done Failure
with_tokens ts (Ok d) = Ok (record d { tokens = ts ++ d.tokens })
with_tokens ts (Err failure) = Err failure

-- these tokens, and what comes of the rest, are the expansion
pub record Comes (macros : List Macro) (limit : ℕ) (tokens : List Listed) (rest : Result Work Failure) (all : Result Done Failure) : Type 0 where
  pub result : Result Done Failure
  pub continues : Continues macros limit rest result
  pub is : all ≡ with_tokens tokens result

-- the first holds of something, and the second of the same
pub record Then (P Q : Result Done Failure → Type 0) : Type 0 where
  pub result : Result Done Failure
  pub first : P result
  pub second : Q result

-- the body with these arguments takes the place of the call
abbrev pub ended : ℕ → List Chain → List (List ℕ) → Bool → List Listed → Source → Expansions → Result Work Failure
ended limit body names spaced list source (Ok args) = put_in limit names spaced (replaced args.0 body) (record { list = list; source = source; made = args.1 })
ended limit body names spaced list source (Err failure) = Err failure

-- the call comes to that, with the tokens before it and the list behind it
pub record CallComes (macros : List Macro) (limit : ℕ) (source : Source) (tokens list : List Listed) (made : ℕ) (call : OpenCall) (all : Result Done Failure) : Type 0 where
  pub args : Expansions
  pub arguments : Arguments macros limit (body_of (slice_get macros call.number)) call.complete call.waiting made args
  pub comes : Comes macros limit tokens (ended limit (body_of (slice_get macros call.number)) call.names call.spaced list source args) all

-- the call with one argument more that is done
abbrev pub with_complete : OpenCall → List Listed → List Listed → OpenCall
with_complete call written expanded = record call { complete = call.complete ++ record { written = written; expanded = expanded } ∷ [] }

-- where the innermost of these calls gets that for its argument, all comes to this
abbrev pub Owes : List Macro → ℕ → Source → List Frame → Result Done Failure → Result Done Failure → Type 0
Owes macros limit outer [] r all = all ≡ r
Owes macros limit outer (f ∷ frames) (Err failure) all = all ≡ Err failure
Owes macros limit outer (f ∷ frames) (Ok d) all =
    Then (CallComes macros limit (source_at frames outer) f.behind.tokens f.behind.list d.made (with_complete f.call f.written d.tokens)) (λ r. Owes macros limit outer frames r all)

-- ---- the machine

-- these tokens and the rest come to that
abbrev pub Stands : List Macro → ℕ → Source → List Frame → List Listed → Result Work Failure → Result Done Failure → Type 0
Stands macros limit outer frames tokens rest all = Then (Comes macros limit tokens rest) (λ r. Owes macros limit outer frames r all)

-- what is left to be expanded
abbrev pub rest_of : List Spelled → Bool → Machine → Work
rest_of source ends m = record { list = m.level.list; source = source_at m.frames (left_of source ends m.taken); made = m.made }

-- the machine comes to that
abbrev pub ComesTo : List Macro → ℕ → List Spelled → Bool → Machine → Result Done Failure → Type 0
ComesTo macros limit source ends m all = Stands macros limit (left_of source ends m.taken) m.frames m.level.tokens (Ok (rest_of source ends m)) all

-- the machine comes to that, once the call is replaced
abbrev pub CallLeads : List Macro → ℕ → List Spelled → Bool → Machine → OpenCall → Result Done Failure → Type 0
CallLeads macros limit source ends m call all =
    Then (CallComes macros limit (source_at m.frames (left_of source ends m.taken)) m.level.tokens m.level.list m.made call) (λ r. Owes macros limit (left_of source ends m.taken) m.frames r all)

-- the start of an expansion
abbrev pub start_of : List Listed → ℕ → Machine
start_of list made = record { level = record { list = list; tokens = [] }; frames = []; made = made; taken = 0 }

-- the tokens of the source behind the list
abbrev pub source_left_at : List Frame → List Spelled → List Spelled
source_left_at [] source = source
source_left_at (f ∷ frames) source = []

-- whether the source ends with them
abbrev pub ends_at : List Frame → Bool → Bool
ends_at [] ends = ends
ends_at (f ∷ frames) ends = true

-- the tokens of the source behind the list of this machine
abbrev pub source_left : Machine → List Spelled → List Spelled
source_left m source = source_left_at m.frames (drop m.taken source)

-- ---- how much is left to do

-- what calls wait for
abbrev pub weight_of : List Frame → ℕ
weight_of [] = 0
weight_of (f ∷ frames) = 1 + 2 * length f.call.waiting + 2 * length f.behind.list + weight_of frames

-- what is left to do
abbrev pub weight : ℕ → List Spelled → Machine → ℕ
weight limit source m = 2 * (limit - m.made) + 2 * length m.level.list + 2 * (length source - m.taken) + weight_of m.frames

-- ---- what steps tell

-- what all comes to, once it is over
abbrev pub over_of : List Spelled → Bool → Machine → Result Done Failure
over_of source ends m = Ok (record { tokens = m.level.tokens; source = left_of source ends m.taken; made = m.made })

-- the machine went on: what it comes to now, it came to before, and less is left to do
pub record Went (macros : List Macro) (limit : ℕ) (source : List Spelled) (ends : Bool) (P : Result Done Failure → Type 0) (before : ℕ) (new : Machine) : Type 0 where
  pub leads : (all : Result Done Failure) → ComesTo macros limit source ends new all → P all
  pub lighter : weight limit source new < before
  pub within : new.taken ≤ length source

-- what a step tells, before which all came to what P says
abbrev pub Turned : Result Turn NoMemory → List Macro → ℕ → List Spelled → Bool → (Result Done Failure → Type 0) → ℕ → Machine → Type 0
Turned (Ok turn.Goes) macros limit source ends P before new = Went macros limit source ends P before new
Turned (Ok turn.Over) macros limit source ends P before new = P (over_of source ends new)
Turned (Ok (turn.Fails failure)) macros limit source ends P before new = P (Err failure)
Turned (Err _) macros limit source ends P before new = Unit {0}

-- what comes of a step that fails, or does not
abbrev pub turn_as : Option Failure → Turn
turn_as None = turn.Goes
turn_as (Some failure) = turn.Fails failure

-- the token comes first
abbrev pub with_first : Listed → Machine → Machine
with_first t m = record m { level = record { list = t ∷ m.level.list; tokens = m.level.tokens } }

-- what a step tells that takes nothing of the source
abbrev pub Steps : Result Turn NoMemory → List Macro → ℕ → Machine → Machine → Type 0
Steps result macros limit old new =
    (source : List Spelled) (ends : Bool) → old.taken ≤ length source → Turned result macros limit source ends (ComesTo macros limit source ends old) (weight limit source old) new

-- what a step tells that goes on with a call
abbrev pub Proceeds : Result Turn NoMemory → List Macro → ℕ → OpenCall → Machine → Machine → Type 0
Proceeds result macros limit call old new =
    (source : List Spelled) (ends : Bool) → old.taken ≤ length source
    → Turned result macros limit source ends (CallLeads macros limit source ends old call) (2 * length call.waiting + weight limit source old) new

-- the call with an argument more that waits
abbrev pub with_waiting : OpenCall → List Listed → OpenCall
with_waiting call written = record call { waiting = written ∷ call.waiting }

-- what a step tells that begins with an argument that the body of the call asks for
abbrev pub Begins : Result Turn NoMemory → ℕ → OpenCall → List Listed → Machine → Machine → Type 0
Begins result limit call written old new =
    (macros : List Macro) → asks (length call.complete) (body_of (slice_get macros call.number)) ≡ true → Proceeds result macros limit (with_waiting call written) old new

-- what a run tells
abbrev pub Ran : Result (Option Failure) NoMemory → List Macro → ℕ → List Spelled → Bool → Machine → Machine → Type 0
Ran (Ok None) macros limit source ends old new = ComesTo macros limit source ends old (over_of source ends new)
Ran (Ok (Some failure)) macros limit source ends old new = ComesTo macros limit source ends old (Err failure)
Ran (Err _) macros limit source ends old new = Unit {0}

-- the expansion that is told
abbrev pub told : List Spelled → Bool → Result Expanded Failure → Result Done Failure
told source ends (Ok d) = Ok (record { tokens = d.tokens; source = left_of source ends d.taken; made = d.made })
told source ends (Err failure) = Err failure
