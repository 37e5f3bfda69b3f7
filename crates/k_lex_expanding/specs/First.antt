-- For contracts between crates: nobody has to believe it.
-- What the code tells of the first token of a list.
use Rattle.std.specs.Prelude.{◌≡◌, ℕ, ◌+◌, ◌-◌, ◌*◌, ◌≤◌, Bool, List, [], ◌∷◌, Option, Some, None, Result, Ok, Err, if◌then◌else◌, length, drop, slice_get, codes}
use Rattle.k_num.specs.declared.memory.NoMemory.{NoMemory}
use Rattle.k_lex_expansion.specs.declared.tokens.Spelled.{Spelled}
use Rattle.k_lex_expansion.specs.declared.tokens.Listed.{Listed}
use Rattle.k_lex_expansion.specs.declared.macros.Macro.{Macro}
use Rattle.k_lex_expansion.specs.declared.failure.Failure.{Failure}
use Rattle.k_lex_expansion.specs.declared.failure.Failure.TheVariants as f
use Rattle.k_lex_expansion.specs.Calls.{gathered}
use Rattle.k_lex_expansion.specs.Listing.{is_spelled}
use Rattle.k_lex_expansion.specs.Expansion.{Work, Next, stream, called, opened, by_parameters}
use Rattle.k_lex_expanding.specs.declared.calls.OpenCall.{OpenCall}
use Rattle.k_lex_expanding.specs.declared.first.First.{First}
use Rattle.k_lex_expanding.specs.declared.first.First.TheVariants as first
use Rattle.k_lex_expanding.specs.Macros.{body_of}

-- a list, these tokens of the source behind it, and how much is made
abbrev pub work : List Listed → List Spelled → Bool → ℕ → Work
work list source ends made = record { list = list; source = record { tokens = source; ends = ends }; made = made }

-- whether the first token is `(`, if there is one
abbrev pub opens_of : List Listed → Option Bool
opens_of [] = None
opens_of (t ∷ ts) = Some (is_spelled (codes "(") t)

-- why a call is not closed
abbrev pub unclosed_as : Bool → Failure
unclosed_as ends = if ends then f.Arguments else f.Cut

-- the token stays
pub record MeetsKept (n : Next) (t : Listed) (old : List Listed) (made : ℕ) (source : List Spelled) (ends : Bool) (new : List Listed) (total : ℕ) : Type 0 where
  pub is : n ≡ Next.kept t (work old source ends made)
  pub list : new ≡ old
  pub made_is : total ≡ made

-- a body took the place of a name, and is counted
pub record MeetsReplaced (limit : ℕ) (n : Next) (old : List Listed) (made : ℕ) (source : List Spelled) (ends : Bool) (new : List Listed) (total : ℕ) : Type 0 where
  pub is : n ≡ Next.goes (Ok (work new source ends total))
  pub lighter : 2 * (limit - total) + 2 * length new ≤ 2 * (limit - made) + 2 * length old

-- a call was read
pub record MeetsCalls (macros : List Macro) (n : Next) (call : OpenCall) (taken : ℕ) (old : List Listed) (made : ℕ) (source : List Spelled) (ends : Bool) (new : List Listed) (total : ℕ) : Type 0 where
  pub is : n ≡ Next.calls (record { body = body_of (slice_get macros call.number); arguments = call.waiting; names = call.names; spaced = call.spaced; rest = work new (drop taken source) ends made })
  pub complete : call.complete ≡ []
  pub lighter : 2 * length call.waiting + 2 * length new + 2 * (length source - taken) ≤ 2 * length old + 2 * length source
  pub within : taken ≤ length source
  pub made_is : total ≡ made

-- the code tells what comes next
abbrev pub Meets : Result First NoMemory → List Macro → ℕ → Next → List Listed → ℕ → List Spelled → Bool → List Listed → ℕ → Type 0
Meets (Ok (first.Kept t)) macros limit n old made source ends new total = MeetsKept n t old made source ends new total
Meets (Ok first.Replaced) macros limit n old made source ends new total = MeetsReplaced limit n old made source ends new total
Meets (Ok (first.Fails failure)) macros limit n old made source ends new total = n ≡ Next.goes (Err failure)
Meets (Ok (first.Calls call taken)) macros limit n old made source ends new total = MeetsCalls macros n call taken old made source ends new total
Meets (Err _) macros limit n old made source ends new total = Unit {0}

-- the same behind the name and the `(` of a call
abbrev pub MeetsCall : Result First NoMemory → ℕ → ℕ → Listed → List Listed → List Spelled → Bool → List Listed → Type 0
MeetsCall result number count t old source ends new =
    (macros : List Macro) (m : Macro) (limit made : ℕ) → slice_get macros number ≡ Some m
    → Meets result macros limit (called m count t (work old source ends made) (gathered (drop 1 (stream (work old source ends made))) 0)) old made source ends new made

-- the same behind the name of a macro with parameters
abbrev pub MeetsOpen : Result First NoMemory → ℕ → ℕ → Listed → List Listed → List Spelled → Bool → List Listed → Type 0
MeetsOpen result number count t old source ends new =
    (macros : List Macro) (m : Macro) (limit made : ℕ) → slice_get macros number ≡ Some m
    → Meets result macros limit (opened m count t (work old source ends made) (stream (work old source ends made))) old made source ends new made

-- the same at the use of the macro of this number
abbrev pub MeetsUse : Result First NoMemory → List Macro → ℕ → ℕ → Listed → List Listed → ℕ → List Spelled → Bool → List Listed → ℕ → Type 0
MeetsUse result macros limit number t old made source ends new total =
    (m : Macro) → slice_get macros number ≡ Some m
    → Meets result macros limit (by_parameters limit m m.parameters t (work old source ends made)) old made source ends new total
