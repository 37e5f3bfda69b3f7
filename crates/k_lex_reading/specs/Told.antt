-- For contracts between crates: nobody has to believe it.
-- What the code tells, where it may stop for a fault or for want of memory.
use Rattle.std.specs.Prelude.{◌≡◌, ℕ, Bool, true, false, List, [], ◌∷◌, ◌++◌, Option, Some, None, Result, Ok, Err, if◌then◌else◌}
use Rattle.k_num.specs.declared.place.Place.{Place}
use Rattle.k_num.specs.declared.memory.NoMemory.{NoMemory}
use Rattle.k_tree.specs.declared.tokens.Token.{Token}
use Rattle.k_tree.specs.declared.tokens.TokenKind.{TokenKind}
use Rattle.k_lex_pieces.specs.declared.fault.Fault as pieces
use Rattle.k_lex_expansion.specs.declared.tokens.Listed.{Listed}
use Rattle.k_lex_expansion.specs.declared.macros.Macro.{Macro}
use Rattle.k_lex_lines.specs.declared.lines.Fault.{Fault}
use Rattle.k_lex_lines.specs.declared.rules.Sizes.{Sizes}
use Rattle.k_lex_lines.specs.Text.{before_tokens, tokens_of, fits, sized, spelled}
use Rattle.k_lex_reading.specs.declared.fault.ReadFault.{ReadFault}
use Rattle.k_lex_reading.specs.declared.fault.ReadFault.TheVariants as stop

-- the fault is the one of what is wanted, unless memory ran out
abbrev pub FailsAs : {Y : Type 0} → ReadFault → Result Y Fault → Type 0
FailsAs (stop.Refused f) want = want ≡ Err f
FailsAs stop.Memory want = Unit {0}

-- what a call answered, seen by view, is what is wanted, unless memory ran out
abbrev pub Tells : {X Y : Type 0} → (X → Y) → Result X ReadFault → Result Y Fault → Type 0
Tells view (Ok x) want = want ≡ Ok (view x)
Tells view (Err e) want = FailsAs e want

-- tokens before a list of others, or the first fault
abbrev pub tokens_before : List Token → Result (List Token) Fault → Result (List Token) Fault
tokens_before us (Ok vs) = Ok (us ++ vs)
tokens_before us (Err e) = Err e

-- tokens were added that are these, or the fault is theirs
abbrev pub Adds : {X : Type 0} → Result X ReadFault → List Token → List Token → Result (List Token) Fault → Type 0
Adds (Ok _) old new want = Ok new ≡ tokens_before old want
Adds (Err e) old new want = FailsAs e want

-- the kind, if there is one
abbrev pub kind_in : Result TokenKind pieces.Fault → Option TokenKind
kind_in (Ok what) = Some what
kind_in (Err e) = None

-- the macros are these, or there are none
abbrev pub Makes : Result Bool NoMemory → List Macro → Option (List Macro) → Type 0
Makes (Ok true) new want = want ≡ Some new
Makes (Ok false) new want = want ≡ None
Makes (Err _) new want = Unit {0}

-- how much there is with more, if it may be there
abbrev pub Fitting : Option Sizes → Sizes → Bool → Type 0
Fitting (Some sizes) want fit = (sizes ≡ want) × (fit ≡ true)
Fitting None want fit = fit ≡ false
