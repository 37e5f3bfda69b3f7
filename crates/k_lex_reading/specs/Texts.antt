-- For contracts between crates: nobody has to believe it.
-- What the code tells of text in which macros are replaced.
use Rattle.std.specs.Prelude.{◌≡◌, ℕ, List, [], ◌∷◌, ◌++◌, Option, Some, None, Result, Ok, Err, map, drop}
use Rattle.k_num.specs.declared.place.Place.{Place}
use Rattle.k_tree.specs.declared.tokens.Token.{Token}
use Rattle.k_lex_expansion.specs.declared.tokens.Spelled.{Spelled}
use Rattle.k_lex_expansion.specs.declared.macros.Macro.{Macro}
use Rattle.k_lex_lines.specs.declared.lines.Placed.{Placed}
use Rattle.k_lex_lines.specs.declared.lines.Fault.{Fault}
use Rattle.k_lex_lines.specs.declared.rules.Sizes.{Sizes}
use Rattle.k_lex_lines.specs.declared.rules.Limits.{Limits}
use Rattle.k_lex_lines.specs.declared.rules.Count.{Count}
use Rattle.k_lex_lines.specs.Text.{Judge, Judged, TextRead, before, in_text, in_condition, Text}
use Rattle.k_lex_reading.specs.declared.fault.ReadFault.{ReadFault}
use Rattle.k_lex_reading.specs.declared.fault.ReadFault.TheVariants as stop
use Rattle.k_lex_reading.specs.declared.text.Purpose.{Purpose}
use Rattle.k_lex_reading.specs.declared.text.Purpose.TheVariants as purpose
use Rattle.k_lex_reading.specs.Told.{FailsAs}

-- what is made of the tokens of a use
abbrev pub judge_of : Limits → Purpose → Judge
judge_of limits purpose.Source = in_text limits
judge_of limits (purpose.Condition hash) = in_condition hash

-- tokens were added that the judge takes
pub record WasJudged (want : Judged) (sizes : Sizes) (old new : List Token) : Type 0 where
  pub us : List Token
  pub is : want ≡ Ok (us, sizes)
  pub added : new ≡ old ++ us

-- the judge's answer
abbrev pub Judges : Result Sizes ReadFault → Judged → List Token → List Token → Type 0
Judges (Ok sizes) want old new = WasJudged want sizes old new
Judges (Err e) want old new = FailsAs e want

-- a use was read that takes so many tokens of the text behind it
pub record WasUsed (macros : List Macro) (limit : ℕ) (judge : Judge) (cut : Option Fault) (t : Placed) (behind : List Spelled) (taken : ℕ) (count : Count) (old : List Token) (total : Count) (new : List Token) : Type 0 where
  pub us : List Token
  pub added : new ≡ old ++ us
  pub leads : (ts : List Placed) → map (λ (p : Placed). p.token) ts ≡ behind → (read : TextRead) → Text macros limit judge cut total (drop taken ts) read
      → Text macros limit judge cut count (t ∷ ts) (before us read)

-- a text behind that use is refused
abbrev pub TextFails : ReadFault → List Macro → ℕ → Judge → Option Fault → Count → List Placed → Type 0
TextFails (stop.Refused f) macros limit judge cut count ts = Text macros limit judge cut count ts (Err f)
TextFails stop.Memory macros limit judge cut count ts = Unit {0}

-- the use at the front of a text
abbrev pub UsesFirst : Result ℕ ReadFault → List Macro → ℕ → Judge → Option Fault → Placed → List Spelled → Count → List Token → Count → List Token → Type 0
UsesFirst (Ok taken) macros limit judge cut t behind count old total new = WasUsed macros limit judge cut t behind taken count old total new
UsesFirst (Err e) macros limit judge cut t behind count old total new =
    (ts : List Placed) → map (λ (p : Placed). p.token) ts ≡ behind → TextFails e macros limit judge cut count (t ∷ ts)

-- a text gave these tokens, and so much is there behind it
pub record WasRead (macros : List Macro) (limit : ℕ) (judge : Judge) (cut : Option Fault) (ts : List Placed) (count : Count) (old : List Token) (total : Count) (new : List Token) : Type 0 where
  pub us : List Token
  pub added : new ≡ old ++ us
  pub text : Text macros limit judge cut count ts (Ok (us, total))

-- a text
abbrev pub ReadsText : {X : Type 0} → Result X ReadFault → List Macro → ℕ → Judge → Option Fault → List Placed → Count → List Token → Count → List Token → Type 0
ReadsText (Ok _) macros limit judge cut ts count old total new = WasRead macros limit judge cut ts count old total new
ReadsText (Err e) macros limit judge cut ts count old total new = TextFails e macros limit judge cut count ts

-- how far a text is read
pub record TextStands (macros : List Macro) (limit : ℕ) (judge : Judge) (cut : Option Fault) (ts : List Placed) (count : Count) (old : List Token) (rest : List Placed) (behind : List Spelled) (total : Count) (new : List Token) : Type 0 where
  pub us : List Token
  pub added : new ≡ old ++ us
  pub spelled : map (λ (p : Placed). p.token) rest ≡ behind
  pub leads : (read : TextRead) → Text macros limit judge cut total rest read → Text macros limit judge cut count ts (before us read)
