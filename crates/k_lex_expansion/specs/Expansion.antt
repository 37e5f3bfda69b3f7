-- Believed with a public law.
-- The expansion of a list of tokens (C17 6.10.3.4).
use Rattle.std.specs.Prelude.{◌≡◌, ℕ, ◌+◌, ◌-◌, Bool, true, false, List, [], ◌∷◌, ◌++◌, Option, Some, None, Result, Ok, Err, if◌then◌else◌, length, drop, map, nat_le, codes}
use Rattle.k_lex_expansion.specs.declared.tokens.Spelled.{Spelled}
use Rattle.k_lex_expansion.specs.declared.tokens.Listed.{Listed}
use Rattle.k_lex_expansion.specs.declared.macros.Macro.{Macro}
use Rattle.k_lex_expansion.specs.declared.macros.Chain.{Chain}
use Rattle.k_lex_expansion.specs.declared.arguments.Argument.{Argument}
use Rattle.k_lex_expansion.specs.declared.failure.Failure.{Failure}
use Rattle.k_lex_expansion.specs.declared.failure.Failure.TheVariants as f
use Rattle.k_lex_pieces.specs.Bytes.{same}
use Rattle.k_lex_expansion.specs.Names.{has, both}
use Rattle.k_lex_expansion.specs.Listing.{unhidden, is_spelled, hide, in_place}
use Rattle.k_lex_expansion.specs.Replacing.{replaced, asks}
use Rattle.k_lex_expansion.specs.Calls.{Gathered, gathered, arguments, fits}

-- the tokens of the source behind a list, and whether the source ends with them
pub record Source : Type 0 where
  pub tokens : List Spelled
  pub ends : Bool

-- a list that is expanded, the source behind it, and how much was made before
pub record Work : Type 0 where
  pub list : List Listed
  pub source : Source
  pub made : ℕ

-- an expansion: its tokens, what is left of the source, and how much is made
pub record Done : Type 0 where
  pub tokens : List Listed
  pub source : Source
  pub made : ℕ

-- a call of a macro: the macro's body, the arguments as they are written, the names that it hides, whether it is spaced, and what is behind it
pub record Call : Type 0 where
  pub body : List Chain
  pub arguments : List (List Listed)
  pub names : List (List ℕ)
  pub spaced : Bool
  pub rest : Work

-- the macro of this name
abbrev pub named : List Macro → List ℕ → Option Macro
named [] name = None
named (m ∷ macros) name = if same m.name name then Some m else named macros name

-- the macro that the token uses, unless it is hidden
abbrev pub used : List Macro → Listed → Option Macro
used macros t = if has t.hidden t.spelling then None else named macros t.spelling

-- n more are made, if they are within the limit
abbrev pub counted : ℕ → ℕ → Work → Result Work Failure
counted limit n w = if nat_le (w.made + n) limit then Ok (record w { made = w.made + n }) else Err f.TokensMany

-- The body takes the place of a use: these names are hidden in each of its tokens. The replacement and each of these tokens count.
abbrev pub put_in : ℕ → List (List ℕ) → Bool → Option (List Listed) → Work → Result Work Failure
put_in limit names spaced None rest = Err f.Paste
put_in limit names spaced (Some ts) rest = counted limit (1 + length ts) (record rest { list = in_place spaced (map (hide names) ts) rest.list })

-- the list, and then the source
abbrev pub stream : Work → List Listed
stream w = w.list ++ map unhidden w.source.tokens

-- without the first n tokens of the list and the source
abbrev pub without : ℕ → Work → Work
without n w = record {
  list = drop n w.list;
  source = record { tokens = drop (n - length w.list) w.source.tokens; ends = w.source.ends };
  made = w.made;
}

-- what the first token of a list is
pub data Next : Type 0 where
  over : Next
  kept : Listed → Work → Next
  goes : Result Work Failure → Next
  calls : Call → Next

-- the next token is needed, and there is none: it is cut off, or there is this
abbrev pub missing : Work → Next → Next
missing rest what = if rest.source.ends then what else goes (Err f.Cut)

-- the call of a macro with so many parameters, whose arguments are these
abbrev pub called : Macro → ℕ → Listed → Work → Option Gathered → Next
called m count t rest None = missing rest (goes (Err f.Arguments))
called m count t rest (Some g) =
    if fits count (arguments g)
    then calls (record { body = m.body; arguments = arguments g; names = both t.hidden g.hidden ++ t.spelling ∷ []; spaced = t.spaced; rest = without (g.size + 1) rest })
    else goes (Err f.Arguments)

-- the name of a macro with so many parameters is used where `(` is next
abbrev pub opened : Macro → ℕ → Listed → Work → List Listed → Next
opened m count t rest [] = missing rest (kept t rest)
opened m count t rest (u ∷ us) = if is_spelled (codes "(") u then called m count t rest (gathered us 0) else kept t rest

-- the use of a macro, with the list of its parameters if it has one
abbrev pub by_parameters : ℕ → Macro → Option (List (List ℕ)) → Listed → Work → Next
by_parameters limit m None t rest = goes (put_in limit (t.hidden ++ t.spelling ∷ []) t.spaced (replaced [] m.body) rest)
by_parameters limit m (Some parameters) t rest = opened m (length parameters) t rest (stream rest)

-- a token that uses this macro, or none
abbrev pub by_macro : ℕ → Option Macro → Listed → Work → Next
by_macro limit None t rest = kept t rest
by_macro limit (Some m) t rest = by_parameters limit m m.parameters t rest

-- what the first token of a list is
abbrev pub next_of : List Macro → ℕ → List Listed → Work → Next
next_of macros limit [] w = over
next_of macros limit (t ∷ ts) w = by_macro limit (used macros t) t (record w { list = ts })

-- what comes next in the expansion of a list
unfoldable pub next : List Macro → ℕ → Work → Next
next macros limit w = next_of macros limit w.list w

-- a token before an expansion
abbrev pub with_token : Listed → Result Done Failure → Result Done Failure
with_token t (Ok d) = Ok (record d { tokens = t ∷ d.tokens })
with_token t (Err failure) = Err failure

-- the expansions of arguments, and how much is made
abbrev pub Expansions : Type 0
Expansions = Result (List Argument × ℕ) Failure

-- an argument before others
abbrev pub with_argument : List Listed → List Listed → Expansions → Expansions
with_argument written expanded (Ok others) = Ok (record { written = written; expanded = expanded } ∷ others.0, others.1)
with_argument written expanded (Err failure) = Err failure

-- an argument alone: its tokens count, and no source is behind it
abbrev pub by_itself : ℕ → List Listed → ℕ → Result Work Failure
by_itself limit ts made = counted limit (length ts) (record { list = ts; source = record { tokens = []; ends = true }; made = made })

-- the body with these arguments takes the place of the call
abbrev pub finished : ℕ → Call → Expansions → Result Work Failure
finished limit call (Ok args) = put_in limit call.names call.spaced (replaced args.0 call.body) (record call.rest { made = args.1 })
finished limit call (Err failure) = Err failure

mutual
  -- The list is expanded to that. Its first token goes to the result, or what it uses takes its place and the list is looked at again from there.
  pub data Expands (macros : List Macro) (limit : ℕ) : Work → Result Done Failure → Type 0 where
    over : (w : Work) → next macros limit w ≡ Next.over → Expands macros limit w (Ok (record { tokens = []; source = w.source; made = w.made }))
    kept : (w rest : Work) (t : Listed) (r : Result Done Failure) → next macros limit w ≡ Next.kept t rest → Expands macros limit rest r → Expands macros limit w (with_token t r)
    goes : (w : Work) (new : Result Work Failure) (r : Result Done Failure) → next macros limit w ≡ Next.goes new → Continues macros limit new r → Expands macros limit w r
    calls : (w : Work) (call : Call) (args : Expansions) (r : Result Done Failure) → next macros limit w ≡ Next.calls call
        → AreExpanded macros limit call.body 0 call.arguments call.rest.made args → Continues macros limit (finished limit call args) r → Expands macros limit w r

  -- the expansion goes on with that list, or it has failed
  pub data Continues (macros : List Macro) (limit : ℕ) : Result Work Failure → Result Done Failure → Type 0 where
    on : (w : Work) (r : Result Done Failure) → Expands macros limit w r → Continues macros limit (Ok w) r
    failed : (failure : Failure) → Continues macros limit (Err failure) (Err failure)

  -- the arguments of a macro with this body, from that of the parameter n on, one after another: one that the body asks for is expanded alone
  pub data AreExpanded (macros : List Macro) (limit : ℕ) : List Chain → ℕ → List (List Listed) → ℕ → Expansions → Type 0 where
    none : (body : List Chain) (n made : ℕ) → AreExpanded macros limit body n [] made (Ok ([], made))
    unasked : (body : List Chain) (n made : ℕ) (ts : List Listed) (more : List (List Listed)) (args : Expansions) → asks n body ≡ false
        → AreExpanded macros limit body (n + 1) more made args → AreExpanded macros limit body n (ts ∷ more) made (with_argument ts [] args)
    asked : (body : List Chain) (n made : ℕ) (ts : List Listed) (more : List (List Listed)) (d : Done) (args : Expansions) → asks n body ≡ true
        → Continues macros limit (by_itself limit ts made) (Ok d) → AreExpanded macros limit body (n + 1) more d.made args
        → AreExpanded macros limit body n (ts ∷ more) made (with_argument ts d.tokens args)
    fails : (body : List Chain) (n made : ℕ) (ts : List Listed) (more : List (List Listed)) (failure : Failure) → asks n body ≡ true
        → Continues macros limit (by_itself limit ts made) (Err failure) → AreExpanded macros limit body n (ts ∷ more) made (Err failure)
