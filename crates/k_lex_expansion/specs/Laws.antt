-- Believed with a public law.
-- What holds of expansions.
use Rattle.std.specs.Prelude.{◌≡◌, ℕ, true, false, List, [], ◌∷◌, Some, None, Result, Ok, Err, All, length, map, codes}
use Rattle.k_lex_expansion.specs.declared.tokens.Spelled.{Spelled}
use Rattle.k_lex_expansion.specs.declared.tokens.Listed.{Listed}
use Rattle.k_lex_expansion.specs.declared.macros.Macro.{Macro}
use Rattle.k_lex_expansion.specs.declared.macros.Chain.{Chain}
use Rattle.k_lex_expansion.specs.declared.macros.Operand.{Operand}
use Rattle.k_lex_expansion.specs.declared.macros.Operand.TheVariants as o
use Rattle.k_lex_expansion.specs.declared.failure.Failure.{Failure}
use Rattle.k_lex_expansion.specs.declared.failure.Failure.TheVariants as f
use Rattle.k_lex_expansion.specs.Listing.{fresh}
use Rattle.k_lex_expansion.specs.Expansion.{Work, Done, used, Expands}

-- a list has one expansion, or fails in one way
abbrev pub ExpansionsAreOne : Type 0
ExpansionsAreOne = (macros : List Macro) (limit : ℕ) (w : Work) (r s : Result Done Failure) → Expands macros limit w r → Expands macros limit w s → r ≡ s

-- a list that uses no macro is its own expansion, and takes nothing of the source
abbrev pub PlainListsStay : Type 0
PlainListsStay = (macros : List Macro) (limit : ℕ) (w : Work) → All (λ t. used macros t ≡ None) w.list
    → Expands macros limit w (Ok (record { tokens = w.list; source = w.source; made = w.made }))

-- ---- examples

-- a part of a body without `##`
abbrev pub part : Operand → Chain
part x = record { spaced = false; first = x; more = [] }

-- a token of the source that is spelled so, with a blank before it
abbrev pub spelled : List ℕ → Spelled
spelled spelling = record { spelling = spelling; spaced = true }

-- the use of a name, before these tokens, with which the source ends
abbrev pub use_of : List ℕ → List (List ℕ) → Work
use_of name source = record { list = fresh name ∷ []; source = record { tokens = map spelled source; ends = true }; made = 0 }

-- the greatest number that may be made
abbrev pub limit : ℕ
limit = 2097152

-- that use gives tokens of these spellings, and leaves so many of the source
pub record Gives (macros : List Macro) (name : List ℕ) (source texts : List (List ℕ)) (left : ℕ) : Type 0 where
  pub done : Done
  pub expands : Expands macros limit (use_of name source) (Ok done)
  pub texts_are : map (λ (t : Listed). t.spelling) done.tokens ≡ texts
  pub left_are : length done.source.tokens ≡ left

-- that use fails so
abbrev pub Fails : List Macro → List ℕ → List (List ℕ) → Failure → Type 0
Fails macros name source failure = Expands macros limit (use_of name source) (Err failure)

-- `#define f(a) a*g`, `#define g(a) f(a)`
abbrev pub f_and_g : List Macro
f_and_g =
    record { name = codes "f"; parameters = Some (codes "a" ∷ []); body = part (o.Parameter 0) ∷ part (o.Token (codes "*")) ∷ part (o.Token (codes "g")) ∷ [] } ∷
    record { name = codes "g"; parameters = Some (codes "a" ∷ []); body = part (o.Token (codes "f")) ∷ part (o.Token (codes "(")) ∷ part (o.Parameter 0) ∷ part (o.Token (codes ")")) ∷ [] } ∷
    []

-- what C17 leaves open (6.10.3.4p4, DR 017 of C90) is `2*9*g` for `f(2)(9)`
abbrev pub NestedCallGives : Type 0
NestedCallGives = Gives f_and_g (codes "f") (codes "(" ∷ codes "2" ∷ codes ")" ∷ codes "(" ∷ codes "9" ∷ codes ")" ∷ [])
    (codes "2" ∷ codes "*" ∷ codes "9" ∷ codes "*" ∷ codes "g" ∷ []) 0

-- `#define x y`, `#define y x`
abbrev pub x_and_y : List Macro
x_and_y =
    record { name = codes "x"; parameters = None; body = part (o.Token (codes "y")) ∷ [] } ∷
    record { name = codes "y"; parameters = None; body = part (o.Token (codes "x")) ∷ [] } ∷
    []

-- two names that stand for each other: `x` gives `x`
abbrev pub OwnNameStays : Type 0
OwnNameStays = Gives x_and_y (codes "x") (codes "=" ∷ codes "7" ∷ []) (codes "x" ∷ []) 2

-- `#define C(a,b) a##b`
abbrev pub pasting : List Macro
pasting = record { name = codes "C"; parameters = Some (codes "a" ∷ codes "b" ∷ []); body = record { spaced = true; first = o.Parameter 0; more = o.Parameter 1 ∷ [] } ∷ [] } ∷ []

-- `C(n,1)` gives `n1`, and `C(1,2)` gives `12`
abbrev pub PastingGives : Type 0
PastingGives =
    Gives pasting (codes "C") (codes "(" ∷ codes "n" ∷ codes "," ∷ codes "1" ∷ codes ")" ∷ codes "=" ∷ []) (codes "n1" ∷ []) 1
    × Gives pasting (codes "C") (codes "(" ∷ codes "1" ∷ codes "," ∷ codes "2" ∷ codes ")" ∷ codes ";" ∷ []) (codes "12" ∷ []) 1

-- an empty argument beside `##` is nothing: `C(+,)` gives `+`
abbrev pub PastingNothingGives : Type 0
PastingNothingGives = Gives pasting (codes "C") (codes "(" ∷ codes "+" ∷ codes "," ∷ codes ")" ∷ codes "1" ∷ []) (codes "+" ∷ []) 1

-- `#define S(x) x ## +`: `S(-)` fails, since `-+` is no token
abbrev pub BadPasteFails : Type 0
BadPasteFails = Fails (record { name = codes "S"; parameters = Some (codes "x" ∷ []); body = record { spaced = true; first = o.Parameter 0; more = o.Token (codes "+") ∷ [] } ∷ [] } ∷ [])
    (codes "S") (codes "(" ∷ codes "-" ∷ codes ")" ∷ codes "1" ∷ []) f.Paste

-- `#define F(a) a`: `F(1,2)` fails
abbrev pub TwoArgumentsFail : Type 0
TwoArgumentsFail = Fails (record { name = codes "F"; parameters = Some (codes "a" ∷ []); body = part (o.Parameter 0) ∷ [] } ∷ [])
    (codes "F") (codes "(" ∷ codes "1" ∷ codes "," ∷ codes "2" ∷ codes ")" ∷ []) f.Arguments
