-- Believed with a public law.
-- What directives ask and change: macros and conditions (C17 6.10.1, 6.10.2, 6.10.3).
use Rattle.std.specs.Prelude.{◌≡◌, ℕ, Bool, true, false, ◌&&◌, ◌||◌, not, ◌==◌, List, [], ◌∷◌, ◌++◌, Option, Some, None, Result, Ok, Err, if◌then◌else◌, map, filter, codes, is_some, nat_eq, option_map}
use Rattle.std.specs.Cmp.Lexicographic.{pointwise}
use Rattle.std.specs.List.{list_any}
use Rattle.k_num.specs.declared.place.Place.{Place}
use Rattle.k_tree.specs.declared.tokens.Token.{Token}
use Rattle.k_tree.specs.declared.tokens.TokenKind.{TokenKind}
use Rattle.k_lex_pieces.specs.declared.fault.Fault as pieces
use Rattle.k_lex_pieces.specs.Bytes.{same}
use Rattle.k_lex_pieces.specs.Pieces.{is_name}
use Rattle.k_lex_macros.specs.Macros.{same_kind}
use Rattle.k_lex_conditions.specs.declared.value.Known.{Known}
use Rattle.k_lex_conditions.specs.Conditions.{IsDecided}
use Rattle.k_lex_expansion.specs.declared.macros.Macro.{Macro}
use Rattle.k_lex_expansion.specs.declared.macros.Chain.{Chain}
use Rattle.k_lex_expansion.specs.declared.macros.Operand.{Operand}
use Rattle.k_lex_expansion.specs.declared.macros.Operand.TheVariants as o
use Rattle.k_lex_expansion.specs.Expansion.{named}
use Rattle.k_lex_lines.specs.declared.lines.Placed.{Placed}
use Rattle.k_lex_lines.specs.declared.lines.Wrong.{Wrong}
use Rattle.k_lex_lines.specs.declared.lines.Fault.{Fault}
use Rattle.k_lex_lines.specs.declared.rules.Header.{Header}
use Rattle.k_lex_lines.specs.declared.rules.Rules.{Rules}
use Rattle.k_lex_lines.specs.declared.lines.Wrong.TheVariants as wrong
use Rattle.k_lex_lines.specs.Lines.{fault_at}
use Rattle.k_lex_lines.specs.Text.{TextRead, Text, in_condition, kind_of}

-- ---- macros

-- two results are one token
abbrev pub one_kind : Result TokenKind pieces.Fault → Result TokenKind pieces.Fault → Bool
one_kind (Ok a) (Ok b) = same_kind a b
one_kind _ _ = false

-- two spellings are of one token
abbrev pub same_token : List ℕ → List ℕ → Bool
same_token a b = same a b || one_kind (kind_of (record { line = 1; column = 1 }) a) (kind_of (record { line = 1; column = 1 }) b)

-- two operands are one
abbrev pub same_operand : Operand → Operand → Bool
same_operand (o.Token a) (o.Token b) = same_token a b
same_operand (o.Parameter a) (o.Parameter b) = a == b
same_operand (o.Text a) (o.Text b) = a == b
same_operand _ _ = false

-- two lists are one, item by item
abbrev pub same_list : {A : Type 0} → (A → A → Bool) → List A → List A → Bool
same_list eq [] [] = true
same_list eq (x ∷ xs) (y ∷ ys) = eq x y && same_list eq xs ys
same_list eq _ _ = false

-- two parts of bodies are one
abbrev pub same_chain : Chain → Chain → Bool
same_chain a b = same_operand a.first b.first && same_list same_operand a.more b.more

-- both have no parameters, or the same
abbrev pub same_parameters : Option (List (List ℕ)) → Option (List (List ℕ)) → Bool
same_parameters None None = true
same_parameters (Some a) (Some b) = same_list same a b
same_parameters _ _ = false

-- two macros have equal parameters and equal bodies (6.10.3p1)
abbrev pub same_macro : Macro → Macro → Bool
same_macro a b = same_parameters a.parameters b.parameters && same_list same_chain a.body b.body

-- the macros with one more that is new, or the same where it is known and equal (6.10.3p2)
abbrev pub with_macro : List Macro → Macro → Option Macro → Option (List Macro)
with_macro macros m None = Some (macros ++ m ∷ [])
with_macro macros m (Some old) = if same_macro old m then Some macros else None

-- a macro is defined, unless another of its name is known
abbrev pub defined : List Macro → Macro → Option (List Macro)
defined macros m = with_macro macros m (named macros m.name)

-- goes on with macros, if there are any
abbrev pub if_defined : (List Macro → Option (List Macro)) → Option (List Macro) → Option (List Macro)
if_defined more None = None
if_defined more (Some macros) = more macros

-- macros are defined, one after another
abbrev pub all_defined : List Macro → List Macro → Option (List Macro)
all_defined macros [] = Some macros
all_defined macros (m ∷ ms) = if_defined (λ new. all_defined new ms) (defined macros m)

-- the macros but the one of this name (6.10.3.5)
abbrev pub undefined : List Macro → List ℕ → List Macro
undefined macros name = filter (λ (m : Macro). not (same m.name name)) macros

-- ---- headers

-- the header of this name
abbrev pub header_named : List Header → List ℕ → Option Header
header_named [] name = None
header_named (h ∷ headers) name = if same h.name name then Some h else header_named headers name

-- a part of a body, a token
abbrev pub part : List ℕ → Chain
part spelling = record { spaced = false; first = o.Token spelling; more = [] }

-- `assert`, which asks nothing where NDEBUG is a macro (7.2p1)
abbrev pub asserting : Bool → Macro
asserting true = record {
  name = codes "assert";
  parameters = Some (codes "e" ∷ []);
  body = map part (codes "(" ∷ codes "(" ∷ codes "void" ∷ codes ")" ∷ codes "0" ∷ codes ")" ∷ []);
}
asserting false = record {
  name = codes "assert";
  parameters = Some (codes "e" ∷ []);
  body = map part (codes "(" ∷ codes "(" ∷ []) ++ (record { spaced = false; first = o.Parameter 0; more = [] }
      ∷ map part (codes ")" ∷ codes "?" ∷ codes "(" ∷ codes "void" ∷ codes ")" ∷ codes "0" ∷ codes ":" ∷ codes "__assert_fail" ∷ codes "(" ∷ codes ")" ∷ codes ")" ∷ []));
}

-- `<assert.h>` defines its macro anew
abbrev pub asserted : List Macro → List Macro
asserted macros = undefined macros (codes "assert") ++ asserting (is_some (named macros (codes "NDEBUG"))) ∷ []

-- what comes of the macros with the header of this name: no header, or another macro of a name
pub data Included : Type 0 where
  no_header : Included
  another_macro : Included
  with_macros : List Macro → Included

-- the macros with those of a header, or another macro of a name
abbrev pub included_of : Option (List Macro) → Included
included_of None = another_macro
included_of (Some macros) = with_macros macros

-- the macros of this header are defined, if there is one
abbrev pub by_header : List Macro → Option Header → Included
by_header macros None = no_header
by_header macros (Some h) = included_of (all_defined macros h.macros)

-- a header is included (6.10.2, 7.2)
abbrev pub included : Rules → List Macro → List ℕ → Included
included rules macros name = if same name (codes "<assert.h>") then with_macros (asserted macros) else by_header macros (header_named rules.headers name)

-- ---- conditions

-- the name is defined: a macro, or a name that is known (6.10.1p1)
abbrev pub is_defined : Rules → List Macro → List ℕ → Bool
is_defined rules macros name = is_some (named macros name) || list_any (λ (k : Known). pointwise nat_eq k.name name) rules.names

-- the token is spelled so
abbrev pub is_text : List ℕ → Placed → Bool
is_text spelling t = same t.token.spelling spelling

-- 1 or 0, in the place of a token
abbrev pub number_for : Bool → Placed → Placed
number_for known t = record { token = record { spelling = if known then codes "1" else codes "0"; spaced = t.token.spaced }; place = t.place }

-- a token before others
abbrev pub with_first : Placed → Option (List Placed) → Option (List Placed)
with_first t ts = option_map (λ (us : List Placed). t ∷ us) ts

abbrev mutual
  -- each `defined NAME` and `defined(NAME)` becomes 1 or 0, where it finds these names; none where a `defined` has another form (6.10.1p1)
  pub found : (List ℕ → Bool) → List Placed → Option (List Placed)
  found names [] = Some []
  found names (t ∷ ts) = if is_text (codes "defined") t then found_behind names t ts else with_first t (found names ts)

  -- behind `defined`
  pub found_behind : (List ℕ → Bool) → Placed → List Placed → Option (List Placed)
  found_behind names d [] = None
  found_behind names d (t ∷ ts) =
      if is_text (codes "(") t then found_inside names d ts
      else (if is_name t.token.spelling then with_first (number_for (names t.token.spelling) d) (found names ts) else None)

  -- behind `defined (`
  pub found_inside : (List ℕ → Bool) → Placed → List Placed → Option (List Placed)
  found_inside names d [] = None
  found_inside names d (t ∷ ts) = if is_name t.token.spelling then found_closed names d (names t.token.spelling) ts else None

  -- behind `defined ( NAME`
  pub found_closed : (List ℕ → Bool) → Placed → Bool → List Placed → Option (List Placed)
  found_closed names d known [] = None
  found_closed names d known (t ∷ ts) = if is_text (codes ")") t then with_first (number_for known d) (found names ts) else None

-- whether a condition holds, and how much is made, or its fault
abbrev pub Decision : Type 0
Decision = Result (Bool × ℕ) Fault

-- the decision of the directive with this `#`, where the tokens are no condition or one that holds or not
abbrev pub decision : Place → ℕ → Option Bool → Decision
decision hash made None = Err (fault_at wrong.BadCondition hash)
decision hash made (Some holds) = Ok (holds, made)

-- a call without its arguments is the directive's fault
abbrev pub of_directive : Place → Wrong → Place → Fault
of_directive hash wrong.MacroArguments place = fault_at wrong.MacroArguments hash
of_directive hash what place = fault_at what place

-- the tokens with their macros replaced are a condition that holds or not, or none (6.10.1p4)
pub record IsDecision (rules : Rules) (hash : Place) (us : List Token) (made : ℕ) (d : Decision) : Type 0 where
  pub holds : Option Bool
  pub decided : IsDecided rules.names (map (λ (u : Token). u.what) us) holds
  pub is : d ≡ decision hash made holds

-- what text gives is decided, or its fault is that of the condition
abbrev pub Decided : Rules → Place → TextRead → Decision → Type 0
Decided rules hash (Err e) d = d ≡ Err (of_directive hash e.what e.place)
Decided rules hash (Ok (us, count)) d = IsDecision rules hash us count.made d

-- the macros in the tokens are replaced, and then they are decided
pub record Evaluates (rules : Rules) (macros : List Macro) (hash : Place) (made : ℕ) (ts : List Placed) (d : Decision) : Type 0 where
  pub read : TextRead
  pub text : Text macros rules.limits.made (in_condition hash) None (record { made = made; sizes = record { tokens = 0; bytes = 0 } }) ts read
  pub decided : Decided rules hash read d

-- the tokens in which each `defined` is replaced are decided; where one has another form there is no condition
abbrev pub DecidesFound : Rules → List Macro → Place → ℕ → Option (List Placed) → Decision → Type 0
DecidesFound rules macros hash made None d = d ≡ Err (fault_at wrong.BadCondition hash)
DecidesFound rules macros hash made (Some ts) d = Evaluates rules macros hash made ts d

-- the condition of the directive with this `#`, where so much is made, is decided so (6.10.1p1 to p4)
abbrev pub Decides : Rules → List Macro → Place → ℕ → List Placed → Decision → Type 0
Decides rules macros hash made ts d = DecidesFound rules macros hash made (found (is_defined rules macros) ts) d
