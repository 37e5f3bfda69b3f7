-- Believed with the theorem on the top call.
-- The rules of calls (C17 6.5.2.2, 7.21).
use Rattle.std.specs.Prelude.{ℕ, ◌==◌, Bool, true, false, if◌then◌else◌, List, [], ◌∷◌, map, Option, Some, None}
use Rattle.std.specs.List.{concat}
use Rattle.k_num.specs.declared.numbers.Kind.{Kind}
use Rattle.k_num.specs.declared.numbers.Kind.TheVariants.{I32}
use Rattle.k_num.specs.declared.place.Place.{Place}
use Rattle.k_num.specs.Kind.{size, promoted}
use Rattle.k_types_meaning.specs.declared.fault.TypeFault.TheVariants as fault
use Rattle.k_types_meaning.specs.declared.types.CType.{CType}
use Rattle.k_types_meaning.specs.declared.types.CType.TheVariants as ctype
use Rattle.k_types_meaning.specs.declared.types.TType.TheVariants as ttype
use Rattle.k_types_meaning.specs.declared.tree.expression.TExpr.{TExpr, out-TExpr}
use Rattle.k_types_meaning.specs.declared.tree.expression.TExpr.TheOpen.{TExpr-F}
use Rattle.k_types_meaning.specs.declared.tree.expression.TExpr.TheVariants as typed
use Rattle.k_types_meaning.specs.Conversions.{Typed, at, in_kind, passed}
use Rattle.k_types_meaning.specs.Formats.{FormatMark, marks_of, pieces_of, kinds_taken}
use Rattle.k_types_meaning.specs.Made.{Made, Fine, refused}
use Rattle.k_types_meaning.specs.declared.names.Library.{Library}
use Rattle.k_types_meaning.specs.declared.names.Library.TheVariants.{Getchar, Putchar, Puts, Printf}
use Rattle.k_types_meaning.specs.declared.names.Signature.{Signature}
use Rattle.k_types_meaning.specs.declared.names.Meaning.{Meaning}
use Rattle.k_types_meaning.specs.declared.names.Meaning.TheVariants as meaning
use Rattle.k_types_meaning.specs.Names.{Names, meaning_of}
use Rattle.k_types_meaning.specs.Operands.{value, number}
use Rattle.k_types_meaning.specs.Types.{number_kind, told}

-- the variables that `&` is applied to in some expressions
abbrev pub all_taken : List Typed → List ℕ
all_taken args = concat (map (λ (a : Typed). a.taken) args)

-- what comes of arguments that are passed to parameters
pub data Passing : Type 0 where
  -- as many as there are parameters, converted
  Passes : List TExpr → Passing
  -- one is of a wrong kind
  WrongKind : Passing
  -- too few or too many
  WrongCount : Passing

-- an argument before others: a wrong kind goes before a wrong count
abbrev pub passed_before : Option TExpr → Passing → Passing
passed_before None rest = WrongKind
passed_before (Some a) (Passes args) = Passes (a ∷ args)
passed_before (Some a) WrongKind = WrongKind
passed_before (Some a) WrongCount = WrongCount

-- C17 6.5.2.2p2: arguments are passed to parameters one by one
abbrev pub passing : List CType → List Typed → Passing
passing [] [] = Passes []
passing [] (a ∷ args) = WrongCount
passing (t ∷ params) [] = WrongCount
passing (t ∷ params) (a ∷ args) = passed_before (passed t a) (passing params args)

-- a call of which the arguments were passed, as the tree says
abbrev pub called_with : Place → CType → (List TExpr → TExpr) → List ℕ → Passing → Made Typed
called_with p result tree taken (Passes args) = Fine (value result (tree args) taken)
called_with p result tree taken WrongKind = refused (fault.Kinds p)
called_with p result tree taken WrongCount = refused (fault.Arity p)

-- C17 6.5.2.2: a call of a function
abbrev pub function_called : Place → Signature → List Typed → Made Typed
function_called p f args =
    called_with p f.result (λ trees. typed.Call (at p (told f.result)) f.number trees) (all_taken args) (passing f.params args)

-- C17 7.21.7.6: getchar takes nothing
abbrev pub getchar_called : Place → List Typed → Made Typed
getchar_called p [] = Fine (number I32 (typed.Getchar (at p (ttype.Number I32))) [])
getchar_called p (a ∷ args) = refused (fault.Arity p)

-- the first of some trees
abbrev pub putchar_tree : Place → List TExpr → TExpr
putchar_tree p [] = typed.Getchar (at p (ttype.Number I32))
putchar_tree p (tree ∷ trees) = typed.Putchar (at p (ttype.Number I32)) tree

-- C17 7.21.7.8: putchar takes an int
abbrev pub putchar_called : Place → List Typed → Made Typed
putchar_called p args =
    called_with p (ctype.Number I32) (putchar_tree p) (all_taken args) (passing (ctype.Number I32 ∷ []) args)

-- the bytes of a string
abbrev pub bytes_step : TExpr-F TExpr → Option (List ℕ)
bytes_step (TExpr-F.Str node n bytes) = Some bytes
bytes_step _ = None

-- the bytes of an expression that is a string
abbrev pub bytes_in : TExpr → Option (List ℕ)
bytes_in e = bytes_step (out-TExpr e)

-- the list has a 0
abbrev pub has_zero : List ℕ → Bool
has_zero [] = false
has_zero (b ∷ bytes) = if b == 0 then true else has_zero bytes

-- puts of what may be a string
abbrev pub put_line : Place → List ℕ → TExpr → Option (List ℕ) → Made Typed
put_line p taken tree None = refused (fault.BadFormat p)
put_line p taken tree (Some bytes) =
    if has_zero bytes then refused (fault.BadFormat p)
    else Fine (number I32 (typed.Puts (at p (ttype.Number I32)) tree) taken)

-- C17 7.21.7.9: puts takes one string, which is written up to its end
abbrev pub puts_called : Place → List Typed → Made Typed
puts_called p [] = refused (fault.Arity p)
puts_called p (a ∷ []) = put_line p (all_taken (a ∷ [])) a.tree (bytes_in a.tree)
puts_called p (a ∷ b ∷ args) = refused (fault.Arity p)

-- an argument of printf of a kind that is promoted to one of the size that the format says
abbrev pub formatted : Kind → Typed → Option Kind → Option TExpr
formatted to a None = None
formatted to a (Some from) = if size (promoted from) == size to then Some (in_kind from to a.tree) else None

-- a tree before others, where there are both
abbrev pub tree_before : Option TExpr → Option (List TExpr) → Option (List TExpr)
tree_before None trees = None
tree_before (Some tree) None = None
tree_before (Some tree) (Some trees) = Some (tree ∷ trees)

-- C17 7.21.6.1p9: one argument for each conversion, of its kind
abbrev pub all_formatted : List Kind → List Typed → Option (List TExpr)
all_formatted [] [] = Some []
all_formatted [] (a ∷ args) = None
all_formatted (kind ∷ kinds) [] = None
all_formatted (kind ∷ kinds) (a ∷ args) = tree_before (formatted kind a (number_kind a.of)) (all_formatted kinds args)

-- printf of marks, with its arguments as they are taken
abbrev pub print_trees : Place → List FormatMark → List ℕ → Option (List TExpr) → Made Typed
print_trees p marks taken None = refused (fault.BadFormat p)
print_trees p marks taken (Some trees) =
    Fine (number I32 (typed.Printf (at p (ttype.Number I32)) (pieces_of marks) trees) taken)

-- printf of what may be marks
abbrev pub print_marks : Place → List ℕ → List Typed → Option (List FormatMark) → Made Typed
print_marks p taken args None = refused (fault.BadFormat p)
print_marks p taken args (Some marks) = print_trees p marks taken (all_formatted (kinds_taken marks) args)

-- printf of what may be a string
abbrev pub print_bytes : Place → List ℕ → List Typed → Option (List ℕ) → Made Typed
print_bytes p taken args None = refused (fault.BadFormat p)
print_bytes p taken args (Some bytes) = print_marks p taken args (marks_of bytes)

-- C17 7.21.6.1: printf takes a format first, which is no object, and then an argument for each conversion
abbrev pub printf_called : Place → List Typed → Made Typed
printf_called p [] = refused (fault.BadFormat p)
printf_called p (a ∷ args) = print_bytes p (all_taken (a ∷ args)) args (bytes_in a.tree)

-- a call of a library function
abbrev pub library_called : Place → Library → List Typed → Made Typed
library_called p Getchar args = getchar_called p args
library_called p Putchar args = putchar_called p args
library_called p Puts args = puts_called p args
library_called p Printf args = printf_called p args

-- a call by what the name means
abbrev pub called : Place → List ℕ → List Typed → Option Meaning → Made Typed
called p x args None = refused (fault.Unknown x p)
called p x args (Some (meaning.Variable n of fixed)) = refused (fault.Kinds p)
called p x args (Some (meaning.Object n of fixed)) = refused (fault.Kinds p)
called p x args (Some (meaning.Function signature)) = function_called p signature args
called p x args (Some (meaning.Library function)) = library_called p function args

-- C17 6.5.2.2p1: what is called is a function
unfoldable pub call_rule : Names → Place → List ℕ → List Typed → Made Typed
call_rule names p x args = called p x args (meaning_of names x)
