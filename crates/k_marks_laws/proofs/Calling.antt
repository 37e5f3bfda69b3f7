-- What the rules of calls make is meant as their arguments are.
use Rattle.std.proofs.Common.{ℕ, List, [], ◌∷◌, Option, Some, None, Bool, true, false, if◌then◌else◌}
use Rattle.std.specs.Prelude.{◌==◌}
use Rattle.k_num.specs.declared.numbers.Kind.{Kind}
use Rattle.k_num.specs.declared.numbers.Kind.TheVariants.{I32}
use Rattle.k_num.specs.declared.place.Place.{Place}
use Rattle.k_num.specs.Kind.{size, promoted}
use Rattle.k_types_meaning.specs.declared.fault.TypeFault.TheVariants as fault
use Rattle.k_types_meaning.specs.declared.names.Library.{Library}
use Rattle.k_types_meaning.specs.declared.names.Library.TheVariants.{Getchar, Putchar, Puts, Printf}
use Rattle.k_types_meaning.specs.declared.names.Meaning.{Meaning}
use Rattle.k_types_meaning.specs.declared.names.Meaning.TheVariants as meaning
use Rattle.k_types_meaning.specs.declared.names.Signature.{Signature}
use Rattle.k_types_meaning.specs.declared.types.CType.{CType}
use Rattle.k_types_meaning.specs.declared.types.CType.TheVariants as ctype
use Rattle.k_types_meaning.specs.declared.types.TType.TheVariants as ttype
use Rattle.k_types_meaning.specs.declared.tree.expression.TExpr.{TExpr}
use Rattle.k_types_meaning.specs.declared.tree.expression.TExpr.TheOpen.{TExpr-F}
use Rattle.k_types_meaning.specs.declared.tree.expression.TExpr.TheVariants as typed
use Rattle.k_types_meaning.specs.CallRules.{Passing, Passes, WrongKind, WrongCount, passed_before, passing, called_with, function_called, getchar_called, putchar_tree, putchar_called, bytes_in, has_zero, put_line, puts_called, formatted, tree_before, all_formatted, print_trees, print_marks, print_bytes, printf_called, library_called, called, call_rule, all_taken}
use Rattle.k_types_meaning.specs.Conversions.{Typed, at, in_kind, passed}
use Rattle.k_types_meaning.specs.Formats.{FormatMark, marks_of, pieces_of, kinds_taken}
use Rattle.k_types_meaning.specs.Made.{Fine, refused}
use Rattle.k_types_meaning.specs.Names.{Names, meaning_of}
use Rattle.k_types_meaning.specs.Operands.{value, number}
use Rattle.k_types_meaning.specs.Types.{number_kind, told}
use Rattle.k_types_meaning.proofs.Fine.{IfFine}
use Rattle.k_marks_laws.proofs.Meant.{Meant, Below, AllBelow, AllMeant, all_below, meant_of, kind_below}
use Rattle.k_marks_laws.proofs.Operations.{OptionBelow, passed_below}
use Rattle.k_marks_laws.proofs.Out.{out_Call, out_Getchar, out_Putchar, out_Puts, out_Printf}

module _ (K : ℕ → Kind → Type 0) (count : ℕ) where
  -- what is passed names what the arguments name
  abbrev PassingBelow : Passing → Type 0
  PassingBelow (Passes trees) = AllBelow K count trees
  PassingBelow WrongKind = Unit {0}
  PassingBelow WrongCount = Unit {0}

  before_below : (o : Option TExpr) (rest : Passing) → OptionBelow K count o → PassingBelow rest → PassingBelow (passed_before o rest)
  before_below None rest h k = tt
  before_below (Some e) (Passes trees) h k = (h, k)
  before_below (Some e) WrongKind h k = tt
  before_below (Some e) WrongCount h k = tt

  passing_below : (types : List CType) (args : List Typed) → AllMeant K count args → PassingBelow (passing types args)
  passing_below [] [] h = tt
  passing_below [] (a ∷ args) h = tt
  passing_below (t ∷ types) [] h = tt
  passing_below (t ∷ types) (a ∷ args) h = before_below (passed t a) (passing types args) (passed_below K count t a h.0) (passing_below types args h.1)

  -- CALLS of a function
  with_meant : (p : Place) (result : CType) (tree : List TExpr → TExpr) (taken : List ℕ) (given : Passing) → PassingBelow given
      → ((trees : List TExpr) → AllBelow K count trees → Meant K count (value result (tree trees) taken)) → IfFine (Meant K count) (called_with p result tree taken given)
  with_meant p result tree taken (Passes trees) below each = each trees below
  with_meant p result tree taken WrongKind below each = tt
  with_meant p result tree taken WrongCount below each = tt

  function_meant : (p : Place) (f : Signature) (args : List Typed) → AllMeant K count args → IfFine (Meant K count) (function_called p f args)
  function_meant p f args h =
      with_meant p f.result (λ trees. typed.Call (at p (told f.result)) f.number trees) (all_taken args) (passing f.params args) (passing_below f.params args h)
      (λ trees below.
      meant_of K count (value f.result (typed.Call (at p (told f.result)) f.number trees) (all_taken args)) (TExpr-F.Call (at p (told f.result)) f.number trees)
      (out_Call (at p (told f.result)) f.number trees) (all_below K count trees below) tt tt)

  -- CALLS of the library
  getchar_is : (p : Place) (taken : List ℕ) → Meant K count (number I32 (typed.Getchar (at p (ttype.Number I32))) taken)
  getchar_is p taken =
      meant_of K count (number I32 (typed.Getchar (at p (ttype.Number I32))) taken) (TExpr-F.Getchar (at p (ttype.Number I32))) (out_Getchar (at p (ttype.Number I32))) tt tt tt

  getchar_meant : (p : Place) (args : List Typed) → IfFine (Meant K count) (getchar_called p args)
  getchar_meant p [] = getchar_is p []
  getchar_meant p (a ∷ args) = tt

  putchar_is : (p : Place) (taken : List ℕ) (trees : List TExpr) → AllBelow K count trees → Meant K count (value (ctype.Number I32) (putchar_tree p trees) taken)
  putchar_is p taken [] below = getchar_is p taken
  putchar_is p taken (tree ∷ trees) below =
      meant_of K count (value (ctype.Number I32) (typed.Putchar (at p (ttype.Number I32)) tree) taken) (TExpr-F.Putchar (at p (ttype.Number I32)) tree)
      (out_Putchar (at p (ttype.Number I32)) tree) below.0 tt tt

  putchar_meant : (p : Place) (args : List Typed) → AllMeant K count args → IfFine (Meant K count) (putchar_called p args)
  putchar_meant p args h =
      with_meant p (ctype.Number I32) (putchar_tree p) (all_taken args) (passing (ctype.Number I32 ∷ []) args) (passing_below (ctype.Number I32 ∷ []) args h) (putchar_is p (all_taken args))

  line_meant : (p : Place) (taken : List ℕ) (tree : TExpr) (o : Option (List ℕ)) → Below K count tree → IfFine (Meant K count) (put_line p taken tree o)
  line_meant p taken tree None below = tt
  line_meant p taken tree (Some bytes) below = by (has_zero bytes)
    where
      by : (b : Bool) → IfFine (Meant K count) (if b then refused (fault.BadFormat p) else Fine (number I32 (typed.Puts (at p (ttype.Number I32)) tree) taken))
      by true = tt
      by false =
          meant_of K count (number I32 (typed.Puts (at p (ttype.Number I32)) tree) taken) (TExpr-F.Puts (at p (ttype.Number I32)) tree)
          (out_Puts (at p (ttype.Number I32)) tree) below tt tt

  puts_meant : (p : Place) (args : List Typed) → AllMeant K count args → IfFine (Meant K count) (puts_called p args)
  puts_meant p [] h = tt
  puts_meant p (a ∷ []) h = line_meant p (all_taken (a ∷ [])) a.tree (bytes_in a.tree) h.0.below
  puts_meant p (a ∷ b ∷ args) h = tt

  formatted_below : (to : Kind) (a : Typed) (o : Option Kind) → Meant K count a → OptionBelow K count (formatted to a o)
  formatted_below to a None h = tt
  formatted_below to a (Some from) h = by (size (promoted from) == size to)
    where
      by : (b : Bool) → OptionBelow K count (if b then Some (in_kind from to a.tree) else None)
      by true = kind_below K count from to a.tree h.below
      by false = tt

  abbrev TreesBelow : Option (List TExpr) → Type 0
  TreesBelow None = Unit {0}
  TreesBelow (Some trees) = AllBelow K count trees

  tree_before_below : (o : Option TExpr) (rest : Option (List TExpr)) → OptionBelow K count o → TreesBelow rest → TreesBelow (tree_before o rest)
  tree_before_below None rest h k = tt
  tree_before_below (Some e) None h k = tt
  tree_before_below (Some e) (Some trees) h k = (h, k)

  all_formatted_below : (kinds : List Kind) (args : List Typed) → AllMeant K count args → TreesBelow (all_formatted kinds args)
  all_formatted_below [] [] h = tt
  all_formatted_below [] (a ∷ args) h = tt
  all_formatted_below (kind ∷ kinds) [] h = tt
  all_formatted_below (kind ∷ kinds) (a ∷ args) h =
      tree_before_below (formatted kind a (number_kind a.of)) (all_formatted kinds args) (formatted_below kind a (number_kind a.of) h.0) (all_formatted_below kinds args h.1)

  print_trees_meant : (p : Place) (marks : List FormatMark) (taken : List ℕ) (o : Option (List TExpr)) → TreesBelow o → IfFine (Meant K count) (print_trees p marks taken o)
  print_trees_meant p marks taken None below = tt
  print_trees_meant p marks taken (Some trees) below =
      meant_of K count (number I32 (typed.Printf (at p (ttype.Number I32)) (pieces_of marks) trees) taken) (TExpr-F.Printf (at p (ttype.Number I32)) (pieces_of marks) trees)
      (out_Printf (at p (ttype.Number I32)) (pieces_of marks) trees) (all_below K count trees below) tt tt

  print_marks_meant : (p : Place) (taken : List ℕ) (args : List Typed) (o : Option (List FormatMark)) → AllMeant K count args → IfFine (Meant K count) (print_marks p taken args o)
  print_marks_meant p taken args None h = tt
  print_marks_meant p taken args (Some marks) h = print_trees_meant p marks taken (all_formatted (kinds_taken marks) args) (all_formatted_below (kinds_taken marks) args h)

  print_bytes_meant : (p : Place) (taken : List ℕ) (args : List Typed) (o : Option (List ℕ)) → AllMeant K count args → IfFine (Meant K count) (print_bytes p taken args o)
  print_bytes_meant p taken args None h = tt
  print_bytes_meant p taken args (Some bytes) h = print_marks_meant p taken args (marks_of bytes) h

  printf_meant : (p : Place) (args : List Typed) → AllMeant K count args → IfFine (Meant K count) (printf_called p args)
  printf_meant p [] h = tt
  printf_meant p (a ∷ args) h = print_bytes_meant p (all_taken (a ∷ args)) args (bytes_in a.tree) h.1

  library_meant : (p : Place) (f : Library) (args : List Typed) → AllMeant K count args → IfFine (Meant K count) (library_called p f args)
  library_meant p Getchar args h = getchar_meant p args
  library_meant p Putchar args h = putchar_meant p args h
  library_meant p Puts args h = puts_meant p args h
  library_meant p Printf args h = printf_meant p args h

  called_meant : (p : Place) (x : List ℕ) (args : List Typed) (o : Option Meaning) → AllMeant K count args → IfFine (Meant K count) (called p x args o)
  called_meant p x args None h = tt
  called_meant p x args (Some (meaning.Variable n of fixed)) h = tt
  called_meant p x args (Some (meaning.Object n of fixed)) h = tt
  called_meant p x args (Some (meaning.Function signature)) h = function_meant p signature args h
  called_meant p x args (Some (meaning.Library function)) h = library_meant p function args h

  pub call_meant : (names : Names) (p : Place) (x : List ℕ) (args : List Typed) → AllMeant K count args → IfFine (Meant K count) (call_rule names p x args)
  unfolding call_rule
  call_meant names p x args h = called_meant p x args (meaning_of names x) h
