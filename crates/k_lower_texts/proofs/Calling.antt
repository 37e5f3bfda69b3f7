-- What the rules of calls make passes where their arguments do.
use Rattle.std.proofs.Common.{◌≡◌, ℕ, List, [], ◌∷◌, map, Option, Some, None, Bool, true, false, if◌then◌else◌, refl, sym, ◌∙◌, subst}
use Rattle.std.specs.Prelude.{◌==◌, ◌||◌, is_some}
use Rattle.std.proofs.lemmas.Bool.{and_from}
use Rattle.std.proofs.lemmas.Option.{same_Some}
use Rattle.k_num.specs.declared.numbers.Kind.{Kind}
use Rattle.k_num.specs.declared.numbers.Kind.TheVariants.{I32}
use Rattle.k_num.specs.declared.place.Place.{Place}
use Rattle.k_num.specs.Kind.{size, promoted}
use Rattle.k_types_meaning.specs.declared.fault.TypeFault.TheVariants as fault
use Rattle.k_types_meaning.specs.declared.names.Library.{Library}
use Rattle.k_types_meaning.specs.declared.names.Library.TheVariants.{Getchar, Putchar, Puts, Printf}
use Rattle.k_types_meaning.specs.declared.names.Meaning.{Meaning}
use Rattle.k_types_meaning.specs.declared.names.Meaning.TheVariants as meaning
use Rattle.k_types_meaning.specs.declared.names.Signature.{Signature}
use Rattle.k_types_meaning.specs.declared.types.CType.{CType}
use Rattle.k_types_meaning.specs.declared.types.CType.TheVariants as ctype
use Rattle.k_types_meaning.specs.declared.types.TType.TheVariants as ttype
use Rattle.k_types_meaning.specs.declared.tree.expression.TExpr.{TExpr, fold_out-TExpr, map-TExpr, out-TExpr}
use Rattle.k_types_meaning.specs.declared.tree.expression.TExpr.TheOpen.{TExpr-F}
use Rattle.k_types_meaning.specs.declared.tree.expression.TExpr.TheVariants as typed
use Rattle.k_types_meaning.specs.CallRules.{Passing, Passes as Passed, WrongKind, WrongCount, passed_before, passing, called_with, function_called, getchar_called, putchar_tree, putchar_called, bytes_step, bytes_in, has_zero, put_line, puts_called, formatted, tree_before, all_formatted, print_trees, print_marks, print_bytes, printf_called, library_called, called, call_rule, all_taken}
use Rattle.k_types_meaning.specs.Conversions.{Typed, at, in_kind, passed}
use Rattle.k_types_meaning.specs.Formats.{FormatMark, marks_of, pieces_of, kinds_taken}
use Rattle.k_types_meaning.specs.Made.{Fine, refused}
use Rattle.k_types_meaning.specs.Names.{Names, meaning_in, meaning_of, library}
use Rattle.k_types_meaning.specs.Operands.{number}
use Rattle.k_types_meaning.specs.Types.{number_kind, told}
use Rattle.k_types_meaning.specs.Units.{is_name}
use Rattle.k_types_meaning.proofs.Fine.{AllOf, IfFine, IfThere}
use Rattle.k_types_meaning.proofs.Folds.{typed_Call, typed_Getchar, typed_Putchar, typed_Puts, typed_Printf}
use Rattle.k_lower_fits.proofs.Calling.{first_of_both}
use Rattle.k_lower_fits.proofs.Named.{NamesEach, found}
use Rattle.k_lower_texts.specs.Laws.{FormatsFollow, NumbersFollow}
use Rattle.k_lower_texts.specs.Passing.{Asks, all_pass, expr_step, expr_passes}
use Rattle.k_lower_texts.proofs.Conversions.{Passes, all_of_them, in_its_kind, is_passed}
use Rattle.k_lower_texts.proofs.Operands.{G}
use Rattle.k_lower_texts.proofs.Small.{SmallMeaning, SmallType}

-- a call of what a name means passes, where it is a function of the source, and its type is small
abbrev pub NameAsks : Asks → List (List ℕ) → List ℕ → Meaning → Type 0
NameAsks asks defined x (meaning.Variable n of fixed) = SmallType of
NameAsks asks defined x (meaning.Object n of fixed) = SmallType of
NameAsks asks defined x (meaning.Function s) = (is_some (meaning_in library x) ≡ false) × (is_name defined x ≡ true → asks.call (told s.result) s.number ≡ true) × SmallType s.result
NameAsks asks defined x (meaning.Library function) = Unit {0}

pub asks_small : (asks : Asks) (defined : List (List ℕ)) (x : List ℕ) (m : Meaning) → NameAsks asks defined x m → SmallMeaning m
asks_small asks defined x (meaning.Variable n of fixed) h = h
asks_small asks defined x (meaning.Object n of fixed) h = h
asks_small asks defined x (meaning.Function s) h = h.2
asks_small asks defined x (meaning.Library function) h = tt

-- the first of two of which the second is not
module _ (asks : Asks) (numbers : NumbersFollow asks) where
  -- what is passed to parameters passes
  abbrev PassingPasses : Passing → Type 0
  PassingPasses (Passed trees) = AllOf (Passes asks) trees
  PassingPasses WrongKind = Unit {0}
  PassingPasses WrongCount = Unit {0}

  before_passes : (o : Option TExpr) (rest : Passing) → IfThere (Passes asks) o → PassingPasses rest → PassingPasses (passed_before o rest)
  before_passes None rest h k = tt
  before_passes (Some e) (Passed trees) h k = (h, k)
  before_passes (Some e) WrongKind h k = tt
  before_passes (Some e) WrongCount h k = tt

  passing_passes : (types : List CType) (args : List Typed) → AllOf (G asks) args → PassingPasses (passing types args)
  passing_passes [] [] h = tt
  passing_passes [] (a ∷ args) h = tt
  passing_passes (t ∷ types) [] h = tt
  passing_passes (t ∷ types) (a ∷ args) h = before_passes (passed t a) (passing types args) (is_passed asks numbers t a (h.0).0) (passing_passes types args h.1)

  -- CALLS of a function
  with_passes : (p : Place) (result : CType) (tree : List TExpr → TExpr) (taken : List ℕ) (given : Passing) → SmallType result → PassingPasses given
      → ((trees : List TExpr) → AllOf (Passes asks) trees → Passes asks (tree trees)) → IfFine (G asks) (called_with p result tree taken given)
  with_passes p result tree taken (Passed trees) small h each = (each trees h, small)
  with_passes p result tree taken WrongKind small h each = tt
  with_passes p result tree taken WrongCount small h each = tt

  function_passes : (p : Place) (s : Signature) (args : List Typed) → SmallType s.result → asks.call (told s.result) s.number ≡ true → AllOf (G asks) args → IfFine (G asks) (function_called p s args)
  function_passes p s args small c h =
      with_passes p s.result (λ trees. typed.Call (at p (told s.result)) s.number trees) (all_taken args) (passing s.params args) small (passing_passes s.params args h)
      (λ trees all.
      typed_Call Bool (expr_step asks) (at p (told s.result)) s.number trees
      ∙ and_from (asks.call (told s.result) s.number) (all_pass (map (expr_passes asks) trees)) c (all_of_them asks trees all))

  -- CALLS of the library
  getchar_is : (p : Place) → Passes asks (typed.Getchar (at p (ttype.Number I32)))
  getchar_is p = typed_Getchar Bool (expr_step asks) (at p (ttype.Number I32))

  getchar_passes : (p : Place) (args : List Typed) → IfFine (G asks) (getchar_called p args)
  getchar_passes p [] = (getchar_is p, tt)
  getchar_passes p (a ∷ args) = tt

  putchar_is : (p : Place) (trees : List TExpr) → AllOf (Passes asks) trees → Passes asks (putchar_tree p trees)
  putchar_is p [] h = getchar_is p
  putchar_is p (tree ∷ trees) h = typed_Putchar Bool (expr_step asks) (at p (ttype.Number I32)) tree ∙ h.0

  putchar_passes : (p : Place) (args : List Typed) → AllOf (G asks) args → IfFine (G asks) (putchar_called p args)
  putchar_passes p args h =
      with_passes p (ctype.Number I32) (putchar_tree p) (all_taken args) (passing (ctype.Number I32 ∷ []) args) tt (passing_passes (ctype.Number I32 ∷ []) args h) (putchar_is p)

  line_passes : (p : Place) (taken : List ℕ) (v : Typed) (o : Option (List ℕ)) → G asks v → IfFine (G asks) (put_line p taken v.tree o)
  line_passes p taken v None h = tt
  line_passes p taken v (Some bytes) h = by (has_zero bytes)
    where
      by : (b : Bool) → IfFine (G asks) (if b then refused (fault.BadFormat p) else Fine (number I32 (typed.Puts (at p (ttype.Number I32)) v.tree) taken))
      by true = tt
      by false = (typed_Puts Bool (expr_step asks) (at p (ttype.Number I32)) v.tree ∙ h.0, tt)

  puts_passes : (p : Place) (args : List Typed) → AllOf (G asks) args → IfFine (G asks) (puts_called p args)
  puts_passes p [] h = tt
  puts_passes p (a ∷ []) h = line_passes p (all_taken (a ∷ [])) a (bytes_in a.tree) h.0
  puts_passes p (a ∷ b ∷ args) h = tt

  -- the bytes of a string that passes
  string_bytes : (x : TExpr-F TExpr) (bytes : List ℕ) → bytes_step x ≡ Some bytes → expr_step asks (map-TExpr TExpr Bool (expr_passes asks) x) ≡ true → asks.bytes bytes ≡ true
  string_bytes (TExpr-F.Str node n b) bytes is h = subst (λ (t : List ℕ). asks.bytes t ≡ true) (same_Some b bytes is) h
  string_bytes _ bytes is h = absurd cc

  bytes_pass : (e : TExpr) (bytes : List ℕ) → bytes_in e ≡ Some bytes → Passes asks e → asks.bytes bytes ≡ true
  bytes_pass e bytes is h = string_bytes (out-TExpr e) bytes is (sym (fold_out-TExpr Bool (expr_step asks) e) ∙ h)

  formatted_passes : (to : Kind) (a : Typed) (o : Option Kind) → G asks a → IfThere (Passes asks) (formatted to a o)
  formatted_passes to a None h = tt
  formatted_passes to a (Some from) h = by (size (promoted from) == size to)
    where
      by : (b : Bool) → IfThere (Passes asks) (if b then Some (in_kind from to a.tree) else None)
      by true = in_its_kind asks numbers from to a.tree h.0
      by false = tt

  tree_before_passes : (o : Option TExpr) (rest : Option (List TExpr)) → IfThere (Passes asks) o → IfThere (AllOf (Passes asks)) rest → IfThere (AllOf (Passes asks)) (tree_before o rest)
  tree_before_passes None rest h k = tt
  tree_before_passes (Some e) None h k = tt
  tree_before_passes (Some e) (Some trees) h k = (h, k)

  all_formatted_pass : (kinds : List Kind) (args : List Typed) → AllOf (G asks) args → IfThere (AllOf (Passes asks)) (all_formatted kinds args)
  all_formatted_pass [] [] h = tt
  all_formatted_pass [] (a ∷ args) h = tt
  all_formatted_pass (kind ∷ kinds) [] h = tt
  all_formatted_pass (kind ∷ kinds) (a ∷ args) h =
      tree_before_passes (formatted kind a (number_kind a.of)) (all_formatted kinds args) (formatted_passes kind a (number_kind a.of) h.0) (all_formatted_pass kinds args h.1)

  print_trees_passes : (p : Place) (marks : List FormatMark) (taken : List ℕ) (o : Option (List TExpr)) → asks.format (pieces_of marks) ≡ true → IfThere (AllOf (Passes asks)) o
      → IfFine (G asks) (print_trees p marks taken o)
  print_trees_passes p marks taken None format h = tt
  print_trees_passes p marks taken (Some trees) format h = (
    typed_Printf Bool (expr_step asks) (at p (ttype.Number I32)) (pieces_of marks) trees
        ∙ and_from (asks.format (pieces_of marks)) (all_pass (map (expr_passes asks) trees)) format (all_of_them asks trees h),
    tt,
  )

  module _ (follow : FormatsFollow asks) where
    print_marks_passes : (p : Place) (taken : List ℕ) (args : List Typed) (o : Option (List FormatMark)) → ((marks : List FormatMark) → o ≡ Some marks → asks.format (pieces_of marks) ≡ true) → AllOf (G asks) args
        → IfFine (G asks) (print_marks p taken args o)
    print_marks_passes p taken args None each h = tt
    print_marks_passes p taken args (Some marks) each h =
        print_trees_passes p marks taken (all_formatted (kinds_taken marks) args) (each marks refl) (all_formatted_pass (kinds_taken marks) args h)

    print_bytes_passes : (p : Place) (taken : List ℕ) (args : List Typed) (o : Option (List ℕ)) → ((bytes : List ℕ) → o ≡ Some bytes → asks.bytes bytes ≡ true) → AllOf (G asks) args
        → IfFine (G asks) (print_bytes p taken args o)
    print_bytes_passes p taken args None each h = tt
    print_bytes_passes p taken args (Some bytes) each h = print_marks_passes p taken args (marks_of bytes) (λ marks is. follow bytes marks (each bytes refl) is) h

    printf_passes : (p : Place) (args : List Typed) → AllOf (G asks) args → IfFine (G asks) (printf_called p args)
    printf_passes p [] h = tt
    printf_passes p (a ∷ args) h = print_bytes_passes p (all_taken (a ∷ args)) args (bytes_in a.tree) (λ bytes is. bytes_pass a.tree bytes is (h.0).0) h.1

    library_passes : (p : Place) (f : Library) (args : List Typed) → AllOf (G asks) args → IfFine (G asks) (library_called p f args)
    library_passes p Getchar args h = getchar_passes p args
    library_passes p Putchar args h = putchar_passes p args h
    library_passes p Puts args h = puts_passes p args h
    library_passes p Printf args h = printf_passes p args h

    called_passes : (defined : List (List ℕ)) (p : Place) (x : List ℕ) (args : List Typed) (o : Option Meaning) → ((m : Meaning) → o ≡ Some m → NameAsks asks defined x m)
        → (is_name defined x || is_some (meaning_in library x)) ≡ true → AllOf (G asks) args → IfFine (G asks) (called p x args o)
    called_passes defined p x args None fits there h = tt
    called_passes defined p x args (Some (meaning.Variable n of fixed)) fits there h = tt
    called_passes defined p x args (Some (meaning.Object n of fixed)) fits there h = tt
    called_passes defined p x args (Some (meaning.Function s)) fits there h =
        let here = fits (meaning.Function s) refl in
        function_passes p s args here.2 (here.1 (first_of_both (is_name defined x) (is_some (meaning_in library x)) here.0 there)) h
    called_passes defined p x args (Some (meaning.Library function)) fits there h = library_passes p function args h

    pub call_passes : (defined : List (List ℕ)) (names : Names) (p : Place) (x : List ℕ) (args : List Typed) → NamesEach (NameAsks asks defined) names
        → (is_name defined x || is_some (meaning_in library x)) ≡ true → AllOf (G asks) args → IfFine (G asks) (call_rule names p x args)
    unfolding call_rule
    call_passes defined names p x args fits there h = called_passes defined p x args (meaning_of names x) (λ m is. found (NameAsks asks defined) names x m fits is) there h
