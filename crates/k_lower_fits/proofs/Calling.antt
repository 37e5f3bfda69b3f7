-- What the rules of calls make is good where their arguments are.
use Rattle.std.proofs.Common.{◌≡◌, ℕ, suc, ◌+◌, List, [], ◌∷◌, map, length, slice_get, Option, Some, None, Bool, true, false, ◌&&◌, if◌then◌else◌, refl, sym, ◌∙◌, ap, subst, arith}
use Rattle.std.specs.Prelude.{◌==◌, ◌||◌, not, nat_eq, is_some, sum}
use Rattle.std.proofs.lemmas.Bool.{and_from, eq-eqb}
use Rattle.std.proofs.lemmas.List.{length-map}
use Rattle.k_num.specs.declared.numbers.Kind.{Kind}
use Rattle.k_num.specs.declared.numbers.Kind.TheVariants.{I32}
use Rattle.k_num.specs.declared.place.Place.{Place}
use Rattle.k_num.specs.Kind.{size, promoted}
use Rattle.k_types_meaning.specs.declared.fault.TypeFault.TheVariants as fault
use Rattle.k_types_meaning.specs.declared.names.Library.{Library}
use Rattle.k_types_meaning.specs.declared.names.Library.TheVariants.{Getchar, Putchar, Puts, Printf}
use Rattle.k_types_meaning.specs.declared.names.Meaning.{Meaning}
use Rattle.k_types_meaning.specs.declared.names.Meaning.TheVariants as meaning
use Rattle.k_types_meaning.specs.declared.names.Signature.{Signature}
use Rattle.k_types_meaning.specs.declared.types.CType.{CType}
use Rattle.k_types_meaning.specs.declared.types.CType.TheVariants as ctype
use Rattle.k_types_meaning.specs.declared.types.TType.TheVariants as ttype
use Rattle.k_types_meaning.specs.declared.tree.expression.TExpr.{TExpr, fold_out-TExpr, map-TExpr, out-TExpr}
use Rattle.k_types_meaning.specs.declared.tree.expression.TExpr.TheOpen.{TExpr-F}
use Rattle.k_types_meaning.specs.declared.tree.expression.TExpr.TheVariants as typed
use Rattle.k_types_meaning.specs.CallRules.{Passing, Passes, WrongKind, WrongCount, passed_before, passing, called_with, function_called, getchar_called, putchar_tree, putchar_called, bytes_step, bytes_in, has_zero, put_line, puts_called, formatted, tree_before, all_formatted, print_trees, print_marks, print_bytes, printf_called, library_called, called, call_rule, all_taken}
use Rattle.k_types_meaning.specs.Conversions.{Typed, at, in_kind, passed}
use Rattle.k_types_meaning.specs.Formats.{FormatMark, marks_of, pieces_of, kinds_taken}
use Rattle.k_types_meaning.specs.Made.{Made, Fine, Faulty, refused}
use Rattle.k_types_meaning.specs.Names.{Names, meaning_in, meaning_of, library}
use Rattle.k_types_meaning.specs.Operands.{value, number}
use Rattle.k_types_meaning.specs.Types.{number_kind, told}
use Rattle.k_types_meaning.specs.Units.{is_name}
use Rattle.k_types_meaning.proofs.Fine.{IfFine}
use Rattle.k_types_meaning.proofs.Folds.{typed_Call, typed_Getchar, typed_Putchar, typed_Puts, typed_Printf}
use Rattle.k_lower_fits.specs.Costs.{Cost, expression, arguments, expr_cost, expr_cost_step}
use Rattle.k_lower_fits.specs.Fits.{Limits, Callee, Use, all_used, call_fits, expr_fits, expr_step}
use Rattle.k_lower_fits.proofs.Named.{NamesEach, found}
use Rattle.k_lower_fits.proofs.Operands.{IsCallee, NameFits}
use Rattle.k_lower_fits.proofs.Ready.{May, number_has_values, pays_less, pays_arguments, sum_cons, Ready, IfReady, AllReady, Good, good_by, good_within, atom, of_one, in_its_kind, is_passed, all_fit, all_paid}

-- the first of two of which the second is not
pub first_of_both : (a b : Bool) → b ≡ false → (a || b) ≡ true → a ≡ true
first_of_both true b none h = refl
first_of_both false b none h = absurd (let e : false ≡ true = sym none ∙ h in cc)

module _ (limits : Limits) where
  -- judged arguments, of trees with so many nodes
  abbrev pub AllGood : List ℕ → List Typed → Type 0
  AllGood ns [] = Unit {0}
  AllGood [] (v ∷ vs) = ⊥
  AllGood (n ∷ ns) (v ∷ vs) = Good limits n v × AllGood ns vs

  -- what is passed to so many parameters
  abbrev PassingReady : List ℕ → ℕ → Passing → Type 0
  PassingReady ns count (Passes trees) = AllReady limits ns trees × (length trees ≡ count)
  PassingReady ns count WrongKind = Unit {0}
  PassingReady ns count WrongCount = Unit {0}

  before_ready : (n : ℕ) (ns : List ℕ) (count : ℕ) (o : Option TExpr) (rest : Passing) → IfReady limits n o → PassingReady ns count rest → PassingReady (n ∷ ns) (count + 1) (passed_before o rest)
  before_ready n ns count None rest h k = tt
  before_ready n ns count (Some e) (Passes trees) h k = ((h, k.0), let l : length trees ≡ count = k.1 in omega (arith, l))
  before_ready n ns count (Some e) WrongKind h k = tt
  before_ready n ns count (Some e) WrongCount h k = tt

  passing_ready : (types : List CType) (ns : List ℕ) (args : List Typed) → AllGood ns args → PassingReady ns (length types) (passing types args)
  passing_ready [] ns [] h = (tt, refl)
  passing_ready [] ns (a ∷ args) h = tt
  passing_ready (t ∷ types) ns [] h = tt
  passing_ready (t ∷ types) [] (a ∷ args) h = absurd h
  passing_ready (t ∷ types) (n ∷ ns) (a ∷ args) h =
      subst (λ (k : ℕ). PassingReady (n ∷ ns) k (passed_before (passed t a) (passing types args))) (let e : length types + 1 ≡ suc (length types) = omega arith in e)
      (before_ready n ns (length types) (passed t a) (passing types args) (is_passed limits n t a h.0) (passing_ready types ns args h.1))

  -- CALLS of a function
  with_good : (p : Place) (ns : List ℕ) (count : ℕ) (result : CType) (tree : List TExpr → TExpr) (taken : List ℕ) (given : Passing) → PassingReady ns count given
      → ((trees : List TExpr) → AllReady limits ns trees → length trees ≡ count → Good limits (1 + sum ns) (value result (tree trees) taken))
      → IfFine (Good limits (1 + sum ns)) (called_with p result tree taken given)
  with_good p ns count result tree taken (Passes trees) h each = each trees h.0 h.1
  with_good p ns count result tree taken WrongKind h each = tt
  with_good p ns count result tree taken WrongCount h each = tt

  call_is : (s : Signature) (c : IsCallee limits s) (count : ℕ) (used : Bool) → count ≡ length s.params → May s.result used → call_fits (slice_get limits.callees s.number) count used ≡ true
  call_is s c count used many may =
      subst (λ (o : Option Callee). call_fits o count used ≡ true) (sym c.there)
      (and_from (nat_eq c.f.params count) (not used || c.f.gives) (eq-eqb c.f.params count (c.params ∙ sym many)) (subst (λ (b : Bool). (not used || b) ≡ true) (sym c.gives) may))

  function_good : (p : Place) (s : Signature) (ns : List ℕ) (args : List Typed) → IsCallee limits s → AllGood ns args → IfFine (Good limits (1 + sum ns)) (function_called p s args)
  function_good p s ns args c h =
      with_good p ns (length s.params) s.result (λ trees. typed.Call (at p (told s.result)) s.number trees) (all_taken args) (passing s.params args) (passing_ready s.params ns args h)
      (λ trees all many.
      good_by limits (1 + sum ns) (value s.result (typed.Call (at p (told s.result)) s.number trees) (all_taken args))
      (λ used. call_fits (slice_get limits.callees s.number) (length (map (expr_fits limits) trees)) used && all_used (map (expr_fits limits) trees)) (expression (arguments (map expr_cost trees)))
      (typed_Call Use (expr_step limits) (at p (told s.result)) s.number trees) (typed_Call Cost expr_cost_step (at p (told s.result)) s.number trees)
      (λ used may. and_from (call_fits (slice_get limits.callees s.number) (length (map (expr_fits limits) trees)) used) (all_used (map (expr_fits limits) trees))
      (call_is s c (length (map (expr_fits limits) trees)) used (length-map trees (expr_fits limits) ∙ many) may) (all_fit limits ns trees all))
      (pays_arguments (sum ns) (arguments (map expr_cost trees)) (all_paid limits ns trees all)))

  -- CALLS of the library
  getchar_is : (p : Place) (total : ℕ) (taken : List ℕ) → Good limits (1 + total) (number I32 (typed.Getchar (at p (ttype.Number I32))) taken)
  getchar_is p total taken =
      good_within limits 1 (1 + total) (number I32 (typed.Getchar (at p (ttype.Number I32))) taken) (omega arith)
      (atom limits (number I32 (typed.Getchar (at p (ttype.Number I32))) taken) (typed_Getchar Use (expr_step limits) (at p (ttype.Number I32))) (typed_Getchar Cost expr_cost_step (at p (ttype.Number I32))))

  getchar_good : (p : Place) (ns : List ℕ) (args : List Typed) → IfFine (Good limits (1 + sum ns)) (getchar_called p args)
  getchar_good p ns [] = getchar_is p (sum ns) []
  getchar_good p ns (a ∷ args) = tt

  putchar_is : (p : Place) (taken : List ℕ) (ns : List ℕ) (trees : List TExpr) → AllReady limits ns trees → Good limits (1 + sum ns) (value (ctype.Number I32) (putchar_tree p trees) taken)
  putchar_is p taken ns [] h = getchar_is p (sum ns) taken
  putchar_is p taken [] (tree ∷ trees) h = absurd h
  putchar_is p taken (n ∷ ns) (tree ∷ trees) h =
      let total : sum (n ∷ ns) ≡ n + sum ns = sum_cons n ns in
      good_within limits (1 + n) (1 + sum (n ∷ ns)) (value (ctype.Number I32) (typed.Putchar (at p (ttype.Number I32)) tree) taken) (omega (arith, total))
      (of_one limits n (value (ctype.Number I32) (typed.Putchar (at p (ttype.Number I32)) tree) taken) tree
      (typed_Putchar Use (expr_step limits) (at p (ttype.Number I32)) tree) (typed_Putchar Cost expr_cost_step (at p (ttype.Number I32)) tree) h.0)

  putchar_good : (p : Place) (ns : List ℕ) (args : List Typed) → AllGood ns args → IfFine (Good limits (1 + sum ns)) (putchar_called p args)
  putchar_good p ns args h =
      with_good p ns 1 (ctype.Number I32) (putchar_tree p) (all_taken args) (passing (ctype.Number I32 ∷ []) args) (passing_ready (ctype.Number I32 ∷ []) ns args h)
      (λ trees all many. putchar_is p (all_taken args) ns trees all)

  -- what is a string fits in any case
  string_fits : (x : TExpr-F TExpr) (bytes : List ℕ) → bytes_step x ≡ Some bytes → expr_step limits (map-TExpr TExpr Use (expr_fits limits) x) true ≡ true
  string_fits (TExpr-F.Str node n b) bytes is = refl
  string_fits _ bytes is = absurd cc

  string_ready : (n : ℕ) (v : Typed) (bytes : List ℕ) → bytes_in v.tree ≡ Some bytes → Good limits n v → Ready limits n v.tree
  string_ready n v bytes is h = record {
    fits = ap (λ (g : Use). g true) (fold_out-TExpr Use (expr_step limits) v.tree) ∙ string_fits (out-TExpr v.tree) bytes is;
    pays = pays_less n (expr_cost v.tree) h.pays;
  }

  line_good : (p : Place) (n : ℕ) (taken : List ℕ) (v : Typed) (o : Option (List ℕ)) → bytes_in v.tree ≡ o → Good limits n v → IfFine (Good limits (1 + n)) (put_line p taken v.tree o)
  line_good p n taken v None is h = tt
  line_good p n taken v (Some bytes) is h = by (has_zero bytes)
    where
      by : (b : Bool) → IfFine (Good limits (1 + n)) (if b then refused (fault.BadFormat p) else Fine (number I32 (typed.Puts (at p (ttype.Number I32)) v.tree) taken))
      by true = tt
      by false =
          of_one limits n (number I32 (typed.Puts (at p (ttype.Number I32)) v.tree) taken) v.tree
          (typed_Puts Use (expr_step limits) (at p (ttype.Number I32)) v.tree) (typed_Puts Cost expr_cost_step (at p (ttype.Number I32)) v.tree)
          (string_ready n v bytes is h)

  widened : (p : Place) (ns : List ℕ) (n : ℕ) (a : Typed) (rest : ℕ) → sum ns ≡ n + rest → IfFine (Good limits (1 + n)) (puts_called p (a ∷ [])) → IfFine (Good limits (1 + sum ns)) (puts_called p (a ∷ []))
  widened p ns n a rest total h = more (puts_called p (a ∷ [])) h
    where
      more : (m : Made Typed) → IfFine (Good limits (1 + n)) m → IfFine (Good limits (1 + sum ns)) m
      more (Fine v) k = good_within limits (1 + n) (1 + sum ns) v (omega (arith, total)) k
      more (Faulty f fs) k = tt

  puts_good : (p : Place) (ns : List ℕ) (args : List Typed) → AllGood ns args → IfFine (Good limits (1 + sum ns)) (puts_called p args)
  puts_good p ns [] h = tt
  puts_good p [] (a ∷ []) h = absurd h
  puts_good p (n ∷ ns) (a ∷ []) h = widened p (n ∷ ns) n a (sum ns) (sum_cons n ns) (line_good p n (all_taken (a ∷ [])) a (bytes_in a.tree) refl h.0)
  puts_good p ns (a ∷ b ∷ args) h = tt

  formatted_ready : (to : Kind) (n : ℕ) (a : Typed) (o : Option Kind) → number_kind a.of ≡ o → Good limits n a → IfReady limits n (formatted to a o)
  formatted_ready to n a None is h = tt
  formatted_ready to n a (Some from) is h = by (size (promoted from) == size to)
    where
      by : (b : Bool) → IfReady limits n (if b then Some (in_kind from to a.tree) else None)
      by true = in_its_kind limits n from to a (number_has_values a.of from is) h
      by false = tt

  abbrev TreesReady : List ℕ → Option (List TExpr) → Type 0
  TreesReady ns None = Unit {0}
  TreesReady ns (Some trees) = AllReady limits ns trees

  tree_before_ready : (n : ℕ) (ns : List ℕ) (o : Option TExpr) (rest : Option (List TExpr)) → IfReady limits n o → TreesReady ns rest → TreesReady (n ∷ ns) (tree_before o rest)
  tree_before_ready n ns None rest h k = tt
  tree_before_ready n ns (Some e) None h k = tt
  tree_before_ready n ns (Some e) (Some trees) h k = (h, k)

  all_formatted_ready : (kinds : List Kind) (ns : List ℕ) (args : List Typed) → AllGood ns args → TreesReady ns (all_formatted kinds args)
  all_formatted_ready [] ns [] h = tt
  all_formatted_ready [] ns (a ∷ args) h = tt
  all_formatted_ready (kind ∷ kinds) ns [] h = tt
  all_formatted_ready (kind ∷ kinds) [] (a ∷ args) h = absurd h
  all_formatted_ready (kind ∷ kinds) (n ∷ ns) (a ∷ args) h =
      tree_before_ready n ns (formatted kind a (number_kind a.of)) (all_formatted kinds args) (formatted_ready kind n a (number_kind a.of) refl h.0) (all_formatted_ready kinds ns args h.1)

  print_trees_good : (p : Place) (n : ℕ) (ns : List ℕ) (marks : List FormatMark) (taken : List ℕ) (o : Option (List TExpr)) → TreesReady ns o → IfFine (Good limits (1 + sum (n ∷ ns))) (print_trees p marks taken o)
  print_trees_good p n ns marks taken None h = tt
  print_trees_good p n ns marks taken (Some trees) h =
      let v : Typed = number I32 (typed.Printf (at p (ttype.Number I32)) (pieces_of marks) trees) taken in
      let total : sum (n ∷ ns) ≡ n + sum ns = sum_cons n ns in
      good_within limits (1 + sum ns) (1 + sum (n ∷ ns)) v (omega (arith, total))
      (good_by limits (1 + sum ns) v (λ used. all_used (map (expr_fits limits) trees)) (expression (arguments (map expr_cost trees)))
      (typed_Printf Use (expr_step limits) (at p (ttype.Number I32)) (pieces_of marks) trees) (typed_Printf Cost expr_cost_step (at p (ttype.Number I32)) (pieces_of marks) trees)
      (λ used may. all_fit limits ns trees h) (pays_arguments (sum ns) (arguments (map expr_cost trees)) (all_paid limits ns trees h)))

  print_marks_good : (p : Place) (n : ℕ) (ns : List ℕ) (taken : List ℕ) (args : List Typed) (o : Option (List FormatMark)) → AllGood ns args → IfFine (Good limits (1 + sum (n ∷ ns))) (print_marks p taken args o)
  print_marks_good p n ns taken args None h = tt
  print_marks_good p n ns taken args (Some marks) h = print_trees_good p n ns marks taken (all_formatted (kinds_taken marks) args) (all_formatted_ready (kinds_taken marks) ns args h)

  print_bytes_good : (p : Place) (n : ℕ) (ns : List ℕ) (taken : List ℕ) (args : List Typed) (o : Option (List ℕ)) → AllGood ns args → IfFine (Good limits (1 + sum (n ∷ ns))) (print_bytes p taken args o)
  print_bytes_good p n ns taken args None h = tt
  print_bytes_good p n ns taken args (Some bytes) h = print_marks_good p n ns taken args (marks_of bytes) h

  printf_good : (p : Place) (ns : List ℕ) (args : List Typed) → AllGood ns args → IfFine (Good limits (1 + sum ns)) (printf_called p args)
  printf_good p ns [] h = tt
  printf_good p [] (a ∷ args) h = absurd h
  printf_good p (n ∷ ns) (a ∷ args) h = print_bytes_good p n ns (all_taken (a ∷ args)) args (bytes_in a.tree) h.1

  library_good : (p : Place) (f : Library) (ns : List ℕ) (args : List Typed) → AllGood ns args → IfFine (Good limits (1 + sum ns)) (library_called p f args)
  library_good p Getchar ns args h = getchar_good p ns args
  library_good p Putchar ns args h = putchar_good p ns args h
  library_good p Puts ns args h = puts_good p ns args h
  library_good p Printf ns args h = printf_good p ns args h

  called_good : (defined : List (List ℕ)) (p : Place) (x : List ℕ) (ns : List ℕ) (args : List Typed) (o : Option Meaning) → ((m : Meaning) → o ≡ Some m → NameFits limits defined x m)
      → (is_name defined x || is_some (meaning_in library x)) ≡ true → AllGood ns args → IfFine (Good limits (1 + sum ns)) (called p x args o)
  called_good defined p x ns args None fits there h = tt
  called_good defined p x ns args (Some (meaning.Variable n of fixed)) fits there h = tt
  called_good defined p x ns args (Some (meaning.Object n of fixed)) fits there h = tt
  called_good defined p x ns args (Some (meaning.Function s)) fits there h =
      let here = fits (meaning.Function s) refl in
      function_good p s ns args (here.1 (first_of_both (is_name defined x) (is_some (meaning_in library x)) here.0 there)) h
  called_good defined p x ns args (Some (meaning.Library function)) fits there h = library_good p function ns args h

  pub call_good : (defined : List (List ℕ)) (names : Names) (p : Place) (x : List ℕ) (ns : List ℕ) (args : List Typed) → NamesEach (NameFits limits defined) names
      → (is_name defined x || is_some (meaning_in library x)) ≡ true → AllGood ns args → IfFine (Good limits (1 + sum ns)) (call_rule names p x args)
  unfolding call_rule
  call_good defined names p x ns args fits there h = called_good defined p x ns args (meaning_of names x) (λ m is. found (NameFits limits defined) names x m fits is) there h
