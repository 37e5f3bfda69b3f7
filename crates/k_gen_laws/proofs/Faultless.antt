-- The trees of made programs have no fault in names and types.
use Rattle.std.proofs.Common.{◌≡◌, ℕ, zero, suc, ◌+◌, Bool, true, false, List, [], ◌∷◌, ◌++◌, Option, Some, None, length, if◌then◌else◌, refl, sym, ap, ◌∙◌}
use Rattle.std.specs.Prelude.{codes, map, pos, ℤ}
use Rattle.k_num.specs.declared.numbers.Kind.TheVariants.{I32}
use Rattle.k_num.specs.declared.place.Place.{Place}
use Rattle.k_tree.specs.declared.tokens.word.Word.TheVariants as word
use Rattle.k_tree.specs.declared.tree.declaration.Declarator.{Declarator}
use Rattle.k_tree.specs.declared.tree.declaration.Init.{Init, out-Init, out-roll-Init}
use Rattle.k_tree.specs.declared.tree.declaration.Init.TheOpen.{Init-F}
use Rattle.k_tree.specs.declared.tree.declaration.Init.TheVariants as init
use Rattle.k_tree.specs.declared.tree.expression.Expr.TheVariants as expr
use Rattle.k_tree.specs.declared.tree.statement.Stmt.{Stmt}
use Rattle.k_tree.specs.declared.tree.unit.Item.{Item}
use Rattle.k_tree.specs.declared.tree.unit.Item.TheVariants as item
use Rattle.k_tree.proofs.Folds.{expr_Call, expr_Name, expr_Number, expr_Str, folds, stmt_Declare, stmt_Return}
use Rattle.k_types_meaning.specs.declared.fault.TypeFault.{TypeFault}
use Rattle.k_types_meaning.specs.declared.names.Meaning.TheVariants as meaning
use Rattle.k_types_meaning.specs.declared.names.Signature.{Signature}
use Rattle.k_types_meaning.specs.declared.types.CType.{CType}
use Rattle.k_types_meaning.specs.declared.types.TType.TheVariants as ttype
use Rattle.k_types_meaning.specs.declared.tree.declaration.TDeclarator.{TDeclarator}
use Rattle.k_types_meaning.specs.declared.tree.declaration.TInit.{TInit}
use Rattle.k_types_meaning.specs.declared.tree.declaration.TInit.TheVariants as begins
use Rattle.k_types_meaning.specs.declared.tree.expression.TExpr.{TExpr, out-roll-TExpr}
use Rattle.k_types_meaning.specs.declared.tree.expression.TExpr.TheOpen.{TExpr-F}
use Rattle.k_types_meaning.specs.declared.tree.expression.TExpr.TheVariants as typed
use Rattle.k_types_meaning.specs.declared.tree.statement.TStmt.{TStmt}
use Rattle.k_types_meaning.specs.declared.tree.statement.TStmt.TheVariants as typed_stmt
use Rattle.k_types_meaning.specs.declared.tree.unit.TFunc.{TFunc}
use Rattle.k_types_meaning.proofs.Folds.{typed_Number}
use Rattle.k_types_meaning.specs.CallRules.{bytes_in, bytes_step, call_rule, print_bytes}
use Rattle.k_types_meaning.specs.Called.{Called, all_calls, calls_of_unit, item_calls, stmt_calls}
use Rattle.k_types_meaning.specs.Constants.{constant, form_step, value_of, value_step}
use Rattle.k_types_meaning.specs.Conversions.{Typed, at, in_kind, passed}
use Rattle.k_types_meaning.specs.Declarations.{Object, Saying, as_meaning, declarator_judged, declared_type, entered, has_type, is_twice, names_behind, object_fixed, object_made, saying, type_for, type_or_int}
use Rattle.k_types_meaning.specs.Dimensions.{Sizes, Is, dimensions, joined, size_of_constant}
use Rattle.k_types_meaning.specs.Expressions.{judge, judge_step}
use Rattle.k_types_meaning.specs.Functions.{body_judged, function_judged, function_tree}
use Rattle.k_types_meaning.specs.Initialisers.{Beginning, begun, begun_step, beginning, one_given, string_of}
use Rattle.k_types_meaning.specs.Made.{Made, Fine, Faulty, all_made, both, faults_of, then_made}
use Rattle.k_types_meaning.specs.Names.{Names, Scope, library}
use Rattle.k_types_meaning.specs.Operands.{name_rule, number_rule, string_rule, string_type}
use Rattle.k_types_meaning.specs.Specifiers.{base_of}
use Rattle.k_types_meaning.specs.Statements.{Around, Judged, Known, Statement, SwitchPart, Variable, behind, declare, declare_all, declare_rule, declared, each_in, in_order, judge_body, judge_stmt, judged_as, judged_before, part_step, return_made, return_rule, spot, stmt_step}
use Rattle.k_types_meaning.specs.Types.{told}
use Rattle.k_types_meaning.specs.Units.{Parts, Placed, all_faults, call_faults, faults, items_placed, main_faults, no_parts, object_part, parts_of_both, placed_before, undefined_call, unit_placed}
use Rattle.k_gen_laws.proofs.Judged.{AreFine, HasNames, IsFine, IsFineIn, IsInt, array, filling_fine, fine_expr, int, int_of, knows, loops_fine, more_fine, none_fine}
use Rattle.k_gen_laws.proofs.Trees.{array_item, body_of, declaring, filling, lit, loop_of, loops_from, main_head, printing, returning, simple_declarator, unit_of, var}
use Rattle.k_gen_laws.proofs.Trees as trees

-- ---- the names of a made program

-- the functions that it defines
abbrev defined : List (List ℕ)
defined = codes "main" ∷ []

-- main
abbrev main_type : Signature
main_type = record { result = int; params = []; number = 0 }

-- the names of the file before main, and behind its head
abbrev file_names : Names
file_names = ((codes "a", meaning.Object 0 array false) ∷ []) ∷ library ∷ []

abbrev within_main : Names
within_main = [] ∷ ((codes "main", meaning.Function main_type) ∷ (codes "a", meaning.Object 0 array false) ∷ []) ∷ library ∷ []

-- the names behind the declaration of its variables
abbrev scope : Scope
scope = (codes "s", meaning.Variable 2 int false) ∷ (codes "j", meaning.Variable 1 int false) ∷ (codes "i", meaning.Variable 0 int false) ∷ []

abbrev all_names : Names
all_names = scope ∷ ((codes "main", meaning.Function main_type) ∷ (codes "a", meaning.Object 0 array false) ∷ []) ∷ library ∷ []

abbrev variable : ℕ → Variable
variable column = record { place = trees.at 5 column; of = int }

abbrev all_variables : List Variable
all_variables = variable 5 ∷ variable 7 ∷ variable 9 ∷ []

has_names : HasNames all_names
has_names = record { i = refl; j = refl; s = refl; a = refl }

-- ---- the declaration of its variables

int_lit : (names : Names) (n line column : ℕ) → judge names (lit n line column) ≡ Fine (int_of None (typed.Number (at (trees.at line column) (ttype.Number I32)) (pos n)))
unfolding number_rule
int_lit names n line column = expr_Number (Made Typed) (judge_step names) (trees.at line column) I32 n

-- what lies around the block of main
abbrev main_around : Around
main_around = record { in_loop = false; in_switch = false; result = int }

-- 0 begins an int
abbrev zero_init : Init
zero_init = init.One (trees.at 5 11) (lit 0 5 11)

abbrev zero_tree : TExpr
zero_tree = typed.Number (at (trees.at 5 11) (ttype.Number I32)) (pos 0)

zero_out : out-Init zero_init ≡ Init-F.One (trees.at 5 11) (lit 0 5 11)
zero_out = ap out-Init (sym (init.rolls-One (trees.at 5 11) (lit 0 5 11))) ∙ out-roll-Init (Init-F.One (trees.at 5 11) (lit 0 5 11))

zero_begins : (names : Names) → begun names false (Some int) (Some zero_init) ≡ Fine (beginning (Some (begins.Value zero_tree)) [])
unfolding begun passed in_kind
zero_begins names =
    ap (begun_step names false int) zero_out
    ∙ ap (λ (m : Made Typed). then_made m (λ v. Fine (beginning (one_given false int (string_of (lit 0 5 11)) v) v.taken))) (int_lit names 0 5 11)

-- what the declaration says
abbrev says : Saying
says = saying false (word.Int ∷ [])

abbrev i : Declarator
i = simple_declarator (codes "i") 5 None

abbrev j : Declarator
j = simple_declarator (codes "j") 7 None

abbrev s : Declarator
s = simple_declarator (codes "s") 9 (Some zero_init)

-- what is known before it, and behind each declarator
abbrev before : Known
before = knows within_main []

abbrev names_i : Names
names_i = ((codes "i", meaning.Variable 0 int false) ∷ []) ∷ ((codes "main", meaning.Function main_type) ∷ (codes "a", meaning.Object 0 array false) ∷ []) ∷ library ∷ []

abbrev names_j : Names
names_j =
    ((codes "j", meaning.Variable 1 int false) ∷ (codes "i", meaning.Variable 0 int false) ∷ [])
    ∷ ((codes "main", meaning.Function main_type) ∷ (codes "a", meaning.Object 0 array false) ∷ []) ∷ library ∷ []

abbrev behind_i : Known
behind_i = knows names_i (variable 5 ∷ [])

abbrev behind_j : Known
behind_j = knows names_j (variable 5 ∷ variable 7 ∷ [])

abbrev behind_s : Known
behind_s = knows all_names all_variables

abbrev declared_of : ℕ → ℕ → TInit → TDeclarator
declared_of column n start = record { place = trees.at 5 column; variable = n; init = start }

i_declared : declare says before i ≡ record { made = Fine (declared_of 5 0 begins.Nothing); after = behind_i }
unfolding declare declarator_judged dimensions begun base_of
i_declared = refl

j_declared : declare says behind_i j ≡ record { made = Fine (declared_of 7 1 begins.Nothing); after = behind_j }
unfolding declare declarator_judged dimensions begun base_of
j_declared = refl

-- the last declarator, by what it begins with
abbrev s_of : Made Beginning → Made Object
s_of m =
    both (dimensions names_j []) m
    (λ sizes start. object_made s.place s.name (is_twice names_j s.name) (has_type false says s) (object_fixed says.fixed s.stars)
    (sizes.taken ++ start.taken) (declared_type false says (Fine sizes) s) start.init)

s_begins : begun (names_behind false says 2 names_j s) false (type_for false says (dimensions names_j []) s) (Some zero_init) ≡ Fine (beginning (Some (begins.Value zero_tree)) [])
unfolding dimensions base_of
s_begins = zero_begins (names_behind false says 2 names_j s)

s_judged : declarator_judged false says 2 names_j s ≡ Fine (record { place = trees.at 5 9; name = codes "s"; of = int; fixed = false; init = begins.Value zero_tree; taken = [] })
unfolding declarator_judged dimensions base_of
s_judged = ap s_of s_begins

s_declared : declare says behind_j s ≡ record { made = Fine (declared_of 9 2 (begins.Value zero_tree)); after = behind_s }
unfolding declare dimensions base_of
s_declared = ap (declared says behind_j s) s_judged

all_declared : declare_all says before (i ∷ j ∷ s ∷ [])
    ≡ record { made = Fine (declared_of 5 0 begins.Nothing ∷ declared_of 7 1 begins.Nothing ∷ declared_of 9 2 (begins.Value zero_tree) ∷ []); after = behind_s }
all_declared =
    ap (λ (x : Judged TDeclarator). judged_before x (declare_all says x.after (j ∷ s ∷ []))) i_declared
    ∙ ap (λ (x : Judged TDeclarator). judged_before (record { made = Fine (declared_of 5 0 begins.Nothing); after = behind_i })
    (judged_before x (declare_all says x.after (s ∷ [])))) j_declared
    ∙ ap (λ (x : Judged TDeclarator). judged_before (record { made = Fine (declared_of 5 0 begins.Nothing); after = behind_i })
    (judged_before (record { made = Fine (declared_of 7 1 begins.Nothing); after = behind_j })
    (judged_before x (record { made = Fine []; after = x.after })))) s_declared

-- the statement
declaring_judged : (around : Around) → (tree : TStmt) × (judge_stmt declaring around before ≡ record { made = Fine tree; after = behind_s })
unfolding declare_rule
declaring_judged around = (
  typed_stmt.Declare (spot (trees.at 5 1)) (declared_of 5 0 begins.Nothing ∷ declared_of 7 1 begins.Nothing ∷ declared_of 9 2 (begins.Value zero_tree) ∷ []),
  ap (λ (f : Statement). f around before) (stmt_Declare SwitchPart Statement part_step stmt_step (trees.at 5 1) (word.Int ∷ []) (i ∷ j ∷ s ∷ []))
      ∙ ap (judged_as (typed_stmt.Declare (spot (trees.at 5 1)))) all_declared,
)

-- ---- the call of printf

abbrev format : List ℕ
format = 37 ∷ 100 ∷ 10 ∷ []

module _ (line : ℕ) where
  abbrev text_tree : TExpr
  text_tree = typed.Str (at (trees.at line 8) (told (string_type format))) 0 format

  abbrev s_tree : TExpr
  s_tree = typed.Variable (at (trees.at line 15) (ttype.Number I32)) 2

  abbrev text : Typed
  text = record { tree = text_tree; of = string_type format; place = None; taken = [] }

  text_judged : judge all_names (expr.Str (trees.at line 8) format) ≡ Fine text
  unfolding string_rule
  text_judged = expr_Str (Made Typed) (judge_step all_names) (trees.at line 8) format

  s_known : judge all_names (var (codes "s") line 15) ≡ Fine (int_of (Some false) s_tree)
  unfolding name_rule
  s_known = expr_Name (Made Typed) (judge_step all_names) (trees.at line 15) (codes "s")

  text_bytes : bytes_in text_tree ≡ Some format
  text_bytes =
      ap bytes_in (sym (typed.rolls-Str (at (trees.at line 8) (told (string_type format))) 0 format))
      ∙ ap bytes_step (out-roll-TExpr (TExpr-F.Str (at (trees.at line 8) (told (string_type format))) 0 format))

  -- what is printed
  abbrev printed : Made Typed
  printed = print_bytes (trees.at line 1) [] (int_of (Some false) s_tree ∷ []) (Some format)

  abbrev tree_in : Made Typed → TExpr
  tree_in (Fine v) = v.tree
  tree_in (Faulty f fs) = s_tree

  printed_fine : printed ≡ Fine (int_of None (tree_in printed))
  unfolding in_kind
  printed_fine = refl

  called_judged : call_rule all_names (trees.at line 1) (codes "printf") (text ∷ int_of (Some false) s_tree ∷ []) ≡ Fine (int_of None (tree_in printed))
  unfolding call_rule
  called_judged = ap (print_bytes (trees.at line 1) [] (int_of (Some false) s_tree ∷ [])) text_bytes ∙ printed_fine

  call_judged : IsInt all_names None (expr.Call (trees.at line 1) (codes "printf") (expr.Str (trees.at line 8) format ∷ var (codes "s") line 15 ∷ []))
  call_judged = (
    tree_in printed,
    expr_Call (Made Typed) (judge_step all_names) (trees.at line 1) (codes "printf") (expr.Str (trees.at line 8) format ∷ var (codes "s") line 15 ∷ [])
        ∙ ap (λ (m : Made Typed). then_made (all_made (m ∷ judge all_names (var (codes "s") line 15) ∷ [])) (call_rule all_names (trees.at line 1) (codes "printf"))) text_judged
        ∙ ap (λ (m : Made Typed). then_made (all_made (Fine text ∷ m ∷ [])) (call_rule all_names (trees.at line 1) (codes "printf"))) s_known
        ∙ called_judged,
  )

  printing_fine : IsFine all_names all_variables (printing line)
  printing_fine =
      fine_expr all_names all_variables (trees.at line 1) None
      (expr.Call (trees.at line 1) (codes "printf") (expr.Str (trees.at line 8) format ∷ var (codes "s") line 15 ∷ [])) call_judged

  -- ---- the return

  abbrev return_of : Made Typed → Judged TStmt
  return_of m = record { made = then_made m (λ v. return_made (trees.at line 1) (passed int v)); after = behind behind_s m }

  abbrev return_tree : TExpr
  return_tree = typed.Number (at (trees.at line 8) (ttype.Number I32)) (pos 0)

  returning_fine : IsFineIn main_around all_names all_variables (returning line)
  unfolding return_rule passed in_kind base_of
  returning_fine = (
    typed_stmt.Return (spot (trees.at line 1)) (Some return_tree),
    ap (λ (f : Statement). f main_around behind_s) (stmt_Return SwitchPart Statement part_step stmt_step (trees.at line 1) (Some (lit 0 line 8)))
        ∙ ap return_of (int_lit all_names 0 line 8),
  )

-- ---- main

module _ (xs : List (ℕ × ℕ)) where
  abbrev line : ℕ
  line = 7 + length xs

  abbrev body : List Stmt
  body = body_of (loops_from 7 xs) line

  abbrev behind_declaring : List Stmt
  behind_declaring = filling ∷ (loops_from 7 xs ++ printing line ∷ returning (line + 1) ∷ [])

  rest_fine : AreFine main_around all_names all_variables behind_declaring
  rest_fine =
      more_fine main_around all_names all_variables filling (loops_from 7 xs ++ printing line ∷ returning (line + 1) ∷ [])
      (filling_fine all_names all_variables has_names main_around)
      (loops_fine main_around all_names all_variables has_names 7 xs (printing line ∷ returning (line + 1) ∷ [])
      (more_fine main_around all_names all_variables (printing line) (returning (line + 1) ∷ []) (printing_fine line main_around)
      (more_fine main_around all_names all_variables (returning (line + 1)) [] (returning_fine (line + 1)) (none_fine main_around all_names all_variables))))

  abbrev first_judged : TStmt
  first_judged = (declaring_judged main_around).0

  body_fine : in_order before (each_in main_around (map judge_stmt body)) ≡ record { made = Fine (first_judged ∷ rest_fine.0); after = behind_s }
  body_fine =
      ap (λ (x : Judged TStmt). judged_before x (in_order x.after (each_in main_around (map judge_stmt behind_declaring)))) (declaring_judged main_around).1
      ∙ ap (λ (x : Judged (List TStmt)). judged_before (record { made = Fine first_judged; after = behind_s }) x) rest_fine.1

  abbrev at_main : Place
  at_main = trees.at 3 1

  abbrev at_close : Place
  at_close = trees.at (line + 1 + 1) 1

  abbrev no_params : Judged (List CType)
  no_params = record { made = Fine []; after = record { names = [] ∷ file_names; variables = []; taken = [] } }

  abbrev main_of : Judged (List TStmt) → Made TFunc
  main_of statements = body_judged defined false file_names at_main main_head body at_close no_params statements

  abbrev made_main : Judged (List TStmt)
  made_main = record { made = Fine (first_judged ∷ rest_fine.0); after = behind_s }

  abbrev main_tree : TFunc
  main_tree = function_tree at_main main_head body at_close int 0 behind_s (first_judged ∷ rest_fine.0)

  main_fine : function_judged defined false file_names at_main main_head body at_close ≡ Fine main_tree
  unfolding function_judged judge_body base_of
  main_fine = ap main_of body_fine

  -- ---- the array

  abbrev a : Declarator
  a = record { place = trees.at 2 5; stars = []; name = codes "a"; dims = Some (lit 64 2 7) ∷ []; init = None }

  abbrev size_tree : TExpr
  size_tree = typed.Number (at (trees.at 2 7) (ttype.Number I32)) (pos 64)

  size_constant : constant size_tree ≡ Some (pos 64)
  unfolding constant
  size_constant =
      ap (λ (b : Bool). if b then value_of size_tree else None) (typed_Number Bool form_step (at (trees.at 2 7) (ttype.Number I32)) (pos 64))
      ∙ typed_Number (Option ℤ) value_step (at (trees.at 2 7) (ttype.Number I32)) (pos 64)

  abbrev outer : Names
  outer = [] ∷ library ∷ []

  abbrev sized : Made Sizes
  sized = Fine (record { sizes = Is 64 ∷ []; taken = [] })

  size_judged : dimensions outer (Some (lit 64 2 7) ∷ []) ≡ sized
  unfolding dimensions
  size_judged =
      ap (λ (m : Made Typed). then_made (all_made (then_made m (λ v. Fine (record { size = size_of_constant (constant v.tree); taken = v.taken })) ∷ [])) joined) (int_lit outer 64 2 7)
      ∙ ap (λ (z : Option ℤ). then_made (all_made (Fine (record { size = size_of_constant z; taken = [] }) ∷ [])) joined) size_constant

  abbrev file_says : Saying
  file_says = saying true (word.Int ∷ [])

  -- the names behind the array, and the array, by its judged size
  abbrev names_of : Made Sizes → Names
  names_of m = entered a.name (as_meaning true 0 (type_or_int (type_for true file_says m a)) (object_fixed file_says.fixed a.stars)) outer

  abbrev object_of : Made Sizes → Made Object
  object_of m =
      both m (begun (names_of m) true (type_for true file_says m a) None)
      (λ sizes start. object_made a.place a.name (is_twice outer a.name) (has_type true file_says a) (object_fixed file_says.fixed a.stars)
      (sizes.taken ++ start.taken) (declared_type true file_says (Fine sizes) a) start.init)

  abbrev array_of : Made Sizes → Placed
  array_of m = record { made = then_made (object_of m) object_part; after = record { names = names_of m; objects = 1; functions = [] } }

  abbrev main_item : Item
  main_item = item.Function at_main main_head body at_close

  abbrev all_of : Made Sizes → Placed
  all_of m =
      placed_before (placed_before (array_of m) (record { made = Fine no_parts; after = (array_of m).after }))
      (items_placed defined (array_of m).after (main_item ∷ []))

  -- the parts of the source, by what main comes to
  abbrev parts_of : Made TFunc → Made Parts
  parts_of m =
      both (both (array_of sized).made (Fine no_parts) parts_of_both)
      (both (then_made m (λ f. Fine (record { objects = []; functions = f ∷ [] }))) (Fine no_parts) parts_of_both) parts_of_both

  all_placed : unit_placed (unit_of xs) ≡ all_of sized
  unfolding declarator_judged
  all_placed = ap all_of size_judged

  all_made_fine : (all_of sized).made ≡ parts_of (Fine main_tree)
  unfolding begun base_of
  all_made_fine = ap parts_of main_fine

  items_faultless : faults_of (unit_placed (unit_of xs)).made ≡ []
  unfolding begun base_of
  items_faultless = ap (λ (q : Placed). faults_of q.made) all_placed ∙ ap faults_of all_made_fine

-- ---- the calls

loop_calls : (form d l : ℕ) → stmt_calls (loop_of form d l) ≡ []
loop_calls zero d l = simp folds
loop_calls (suc zero) d l = simp folds
loop_calls (suc (suc form)) d l = simp folds

loops_call : (l : ℕ) (xs : List (ℕ × ℕ)) (rest : List Stmt) → all_calls (map stmt_calls (loops_from l xs ++ rest)) ≡ all_calls (map stmt_calls rest)
loops_call l [] rest = refl
loops_call l (x ∷ xs) rest =
    ap (λ (calls : List Called). calls ++ all_calls (map stmt_calls (loops_from (l + 1) xs ++ rest))) (loop_calls x.0 x.1 l) ∙ loops_call (l + 1) xs rest

declaring_calls : stmt_calls declaring ≡ []
declaring_calls = simp folds

filling_calls : stmt_calls filling ≡ []
filling_calls = simp folds

array_calls : item_calls array_item ≡ []
array_calls = simp folds

ends_calls : (l : ℕ) → all_calls (map stmt_calls (printing l ∷ returning (l + 1) ∷ [])) ≡ record { name = codes "printf"; place = trees.at l 1 } ∷ []
ends_calls l = simp folds

module _ (xs : List (ℕ × ℕ)) where
  abbrev ends : List Stmt
  ends = printing (line xs) ∷ returning (line xs + 1) ∷ []

  rest_calls : all_calls (map stmt_calls (loops_from 7 xs ++ ends)) ≡ record { name = codes "printf"; place = trees.at (line xs) 1 } ∷ []
  rest_calls = loops_call 7 xs ends ∙ ends_calls (line xs)

  calls : calls_of_unit (unit_of xs) ≡ record { name = codes "printf"; place = trees.at (line xs) 1 } ∷ []
  unfolding calls_of_unit
  calls =
      ap (λ (c : List Called). c ++ ((stmt_calls declaring ++ (stmt_calls filling ++ all_calls (map stmt_calls (loops_from 7 xs ++ ends)))) ++ [])) array_calls
      ∙ ap (λ (c : List Called). (c ++ (stmt_calls filling ++ all_calls (map stmt_calls (loops_from 7 xs ++ ends)))) ++ []) declaring_calls
      ∙ ap (λ (c : List Called). (c ++ all_calls (map stmt_calls (loops_from 7 xs ++ ends))) ++ []) filling_calls
      ∙ ap (λ (c : List Called). c ++ []) rest_calls

  calls_faultless : call_faults (unit_of xs) ≡ []
  calls_faultless = ap (λ (c : List Called). all_faults (map (undefined_call defined) c)) calls

  main_faultless : main_faults (unit_of xs) ≡ []
  unfolding base_of
  main_faultless = refl

  -- THE TREE of a made program has no fault
  pub source_faultless : faults (unit_of xs) ≡ []
  unfolding faults
  source_faultless =
      ap (λ (f : List TypeFault). f ++ (call_faults (unit_of xs) ++ main_faults (unit_of xs))) (items_faultless xs)
      ∙ ap (λ (f : List TypeFault). f ++ main_faults (unit_of xs)) calls_faultless ∙ main_faultless
