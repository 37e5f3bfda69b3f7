-- What is known grows: variables keep their numbers, and there are never fewer.
use Rattle.std.proofs.Common.{◌≡◌, ℕ, ◌+◌, ◌≤◌, List, [], ◌∷◌, ◌++◌, length, slice_get, false, Option, Some, refl, arith, length-append}
use Rattle.k_tree.specs.declared.tree.declaration.Declarator.{Declarator}
use Rattle.k_tree.specs.declared.tree.expression.Expr.{Expr}
use Rattle.k_tree.specs.declared.tree.statement.First.{First}
use Rattle.k_tree.specs.declared.tree.statement.Part.{Part}
use Rattle.k_tree.specs.declared.tree.statement.Stmt.{Stmt}
use Rattle.k_num.specs.declared.numbers.Kind.{Kind}
use Rattle.k_num.specs.Kind.{promoted}
use Rattle.k_types_meaning.specs.declared.tree.declaration.TDeclarator.{TDeclarator}
use Rattle.k_types_meaning.specs.declared.tree.expression.TExpr.{TExpr}
use Rattle.k_types_meaning.specs.declared.tree.statement.TFirst.{TFirst}
use Rattle.k_types_meaning.specs.declared.tree.statement.TPart.{TPart}
use Rattle.k_types_meaning.specs.declared.tree.statement.TStmt.{TStmt}
use Rattle.k_types_meaning.specs.Declarations.{Saying, saying}
use Rattle.k_types_meaning.specs.Statements.{Around, Known, Labels, Variable, opened, inside_loop, inside_switch, no_labels}
use Rattle.k_types_meaning.specs.ElaboratedDeclarators.{ElabDeclared, none_declared, more_declared, with_variable}
use Rattle.k_types_meaning.specs.ElaboratedStatements.{ElabStmt, ElabStmts, ElabPart, ElabParts, ElabFirst, ElabTest, ElabStep, nothing_first, value_first, declared_first, no_test, tested, no_step, stepped, expression, empty, block, if_alone, if_else, while_loop, do_loop, for_loop, switch_on, break_within, continue_within, return_none, return_value, declaration, no_stmts, more_stmts, case_label, default_label, does, no_parts, more_parts, taking}
use Rattle.k_regions.proofs.Numbers.{at_front}

-- these variables are those, and more
pub record Grows (xs ys : List Variable) : Type 0 where
  pub keeps : (n : ℕ) (v : Variable) → slice_get xs n ≡ Some v → slice_get ys n ≡ Some v
  pub more : length xs ≤ length ys

pub grows_not : (xs : List Variable) → Grows xs xs
grows_not xs = record { keeps = λ n v is. is; more = omega arith }

pub grows_then : (xs ys zs : List Variable) → Grows xs ys → Grows ys zs → Grows xs zs
grows_then xs ys zs a b =
    let first : length xs ≤ length ys = a.more in
    let second : length ys ≤ length zs = b.more in
    record { keeps = λ n v is. b.keeps n v (a.keeps n v is); more = omega (arith, first, second) }

pub grows_by : (xs : List Variable) (v : Variable) → Grows xs (xs ++ v ∷ [])
grows_by xs v =
    let count : length (xs ++ v ∷ []) ≡ length xs + 1 = length-append xs (v ∷ []) in
    record { keeps = λ n x is. at_front xs (v ∷ []) n x is; more = omega (arith, count) }

-- the last one has the next number
pub last_there : (xs : List Variable) (v : Variable) → slice_get (xs ++ v ∷ []) (length xs) ≡ Some v
last_there [] v = refl
last_there (x ∷ xs) v = last_there xs v

abbrev pub KnownGrows : Known → Known → Type 0
KnownGrows a b = Grows a.variables b.variables

pub declared_grows : (s : Saying) (known : Known) (ds : List Declarator) (ts : List TDeclarator) (after : Known) → ElabDeclared s known ds ts after → KnownGrows known after
declared_grows _ _ _ _ _ (none_declared s known) = grows_not known.variables
declared_grows _ _ _ _ _ (more_declared s known d ds o ts after x rest) =
    grows_then known.variables (with_variable known o).variables after.variables (grows_by known.variables (record { place = o.place; of = o.of }))
    (declared_grows s (with_variable known o) ds ts after rest)

pub first_grows : (known : Known) (f : First) (t : TFirst) (after : Known) → ElabFirst known f t after → KnownGrows known after
first_grows _ _ _ _ (nothing_first known) = grows_not known.variables
first_grows _ _ _ _ (value_first known e v x) = grows_not known.variables
first_grows _ _ _ _ (declared_first known specs list ts after x) = declared_grows (saying false specs) known list ts after x

pub test_grows : (known : Known) (e : Option Expr) (t : Option TExpr) (after : Known) → ElabTest known e t after → KnownGrows known after
test_grows _ _ _ _ (no_test known) = grows_not known.variables
test_grows _ _ _ _ (tested known e v kind x number) = grows_not known.variables

pub step_grows : (known : Known) (e : Option Expr) (t : Option TExpr) (after : Known) → ElabStep known e t after → KnownGrows known after
step_grows _ _ _ _ (no_step known) = grows_not known.variables
step_grows _ _ _ _ (stepped known e v x) = grows_not known.variables

mutual
  pub stmt_grows : (around : Around) (known : Known) (s : Stmt) (t : TStmt) (after : Known) → ElabStmt around known s t after → KnownGrows known after
  stmt_grows _ _ _ _ _ (expression around known p e v x) = grows_not known.variables
  stmt_grows _ _ _ _ _ (empty around known p) = grows_not known.variables
  stmt_grows _ _ _ _ _ (block around known p parts trees inside xs) = stmts_grow around (opened known) parts trees inside xs
  stmt_grows _ _ _ _ _ (if_alone around known p e s v kind t after x number a) = stmt_grows around (taking known v) s t after a
  stmt_grows _ _ _ _ _ (if_else around known p e s other v kind t u middle after x number a b) =
      grows_then known.variables middle.variables after.variables
      (stmt_grows around (taking known v) s t middle a) (stmt_grows around middle other u after b)
  stmt_grows _ _ _ _ _ (while_loop around known p e s v kind t after x number a) =
      stmt_grows (inside_loop around) (taking known v) s t after a
  stmt_grows _ _ _ _ _ (do_loop around known p s e t middle v kind a x number) = stmt_grows (inside_loop around) known s t middle a
  stmt_grows _ _ _ _ _ (for_loop around known p start test step s f a b t started tried went inside x y z body) =
      grows_then known.variables started.variables inside.variables (first_grows (opened known) start f started x)
      (grows_then started.variables tried.variables inside.variables (test_grows started test a tried y)
      (grows_then tried.variables went.variables inside.variables (step_grows tried step b went z) (stmt_grows (inside_loop around) went s t inside body)))
  stmt_grows _ _ _ _ _ (switch_on around known p e parts v kind trees after x number xs) =
      parts_grow (inside_switch around) (promoted kind) no_labels (taking known v) parts trees after xs
  stmt_grows _ _ _ _ _ (break_within around known p in_one) = grows_not known.variables
  stmt_grows _ _ _ _ _ (continue_within around known p in_one) = grows_not known.variables
  stmt_grows _ _ _ _ _ (return_none around known p nothing) = grows_not known.variables
  stmt_grows _ _ _ _ _ (return_value around known p e v tree x gives) = grows_not known.variables
  stmt_grows _ _ _ _ _ (declaration around known p specs list trees after x) = declared_grows (saying false specs) known list trees after x

  pub stmts_grow : (around : Around) (known : Known) (ss : List Stmt) (ts : List TStmt) (after : Known) → ElabStmts around known ss ts after → KnownGrows known after
  stmts_grow _ _ _ _ _ (no_stmts around known) = grows_not known.variables
  stmts_grow _ _ _ _ _ (more_stmts around known s ss t ts middle after x xs) =
      grows_then known.variables middle.variables after.variables (stmt_grows around known s t middle x) (stmts_grow around middle ss ts after xs)

  pub part_grows : (around : Around) (kind : Kind) (labels : Labels) (known : Known) (x : Part) (t : TPart) (labelled : Labels) (after : Known)
      → ElabPart around kind labels known x t labelled after → KnownGrows known after
  part_grows _ _ _ _ _ _ _ _ (case_label around kind labels known p e v z x constant new) = grows_not known.variables
  part_grows _ _ _ _ _ _ _ _ (default_label around kind labels known p new) = grows_not known.variables
  part_grows _ _ _ _ _ _ _ _ (does around kind labels known p s t after x) = stmt_grows around known s t after x

  pub parts_grow : (around : Around) (kind : Kind) (labels : Labels) (known : Known) (xs : List Part) (ts : List TPart) (after : Known)
      → ElabParts around kind labels known xs ts after → KnownGrows known after
  parts_grow _ _ _ _ _ _ _ (no_parts around kind labels known) = grows_not known.variables
  parts_grow _ _ _ _ _ _ _ (more_parts around kind labels known x xs t ts labelled middle after a b) =
      grows_then known.variables middle.variables after.variables (part_grows around kind labels known x t labelled middle a) (parts_grow around kind labelled middle xs ts after b)
