-- A ranked tree has at most twice as many nodes as tokens: an initialiser alone has no token of its own.
use Rattle.std.proofs.Common.{ℕ, ◌≡◌, ◌≢◌, ◌≤◌, ◌+◌, ◌*◌, List, [], ◌∷◌, map, sum, length, Option, Some, None, refl, arith, length-append}
use Rattle.std.specs.Prelude.{All}
use Rattle.std.proofs.lemmas.List.Elements.{All-head, All-tail, All-nil, All-cons}
use Rattle.std.proofs.lemmas.List.Sums.{sum_by-cons}
use Rattle.k_num.specs.declared.place.Place.{Place}
use Rattle.k_tree.proofs.Begin.{not_empty, expr_begins}
use Rattle.k_tree.specs.Begins.{begins_expr}
use Rattle.k_tree.specs.declared.tokens.word.Word.{Word}
use Rattle.k_tree.specs.declared.tree.expression.Expr.{Expr}
use Rattle.k_tree.specs.declared.tree.declaration.Init.{Init}
use Rattle.k_tree.specs.declared.tree.declaration.Declarator.{Declarator}
use Rattle.k_tree.specs.declared.tree.declaration.Param.{Param}
use Rattle.k_tree.specs.declared.tree.declaration.Params.{Params}
use Rattle.k_tree.specs.declared.tree.declaration.Params.TheVariants as params
use Rattle.k_tree.specs.declared.tree.statement.First.{First}
use Rattle.k_tree.specs.declared.tree.statement.First.TheVariants as first
use Rattle.k_tree.specs.declared.tree.statement.Stmt.{Stmt}
use Rattle.k_tree.specs.declared.tree.statement.Part.{Part}
use Rattle.k_tree.specs.declared.tree.statement.Stmt.TheVariants as stmt
use Rattle.k_tree.specs.declared.tree.unit.Item.{Item}
use Rattle.k_tree.specs.declared.tree.unit.Item.TheVariants as item
use Rattle.k_tree.specs.declared.tree.unit.Unit as source
use Rattle.k_tree.proofs.Folds.{init_One, init_List, stmt_Expr, stmt_Empty, stmt_Block, if_alone as if_alone_folds, if_else as if_else_folds, stmt_While, stmt_DoWhile, stmt_For, stmt_Switch, part_Case, part_Default, part_Does, stmt_Break, stmt_Continue, stmt_Return, stmt_Declare}
use Rattle.k_tree.specs.Count.{init_count, initialised_count, declarator_count, declarators_count, param_count, params_count, first_count, stmt_count, part_count, item_count, unit_count}
use Rattle.k_tree.specs.Spelling.{spell_init, spell_initialised, spell_declarator, spell_declaration, spell_param, spell_params, spell_specs, spell_first, spell_stmt, spell_stmts, spell_switched, spell_item, spelling}
use Rattle.k_tree.specs.Ranked.{RankedInit, RankedInits, one, braces, no_inits, more_inits, RankedDeclarator, RankedDeclaration, RankedParam, RankedParams, RankedFirst, RankedStmt, RankedParts, value, empty, block, if_alone, if_else, while_loop, do_loop, for_loop, switch_stmt, RankedSwitch, no_labels, case_label, default_label, does, break_loop, continue_loop, return_value, no_parts, statement, declaration, RankedItem, RankedUnit, Specs}
use Rattle.k_tree.specs.Count.{expr_count, option_count, dims_count}
use Rattle.k_tree.proofs.Folds.{expr_Assign, expr_Binary, expr_Call, expr_Cast, expr_Char, expr_Comma, expr_Cond, expr_Index, expr_Name, expr_Number, expr_Paren, expr_Post, expr_Pre, expr_SizeofExpr, expr_SizeofType, expr_Str, expr_Unary}
use Rattle.k_tree.specs.Spelling.{Spelled, spell_expr, with_commas, behind_commas, spell_option, spell_dim, spell_dims, in_row}
use Rattle.k_tree.specs.Ranked.{Ranked, RankedArgs, IfGiven, RankedDims, no_args, more_args, comma, assignment, conditional, binary, cast, unary, prefix, sizeof_expr, sizeof_type, index, postfix, call, name, number, character, string, paren}

sum-cons : (n : ℕ) (ns : List ℕ) → sum (n ∷ ns) ≡ n + sum ns
sum-cons n ns = sum_by-cons (λ x. x) n ns

some_token : (xs : Spelled) → xs ≢ [] → 1 ≤ length xs
some_token [] h = absurd (h refl)
some_token (t ∷ xs) h = omega arith

mutual
  pub expr_bound : (k : ℕ) (e : Expr) → Ranked k e → expr_count e ≤ length (spell_expr e)
  expr_bound _ _ (comma k p a b h x y) = simp (expr_Comma, length-append) (omega (arith, expr_bound 0 a x, expr_bound 1 b y))
  expr_bound _ _ (assignment k p op a b h q x y) = simp (expr_Assign, length-append) (omega (arith, expr_bound 14 a x, expr_bound 1 b y))
  expr_bound _ _ (conditional k p a b c h x y z) = simp (expr_Cond, length-append) (omega (arith, expr_bound 3 a x, expr_bound 0 b y, expr_bound 2 c z))
  expr_bound _ _ (binary k p op n a b h q x y) = simp (expr_Binary, length-append) (omega (arith, expr_bound n a x, expr_bound (n + 1) b y))
  expr_bound _ _ (cast k p specs stars a h q x) = simp (expr_Cast, length-append) (omega (arith, expr_bound 13 a x))
  expr_bound _ _ (unary k p op a h q x) = simp (expr_Unary, length-append) (omega (arith, expr_bound 13 a x))
  expr_bound _ _ (prefix k p op a h q x) = simp (expr_Pre, length-append) (omega (arith, expr_bound 14 a x))
  expr_bound _ _ (sizeof_expr k p a h x) = simp (expr_SizeofExpr, length-append) (omega (arith, expr_bound 14 a x))
  expr_bound _ _ (sizeof_type k p specs stars h q) = simp (expr_SizeofType, length-append) (omega (arith))
  expr_bound _ _ (index k p a b h x y) = simp (expr_Index, length-append) (omega (arith, expr_bound 15 a x, expr_bound 0 b y))
  expr_bound _ _ (postfix k p op a h q x) = simp (expr_Post, length-append) (omega (arith, expr_bound 15 a x))
  expr_bound _ _ (call k p f args h x) = simp (expr_Call, length-append) (omega (arith, args_bound args x))
  expr_bound _ _ (name k p t h) = simp expr_Name (omega (arith))
  expr_bound _ _ (number k p kind n h) = simp expr_Number (omega (arith))
  expr_bound _ _ (character k p t h) = simp expr_Char (omega (arith))
  expr_bound _ _ (string k p bytes h) = simp expr_Str (omega (arith))
  expr_bound _ _ (paren k p a h x) = simp (expr_Paren, length-append) (omega (arith, expr_bound 0 a x))

  pub args_bound : (args : List Expr) → RankedArgs args → sum (map expr_count args) ≤ length (with_commas (map spell_expr args))
  args_bound _ no_args = omega arith
  args_bound _ (more_args a args x y) = simp length-append (omega (arith, sum-cons (expr_count a) (map expr_count args), expr_bound 1 a x, args_behind_bound args y))

  pub args_behind_bound : (args : List Expr) → RankedArgs args → sum (map expr_count args) ≤ length (behind_commas (map spell_expr args))
  args_behind_bound _ no_args = omega arith
  args_behind_bound _ (more_args a args x y) = simp length-append (omega (arith, sum-cons (expr_count a) (map expr_count args), expr_bound 1 a x, args_behind_bound args y))

pub option_bound : (k : ℕ) (e : Option Expr) → IfGiven (Ranked k) e → option_count e ≤ length (spell_option e)
option_bound k None h = omega arith
option_bound k (Some e) h = expr_bound k e h

-- rows, where each piece has at most twice as many nodes as tokens
row_bound : {A : Type 0} (P : A → Type 0) (count : A → ℕ) (spell : A → Spelled)
    → ((x : A) → P x → count x ≤ 2 * length (spell x)) → (xs : List A) → All P xs
    → sum (map count xs) ≤ 2 * length (in_row (map spell xs))
row_bound P count spell each [] h = omega arith
row_bound P count spell each (x ∷ xs) h =
    simp length-append (omega (arith, sum-cons (count x) (map count xs), each x (All-head P x xs h), row_bound P count spell each xs (All-tail P x xs h)))

behind_bound : {A : Type 0} (P : A → Type 0) (count : A → ℕ) (spell : A → Spelled)
    → ((x : A) → P x → count x ≤ 2 * length (spell x)) → (xs : List A) → All P xs
    → sum (map count xs) ≤ 2 * length (behind_commas (map spell xs))
behind_bound P count spell each [] h = omega arith
behind_bound P count spell each (x ∷ xs) h =
    simp length-append (omega (arith, sum-cons (count x) (map count xs), each x (All-head P x xs h), behind_bound P count spell each xs (All-tail P x xs h)))

commas_bound : {A : Type 0} (P : A → Type 0) (count : A → ℕ) (spell : A → Spelled)
    → ((x : A) → P x → count x ≤ 2 * length (spell x)) → (xs : List A) → All P xs
    → sum (map count xs) ≤ 2 * length (with_commas (map spell xs))
commas_bound P count spell each [] h = omega arith
commas_bound P count spell each (x ∷ xs) h =
    simp length-append (omega (arith, sum-cons (count x) (map count xs), each x (All-head P x xs h), behind_bound P count spell each xs (All-tail P x xs h)))

dim_bound : (e : Option Expr) → IfGiven (Ranked 2) e → option_count e ≤ 2 * length (spell_dim e)
dim_bound e h = simp length-append (omega (arith, option_bound 2 e h))

dims_bound : (dims : List (Option Expr)) → RankedDims dims → dims_count dims ≤ 2 * length (spell_dims dims)
dims_bound dims h = row_bound (IfGiven (Ranked 2)) option_count spell_dim dim_bound dims h

-- what is ranked has a token
not_empty_bound : (a : Expr) → Ranked 1 a → 1 ≤ length (spell_expr a)
not_empty_bound a x = some_token (spell_expr a) (not_empty begins_expr (spell_expr a) (expr_begins 1 a x))

specs_bound : (specs : List Word) → Specs specs → 1 ≤ length (spell_specs specs)
specs_bound [] h = absurd (h.0 refl)
specs_bound (w ∷ specs) h = omega arith

mutual
  pub init_bound : (i : Init) → RankedInit i → init_count i ≤ 2 * length (spell_init i)
  init_bound _ (one p a x) = simp init_One (omega (arith, expr_bound 1 a x, not_empty_bound a x))
  init_bound _ (braces p i is last x xs) =
      simp (init_List, length-append) (omega (arith, sum-cons (init_count i) (map init_count is), init_bound i x, inits_behind_bound is xs))

  pub inits_behind_bound : (is : List Init) → RankedInits is → sum (map init_count is) ≤ 2 * length (behind_commas (map spell_init is))
  inits_behind_bound _ no_inits = omega arith
  inits_behind_bound _ (more_inits i is x xs) =
      simp length-append (omega (arith, sum-cons (init_count i) (map init_count is), init_bound i x, inits_behind_bound is xs))

initialised_bound : (i : Option Init) → IfGiven RankedInit i → initialised_count i ≤ 2 * length (spell_initialised i)
initialised_bound None h = omega arith
initialised_bound (Some i) h = omega (arith, init_bound i h)

declarator_bound : (d : Declarator) → RankedDeclarator d → declarator_count d ≤ 2 * length (spell_declarator d)
declarator_bound d h = simp length-append (omega (arith, dims_bound d.dims h.0, initialised_bound d.init h.1))

-- a declaration has two tokens more, or more
declaration_bound : (specs : List Word) (list : List Declarator) → RankedDeclaration specs list
    → 2 + declarators_count list ≤ 2 * length (spell_declaration specs list)
declaration_bound specs list h =
    simp length-append (omega (arith, commas_bound RankedDeclarator declarator_count spell_declarator declarator_bound list h.2))

param_bound : (p : Param) → RankedParam p → param_count p ≤ 2 * length (spell_param p)
param_bound p h = simp length-append (omega (arith, specs_bound p.specs h.0, dims_bound p.dims h.1))

params_bound : (list : Params) → RankedParams list → params_count list ≤ 2 * length (spell_params list)
params_bound params.Empty h = omega arith
params_bound params.Void h = omega arith
params_bound (params.List []) h = absurd h
params_bound (params.List (p ∷ [])) h =
    commas_bound RankedParam param_count spell_param param_bound (p ∷ []) (All-cons RankedParam p [] h.0 (All-nil RankedParam))
params_bound (params.List (p ∷ (q ∷ list))) h = commas_bound RankedParam param_count spell_param param_bound (p ∷ (q ∷ list)) h

first_bound : (f : First) → RankedFirst f → first_count f ≤ 2 * length (spell_first f)
first_bound first.Nothing h = omega arith
first_bound (first.Value e) h = simp length-append (omega (arith, expr_bound 0 e h))
first_bound (first.Declare specs list) h = omega (arith, declaration_bound specs list h)

declare_bound : (p : Place) (specs : List Word) (list : List Declarator) → RankedDeclaration specs list
    → stmt_count (stmt.Declare p specs list) ≤ 2 * length (spell_stmt (stmt.Declare p specs list))
declare_bound p specs list h = simp stmt_Declare (omega (arith, declaration_bound specs list h))

mutual
  -- the part of a `switch` that a statement may be has no token of its own
  pub stmt_bound : (s : Stmt) → RankedStmt s → 1 + stmt_count s ≤ 2 * length (spell_stmt s)
  stmt_bound _ (value p a x) = simp (stmt_Expr, length-append) (omega (arith, expr_bound 0 a x))
  stmt_bound _ (empty p) = simp stmt_Empty (omega arith)
  stmt_bound _ (block p parts x) = simp (stmt_Block, length-append) (omega (arith, parts_bound parts x))
  stmt_bound _ (if_alone p a s x y) = simp (if_alone_folds, length-append) (omega (arith, expr_bound 0 a x, stmt_bound s y))
  stmt_bound _ (if_else p a s t x y q z) =
      simp (if_else_folds, length-append) (omega (arith, expr_bound 0 a x, stmt_bound s y, stmt_bound t z))
  stmt_bound _ (while_loop p a s x y) = simp (stmt_While, length-append) (omega (arith, expr_bound 0 a x, stmt_bound s y))
  stmt_bound _ (do_loop p s a x y) = simp (stmt_DoWhile, length-append) (omega (arith, expr_bound 0 a y, stmt_bound s x))
  stmt_bound _ (for_loop p start a b s x y z w) =
      simp (stmt_For, length-append)
      (omega (arith, first_bound start x, option_bound 0 a y, option_bound 0 b z, stmt_bound s w))
  stmt_bound _ (switch_stmt p a parts x y) = simp (stmt_Switch, length-append) (omega (arith, expr_bound 0 a x, switched_bound parts y))
  stmt_bound _ (break_loop p) = simp stmt_Break (omega arith)
  stmt_bound _ (continue_loop p) = simp stmt_Continue (omega arith)
  stmt_bound _ (return_value p a x) = simp (stmt_Return, length-append) (omega (arith, option_bound 0 a x))

  pub parts_bound : (parts : List Stmt) → RankedParts parts → sum (map stmt_count parts) ≤ 2 * length (spell_stmts parts)
  parts_bound _ no_parts = omega arith
  parts_bound _ (statement s parts x y) =
      simp length-append (omega (arith, sum-cons (stmt_count s) (map stmt_count parts), stmt_bound s x, parts_bound parts y))
  parts_bound _ (declaration p specs list parts x y) =
      simp (length-append) (omega (
        arith,
        sum-cons (stmt_count (stmt.Declare p specs list)) (map stmt_count parts),
        declare_bound p specs list x,
        parts_bound parts y,
      ))

  pub switched_bound : (parts : List Part) → RankedSwitch parts → sum (map part_count parts) ≤ 2 * length (spell_switched parts)
  switched_bound _ no_labels = omega arith
  switched_bound _ (case_label p a parts x y) =
      simp (part_Case, length-append)
      (omega (arith, sum-cons (1 + expr_count a) (map part_count parts), expr_bound 2 a x, switched_bound parts y))
  switched_bound _ (default_label p parts y) =
      simp (part_Default, length-append) (omega (arith, sum-cons 1 (map part_count parts), switched_bound parts y))
  switched_bound _ (does p s parts x y) =
      simp (part_Does, length-append)
      (omega (arith, sum-cons (1 + stmt_count s) (map part_count parts), stmt_bound s x, switched_bound parts y))

pub item_bound : (i : Item) → RankedItem i → item_count i ≤ 2 * length (spell_item i)
item_bound (item.Function p h body close) r =
    simp length-append (omega (arith, params_bound h.params r.0.1, parts_bound body r.1))
item_bound (item.Prototype p h) r = simp length-append (omega (arith, params_bound h.params r.1))
item_bound (item.Objects p specs list) r = omega (arith, declaration_bound specs list r)

pub unit_bound : (u : source.Unit) → RankedUnit u → unit_count u ≤ 2 * length (spelling u)
unit_bound u h = simp length-append (omega (arith, row_bound RankedItem item_count spell_item item_bound u.items h))
