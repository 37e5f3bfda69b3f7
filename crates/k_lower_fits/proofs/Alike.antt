-- What fits and what it takes are the same without the numbers of a tree.
use Rattle.std.proofs.Common.{◌≡◌, Bool, true, false, ◌&&◌, List, [], ◌∷◌, map, Option, Some, None, refl}
use Rattle.std.specs.Prelude.{nat_lt}
use Rattle.k_types_meaning.specs.declared.tree.declaration.TDeclarator.{TDeclarator}
use Rattle.k_types_meaning.specs.declared.tree.declaration.TInit.{TInit}
use Rattle.k_types_meaning.specs.declared.tree.declaration.TInit.TheVariants as begins
use Rattle.k_types_meaning.specs.declared.tree.declaration.TItem.{TItem}
use Rattle.k_types_meaning.specs.declared.tree.declaration.TItem.TheVariants as item
use Rattle.k_types_meaning.specs.declared.tree.expression.TExpr.{TExpr}
use Rattle.k_types_meaning.specs.declared.tree.expression.TExpr.TheOpen.{TExpr-F}
use Rattle.k_types_meaning.specs.declared.tree.statement.TFirst.{TFirst}
use Rattle.k_types_meaning.specs.declared.tree.statement.TFirst.TheVariants as first
use Rattle.k_types_meaning.specs.declared.tree.statement.TPart.TheOpen.{TStmt-F}
use Rattle.k_types_meaning.specs.declared.tree.statement.TStmt.{TStmt}
use Rattle.k_types_meaning.specs.Bare.{bare_expr, bare_option, bare_item, bare_init, bare_declared, bare_first, bare_stmt}
use Rattle.k_lower_fits.specs.Costs.{Cost, in_row, expr_cost, expr_cost_step, option_cost, item_cost, init_cost, declared_cost, first_cost, then_, and_own, above, free, of_item, of_declarator, of_statement, cost_or_free, part_cost_step, stmt_cost_step, stmt_cost, body_cost}
use Rattle.k_lower_fits.specs.Fits.{Limits, Use, expr_step, expr_fits, option_fits, item_fits, items_fit, init_fits, declared_fit, first_fits, return_fits, Standing, all_stand, option_stands, in_loop, in_switch, outermost, stmt_step, part_step, stmt_fits, body_fits}
use Rattle.k_lower_fits.proofs.Bared.{bare_form, bare_stmt_form, expr_same, stmt_same}

-- WHAT IT TAKES
cost_keeps : (y : TExpr-F Cost) → expr_cost_step (bare_form y) ≡ expr_cost_step y
cost_keeps (TExpr-F.Number node value) = refl
cost_keeps _ = refl

expr_costs : (e : TExpr) → expr_cost (bare_expr e) ≡ expr_cost e
expr_costs e = expr_same Cost expr_cost_step cost_keeps e

option_costs : (o : Option TExpr) → option_cost (bare_option o) ≡ option_cost o
option_costs None = refl
option_costs (Some e) = expr_costs e

item_costs : (i : TItem) → item_cost (bare_item i) ≡ item_cost i
item_costs (item.Bytes n bytes) = refl
item_costs (item.Value p n e) = λ i. and_own of_item (above free (expr_costs e i))

items_cost : (items : List TItem) → in_row (map item_cost (map bare_item items)) ≡ in_row (map item_cost items)
items_cost [] = refl
items_cost (i ∷ items) = λ j. then_ (item_costs i j) (items_cost items j)

init_costs : (i : TInit) → init_cost (bare_init i) ≡ init_cost i
init_costs begins.Nothing = refl
init_costs (begins.Value e) = λ i. and_own of_item (above free (expr_costs e i))
init_costs (begins.Elements items) = items_cost items

declared_costs : (list : List TDeclarator) → declared_cost (bare_declared list) ≡ declared_cost list
declared_costs [] = refl
declared_costs (d ∷ list) = λ i. then_ (and_own of_declarator (init_costs d.init i)) (declared_costs list i)

first_costs : (f : TFirst) → first_cost (bare_first f) ≡ first_cost f
first_costs first.Nothing = refl
first_costs (first.Value e) = expr_costs e
first_costs (first.Declare list) = declared_costs list

stmt_cost_keeps : (y : TStmt-F Cost Cost) → stmt_cost_step (bare_stmt_form y) ≡ stmt_cost_step y
stmt_cost_keeps (TStmt-F.Expr spot e) = λ i. and_own of_statement (expr_costs e i)
stmt_cost_keeps (TStmt-F.Empty spot) = refl
stmt_cost_keeps (TStmt-F.Block spot parts) = refl
stmt_cost_keeps (TStmt-F.If spot test a b) = λ i. and_own of_statement (then_ (expr_costs test i) (then_ a (cost_or_free b)))
stmt_cost_keeps (TStmt-F.While spot n test body) = λ i. and_own of_statement (then_ (expr_costs test i) body)
stmt_cost_keeps (TStmt-F.DoWhile spot n body test) = λ i. and_own of_statement (then_ body (expr_costs test i))
stmt_cost_keeps (TStmt-F.For spot n start test step body) =
    λ i. and_own of_statement (then_ (first_costs start i) (then_ (option_costs test i) (then_ (option_costs step i) body)))
stmt_cost_keeps (TStmt-F.Switch spot kind on parts) = λ i. and_own of_statement (then_ (above free (expr_costs on i)) (in_row parts))
stmt_cost_keeps (TStmt-F.Break spot) = refl
stmt_cost_keeps (TStmt-F.Continue spot) = refl
stmt_cost_keeps (TStmt-F.Return spot value) = λ i. and_own of_statement (option_costs value i)
stmt_cost_keeps (TStmt-F.Declare spot list) = λ i. and_own of_statement (declared_costs list i)

stmt_costs : (s : TStmt) → stmt_cost (bare_stmt s) ≡ stmt_cost s
stmt_costs s = stmt_same Cost Cost part_cost_step stmt_cost_step stmt_cost_keeps s

pub body_costs : (body : List TStmt) → body_cost (map bare_stmt body) ≡ body_cost body
body_costs [] = refl
body_costs (s ∷ body) = λ i. then_ (stmt_costs s i) (body_costs body i)

-- WHAT FITS
module _ (limits : Limits) where
  fits_keeps : (y : TExpr-F Use) → expr_step limits (bare_form y) ≡ expr_step limits y
  fits_keeps (TExpr-F.Number node value) = refl
  fits_keeps _ = refl

  expr_fit : (e : TExpr) → expr_fits limits (bare_expr e) ≡ expr_fits limits e
  expr_fit e = expr_same Use (expr_step limits) fits_keeps e

  option_fit : (used : Bool) (o : Option TExpr) → option_fits limits used (bare_option o) ≡ option_fits limits used o
  option_fit used None = refl
  option_fit used (Some e) = λ i. expr_fit e i used

  item_fit : (i : TItem) → item_fits limits (bare_item i) ≡ item_fits limits i
  item_fit (item.Bytes n bytes) = refl
  item_fit (item.Value p n e) = λ i. expr_fit e i true

  all_items_fit : (items : List TItem) → items_fit limits (map bare_item items) ≡ items_fit limits items
  all_items_fit [] = refl
  all_items_fit (i ∷ items) = λ j. item_fit i j && all_items_fit items j

  init_fit : (i : TInit) → init_fits limits (bare_init i) ≡ init_fits limits i
  init_fit begins.Nothing = refl
  init_fit (begins.Value e) = λ i. expr_fit e i true
  init_fit (begins.Elements items) = all_items_fit items

  all_declared_fit : (list : List TDeclarator) → declared_fit limits (bare_declared list) ≡ declared_fit limits list
  all_declared_fit [] = refl
  all_declared_fit (d ∷ list) = λ i. (nat_lt d.variable limits.variables && init_fit d.init i) && all_declared_fit list i

  first_fit : (f : TFirst) → first_fits limits (bare_first f) ≡ first_fits limits f
  first_fit first.Nothing = refl
  first_fit (first.Value e) = λ i. expr_fit e i false
  first_fit (first.Declare list) = all_declared_fit list

  return_fit : (o : Option TExpr) → return_fits limits (bare_option o) ≡ return_fits limits o
  return_fit None = refl
  return_fit (Some e) = λ i. limits.gives && expr_fit e i true

  stmt_fits_keeps : (y : TStmt-F Standing Standing) → stmt_step limits (bare_stmt_form y) ≡ stmt_step limits y
  stmt_fits_keeps (TStmt-F.Expr spot e) = λ i. λ site. expr_fit e i false
  stmt_fits_keeps (TStmt-F.Empty spot) = refl
  stmt_fits_keeps (TStmt-F.Block spot parts) = refl
  stmt_fits_keeps (TStmt-F.If spot test a b) = λ i. λ site. expr_fit test i true && (a site && option_stands site b)
  stmt_fits_keeps (TStmt-F.While spot n test body) = λ i. λ site. expr_fit test i true && body in_loop
  stmt_fits_keeps (TStmt-F.DoWhile spot n body test) = λ i. λ site. body in_loop && expr_fit test i true
  stmt_fits_keeps (TStmt-F.For spot n start test step body) = λ i. λ site. first_fit start i && (option_fit true test i && (option_fit false step i && body in_loop))
  stmt_fits_keeps (TStmt-F.Switch spot kind on parts) = λ i. λ site. expr_fit on i true && all_stand (in_switch site) parts
  stmt_fits_keeps (TStmt-F.Break spot) = refl
  stmt_fits_keeps (TStmt-F.Continue spot) = refl
  stmt_fits_keeps (TStmt-F.Return spot value) = λ i. λ site. return_fit value i
  stmt_fits_keeps (TStmt-F.Declare spot list) = λ i. λ site. all_declared_fit list i

  stmt_fit : (s : TStmt) → stmt_fits limits (bare_stmt s) ≡ stmt_fits limits s
  stmt_fit s = stmt_same Standing Standing part_step (stmt_step limits) stmt_fits_keeps s

  all_fit : (body : List TStmt) → all_stand outermost (map (stmt_fits limits) (map bare_stmt body)) ≡ all_stand outermost (map (stmt_fits limits) body)
  all_fit [] = refl
  all_fit (s ∷ body) = λ i. stmt_fit s i outermost && all_fit body i

  pub body_fit : (body : List TStmt) → body_fits limits (map bare_stmt body) ≡ body_fits limits body
  body_fit body = all_fit body
