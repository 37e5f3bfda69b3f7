-- A tree passes as it does without its numbers.
use Rattle.std.proofs.Common.{◌≡◌, Bool, ◌&&◌, List, [], ◌∷◌, map, Option, Some, None, refl}
use Rattle.k_types_meaning.specs.declared.tree.declaration.TDeclarator.{TDeclarator}
use Rattle.k_types_meaning.specs.declared.tree.declaration.TInit.{TInit}
use Rattle.k_types_meaning.specs.declared.tree.declaration.TInit.TheVariants as begins
use Rattle.k_types_meaning.specs.declared.tree.declaration.TItem.{TItem}
use Rattle.k_types_meaning.specs.declared.tree.declaration.TItem.TheVariants as item
use Rattle.k_types_meaning.specs.declared.tree.expression.TExpr.{TExpr}
use Rattle.k_types_meaning.specs.declared.tree.expression.TExpr.TheOpen.{TExpr-F}
use Rattle.k_types_meaning.specs.declared.tree.statement.TFirst.{TFirst}
use Rattle.k_types_meaning.specs.declared.tree.statement.TFirst.TheVariants as first
use Rattle.k_types_meaning.specs.declared.tree.statement.TPart.TheOpen.{TStmt-F}
use Rattle.k_types_meaning.specs.declared.tree.statement.TStmt.{TStmt}
use Rattle.k_types_meaning.specs.Bare.{bare_expr, bare_option, bare_item, bare_init, bare_declared, bare_first, bare_stmt}
use Rattle.k_lower_fits.proofs.Bared.{bare_form, bare_stmt_form, expr_same, stmt_same}
use Rattle.k_lower_texts.specs.Passing.{Asks, all_pass, if_passes, expr_step, expr_passes, option_passes, item_passes, items_pass, init_passes, declared_pass, first_passes, stmt_step, part_step, body_passes}

module _ (asks : Asks) where
  keeps : (y : TExpr-F Bool) → expr_step asks (bare_form y) ≡ expr_step asks y
  keeps (TExpr-F.Number node value) = refl
  keeps _ = refl

  expr_pass : (e : TExpr) → expr_passes asks (bare_expr e) ≡ expr_passes asks e
  expr_pass e = expr_same Bool (expr_step asks) keeps e

  option_pass : (o : Option TExpr) → option_passes asks (bare_option o) ≡ option_passes asks o
  option_pass None = refl
  option_pass (Some e) = expr_pass e

  item_pass : (i : TItem) → item_passes asks (bare_item i) ≡ item_passes asks i
  item_pass (item.Bytes n bytes) = refl
  item_pass (item.Value p n e) = expr_pass e

  all_items_pass : (items : List TItem) → items_pass asks (map bare_item items) ≡ items_pass asks items
  all_items_pass [] = refl
  all_items_pass (i ∷ items) = λ j. item_pass i j && all_items_pass items j

  init_pass : (i : TInit) → init_passes asks (bare_init i) ≡ init_passes asks i
  init_pass begins.Nothing = refl
  init_pass (begins.Value e) = expr_pass e
  init_pass (begins.Elements items) = all_items_pass items

  all_declared_pass : (list : List TDeclarator) → declared_pass asks (bare_declared list) ≡ declared_pass asks list
  all_declared_pass [] = refl
  all_declared_pass (d ∷ list) = λ i. init_pass d.init i && all_declared_pass list i

  first_pass : (f : TFirst) → first_passes asks (bare_first f) ≡ first_passes asks f
  first_pass first.Nothing = refl
  first_pass (first.Value e) = expr_pass e
  first_pass (first.Declare list) = all_declared_pass list

  stmt_keeps : (y : TStmt-F Bool Bool) → stmt_step asks (bare_stmt_form y) ≡ stmt_step asks y
  stmt_keeps (TStmt-F.Expr spot e) = expr_pass e
  stmt_keeps (TStmt-F.Empty spot) = refl
  stmt_keeps (TStmt-F.Block spot parts) = refl
  stmt_keeps (TStmt-F.If spot test a b) = λ i. expr_pass test i && (a && if_passes b)
  stmt_keeps (TStmt-F.While spot n test body) = λ i. expr_pass test i && body
  stmt_keeps (TStmt-F.DoWhile spot n body test) = λ i. body && expr_pass test i
  stmt_keeps (TStmt-F.For spot n start test step body) = λ i. first_pass start i && (option_pass test i && (option_pass step i && body))
  stmt_keeps (TStmt-F.Switch spot kind on parts) = λ i. expr_pass on i && all_pass parts
  stmt_keeps (TStmt-F.Break spot) = refl
  stmt_keeps (TStmt-F.Continue spot) = refl
  stmt_keeps (TStmt-F.Return spot value) = option_pass value
  stmt_keeps (TStmt-F.Declare spot list) = all_declared_pass list

  pub body_pass : (body : List TStmt) → body_passes asks (map bare_stmt body) ≡ body_passes asks body
  body_pass [] = refl
  body_pass (s ∷ body) = λ i. stmt_same Bool Bool part_step (stmt_step asks) stmt_keeps s i && body_pass body i
