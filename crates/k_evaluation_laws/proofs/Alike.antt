-- What fits is the same without the numbers of a tree.
use Rattle.std.proofs.Common.{◌≡◌, Bool, true, ◌&&◌, List, [], ◌∷◌, map, slice_get, Option, Some, None, unwrap_or, refl, ap}
use Rattle.k_num.specs.declared.numbers.Kind.{Kind}
use Rattle.k_types_meaning.specs.declared.tree.declaration.TDeclarator.{TDeclarator}
use Rattle.k_types_meaning.specs.declared.tree.declaration.TInit.{TInit}
use Rattle.k_types_meaning.specs.declared.tree.declaration.TInit.TheVariants as begins
use Rattle.k_types_meaning.specs.declared.tree.declaration.TItem.{TItem}
use Rattle.k_types_meaning.specs.declared.tree.declaration.TItem.TheVariants as item
use Rattle.k_types_meaning.specs.declared.tree.expression.TExpr.{TExpr}
use Rattle.k_types_meaning.specs.declared.tree.expression.TExpr.TheOpen.{TExpr-F}
use Rattle.k_types_meaning.specs.declared.tree.statement.TFirst.{TFirst}
use Rattle.k_types_meaning.specs.declared.tree.statement.TFirst.TheVariants as first
use Rattle.k_types_meaning.specs.declared.tree.statement.TPart.TheOpen.{TStmt-F}
use Rattle.k_types_meaning.specs.declared.tree.statement.TStmt.{TStmt}
use Rattle.k_types_meaning.specs.Bare.{bare_expr, bare_option, bare_item, bare_init, bare_declared, bare_first, bare_stmt}
use Rattle.k_lower_fits.proofs.Bared.{bare_form, bare_stmt_form, expr_same, stmt_same}
use Rattle.k_evaluation_laws.specs.Kinds.{Sort, ANumber, kind_in}
use Rattle.k_evaluation_laws.proofs.Fits.{Around, Seen, same, expr_step, see, option_fits, item_fits, items_fit, init_fits, init_of, declared_fit, first_fits, return_fits, all_stand, stmt_step, part_step, stmt_fits}

module _ (site : Around) where
  keeps : (y : TExpr-F Seen) → expr_step site (bare_form y) ≡ expr_step site y
  keeps (TExpr-F.Number node value) = refl
  keeps _ = refl

  seen_alike : (e : TExpr) → see site (bare_expr e) ≡ see site e
  seen_alike e = expr_same Seen (expr_step site) keeps e

  value_alike : (s : Sort) (e : TExpr) → (same s (see site (bare_expr e)).of && (see site (bare_expr e)).fits) ≡ (same s (see site e).of && (see site e).fits)
  value_alike s e = ap (λ (x : Seen). same s x.of && x.fits) (seen_alike e)

  option_alike : (o : Option TExpr) → option_fits site (bare_option o) ≡ option_fits site o
  option_alike None = refl
  option_alike (Some e) = ap (λ (x : Seen). x.fits) (seen_alike e)

  item_alike : (kind : Kind) (i : TItem) → item_fits site kind (bare_item i) ≡ item_fits site kind i
  item_alike kind (item.Bytes n bytes) = refl
  item_alike kind (item.Value p n e) = value_alike (ANumber kind) e

  items_alike : (kind : Kind) (items : List TItem) → items_fit site kind (map bare_item items) ≡ items_fit site kind items
  items_alike kind [] = refl
  items_alike kind (i ∷ items) = λ j. item_alike kind i j && items_alike kind items j

  init_alike : (s : Sort) (i : TInit) → init_fits site s (bare_init i) ≡ init_fits site s i
  init_alike s begins.Nothing = refl
  init_alike s (begins.Value e) = value_alike s e
  init_alike s (begins.Elements items) = items_alike (kind_in s) items

  init_of_alike : (o : Option Sort) (i : TInit) → init_of site o (bare_init i) ≡ init_of site o i
  init_of_alike None i = refl
  init_of_alike (Some s) i = init_alike s i

  declared_alike : (list : List TDeclarator) → declared_fit site (bare_declared list) ≡ declared_fit site list
  declared_alike [] = refl
  declared_alike (d ∷ list) = λ i. init_of_alike (slice_get site.variables d.variable) d.init i && declared_alike list i

  first_alike : (f : TFirst) → first_fits site (bare_first f) ≡ first_fits site f
  first_alike first.Nothing = refl
  first_alike (first.Value e) = ap (λ (x : Seen). x.fits) (seen_alike e)
  first_alike (first.Declare list) = declared_alike list

  return_alike : (o : Option TExpr) → return_fits site (bare_option o) ≡ return_fits site o
  return_alike None = refl
  return_alike (Some e) = value_alike site.result e

  stmt_keeps : (y : TStmt-F Bool Bool) → stmt_step site (bare_stmt_form y) ≡ stmt_step site y
  stmt_keeps (TStmt-F.Expr spot e) = λ i. (seen_alike e i).fits
  stmt_keeps (TStmt-F.Empty spot) = refl
  stmt_keeps (TStmt-F.Block spot parts) = refl
  stmt_keeps (TStmt-F.If spot test a b) = λ i. (seen_alike test i).fits && (a && unwrap_or b true)
  stmt_keeps (TStmt-F.While spot n test body) = λ i. (seen_alike test i).fits && body
  stmt_keeps (TStmt-F.DoWhile spot n body test) = λ i. (seen_alike test i).fits && body
  stmt_keeps (TStmt-F.For spot n start test step body) = λ i. first_alike start i && (option_alike test i && (option_alike step i && body))
  stmt_keeps (TStmt-F.Switch spot kind on parts) = λ i. (seen_alike on i).fits && all_stand parts
  stmt_keeps (TStmt-F.Break spot) = refl
  stmt_keeps (TStmt-F.Continue spot) = refl
  stmt_keeps (TStmt-F.Return spot value) = return_alike value
  stmt_keeps (TStmt-F.Declare spot list) = declared_alike list

  stmt_alike : (s : TStmt) → stmt_fits site (bare_stmt s) ≡ stmt_fits site s
  stmt_alike s = stmt_same Bool Bool part_step (stmt_step site) stmt_keeps s

  pub body_alike : (body : List TStmt) → all_stand (map (stmt_fits site) (map bare_stmt body)) ≡ all_stand (map (stmt_fits site) body)
  body_alike [] = refl
  body_alike (s ∷ body) = λ i. stmt_alike s i && body_alike body i
