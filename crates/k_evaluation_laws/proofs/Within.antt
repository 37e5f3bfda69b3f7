-- Each expression that stands in a function that fits does so too; and that stands in one that is in range.
use Rattle.std.proofs.Common.{◌≡◌, ℕ, zero, suc, Bool, true, ◌&&◌, List, [], ◌∷◌, ◌++◌, map, slice_get, Option, Some, None, refl, sym, ◌∙◌, ap, subst}
use Rattle.std.specs.Prelude.{nat_le}
use Rattle.std.proofs.lemmas.Bool.{and_from, and_parts}
use Rattle.std.proofs.lemmas.Option.{none-some, same_Some}
use Rattle.k_num.specs.declared.numbers.Kind.{Kind}
use Rattle.k_num.specs.declared.numbers.Kind.TheVariants.{I8, I32, I64}
use Rattle.k_types_meaning.specs.declared.tree.declaration.TDeclarator.{TDeclarator}
use Rattle.k_types_meaning.specs.declared.tree.declaration.TInit.{TInit}
use Rattle.k_types_meaning.specs.declared.tree.declaration.TInit.TheVariants as begins
use Rattle.k_types_meaning.specs.declared.tree.declaration.TItem.{TItem}
use Rattle.k_types_meaning.specs.declared.tree.declaration.TItem.TheVariants as item
use Rattle.k_types_meaning.specs.declared.tree.expression.TExpr.{TExpr, fold_out-TExpr, map-TExpr, out-TExpr}
use Rattle.k_types_meaning.specs.declared.tree.expression.TExpr.TheOpen.{TExpr-F}
use Rattle.k_types_meaning.specs.declared.tree.statement.TFirst.{TFirst}
use Rattle.k_types_meaning.specs.declared.tree.statement.TFirst.TheVariants as first
use Rattle.k_types_meaning.specs.declared.tree.statement.TPart.{TPart, fold-TPart}
use Rattle.k_types_meaning.specs.declared.tree.statement.TPart.TheOpen.{TStmt-F}
use Rattle.k_types_meaning.specs.declared.tree.statement.TStmt.{TStmt, fold_out-TStmt, map-TStmt, out-TStmt}
use Rattle.k_types_meaning.specs.Types.{same_kind}
use Rattle.k_evaluation_laws.specs.Kinds.{Sort, ANumber, sort_of, kind_in}
use Rattle.k_evaluation_laws.proofs.Ranges as ranges
use Rattle.k_evaluation_laws.proofs.Ranges.{all_stand, declared_in_range, expr_in_range, first_in_range, init_in_range, item_in_range, items_in_range, most_written, option_in_range, stmt_in_range}
use Rattle.k_evaluation_laws.specs.Standing.{IsWithin, itself_within, in_operand, operands_of, option_values, item_values, init_values, declared_values, first_values, expressions_at}
use Rattle.k_evaluation_laws.proofs.Fits.{Around, Seen, all_fit, binary_fits, call_fits, cast_fits, change_fits, declarator_fits, declared_fit, expr_fits, expr_step, first_fits, init_fits, init_of, is_number, is_pointer, items_fit, option_fits, part_step, points, return_fits, same, see, stmt_fits, stmt_step, unary_fits, unused_or, value_fits}

-- ALL OF A LIST
one_stands : (a : Bool) → a ≡ true → all_stand (a ∷ []) ≡ true
one_stands a h = and_from a true h refl

two_stand : (a b : Bool) → (a && b) ≡ true → all_stand (a ∷ b ∷ []) ≡ true
two_stand a b h = let p = and_parts a b h in and_from a (b && true) p.0 (and_from b true p.1 refl)

three_stand : (a b c : Bool) → (a && (b && c)) ≡ true → all_stand (a ∷ b ∷ c ∷ []) ≡ true
three_stand a b c h = let p = and_parts a (b && c) h in and_from a (b && (c && true)) p.0 (two_stand b c p.1)

stand_both : (P : TExpr → Bool) (xs ys : List TExpr) → all_stand (map P xs) ≡ true → all_stand (map P ys) ≡ true → all_stand (map P (xs ++ ys)) ≡ true
stand_both P [] ys h k = k
stand_both P (x ∷ xs) ys h k = let p = and_parts (P x) (all_stand (map P xs)) h in and_from (P x) (all_stand (map P (xs ++ ys))) p.0 (stand_both P xs ys p.1 k)

pub stands_here : (P : TExpr → Bool) (es : List TExpr) (n : ℕ) (e : TExpr) → slice_get es n ≡ Some e → all_stand (map P es) ≡ true → P e ≡ true
stands_here P [] n e is h = absurd (none-some e is)
stands_here P (d ∷ es) zero e is h = subst (λ (x : TExpr). P x ≡ true) (same_Some d e is) (and_parts (P d) (all_stand (map P es)) h).0
stands_here P (d ∷ es) (suc n) e is h = stands_here P es n e is (and_parts (P d) (all_stand (map P es)) h).1

-- WHAT FITS
module _ (site : Around) where
  args_fit : (args : List TExpr) → all_fit (map (see site) args) ≡ true → all_stand (map (expr_fits site) args) ≡ true
  args_fit [] h = refl
  args_fit (e ∷ args) h = let p = and_parts (see site e).fits (all_fit (map (see site) args)) h in and_from (see site e).fits (all_stand (map (expr_fits site) args)) p.0 (args_fit args p.1)

  operands_fit : (z : TExpr-F TExpr) → (expr_step site (map-TExpr TExpr Seen (see site) z)).fits ≡ true → all_stand (map (expr_fits site) (operands_of z)) ≡ true
  operands_fit (TExpr-F.Number node value) h = refl
  operands_fit (TExpr-F.Str node string bytes) h = refl
  operands_fit (TExpr-F.Object node object) h = refl
  operands_fit (TExpr-F.Variable node variable) h = refl
  operands_fit (TExpr-F.Index node base index) h = two_stand (see site base).fits (see site index).fits ((and_parts (points (see site base).of (sort_of node.of)) ((see site base).fits && (see site index).fits) h).1)
  operands_fit (TExpr-F.Call node function args) h = args_fit args ((and_parts (call_fits (slice_get site.callees function) (sort_of node.of) (map (see site) args)) (all_fit (map (see site) args)) h).1)
  operands_fit (TExpr-F.Getchar node) h = refl
  operands_fit (TExpr-F.Putchar node of) h = one_stands (see site of).fits ((and_parts (same (sort_of node.of) (ANumber I32)) (see site of).fits h).1)
  operands_fit (TExpr-F.Puts node of) h = one_stands (see site of).fits ((and_parts (same (sort_of node.of) (ANumber I32)) (see site of).fits h).1)
  operands_fit (TExpr-F.Printf node format args) h = args_fit args ((and_parts (same (sort_of node.of) (ANumber I32)) (all_fit (map (see site) args)) h).1)
  operands_fit (TExpr-F.Post node by of) h = one_stands (see site of).fits ((and_parts (same (sort_of node.of) (see site of).of) (see site of).fits (and_parts (change_fits by (sort_of node.of)) ((same (sort_of node.of) (see site of).of) && (see site of).fits) h).1).1)
  operands_fit (TExpr-F.Pre node by of) h = one_stands (see site of).fits ((and_parts (same (sort_of node.of) (see site of).of) (see site of).fits (and_parts (change_fits by (sort_of node.of)) ((same (sort_of node.of) (see site of).of) && (see site of).fits) h).1).1)
  operands_fit (TExpr-F.Address node of) h = one_stands (see site of).fits ((and_parts (points (sort_of node.of) (see site of).of) (see site of).fits h).1)
  operands_fit (TExpr-F.Deref node of) h = one_stands (see site of).fits ((and_parts (points (see site of).of (sort_of node.of)) (see site of).fits h).1)
  operands_fit (TExpr-F.Plus node of) h = one_stands (see site of).fits ((and_parts (same (sort_of node.of) (see site of).of) (see site of).fits h).1)
  operands_fit (TExpr-F.Unary node op kind of) h = one_stands (see site of).fits ((and_parts (unary_fits op kind (sort_of node.of)) (see site of).fits h).1)
  operands_fit (TExpr-F.Convert node of) h = one_stands (see site of).fits ((and_parts (is_number (sort_of node.of)) (see site of).fits h).1)
  operands_fit (TExpr-F.Cast node of) h = one_stands (see site of).fits ((and_parts (cast_fits (sort_of node.of) (see site of).of) (see site of).fits h).1)
  operands_fit (TExpr-F.Binary node op kind left right) h = two_stand (see site left).fits (see site right).fits ((and_parts (binary_fits op kind (sort_of node.of)) ((see site left).fits && (see site right).fits) h).1)
  operands_fit (TExpr-F.Both node left right) h = two_stand (see site left).fits (see site right).fits ((and_parts (is_number (sort_of node.of)) ((see site left).fits && (see site right).fits) h).1)
  operands_fit (TExpr-F.Either node left right) h = two_stand (see site left).fits (see site right).fits ((and_parts (is_number (sort_of node.of)) ((see site left).fits && (see site right).fits) h).1)
  operands_fit (TExpr-F.Forward node left right) h = two_stand (see site left).fits (see site right).fits ((and_parts (is_pointer (sort_of node.of)) ((see site left).fits && (see site right).fits) (and_parts (same (sort_of node.of) (see site left).of) ((is_pointer (sort_of node.of)) && ((see site left).fits && (see site right).fits)) h).1).1)
  operands_fit (TExpr-F.Onto node left right) h = two_stand (see site left).fits (see site right).fits ((and_parts (is_pointer (sort_of node.of)) ((see site left).fits && (see site right).fits) (and_parts (same (sort_of node.of) (see site right).of) ((is_pointer (sort_of node.of)) && ((see site left).fits && (see site right).fits)) h).1).1)
  operands_fit (TExpr-F.Back node left right) h = two_stand (see site left).fits (see site right).fits ((and_parts (is_pointer (sort_of node.of)) ((see site left).fits && (see site right).fits) (and_parts (same (sort_of node.of) (see site left).of) ((is_pointer (sort_of node.of)) && ((see site left).fits && (see site right).fits)) h).1).1)
  operands_fit (TExpr-F.PtrCompare node op left right) h = two_stand (see site left).fits (see site right).fits ((and_parts (is_number (sort_of node.of)) ((see site left).fits && (see site right).fits) h).1)
  operands_fit (TExpr-F.PtrDistance node left right) h = two_stand (see site left).fits (see site right).fits ((and_parts (is_pointer (see site left).of && is_pointer (see site right).of) ((see site left).fits && (see site right).fits) (and_parts (same (sort_of node.of) (ANumber I64)) ((is_pointer (see site left).of && is_pointer (see site right).of) && ((see site left).fits && (see site right).fits)) h).1).1)
  operands_fit (TExpr-F.Cond node test a b) h = three_stand (see site test).fits (see site a).fits (see site b).fits ((and_parts (unused_or (sort_of node.of) (same (sort_of node.of) (see site a).of && same (sort_of node.of) (see site b).of)) ((see site test).fits && ((see site a).fits && (see site b).fits)) h).1)
  operands_fit (TExpr-F.Assign node left right) h = two_stand (see site left).fits (see site right).fits ((and_parts (same (sort_of node.of) (see site right).of) ((see site left).fits && (see site right).fits) (and_parts (same (sort_of node.of) (see site left).of) ((same (sort_of node.of) (see site right).of) && ((see site left).fits && (see site right).fits)) h).1).1)
  operands_fit (TExpr-F.AssignBy node by left right) h = two_stand (see site left).fits (see site right).fits ((and_parts (same (sort_of node.of) (see site left).of) ((see site left).fits && (see site right).fits) (and_parts (change_fits by (sort_of node.of)) ((same (sort_of node.of) (see site left).of) && ((see site left).fits && (see site right).fits)) h).1).1)
  operands_fit (TExpr-F.Comma node left right) h = two_stand (see site left).fits (see site right).fits ((and_parts (unused_or (sort_of node.of) (same (sort_of node.of) (see site right).of)) ((see site left).fits && (see site right).fits) h).1)

  pub within_fits : (e d : TExpr) → IsWithin e d → expr_fits site d ≡ true → expr_fits site e ≡ true
  within_fits _ _ (itself_within e) h = h
  within_fits _ _ (in_operand e d n operand there within) h =
      within_fits e operand within
      (stands_here (expr_fits site) (operands_of (out-TExpr d)) n operand there
      (operands_fit (out-TExpr d) (sym (ap (λ (x : Seen). x.fits) (fold_out-TExpr Seen (expr_step site) d)) ∙ h)))

  items_stand : (kind : Kind) (items : List TItem) → items_fit site kind items ≡ true → all_stand (map (expr_fits site) (item_values items)) ≡ true
  items_stand kind [] h = refl
  items_stand kind (item.Bytes n bytes ∷ items) h = items_stand kind items (and_parts (same_kind kind I8) (items_fit site kind items) h).1
  items_stand kind (item.Value p n e ∷ items) h =
      let p = and_parts (value_fits site (ANumber kind) e) (items_fit site kind items) h in
      and_from (expr_fits site e) (all_stand (map (expr_fits site) (item_values items))) (and_parts (same (ANumber kind) (see site e).of) (expr_fits site e) p.0).1 (items_stand kind items p.1)

  init_stands : (s : Sort) (i : TInit) → init_fits site s i ≡ true → all_stand (map (expr_fits site) (init_values i)) ≡ true
  init_stands s begins.Nothing h = refl
  init_stands s (begins.Value e) h = one_stands (expr_fits site e) (and_parts (same s (see site e).of) (expr_fits site e) h).1
  init_stands s (begins.Elements items) h = items_stand (kind_in s) items h

  declarator_stands : (o : Option Sort) (i : TInit) → init_of site o i ≡ true → all_stand (map (expr_fits site) (init_values i)) ≡ true
  declarator_stands None i h = absurd (cc h)
  declarator_stands (Some s) i h = init_stands s i h

  declared_stand : (list : List TDeclarator) → declared_fit site list ≡ true → all_stand (map (expr_fits site) (declared_values list)) ≡ true
  declared_stand [] h = refl
  declared_stand (d ∷ list) h =
      let p = and_parts (declarator_fits site d) (declared_fit site list) h in
      stand_both (expr_fits site) (init_values d.init) (declared_values list) (declarator_stands (slice_get site.variables d.variable) d.init p.0) (declared_stand list p.1)

  first_stands : (f : TFirst) → first_fits site f ≡ true → all_stand (map (expr_fits site) (first_values f)) ≡ true
  first_stands first.Nothing h = refl
  first_stands (first.Value e) h = one_stands (expr_fits site e) h
  first_stands (first.Declare list) h = declared_stand list h

  option_stands : (o : Option TExpr) → option_fits site o ≡ true → all_stand (map (expr_fits site) (option_values o)) ≡ true
  option_stands None h = refl
  option_stands (Some e) h = one_stands (expr_fits site e) h

  return_stands : (o : Option TExpr) → return_fits site o ≡ true → all_stand (map (expr_fits site) (option_values o)) ≡ true
  return_stands None h = refl
  return_stands (Some e) h = one_stands (expr_fits site e) (and_parts (same site.result (see site e).of) (expr_fits site e) h).1

  statement_at : (z : TStmt-F TPart TStmt) → stmt_step site (map-TStmt TPart TStmt Bool Bool (fold-TPart Bool Bool part_step (stmt_step site)) (stmt_fits site) z) ≡ true
      → all_stand (map (expr_fits site) (expressions_at z)) ≡ true
  statement_at (TStmt-F.Expr spot e) h = one_stands (expr_fits site e) h
  statement_at (TStmt-F.Empty spot) h = refl
  statement_at (TStmt-F.Block spot parts) h = refl
  statement_at (TStmt-F.If spot test a b) h = one_stands (expr_fits site test) (and_parts (expr_fits site test) _ h).0
  statement_at (TStmt-F.While spot number test body) h = one_stands (expr_fits site test) (and_parts (expr_fits site test) (stmt_fits site body) h).0
  statement_at (TStmt-F.DoWhile spot number body test) h = one_stands (expr_fits site test) (and_parts (expr_fits site test) (stmt_fits site body) h).0
  statement_at (TStmt-F.For spot number start test step body) h =
      let p = and_parts (first_fits site start) (option_fits site test && (option_fits site step && stmt_fits site body)) h in
      let q = and_parts (option_fits site test) (option_fits site step && stmt_fits site body) p.1 in
      stand_both (expr_fits site) (first_values start) (option_values test ++ option_values step) (first_stands start p.0)
      (stand_both (expr_fits site) (option_values test) (option_values step) (option_stands test q.0) (option_stands step (and_parts (option_fits site step) (stmt_fits site body) q.1).0))
  statement_at (TStmt-F.Switch spot kind on parts) h = one_stands (expr_fits site on) (and_parts (expr_fits site on) _ h).0
  statement_at (TStmt-F.Break spot) h = refl
  statement_at (TStmt-F.Continue spot) h = refl
  statement_at (TStmt-F.Return spot value) h = return_stands value h
  statement_at (TStmt-F.Declare spot list) h = declared_stand list h

  pub expressions_fit : (s : TStmt) → stmt_fits site s ≡ true → all_stand (map (expr_fits site) (expressions_at (out-TStmt s))) ≡ true
  expressions_fit s h = statement_at (out-TStmt s) (sym (fold_out-TStmt Bool Bool part_step (stmt_step site) s) ∙ h)

-- WHAT IS IN RANGE
module _ (strings : ℕ) where
  operands_ranged : (z : TExpr-F TExpr) → ranges.expr_step strings (map-TExpr TExpr Bool (expr_in_range strings) z) ≡ true → all_stand (map (expr_in_range strings) (operands_of z)) ≡ true
  operands_ranged (TExpr-F.Number node value) h = refl
  operands_ranged (TExpr-F.Str node string bytes) h = refl
  operands_ranged (TExpr-F.Object node object) h = refl
  operands_ranged (TExpr-F.Variable node variable) h = refl
  operands_ranged (TExpr-F.Index node base index) h = two_stand (expr_in_range strings base) (expr_in_range strings index) h
  operands_ranged (TExpr-F.Call node function args) h = h
  operands_ranged (TExpr-F.Getchar node) h = refl
  operands_ranged (TExpr-F.Putchar node of) h = one_stands (expr_in_range strings of) h
  operands_ranged (TExpr-F.Puts node of) h = one_stands (expr_in_range strings of) h
  operands_ranged (TExpr-F.Printf node format args) h = (and_parts (nat_le (most_written format) 2147483647) (all_stand (map (expr_in_range strings) args)) h).1
  operands_ranged (TExpr-F.Post node by of) h = one_stands (expr_in_range strings of) h
  operands_ranged (TExpr-F.Pre node by of) h = one_stands (expr_in_range strings of) h
  operands_ranged (TExpr-F.Address node of) h = one_stands (expr_in_range strings of) h
  operands_ranged (TExpr-F.Deref node of) h = one_stands (expr_in_range strings of) h
  operands_ranged (TExpr-F.Plus node of) h = one_stands (expr_in_range strings of) h
  operands_ranged (TExpr-F.Unary node op kind of) h = one_stands (expr_in_range strings of) h
  operands_ranged (TExpr-F.Convert node of) h = one_stands (expr_in_range strings of) h
  operands_ranged (TExpr-F.Cast node of) h = one_stands (expr_in_range strings of) h
  operands_ranged (TExpr-F.Binary node op kind left right) h = two_stand (expr_in_range strings left) (expr_in_range strings right) h
  operands_ranged (TExpr-F.Both node left right) h = two_stand (expr_in_range strings left) (expr_in_range strings right) h
  operands_ranged (TExpr-F.Either node left right) h = two_stand (expr_in_range strings left) (expr_in_range strings right) h
  operands_ranged (TExpr-F.Forward node left right) h = two_stand (expr_in_range strings left) (expr_in_range strings right) h
  operands_ranged (TExpr-F.Onto node left right) h = two_stand (expr_in_range strings left) (expr_in_range strings right) h
  operands_ranged (TExpr-F.Back node left right) h = two_stand (expr_in_range strings left) (expr_in_range strings right) h
  operands_ranged (TExpr-F.PtrCompare node op left right) h = two_stand (expr_in_range strings left) (expr_in_range strings right) h
  operands_ranged (TExpr-F.PtrDistance node left right) h = two_stand (expr_in_range strings left) (expr_in_range strings right) h
  operands_ranged (TExpr-F.Cond node test a b) h = three_stand (expr_in_range strings test) (expr_in_range strings a) (expr_in_range strings b) h
  operands_ranged (TExpr-F.Assign node left right) h = two_stand (expr_in_range strings left) (expr_in_range strings right) h
  operands_ranged (TExpr-F.AssignBy node by left right) h = two_stand (expr_in_range strings left) (expr_in_range strings right) h
  operands_ranged (TExpr-F.Comma node left right) h = two_stand (expr_in_range strings left) (expr_in_range strings right) h

  pub within_range : (e d : TExpr) → IsWithin e d → expr_in_range strings d ≡ true → expr_in_range strings e ≡ true
  within_range _ _ (itself_within e) h = h
  within_range _ _ (in_operand e d n operand there within) h =
      within_range e operand within
      (stands_here (expr_in_range strings) (operands_of (out-TExpr d)) n operand there (operands_ranged (out-TExpr d) (sym (fold_out-TExpr Bool (ranges.expr_step strings) d) ∙ h)))

  items_ranged : (items : List TItem) → items_in_range strings items ≡ true → all_stand (map (expr_in_range strings) (item_values items)) ≡ true
  items_ranged [] h = refl
  items_ranged (item.Bytes n bytes ∷ items) h = items_ranged items h
  items_ranged (item.Value p n e ∷ items) h =
      let p = and_parts (expr_in_range strings e) (items_in_range strings items) h in
      and_from (expr_in_range strings e) (all_stand (map (expr_in_range strings) (item_values items))) p.0 (items_ranged items p.1)

  init_ranged : (i : TInit) → init_in_range strings i ≡ true → all_stand (map (expr_in_range strings) (init_values i)) ≡ true
  init_ranged begins.Nothing h = refl
  init_ranged (begins.Value e) h = one_stands (expr_in_range strings e) h
  init_ranged (begins.Elements items) h = items_ranged items h

  declared_ranged : (list : List TDeclarator) → declared_in_range strings list ≡ true → all_stand (map (expr_in_range strings) (declared_values list)) ≡ true
  declared_ranged [] h = refl
  declared_ranged (d ∷ list) h =
      let p = and_parts (init_in_range strings d.init) (declared_in_range strings list) h in
      stand_both (expr_in_range strings) (init_values d.init) (declared_values list) (init_ranged d.init p.0) (declared_ranged list p.1)

  first_ranged : (f : TFirst) → first_in_range strings f ≡ true → all_stand (map (expr_in_range strings) (first_values f)) ≡ true
  first_ranged first.Nothing h = refl
  first_ranged (first.Value e) h = one_stands (expr_in_range strings e) h
  first_ranged (first.Declare list) h = declared_ranged list h

  option_ranged : (o : Option TExpr) → option_in_range strings o ≡ true → all_stand (map (expr_in_range strings) (option_values o)) ≡ true
  option_ranged None h = refl
  option_ranged (Some e) h = one_stands (expr_in_range strings e) h

  statement_ranged : (z : TStmt-F TPart TStmt)
      → ranges.stmt_step strings (map-TStmt TPart TStmt Bool Bool (fold-TPart Bool Bool ranges.part_step (ranges.stmt_step strings)) (stmt_in_range strings) z) ≡ true
      → all_stand (map (expr_in_range strings) (expressions_at z)) ≡ true
  statement_ranged (TStmt-F.Expr spot e) h = one_stands (expr_in_range strings e) h
  statement_ranged (TStmt-F.Empty spot) h = refl
  statement_ranged (TStmt-F.Block spot parts) h = refl
  statement_ranged (TStmt-F.If spot test a b) h = one_stands (expr_in_range strings test) (and_parts (expr_in_range strings test) _ h).0
  statement_ranged (TStmt-F.While spot number test body) h = one_stands (expr_in_range strings test) (and_parts (expr_in_range strings test) (stmt_in_range strings body) h).0
  statement_ranged (TStmt-F.DoWhile spot number body test) h = one_stands (expr_in_range strings test) (and_parts (expr_in_range strings test) (stmt_in_range strings body) h).0
  statement_ranged (TStmt-F.For spot number start test step body) h =
      let p = and_parts (first_in_range strings start) (option_in_range strings test && (option_in_range strings step && stmt_in_range strings body)) h in
      let q = and_parts (option_in_range strings test) (option_in_range strings step && stmt_in_range strings body) p.1 in
      stand_both (expr_in_range strings) (first_values start) (option_values test ++ option_values step) (first_ranged start p.0)
      (stand_both (expr_in_range strings) (option_values test) (option_values step) (option_ranged test q.0) (option_ranged step (and_parts (option_in_range strings step) (stmt_in_range strings body) q.1).0))
  statement_ranged (TStmt-F.Switch spot kind on parts) h = one_stands (expr_in_range strings on) (and_parts (expr_in_range strings on) _ h).0
  statement_ranged (TStmt-F.Break spot) h = refl
  statement_ranged (TStmt-F.Continue spot) h = refl
  statement_ranged (TStmt-F.Return spot value) h = option_ranged value h
  statement_ranged (TStmt-F.Declare spot list) h = declared_ranged list h

  pub expressions_in_range : (s : TStmt) → stmt_in_range strings s ≡ true → all_stand (map (expr_in_range strings) (expressions_at (out-TStmt s))) ≡ true
  expressions_in_range s h = statement_ranged (out-TStmt s) (sym (fold_out-TStmt Bool Bool ranges.part_step (ranges.stmt_step strings) s) ∙ h)
