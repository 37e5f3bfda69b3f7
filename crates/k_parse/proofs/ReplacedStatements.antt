-- Statements are given back by themselves without places and the places of their pieces.
use Rattle.std.proofs.Common.{◌≡◌, ◌≢◌, List, [], ◌∷◌, ◌++◌, map, append_assoc, refl, sym, ap, ◌∙◌}
use Rattle.std.proofs.lemmas.List.{map-append}
use Rattle.k_parse_steps.specs.Types.{Place, Word, Declarator, First, Stmt, Expr, Part}
use Rattle.k_tree.specs.declared.tokens.mark.Mark.TheVariants as mark
use Rattle.k_tree.specs.declared.tree.statement.First.TheVariants as first
use Rattle.k_tree.specs.declared.tree.statement.Part.TheVariants as part
use Rattle.k_tree.specs.declared.tree.statement.Stmt.TheVariants as stmt
use Rattle.k_tree.specs.Bare.{bare_first, bare_stmt, bare_part}
use Rattle.k_tree.proofs.Folds.{stmt_Expr, stmt_Empty, stmt_Block, if_alone as if_alone_folds, if_else as if_else_folds, stmt_While, stmt_DoWhile, stmt_For, stmt_Switch, part_Case, part_Default, part_Does, stmt_Break, stmt_Continue, stmt_Return, stmt_Declare}
use Rattle.k_tree.specs.Places.{plain, kinds_of, lay_expr, lay_declaration, lay_first, lay_part, lay_stmt, lay_stmts, lay_switched}
use Rattle.k_tree.specs.Ranked.{Ranked, RankedDeclaration, RankedFirst, RankedStmt, RankedParts, value, empty, block, if_alone, if_else, while_loop, do_loop, for_loop, switch_stmt, RankedSwitch, no_labels, case_label, default_label, does, break_loop, continue_loop, return_value, no_parts, statement, declaration}
use Rattle.k_tree.specs.Begins.{begins_stmt}
use Rattle.k_tree.specs.Spelling.{the_mark, spell_stmt}
use Rattle.k_tree.proofs.Begin.{stmt_begins, not_empty}
use Rattle.k_tree.proofs.Laid.{stmt_spelled}
use Rattle.k_parse.proofs.ReplacedFilling.{fill_first, fill_part, fill_stmt, fill_stmts, fill_switched}
use Rattle.k_parse.proofs.ReplacedPieces.{blank, Fills, blank-at, places-append, places-at, append_laid}
use Rattle.k_parse.proofs.ReplacedExpressions.{expr_blank, expr_filled, expr_laid, option_blank, option_filled}
use Rattle.k_parse.proofs.ReplacedDeclarations.{declaration_blank, declaration_filled, declaration_laid}

first_blank : (f : First) → RankedFirst f → lay_first (bare_first f) ≡ blank (lay_first f)
first_blank first.Nothing h = refl
first_blank (first.Value e) h = simp (map-append, expr_blank 0 e h)
first_blank (first.Declare specs list) h = declaration_blank specs list h

first_filled : (f : First) → RankedFirst f → Fills (lay_first f) (fill_first (bare_first f)) f
first_filled first.Nothing h ps = refl
first_filled (first.Value e) h ps = simp (places-append, append_assoc, expr_filled 0 e h)
first_filled (first.Declare specs list) h ps = simp (declaration_filled specs list h)

declare_blank : (p : Place) (specs : List Word) (list : List Declarator) → RankedDeclaration specs list
    → lay_stmt (bare_stmt (stmt.Declare p specs list)) ≡ blank (lay_stmt (stmt.Declare p specs list))
declare_blank p specs list h = simp (stmt_Declare, blank-at, declaration_blank specs list h)

declare_filled : (p : Place) (specs : List Word) (list : List Declarator) → RankedDeclaration specs list
    → Fills (lay_stmt (stmt.Declare p specs list)) (fill_stmt (bare_stmt (stmt.Declare p specs list))).from (stmt.Declare p specs list)
declare_filled p specs list h ps =
    simp (stmt_Declare, places-at p (lay_declaration specs list) (declaration_laid specs list h), declaration_filled specs list h)

mutual
  stmt_blank : (s : Stmt) → RankedStmt s → lay_stmt (bare_stmt s) ≡ blank (lay_stmt s)
  stmt_blank _ (value p a x) = simp (stmt_Expr, blank-at, map-append, expr_blank 0 a x)
  stmt_blank _ (empty p) = simp (stmt_Empty)
  stmt_blank _ (block p parts x) = simp (stmt_Block, map-append, parts_blank parts x)
  stmt_blank _ (if_alone p a s x y) = simp (if_alone_folds, map-append, expr_blank 0 a x, stmt_blank s y)
  stmt_blank _ (if_else p a s t x y q z) = simp (if_else_folds, map-append, expr_blank 0 a x, stmt_blank s y, stmt_blank t z)
  stmt_blank _ (while_loop p a s x y) = simp (stmt_While, map-append, expr_blank 0 a x, stmt_blank s y)
  stmt_blank _ (do_loop p s a x y) = simp (stmt_DoWhile, map-append, expr_blank 0 a y, stmt_blank s x)
  stmt_blank _ (for_loop p start a b s x y z w) =
      simp (stmt_For, map-append, first_blank start x, option_blank 0 a y, option_blank 0 b z, stmt_blank s w)
  stmt_blank _ (switch_stmt p a parts x y) = simp (stmt_Switch, map-append, expr_blank 0 a x, switched_blank parts y)
  stmt_blank _ (break_loop p) = simp (stmt_Break)
  stmt_blank _ (continue_loop p) = simp (stmt_Continue)
  stmt_blank _ (return_value p a x) = simp (stmt_Return, map-append, option_blank 0 a x)

  pub parts_blank : (parts : List Stmt) → RankedParts parts → lay_stmts (map bare_stmt parts) ≡ blank (lay_stmts parts)
  parts_blank _ no_parts = refl
  parts_blank _ (statement s parts x y) = simp (map-append, stmt_blank s x, parts_blank parts y)
  parts_blank _ (declaration p specs list parts x y) = simp (map-append, declare_blank p specs list x, parts_blank parts y)

  switched_blank : (parts : List Part) → RankedSwitch parts → lay_switched (map bare_part parts) ≡ blank (lay_switched parts)
  switched_blank _ no_labels = refl
  switched_blank _ (case_label p a parts x y) = simp (part_Case, map-append, expr_blank 2 a x, switched_blank parts y)
  switched_blank _ (default_label p parts y) = simp (part_Default, map-append, switched_blank parts y)
  switched_blank _ (does p s parts x y) = simp (part_Does, blank-at, map-append, stmt_blank s x, switched_blank parts y)

-- a statement has pieces
stmt_laid : (s : Stmt) → RankedStmt s → lay_stmt s ≢ []
stmt_laid s x q = not_empty begins_stmt (spell_stmt s) (stmt_begins s x) (sym (stmt_spelled s x) ∙ ap kinds_of q)

case_filled : (p : Place) (a : Expr) → Ranked 2 a → Fills (lay_part (part.Case p a)) (fill_part (bare_part (part.Case p a))).from (part.Case p a)
case_filled p a x ps = simp (part_Case, places-append, append_assoc, expr_filled 2 a x)

default_filled : (p : Place) → Fills (lay_part (part.Default p)) (fill_part (bare_part (part.Default p))).from (part.Default p)
default_filled p ps = simp (part_Default)

does_filled : (p : Place) (s : Stmt) → RankedStmt s → Fills (lay_stmt s) (fill_stmt (bare_stmt s)).from s
    → Fills (lay_part (part.Does p s)) (fill_part (bare_part (part.Does p s))).from (part.Does p s)
does_filled p s x filled ps = simp (part_Does, places-at p (lay_stmt s) (stmt_laid s x), filled)

-- a part of a `switch` before others
part_before : (q : Part) (parts : List Part) → Fills (lay_part q) (fill_part (bare_part q)).from q
    → Fills (lay_switched parts) (fill_switched (map bare_part parts)) parts
    → Fills (lay_switched (q ∷ parts)) (fill_switched (map bare_part (q ∷ parts))) (q ∷ parts)
part_before q parts one others ps = simp (places-append, append_assoc, one, others)

mutual
  stmt_filled : (s : Stmt) → RankedStmt s → Fills (lay_stmt s) (fill_stmt (bare_stmt s)).from s
  stmt_filled _ (value p a x) ps =
      let laid : lay_expr a ++ plain (the_mark mark.Semicolon) ≢ [] = append_laid (lay_expr a) _ (expr_laid 0 a x) in
      simp (stmt_Expr, places-at p (lay_expr a ++ plain (the_mark mark.Semicolon)) laid, places-append, append_assoc, expr_filled 0 a x)
  stmt_filled _ (empty p) ps = simp (stmt_Empty)
  stmt_filled _ (block p parts x) ps = simp (stmt_Block, places-append, append_assoc, parts_filled parts x)
  stmt_filled _ (if_alone p a s x y) ps = simp (if_alone_folds, places-append, append_assoc, expr_filled 0 a x, stmt_filled s y)
  stmt_filled _ (if_else p a s t x y q z) ps =
      simp (if_else_folds, places-append, append_assoc, expr_filled 0 a x, stmt_filled s y, stmt_filled t z)
  stmt_filled _ (while_loop p a s x y) ps = simp (stmt_While, places-append, append_assoc, expr_filled 0 a x, stmt_filled s y)
  stmt_filled _ (do_loop p s a x y) ps = simp (stmt_DoWhile, places-append, append_assoc, expr_filled 0 a y, stmt_filled s x)
  stmt_filled _ (for_loop p start a b s x y z w) ps =
      simp (stmt_For, places-append, append_assoc, first_filled start x, option_filled 0 a y, option_filled 0 b z, stmt_filled s w)
  stmt_filled _ (switch_stmt p a parts x y) ps =
      simp (stmt_Switch, places-append, append_assoc, expr_filled 0 a x, switched_filled parts y)
  stmt_filled _ (break_loop p) ps = simp (stmt_Break)
  stmt_filled _ (continue_loop p) ps = simp (stmt_Continue)
  stmt_filled _ (return_value p a x) ps = simp (stmt_Return, places-append, append_assoc, option_filled 0 a x)

  pub parts_filled : (parts : List Stmt) → RankedParts parts → Fills (lay_stmts parts) (fill_stmts (map bare_stmt parts)) parts
  parts_filled _ no_parts ps = refl
  parts_filled _ (statement s parts x y) ps = simp (places-append, append_assoc, stmt_filled s x, parts_filled parts y)
  parts_filled _ (declaration p specs list parts x y) ps =
      simp (places-append, append_assoc, declare_filled p specs list x, parts_filled parts y)

  switched_filled : (parts : List Part) → RankedSwitch parts → Fills (lay_switched parts) (fill_switched (map bare_part parts)) parts
  switched_filled _ no_labels ps = refl
  switched_filled _ (case_label p a parts x y) ps = part_before (part.Case p a) parts (case_filled p a x) (switched_filled parts y) ps
  switched_filled _ (default_label p parts y) ps = part_before (part.Default p) parts (default_filled p) (switched_filled parts y) ps
  switched_filled _ (does p s parts x y) ps =
      part_before (part.Does p s) parts (does_filled p s x (stmt_filled s x)) (switched_filled parts y) ps
