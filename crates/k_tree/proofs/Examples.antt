-- Small sources: node counts and nesting of one for each construct, first the count, then the nesting;
-- and the tree in which an `else` goes to the nearest `if`, beside the one in which it doesn't.
use Rattle.std.proofs.Common.{ℕ, ◌≡◌, true, false, List, [], ◌∷◌, map, Option, Some, None, refl, ap, sym, subst, ◌∙◌}
use Rattle.std.specs.Prelude.{pos}
use Rattle.k_num.specs.declared.numbers.Kind.TheVariants as kind
use Rattle.k_tree.specs.Bare.{nowhere}
use Rattle.k_tree.specs.Count.{unit_count}
use Rattle.k_tree.proofs.Folds.{folds}
use Rattle.k_tree.specs.Nesting.{nesting}
use Rattle.k_tree.specs.Spelling.{spell_stmt}
use Rattle.k_tree.specs.Ranked.{RankedStmt, ends_open, value, empty, block, if_alone, if_else, while_loop, do_loop, for_loop, switch_stmt, break_loop, continue_loop, return_value}
use Rattle.k_num.specs.declared.place.Place.{Place}
use Rattle.k_tree.specs.declared.tokens.mark.Mark.TheVariants as mark
use Rattle.k_tree.specs.declared.tokens.word.Word.TheVariants as word
use Rattle.k_tree.specs.declared.tree.expression.Expr.{Expr}
use Rattle.k_tree.specs.declared.tree.expression.Expr.TheVariants as expr
use Rattle.k_tree.specs.declared.tree.statement.First.TheVariants as first
use Rattle.k_tree.specs.declared.tree.statement.Stmt.{Stmt, out-Stmt, roll-Stmt, out-roll-Stmt}
use Rattle.k_tree.specs.declared.tree.statement.Part.TheOpen.{Stmt-F}
use Rattle.k_tree.specs.declared.tree.statement.Stmt.TheVariants as stmt
use Rattle.k_tree.specs.declared.tree.statement.Part.{Part}
use Rattle.k_tree.specs.declared.tree.statement.Part.TheVariants as part
use Rattle.k_tree.specs.declared.tree.declaration.Declarator.{Declarator}
use Rattle.k_tree.specs.declared.tree.declaration.Init.{Init}
use Rattle.k_tree.specs.declared.tree.declaration.Init.TheVariants as init
use Rattle.k_tree.specs.declared.tree.declaration.Params.{Params}
use Rattle.k_tree.specs.declared.tree.declaration.Params.TheVariants as params
use Rattle.k_tree.specs.declared.tree.unit.Head.{Head}
use Rattle.k_tree.specs.declared.tree.unit.Item.{Item}
use Rattle.k_tree.specs.declared.tree.unit.Item.TheVariants as item
use Rattle.k_tree.specs.declared.tree.unit.Unit as source

abbrev a : Expr
a = expr.Name nowhere (97 ∷ [])

abbrev one : Expr
one = expr.Number nowhere kind.I32 1

abbrev declared : List (Option Expr) → Option Init → Declarator
declared dims start = record { place = nowhere; stars = []; name = 97 ∷ []; dims = dims; init = start }

abbrev is_one : Option Init
is_one = Some (init.One nowhere one)

abbrev head : Params → Head
head list = record { specs = word.Void ∷ []; stars = []; name = 102 ∷ []; name_place = nowhere; params = list }

abbrev measured : Item → ℕ × ℕ
measured i = let u : source.Unit = record { items = i ∷ []; end = nowhere } in (unit_count u, nesting u)

-- `void f(void) { statement }`
abbrev measured_stmt : Stmt → ℕ × ℕ
measured_stmt s = measured (item.Function nowhere (head params.Void) (s ∷ []) nowhere)

-- `void f(void) { expression; }`
abbrev measured_expr : Expr → ℕ × ℕ
measured_expr e = measured_stmt (stmt.Expr nowhere e)

pub expressions :
    map measured_expr
    (a
    ∷ one
    ∷ expr.Char nowhere (pos 97)
    ∷ expr.Str nowhere (97 ∷ [])
    ∷ expr.Paren nowhere a
    ∷ expr.Index nowhere a one
    ∷ expr.Call nowhere (102 ∷ []) []
    ∷ expr.Call nowhere (102 ∷ []) (a ∷ one ∷ [])
    ∷ expr.Post nowhere mark.PlusPlus a
    ∷ expr.Pre nowhere mark.PlusPlus a
    ∷ expr.Unary nowhere mark.Minus a
    ∷ expr.SizeofExpr nowhere a
    ∷ expr.SizeofType nowhere (word.Int ∷ []) []
    ∷ expr.Cast nowhere (word.Int ∷ []) [] a
    ∷ expr.Binary nowhere mark.Plus a one
    ∷ expr.Cond nowhere a one one
    ∷ expr.Assign nowhere mark.Equal a one
    ∷ expr.Comma nowhere a one
    ∷ expr.Unary nowhere mark.Minus (expr.Paren nowhere (expr.Binary nowhere mark.Plus a one))
    ∷ [])
    ≡ (3, 2)
    ∷ (3, 2)
    ∷ (3, 2)
    ∷ (3, 2)
    ∷ (4, 3)
    ∷ (5, 3)
    ∷ (3, 2)
    ∷ (5, 3)
    ∷ (4, 3)
    ∷ (4, 3)
    ∷ (4, 3)
    ∷ (4, 3)
    ∷ (3, 2)
    ∷ (4, 3)
    ∷ (5, 3)
    ∷ (6, 3)
    ∷ (5, 3)
    ∷ (5, 3)
    ∷ (7, 5)
    ∷ []
expressions = simp folds

pub statements :
    map measured_stmt
    (stmt.Empty nowhere
    ∷ stmt.Block nowhere (stmt.Expr nowhere a ∷ stmt.Empty nowhere ∷ [])
    ∷ stmt.If nowhere a (stmt.Empty nowhere) None
    ∷ stmt.If nowhere a (stmt.Empty nowhere) (Some (stmt.Expr nowhere a))
    ∷ stmt.While nowhere a (stmt.Empty nowhere)
    ∷ stmt.DoWhile nowhere (stmt.Expr nowhere a) one
    ∷ stmt.For nowhere first.Nothing None None (stmt.Empty nowhere)
    ∷ stmt.For nowhere (first.Value (expr.Assign nowhere mark.Equal a one)) (Some a) (Some (expr.Post nowhere mark.PlusPlus a)) (stmt.Empty nowhere)
    ∷ stmt.For nowhere (first.Declare (word.Int ∷ []) (declared [] is_one ∷ [])) None None (stmt.Empty nowhere)
    ∷ stmt.Switch nowhere a []
    ∷ stmt.Switch nowhere a (part.Case nowhere one ∷ part.Does nowhere (stmt.Expr nowhere a) ∷ part.Default nowhere ∷ [])
    ∷ stmt.Switch nowhere a (part.Case nowhere (expr.Unary nowhere mark.Minus one) ∷ part.Does nowhere (stmt.Break nowhere) ∷ [])
    ∷ stmt.Break nowhere
    ∷ stmt.Continue nowhere
    ∷ stmt.Return nowhere None
    ∷ stmt.Return nowhere (Some a)
    ∷ stmt.Declare nowhere (word.Int ∷ []) (declared (Some one ∷ []) None ∷ declared [] None ∷ [])
    ∷ stmt.Declare nowhere (word.Int ∷ [])
    (declared (None ∷ []) (Some (init.List nowhere (init.One nowhere one ∷ init.One nowhere one ∷ []) true)) ∷ [])
    ∷ [])
    ≡ (2, 1)
    ∷ (5, 3)
    ∷ (4, 2)
    ∷ (6, 3)
    ∷ (4, 2)
    ∷ (5, 3)
    ∷ (3, 2)
    ∷ (9, 3)
    ∷ (6, 3)
    ∷ (3, 2)
    ∷ (9, 3)
    ∷ (8, 3)
    ∷ (2, 1)
    ∷ (2, 1)
    ∷ (2, 1)
    ∷ (3, 2)
    ∷ (5, 2)
    ∷ (8, 4)
    ∷ []
statements = simp folds

pub items :
    map measured
    (item.Function nowhere (head params.Empty) [] nowhere
    ∷ item.Prototype nowhere (head (params.List
    (record { place = nowhere; specs = word.Int ∷ []; stars = []; name = Some (97 ∷ []); dims = Some one ∷ [] }
    ∷ record { place = nowhere; specs = word.Int ∷ []; stars = []; name = None; dims = [] }
    ∷ [])))
    ∷ item.Objects nowhere (word.Int ∷ []) (declared [] is_one ∷ declared [] None ∷ [])
    ∷ [])
    ≡ (1, 0)
    ∷ (4, 1)
    ∷ (5, 2)
    ∷ []
items = simp folds

-- `if (a) if (a) ; else ;`
abbrev to_nearest : Stmt
to_nearest = stmt.If nowhere a (stmt.If nowhere a (stmt.Empty nowhere) (Some (stmt.Empty nowhere))) None

abbrev to_outer : Stmt
to_outer = stmt.If nowhere a (stmt.If nowhere a (stmt.Empty nowhere) None) (Some (stmt.Empty nowhere))

pub equal_spellings : spell_stmt to_nearest ≡ spell_stmt to_outer
equal_spellings = simp folds

roll_injective : (x y : Stmt-F Part Stmt) → roll-Stmt x ≡ roll-Stmt y → x ≡ y
roll_injective x y e = sym (out-roll-Stmt x) ∙ (ap out-Stmt e ∙ out-roll-Stmt y)

-- the statement before an `else` doesn't end in an `if` without one
no_open_if : (s : Stmt) → RankedStmt s → (p : Place) (e : Expr) (x t : Stmt) → s ≡ stmt.If p e x (Some t) → ends_open x ≡ false
no_open_if _ (value p b x) q e y t eq = cc
no_open_if _ (empty p) q e y t eq = cc
no_open_if _ (block p parts x) q e y t eq = cc
no_open_if _ (if_alone p b s x y) q e z t eq = cc
no_open_if _ (if_else p b s t x y closed z) q e w u eq =
    let layers : Stmt-F.If p b s (Some t) ≡ Stmt-F.If q e w (Some u) =
    roll_injective _ _ (stmt.rolls-If p b s (Some t) ∙ (eq ∙ sym (stmt.rolls-If q e w (Some u)))) in
    let same : s ≡ w = cc in subst (λ z. ends_open z ≡ false) same closed
no_open_if _ (while_loop p b s x y) q e z t eq = cc
no_open_if _ (do_loop p s b x y) q e z t eq = cc
no_open_if _ (for_loop p start b c s x y z w) q e v t eq = cc
no_open_if _ (switch_stmt p b parts x y) q e z t eq = cc
no_open_if _ (break_loop p) q e x t eq = cc
no_open_if _ (continue_loop p) q e x t eq = cc
no_open_if _ (return_value p b x) q e y t eq = cc

pub outer_else_refused : RankedStmt to_outer → ⊥
outer_else_refused d =
    let closed : ends_open (stmt.If nowhere a (stmt.Empty nowhere) None) ≡ false =
    no_open_if to_outer d nowhere a (stmt.If nowhere a (stmt.Empty nowhere) None) (stmt.Empty nowhere) refl in
    let open_end : ends_open (stmt.If nowhere a (stmt.Empty nowhere) None) ≡ true = simp folds in
    cc
