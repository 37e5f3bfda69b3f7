-- A statement without its numbers has the same shape.
use Rattle.std.proofs.Common.{◌≡◌, refl, sym, ap, ◌∙◌, subst, List, [], ◌∷◌, ◌++◌, map, Some, None}
use Rattle.std.proofs.lemmas.List.{map-append}
use Rattle.k_types_meaning.specs.declared.tree.statement.TPart.{TPart, fold-TPart, fold-roll-TPart, map-TPart}
use Rattle.k_types_meaning.specs.declared.tree.statement.TPart.TheOpen.{TPart-F, TStmt-F}
use Rattle.k_types_meaning.specs.declared.tree.statement.TStmt.{TStmt, fold-roll-TStmt, ind-TStmt, map-TStmt}
use Rattle.k_types_meaning.specs.Bare.{bare_declared, bare_expr, bare_first, bare_option, bare_part_step, bare_spot, bare_stmt, bare_stmt_step}
use Rattle.k_types_meaning.proofs.Folds.{done_Expr, done_Empty, done_Block, done_alone, done_else, done_While, done_DoWhile, done_For, done_Switch, done_Break, done_Continue, done_Return, done_Declare, part_Case, part_Default, part_Does}
use Rattle.k_regions.specs.Regions.{Located, find, find_part, part_step, stmt_step}
use Rattle.k_regions.proofs.Seen.{Shape, all_loops, all_part_shapes, all_shapes, loop_shaped, pair_of, part_shape, shape_of, shaped, stmt_shape}

abbrev bare_part : TPart → TPart
bare_part = fold-TPart TPart TStmt bare_part_step bare_stmt_step

abbrev SamePart : TPart → Type 0
SamePart p = part_shape (bare_part p) ≡ part_shape p

abbrev SameStmt : TStmt → Type 0
SameStmt s = stmt_shape (bare_stmt s) ≡ stmt_shape s

abbrev Stmts : Type 0
Stmts = List ((s : TStmt) × SameStmt s)

abbrev Parts : Type 0
Parts = List ((p : TPart) × SamePart p)

abbrev stmts : Stmts → List TStmt
stmts xs = map (λ (x : (s : TStmt) × SameStmt s). x.0) xs

abbrev parts_in : Parts → List TPart
parts_in xs = map (λ (x : (p : TPart) × SamePart p). x.0) xs

all_same : (xs : Stmts) → map stmt_shape (map bare_stmt (stmts xs)) ≡ map stmt_shape (stmts xs)
all_same [] = refl
all_same (x ∷ xs) = λ i. x.1 i ∷ all_same xs i

parts_same : (xs : Parts) → map part_shape (map bare_part (parts_in xs)) ≡ map part_shape (parts_in xs)
parts_same [] = refl
parts_same (x ∷ xs) = λ i. x.1 i ∷ parts_same xs i

-- the layers
abbrev PartLayer : TPart-F TPart TStmt → Type 0
PartLayer z =
    part_shape (bare_part_step (map-TPart TPart TStmt TPart TStmt bare_part bare_stmt z)) ≡ shape_of (part_step (map-TPart TPart TStmt Located Located find_part find z))

abbrev StmtLayer : TStmt-F TPart TStmt → Type 0
StmtLayer z =
    stmt_shape (bare_stmt_step (map-TStmt TPart TStmt TPart TStmt bare_part bare_stmt z)) ≡ shape_of (stmt_step (map-TStmt TPart TStmt Located Located find_part find z))

part_by : (y : TPart-F ((p : TPart) × SamePart p) ((s : TStmt) × SameStmt s))
    → PartLayer (map-TPart _ _ TPart TStmt (λ (x : (p : TPart) × SamePart p). x.0) (λ (x : (s : TStmt) × SameStmt s). x.0) y)
part_by (TPart-F.Case p z) = ap shape_of (part_Case Located Located part_step stmt_step p z)
part_by (TPart-F.Default p) = ap shape_of (part_Default Located Located part_step stmt_step p)
part_by (TPart-F.Does p s) = ap shape_of (part_Does Located Located part_step stmt_step p (bare_stmt s.0)) ∙ ap (λ (g : Shape). shaped p g.loops) s.1

stmt_by : (y : TStmt-F ((p : TPart) × SamePart p) ((s : TStmt) × SameStmt s))
    → StmtLayer (map-TStmt _ _ TPart TStmt (λ (x : (p : TPart) × SamePart p). x.0) (λ (x : (s : TStmt) × SameStmt s). x.0) y)
stmt_by (TStmt-F.Expr spot e) = ap shape_of (done_Expr Located Located part_step stmt_step (bare_spot spot) (bare_expr e))
stmt_by (TStmt-F.Empty spot) = ap shape_of (done_Empty Located Located part_step stmt_step (bare_spot spot))
stmt_by (TStmt-F.Block spot parts) =
    ap shape_of (done_Block Located Located part_step stmt_step (bare_spot spot) (map bare_stmt (stmts parts)))
    ∙ ap (shaped spot.place) (all_shapes (map bare_stmt (stmts parts)) ∙ ap all_loops (all_same parts) ∙ sym (all_shapes (stmts parts)))
stmt_by (TStmt-F.If spot test a None) =
    ap shape_of (done_alone Located Located part_step stmt_step (bare_spot spot) (bare_expr test) (bare_stmt a.0))
    ∙ ap (shaped spot.place)
    (map-append pair_of (find (bare_stmt a.0)).loops [] ∙ ap (λ (g : Shape). g.loops ++ []) a.1 ∙ sym (map-append pair_of (find a.0).loops []))
stmt_by (TStmt-F.If spot test a (Some b)) =
    ap shape_of (done_else Located Located part_step stmt_step (bare_spot spot) (bare_expr test) (bare_stmt a.0) (bare_stmt b.0))
    ∙ ap (shaped spot.place)
    (map-append pair_of (find (bare_stmt a.0)).loops (find (bare_stmt b.0)).loops ∙ (λ i. (a.1 i).loops ++ (b.1 i).loops) ∙ sym (map-append pair_of (find a.0).loops (find b.0).loops))
stmt_by (TStmt-F.While spot number test a) =
    ap shape_of (done_While Located Located part_step stmt_step (bare_spot spot) 0 (bare_expr test) (bare_stmt a.0)) ∙ ap (loop_shaped spot.place) a.1
stmt_by (TStmt-F.DoWhile spot number a test) =
    ap shape_of (done_DoWhile Located Located part_step stmt_step (bare_spot spot) 0 (bare_stmt a.0) (bare_expr test)) ∙ ap (loop_shaped spot.place) a.1
stmt_by (TStmt-F.For spot number start test step a) =
    ap shape_of (done_For Located Located part_step stmt_step (bare_spot spot) 0 (bare_first start) (bare_option test) (bare_option step) (bare_stmt a.0)) ∙ ap (loop_shaped spot.place) a.1
stmt_by (TStmt-F.Switch spot kind on parts) =
    ap shape_of (done_Switch Located Located part_step stmt_step (bare_spot spot) kind (bare_expr on) (map bare_part (parts_in parts)))
    ∙ ap (shaped spot.place) (all_part_shapes (map bare_part (parts_in parts)) ∙ ap all_loops (parts_same parts) ∙ sym (all_part_shapes (parts_in parts)))
stmt_by (TStmt-F.Break spot) = ap shape_of (done_Break Located Located part_step stmt_step (bare_spot spot))
stmt_by (TStmt-F.Continue spot) = ap shape_of (done_Continue Located Located part_step stmt_step (bare_spot spot))
stmt_by (TStmt-F.Return spot e) = ap shape_of (done_Return Located Located part_step stmt_step (bare_spot spot) (bare_option e))
stmt_by (TStmt-F.Declare spot list) = ap shape_of (done_Declare Located Located part_step stmt_step (bare_spot spot) (bare_declared list))

pub bare_same : (s : TStmt) → stmt_shape (bare_stmt s) ≡ stmt_shape s
bare_same =
    ind-TStmt SamePart SameStmt
    (λ x y is.
    ap part_shape (fold-roll-TPart TPart TStmt bare_part_step bare_stmt_step x) ∙ subst PartLayer is (part_by y) ∙ ap shape_of (sym (fold-roll-TPart Located Located part_step stmt_step x)))
    (λ x y is.
    ap stmt_shape (fold-roll-TStmt TPart TStmt bare_part_step bare_stmt_step x) ∙ subst StmtLayer is (stmt_by y) ∙ ap shape_of (sym (fold-roll-TStmt Located Located part_step stmt_step x)))

pub all_bare_same : (ss : List TStmt) → map stmt_shape (map bare_stmt ss) ≡ map stmt_shape ss
all_bare_same [] = refl
all_bare_same (s ∷ ss) = λ i. bare_same s i ∷ all_bare_same ss i
