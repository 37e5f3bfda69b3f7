-- The statements of which loops are listed are those that were looked at; and without its numbers a statement has the same loops without theirs.
use Rattle.std.proofs.Common.{◌≡◌, refl, sym, ap, ◌∙◌, subst, List, [], ◌∷◌, ◌++◌, map, Some, None}
use Rattle.std.proofs.lemmas.List.{map-append}
use Rattle.k_types_meaning.specs.declared.tree.statement.TPart.{TPart, fold-TPart, fold-roll-TPart, map-TPart, roll-TPart}
use Rattle.k_types_meaning.specs.declared.tree.statement.TPart.TheOpen.{TPart-F, TStmt-F}
use Rattle.k_types_meaning.specs.declared.tree.statement.TPart.TheVariants as part
use Rattle.k_types_meaning.specs.declared.tree.statement.TStmt.{TStmt, fold-roll-TStmt, ind-TStmt, map-TStmt, roll-TStmt}
use Rattle.k_types_meaning.specs.declared.tree.statement.TStmt.TheVariants as stmt
use Rattle.k_types_meaning.specs.Bare.{bare_declared, bare_expr, bare_first, bare_option, bare_part_step, bare_spot, bare_stmt, bare_stmt_step}
use Rattle.k_types_meaning.proofs.Folds.{done_Expr, done_Empty, done_Block, done_alone, done_else, done_While, done_DoWhile, done_For, done_Switch, done_Break, done_Continue, done_Return, done_Declare, part_Case, part_Default, part_Does}
use Rattle.k_marks_laws.specs.Turns.{TLoop}
use Rattle.k_marks_laws.specs.Standing.{Standing, StandingPart, loops_in, loops_of_all, loops_of_parts, loop_at, tested_at, standing, standing_part, standing_part_step, standing_step}

-- THE STATEMENT ITSELF
abbrev SamePart : TPart → Type 0
SamePart p = (standing_part p).itself ≡ p

abbrev SameStmt : TStmt → Type 0
SameStmt s = (standing s).itself ≡ s

abbrev part_trees : List ((p : TPart) × SamePart p) → List TPart
part_trees xs = map (λ (x : (p : TPart) × SamePart p). x.0) xs

abbrev stmt_trees : List ((s : TStmt) × SameStmt s) → List TStmt
stmt_trees xs = map (λ (x : (s : TStmt) × SameStmt s). x.0) xs

all_same : (xs : List ((s : TStmt) × SameStmt s)) → map (λ (s : Standing). s.itself) (map standing (stmt_trees xs)) ≡ stmt_trees xs
all_same [] = refl
all_same (x ∷ xs) = λ i. x.1 i ∷ all_same xs i

parts_same : (xs : List ((p : TPart) × SamePart p)) → map (λ (p : StandingPart). p.itself) (map standing_part (part_trees xs)) ≡ part_trees xs
parts_same [] = refl
parts_same (x ∷ xs) = λ i. x.1 i ∷ parts_same xs i

abbrev PartLayer : TPart-F TPart TStmt → Type 0
PartLayer z = (standing_part_step (map-TPart TPart TStmt StandingPart Standing standing_part standing z)).itself ≡ roll-TPart z

abbrev StmtLayer : TStmt-F TPart TStmt → Type 0
StmtLayer z = (standing_step (map-TStmt TPart TStmt StandingPart Standing standing_part standing z)).itself ≡ roll-TStmt z

part_by : (y : TPart-F ((p : TPart) × SamePart p) ((s : TStmt) × SameStmt s))
    → PartLayer (map-TPart _ _ TPart TStmt (λ (x : (p : TPart) × SamePart p). x.0) (λ (x : (s : TStmt) × SameStmt s). x.0) y)
part_by (TPart-F.Case p z) = sym (part.rolls-Case p z)
part_by (TPart-F.Default p) = sym (part.rolls-Default p)
part_by (TPart-F.Does p s) = ap (part.Does p) s.1 ∙ sym (part.rolls-Does p s.0)

stmt_by : (y : TStmt-F ((p : TPart) × SamePart p) ((s : TStmt) × SameStmt s))
    → StmtLayer (map-TStmt _ _ TPart TStmt (λ (x : (p : TPart) × SamePart p). x.0) (λ (x : (s : TStmt) × SameStmt s). x.0) y)
stmt_by (TStmt-F.Expr spot e) = sym (stmt.rolls-Expr spot e)
stmt_by (TStmt-F.Empty spot) = sym (stmt.rolls-Empty spot)
stmt_by (TStmt-F.Block spot parts) = ap (stmt.Block spot) (all_same parts) ∙ sym (stmt.rolls-Block spot (stmt_trees parts))
stmt_by (TStmt-F.If spot test a None) = ap (λ (s : TStmt). stmt.If spot test s None) a.1 ∙ sym (stmt.rolls-If spot test a.0 None)
stmt_by (TStmt-F.If spot test a (Some b)) = (λ i. stmt.If spot test (a.1 i) (Some (b.1 i))) ∙ sym (stmt.rolls-If spot test a.0 (Some b.0))
stmt_by (TStmt-F.While spot number test a) = ap (stmt.While spot number test) a.1 ∙ sym (stmt.rolls-While spot number test a.0)
stmt_by (TStmt-F.DoWhile spot number a test) = ap (λ (s : TStmt). stmt.DoWhile spot number s test) a.1 ∙ sym (stmt.rolls-DoWhile spot number a.0 test)
stmt_by (TStmt-F.For spot number start test step a) = ap (stmt.For spot number start test step) a.1 ∙ sym (stmt.rolls-For spot number start test step a.0)
stmt_by (TStmt-F.Switch spot kind on parts) = ap (stmt.Switch spot kind on) (parts_same parts) ∙ sym (stmt.rolls-Switch spot kind on (part_trees parts))
stmt_by (TStmt-F.Break spot) = sym (stmt.rolls-Break spot)
stmt_by (TStmt-F.Continue spot) = sym (stmt.rolls-Continue spot)
stmt_by (TStmt-F.Return spot e) = sym (stmt.rolls-Return spot e)
stmt_by (TStmt-F.Declare spot list) = sym (stmt.rolls-Declare spot list)

pub itself_is : (s : TStmt) → (standing s).itself ≡ s
itself_is =
    ind-TStmt SamePart SameStmt
    (λ x y is.
    ap (λ (p : StandingPart). p.itself) (fold-roll-TPart StandingPart Standing standing_part_step standing_step x) ∙ subst PartLayer is (part_by y))
    (λ x y is.
    ap (λ (s : Standing). s.itself) (fold-roll-TStmt StandingPart Standing standing_part_step standing_step x) ∙ subst StmtLayer is (stmt_by y))

-- ITS LOOPS WITHOUT THEIR NUMBERS
abbrev pub bare_loop : TLoop → TLoop
bare_loop l = loop_at (bare_spot l.spot) 0 (bare_first l.start) (bare_option l.test) (bare_option l.step) (bare_stmt l.body)

abbrev pub bare_part : TPart → TPart
bare_part = fold-TPart TPart TStmt bare_part_step bare_stmt_step

abbrev BarePart : TPart → Type 0
BarePart p = (standing_part (bare_part p)).loops ≡ map bare_loop (standing_part p).loops

abbrev BareStmt : TStmt → Type 0
BareStmt s = loops_in (bare_stmt s) ≡ map bare_loop (loops_in s)

abbrev bare_parts : List ((p : TPart) × BarePart p) → List TPart
bare_parts xs = map (λ (x : (p : TPart) × BarePart p). x.0) xs

abbrev bare_stmts : List ((s : TStmt) × BareStmt s) → List TStmt
bare_stmts xs = map (λ (x : (s : TStmt) × BareStmt s). x.0) xs

all_bare : (xs : List ((s : TStmt) × BareStmt s)) → loops_of_all (map standing (map bare_stmt (bare_stmts xs))) ≡ map bare_loop (loops_of_all (map standing (bare_stmts xs)))
all_bare [] = refl
all_bare (x ∷ xs) = (λ i. x.1 i ++ all_bare xs i) ∙ sym (map-append bare_loop (loops_in x.0) (loops_of_all (map standing (bare_stmts xs))))

parts_bare : (xs : List ((p : TPart) × BarePart p))
    → loops_of_parts (map standing_part (map bare_part (bare_parts xs))) ≡ map bare_loop (loops_of_parts (map standing_part (bare_parts xs)))
parts_bare [] = refl
parts_bare (x ∷ xs) = (λ i. x.1 i ++ parts_bare xs i) ∙ sym (map-append bare_loop (standing_part x.0).loops (loops_of_parts (map standing_part (bare_parts xs))))

abbrev BarePartLayer : TPart-F TPart TStmt → Type 0
BarePartLayer z =
    (standing_part (bare_part_step (map-TPart TPart TStmt TPart TStmt bare_part bare_stmt z))).loops
    ≡ map bare_loop (standing_part_step (map-TPart TPart TStmt StandingPart Standing standing_part standing z)).loops

abbrev BareStmtLayer : TStmt-F TPart TStmt → Type 0
BareStmtLayer z =
    loops_in (bare_stmt_step (map-TStmt TPart TStmt TPart TStmt bare_part bare_stmt z))
    ≡ map bare_loop (standing_step (map-TStmt TPart TStmt StandingPart Standing standing_part standing z)).loops

abbrev loops_at : Standing → List TLoop
loops_at s = s.loops

bare_part_by : (y : TPart-F ((p : TPart) × BarePart p) ((s : TStmt) × BareStmt s))
    → BarePartLayer (map-TPart _ _ TPart TStmt (λ (x : (p : TPart) × BarePart p). x.0) (λ (x : (s : TStmt) × BareStmt s). x.0) y)
bare_part_by (TPart-F.Case p z) = ap (λ (x : StandingPart). x.loops) (part_Case StandingPart Standing standing_part_step standing_step p z)
bare_part_by (TPart-F.Default p) = ap (λ (x : StandingPart). x.loops) (part_Default StandingPart Standing standing_part_step standing_step p)
bare_part_by (TPart-F.Does p s) = ap (λ (x : StandingPart). x.loops) (part_Does StandingPart Standing standing_part_step standing_step p (bare_stmt s.0)) ∙ s.1

-- the body of a loop without its numbers, as it was looked at
bare_body : (s : TStmt) → (standing (bare_stmt s)).itself ≡ bare_stmt (standing s).itself
bare_body s = itself_is (bare_stmt s) ∙ ap bare_stmt (sym (itself_is s))

bare_stmt_by : (y : TStmt-F ((p : TPart) × BarePart p) ((s : TStmt) × BareStmt s))
    → BareStmtLayer (map-TStmt _ _ TPart TStmt (λ (x : (p : TPart) × BarePart p). x.0) (λ (x : (s : TStmt) × BareStmt s). x.0) y)
bare_stmt_by (TStmt-F.Expr spot e) = ap loops_at (done_Expr StandingPart Standing standing_part_step standing_step (bare_spot spot) (bare_expr e))
bare_stmt_by (TStmt-F.Empty spot) = ap loops_at (done_Empty StandingPart Standing standing_part_step standing_step (bare_spot spot))
bare_stmt_by (TStmt-F.Block spot parts) =
    ap loops_at (done_Block StandingPart Standing standing_part_step standing_step (bare_spot spot) (map bare_stmt (bare_stmts parts))) ∙ all_bare parts
bare_stmt_by (TStmt-F.If spot test a None) =
    ap loops_at (done_alone StandingPart Standing standing_part_step standing_step (bare_spot spot) (bare_expr test) (bare_stmt a.0)) ∙ a.1
bare_stmt_by (TStmt-F.If spot test a (Some b)) =
    ap loops_at (done_else StandingPart Standing standing_part_step standing_step (bare_spot spot) (bare_expr test) (bare_stmt a.0) (bare_stmt b.0))
    ∙ (λ i. a.1 i ++ b.1 i) ∙ sym (map-append bare_loop (loops_in a.0) (loops_in b.0))
bare_stmt_by (TStmt-F.While spot number test a) =
    ap loops_at (done_While StandingPart Standing standing_part_step standing_step (bare_spot spot) 0 (bare_expr test) (bare_stmt a.0))
    ∙ (λ i. tested_at (bare_spot spot) 0 (bare_expr test) (bare_body a.0 i) ∷ a.1 i)
bare_stmt_by (TStmt-F.DoWhile spot number a test) =
    ap loops_at (done_DoWhile StandingPart Standing standing_part_step standing_step (bare_spot spot) 0 (bare_stmt a.0) (bare_expr test))
    ∙ (λ i. tested_at (bare_spot spot) 0 (bare_expr test) (bare_body a.0 i) ∷ a.1 i)
bare_stmt_by (TStmt-F.For spot number start test step a) =
    ap loops_at (done_For StandingPart Standing standing_part_step standing_step (bare_spot spot) 0 (bare_first start) (bare_option test) (bare_option step) (bare_stmt a.0))
    ∙ (λ i. loop_at (bare_spot spot) 0 (bare_first start) (bare_option test) (bare_option step) (bare_body a.0 i) ∷ a.1 i)
bare_stmt_by (TStmt-F.Switch spot kind on parts) =
    ap loops_at (done_Switch StandingPart Standing standing_part_step standing_step (bare_spot spot) kind (bare_expr on) (map bare_part (bare_parts parts))) ∙ parts_bare parts
bare_stmt_by (TStmt-F.Break spot) = ap loops_at (done_Break StandingPart Standing standing_part_step standing_step (bare_spot spot))
bare_stmt_by (TStmt-F.Continue spot) = ap loops_at (done_Continue StandingPart Standing standing_part_step standing_step (bare_spot spot))
bare_stmt_by (TStmt-F.Return spot e) = ap loops_at (done_Return StandingPart Standing standing_part_step standing_step (bare_spot spot) (bare_option e))
bare_stmt_by (TStmt-F.Declare spot list) = ap loops_at (done_Declare StandingPart Standing standing_part_step standing_step (bare_spot spot) (bare_declared list))

pub loops_bare : (s : TStmt) → loops_in (bare_stmt s) ≡ map bare_loop (loops_in s)
loops_bare =
    ind-TStmt BarePart BareStmt
    (λ x y is.
    ap (λ (p : TPart). (standing_part p).loops) (fold-roll-TPart TPart TStmt bare_part_step bare_stmt_step x) ∙ subst BarePartLayer is (bare_part_by y)
    ∙ ap (λ (p : StandingPart). map bare_loop p.loops) (sym (fold-roll-TPart StandingPart Standing standing_part_step standing_step x)))
    (λ x y is.
    ap loops_in (fold-roll-TStmt TPart TStmt bare_part_step bare_stmt_step x) ∙ subst BareStmtLayer is (bare_stmt_by y)
    ∙ ap (λ (s : Standing). map bare_loop s.loops) (sym (fold-roll-TStmt StandingPart Standing standing_part_step standing_step x)))

pub all_loops_bare : (ss : List TStmt) → loops_of_all (map standing (map bare_stmt ss)) ≡ map bare_loop (loops_of_all (map standing ss))
all_loops_bare [] = refl
all_loops_bare (s ∷ ss) = (λ i. loops_bare s i ++ all_loops_bare ss i) ∙ sym (map-append bare_loop (loops_in s) (loops_of_all (map standing ss)))
