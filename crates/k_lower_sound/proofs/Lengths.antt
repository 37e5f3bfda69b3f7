-- The loops that have numbers and those that are marked are as many in each statement.
use Rattle.std.proofs.Common.{suc, ◌≡◌, ◌+◌, List, [], ◌∷◌, ◌++◌, map, length, Some, None, refl, sym, ◌∙◌, ap, subst, arith, length-append}
use Rattle.k_types_meaning.specs.declared.tree.statement.TPart.{TPart, fold-roll-TPart, ind-TPart, map-TPart}
use Rattle.k_types_meaning.specs.declared.tree.statement.TPart.TheOpen.{TPart-F, TStmt-F}
use Rattle.k_types_meaning.specs.declared.tree.statement.TStmt.{TStmt, fold-roll-TStmt, ind-TStmt, map-TStmt}
use Rattle.k_types_meaning.specs.declared.tree.unit.TFunc.{TFunc}
use Rattle.k_marks_meaning.specs.Contents.{Inside, inside, part_inside, row}
use Rattle.k_marks_meaning.specs.Contents as contents
use Rattle.k_marks_meaning.specs.Loops.{Loop}
use Rattle.k_marks_meaning.specs.Marking.{function_inside}
use Rattle.k_regions.specs.declared.loops.LoopAt.{LoopAt}
use Rattle.k_regions.specs.Regions.{Located, find, find_part, loops_of, loops_of_all}
use Rattle.k_regions.specs.Regions as regions

-- as many are found as there are inside
abbrev pub Alike : Located → Inside → Type 0
Alike found within = length found.loops ≡ length within.loops

abbrev PartAlike : TPart → Type 0
PartAlike p = Alike (find_part p) (part_inside p)

abbrev StmtAlike : TStmt → Type 0
StmtAlike s = Alike (find s) (inside s)

abbrev Parts : Type 0
Parts = (p : TPart) × PartAlike p

abbrev Stmts : Type 0
Stmts = (s : TStmt) × StmtAlike s

both_alike : (xs ys : List LoopAt) (ls ms : List Loop) → length xs ≡ length ls → length ys ≡ length ms → length (xs ++ ys) ≡ length (ls ++ ms)
both_alike xs ys ls ms h k =
    let a : length (xs ++ ys) ≡ length xs + length ys = length-append xs ys in
    let b : length (ls ++ ms) ≡ length ls + length ms = length-append ls ms in
    omega (arith, a, b, h, k)

loop_alike : (found : Located) (within : Inside) → Alike found within → suc (length found.loops) ≡ suc (length within.loops)
loop_alike found within h = ap suc h

abbrev PartLayer : TPart-F TPart TStmt → Type 0
PartLayer z = Alike (regions.part_step (map-TPart TPart TStmt Located Located find_part find z)) (contents.part_step (map-TPart TPart TStmt Inside Inside part_inside inside z))

abbrev StmtLayer : TStmt-F TPart TStmt → Type 0
StmtLayer z = Alike (regions.stmt_step (map-TStmt TPart TStmt Located Located find_part find z)) (contents.inside_step (map-TStmt TPart TStmt Inside Inside part_inside inside z))

part_by : (y : TPart-F Parts Stmts) → PartLayer (map-TPart _ _ TPart TStmt (λ (x : Parts). x.0) (λ (x : Stmts). x.0) y)
part_by (TPart-F.Case p z) = refl
part_by (TPart-F.Default p) = refl
part_by (TPart-F.Does p s) = s.1

stmts_alike : (items : List Stmts) → length (loops_of_all (map find (map (λ (x : Stmts). x.0) items))) ≡ length (row (map inside (map (λ (x : Stmts). x.0) items))).loops
stmts_alike [] = refl
stmts_alike (x ∷ items) =
    both_alike (find x.0).loops (loops_of_all (map find (map (λ (x : Stmts). x.0) items))) (inside x.0).loops (row (map inside (map (λ (x : Stmts). x.0) items))).loops x.1 (stmts_alike items)

parts_alike : (items : List Parts) → length (loops_of_all (map find_part (map (λ (x : Parts). x.0) items))) ≡ length (row (map part_inside (map (λ (x : Parts). x.0) items))).loops
parts_alike [] = refl
parts_alike (x ∷ items) =
    both_alike (find_part x.0).loops (loops_of_all (map find_part (map (λ (x : Parts). x.0) items))) (part_inside x.0).loops (row (map part_inside (map (λ (x : Parts). x.0) items))).loops x.1
    (parts_alike items)

stmt_by : (y : TStmt-F Parts Stmts) → StmtLayer (map-TStmt _ _ TPart TStmt (λ (x : Parts). x.0) (λ (x : Stmts). x.0) y)
stmt_by (TStmt-F.Expr spot e) = refl
stmt_by (TStmt-F.Empty spot) = refl
stmt_by (TStmt-F.Block spot parts) = stmts_alike parts
stmt_by (TStmt-F.If spot test a None) = both_alike (find a.0).loops [] (inside a.0).loops [] a.1 refl
stmt_by (TStmt-F.If spot test a (Some b)) = both_alike (find a.0).loops (find b.0).loops (inside a.0).loops (inside b.0).loops a.1 b.1
stmt_by (TStmt-F.While spot n test a) = loop_alike (find a.0) (inside a.0) a.1
stmt_by (TStmt-F.DoWhile spot n a test) = loop_alike (find a.0) (inside a.0) a.1
stmt_by (TStmt-F.For spot n start test step a) = loop_alike (find a.0) (inside a.0) a.1
stmt_by (TStmt-F.Switch spot kind on parts) = parts_alike parts
stmt_by (TStmt-F.Break spot) = refl
stmt_by (TStmt-F.Continue spot) = refl
stmt_by (TStmt-F.Return spot value) = refl
stmt_by (TStmt-F.Declare spot list) = refl

alike_moved : (a b : Located) (x y : Inside) → a ≡ b → x ≡ y → Alike b y → Alike a x
alike_moved a b x y ea ex h = ap (λ (l : Located). length l.loops) ea ∙ h ∙ ap (λ (i : Inside). length i.loops) (sym ex)

pub part_alike : (p : TPart) → PartAlike p
part_alike =
    ind-TPart PartAlike StmtAlike
    (λ x y is.
    alike_moved _ _ _ _ (fold-roll-TPart Located Located regions.part_step regions.stmt_step x) (fold-roll-TPart Inside Inside contents.part_step contents.inside_step x) (subst PartLayer is (part_by y)))
    (λ x y is.
    alike_moved _ _ _ _ (fold-roll-TStmt Located Located regions.part_step regions.stmt_step x) (fold-roll-TStmt Inside Inside contents.part_step contents.inside_step x) (subst StmtLayer is (stmt_by y)))

pub stmt_alike : (s : TStmt) → StmtAlike s
stmt_alike =
    ind-TStmt PartAlike StmtAlike
    (λ x y is.
    alike_moved _ _ _ _ (fold-roll-TPart Located Located regions.part_step regions.stmt_step x) (fold-roll-TPart Inside Inside contents.part_step contents.inside_step x) (subst PartLayer is (part_by y)))
    (λ x y is.
    alike_moved _ _ _ _ (fold-roll-TStmt Located Located regions.part_step regions.stmt_step x) (fold-roll-TStmt Inside Inside contents.part_step contents.inside_step x) (subst StmtLayer is (stmt_by y)))

-- A FUNCTION
body_alike : (body : List TStmt) → length (loops_of_all (map find body)) ≡ length (row (map inside body)).loops
body_alike [] = refl
body_alike (s ∷ body) = both_alike (find s).loops (loops_of_all (map find body)) (inside s).loops (row (map inside body)).loops (stmt_alike s) (body_alike body)

pub function_alike : (f : TFunc) → length (loops_of f) ≡ length (function_inside f).loops
function_alike f = body_alike f.body
