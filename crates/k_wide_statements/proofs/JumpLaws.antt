-- The jumps that lead out of a statement are those that its marks know.
use Rattle.std.proofs.Common.{◌≡◌, List, [], ◌∷◌, map, Option, Some, None, refl, sym, ◌∙◌, ap, subst}
use Rattle.k_types_meaning.specs.declared.tree.statement.TPart.{TPart, fold-roll-TPart, map-TPart, roll-TPart}
use Rattle.k_types_meaning.specs.declared.tree.statement.TPart.TheOpen.{TPart-F, TStmt-F}
use Rattle.k_types_meaning.specs.declared.tree.statement.TStmt.{TStmt, fold-roll-TStmt, ind-TStmt, map-TStmt, roll-TStmt}
use Rattle.k_marks_meaning.specs.Jumps.{jumps_of_both, out_of_loop, out_of_switch}
use Rattle.k_marks_meaning.specs.Contents.{Inside, inside_step, inside, part_inside}
use Rattle.k_marks_meaning.specs.Contents as marks
use Rattle.k_wide_meaning.specs.Contents.{Seen, row, seen_step, part_step, seen, part_seen}

abbrev Same : Inside → Seen → Type 0
Same a b = a.jumps ≡ b.jumps

abbrev SameStmt : TStmt → Type 0
SameStmt s = Same (inside s) (seen s)

abbrev SamePart : TPart → Type 0
SamePart s = Same (part_inside s) (part_seen s)

abbrev StmtAnd : Type 0
StmtAnd = (s : TStmt) × SameStmt s

abbrev PartAnd : Type 0
PartAnd = (s : TPart) × SamePart s

abbrev stmts : List StmtAnd → List TStmt
stmts xs = map (λ (x : StmtAnd). x.0) xs

abbrev parts_in : List PartAnd → List TPart
parts_in xs = map (λ (x : PartAnd). x.0) xs

row_same : (xs : List StmtAnd) → (marks.row (map inside (stmts xs))).jumps ≡ (row (map seen (stmts xs))).jumps
row_same [] = refl
row_same (x ∷ xs) = let own = x.1 in let rest = row_same xs in λ i. jumps_of_both (own i) (rest i)

parts_same : (xs : List PartAnd) → (marks.row (map part_inside (parts_in xs))).jumps ≡ (row (map part_seen (parts_in xs))).jumps
parts_same [] = refl
parts_same (x ∷ xs) = let own = x.1 in let rest = parts_same xs in λ i. jumps_of_both (own i) (rest i)

abbrev StmtLayer : TStmt-F TPart TStmt → Type 0
StmtLayer z = Same (inside_step (map-TStmt TPart TStmt Inside Inside part_inside inside z)) (seen_step (map-TStmt TPart TStmt Seen Seen part_seen seen z))

abbrev PartLayer : TPart-F TPart TStmt → Type 0
PartLayer z = Same (marks.part_step (map-TPart TPart TStmt Inside Inside part_inside inside z)) (part_step (map-TPart TPart TStmt Seen Seen part_seen seen z))

stmt_layer : (y : TStmt-F PartAnd StmtAnd) → StmtLayer (map-TStmt _ _ TPart TStmt (λ (x : PartAnd). x.0) (λ (x : StmtAnd). x.0) y)
stmt_layer (TStmt-F.Expr spot e) = refl
stmt_layer (TStmt-F.Empty spot) = refl
stmt_layer (TStmt-F.Block spot parts) = row_same parts
stmt_layer (TStmt-F.If spot test a None) = ap (λ j. jumps_of_both j marks.nothing.jumps) a.1
stmt_layer (TStmt-F.If spot test a (Some b)) = let one = a.1 in let two = b.1 in λ i. jumps_of_both (one i) (two i)
stmt_layer (TStmt-F.While spot turns test a) = ap out_of_loop a.1
stmt_layer (TStmt-F.DoWhile spot turns a test) = ap out_of_loop a.1
stmt_layer (TStmt-F.For spot turns start test next a) = ap out_of_loop a.1
stmt_layer (TStmt-F.Switch spot kind on parts) = ap out_of_switch (parts_same parts)
stmt_layer (TStmt-F.Break spot) = refl
stmt_layer (TStmt-F.Continue spot) = refl
stmt_layer (TStmt-F.Return spot value) = refl
stmt_layer (TStmt-F.Declare spot list) = refl

part_layer : (y : TPart-F PartAnd StmtAnd) → PartLayer (map-TPart _ _ TPart TStmt (λ (x : PartAnd). x.0) (λ (x : StmtAnd). x.0) y)
part_layer (TPart-F.Case place z) = refl
part_layer (TPart-F.Default place) = refl
part_layer (TPart-F.Does place s) = s.1

-- the same jumps lead out of a statement
pub same_jumps : (s : TStmt) → (inside s).jumps ≡ (seen s).jumps
same_jumps =
    ind-TStmt SamePart SameStmt
    (λ x y is.
    subst (λ (a : Inside). Same a (part_seen (roll-TPart x))) (sym (fold-roll-TPart Inside Inside marks.part_step inside_step x))
    (subst (λ (b : Seen). Same (marks.part_step (map-TPart TPart TStmt Inside Inside part_inside inside x)) b) (sym (fold-roll-TPart Seen Seen part_step seen_step x)) (subst PartLayer is (part_layer y))))
    (λ x y is.
    subst (λ (a : Inside). Same a (seen (roll-TStmt x))) (sym (fold-roll-TStmt Inside Inside marks.part_step inside_step x))
    (subst (λ (b : Seen). Same (inside_step (map-TStmt TPart TStmt Inside Inside part_inside inside x)) b) (sym (fold-roll-TStmt Seen Seen part_step seen_step x)) (subst StmtLayer is (stmt_layer y))))
