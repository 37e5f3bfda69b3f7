-- A source has no more functions and loops than nodes.
use Rattle.std.proofs.Common.{◌≡◌, ℕ, ◌+◌, ◌≤◌, sym, subst, List, [], ◌∷◌, ◌++◌, map, sum, length, Some, None, arith}
use Rattle.std.proofs.lemmas.List.{length-append}
use Rattle.std.proofs.lemmas.List.Sums.{sum_by-cons}
use Rattle.k_tree.specs.declared.tree.statement.Part.{Part, fold-roll-Part, map-Part}
use Rattle.k_tree.specs.declared.tree.statement.Part.TheOpen.{Part-F, Stmt-F}
use Rattle.k_tree.specs.declared.tree.statement.Stmt.{Stmt, fold-roll-Stmt, ind-Stmt, map-Stmt}
use Rattle.k_tree.specs.declared.tree.unit.Item.{Item}
use Rattle.k_tree.specs.declared.tree.unit.Item.TheVariants as item
use Rattle.k_tree.specs.Count.{item_count, part_count, part_step, stmt_count, stmt_step}
use Rattle.k_regions.proofs.Functions.{items_seen}
use Rattle.k_regions.proofs.Seen.{Shape, all_loops, see, see_part, see_part_step, see_stmt_step}

sum_cons : (n : ℕ) (ns : List ℕ) → sum (n ∷ ns) ≡ n + sum ns
sum_cons n ns = sum_by-cons (λ x. x) n ns

abbrev OfStmt : Stmt → Type 0
OfStmt s = length (see s).loops ≤ stmt_count s

abbrev OfPart : Part → Type 0
OfPart p = length (see_part p).loops ≤ part_count p

abbrev Stmts : Type 0
Stmts = List ((s : Stmt) × OfStmt s)

abbrev Parts : Type 0
Parts = List ((p : Part) × OfPart p)

abbrev stmts : Stmts → List Stmt
stmts xs = map (λ (x : (s : Stmt) × OfStmt s). x.0) xs

abbrev parts_in : Parts → List Part
parts_in xs = map (λ (x : (p : Part) × OfPart p). x.0) xs

all_counted : (xs : Stmts) → length (all_loops (map see (stmts xs))) ≤ sum (map stmt_count (stmts xs))
all_counted [] = omega arith
all_counted (x ∷ xs) =
    let both : length ((see x.0).loops ++ all_loops (map see (stmts xs))) ≡ length (see x.0).loops + length (all_loops (map see (stmts xs))) =
    length-append (see x.0).loops (all_loops (map see (stmts xs))) in
    let total : sum (stmt_count x.0 ∷ map stmt_count (stmts xs)) ≡ stmt_count x.0 + sum (map stmt_count (stmts xs)) = sum_cons (stmt_count x.0) (map stmt_count (stmts xs)) in
    let one : length (see x.0).loops ≤ stmt_count x.0 = x.1 in
    let rest : length (all_loops (map see (stmts xs))) ≤ sum (map stmt_count (stmts xs)) = all_counted xs in
    omega (arith, both, total, one, rest)

parts_counted : (xs : Parts) → length (all_loops (map see_part (parts_in xs))) ≤ sum (map part_count (parts_in xs))
parts_counted [] = omega arith
parts_counted (x ∷ xs) =
    let both : length ((see_part x.0).loops ++ all_loops (map see_part (parts_in xs))) ≡ length (see_part x.0).loops + length (all_loops (map see_part (parts_in xs))) =
    length-append (see_part x.0).loops (all_loops (map see_part (parts_in xs))) in
    let total : sum (part_count x.0 ∷ map part_count (parts_in xs)) ≡ part_count x.0 + sum (map part_count (parts_in xs)) = sum_cons (part_count x.0) (map part_count (parts_in xs)) in
    let one : length (see_part x.0).loops ≤ part_count x.0 = x.1 in
    let rest : length (all_loops (map see_part (parts_in xs))) ≤ sum (map part_count (parts_in xs)) = parts_counted xs in
    omega (arith, both, total, one, rest)

abbrev PartLayer : Part-F Part Stmt → Type 0
PartLayer z = length (see_part_step (map-Part Part Stmt Shape Shape see_part see z)).loops ≤ part_step (map-Part Part Stmt ℕ ℕ part_count stmt_count z)

abbrev StmtLayer : Stmt-F Part Stmt → Type 0
StmtLayer z = length (see_stmt_step (map-Stmt Part Stmt Shape Shape see_part see z)).loops ≤ stmt_step (map-Stmt Part Stmt ℕ ℕ part_count stmt_count z)

less : (a b : ℕ) → a ≤ b → a ≤ 1 + b
less a b h = omega (arith, h)

-- a loop, the loops of its body, and the nodes before and behind it
loop_less : (a b before behind : ℕ) → a ≤ b → 1 + a ≤ 1 + before + b + behind
loop_less a b before behind h = omega (arith, h)

part_by : (y : Part-F ((p : Part) × OfPart p) ((s : Stmt) × OfStmt s))
    → PartLayer (map-Part _ _ Part Stmt (λ (x : (p : Part) × OfPart p). x.0) (λ (x : (s : Stmt) × OfStmt s). x.0) y)
part_by (Part-F.Case p e) = omega arith
part_by (Part-F.Default p) = omega arith
part_by (Part-F.Does p s) = less (length (see s.0).loops) (stmt_count s.0) s.1

stmt_by : (y : Stmt-F ((p : Part) × OfPart p) ((s : Stmt) × OfStmt s))
    → StmtLayer (map-Stmt _ _ Part Stmt (λ (x : (p : Part) × OfPart p). x.0) (λ (x : (s : Stmt) × OfStmt s). x.0) y)
stmt_by (Stmt-F.Expr p e) = omega arith
stmt_by (Stmt-F.Empty p) = omega arith
stmt_by (Stmt-F.Block p parts) = less (length (all_loops (map see (stmts parts)))) (sum (map stmt_count (stmts parts))) (all_counted parts)
stmt_by (Stmt-F.If p test a None) =
    let both : length ((see a.0).loops ++ []) ≡ length (see a.0).loops + 0 = length-append (see a.0).loops [] in
    let one : length (see a.0).loops ≤ stmt_count a.0 = a.1 in
    omega (arith, both, one)
stmt_by (Stmt-F.If p test a (Some b)) =
    let both : length ((see a.0).loops ++ (see b.0).loops) ≡ length (see a.0).loops + length (see b.0).loops = length-append (see a.0).loops (see b.0).loops in
    let one : length (see a.0).loops ≤ stmt_count a.0 = a.1 in
    let two : length (see b.0).loops ≤ stmt_count b.0 = b.1 in
    omega (arith, both, one, two)
stmt_by (Stmt-F.While p test a) = let one : length (see a.0).loops ≤ stmt_count a.0 = a.1 in omega (arith, one)
stmt_by (Stmt-F.DoWhile p a test) = let one : length (see a.0).loops ≤ stmt_count a.0 = a.1 in omega (arith, one)
stmt_by (Stmt-F.For p start test step a) = let one : length (see a.0).loops ≤ stmt_count a.0 = a.1 in omega (arith, one)
stmt_by (Stmt-F.Switch p on parts) =
    let all : length (all_loops (map see_part (parts_in parts))) ≤ sum (map part_count (parts_in parts)) = parts_counted parts in
    omega (arith, all)
stmt_by (Stmt-F.Break p) = omega arith
stmt_by (Stmt-F.Continue p) = omega arith
stmt_by (Stmt-F.Return p e) = omega arith
stmt_by (Stmt-F.Declare p specs list) = omega arith

moved : (a b c d : ℕ) → a ≡ c → b ≡ d → a ≤ b → c ≤ d
moved a b c d p q h = omega (arith, p, q, h)

lengths : (f g : Shape) → f ≡ g → length f.loops ≡ length g.loops
lengths f g h = λ i. length (h i).loops

stmt_counted : (s : Stmt) → length (see s).loops ≤ stmt_count s
stmt_counted =
    ind-Stmt OfPart OfStmt
    (λ x y is. moved _ _ _ _ (lengths _ _ (sym (fold-roll-Part Shape Shape see_part_step see_stmt_step x))) (sym (fold-roll-Part ℕ ℕ part_step stmt_step x)) (subst PartLayer is (part_by y)))
    (λ x y is. moved _ _ _ _ (lengths _ _ (sym (fold-roll-Stmt Shape Shape see_part_step see_stmt_step x))) (sym (fold-roll-Stmt ℕ ℕ part_step stmt_step x)) (subst StmtLayer is (stmt_by y)))

body_counted : (body : List Stmt) → length (all_loops (map see body)) ≤ sum (map stmt_count body)
body_counted [] = omega arith
body_counted (s ∷ body) =
    let both : length ((see s).loops ++ all_loops (map see body)) ≡ length (see s).loops + length (all_loops (map see body)) = length-append (see s).loops (all_loops (map see body)) in
    let total : sum (stmt_count s ∷ map stmt_count body) ≡ stmt_count s + sum (map stmt_count body) = sum_cons (stmt_count s) (map stmt_count body) in
    let one : length (see s).loops ≤ stmt_count s = stmt_counted s in
    let rest : length (all_loops (map see body)) ≤ sum (map stmt_count body) = body_counted body in
    omega (arith, both, total, one, rest)

-- how many functions and loops these are
abbrev pub total : List Shape → ℕ
total [] = 0
total (s ∷ ss) = 1 + length s.loops + total ss

pub items_counted : (items : List Item) → total (items_seen items) ≤ sum (map item_count items)
items_counted [] = omega arith
items_counted (item.Function p head body close ∷ items) =
    let all : sum (item_count (item.Function p head body close) ∷ map item_count items) ≡ item_count (item.Function p head body close) + sum (map item_count items) =
    sum_cons (item_count (item.Function p head body close)) (map item_count items) in
    let one : length (all_loops (map see body)) ≤ sum (map stmt_count body) = body_counted body in
    let rest : total (items_seen items) ≤ sum (map item_count items) = items_counted items in
    omega (arith, all, one, rest)
items_counted (item.Prototype p head ∷ items) =
    let all : sum (item_count (item.Prototype p head) ∷ map item_count items) ≡ item_count (item.Prototype p head) + sum (map item_count items) =
    sum_cons (item_count (item.Prototype p head)) (map item_count items) in
    let rest : total (items_seen items) ≤ sum (map item_count items) = items_counted items in
    omega (arith, all, rest)
items_counted (item.Objects p specs list ∷ items) =
    let all : sum (item_count (item.Objects p specs list) ∷ map item_count items) ≡ item_count (item.Objects p specs list) + sum (map item_count items) =
    sum_cons (item_count (item.Objects p specs list)) (map item_count items) in
    let rest : total (items_seen items) ≤ sum (map item_count items) = items_counted items in
    omega (arith, all, rest)
