-- The numbers of statements go up in text order.
use Rattle.std.proofs.Common.{ℕ, suc, ◌≡◌, ◌≤◌, ◌+◌, List, [], ◌∷◌, ◌++◌, map, length, Some, None, sym, subst, arith}
use Rattle.std.specs.List.{concat}
use Rattle.k_tree.specs.declared.tree.unit.Unit as source
use Rattle.k_types_meaning.specs.declared.tree.statement.TPart.{TPart, fold-TPart, fold-roll-TPart, map-TPart}
use Rattle.k_types_meaning.specs.declared.tree.statement.TPart.TheOpen.{TPart-F, TStmt-F}
use Rattle.k_types_meaning.specs.declared.tree.statement.TStmt.{TStmt, fold-roll-TStmt, ind-TStmt, map-TStmt}
use Rattle.k_types_meaning.specs.declared.tree.unit.TFunc.{TFunc}
use Rattle.k_types_meaning.specs.Bare.{IsTyped}
use Rattle.k_types_meaning.specs.Numbered.{IsNumbered, Numbers, expr_numbers, first_numbers, function_numbers, functions_numbers, numbers_from, option_numbers, part_numbers_step, stmt_numbers, stmt_numbers_step}
use Rattle.k_types_meaning.specs.Numbered as numbered
use Rattle.k_evaluation.specs.States.{Program}
use Rattle.k_lower_accepted.specs.Accepted.{IsAccepted}
use Rattle.k_lower_sound.specs.Laws.{AcceptedStatementsHaveNumbers}
use Rattle.k_lower_sound.proofs.Numbers.{Up, up_from}
use Rattle.k_lower_sound.specs.Numbers.{GoUp, part_step, statement_numbers, statement_step, statements_of}

-- A list is a part of another in its order.
data Among : List ℕ → List ℕ → Type 0 where
  End : Among [] []
  Keep : (n : ℕ) (xs ys : List ℕ) → Among xs ys → Among (n ∷ xs) (n ∷ ys)
  Skip : (n : ℕ) (xs ys : List ℕ) → Among xs ys → Among xs (n ∷ ys)

none_among : (ys : List ℕ) → Among [] ys
none_among [] = End
none_among (y ∷ ys) = Skip y [] ys (none_among ys)

both_among : (xs as_ ys bs : List ℕ) → Among xs as_ → Among ys bs → Among (xs ++ ys) (as_ ++ bs)
both_among _ _ ys bs End h = h
both_among _ _ ys bs (Keep n xs as_ g) h = Keep n (xs ++ ys) (as_ ++ bs) (both_among xs as_ ys bs g h)
both_among _ _ ys bs (Skip n xs as_ g) h = Skip n (xs ++ ys) (as_ ++ bs) (both_among xs as_ ys bs g h)

behind_among : (before xs ys : List ℕ) → Among xs ys → Among xs (before ++ ys)
behind_among before xs ys h = both_among [] before xs ys (none_among before) h

before_among : (xs ys after : List ℕ) → Among xs ys → Among xs (ys ++ after)
before_among _ _ after End = none_among after
before_among _ _ after (Keep n xs ys h) = Keep n xs (ys ++ after) (before_among xs ys after h)
before_among _ _ after (Skip n xs ys h) = Skip n xs (ys ++ after) (before_among xs ys after h)

-- what is among numbers that count up goes up
goes_up : (low c : ℕ) (xs ys : List ℕ) → low ≤ c → Up c ys → Among xs ys → GoUp low (c + length ys) xs
goes_up low c _ _ below up End = tt
goes_up low c _ _ below up (Keep n xs ys h) = (
  (let is : n ≡ c = up.0 in omega (arith, is, below)),
  (let is : n ≡ c = up.0 in omega (arith, is)),
  subst (λ (high : ℕ). GoUp (suc n) high xs) (let e : suc c + length ys ≡ c + length (n ∷ ys) = omega arith in e)
      (goes_up (suc n) (suc c) xs ys (let is : n ≡ c = up.0 in omega (arith, is)) up.1 h),
)
goes_up low c _ _ below up (Skip n xs ys h) =
    subst (λ (high : ℕ). GoUp low high xs) (let e : suc c + length ys ≡ c + length (n ∷ ys) = omega arith in e) (goes_up low (suc c) xs ys (omega (arith, below)) up.1 h)

-- the numbers of a statement's own are among those of its nodes
abbrev Within : List ℕ → Numbers → Type 0
Within own all = Among own all.nodes

all_within : {T : Type 0} (own : T → List ℕ) (all : T → Numbers) (items : List ((x : T) × Within (own x) (all x)))
    → Within (concat (map own (map (λ (x : (x : T) × Within (own x) (all x)). x.0) items)))
    (numbered.listed (map all (map (λ (x : (x : T) × Within (own x) (all x)). x.0) items)))
all_within own all [] = End
all_within {T} own all (x ∷ items) =
    let trees : List T = map (λ (x : (x : T) × Within (own x) (all x)). x.0) items in
    both_among (own x.0) (all x.0).nodes (concat (map own trees)) (numbered.listed (map all trees)).nodes x.1 (all_within own all items)

abbrev part_own : TPart → List ℕ
part_own = fold-TPart (List ℕ) (List ℕ) part_step statement_step

abbrev part_all : TPart → Numbers
part_all = fold-TPart Numbers Numbers part_numbers_step stmt_numbers_step

abbrev StmtWithin : TStmt → Type 0
StmtWithin s = Within (statement_numbers s) (stmt_numbers s)

abbrev PartWithin : TPart → Type 0
PartWithin p = Within (part_own p) (part_all p)

abbrev Stmts : Type 0
Stmts = (s : TStmt) × StmtWithin s

abbrev Parts : Type 0
Parts = (p : TPart) × PartWithin p

abbrev PartLayer : TPart-F TPart TStmt → Type 0
PartLayer z =
    Within (part_step (map-TPart TPart TStmt (List ℕ) (List ℕ) part_own statement_numbers z))
    (part_numbers_step (map-TPart TPart TStmt Numbers Numbers part_all stmt_numbers z))

abbrev StmtLayer : TStmt-F TPart TStmt → Type 0
StmtLayer z =
    Within (statement_step (map-TStmt TPart TStmt (List ℕ) (List ℕ) part_own statement_numbers z))
    (stmt_numbers_step (map-TStmt TPart TStmt Numbers Numbers part_all stmt_numbers z))

part_by : (y : TPart-F Parts Stmts) → PartLayer (map-TPart _ _ TPart TStmt (λ (x : Parts). x.0) (λ (x : Stmts). x.0) y)
part_by (TPart-F.Case p z) = End
part_by (TPart-F.Default p) = End
part_by (TPart-F.Does p s) = s.1

-- a statement without others in it
alone : (n : ℕ) (rest : List ℕ) → Among (n ∷ []) (n ∷ rest)
alone n rest = Keep n [] rest (none_among rest)

stmt_by : (y : TStmt-F Parts Stmts) → StmtLayer (map-TStmt _ _ TPart TStmt (λ (x : Parts). x.0) (λ (x : Stmts). x.0) y)
stmt_by (TStmt-F.Expr spot e) = alone spot.number (expr_numbers e).nodes
stmt_by (TStmt-F.Empty spot) = alone spot.number []
stmt_by (TStmt-F.Block spot parts) =
    let trees : List TStmt = map (λ (x : Stmts). x.0) parts in
    Keep spot.number (concat (map statement_numbers trees)) (numbered.listed (map stmt_numbers trees)).nodes (all_within statement_numbers stmt_numbers parts)
stmt_by (TStmt-F.If spot test a None) =
    let within : Among (statement_numbers a.0 ++ []) ((stmt_numbers a.0).nodes ++ []) = both_among (statement_numbers a.0) (stmt_numbers a.0).nodes [] [] a.1 End in
    Keep spot.number (statement_numbers a.0 ++ []) ((expr_numbers test).nodes ++ ((stmt_numbers a.0).nodes ++ []))
    (behind_among (expr_numbers test).nodes (statement_numbers a.0 ++ []) ((stmt_numbers a.0).nodes ++ []) within)
stmt_by (TStmt-F.If spot test a (Some b)) =
    let own : List ℕ = statement_numbers a.0 ++ statement_numbers b.0 in
    let all : List ℕ = (stmt_numbers a.0).nodes ++ (stmt_numbers b.0).nodes in
    Keep spot.number own ((expr_numbers test).nodes ++ all)
    (behind_among (expr_numbers test).nodes own all (both_among (statement_numbers a.0) (stmt_numbers a.0).nodes (statement_numbers b.0) (stmt_numbers b.0).nodes a.1 b.1))
stmt_by (TStmt-F.While spot loop test a) =
    Keep spot.number (statement_numbers a.0) ((expr_numbers test).nodes ++ (stmt_numbers a.0).nodes)
    (behind_among (expr_numbers test).nodes (statement_numbers a.0) (stmt_numbers a.0).nodes a.1)
stmt_by (TStmt-F.DoWhile spot loop a test) =
    Keep spot.number (statement_numbers a.0) ((stmt_numbers a.0).nodes ++ (expr_numbers test).nodes)
    (before_among (statement_numbers a.0) (stmt_numbers a.0).nodes (expr_numbers test).nodes a.1)
stmt_by (TStmt-F.For spot loop start test step a) =
    let own : List ℕ = statement_numbers a.0 in
    let body : List ℕ = (stmt_numbers a.0).nodes in
    let stepped : List ℕ = (option_numbers step).nodes ++ body in
    let tested : List ℕ = (option_numbers test).nodes ++ stepped in
    Keep spot.number own ((first_numbers start).nodes ++ tested)
    (behind_among (first_numbers start).nodes own tested
    (behind_among (option_numbers test).nodes own stepped (behind_among (option_numbers step).nodes own body a.1)))
stmt_by (TStmt-F.Switch spot kind on parts) =
    let trees : List TPart = map (λ (x : Parts). x.0) parts in
    let own : List ℕ = concat (map part_own trees) in
    let all : List ℕ = (numbered.listed (map part_all trees)).nodes in
    Keep spot.number own ((expr_numbers on).nodes ++ all) (behind_among (expr_numbers on).nodes own all (all_within part_own part_all parts))
stmt_by (TStmt-F.Break spot) = alone spot.number []
stmt_by (TStmt-F.Continue spot) = alone spot.number []
stmt_by (TStmt-F.Return spot value) = alone spot.number (option_numbers value).nodes
stmt_by (TStmt-F.Declare spot list) = alone spot.number (numbered.declared_numbers list).nodes

moved : (xs ys : List ℕ) (a b : Numbers) → xs ≡ ys → a ≡ b → Within ys b → Within xs a
moved xs ys a b is at h = subst (λ (zs : List ℕ). Within zs a) (sym is) (subst (Within ys) (sym at) h)

-- A STATEMENT
stmt_within : (s : TStmt) → StmtWithin s
stmt_within =
    ind-TStmt PartWithin StmtWithin
    (λ x y is.
    moved _ _ _ _ (fold-roll-TPart (List ℕ) (List ℕ) part_step statement_step x) (fold-roll-TPart Numbers Numbers part_numbers_step stmt_numbers_step x)
    (subst PartLayer is (part_by y)))
    (λ x y is.
    moved _ _ _ _ (fold-roll-TStmt (List ℕ) (List ℕ) part_step statement_step x) (fold-roll-TStmt Numbers Numbers part_numbers_step stmt_numbers_step x)
    (subst StmtLayer is (stmt_by y)))

body_within : (body : List TStmt) → Within (concat (map statement_numbers body)) (numbered.listed (map stmt_numbers body))
body_within [] = End
body_within (s ∷ body) =
    both_among (statement_numbers s) (stmt_numbers s).nodes (concat (map statement_numbers body)) (numbered.listed (map stmt_numbers body)).nodes (stmt_within s) (body_within body)

functions_within : (fs : List TFunc) → Within (statements_of fs) (functions_numbers fs)
functions_within [] = End
functions_within (f ∷ fs) =
    both_among (concat (map statement_numbers f.body)) (function_numbers f).nodes (statements_of fs) (functions_numbers fs).nodes (body_within f.body) (functions_within fs)

-- THE LAW
numbered_so : (unit : source.Unit) (program : Program) → IsAccepted unit program → IsNumbered program.unit
unfolding IsTyped
numbered_so unit program h = h.typed.3

pub statements_have_numbers : AcceptedStatementsHaveNumbers
statements_have_numbers unit program h =
    let fs : List TFunc = program.unit.functions in
    let is : IsNumbered program.unit = numbered_so unit program h in
    let ns : List ℕ = (functions_numbers fs).nodes in
    let up : Up 0 ns = subst (Up 0) (sym is.0) (up_from 0 (length ns)) in
    subst (λ (high : ℕ). GoUp 0 high (statements_of fs)) (let count : program.unit.nodes ≡ length ns = is.4 in let e : 0 + length ns ≡ program.unit.nodes = omega (arith, count) in e)
    (goes_up 0 0 (statements_of fs) ns (omega arith) up (functions_within fs))
