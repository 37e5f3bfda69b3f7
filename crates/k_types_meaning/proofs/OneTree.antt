-- A source has at most one typed tree.
use Rattle.std.proofs.Common.{ℕ, zero, suc, ◌≡◌, ◌+◌, List, [], ◌∷◌, ◌++◌, map, length, refl, sym, ap, ◌∙◌, subst, add-zero, zero-add, arith}
use Rattle.k_tree.specs.declared.tree.unit.Unit as source
use Rattle.k_types_meaning.specs.declared.tree.statement.TStmt.{TStmt}
use Rattle.k_types_meaning.specs.declared.tree.unit.TFunc.{TFunc}
use Rattle.k_types_meaning.specs.declared.tree.unit.TUnit.{TUnit}
use Rattle.k_types_meaning.specs.Bare.{bare_stmt, bare_function, bare_unit, IsTyped}
use Rattle.k_types_meaning.specs.Made.{Fine}
use Rattle.k_types_meaning.specs.Numbered.{listed, stmt_numbers, function_numbers, functions_numbers, numbers_from, CountsUp, LoopsBefore, IsNumbered}
use Rattle.k_types_meaning.specs.OneTree.{OneNumbering, OneTypedTree}
use Rattle.k_types_meaning.specs.Units.{Parts, tree_of_parts}
use Rattle.k_types_meaning.proofs.Elaborates.{fine_is}
use Rattle.k_types_meaning.proofs.FilledStatements.{unlooped, functions_filled}
use Rattle.k_types_meaning.proofs.Filling.{fill_list, fill_function}

-- numbers in a row, and more behind them
rows : (n j k m : ℕ) → m ≡ n + j → numbers_from n (j + k) ≡ numbers_from n j ++ numbers_from m k
rows n zero k m is =
    let start : n ≡ m = omega (arith, is) in
    ap (numbers_from n) (zero-add k) ∙ ap (λ (i : ℕ). numbers_from i k) start
rows n (suc j) k m is =
    let more : suc j + k ≡ suc (j + k) = omega arith in
    let next : m ≡ suc n + j = omega (arith, is) in
    ap (numbers_from n) more ∙ ap (λ (l : List ℕ). n ∷ l) (rows (suc n) j k m next)

-- two lists that count up begin a longer one
longer : (xs ys : List ℕ) → CountsUp xs → CountsUp ys → xs ++ numbers_from (length xs) (length ys) ≡ numbers_from 0 (length xs + length ys)
longer xs ys p q =
    ap (λ (l : List ℕ). l ++ numbers_from (length xs) (length ys)) p
    ∙ sym (rows 0 (length xs) (length ys) (length xs) (sym (zero-add (length xs))))

-- the same from both sides
as_long : (xs ys : List ℕ) → CountsUp xs → CountsUp ys → xs ++ numbers_from (length xs) (length ys) ≡ ys ++ numbers_from (length ys) (length xs)
as_long xs ys p q =
    let sum : length xs + length ys ≡ length ys + length xs = omega arith in
    longer xs ys p q ∙ (ap (numbers_from 0) sum ∙ sym (longer ys xs q p))

-- a function is known by the rest of it and by the count of the loops before it
function_is : (n : ℕ) (f g : TFunc) → f.loops ≡ n → g.loops ≡ n → unlooped f ≡ unlooped g → f ≡ g
function_is n f g p q same =
    let of_f : f ≡ record (unlooped f) { loops = n } = λ i. record (unlooped f) { loops = p i } in
    let of_g : g ≡ record (unlooped g) { loops = n } = λ i. record (unlooped g) { loops = q i } in
    of_f ∙ (ap (λ (h : TFunc). record h { loops = n }) same ∙ sym of_g)

-- functions that are the same but for these counts are the same
functions_are : (n : ℕ) (fs gs : List TFunc) → LoopsBefore n fs → LoopsBefore n gs → map unlooped fs ≡ map unlooped gs → fs ≡ gs
functions_are n [] [] p q same = refl
functions_are n [] (g ∷ gs) p q same = cc
functions_are n (f ∷ fs) [] p q same = cc
functions_are n (f ∷ fs) (g ∷ gs) p q same =
    let first : unlooped f ≡ unlooped g = cc in
    let rest : map unlooped fs ≡ map unlooped gs = cc in
    let bodies : f.body ≡ g.body = ap (λ (h : TFunc). h.body) first in
    let behind : LoopsBefore (n + length (function_numbers f).loops) gs =
    subst (λ (body : List TStmt). LoopsBefore (n + length (listed (map stmt_numbers body)).loops) gs) (sym bodies) q.1 in
    λ i. function_is n f g p.0 q.0 first i ∷ functions_are (n + length (function_numbers f).loops) fs gs p.1 behind rest i

-- the functions of two numbered trees that are the same but for their numbers are the same
same_functions : (a b : TUnit) → bare_unit a ≡ bare_unit b → IsNumbered a → IsNumbered b → a.functions ≡ b.functions
same_functions a b same p q =
    let m = functions_numbers a.functions in
    let n = functions_numbers b.functions in
    let bare : map bare_function a.functions ≡ map bare_function b.functions = ap (λ (u : TUnit). u.functions) same in
    let of_a = functions_filled a.functions (numbers_from (length m.nodes) (length n.nodes)) (numbers_from (length m.strings) (length n.strings)) (numbers_from (length m.loops) (length n.loops)) in
    let of_b = functions_filled b.functions (numbers_from (length n.nodes) (length m.nodes)) (numbers_from (length n.strings) (length m.strings)) (numbers_from (length n.loops) (length m.loops)) in
    let nodes = as_long m.nodes n.nodes p.0 q.0 in
    let strings = as_long m.strings n.strings p.1 q.1 in
    let loops = as_long m.loops n.loops p.2 q.2 in
    let filled : map unlooped a.functions ≡ map unlooped b.functions =
    sym (λ i. (of_a i).0) ∙ ((λ i. (fill_list (map fill_function (bare i)) (nodes i) (strings i) (loops i)).0) ∙ (λ i. (of_b i).0)) in
    functions_are 0 a.functions b.functions p.6 q.6 filled

-- two numbered trees that are the same but for their numbers are one
pub one_numbering : OneNumbering
one_numbering a b same p q =
    let functions : a.functions ≡ b.functions = same_functions a b same p q in
    let strings : a.strings ≡ b.strings = p.3 ∙ ((λ i. (functions_numbers (functions i)).texts) ∙ sym q.3) in
    let nodes : a.nodes ≡ b.nodes = p.4 ∙ ((λ i. length (functions_numbers (functions i)).nodes) ∙ sym q.4) in
    let loops : a.loops ≡ b.loops = p.5 ∙ ((λ i. length (functions_numbers (functions i)).loops) ∙ sym q.5) in
    λ i. record {
      objects = (same i).objects;
      strings = strings i;
      functions = functions i;
      main = (same i).main;
      nodes = nodes i;
      loops = loops i;
    }

-- two typed trees of a source are one
pub one_typed_tree : OneTypedTree
unfolding IsTyped
one_typed_tree unit a b p q =
    let parts : p.0 ≡ q.0 = fine_is p.0 q.0 (sym p.1 ∙ q.1) in
    one_numbering a b (p.2 ∙ (ap (tree_of_parts unit) parts ∙ sym q.2)) p.3 q.3
