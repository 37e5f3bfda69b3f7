-- The typed tree of an expression fits, and its nodes pay for it, where the names that are known are there and its calls are of functions that are defined.
use Rattle.std.proofs.Common.{◌≡◌, ℕ, ◌+◌, List, ◌∷◌, ◌++◌, map, refl, sym, subst, arith}
use Rattle.std.specs.Prelude.{sum}
use Rattle.k_tree.specs.declared.tree.expression.Expr.{Expr}
use Rattle.k_tree.specs.declared.tree.expression.Expr.TheVariants as expr
use Rattle.k_tree.specs.Count.{expr_count}
use Rattle.k_tree.specs.Count as count
use Rattle.k_tree.proofs.Folds.{expr_Name, expr_Number, expr_Char, expr_Str, expr_Paren, expr_Index, expr_Call, expr_Post, expr_Pre, expr_Unary, expr_SizeofExpr, expr_SizeofType, expr_Cast, expr_Binary, expr_Cond, expr_Assign, expr_Comma}
use Rattle.k_types_meaning.specs.Called.{Called, all_calls, expr_calls, expr_calls_step}
use Rattle.k_types_meaning.specs.CallRules.{call_rule}
use Rattle.k_types_meaning.specs.Conversions.{Typed}
use Rattle.k_types_meaning.specs.Elaborated.{Elab, ElabAll, name, number, character, string, paren, index, call, postfix, prefix, unary, sizeof_expr, sizeof_type, cast, binary, conditional, assignment, comma, no_args, more_args}
use Rattle.k_types_meaning.specs.ElaboratedUnits.{IsDefined}
use Rattle.k_types_meaning.specs.Made.{Made, Fine}
use Rattle.k_types_meaning.specs.Names.{Names}
use Rattle.k_types_meaning.specs.Operands.{name_rule, number_rule, char_rule, string_rule, index_rule, unary_rule, post_rule, pre_rule, sizeof_type_rule, cast_rule}
use Rattle.k_types_meaning.specs.Operators.{binary_rule, cond_rule, assign_rule, comma_rule}
use Rattle.k_types_meaning.proofs.Fine.{AllOf, IfFine}
use Rattle.k_lower_fits.specs.Fits.{Limits}
use Rattle.k_lower_fits.proofs.Calling.{AllGood, call_good}
use Rattle.k_lower_fits.proofs.Named.{NamesEach}
use Rattle.k_lower_fits.proofs.Operands.{NameFits, name_good, number_good, char_good, string_good, index_good, unary_good, post_good, pre_good, sizeof_good, sizeof_type_good, cast_good}
use Rattle.k_lower_fits.proofs.Operations.{binary_good, cond_good, assign_good, comma_good}
use Rattle.k_lower_fits.proofs.Ready.{Good, good_within}
use Rattle.k_lower_fits.proofs.Split as split

module _ (limits : Limits) (defined : List (List ℕ)) where
  -- the names that are known are there
  abbrev pub NamesFit : Names → Type 0
  NamesFit names = NamesEach (NameFits limits defined) names

  -- these calls are of functions that are defined
  abbrev pub AreDefined : List Called → Type 0
  AreDefined calls = AllOf (IsDefined defined) calls

  -- what a rule makes is good, by the count of its expression
  makes : (e : Expr) (n : ℕ) (m : Made Typed) (v : Typed) → expr_count e ≡ n → m ≡ Fine v → IfFine (Good limits n) m → Good limits (expr_count e) v
  makes e n m v counts is h = subst (λ (k : ℕ). Good limits k v) (sym counts) (subst (IfFine (Good limits n)) is h)

  more : (e : Expr) (n : ℕ) (v : Typed) → expr_count e ≡ n → Good limits n v → Good limits (expr_count e) v
  more e n v counts h = subst (λ (k : ℕ). Good limits k v) (sym counts) h

  abbrev C : List Called → Type 0
  C calls = AllOf (IsDefined defined) calls

  two_calls : (e a b : Expr) → expr_calls e ≡ expr_calls a ++ expr_calls b → C (expr_calls e) → C (expr_calls a) × C (expr_calls b)
  two_calls e a b is h = split.two (IsDefined defined) (expr_calls e) (expr_calls a) (expr_calls b) is h

  one_call : (e a : Expr) → expr_calls e ≡ expr_calls a → C (expr_calls e) → C (expr_calls a)
  one_call e a is h = split.same (IsDefined defined) (expr_calls e) (expr_calls a) is h

  mutual
    pub expr_good : (names : Names) (e : Expr) (v : Typed) → NamesFit names → AreDefined (expr_calls e) → Elab names e v → Good limits (expr_count e) v
    expr_good _ _ _ fit calls (name names p x v is) =
        makes (expr.Name p x) 1 (name_rule names p x) v (expr_Name ℕ count.expr_step p x) is (name_good limits defined names p x fit)
    expr_good _ _ _ fit calls (number names p kind n v is) =
        makes (expr.Number p kind n) 1 (number_rule p kind n) v (expr_Number ℕ count.expr_step p kind n) is (number_good limits p kind n)
    expr_good _ _ _ fit calls (character names p z v is) =
        makes (expr.Char p z) 1 (char_rule p z) v (expr_Char ℕ count.expr_step p z) is (char_good limits p z)
    expr_good _ _ _ fit calls (string names p bytes v is) =
        makes (expr.Str p bytes) 1 (string_rule p bytes) v (expr_Str ℕ count.expr_step p bytes) is (string_good limits p bytes)
    expr_good _ _ _ fit calls (paren names p e v x) =
        more (expr.Paren p e) (1 + expr_count e) v (expr_Paren ℕ count.expr_step p e)
        (good_within limits (expr_count e) (1 + expr_count e) v (omega arith)
        (expr_good names e v fit (one_call (expr.Paren p e) e (expr_Paren (List Called) expr_calls_step p e) calls) x))
    expr_good _ _ _ fit calls (index names p a b x y v l r is) =
        let c = two_calls (expr.Index p a b) a b (expr_Index (List Called) expr_calls_step p a b) calls in
        makes (expr.Index p a b) (1 + expr_count a + expr_count b) (index_rule p x y) v (expr_Index ℕ count.expr_step p a b) is
        (index_good limits p (expr_count a) (expr_count b) x y (expr_good names a x fit c.0 l) (expr_good names b y fit c.1 r))
    expr_good _ _ _ fit calls (call names p f args xs v all is) =
        let here : C (record { name = f; place = p } ∷ all_calls (map expr_calls args)) =
        split.same (IsDefined defined) (expr_calls (expr.Call p f args)) (record { name = f; place = p } ∷ all_calls (map expr_calls args)) (expr_Call (List Called) expr_calls_step p f args) calls in
        makes (expr.Call p f args) (1 + sum (map expr_count args)) (call_rule names p f xs) v (expr_Call ℕ count.expr_step p f args) is
        (call_good limits defined names p f (map expr_count args) xs fit here.0 (all_good names args xs fit here.1 all))
    expr_good _ _ _ fit calls (postfix names p op a x v l is) =
        makes (expr.Post p op a) (1 + expr_count a) (post_rule p op x) v (expr_Post ℕ count.expr_step p op a) is
        (post_good limits p op (expr_count a) x (expr_good names a x fit (one_call (expr.Post p op a) a (expr_Post (List Called) expr_calls_step p op a) calls) l))
    expr_good _ _ _ fit calls (prefix names p op a x v l is) =
        makes (expr.Pre p op a) (1 + expr_count a) (pre_rule p op x) v (expr_Pre ℕ count.expr_step p op a) is
        (pre_good limits p op (expr_count a) x (expr_good names a x fit (one_call (expr.Pre p op a) a (expr_Pre (List Called) expr_calls_step p op a) calls) l))
    expr_good _ _ _ fit calls (unary names p op a x v l is) =
        makes (expr.Unary p op a) (1 + expr_count a) (unary_rule p op x) v (expr_Unary ℕ count.expr_step p op a) is
        (unary_good limits p op (expr_count a) x (expr_good names a x fit (one_call (expr.Unary p op a) a (expr_Unary (List Called) expr_calls_step p op a) calls) l))
    expr_good _ _ _ fit calls (sizeof_expr names p a x v l is) =
        more (expr.SizeofExpr p a) (1 + expr_count a) v (expr_SizeofExpr ℕ count.expr_step p a)
        (good_within limits 1 (1 + expr_count a) v (omega arith) (subst (IfFine (Good limits 1)) is (sizeof_good limits p x)))
    expr_good _ _ _ fit calls (sizeof_type names p specs stars v is) =
        makes (expr.SizeofType p specs stars) 1 (sizeof_type_rule p specs stars) v (expr_SizeofType ℕ count.expr_step p specs stars) is (sizeof_type_good limits p specs stars)
    expr_good _ _ _ fit calls (cast names p specs stars a x v l is) =
        makes (expr.Cast p specs stars a) (1 + expr_count a) (cast_rule p specs stars x) v (expr_Cast ℕ count.expr_step p specs stars a) is
        (cast_good limits p specs stars (expr_count a) x (expr_good names a x fit (one_call (expr.Cast p specs stars a) a (expr_Cast (List Called) expr_calls_step p specs stars a) calls) l))
    expr_good _ _ _ fit calls (binary names p op a b x y v l r is) =
        let c = two_calls (expr.Binary p op a b) a b (expr_Binary (List Called) expr_calls_step p op a b) calls in
        makes (expr.Binary p op a b) (1 + expr_count a + expr_count b) (binary_rule p op x y) v (expr_Binary ℕ count.expr_step p op a b) is
        (binary_good limits p op (expr_count a) (expr_count b) x y (expr_good names a x fit c.0 l) (expr_good names b y fit c.1 r))
    expr_good _ _ _ fit calls (conditional names p a b c x y z v l r s is) =
        let here = split.two (IsDefined defined) (expr_calls (expr.Cond p a b c)) (expr_calls a) (expr_calls b ++ expr_calls c) (expr_Cond (List Called) expr_calls_step p a b c) calls in
        makes (expr.Cond p a b c) (1 + expr_count a + expr_count b + expr_count c) (cond_rule p x y z) v (expr_Cond ℕ count.expr_step p a b c) is
        (cond_good limits p (expr_count a) (expr_count b) (expr_count c) x y z (expr_good names a x fit here.0 l)
        (expr_good names b y fit (split.front (IsDefined defined) (expr_calls b) (expr_calls c) here.1) r)
        (expr_good names c z fit (split.behind (IsDefined defined) (expr_calls b) (expr_calls c) here.1) s))
    expr_good _ _ _ fit calls (assignment names p op a b x y v l r is) =
        let c = two_calls (expr.Assign p op a b) a b (expr_Assign (List Called) expr_calls_step p op a b) calls in
        makes (expr.Assign p op a b) (1 + expr_count a + expr_count b) (assign_rule p op x y) v (expr_Assign ℕ count.expr_step p op a b) is
        (assign_good limits p op (expr_count a) (expr_count b) x y (expr_good names a x fit c.0 l) (expr_good names b y fit c.1 r))
    expr_good _ _ _ fit calls (comma names p a b x y v l r is) =
        let c = two_calls (expr.Comma p a b) a b (expr_Comma (List Called) expr_calls_step p a b) calls in
        makes (expr.Comma p a b) (1 + expr_count a + expr_count b) (comma_rule p x y) v (expr_Comma ℕ count.expr_step p a b) is
        (comma_good limits p (expr_count a) (expr_count b) x y (expr_good names a x fit c.0 l) (expr_good names b y fit c.1 r))

    all_good : (names : Names) (es : List Expr) (vs : List Typed) → NamesFit names → AreDefined (all_calls (map expr_calls es)) → ElabAll names es vs → AllGood limits (map expr_count es) vs
    all_good _ _ _ fit calls (no_args names) = tt
    all_good _ _ _ fit calls (more_args names e es v vs x xs) =
        let c = split.two (IsDefined defined) (expr_calls e ++ all_calls (map expr_calls es)) (expr_calls e) (all_calls (map expr_calls es)) refl calls in
        (expr_good names e v fit c.0 x, all_good names es vs fit c.1 xs)
