-- The typed tree of an expression passes where its strings do, and where its calls are of functions that are defined.
use Rattle.std.proofs.Common.{◌≡◌, ℕ, List, ◌∷◌, ◌++◌, map, refl, subst}
use Rattle.k_num.specs.declared.place.Place.{Place}
use Rattle.k_tree.specs.declared.tree.expression.Expr.{Expr}
use Rattle.k_tree.specs.declared.tree.expression.Expr.TheVariants as expr
use Rattle.k_tree.specs.Spelling.{Spelled, in_parens, spell_expr, spell_expr_step, spell_type, with_commas}
use Rattle.k_tree.proofs.Folds.{expr_Char, expr_Number, expr_SizeofExpr, expr_Str, expr_Paren, expr_Index, expr_Call, expr_Post, expr_Pre, expr_Unary, expr_Cast, expr_Binary, expr_Cond, expr_Assign, expr_Comma}
use Rattle.k_types_meaning.specs.Called.{Called, all_calls, expr_calls, expr_calls_step}
use Rattle.k_types_meaning.specs.Conversions.{Typed}
use Rattle.k_types_meaning.specs.Elaborated.{Elab, ElabAll, name, number, character, string, paren, index, call, postfix, prefix, unary, sizeof_expr, sizeof_type, cast, binary, conditional, assignment, comma, no_args, more_args}
use Rattle.k_types_meaning.specs.ElaboratedUnits.{IsDefined}
use Rattle.k_types_meaning.specs.Made.{Made, Fine}
use Rattle.k_types_meaning.specs.Names.{Names}
use Rattle.k_types_meaning.proofs.Fine.{AllOf, IfFine}
use Rattle.k_lower_fits.proofs.Named.{NamesEach, found}
use Rattle.k_lower_fits.proofs.Split.{behind, front, same, two}
use Rattle.k_lower_texts.specs.Laws.{FormatsFollow, NumbersFollow, TokenPasses}
use Rattle.k_lower_texts.specs.Passing.{Asks}
use Rattle.k_lower_texts.proofs.Calling.{asks_small, NameAsks, call_passes}
use Rattle.k_lower_texts.proofs.Operands.{G, name_passes, number_passes, char_passes, string_passes, index_passes, unary_passes, post_passes, pre_passes, sizeof_passes, sizeof_type_passes, cast_passes}
use Rattle.k_lower_texts.proofs.Operations.{binary_passes, cond_passes, assign_passes, comma_passes}
use Rattle.k_lower_texts.proofs.Split.{Each, commas_each}

module _ (asks : Asks) (follow : FormatsFollow asks) (numbers : NumbersFollow asks) (defined : List (List ℕ)) where
  -- calls of the names that are known pass
  abbrev pub NamesAsk : Names → Type 0
  NamesAsk names = NamesEach (NameAsks asks defined) names

  -- these calls are of functions that are defined
  abbrev pub D : List Called → Type 0
  D calls = AllOf (IsDefined defined) calls

  -- the strings among these tokens pass
  abbrev pub T : Spelled → Type 0
  T tokens = AllOf (TokenPasses asks) tokens

  -- what a rule makes passes
  makes : (m : Made Typed) (v : Typed) → m ≡ Fine v → IfFine (G asks) m → G asks v
  makes m v is h = subst (IfFine (G asks)) is h

  two_calls : (e a b : Expr) → expr_calls e ≡ expr_calls a ++ expr_calls b → D (expr_calls e) → D (expr_calls a) × D (expr_calls b)
  two_calls e a b is h = two (IsDefined defined) (expr_calls e) (expr_calls a) (expr_calls b) is h

  one_call : (e a : Expr) → expr_calls e ≡ expr_calls a → D (expr_calls e) → D (expr_calls a)
  one_call e a is h = same (IsDefined defined) (expr_calls e) (expr_calls a) is h

  sizeof_text : (p : Place) (a : Expr) → T (spell_expr (expr.SizeofExpr p a)) → T (spell_expr a)
  sizeof_text p a texts = (subst T (expr_SizeofExpr Spelled spell_expr_step p a) texts).1

  mutual
    pub expr_good : (names : Names) (e : Expr) (v : Typed) → NamesAsk names → D (expr_calls e) → T (spell_expr e) → Elab names e v → G asks v
    expr_good _ _ _ fit calls texts (name names p x v is) = makes _ v is (name_passes asks numbers names p x (λ m at. asks_small asks defined x m (found (NameAsks asks defined) names x m fit at)))
    expr_good _ _ _ fit calls texts (number names p kind n v is) = makes _ v is (number_passes asks numbers p kind n (subst T (expr_Number Spelled spell_expr_step p kind n) texts).0)
    expr_good _ _ _ fit calls texts (character names p z v is) = makes _ v is (char_passes asks numbers p z (subst T (expr_Char Spelled spell_expr_step p z) texts).0)
    expr_good _ _ _ fit calls texts (string names p bytes v is) =
        makes _ v is (string_passes asks numbers p bytes (subst T (expr_Str Spelled spell_expr_step p bytes) texts).0)
    expr_good _ _ _ fit calls texts (paren names p e v x) =
        expr_good names e v fit (one_call (expr.Paren p e) e (expr_Paren (List Called) expr_calls_step p e) calls)
        (front (TokenPasses asks) (spell_expr e) _ (subst T (expr_Paren Spelled spell_expr_step p e) texts).1) x
    expr_good _ _ _ fit calls texts (index names p a b x y v l r is) =
        let c = two_calls (expr.Index p a b) a b (expr_Index (List Called) expr_calls_step p a b) calls in
        let t = subst T (expr_Index Spelled spell_expr_step p a b) texts in
        let behind_a = behind (TokenPasses asks) (spell_expr a) _ t in
        makes _ v is (index_passes asks numbers p x y (expr_good names a x fit c.0 (front (TokenPasses asks) (spell_expr a) _ t) l)
        (expr_good names b y fit c.1 (front (TokenPasses asks) (spell_expr b) _ behind_a.1) r))
    expr_good _ _ _ fit calls texts (call names p f args xs v all is) =
        let here : D (record { name = f; place = p } ∷ all_calls (map expr_calls args)) =
        same (IsDefined defined) (expr_calls (expr.Call p f args)) (record { name = f; place = p } ∷ all_calls (map expr_calls args)) (expr_Call (List Called) expr_calls_step p f args) calls in
        let t = subst T (expr_Call Spelled spell_expr_step p f args) texts in
        makes _ v is
        (call_passes asks numbers follow defined names p f xs fit here.0
        (all_good names args xs fit here.1 (commas_each (TokenPasses asks) (map spell_expr args) (front (TokenPasses asks) (with_commas (map spell_expr args)) _ t.1.1)) all))
    expr_good _ _ _ fit calls texts (postfix names p op a x v l is) =
        makes _ v is
        (post_passes asks numbers p op x (expr_good names a x fit (one_call (expr.Post p op a) a (expr_Post (List Called) expr_calls_step p op a) calls)
        (front (TokenPasses asks) (spell_expr a) _ (subst T (expr_Post Spelled spell_expr_step p op a) texts)) l))
    expr_good _ _ _ fit calls texts (prefix names p op a x v l is) =
        makes _ v is
        (pre_passes asks numbers p op x (expr_good names a x fit (one_call (expr.Pre p op a) a (expr_Pre (List Called) expr_calls_step p op a) calls)
        (subst T (expr_Pre Spelled spell_expr_step p op a) texts).1 l))
    expr_good _ _ _ fit calls texts (unary names p op a x v l is) =
        makes _ v is
        (unary_passes asks numbers p op x (expr_good names a x fit (one_call (expr.Unary p op a) a (expr_Unary (List Called) expr_calls_step p op a) calls)
        (subst T (expr_Unary Spelled spell_expr_step p op a) texts).1 l))
    expr_good _ _ _ fit calls texts (sizeof_expr names p a x v l is) =
        makes _ v is
        (sizeof_passes asks numbers p x (expr_good names a x fit (one_call (expr.SizeofExpr p a) a (expr_SizeofExpr (List Called) expr_calls_step p a) calls)
        (sizeof_text p a texts) l))
    expr_good _ _ _ fit calls texts (sizeof_type names p specs stars v is) = makes _ v is (sizeof_type_passes asks numbers p specs stars)
    expr_good _ _ _ fit calls texts (cast names p specs stars a x v l is) =
        makes _ v is
        (cast_passes asks numbers p specs stars x (expr_good names a x fit (one_call (expr.Cast p specs stars a) a (expr_Cast (List Called) expr_calls_step p specs stars a) calls)
        (behind (TokenPasses asks) (in_parens (spell_type specs stars)) (spell_expr a) (subst T (expr_Cast Spelled spell_expr_step p specs stars a) texts)) l))
    expr_good _ _ _ fit calls texts (binary names p op a b x y v l r is) =
        let c = two_calls (expr.Binary p op a b) a b (expr_Binary (List Called) expr_calls_step p op a b) calls in
        let t = subst T (expr_Binary Spelled spell_expr_step p op a b) texts in
        let behind_a = behind (TokenPasses asks) (spell_expr a) _ t in
        makes _ v is (binary_passes asks numbers p op x y (expr_good names a x fit c.0 (front (TokenPasses asks) (spell_expr a) _ t) l) (expr_good names b y fit c.1 behind_a.1 r))
    expr_good _ _ _ fit calls texts (conditional names p a b c x y z v l r s is) =
        let here = two (IsDefined defined) (expr_calls (expr.Cond p a b c)) (expr_calls a) (expr_calls b ++ expr_calls c) (expr_Cond (List Called) expr_calls_step p a b c) calls in
        let t = subst T (expr_Cond Spelled spell_expr_step p a b c) texts in
        let behind_a = behind (TokenPasses asks) (spell_expr a) _ t in
        let behind_b = behind (TokenPasses asks) (spell_expr b) _ behind_a.1 in
        makes _ v is
        (cond_passes asks numbers p x y z (expr_good names a x fit here.0 (front (TokenPasses asks) (spell_expr a) _ t) l)
        (expr_good names b y fit (front (IsDefined defined) (expr_calls b) (expr_calls c) here.1) (front (TokenPasses asks) (spell_expr b) _ behind_a.1) r)
        (expr_good names c z fit (behind (IsDefined defined) (expr_calls b) (expr_calls c) here.1) behind_b.1 s))
    expr_good _ _ _ fit calls texts (assignment names p op a b x y v l r is) =
        let c = two_calls (expr.Assign p op a b) a b (expr_Assign (List Called) expr_calls_step p op a b) calls in
        let t = subst T (expr_Assign Spelled spell_expr_step p op a b) texts in
        let behind_a = behind (TokenPasses asks) (spell_expr a) _ t in
        makes _ v is (assign_passes asks numbers p op x y (expr_good names a x fit c.0 (front (TokenPasses asks) (spell_expr a) _ t) l) (expr_good names b y fit c.1 behind_a.1 r))
    expr_good _ _ _ fit calls texts (comma names p a b x y v l r is) =
        let c = two_calls (expr.Comma p a b) a b (expr_Comma (List Called) expr_calls_step p a b) calls in
        let t = subst T (expr_Comma Spelled spell_expr_step p a b) texts in
        let behind_a = behind (TokenPasses asks) (spell_expr a) _ t in
        makes _ v is (comma_passes asks numbers p x y (expr_good names a x fit c.0 (front (TokenPasses asks) (spell_expr a) _ t) l) (expr_good names b y fit c.1 behind_a.1 r))

    all_good : (names : Names) (es : List Expr) (vs : List Typed) → NamesAsk names → D (all_calls (map expr_calls es)) → Each (TokenPasses asks) (map spell_expr es) → ElabAll names es vs
        → AllOf (G asks) vs
    all_good _ _ _ fit calls texts (no_args names) = tt
    all_good _ _ _ fit calls texts (more_args names e es v vs x xs) =
        let c = two (IsDefined defined) (expr_calls e ++ all_calls (map expr_calls es)) (expr_calls e) (all_calls (map expr_calls es)) refl calls in
        (expr_good names e v fit c.0 texts.0 x, all_good names es vs fit c.1 texts.1 xs)
