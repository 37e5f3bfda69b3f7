-- Judging an expression and the relation of its typed trees agree.
use Rattle.std.proofs.Common.{◌≡◌, refl, sym, ◌∙◌, ap, subst, List, [], ◌∷◌, ◌++◌, map}
use Rattle.k_tree.specs.declared.tree.expression.Expr.{Expr, roll-Expr, fold-roll-Expr, ind-Expr, map-Expr}
use Rattle.k_tree.specs.declared.tree.expression.Expr.TheOpen.{Expr-F}
use Rattle.k_tree.specs.declared.tree.expression.Expr.TheVariants as expr
use Rattle.k_tree.proofs.Folds.{expr_Assign, expr_Binary, expr_Call, expr_Cast, expr_Char, expr_Comma, expr_Cond, expr_Index, expr_Name, expr_Number, expr_Paren, expr_Post, expr_Pre, expr_SizeofExpr, expr_SizeofType, expr_Str, expr_Unary}
use Rattle.k_types_meaning.specs.declared.fault.TypeFault.{TypeFault}
use Rattle.k_types_meaning.specs.Conversions.{Typed}
use Rattle.k_types_meaning.specs.Expressions.{judge, judge_step}
use Rattle.k_types_meaning.specs.Elaborated.{ExpressionsElaborate, Elab, ElabAll, name, number, character, string, paren, index, call, postfix, prefix, unary, sizeof_expr, sizeof_type, cast, binary, conditional, assignment, comma, no_args, more_args}
use Rattle.k_types_meaning.specs.Made.{Made, Fine, Faulty, both, three, then_made, all_made}
use Rattle.k_types_meaning.specs.Names.{Names}
use Rattle.k_types_meaning.specs.CallRules.{call_rule}
use Rattle.k_types_meaning.specs.Operands.{index_rule, unary_rule, post_rule, pre_rule, sizeof_rule, cast_rule}
use Rattle.k_types_meaning.specs.Operators.{binary_rule, cond_rule, assign_rule, comma_rule}

module _ {A : Type 0} where
  -- it has a fault
  abbrev HasFault : Made A → Type 0
  HasFault (Fine a) = ⊥
  HasFault (Faulty f fs) = Unit {0}

  -- what has a fault is not made
  pub not_made : (f : TypeFault) (fs : List TypeFault) (v : A) → Faulty f fs ≡ Fine v → ⊥
  not_made f fs v is = subst HasFault is tt

-- what comes of two parts without a fault
pub both_fine : {A B C : Type 0} (m : Made A) (n : Made B) (next : A → B → Made C) (v : C) → both m n next ≡ Fine v
    → (a : A) × (b : B) × (m ≡ Fine a) × (n ≡ Fine b) × (next a b ≡ Fine v)
both_fine (Fine a) (Fine b) next v is = (a, b, refl, refl, is)
both_fine (Fine a) (Faulty g gs) next v is = absurd (not_made g gs v is)
both_fine (Faulty f fs) (Fine b) next v is = absurd (not_made f fs v is)
both_fine (Faulty f fs) (Faulty g gs) next v is = absurd (not_made f (fs ++ g ∷ gs) v is)

-- what comes of one part without a fault
pub one_fine : {A B : Type 0} (m : Made A) (next : A → Made B) (v : B) → then_made m next ≡ Fine v
    → (a : A) × (m ≡ Fine a) × (next a ≡ Fine v)
one_fine (Fine a) next v is = (a, refl, is)
one_fine (Faulty f fs) next v is = absurd (not_made f fs v is)

-- what comes of three parts without a fault
pub three_fine : {A B C D : Type 0} (m : Made A) (n : Made B) (o : Made C) (next : A → B → C → Made D) (v : D) → three m n o next ≡ Fine v
    → (a : A) × (b : B) × (c : C) × (m ≡ Fine a) × (n ≡ Fine b) × (o ≡ Fine c) × (next a b c ≡ Fine v)
three_fine (Fine a) (Fine b) (Fine c) next v is = (a, b, c, refl, refl, refl, is)
three_fine (Fine a) (Fine b) (Faulty h hs) next v is = absurd (not_made h hs v is)
three_fine (Fine a) (Faulty g gs) (Fine c) next v is = absurd (not_made g gs v is)
three_fine (Fine a) (Faulty g gs) (Faulty h hs) next v is = absurd (not_made g (gs ++ h ∷ hs) v is)
three_fine (Faulty f fs) (Fine b) (Fine c) next v is = absurd (not_made f fs v is)
three_fine (Faulty f fs) (Fine b) (Faulty h hs) next v is = absurd (not_made f (fs ++ h ∷ hs) v is)
three_fine (Faulty f fs) (Faulty g gs) (Fine c) next v is = absurd (not_made f (fs ++ g ∷ gs) v is)
three_fine (Faulty f fs) (Faulty g gs) (Faulty h hs) next v is = absurd (not_made f (fs ++ g ∷ (gs ++ h ∷ hs)) v is)

-- two parts that are made
both_is : {A B C : Type 0} {m : Made A} {n : Made B} {a : A} {b : B} (next : A → B → Made C) → m ≡ Fine a → n ≡ Fine b → both m n next ≡ next a b
both_is next p q = λ i. both (p i) (q i) next

-- three parts that are made
three_is : {A B C D : Type 0} {m : Made A} {n : Made B} {o : Made C} {a : A} {b : B} {c : C} (next : A → B → C → Made D)
    → m ≡ Fine a → n ≡ Fine b → o ≡ Fine c → three m n o next ≡ next a b c
three_is next p q r = λ i. three (p i) (q i) (r i) next

-- what is made, or this where there is a fault
abbrev value_or : {A : Type 0} → A → Made A → A
value_or a (Fine b) = b
value_or a (Faulty f fs) = a

-- what is made is made of its value alone
pub fine_is : {A : Type 0} (a b : A) → Fine a ≡ Fine b → a ≡ b
fine_is a b is = ap (value_or a) is

module _ (names : Names) where
  -- what an expression means by its relation, where judging it finds no fault
  abbrev Sound : Expr → Type 0
  Sound e = (v : Typed) → judge names e ≡ Fine v → Elab names e v

  -- all arguments
  args_sound : (xs : List ((e : Expr) × Sound e)) (vs : List Typed) → all_made (map (judge names) (map (λ (x : (e : Expr) × Sound e). x.0) xs)) ≡ Fine vs
      → ElabAll names (map (λ (x : (e : Expr) × Sound e). x.0) xs) vs
  args_sound [] vs is = subst (ElabAll names []) (fine_is [] vs is) (no_args names)
  args_sound (x ∷ xs) vs is =
      let parts = both_fine (judge names x.0) (all_made (map (judge names) (map (λ (y : (e : Expr) × Sound e). y.0) xs))) (λ w ws. Fine (w ∷ ws)) vs is in
      subst (ElabAll names (x.0 ∷ map (λ (y : (e : Expr) × Sound e). y.0) xs)) (fine_is (parts.0 ∷ parts.1) vs parts.4)
      (more_args names x.0 (map (λ (y : (e : Expr) × Sound e). y.0) xs) parts.0 parts.1 (x.1 parts.0 parts.2) (args_sound xs parts.1 parts.3))

  -- what holds of an expression, by one case for each construct, where it holds of the operands
  sound_by : (y : Expr-F ((e : Expr) × Sound e)) (v : Typed)
      → judge_step names (map-Expr Expr (Made Typed) (judge names) (map-Expr _ Expr (λ (e : (e : Expr) × Sound e). e.0) y)) ≡ Fine v
      → Elab names (roll-Expr (map-Expr _ Expr (λ (e : (e : Expr) × Sound e). e.0) y)) v
  sound_by (Expr-F.Name p x) v is = subst (λ e. Elab names e v) (sym (expr.rolls-Name p x)) (name names p x v is)
  sound_by (Expr-F.Number p kind n) v is = subst (λ e. Elab names e v) (sym (expr.rolls-Number p kind n)) (number names p kind n v is)
  sound_by (Expr-F.Char p z) v is = subst (λ e. Elab names e v) (sym (expr.rolls-Char p z)) (character names p z v is)
  sound_by (Expr-F.Str p bytes) v is = subst (λ e. Elab names e v) (sym (expr.rolls-Str p bytes)) (string names p bytes v is)
  sound_by (Expr-F.Paren p a) v is = subst (λ e. Elab names e v) (sym (expr.rolls-Paren p a.0)) (paren names p a.0 v (a.1 v is))
  sound_by (Expr-F.Index p a b) v is =
      let parts = both_fine (judge names a.0) (judge names b.0) (index_rule p) v is in
      subst (λ e. Elab names e v) (sym (expr.rolls-Index p a.0 b.0))
      (index names p a.0 b.0 parts.0 parts.1 v (a.1 parts.0 parts.2) (b.1 parts.1 parts.3) parts.4)
  sound_by (Expr-F.Call p f args) v is =
      let parts = one_fine (all_made (map (judge names) (map (λ (x : (e : Expr) × Sound e). x.0) args))) (call_rule names p f) v is in
      subst (λ e. Elab names e v) (sym (expr.rolls-Call p f (map (λ (x : (e : Expr) × Sound e). x.0) args)))
      (call names p f (map (λ (x : (e : Expr) × Sound e). x.0) args) parts.0 v (args_sound args parts.0 parts.1) parts.2)
  sound_by (Expr-F.Post p op a) v is =
      let parts = one_fine (judge names a.0) (post_rule p op) v is in
      subst (λ e. Elab names e v) (sym (expr.rolls-Post p op a.0)) (postfix names p op a.0 parts.0 v (a.1 parts.0 parts.1) parts.2)
  sound_by (Expr-F.Pre p op a) v is =
      let parts = one_fine (judge names a.0) (pre_rule p op) v is in
      subst (λ e. Elab names e v) (sym (expr.rolls-Pre p op a.0)) (prefix names p op a.0 parts.0 v (a.1 parts.0 parts.1) parts.2)
  sound_by (Expr-F.Unary p op a) v is =
      let parts = one_fine (judge names a.0) (unary_rule p op) v is in
      subst (λ e. Elab names e v) (sym (expr.rolls-Unary p op a.0)) (unary names p op a.0 parts.0 v (a.1 parts.0 parts.1) parts.2)
  sound_by (Expr-F.SizeofExpr p a) v is =
      let parts = one_fine (judge names a.0) (sizeof_rule p) v is in
      subst (λ e. Elab names e v) (sym (expr.rolls-SizeofExpr p a.0)) (sizeof_expr names p a.0 parts.0 v (a.1 parts.0 parts.1) parts.2)
  sound_by (Expr-F.SizeofType p specs stars) v is = subst (λ e. Elab names e v) (sym (expr.rolls-SizeofType p specs stars)) (sizeof_type names p specs stars v is)
  sound_by (Expr-F.Cast p specs stars a) v is =
      let parts = one_fine (judge names a.0) (cast_rule p specs stars) v is in
      subst (λ e. Elab names e v) (sym (expr.rolls-Cast p specs stars a.0)) (cast names p specs stars a.0 parts.0 v (a.1 parts.0 parts.1) parts.2)
  sound_by (Expr-F.Binary p op a b) v is =
      let parts = both_fine (judge names a.0) (judge names b.0) (binary_rule p op) v is in
      subst (λ e. Elab names e v) (sym (expr.rolls-Binary p op a.0 b.0))
      (binary names p op a.0 b.0 parts.0 parts.1 v (a.1 parts.0 parts.2) (b.1 parts.1 parts.3) parts.4)
  sound_by (Expr-F.Cond p a b c) v is =
      let parts = three_fine (judge names a.0) (judge names b.0) (judge names c.0) (cond_rule p) v is in
      subst (λ e. Elab names e v) (sym (expr.rolls-Cond p a.0 b.0 c.0))
      (conditional names p a.0 b.0 c.0 parts.0 parts.1 parts.2 v (a.1 parts.0 parts.3) (b.1 parts.1 parts.4) (c.1 parts.2 parts.5) parts.6)
  sound_by (Expr-F.Assign p op a b) v is =
      let parts = both_fine (judge names a.0) (judge names b.0) (assign_rule p op) v is in
      subst (λ e. Elab names e v) (sym (expr.rolls-Assign p op a.0 b.0))
      (assignment names p op a.0 b.0 parts.0 parts.1 v (a.1 parts.0 parts.2) (b.1 parts.1 parts.3) parts.4)
  sound_by (Expr-F.Comma p a b) v is =
      let parts = both_fine (judge names a.0) (judge names b.0) (comma_rule p) v is in
      subst (λ e. Elab names e v) (sym (expr.rolls-Comma p a.0 b.0))
      (comma names p a.0 b.0 parts.0 parts.1 v (a.1 parts.0 parts.2) (b.1 parts.1 parts.3) parts.4)

  -- an expression that is judged without a fault means what judging makes
  pub sound : (e : Expr) → Sound e
  sound =
      ind-Expr Sound
      (λ x y is v made. subst (λ (z : Expr-F Expr). Elab names (roll-Expr z) v) is
      (sound_by y v (ap (λ (z : Expr-F Expr). judge_step names (map-Expr Expr (Made Typed) (judge names) z)) is ∙ sym (fold-roll-Expr (Made Typed) (judge_step names) x) ∙ made)))

mutual
  -- what an expression means is what judging makes
  pub complete : (names : Names) (e : Expr) (v : Typed) → Elab names e v → judge names e ≡ Fine v
  complete _ _ _ (name names p x v is) = expr_Name (Made Typed) (judge_step names) p x ∙ is
  complete _ _ _ (number names p kind n v is) = expr_Number (Made Typed) (judge_step names) p kind n ∙ is
  complete _ _ _ (character names p z v is) = expr_Char (Made Typed) (judge_step names) p z ∙ is
  complete _ _ _ (string names p bytes v is) = expr_Str (Made Typed) (judge_step names) p bytes ∙ is
  complete _ _ _ (paren names p e v is) = expr_Paren (Made Typed) (judge_step names) p e ∙ complete names e v is
  complete _ _ _ (index names p a b x y v l r is) =
      expr_Index (Made Typed) (judge_step names) p a b ∙ both_is (index_rule p) (complete names a x l) (complete names b y r) ∙ is
  complete _ _ _ (call names p f args xs v all is) =
      expr_Call (Made Typed) (judge_step names) p f args ∙ ap (λ m. then_made m (call_rule names p f)) (complete_all names args xs all) ∙ is
  complete _ _ _ (postfix names p op a x v l is) =
      expr_Post (Made Typed) (judge_step names) p op a ∙ ap (λ m. then_made m (post_rule p op)) (complete names a x l) ∙ is
  complete _ _ _ (prefix names p op a x v l is) =
      expr_Pre (Made Typed) (judge_step names) p op a ∙ ap (λ m. then_made m (pre_rule p op)) (complete names a x l) ∙ is
  complete _ _ _ (unary names p op a x v l is) =
      expr_Unary (Made Typed) (judge_step names) p op a ∙ ap (λ m. then_made m (unary_rule p op)) (complete names a x l) ∙ is
  complete _ _ _ (sizeof_expr names p a x v l is) =
      expr_SizeofExpr (Made Typed) (judge_step names) p a ∙ ap (λ m. then_made m (sizeof_rule p)) (complete names a x l) ∙ is
  complete _ _ _ (sizeof_type names p specs stars v is) = expr_SizeofType (Made Typed) (judge_step names) p specs stars ∙ is
  complete _ _ _ (cast names p specs stars a x v l is) =
      expr_Cast (Made Typed) (judge_step names) p specs stars a ∙ ap (λ m. then_made m (cast_rule p specs stars)) (complete names a x l) ∙ is
  complete _ _ _ (binary names p op a b x y v l r is) =
      expr_Binary (Made Typed) (judge_step names) p op a b ∙ both_is (binary_rule p op) (complete names a x l) (complete names b y r) ∙ is
  complete _ _ _ (conditional names p a b c x y z v l m r is) =
      expr_Cond (Made Typed) (judge_step names) p a b c ∙ three_is (cond_rule p) (complete names a x l) (complete names b y m) (complete names c z r) ∙ is
  complete _ _ _ (assignment names p op a b x y v l r is) =
      expr_Assign (Made Typed) (judge_step names) p op a b ∙ both_is (assign_rule p op) (complete names a x l) (complete names b y r) ∙ is
  complete _ _ _ (comma names p a b x y v l r is) =
      expr_Comma (Made Typed) (judge_step names) p a b ∙ both_is (comma_rule p) (complete names a x l) (complete names b y r) ∙ is

  -- all arguments
  complete_all : (names : Names) (es : List Expr) (vs : List Typed) → ElabAll names es vs → all_made (map (judge names) es) ≡ Fine vs
  complete_all _ _ _ (no_args names) = refl
  complete_all _ _ _ (more_args names e es v vs first others) =
      both_is (λ x xs. Fine (x ∷ xs)) (complete names e v first) (complete_all names es vs others)

-- judging an expression and the relation agree
pub expressions_elaborate : ExpressionsElaborate
expressions_elaborate names e v = (sound names e v, complete names e v)
