-- Initialisers keep what was read of a declaration true.
use Rattle.std.proofs.Common.{ℕ, ◌≡◌, ◌≢◌, ◌+◌, ◌≤◌, Bool, true, false, List, [], ◌∷◌, ◌++◌, map, length, Some, refl, sym, ◌∙◌, ap, subst, arith, append_assoc}
use Rattle.std.proofs.lemmas.List.{append-nil}
use Rattle.k_parse_steps.specs.Types.{Place, Token, Init, Declarator, Brace, Front}
use Rattle.k_tree.specs.declared.tokens.TokenKind.TheVariants as token
use Rattle.k_tree.specs.declared.tokens.mark.Mark.TheVariants as mark
use Rattle.k_tree.specs.declared.tree.declaration.Init.TheVariants as init
use Rattle.k_tree.proofs.Folds.{init_List}
use Rattle.k_tree.specs.Nesting.{init_depth, init_depth_step}
use Rattle.k_tree.specs.Places.{Pieces, plain, at, lay_dims, lay_init, lay_init_step, lay_declarator, lay_with_commas, Stand}
use Rattle.k_tree.specs.Ranked.{RankedInit, RankedInits, braces, no_inits, more_inits}
use Rattle.k_tree.specs.Spelling.{the_mark, the_name, spell_stars}
use Rattle.k_tree.proofs.Standing.{stand-append}
use Rattle.k_parse_steps.specs.Initialisers.{plug_into, listed}
use Rattle.k_parse_steps.proofs.Commas.{comma, lay_each, each_with, with_last, not_none}
use Rattle.k_parse_steps.proofs.Rows.{deepest_more}
use Rattle.k_parse_steps.proofs.ExpressionTerms.{one, three, four}
use Rattle.k_parse_steps.proofs.DeclarationState.{lay_bare, lay_front, lay_equal, lay_braces, OkBare, OkBraces, InBrace, OkAfter, OkStarts}

inits_push : (xs : List Init) (x : Init) → RankedInits xs → RankedInit x → RankedInits (xs ++ x ∷ [])
inits_push [] x h r = more_inits x [] r no_inits
inits_push (y ∷ xs) x (more_inits _ _ a b) r = more_inits y (xs ++ x ∷ []) a (inits_push xs x b r)

listed_ranked : (p : Place) (xs : List Init) (last : Bool) → xs ≢ [] → RankedInits xs → RankedInit (init.List p xs last)
listed_ranked p [] last h r = absurd (h refl)
listed_ranked p (x ∷ xs) last h (more_inits _ _ a b) = braces p x xs last a b

-- what stands behind a bare declarator
pub bare_more : (d : Declarator) (xs : Pieces)
    → lay_bare d ++ xs ≡ plain (spell_stars d.stars) ++ (at d.place (plain (the_name d.name)) ++ (lay_dims d.dims ++ xs))
bare_more d xs =
    append_assoc (plain (spell_stars d.stars)) (at d.place (plain (the_name d.name)) ++ lay_dims d.dims) xs
    ∙ ap (λ z. plain (spell_stars d.stars) ++ z) (append_assoc (at d.place (plain (the_name d.name))) (lay_dims d.dims) xs)

initialised_stands : (f : Front) (d : Declarator) (i : Init) (ts : List Token) → Stand ((lay_equal f d ++ []) ++ lay_init i) ts
    → Stand (lay_front f ++ lay_declarator (record d { init = Some i })) ts
initialised_stands f d i ts st =
    subst (λ z. Stand (lay_front f ++ z) ts) (bare_more d (plain (the_mark mark.Equal) ++ lay_init i))
    (three (lay_front f) (lay_bare d) (plain (the_mark mark.Equal)) (lay_init i) ts
    (subst (λ z. Stand (z ++ lay_init i) ts) (append-nil (lay_equal f d)) st))

-- an initialiser that ends
pub plug_keeps : (lim l : ℕ) (f : Front) (d : Declarator) (s : List Brace) (i : Init) (ts : List Token)
    → Stand ((lay_equal f d ++ lay_braces s) ++ lay_init i) ts → OkBare lim l d → OkBraces lim l s → RankedInit i
    → (l + length s) + init_depth i ≤ lim + 1 → OkAfter lim l f (plug_into d s i).declarator (plug_into d s i).braces ts
plug_keeps lim l f d [] i ts st b o r w = record {
  stands = initialised_stands f d i ts st;
  ranked = (b.dims, r);
  within = omega (arith, b.within, w);
}
plug_keeps lim l f d (x ∷ s) i ts st b o r w = record {
  stands = subst (λ z. Stand (lay_equal f d ++ (lay_braces s ++ (at x.place (plain (the_mark mark.LeftBrace)) ++ z))) ts)
      (sym (with_last lay_init x.items i))
      (four (lay_equal f d) (lay_braces s) (at x.place (plain (the_mark mark.LeftBrace))) (lay_each lay_init x.items) (lay_init i) ts st);
  bare = b;
  braces = (inits_push x.items i o.0 r, omega (arith, o.1, w, deepest_more init_depth x.items i), o.2);
  some = not_none x.items i;
}

-- a comma behind an initialiser in a brace
pub comma_keeps : (lim l : ℕ) (f : Front) (d : Declarator) (b : Brace) (s : List Brace) (ts : List Token) (t : Token)
    → t.what ≡ token.Mark mark.Comma → InBrace lim l f d b s ts → OkStarts lim l f d (b ∷ s) (ts ++ t ∷ [])
comma_keeps lim l f d b s ts t e k = record {
  stands = subst (λ z. Stand (lay_equal f d ++ (lay_braces s ++ (at b.place (plain (the_mark mark.LeftBrace)) ++ z))) (ts ++ t ∷ []))
      (sym (each_with lay_init b.items k.some))
      (four (lay_equal f d) (lay_braces s) (at b.place (plain (the_mark mark.LeftBrace))) (lay_with_commas (map lay_init b.items)) comma (ts ++ t ∷ [])
      (stand-append _ comma ts (t ∷ []) k.stands (one t (token.Mark mark.Comma) e)));
  bare = k.bare;
  braces = k.braces;
}

-- the brace that closes
brace_stands : (f : Front) (d : Declarator) (p : Place) (items : List Init) (last : Bool) (s : List Brace) (inner : Pieces) (ts : List Token)
    → lay_init (init.List p items last) ≡ at p (plain (the_mark mark.LeftBrace)) ++ (inner ++ plain (the_mark mark.RightBrace))
    → Stand (lay_equal f d ++ (lay_braces s ++ (at p (plain (the_mark mark.LeftBrace)) ++ (inner ++ plain (the_mark mark.RightBrace))))) ts
    → Stand ((lay_equal f d ++ lay_braces s) ++ lay_init (init.List p items last)) ts
brace_stands f d p items last s inner ts e st =
    subst (λ z. Stand z ts) (sym (append_assoc (lay_equal f d) (lay_braces s) (lay_init (init.List p items last))))
    (subst (λ z. Stand (lay_equal f d ++ (lay_braces s ++ z)) ts) (sym e) st)

module _ (lim l : ℕ) (f : Front) (ts : List Token) (t : Token) (e : t.what ≡ token.Mark mark.RightBrace) where
  -- a closing brace behind an initialiser
  pub close_keeps : (d : Declarator) (b : Brace) (s : List Brace) → InBrace lim l f d b s ts
      → OkAfter lim l f (plug_into d s (listed b false)).declarator (plug_into d s (listed b false)).braces (ts ++ t ∷ [])
  close_keeps d b s k =
      plug_keeps lim l f d s (listed b false) (ts ++ t ∷ [])
      (brace_stands f d b.place b.items false s (lay_with_commas (map lay_init b.items)) (ts ++ t ∷ [])
      (init_List Pieces lay_init_step b.place b.items false
      ∙ ap (λ z. at b.place (plain (the_mark mark.LeftBrace)) ++ (z ++ plain (the_mark mark.RightBrace))) (append-nil (lay_with_commas (map lay_init b.items))))
      (four (lay_equal f d) (lay_braces s) (at b.place (plain (the_mark mark.LeftBrace))) (lay_with_commas (map lay_init b.items)) (plain (the_mark mark.RightBrace)) (ts ++ t ∷ [])
      (stand-append _ (plain (the_mark mark.RightBrace)) ts (t ∷ []) k.stands (one t (token.Mark mark.RightBrace) e))))
      k.bare k.braces.2 (listed_ranked b.place b.items false k.some k.braces.0)
      (omega (arith, init_List ℕ init_depth_step b.place b.items false, k.braces.1))

  -- a closing brace behind a comma
  pub last_keeps : (d : Declarator) (b : Brace) (s : List Brace) → b.items ≢ [] → OkStarts lim l f d (b ∷ s) ts
      → OkAfter lim l f (plug_into d s (listed b true)).declarator (plug_into d s (listed b true)).braces (ts ++ t ∷ [])
  last_keeps d b s h k =
      plug_keeps lim l f d s (listed b true) (ts ++ t ∷ [])
      (brace_stands f d b.place b.items true s (lay_each lay_init b.items) (ts ++ t ∷ [])
      (init_List Pieces lay_init_step b.place b.items true
      ∙ ap (λ z. at b.place (plain (the_mark mark.LeftBrace)) ++ (z ++ plain (the_mark mark.RightBrace))) (sym (each_with lay_init b.items h)))
      (four (lay_equal f d) (lay_braces s) (at b.place (plain (the_mark mark.LeftBrace))) (lay_each lay_init b.items) (plain (the_mark mark.RightBrace)) (ts ++ t ∷ [])
      (stand-append _ (plain (the_mark mark.RightBrace)) ts (t ∷ []) k.stands (one t (token.Mark mark.RightBrace) e))))
      k.bare k.braces.2 (listed_ranked b.place b.items true h k.braces.0)
      (omega (arith, init_List ℕ init_depth_step b.place b.items true, k.braces.1))
