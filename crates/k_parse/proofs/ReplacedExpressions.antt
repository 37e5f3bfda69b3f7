-- An expression is given back by the expression without its places and the places of its pieces.
use Rattle.std.proofs.Common.{ℕ, ◌≡◌, ◌≢◌, ◌+◌, List, [], ◌∷◌, ◌++◌, map, Option, Some, None, append_assoc, sym, ap, ◌∙◌, refl, option_map}
use Rattle.std.proofs.lemmas.List.{map-append}
use Rattle.std.proofs.lemmas.List.Elements.{All-head, All-tail}
use Rattle.k_tree.specs.declared.tokens.TokenKind.TheVariants as token
use Rattle.k_tree.specs.declared.tokens.mark.Mark.TheVariants as mark
use Rattle.k_parse_steps.specs.Types.{Expr}
use Rattle.k_tree.specs.declared.tree.expression.Expr.TheVariants as expr
use Rattle.k_tree.specs.Begins.{begins_expr}
use Rattle.k_tree.specs.Bare.{bare_expr, bare_dims}
use Rattle.k_tree.proofs.Folds.{expr_Assign, expr_Binary, expr_Call, expr_Cast, expr_Char, expr_Comma, expr_Cond, expr_Index, expr_Name, expr_Number, expr_Paren, expr_Post, expr_Pre, expr_SizeofExpr, expr_SizeofType, expr_Str, expr_Unary}
use Rattle.k_tree.specs.Places.{Pieces, kinds_of, lay_expr, lay_expr_step, lay_with_commas, lay_behind_commas, lay_option, lay_dims}
use Rattle.k_tree.specs.Ranked.{Ranked, RankedArgs, IfGiven, RankedDims, no_args, more_args, comma, assignment, conditional, binary, cast, unary, prefix, sizeof_expr, sizeof_type, index, postfix, call, name, number, character, string, paren}
use Rattle.k_tree.specs.Spelling.{the_mark, in_parens, spell_type, spell_expr}
use Rattle.k_tree.proofs.Begin.{not_empty, expr_begins}
use Rattle.k_tree.proofs.Laid.{expr_spelled}
use Rattle.k_parse.proofs.ReplacedFilling.{fill_list, fill_option, fill_expr, fill_dims}
use Rattle.k_parse.proofs.ReplacedPieces.{blank, Fills, blank-plain, places_of, places-append, places-first, places-plain}

mutual
  pub expr_blank : (k : ℕ) (e : Expr) → Ranked k e → lay_expr (bare_expr e) ≡ blank (lay_expr e)
  expr_blank _ _ (comma k p a b h x y) = simp (expr_Comma, map-append, expr_blank 0 a x, expr_blank 1 b y)
  expr_blank _ _ (assignment k p op a b h q x y) = simp (expr_Assign, map-append, expr_blank 14 a x, expr_blank 1 b y)
  expr_blank _ _ (conditional k p a b c h x y z) = simp (expr_Cond, map-append, expr_blank 3 a x, expr_blank 0 b y, expr_blank 2 c z)
  expr_blank _ _ (binary k p op n a b h q x y) = simp (expr_Binary, map-append, expr_blank n a x, expr_blank (n + 1) b y)
  expr_blank _ _ (cast k p specs stars a h q x) = simp (expr_Cast, map-append, blank-plain, expr_blank 13 a x)
  expr_blank _ _ (unary k p op a h q x) = simp (expr_Unary, expr_blank 13 a x)
  expr_blank _ _ (prefix k p op a h q x) = simp (expr_Pre, expr_blank 14 a x)
  expr_blank _ _ (sizeof_expr k p a h x) = simp (expr_SizeofExpr, expr_blank 14 a x)
  expr_blank _ _ (sizeof_type k p specs stars h q) = simp (expr_SizeofType, blank-plain)
  expr_blank _ _ (index k p a b h x y) = simp (expr_Index, map-append, expr_blank 15 a x, expr_blank 0 b y)
  expr_blank _ _ (postfix k p op a h q x) = simp (expr_Post, map-append, expr_blank 15 a x)
  expr_blank _ _ (call k p f args h x) = simp (expr_Call, map-append, args_blank args x)
  expr_blank _ _ (name k p t h) = simp (expr_Name)
  expr_blank _ _ (number k p kind n h) = simp (expr_Number)
  expr_blank _ _ (character k p t h) = simp (expr_Char)
  expr_blank _ _ (string k p bytes h) = simp (expr_Str)
  expr_blank _ _ (paren k p a h x) = simp (expr_Paren, map-append, expr_blank 0 a x)

  args_blank : (args : List Expr) → RankedArgs args
      → lay_with_commas (map lay_expr (map bare_expr args)) ≡ blank (lay_with_commas (map lay_expr args))
  args_blank _ no_args = refl
  args_blank _ (more_args a args x y) = simp (map-append, expr_blank 1 a x, behind_blank args y)

  behind_blank : (args : List Expr) → RankedArgs args
      → lay_behind_commas (map lay_expr (map bare_expr args)) ≡ blank (lay_behind_commas (map lay_expr args))
  behind_blank _ no_args = refl
  behind_blank _ (more_args a args x y) = simp (map-append, expr_blank 1 a x, behind_blank args y)

mutual
  pub expr_filled : (k : ℕ) (e : Expr) → Ranked k e → Fills (lay_expr e) (fill_expr (bare_expr e)).from e
  expr_filled _ _ (comma k p a b h x y) ps = simp (expr_Comma, places-append, append_assoc, expr_filled 0 a x, expr_filled 1 b y)
  expr_filled _ _ (assignment k p op a b h q x y) ps = simp (expr_Assign, places-append, append_assoc, expr_filled 14 a x, expr_filled 1 b y)
  expr_filled _ _ (conditional k p a b c h x y z) ps =
      simp (expr_Cond, places-append, append_assoc, expr_filled 3 a x, expr_filled 0 b y, expr_filled 2 c z)
  expr_filled _ _ (binary k p op n a b h q x y) ps = simp (expr_Binary, places-append, append_assoc, expr_filled n a x, expr_filled (n + 1) b y)
  expr_filled _ _ (cast k p specs stars a h q x) ps =
      let e : places_of (lay_expr (expr.Cast p specs stars a)) ≡ p ∷ places_of (lay_expr a) =
      ap places_of (expr_Cast Pieces lay_expr_step p specs stars a)
      ∙ places-first p (token.Mark mark.LeftParen) (spell_type specs stars ++ the_mark mark.RightParen) (lay_expr a) in
      rw e (simp (expr_Cast, expr_filled 13 a x))
  expr_filled _ _ (unary k p op a h q x) ps = simp (expr_Unary, expr_filled 13 a x)
  expr_filled _ _ (prefix k p op a h q x) ps = simp (expr_Pre, expr_filled 14 a x)
  expr_filled _ _ (sizeof_expr k p a h x) ps = simp (expr_SizeofExpr, expr_filled 14 a x)
  expr_filled _ _ (sizeof_type k p specs stars h q) ps =
      let e : places_of (lay_expr (expr.SizeofType p specs stars)) ≡ p ∷ [] =
      ap places_of (expr_SizeofType Pieces lay_expr_step p specs stars)
      ∙ ap (λ qs. p ∷ qs) (places-plain (in_parens (spell_type specs stars))) in
      rw e (simp (expr_SizeofType))
  expr_filled _ _ (index k p a b h x y) ps = simp (expr_Index, places-append, append_assoc, expr_filled 15 a x, expr_filled 0 b y)
  expr_filled _ _ (postfix k p op a h q x) ps = simp (expr_Post, places-append, append_assoc, expr_filled 15 a x)
  expr_filled _ _ (call k p f args h x) ps = simp (expr_Call, places-append, append_assoc, args_filled args x)
  expr_filled _ _ (name k p t h) ps = simp (expr_Name)
  expr_filled _ _ (number k p kind n h) ps = simp (expr_Number)
  expr_filled _ _ (character k p t h) ps = simp (expr_Char)
  expr_filled _ _ (string k p bytes h) ps = simp (expr_Str)
  expr_filled _ _ (paren k p a h x) ps = simp (expr_Paren, places-append, append_assoc, expr_filled 0 a x)

  args_filled : (args : List Expr) → RankedArgs args
      → Fills (lay_with_commas (map lay_expr args)) (fill_list (map fill_expr (map bare_expr args))) args
  args_filled _ no_args ps = refl
  args_filled _ (more_args a args x y) ps = simp (places-append, append_assoc, expr_filled 1 a x, args_behind_filled args y)

  args_behind_filled : (args : List Expr) → RankedArgs args
      → Fills (lay_behind_commas (map lay_expr args)) (fill_list (map fill_expr (map bare_expr args))) args
  args_behind_filled _ no_args ps = refl
  args_behind_filled _ (more_args a args x y) ps = simp (places-append, append_assoc, expr_filled 1 a x, args_behind_filled args y)

-- an expression has pieces
pub expr_laid : (k : ℕ) (e : Expr) → Ranked k e → lay_expr e ≢ []
expr_laid k e h q = not_empty begins_expr (spell_expr e) (expr_begins k e h) (sym (expr_spelled k e h) ∙ ap kinds_of q)

pub option_blank : (k : ℕ) (e : Option Expr) → IfGiven (Ranked k) e → lay_option (option_map bare_expr e) ≡ blank (lay_option e)
option_blank k None h = refl
option_blank k (Some e) h = expr_blank k e h

pub option_filled : (k : ℕ) (e : Option Expr) → IfGiven (Ranked k) e → Fills (lay_option e) (fill_option fill_expr (option_map bare_expr e)) e
option_filled k None h ps = refl
option_filled k (Some e) h ps = simp (expr_filled k e h)

pub dims_blank : (dims : List (Option Expr)) → RankedDims dims → lay_dims (bare_dims dims) ≡ blank (lay_dims dims)
dims_blank [] h = refl
dims_blank (d ∷ dims) h =
    simp (map-append, option_blank 2 d (All-head (IfGiven (Ranked 2)) d dims h), dims_blank dims (All-tail (IfGiven (Ranked 2)) d dims h))

pub dims_filled : (dims : List (Option Expr)) → RankedDims dims → Fills (lay_dims dims) (fill_dims (bare_dims dims)) dims
dims_filled [] h ps = refl
dims_filled (d ∷ dims) h ps =
    simp (
      places-append,
      append_assoc,
      option_filled 2 d (All-head (IfGiven (Ranked 2)) d dims h),
      dims_filled dims (All-tail (IfGiven (Ranked 2)) d dims h),
    )
