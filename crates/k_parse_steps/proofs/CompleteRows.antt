-- Specifiers, stars and dimensions, one behind another, in any machine that reads them.
use Rattle.std.proofs.Common.{ℕ, ◌≡◌, ◌+◌, ◌≤◌, Bool, true, false, IsTrue, All, List, [], ◌∷◌, ◌++◌, Option, Some, None, sym, ap, ◌∙◌, subst, refl, arith, append_assoc, append-nil, option_map}
use Rattle.std.proofs.lemmas.List.Elements.{All-head, All-tail}
use Rattle.k_parse_steps.specs.Types.{Token, Place, Word, Expr, Stars, Reading}
use Rattle.k_tree.specs.declared.tokens.TokenKind.TheVariants as token
use Rattle.k_tree.specs.declared.tokens.mark.Mark.TheVariants as mark
use Rattle.k_tree.specs.declared.tokens.word.Word.TheVariants as word
use Rattle.k_tree.specs.Bare.{bare_expr, bare_dims}
use Rattle.k_tree.specs.Nesting.{expr_depth, dims_depth}
use Rattle.k_tree.specs.Ranked.{Ranked, IfGiven, RankedDims, is_spec}
use Rattle.k_tree.specs.Spelling.{spell_expr, spell_specs, spell_stars, spell_dims, the_mark}
use Rattle.k_parse_steps.specs.Stars.{all_stars, star, constant}
use Rattle.k_parse_steps.specs.Expressions.{begin}
use Rattle.k_parse_steps.proofs.CompleteLeads.{token_at, Moves, Leads, leads-then, leads-more, leads-in}
use Rattle.k_parse_steps.proofs.CompleteHolds.{Feeds}
use Rattle.k_parse_steps.proofs.CompleteExpressions.{Whole, whole}

-- specifiers behind others
pub words_lead : {S : Type 0} (M : Moves S) (worded : List Word → S) (bound : ℕ) (specs ws : List Word) → 1 ≤ bound
    → ((vs : List Word) (w : Word) (p : Place) → IsTrue (is_spec w) → M (worded vs) (token_at p (token.Word w)) (worded (vs ++ w ∷ [])) 0)
    → All (λ w. IsTrue (is_spec w)) ws → Leads M bound (spell_specs ws) (worded specs) (λ r. r ≡ worded (specs ++ ws))
words_lead M worded bound specs [] positive goes h = ap worded (sym (append-nil specs))
words_lead M worded bound specs (w ∷ ws) positive goes h = λ p. record {
  next = worded (specs ++ w ∷ []);
  reach = 0;
  goes = goes specs w p (All-head (λ w. IsTrue (is_spec w)) w ws h);
  low = omega arith;
  there = subst (λ vs. Leads M bound (spell_specs ws) (worded (specs ++ w ∷ [])) (λ r. r ≡ worded vs)) (append_assoc specs (w ∷ []) ws)
      (words_lead M worded bound (specs ++ w ∷ []) ws positive goes (All-tail (λ w. IsTrue (is_spec w)) w ws h));
}

-- stars were read, up to here
pub record Starred {S : Type 0} (starred : Stars → S) (done : List Bool) (r : S) : Type 0 where
  pub stars : Stars
  pub at : r ≡ starred stars
  pub all : all_stars stars ≡ done

pub stars_lead : {S : Type 0} (M : Moves S) (starred : Stars → S) (bound : ℕ) (stars : Stars) (done more : List Bool) → 1 ≤ bound
    → ((v : Stars) (p : Place) → M (starred v) (token_at p (token.Mark mark.Star)) (starred (star v)) 0)
    → ((v : Stars) (p : Place) → M (starred (star v)) (token_at p (token.Word word.Const)) (starred (constant (star v))) 0)
    → all_stars stars ≡ done → Leads M bound (spell_stars more) (starred stars) (Starred starred (done ++ more))
stars_lead M starred bound stars done [] positive one const e = record { stars = stars; at = refl; all = e ∙ sym (append-nil done) }
stars_lead M starred bound stars done (false ∷ more) positive one const e = λ p. record {
  next = starred (star stars);
  reach = 0;
  goes = one stars p;
  low = omega arith;
  there = subst (λ vs. Leads M bound (spell_stars more) (starred (star stars)) (Starred starred vs)) (append_assoc done (false ∷ []) more)
      (stars_lead M starred bound (star stars) (done ++ false ∷ []) more positive one const (ap (λ d. d ++ false ∷ []) e));
}
stars_lead M starred bound stars done (true ∷ more) positive one const e = λ p. record {
  next = starred (star stars);
  reach = 0;
  goes = one stars p;
  low = omega arith;
  there = λ q. record {
    next = starred (constant (star stars));
    reach = 0;
    goes = const stars q;
    low = omega arith;
    there = subst (λ vs. Leads M bound (spell_stars more) (starred (constant (star stars))) (Starred starred vs)) (append_assoc done (true ∷ []) more)
        (stars_lead M starred bound (constant (star stars)) (done ++ true ∷ []) more positive one const (ap (λ d. d ++ true ∷ []) e));
  };
}

-- dimensions were read, up to here
pub record Sized {S : Type 0} (named : List (Option Expr) → S) (done dims : List (Option Expr)) (r : S) : Type 0 where
  pub made : List (Option Expr)
  pub at : r ≡ named (done ++ made)
  pub same : bare_dims made ≡ bare_dims dims

-- a machine that reads dimensions at a level
pub record Sizes {S : Type 0} (M : Moves S) (named : List (Option Expr) → S) (sizes : List (Option Expr) → Reading → S) (level : ℕ) : Type 0 where
  pub opens : (ds : List (Option Expr)) (p : Place) → M (named ds) (token_at p (token.Mark mark.LeftBracket)) (sizes ds (begin 2 level)) 0
  pub moves : (ds : List (Option Expr)) (r : Reading) (t : Token) (next : Reading) (reach : ℕ) → Feeds r t next reach → M (sizes ds r) t (sizes ds next) reach
  pub closes : (ds : List (Option Expr)) (p : Place) → M (sizes ds (begin 2 level)) (token_at p (token.Mark mark.RightBracket)) (named (ds ++ None ∷ [])) 0
  pub ends : (ds : List (Option Expr)) (e : Expr) (r : Reading) (h : Whole 2 e r) (p : Place)
      → M (sizes ds r) (token_at p (token.Mark mark.RightBracket)) (named (ds ++ Some h.made ∷ [])) 0

-- the size was read, up to its bracket
record InSize {S : Type 0} (sizes : List (Option Expr) → Reading → S) (done : List (Option Expr)) (e : Expr) (r : S) : Type 0 where
  reading : Reading
  at : r ≡ sizes done reading
  read : Whole 2 e reading

sized_more : {S : Type 0} (named : List (Option Expr) → S) (done : List (Option Expr)) (made size : Option Expr) (dims : List (Option Expr)) (r : S)
    → option_map bare_expr made ≡ option_map bare_expr size → Sized named (done ++ made ∷ []) dims r → Sized named done (size ∷ dims) r
sized_more named done made size dims r e h = record {
  made = made ∷ h.made;
  at = h.at ∙ ap named (append_assoc done (made ∷ []) h.made);
  same = ap (λ d. d ∷ bare_dims h.made) e ∙ ap (λ ds. option_map bare_expr size ∷ ds) h.same;
}

pub dims_lead : {S : Type 0} (M : Moves S) (named : List (Option Expr) → S) (sizes : List (Option Expr) → Reading → S) (level bound : ℕ) → Sizes M named sizes level
    → (done dims : List (Option Expr)) → RankedDims dims → 1 ≤ bound → level + dims_depth dims ≤ bound
    → Leads M bound (spell_dims dims) (named done) (Sized named done dims)
dims_lead M named sizes level bound m done [] h positive low = record { made = []; at = ap named (sym (append-nil done)); same = refl }
dims_lead M named sizes level bound m done (None ∷ dims) h positive low = λ p. record {
  next = sizes done (begin 2 level);
  reach = 0;
  goes = m.opens done p;
  low = omega arith;
  there = λ q. record {
    next = named (done ++ None ∷ []);
    reach = 0;
    goes = m.closes done q;
    low = omega arith;
    there = leads-more M bound bound (spell_dims dims) (named (done ++ None ∷ [])) (Sized named (done ++ None ∷ []) dims) (Sized named done (None ∷ dims)) (omega arith)
        (dims_lead M named sizes level bound m (done ++ None ∷ []) dims (All-tail (IfGiven (Ranked 2)) None dims h) positive (omega arith))
        (λ r i. sized_more named done None None dims r refl i);
  };
}
dims_lead M named sizes level bound m done (Some e ∷ dims) h positive low = λ p. record {
  next = sizes done (begin 2 level);
  reach = 0;
  goes = m.opens done p;
  low = omega arith;
  there =
      subst (λ kinds. Leads M bound kinds (sizes done (begin 2 level)) (Sized named done (Some e ∷ dims)))
      (sym (append_assoc (spell_expr e) (the_mark mark.RightBracket) (spell_dims dims)))
      (leads-then M bound bound (spell_expr e) (the_mark mark.RightBracket ++ spell_dims dims) (sizes done (begin 2 level))
      (InSize sizes done e) (Sized named done (Some e ∷ dims)) (omega arith)
      (leads-in Feeds M (sizes done) (level + expr_depth e) bound (spell_expr e) (begin 2 level) (Whole 2 e) (InSize sizes done e) (m.moves done) (omega arith)
      (whole 2 level 2 e (All-head (IfGiven (Ranked 2)) (Some e) dims h) (omega arith) (omega arith))
      (λ r i. record { reading = r; at = refl; read = i }))
      (λ r i q. record {
        next = named (done ++ Some i.read.made ∷ []);
        reach = 0;
        goes = subst (λ z. M z (token_at q (token.Mark mark.RightBracket)) (named (done ++ Some i.read.made ∷ [])) 0) (sym i.at) (m.ends done e i.reading i.read q);
        low = omega arith;
        there = leads-more M bound bound (spell_dims dims) (named (done ++ Some i.read.made ∷ [])) (Sized named (done ++ Some i.read.made ∷ []) dims) (Sized named done (Some e ∷ dims)) (omega arith)
            (dims_lead M named sizes level bound m (done ++ Some i.read.made ∷ []) dims (All-tail (IfGiven (Ranked 2)) (Some e) dims h) positive (omega arith))
            (λ r j. sized_more named done (Some i.read.made) (Some e) dims r (ap Some i.read.same) j);
      }));
}
