-- The name of a type in parentheses: a cast, and `sizeof` of a type.
use Rattle.std.proofs.Common.{ℕ, ◌≡◌, ◌+◌, ◌≤◌, Bool, true, false, cond, ◌&&◌, nat_le, IsTrue, All, List, [], ◌∷◌, ◌++◌, length, sym, ap, ◌∙◌, subst, refl, arith, append_assoc, append-nil, le-leb, Some, None}
use Rattle.std.proofs.lemmas.List.Elements.{All-head, All-tail}
use Rattle.k_parse_steps.specs.Types.{Place, Word, Expr, Stars, Term, Site, Reading}
use Rattle.k_tree.specs.declared.tokens.TokenKind.TheVariants as token
use Rattle.k_tree.specs.declared.tokens.mark.Mark.TheVariants as mark
use Rattle.k_tree.specs.declared.tokens.word.Word.TheVariants as word
use Rattle.k_tree.specs.declared.tree.expression.Expr.TheVariants as expr
use Rattle.k_tree.specs.Bare.{bare_expr_step, nowhere}
use Rattle.k_tree.proofs.Folds.{expr_Cast, expr_SizeofType}
use Rattle.k_tree.specs.Nesting.{expr_depth, expr_depth_step}
use Rattle.k_tree.specs.Ranked.{Specs, is_spec}
use Rattle.k_tree.specs.Spelling.{Spelled, spell_expr, spell_expr_step, spell_specs, spell_stars, spell_type, the_mark}
use Rattle.k_parse_steps.specs.Operators.{is_spec_word}
use Rattle.k_parse_steps.specs.Level.{plus, above}
use Rattle.k_num.specs.Top.{top}
use Rattle.k_parse_steps.specs.Stars.{no_stars, all_stars, star, constant, type_word}
use Rattle.k_parse_steps.specs.Expressions.{mark_of_type, feed, operand, hole, plug, Opens, goes, level, term, word_operand, is_before_type, is_sizeof_open, type_begun, in_type, word_of_type, close_type, close_over, type_by}
use Rattle.k_parse_steps.specs.declared.expression.Open.TheVariants as open_
use Rattle.k_parse_steps.specs.declared.expression.ExpressionStage.TheVariants as now
use Rattle.k_parse_steps.specs.declared.turn.Turn.TheVariants as turn
use Rattle.k_parse_steps.specs.declared.expression.plug.Plugged.TheVariants as plugged
use Rattle.k_parse_steps.proofs.CompleteLeads.{token_at, Leads, leads-then, leads-more}
use Rattle.k_parse_steps.proofs.CompleteHolds.{Feeds, reading, awaits, Holds, Reads}
use Rattle.k_parse_steps.proofs.CompleteSteps.{above-one, paren_opens, sizeof_opens}
use Rattle.k_parse_steps.proofs.CompleteOperators.{reads_by, holds_value, holds_over}
use Rattle.k_parse_steps.proofs.CompleteEnclosed.{opened_low}
use Rattle.k_parse_steps.specs.Tokens.{is_word}

abbrev in_name : Site → Opens → List Word → Stars → Reading
in_name g s specs stars = reading g s (now.Type specs stars)

-- one more specifier
word_goes : (g : Site) (s : Opens) (specs : List Word) (w : Word) (p : Place) → IsTrue (is_spec w)
    → feed (in_name g s specs no_stars) (token_at p (token.Word w)) ≡ goes g s (now.Type (specs ++ w ∷ []) no_stars) 0
unfolding feed in_type word_of_type type_word is_spec_word mark_of_type
word_goes g s specs w p h = ap (λ b. type_by g s (cond b (Some (specs ++ w ∷ [], no_stars)) None)) h

words_lead : (bound : ℕ) (g : Site) (s : Opens) (specs ws : List Word) → 1 ≤ bound → All (λ w. IsTrue (is_spec w)) ws
    → Leads Feeds bound (spell_specs ws) (in_name g s specs no_stars) (λ r. r ≡ in_name g s (specs ++ ws) no_stars)
words_lead bound g s specs [] positive h = ap (λ ws. in_name g s ws no_stars) (sym (append-nil specs))
words_lead bound g s specs (w ∷ ws) positive h = λ p. record {
  next = in_name g s (specs ++ w ∷ []) no_stars;
  reach = 0;
  goes = word_goes g s specs w p (All-head (λ w. IsTrue (is_spec w)) w ws h);
  low = omega arith;
  there = subst (λ vs. Leads Feeds bound (spell_specs ws) (in_name g s (specs ++ w ∷ []) no_stars) (λ r. r ≡ in_name g s vs no_stars)) (append_assoc specs (w ∷ []) ws)
      (words_lead bound g s (specs ++ w ∷ []) ws positive (All-tail (λ w. IsTrue (is_spec w)) w ws h));
}

-- one more star
star_goes : (g : Site) (s : Opens) (specs : List Word) (stars : Stars) (p : Place)
    → feed (in_name g s specs stars) (token_at p (token.Mark mark.Star)) ≡ goes g s (now.Type specs (star stars)) 0
unfolding feed in_type mark_of_type
star_goes g s specs stars p = refl

const_goes : (g : Site) (s : Opens) (specs : List Word) (stars : Stars) (p : Place)
    → feed (in_name g s specs (star stars)) (token_at p (token.Word word.Const)) ≡ goes g s (now.Type specs (constant (star stars))) 0
unfolding feed in_type word_of_type type_word mark_of_type is_word
const_goes g s specs stars p = refl

-- the name of a type is read up to here
pub record Named (g : Site) (s : Opens) (specs : List Word) (done : List Bool) (r : Reading) : Type 0 where
  pub stars : Stars
  pub at : r ≡ in_name g s specs stars
  pub all : all_stars stars ≡ done

stars_lead : (bound : ℕ) (g : Site) (s : Opens) (specs : List Word) (stars : Stars) (done more : List Bool) → 1 ≤ bound → all_stars stars ≡ done
    → Leads Feeds bound (spell_stars more) (in_name g s specs stars) (Named g s specs (done ++ more))
stars_lead bound g s specs stars done [] positive e = record { stars = stars; at = refl; all = e ∙ sym (append-nil done) }
stars_lead bound g s specs stars done (false ∷ more) positive e = λ p. record {
  next = in_name g s specs (star stars);
  reach = 0;
  goes = star_goes g s specs stars p;
  low = omega arith;
  there = subst (λ vs. Leads Feeds bound (spell_stars more) (in_name g s specs (star stars)) (Named g s specs vs)) (append_assoc done (false ∷ []) more)
      (stars_lead bound g s specs (star stars) (done ++ false ∷ []) more positive (ap (λ d. d ++ false ∷ []) e));
}
stars_lead bound g s specs stars done (true ∷ more) positive e = λ p. record {
  next = in_name g s specs (star stars);
  reach = 0;
  goes = star_goes g s specs stars p;
  low = omega arith;
  there = λ q. record {
    next = in_name g s specs (constant (star stars));
    reach = 0;
    goes = const_goes g s specs stars q;
    low = omega arith;
    there = subst (λ vs. Leads Feeds bound (spell_stars more) (in_name g s specs (constant (star stars))) (Named g s specs vs)) (append_assoc done (true ∷ []) more)
        (stars_lead bound g s specs (constant (star stars)) (done ++ true ∷ []) more positive (ap (λ d. d ++ true ∷ []) e));
  };
}

pub spec_is_no_sizeof : (w : Word) → IsTrue (is_spec w) → is_word w word.Sizeof ≡ false
unfolding is_word
spec_is_no_sizeof word.Sizeof h = cc
spec_is_no_sizeof w h = refl

first_goes : (g : Site) (s : Opens) (w : Word) (p : Place) → IsTrue (is_spec w) → is_before_type g s ≡ true
    → feed (awaits g s) (token_at p (token.Word w)) ≡ goes g s (now.Type (w ∷ []) no_stars) 0
unfolding feed operand word_operand is_spec_word
first_goes g s w p h before =
    ap (λ b. cond b (goes g (open_.Sizeof p ∷ s) now.Operand (level g s)) (cond (is_spec w && is_before_type g s) (type_begun g s w) turn.Refused)) (spec_is_no_sizeof w h)
    ∙ (ap (λ b. cond (b && is_before_type g s) (type_begun g s w) turn.Refused) h
    ∙ ap (λ b. cond b (type_begun g s w) turn.Refused) before)

type_leads : (bound : ℕ) (g : Site) (s : Opens) (specs : List Word) (stars : List Bool) → 1 ≤ bound → Specs specs → is_before_type g s ≡ true
    → Leads Feeds bound (spell_type specs stars) (awaits g s) (Named g s specs stars)
type_leads bound g s [] stars positive h before = absurd (h.0 refl)
type_leads bound g s (w ∷ ws) stars positive h before = λ p. record {
  next = in_name g s (w ∷ []) no_stars;
  reach = 0;
  goes = first_goes g s w p (All-head (λ w. IsTrue (is_spec w)) w ws h.1) before;
  low = omega arith;
  there = leads-then Feeds bound bound (spell_specs ws) (spell_stars stars) (in_name g s (w ∷ []) no_stars) (λ r. r ≡ in_name g s (w ∷ ws) no_stars) (Named g s (w ∷ ws) stars) (omega arith)
      (words_lead bound g s (w ∷ []) ws positive (All-tail (λ w. IsTrue (is_spec w)) w ws h.1))
      (λ r e. subst (λ z. Leads Feeds bound (spell_stars stars) z (Named g s (w ∷ ws) stars)) (sym e)
      (stars_lead bound g s (w ∷ ws) no_stars [] stars positive refl));
}

-- the closing parenthesis
closing : (g : Site) (s : Opens) (o : Place) (specs : List Word) (stars : List Bool) (r : Reading) (p : Place) → Named g (open_.Paren o ∷ s) specs stars r
    → feed r (token_at p (token.Mark mark.RightParen)) ≡ close_over g s o specs stars
unfolding feed in_type close_type mark_of_type
closing g s o specs stars r p h = ap (λ z. feed z (token_at p (token.Mark mark.RightParen))) h.at ∙ ap (close_over g s o specs) h.all

-- a cast stands behind no `sizeof`, since that takes a higher rank
no_sizeof : (g : Site) (s : Opens) → hole g s ≤ 13 → is_sizeof_open (top s) ≡ false
unfolding hole
no_sizeof g [] h = refl
no_sizeof g (open_.Sizeof p ∷ s) h = absurd (omega arith)
no_sizeof g (o ∷ s) h = refl

close_cast : (g : Site) (s : Opens) (p : Place) (specs : List Word) (stars : List Bool) → is_sizeof_open (top s) ≡ false
    → close_over g s p specs stars ≡ goes g (open_.Cast p specs stars ∷ s) now.Operand 0
unfolding close_over
close_cast g [] p specs stars h = refl
close_cast g (open_.Sizeof q ∷ s) p specs stars h = absurd cc
close_cast g (o ∷ s) p specs stars h = refl

before_cast : (g : Site) (s : Opens) (p : Place) → hole g s ≤ 13 → is_before_type g (open_.Paren p ∷ s) ≡ true
unfolding is_before_type
before_cast g s p h =
    ap (λ b. cond b true (nat_le (hole g s) 13)) (no_sizeof g s h) ∙ le-leb (hole g s) 13 h

cast_hole : (g : Site) (s : Opens) (p : Place) (specs : List Word) (stars : List Bool) → hole g (open_.Cast p specs stars ∷ s) ≡ 13
unfolding hole
cast_hole g s p specs stars = refl

cast_plugs : (p : Place) (specs : List Word) (stars : List Bool) (v : Term)
    → plug (open_.Cast p specs stars) v ≡ plugged.Whole (term (expr.Cast p specs stars v.tree) 13 (above v.height 0))
unfolding plug
cast_plugs p specs stars v = refl

pub reads_cast : (k : ℕ) (p : Place) (specs : List Word) (stars : List Bool) (a : Expr) → k ≤ 13 → Specs specs → 1 ≤ expr_depth a
    → Reads 13 a → Reads k (expr.Cast p specs stars a)
reads_cast k p specs stars a le h positive f =
    reads_by k (expr.Cast p specs stars a) _ (1 + expr_depth a) (expr_Cast Spelled spell_expr_step p specs stars a) (expr_Cast ℕ expr_depth_step p specs stars a)
    (λ least g s low q at. record {
      next = awaits g (open_.Paren at ∷ s);
      reach = cond (is_sizeof_open (top s)) 0 (plus (level g s) 1);
      goes = paren_opens g s at;
      low = opened_low g s (is_sizeof_open (top s)) (expr_depth a) positive;
      there =
          let m : ℕ = g.level + length s + (1 + expr_depth a) in
          let o : Opens = open_.Cast at specs stars ∷ s in
          leads-then Feeds m m (spell_type specs stars ++ the_mark mark.RightParen) (spell_expr a) (awaits g (open_.Paren at ∷ s)) (λ r. r ≡ awaits g o)
          (Holds least g s k (expr.Cast p specs stars a)) (omega arith)
          (leads-then Feeds m m (spell_type specs stars) (the_mark mark.RightParen) (awaits g (open_.Paren at ∷ s)) (Named g (open_.Paren at ∷ s) specs stars) (λ r. r ≡ awaits g o) (omega arith)
          (type_leads m g (open_.Paren at ∷ s) specs stars (omega arith) h (before_cast g s at (omega arith)))
          (λ r n to. record {
            next = awaits g o;
            reach = 0;
            goes = closing g s at specs stars r to n ∙ close_cast g s at specs stars (no_sizeof g s (omega arith));
            low = omega arith;
            there = refl;
          }))
          (λ r e. subst (λ z. Leads Feeds m (spell_expr a) z (Holds least g s k (expr.Cast p specs stars a))) (sym e)
          (let under : least ≤ 13 = q.3 (omega arith) in
          let stands : hole g o ≡ 13 = cast_hole g s at specs stars in
          leads-more Feeds (g.level + length o + expr_depth a) m (spell_expr a) (awaits g o) (Holds least g o 13 a) (Holds least g s k (expr.Cast p specs stars a)) (omega arith)
          (f least g o (omega arith) ((λ i. omega arith), (λ i. omega arith), (λ i. omega arith), (λ i. under)))
          (λ z i. holds_over least g (open_.Cast at specs stars) s 13 k a (expr.Cast p specs stars a) z i (term (expr.Cast at specs stars i.a.tree) 13 (above i.a.height 0))
          (cast_plugs at specs stars i.a) (omega arith) le
          (above-one i.a.height (expr_depth a) i.high ∙ sym (expr_Cast ℕ expr_depth_step p specs stars a))
          (expr_Cast Expr bare_expr_step at specs stars i.a.tree
          ∙ (ap (λ t. expr.Cast nowhere specs stars t) i.same ∙ sym (expr_Cast Expr bare_expr_step p specs stars a))))));
    })

-- `sizeof` of a type
before_size : (g : Site) (s : Opens) (p q : Place) → is_before_type g (open_.Paren p ∷ (open_.Sizeof q ∷ s)) ≡ true
unfolding is_before_type
before_size g s p q = refl

close_size : (g : Site) (s : Opens) (p q : Place) (specs : List Word) (stars : List Bool)
    → close_over g (open_.Sizeof q ∷ s) p specs stars ≡ goes g s (now.Value (term (expr.SizeofType q specs stars) 14 1)) 0
unfolding close_over
close_size g s p q specs stars = refl

pub reads_size : (k : ℕ) (p : Place) (specs : List Word) (stars : List Bool) → k ≤ 14 → Specs specs → Reads k (expr.SizeofType p specs stars)
reads_size k p specs stars le h =
    reads_by k (expr.SizeofType p specs stars) _ 1 (expr_SizeofType Spelled spell_expr_step p specs stars) (expr_SizeofType ℕ expr_depth_step p specs stars)
    (λ least g s low q at. record {
      next = awaits g (open_.Sizeof at ∷ s);
      reach = level g s;
      goes = sizeof_opens g s at;
      low = omega arith;
      there = λ from. record {
        next = awaits g (open_.Paren from ∷ (open_.Sizeof at ∷ s));
        reach = 0;
        goes = paren_opens g (open_.Sizeof at ∷ s) from;
        low = omega arith;
        there =
            let m : ℕ = g.level + length s + 1 in
            leads-then Feeds m m (spell_type specs stars) (the_mark mark.RightParen) (awaits g (open_.Paren from ∷ (open_.Sizeof at ∷ s)))
            (Named g (open_.Paren from ∷ (open_.Sizeof at ∷ s)) specs stars) (Holds least g s k (expr.SizeofType p specs stars)) (omega arith)
            (type_leads m g (open_.Paren from ∷ (open_.Sizeof at ∷ s)) specs stars (omega arith) h (before_size g s from at))
            (λ r n to. record {
              next = reading g s (now.Value (term (expr.SizeofType at specs stars) 14 1));
              reach = 0;
              goes = closing g (open_.Sizeof at ∷ s) from specs stars r to n ∙ close_size g s from at specs stars;
              low = omega arith;
              there = holds_value least g s k (expr.SizeofType p specs stars) (term (expr.SizeofType at specs stars) 14 1) le
                  (sym (expr_SizeofType ℕ expr_depth_step p specs stars))
                  (expr_SizeofType Expr bare_expr_step at specs stars ∙ sym (expr_SizeofType Expr bare_expr_step p specs stars));
            });
      };
    })
