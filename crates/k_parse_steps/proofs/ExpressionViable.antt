-- Viable: an expression that has been read so far can be gone on with, to its end and within the limit.
use Rattle.std.proofs.Common.{ℕ, suc, ◌≡◌, ◌≤◌, ◌+◌, true, false, List, [], ◌∷◌, ◌++◌, map, length, None, ◌∙◌, ap, refl, arith}
use Rattle.std.specs.Prelude.{max}
use Rattle.std.proofs.lemmas.Bool.{cond-false, false≢true}
use Rattle.k_parse_steps.specs.Types.{Place, Token, Mark, Word, Expr, Stars, Term, Open, ExpressionStage, Site, Reading}
use Rattle.k_tree.specs.Bare.{nowhere}
use Rattle.k_tree.specs.Nesting.{deepest, expr_depth}
use Rattle.k_tree.specs.Ranked.{RankedArgs, more_args}
use Rattle.k_tree.specs.declared.tokens.TokenKind.TheVariants as token
use Rattle.k_tree.specs.declared.tokens.mark.Mark.TheVariants as mark
use Rattle.k_tree.specs.declared.tokens.word.Word.TheVariants as word
use Rattle.k_tree.specs.declared.tree.expression.Expr.TheVariants as expr
use Rattle.k_parse_steps.specs.Level.{plus, above}
use Rattle.k_parse_steps.specs.Operators.{binding, takes_by, takes, is_spec_word}
use Rattle.k_parse_steps.specs.Stars.{no_stars, all_stars}
use Rattle.k_parse_steps.specs.Expressions.{Opens, goes, level, hole, term, opened, no_arguments, mark_operand, is_before_type, word_operand, operand, close_over, close_type, mark_of_type, in_type, infix_made, conditional, prefixed, enclosed, indexed, plug, argued, then_ends, paren_ends, index_ends, enclose, closed_by, value, named, feed}
use Rattle.k_parse_steps.specs.declared.expression.Open.TheVariants as open_
use Rattle.k_parse_steps.specs.declared.expression.ExpressionStage.TheVariants as now
use Rattle.k_parse_steps.specs.declared.turn.Turn.TheVariants as turn
use Rattle.k_parse_steps.proofs.ExpressionState.{Fits, OkOpen, ok_infix, ok_then, ok_other, ok_index, ok_call, lev, Valid, ValidNow}
use Rattle.k_parse_steps.proofs.ExpressionReach.{Reached}
use Rattle.k_parse_steps.proofs.ExpressionDepth.{some_depth}
use Rattle.k_parse_steps.specs.Tokens.{is_mark, is_word, token_is_mark}

-- a mark, whatever its place
abbrev pub mark_token : Mark → Token
mark_token m = record { what = token.Mark m; place = nowhere }

-- a mark that goes on with no operand
abbrev pub Ends_operand : Mark → Type 0
Ends_operand m = (binding m ≡ None) × (token_is_mark (token.Mark m) mark.LeftParen ≡ false)

abbrev reading : Site → Opens → ExpressionStage → Reading
reading g s n = record { site = g; opens = s; stage = n }

-- tokens, each within the limit, that lead from a reading to the end of the expression, before a last token
pub data Completes (lim : ℕ) (end : Token) : Reading → List Token → Expr → Type 0 where
  completes : (r : Reading) (e : Expr) → feed r end ≡ turn.Done e → Completes lim end r [] e
  completes_by : (r next : Reading) (t : Token) (ts : List Token) (e : Expr) (reach : ℕ) → feed r t ≡ turn.Goes next reach
      → reach ≤ lim → Completes lim end next ts e → Completes lim end r (t ∷ ts) e

not_taken : (k n : ℕ) (m : Mark) → binding m ≡ None → takes k n m ≡ false
unfolding takes
not_taken k n m e = ap (takes_by k n) e

-- such a mark passes a construct on to those around it
passes : (g : Site) (s : Opens) (o : Open) (a : Term) (m : Mark) → binding m ≡ None
    → value g (o ∷ s) a (mark_token m) ≡ closed_by g s (plug o a) (token.Mark m) (λ b. value g s b (mark_token m))
unfolding value
passes g s o a m e =
    cond-false (takes (hole g (o ∷ s)) a.rank m) _ _ (not_taken (hole g (o ∷ s)) a.rank m e)

colon_ends : Ends_operand mark.Colon
unfolding binding is_mark
colon_ends = (refl, refl)

right_paren_ends : Ends_operand mark.RightParen
unfolding binding is_mark
right_paren_ends = (refl, refl)

right_bracket_ends : Ends_operand mark.RightBracket
unfolding binding is_mark
right_bracket_ends = (refl, refl)

module _ (lim : ℕ) (end : Mark) (ends : Ends_operand end) (g : Site) where
  -- the last token, or a mark of a construct that is open, ends an operand
  data Ending : Opens → Term → List Token → Expr → Type 0 where
    at_end : (s : Opens) (a : Term) (e : Expr) → value g s a (mark_token end) ≡ turn.Done e → Ending s a [] e
    at_mark : (s : Opens) (a : Term) (m : Mark) (next : Reading) (us : List Token) (e : Expr) → Ends_operand m
        → value g s a (mark_token m) ≡ turn.Goes next 0 → Completes lim (mark_token end) next us e → Ending s a (mark_token m ∷ us) e

  abbrev Ended : Opens → Term → Type 0
  Ended s a = (us : List Token) × (e : Expr) × Ending s a us e

  abbrev Completed : Opens → ExpressionStage → Type 0
  Completed s n = (us : List Token) × (e : Expr) × Completes lim (mark_token end) (reading g s n) us e

  value_completes : (s : Opens) (a : Term) (us : List Token) (e : Expr) → Ending s a us e
      → Completes lim (mark_token end) (reading g s (now.Value a)) us e
  unfolding feed
  value_completes _ _ _ _ (at_end s a e q) = completes (reading g s (now.Value a)) e q
  value_completes _ _ _ _ (at_mark s a m next us e h q rest) =
      completes_by (reading g s (now.Value a)) next (mark_token m) us e 0 q (omega arith) rest

  -- a name that no call follows
  alone : (s : Opens) (p : Place) (x : List ℕ) (m : Mark) → Ends_operand m
      → named g s p x (mark_token m) ≡ value g s (term (expr.Name p x) 16 1) (mark_token m)
  unfolding named
  alone s p x m h = cond-false (token_is_mark (token.Mark m) mark.LeftParen) _ _ h.1

  named_completes : (s : Opens) (p : Place) (x : List ℕ) (us : List Token) (e : Expr) → Ending s (term (expr.Name p x) 16 1) us e
      → Completes lim (mark_token end) (reading g s (now.Named p x)) us e
  unfolding feed
  named_completes s p x _ _ (at_end _ _ e q) = completes (reading g s (now.Named p x)) e (alone s p x end ends ∙ q)
  named_completes s p x _ _ (at_mark _ _ m next us e h q rest) =
      completes_by (reading g s (now.Named p x)) next (mark_token m) us e 0 (alone s p x m h ∙ q) (omega arith) rest

  -- a construct that ends with its operand
  past : (s : Opens) (o : Open) (a w : Term) (us : List Token) (e : Expr)
      → ((m : Mark) → binding m ≡ None → value g (o ∷ s) a (mark_token m) ≡ value g s w (mark_token m))
      → Ending s w us e → Ending (o ∷ s) a us e
  past _ o a _ _ _ h (at_end s w e q) = at_end (o ∷ s) a e (h end ends.0 ∙ q)
  past _ o a _ _ _ h (at_mark s w m next us e k q rest) = at_mark (o ∷ s) a m next us e k (h m k.0 ∙ q) rest

  -- a construct that a mark of its own ends
  marked : (s : Opens) (o : Open) (a w : Term) (m : Mark) → Ends_operand m
      → value g (o ∷ s) a (mark_token m) ≡ turn.Goes (reading g s (now.Value w)) 0 → Ended s w → Ended (o ∷ s) a
  marked s o a w m h q x = (
    mark_token m ∷ x.0,
    x.1,
    at_mark (o ∷ s) a m (reading g s (now.Value w)) x.0 x.1 h q (value_completes s w x.0 x.1 x.2),
  )

  -- a name where an operand is awaited
  a_name : Token
  a_name = record { what = token.Name (97 ∷ []); place = nowhere }

  abbrev name_term : Term
  name_term = term (expr.Name nowhere (97 ∷ [])) 16 1

  name_completes : (s : Opens) → level g s ≤ lim → Ended s name_term → Completed s now.Operand
  unfolding feed operand a_name
  name_completes s le x = (
    a_name ∷ x.0,
    x.1,
    completes_by (reading g s now.Operand) (reading g s (now.Named nowhere (97 ∷ []))) a_name x.0 x.1 (level g s) refl le
        (named_completes s nowhere (97 ∷ []) x.0 x.1 x.2),
  )

  -- a level that is made sure is within the limit
  below : (s : Opens) (o : Open) → lev g s + 1 ≤ lim → level g (o ∷ s) ≤ lim
  below s o le = within g.level (length s) lim le
    where
      within : (n l lim : ℕ) → n + l + 1 ≤ lim → plus n (suc l) ≤ lim
      within n l lim le = omega arith

  part_level : (s : Opens) (a : Term) → Fits lim (lev g s + 1) a → lev g s + 1 ≤ lim
  part_level s a f = omega (arith, f.within, some_depth a.rank a.tree f.ranked)

  choice_level : (s : Opens) (p : Place) (a : Term) → OkOpen lim (lev g s) (hole g s) (open_.Then p a) → lev g s + 1 ≤ lim
  choice_level s p _ (ok_then _ a k le f) = part_level s a f

  -- `: name` behind `test ? chosen`
  choice_ending : (s : Opens) (p : Place) (a b : Term) → lev g s + 1 ≤ lim → Ended s (conditional p a b name_term)
      → Ended (open_.Then p a ∷ s) b
  unfolding plug enclose then_ends
  choice_ending s p a b le x =
      let o : Open = open_.Other p a b in
      let rest : Completed (o ∷ s) now.Operand =
      name_completes (o ∷ s) (below s o le)
      (x.0, x.1, past s o name_term (conditional p a b name_term) x.0 x.1 (λ m e. passes g s o name_term m e) x.2) in (
        mark_token mark.Colon ∷ rest.0,
        rest.1,
        at_mark (open_.Then p a ∷ s) b mark.Colon (reading g (o ∷ s) now.Operand) rest.0 rest.1 colon_ends
            (passes g s (open_.Then p a) b mark.Colon colon_ends.0) rest.2,
      )

  value_ending : (s : Opens) (a : Term) → Valid lim g s → Ended s a
  unfolding plug enclose argued value paren_ends index_ends
  value_ending [] a v =
      ([], a.tree, at_end [] a a.tree (cond-false (takes (hole g []) a.rank end) _ _ (not_taken (hole g []) a.rank end ends.0)))
  value_ending (open_.Infix p op b ∷ s) a v =
      let x : Ended s (infix_made p op b a) = value_ending s (infix_made p op b a) v.1 in
      (x.0, x.1, past s (open_.Infix p op b) a _ x.0 x.1 (λ m e. passes g s (open_.Infix p op b) a m e) x.2)
  value_ending (open_.Then p b ∷ s) a v =
      choice_ending s p b a (choice_level s p b v.0) (value_ending s (conditional p b a name_term) v.1)
  value_ending (open_.Other p b c ∷ s) a v =
      let x : Ended s (conditional p b c a) = value_ending s (conditional p b c a) v.1 in
      (x.0, x.1, past s (open_.Other p b c) a _ x.0 x.1 (λ m e. passes g s (open_.Other p b c) a m e) x.2)
  value_ending (open_.Cast p specs stars ∷ s) a v =
      let w : Term = term (expr.Cast p specs stars a.tree) 13 (above a.height 0) in
      let x : Ended s w = value_ending s w v.1 in
      (x.0, x.1, past s (open_.Cast p specs stars) a w x.0 x.1 (λ m e. passes g s (open_.Cast p specs stars) a m e) x.2)
  value_ending (open_.Prefix p op ∷ s) a v =
      let x : Ended s (prefixed p op a) = value_ending s (prefixed p op a) v.1 in
      (x.0, x.1, past s (open_.Prefix p op) a _ x.0 x.1 (λ m e. passes g s (open_.Prefix p op) a m e) x.2)
  value_ending (open_.Sizeof p ∷ s) a v =
      let w : Term = term (expr.SizeofExpr p a.tree) 14 (above a.height 0) in
      let x : Ended s w = value_ending s w v.1 in
      (x.0, x.1, past s (open_.Sizeof p) a w x.0 x.1 (λ m e. passes g s (open_.Sizeof p) a m e) x.2)
  value_ending (open_.Paren p ∷ s) a v =
      marked s (open_.Paren p) a (enclosed p a) mark.RightParen right_paren_ends
      (passes g s (open_.Paren p) a mark.RightParen right_paren_ends.0) (value_ending s (enclosed p a) v.1)
  value_ending (open_.Index p b ∷ s) a v =
      marked s (open_.Index p b) a (indexed p b a) mark.RightBracket right_bracket_ends
      (passes g s (open_.Index p b) a mark.RightBracket right_bracket_ends.0) (value_ending s (indexed p b a) v.1)
  value_ending (open_.Call p x args height ∷ s) a v =
      let w : Term = term (expr.Call p x (args ++ a.tree ∷ [])) 15 (plus (max height a.height) 1) in
      marked s (open_.Call p x args height) a w mark.RightParen right_paren_ends
      (passes g s (open_.Call p x args height) a mark.RightParen right_paren_ends.0) (value_ending s w v.1)

  -- the levels that the parts of an open construct make sure

  infix_level : (s : Opens) (p : Place) (op : Mark) (a : Term) → OkOpen lim (lev g s) (hole g s) (open_.Infix p op a) → lev g s + 1 ≤ lim
  infix_level s p op _ (ok_infix _ _ a left own right i r o k le f) = part_level s a f

  other_level : (s : Opens) (p : Place) (a b : Term) → OkOpen lim (lev g s) (hole g s) (open_.Other p a b) → lev g s + 1 ≤ lim
  other_level s p _ _ (ok_other _ a b k le f h) = part_level s a f

  index_level : (s : Opens) (p : Place) (a : Term) → OkOpen lim (lev g s) (hole g s) (open_.Index p a) → lev g s + 1 ≤ lim
  index_level s p _ (ok_index _ a k le f) = part_level s a f

  first_level : (a : Expr) (args : List Expr) → RankedArgs (a ∷ args) → 1 ≤ deepest (map expr_depth (a ∷ args))
  first_level _ _ (more_args a args r rs) = omega (arith, some_depth 1 a r)

  call_level : (s : Opens) (p : Place) (x : List ℕ) (a : Expr) (args : List Expr) (height : ℕ)
      → OkOpen lim (lev g s) (hole g s) (open_.Call p x (a ∷ args) height) → lev g s + 1 ≤ lim
  call_level s p x a args height (ok_call _ _ _ _ k r e l d) = omega (arith, first_level a args r, e, d)

  -- an operand one level down
  deep_completes : (s : Opens) (o : Open) → Valid lim g (o ∷ s) → lev g s + 1 ≤ lim → Completed (o ∷ s) now.Operand
  deep_completes s o v le = name_completes (o ∷ s) (below s o le) (value_ending (o ∷ s) name_term v)

  -- `)` behind the type of a `sizeof`
  size_completes : (s : Opens) (q p : Place) (specs : List Word) (stars : Stars) → Valid lim g s
      → Completed (open_.Paren p ∷ (open_.Sizeof q ∷ s)) (now.Type specs stars)
  unfolding feed in_type mark_of_type close_type close_over
  size_completes s q p specs stars v =
      let w : Term = term (expr.SizeofType q specs (all_stars stars)) 14 1 in
      let x : Ended s w = value_ending s w v in (
        mark_token mark.RightParen ∷ x.0,
        x.1,
        completes_by (reading g (open_.Paren p ∷ (open_.Sizeof q ∷ s)) (now.Type specs stars)) (reading g s (now.Value w))
            (mark_token mark.RightParen) x.0 x.1 0 refl (omega arith) (value_completes s w x.0 x.1 x.2),
      )

  -- `) name` behind the type of a cast
  cast_completes : (s : Opens) (p : Place) (specs : List Word) (stars : Stars) → Valid lim g s → lev g s + 1 ≤ lim
      → close_over g s p specs (all_stars stars) ≡ goes g (open_.Cast p specs (all_stars stars) ∷ s) now.Operand 0
      → Completed (open_.Paren p ∷ s) (now.Type specs stars)
  unfolding feed in_type mark_of_type close_type plug
  cast_completes s p specs stars v le q =
      let o : Open = open_.Cast p specs (all_stars stars) in
      let w : Term = term (expr.Cast p specs (all_stars stars) (expr.Name nowhere (97 ∷ []))) 13 (above 1 0) in
      let x : Ended s w = value_ending s w v in
      let rest : Completed (o ∷ s) now.Operand =
      name_completes (o ∷ s) (below s o le) (x.0, x.1, past s o name_term w x.0 x.1 (λ m e. passes g s o name_term m e) x.2) in (
        mark_token mark.RightParen ∷ rest.0,
        rest.1,
        completes_by (reading g (open_.Paren p ∷ s) (now.Type specs stars)) (reading g (o ∷ s) now.Operand)
            (mark_token mark.RightParen) rest.0 rest.1 0 q (omega arith) rest.2,
      )

  type_completes : (s : Opens) (specs : List Word) (stars : Stars) → Valid lim g s → Reached lim g s → is_before_type g s ≡ true
      → Completed s (now.Type specs stars)
  unfolding is_before_type close_over
  type_completes [] specs stars v h b = absurd (false≢true b)
  type_completes (open_.Paren p ∷ []) specs stars v h b = cast_completes [] p specs stars v.1 h.0 refl
  type_completes (open_.Paren p ∷ (open_.Sizeof q ∷ s)) specs stars v h b = size_completes s q p specs stars v.1.1
  type_completes (open_.Paren p ∷ (o ∷ s)) specs stars v h b = cast_completes (o ∷ s) p specs stars v.1 h.0 refl
  type_completes (_ ∷ s) specs stars v h b = absurd (false≢true b)

  -- `int )` behind `sizeof (`
  int : Token
  int = record { what = token.Word word.Int; place = nowhere }

  int_completes : (s : Opens) (q p : Place) → Valid lim g s → Completed (open_.Paren p ∷ (open_.Sizeof q ∷ s)) now.Operand
  unfolding feed operand word_operand is_spec_word is_before_type int is_word
  int_completes s q p v =
      let r : Reading = reading g (open_.Paren p ∷ (open_.Sizeof q ∷ s)) (now.Type (word.Int ∷ []) no_stars) in
      let x : Completed (open_.Paren p ∷ (open_.Sizeof q ∷ s)) (now.Type (word.Int ∷ []) no_stars) =
      size_completes s q p (word.Int ∷ []) no_stars v in (
        int ∷ x.0,
        x.1,
        completes_by (reading g (open_.Paren p ∷ (open_.Sizeof q ∷ s)) now.Operand) r int x.0 x.1 0 refl (omega arith) x.2,
      )

  -- `( int )` behind `sizeof`
  sizeof_completes : (s : Opens) (q : Place) → Valid lim g s → Completed (open_.Sizeof q ∷ s) now.Operand
  unfolding feed operand mark_operand opened is_mark
  sizeof_completes s q v =
      let x : Completed (open_.Paren nowhere ∷ (open_.Sizeof q ∷ s)) now.Operand = int_completes s q nowhere v in (
        mark_token mark.LeftParen ∷ x.0,
        x.1,
        completes_by (reading g (open_.Sizeof q ∷ s) now.Operand) (reading g (open_.Paren nowhere ∷ (open_.Sizeof q ∷ s)) now.Operand)
            (mark_token mark.LeftParen) x.0 x.1 0 refl (omega arith) x.2,
      )

  -- `)` behind `name (`
  empty_completes : (s : Opens) (p : Place) (x : List ℕ) (height : ℕ) → Valid lim g s → Completed (open_.Call p x [] height ∷ s) now.Operand
  unfolding feed operand mark_operand no_arguments is_mark
  empty_completes s p x height v =
      let w : Term = term (expr.Call p x []) 15 1 in
      let y : Ended s w = value_ending s w v in (
        mark_token mark.RightParen ∷ y.0,
        y.1,
        completes_by (reading g (open_.Call p x [] height ∷ s) now.Operand) (reading g s (now.Value w)) (mark_token mark.RightParen) y.0 y.1 0
            refl (omega arith) (value_completes s w y.0 y.1 y.2),
      )

  operand_completes : (s : Opens) → Valid lim g s → Reached lim g s → Completed s now.Operand
  operand_completes [] v h = name_completes [] (omega (arith, h)) (value_ending [] name_term v)
  operand_completes (open_.Infix p op a ∷ s) v h = deep_completes s (open_.Infix p op a) v (infix_level s p op a v.0)
  operand_completes (open_.Then p a ∷ s) v h = deep_completes s (open_.Then p a) v (choice_level s p a v.0)
  operand_completes (open_.Other p a b ∷ s) v h = deep_completes s (open_.Other p a b) v (other_level s p a b v.0)
  operand_completes (open_.Cast p specs stars ∷ s) v h = deep_completes s (open_.Cast p specs stars) v h.0
  operand_completes (open_.Prefix p op ∷ s) v h = deep_completes s (open_.Prefix p op) v h.0
  operand_completes (open_.Sizeof q ∷ s) v h = sizeof_completes s q v.1
  operand_completes (open_.Paren p ∷ []) v h = deep_completes [] (open_.Paren p) v h.0
  operand_completes (open_.Paren p ∷ (open_.Sizeof q ∷ s)) v h = int_completes s q p v.1.1
  operand_completes (open_.Paren p ∷ (o ∷ s)) v h = deep_completes (o ∷ s) (open_.Paren p) v h.0
  operand_completes (open_.Index p a ∷ s) v h = deep_completes s (open_.Index p a) v (index_level s p a v.0)
  operand_completes (open_.Call p x [] height ∷ s) v h = empty_completes s p x height v.1
  operand_completes (open_.Call p x (a ∷ args) height ∷ s) v h =
      deep_completes s (open_.Call p x (a ∷ args) height) v (call_level s p x a args height v.0)

  pub now_completes : (s : Opens) (n : ExpressionStage) → Valid lim g s → ValidNow lim g s n → Reached lim g s → Completed s n
  now_completes s now.Operand v k h = operand_completes s v h
  now_completes s (now.Named p x) v k h =
      let y : Ended s (term (expr.Name p x) 16 1) = value_ending s (term (expr.Name p x) 16 1) v in
      (y.0, y.1, named_completes s p x y.0 y.1 y.2)
  now_completes s (now.Type specs stars) v k h = type_completes s specs stars v h k.1
  now_completes s (now.Value a) v k h =
      let y : Ended s a = value_ending s a v in (y.0, y.1, value_completes s a y.0 y.1 y.2)
