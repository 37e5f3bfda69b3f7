-- What has been read of an expression: its pieces, and what holds of them.
use Rattle.std.proofs.Common.{ℕ, ◌≡◌, ◌+◌, ◌≤◌, Bool, ◌||◌, IsTrue, List, [], ◌∷◌, ◌++◌, map, length}
use Rattle.k_parse_steps.specs.Types.{Place, Token, Mark, Word, Expr, Term, Open, ExpressionStage, Site, Fed}
use Rattle.k_tree.specs.declared.tokens.mark.Mark.TheVariants as mark
use Rattle.k_tree.specs.declared.tokens.word.Word.TheVariants as word
use Rattle.k_tree.specs.Nesting.{deepest, expr_depth}
use Rattle.k_tree.specs.Places.{Pieces, plain, at, lay_expr, Stand}
use Rattle.k_tree.specs.Ranked.{Ranked, RankedArgs, Specs, is_step, is_unary}
use Rattle.k_tree.specs.Spelling.{the_mark, the_word, the_name, in_parens, spell_type}
use Rattle.k_parse_steps.specs.Operators.{right_rank, own_rank}
use Rattle.k_parse_steps.specs.Stars.{all_stars}
use Rattle.k_parse_steps.specs.Expressions.{Opens, hole, is_before_type}
use Rattle.k_parse_steps.specs.declared.expression.Open.TheVariants as open_
use Rattle.k_parse_steps.specs.declared.expression.ExpressionStage.TheVariants as now
use Rattle.k_parse_steps.specs.declared.turn.Turn.TheVariants as turn
use Rattle.k_parse_steps.proofs.Marks.{Infix}

-- arguments, each with a comma behind it
abbrev pub lay_args : List Expr → Pieces
lay_args [] = []
lay_args (a ∷ args) = lay_expr a ++ (plain (the_mark mark.Comma) ++ lay_args args)

abbrev pub lay_open : Open → Pieces
lay_open (open_.Infix p op a) = lay_expr a.tree ++ at p (plain (the_mark op))
lay_open (open_.Then p a) = lay_expr a.tree ++ at p (plain (the_mark mark.Question))
lay_open (open_.Other p a b) =
    lay_expr a.tree ++ (at p (plain (the_mark mark.Question)) ++ (lay_expr b.tree ++ plain (the_mark mark.Colon)))
lay_open (open_.Cast p specs stars) = at p (plain (in_parens (spell_type specs stars)))
lay_open (open_.Prefix p op) = at p (plain (the_mark op))
lay_open (open_.Sizeof p) = at p (plain (the_word word.Sizeof))
lay_open (open_.Paren p) = at p (plain (the_mark mark.LeftParen))
lay_open (open_.Index p a) = lay_expr a.tree ++ at p (plain (the_mark mark.LeftBracket))
lay_open (open_.Call p x args height) = at p (plain (the_name x)) ++ (plain (the_mark mark.LeftParen) ++ lay_args args)

abbrev pub lay_opens : Opens → Pieces
lay_opens [] = []
lay_opens (o ∷ s) = lay_opens s ++ lay_open o

-- the pieces that were read
abbrev pub laid : Opens → ExpressionStage → Pieces
laid s now.Operand = lay_opens s
laid s (now.Named p x) = lay_opens s ++ at p (plain (the_name x))
laid s (now.Type specs stars) = lay_opens s ++ plain (spell_type specs (all_stars stars))
laid s (now.Value a) = lay_opens s ++ lay_expr a.tree

-- an expression whose topmost node has this level is within a limit, and its rank and height are told truly
pub record Fits (lim : ℕ) (l : ℕ) (a : Term) : Type 0 where
  pub ranked : Ranked a.rank a.tree
  pub height : a.height ≡ expr_depth a.tree
  pub within : l + expr_depth a.tree ≤ lim + 1

-- an open construct with its node at level l, in a place that takes rank k or a higher one
pub data OkOpen (lim : ℕ) (l : ℕ) (k : ℕ) : Open → Type 0 where
  ok_infix : (p : Place) (op : Mark) (a : Term) (left own right : ℕ) → Infix op left own right
      → right_rank op ≡ right → own_rank op ≡ own → k ≤ own → left ≤ a.rank → Fits lim (l + 1) a → OkOpen lim l k (open_.Infix p op a)
  ok_then : (p : Place) (a : Term) → k ≤ 2 → 3 ≤ a.rank → Fits lim (l + 1) a → OkOpen lim l k (open_.Then p a)
  ok_other : (p : Place) (a b : Term) → k ≤ 2 → 3 ≤ a.rank → Fits lim (l + 1) a → Fits lim (l + 1) b
      → OkOpen lim l k (open_.Other p a b)
  ok_cast : (p : Place) (specs : List Word) (stars : List Bool) → k ≤ 13 → Specs specs → OkOpen lim l k (open_.Cast p specs stars)
  ok_prefix : (p : Place) (op : Mark) → k ≤ 14 → IsTrue (is_step op || is_unary op) → OkOpen lim l k (open_.Prefix p op)
  ok_sizeof : (p : Place) → k ≤ 14 → l ≤ lim → OkOpen lim l k (open_.Sizeof p)
  ok_paren : (p : Place) → k ≤ 14 → OkOpen lim l k (open_.Paren p)
  ok_index : (p : Place) (a : Term) → k ≤ 14 → 15 ≤ a.rank → Fits lim (l + 1) a → OkOpen lim l k (open_.Index p a)
  ok_call : (p : Place) (x : List ℕ) (args : List Expr) (height : ℕ) → k ≤ 14 → RankedArgs args
      → height ≡ deepest (map expr_depth args) → l ≤ lim → l + height ≤ lim → OkOpen lim l k (open_.Call p x args height)

-- the level of a node in the innermost open construct
abbrev pub lev : Site → Opens → ℕ
lev g s = g.level + length s

abbrev pub Valid : ℕ → Site → Opens → Type 0
Valid lim g [] = g.rank ≤ 2
Valid lim g (o ∷ s) = OkOpen lim (lev g s) (hole g s) o × Valid lim g s

abbrev pub ValidNow : ℕ → Site → Opens → ExpressionStage → Type 0
ValidNow lim g s now.Operand = Unit {0}
ValidNow lim g s (now.Named p x) = lev g s ≤ lim
ValidNow lim g s (now.Type specs stars) = Specs specs × IsTrue (is_before_type g s)
ValidNow lim g s (now.Value a) = (hole g s ≤ a.rank) × Fits lim (lev g s) a

-- what was read stands at these tokens
pub record Inv (lim : ℕ) (g : Site) (s : Opens) (n : ExpressionStage) (ts : List Token) : Type 0 where
  pub stands : Stand (laid s n) ts
  pub opens : Valid lim g s
  pub stage : ValidNow lim g s n

-- an expression that was read whole
pub record IsRead (lim : ℕ) (g : Site) (e : Expr) (ts : List Token) : Type 0 where
  pub ranked : Ranked g.rank e
  pub stands : Stand (lay_expr e) ts
  pub within : g.level + expr_depth e ≤ lim + 1

-- a token keeps it so
abbrev pub Keeps : ℕ → Site → List Token → Token → Fed → Type 0
Keeps lim g ts t (turn.Goes r reach) = reach ≤ lim → (r.site ≡ g) × Inv lim g r.opens r.stage (ts ++ t ∷ [])
Keeps lim g ts t (turn.Done e) = IsRead lim g e ts
Keeps lim g ts t turn.Refused = Unit {0}
