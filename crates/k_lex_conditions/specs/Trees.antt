-- Believed with a public law.
-- The trees of conditions, their tokens, and those that the grammar gives (C17 6.5, 6.6, 6.10.1).
use Rattle.std.specs.Prelude.{ℕ, ◌≡◌, ◌+◌, ◌≤◌, Bool, true, false, not, nat_eq, IsTrue, [], ◌∷◌, ◌++◌, Some, codes}
use Rattle.std.specs.Cmp.Lexicographic.{pointwise}
use Rattle.k_tree.specs.declared.tokens.TokenKind.{TokenKind}
use Rattle.k_tree.specs.declared.tokens.TokenKind.TheVariants as token
use Rattle.k_tree.specs.declared.tokens.mark.Mark.{Mark}
use Rattle.k_tree.specs.declared.tokens.mark.Mark.TheVariants as mark
use Rattle.k_tree.specs.Ranked.{binary_rank}
use Rattle.k_tree.specs.Spelling.{Spelled, the_mark, in_parens}

-- the tree of a condition
pub data Tree : Type 0 where
  operand : TokenKind → Tree
  enclosed : Tree → Tree
  sign : Mark → Tree → Tree
  operation : Mark → Tree → Tree → Tree
  choice : Tree → Tree → Tree → Tree

-- the tokens that spell it
abbrev pub spelling : Tree → Spelled
spelling (operand t) = t ∷ []
spelling (enclosed a) = in_parens (spelling a)
spelling (sign op a) = the_mark op ++ spelling a
spelling (operation op a b) = spelling a ++ (the_mark op ++ spelling b)
spelling (choice a b c) = spelling a ++ (the_mark mark.Question ++ (spelling b ++ (the_mark mark.Colon ++ spelling c)))

-- C17 6.10.1p1, p4: constants and identifiers, keywords among them. A `defined` that is left was given by a macro, and is none
abbrev pub is_operand : TokenKind → Bool
is_operand (token.Number kind value) = true
is_operand (token.Char value) = true
is_operand (token.Name name) = not (pointwise nat_eq name (codes "defined"))
is_operand (token.Word word) = true
is_operand _ = false

-- C17 6.5.3.3: the operators before an operand
abbrev pub is_sign : Mark → Bool
is_sign mark.Plus = true
is_sign mark.Minus = true
is_sign mark.Tilde = true
is_sign mark.Exclaim = true
is_sign _ = false

-- C17 6.5: a tree that the grammar gives, of rank k or above: of 2 is a conditional expression, of 3 to 12 a binary one, of 13 one
-- with a sign; an operand and what stands in parentheses are of every rank
pub data Ranked : ℕ → Tree → Type 0 where
  conditional : (k : ℕ) (a b c : Tree) → k ≤ 2 → Ranked 3 a → Ranked 2 b → Ranked 2 c → Ranked k (choice a b c)
  binary : (k n : ℕ) (op : Mark) (a b : Tree) → k ≤ n → binary_rank op ≡ Some n
      → Ranked n a → Ranked (n + 1) b → Ranked k (operation op a b)
  unary : (k : ℕ) (op : Mark) (a : Tree) → k ≤ 13 → IsTrue (is_sign op) → Ranked 13 a → Ranked k (sign op a)
  single : (k : ℕ) (t : TokenKind) → IsTrue (is_operand t) → Ranked k (operand t)
  parted : (k : ℕ) (a : Tree) → Ranked 2 a → Ranked k (enclosed a)
