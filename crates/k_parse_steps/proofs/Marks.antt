-- Which operators there are behind an operand, and what each makes; which mark and which keyword a token is.
use Rattle.std.proofs.Common.{ℕ, suc, ◌≡◌, ◌+◌, ◌≤◌, true, false, IsTrue, Some, None, refl, ◌∙◌, ap, arith}
use denote.Enum.Bare.{same_true}
use Rattle.k_parse_steps.specs.Types.{Place, Mark, Word, Term, TokenKind}
use Rattle.k_tree.specs.contracts.tokens.mark.Mark as marks
use Rattle.k_tree.specs.contracts.tokens.word.Word as words
use Rattle.k_tree.specs.declared.tokens.TokenKind.TheVariants as token
use Rattle.k_tree.specs.declared.tokens.mark.Mark.TheVariants as mark
use Rattle.k_tree.specs.Ranked.{binary_rank, is_assignment, is_step}
use Rattle.k_parse_steps.specs.Operators.{binding, binding_by, other_binding, is_step_mark}
use Rattle.k_parse_steps.specs.Tokens.{is_mark, is_word, token_is_mark, token_is_word}
use Rattle.k_parse_steps.specs.declared.expression.Open.TheVariants as open_
use Rattle.k_parse_steps.specs.Expressions.{operator_opens}

-- a binary, assignment or comma operator, by the least rank of its left operand, the rank of what it makes, and the least
-- rank of its right operand
pub data Infix : Mark → ℕ → ℕ → ℕ → Type 0 where
  is_comma : Infix mark.Comma 0 0 1
  is_assign : (op : Mark) → IsTrue (is_assignment op) → Infix op 14 1 1
  is_binary : (op : Mark) (n : ℕ) → binary_rank op ≡ Some (suc (suc n)) → suc (suc n) ≤ 12 → Infix op (suc (suc n)) (suc (suc n)) (suc (suc n) + 1)

-- what an operator behind an operand is
pub data Kind : Mark → Type 0 where
  infix_kind : (op : Mark) (left own right : ℕ) → Infix op left own right
      → binding op ≡ Some (record { left = left; own = own; right = right })
      → is_step_mark op ≡ false → ((a : Term) (p : Place) → operator_opens op a p ≡ open_.Infix p op a) → Kind op
  question : Kind mark.Question
  bracket : Kind mark.LeftBracket
  step : (op : Mark) → IsTrue (is_step op) → binding op ≡ Some (record { left = 15; own = 15; right = 0 }) → Kind op
  no_operator : (op : Mark) → binding op ≡ None → Kind op

binary_kind : (op : Mark) (n : ℕ) → binary_rank op ≡ Some (suc (suc n)) → suc (suc n) ≤ 12 → is_step op ≡ false
    → ((a : Term) (p : Place) → operator_opens op a p ≡ open_.Infix p op a) → Kind op
unfolding binding is_step_mark
binary_kind op n e le s o =
    infix_kind op (suc (suc n)) (suc (suc n)) (suc (suc n) + 1) (is_binary op n e le) (ap (λ r. binding_by r (is_assignment op) (other_binding op)) e) s o

assign_kind : (op : Mark) → binary_rank op ≡ None → is_assignment op ≡ true → is_step op ≡ false
    → ((a : Term) (p : Place) → operator_opens op a p ≡ open_.Infix p op a) → Kind op
unfolding binding is_step_mark
assign_kind op b e s o =
    infix_kind op 14 1 1 (is_assign op e)
    (ap (λ r. binding_by r (is_assignment op) (other_binding op)) b ∙ ap (λ r. binding_by None r (other_binding op)) e) s o

pub kind_of : (op : Mark) → Kind op
unfolding binding is_step_mark is_mark
kind_of mark.Comma = infix_kind mark.Comma 0 0 1 is_comma refl refl (λ a p. refl)
kind_of mark.Question = question
kind_of mark.LeftBracket = bracket
kind_of mark.PlusPlus = step mark.PlusPlus refl refl
kind_of mark.MinusMinus = step mark.MinusMinus refl refl
kind_of mark.BarBar = binary_kind mark.BarBar 1 refl (omega arith) refl (λ a p. refl)
kind_of mark.AmpersandAmpersand = binary_kind mark.AmpersandAmpersand 2 refl (omega arith) refl (λ a p. refl)
kind_of mark.Bar = binary_kind mark.Bar 3 refl (omega arith) refl (λ a p. refl)
kind_of mark.Caret = binary_kind mark.Caret 4 refl (omega arith) refl (λ a p. refl)
kind_of mark.Ampersand = binary_kind mark.Ampersand 5 refl (omega arith) refl (λ a p. refl)
kind_of mark.EqualEqual = binary_kind mark.EqualEqual 6 refl (omega arith) refl (λ a p. refl)
kind_of mark.ExclaimEqual = binary_kind mark.ExclaimEqual 6 refl (omega arith) refl (λ a p. refl)
kind_of mark.Less = binary_kind mark.Less 7 refl (omega arith) refl (λ a p. refl)
kind_of mark.Greater = binary_kind mark.Greater 7 refl (omega arith) refl (λ a p. refl)
kind_of mark.LessEqual = binary_kind mark.LessEqual 7 refl (omega arith) refl (λ a p. refl)
kind_of mark.GreaterEqual = binary_kind mark.GreaterEqual 7 refl (omega arith) refl (λ a p. refl)
kind_of mark.ShiftLeft = binary_kind mark.ShiftLeft 8 refl (omega arith) refl (λ a p. refl)
kind_of mark.ShiftRight = binary_kind mark.ShiftRight 8 refl (omega arith) refl (λ a p. refl)
kind_of mark.Plus = binary_kind mark.Plus 9 refl (omega arith) refl (λ a p. refl)
kind_of mark.Minus = binary_kind mark.Minus 9 refl (omega arith) refl (λ a p. refl)
kind_of mark.Star = binary_kind mark.Star 10 refl (omega arith) refl (λ a p. refl)
kind_of mark.Slash = binary_kind mark.Slash 10 refl (omega arith) refl (λ a p. refl)
kind_of mark.Percent = binary_kind mark.Percent 10 refl (omega arith) refl (λ a p. refl)
kind_of mark.Equal = assign_kind mark.Equal refl refl refl (λ a p. refl)
kind_of mark.StarEqual = assign_kind mark.StarEqual refl refl refl (λ a p. refl)
kind_of mark.SlashEqual = assign_kind mark.SlashEqual refl refl refl (λ a p. refl)
kind_of mark.PercentEqual = assign_kind mark.PercentEqual refl refl refl (λ a p. refl)
kind_of mark.PlusEqual = assign_kind mark.PlusEqual refl refl refl (λ a p. refl)
kind_of mark.MinusEqual = assign_kind mark.MinusEqual refl refl refl (λ a p. refl)
kind_of mark.ShiftLeftEqual = assign_kind mark.ShiftLeftEqual refl refl refl (λ a p. refl)
kind_of mark.ShiftRightEqual = assign_kind mark.ShiftRightEqual refl refl refl (λ a p. refl)
kind_of mark.AmpersandEqual = assign_kind mark.AmpersandEqual refl refl refl (λ a p. refl)
kind_of mark.CaretEqual = assign_kind mark.CaretEqual refl refl refl (λ a p. refl)
kind_of mark.BarEqual = assign_kind mark.BarEqual refl refl refl (λ a p. refl)
kind_of op = no_operator op refl

pub false_true : false ≡ true → ⊥
false_true z = cc

pub mark_is : (m which : Mark) → is_mark m which ≡ true → m ≡ which
unfolding is_mark
mark_is m which h = same_true marks.the_type tt m which h

pub word_is : (w which : Word) → is_word w which ≡ true → w ≡ which
unfolding is_word
word_is w which h = same_true words.the_type tt w which h

pub token_mark_is : (k : TokenKind) (which : Mark) → token_is_mark k which ≡ true → k ≡ token.Mark which
token_mark_is (token.Mark m) which h = ap token.Mark (mark_is m which h)
token_mark_is _ which h = absurd (false_true h)

pub token_word_is : (k : TokenKind) (which : Word) → token_is_word k which ≡ true → k ≡ token.Word which
token_word_is (token.Word w) which h = ap token.Word (word_is w which h)
token_word_is _ which h = absurd (false_true h)
