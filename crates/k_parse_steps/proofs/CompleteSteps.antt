-- What one token does, construct by construct.
use Rattle.std.proofs.Common.{ℕ, ◌≡◌, ◌+◌, ◌≤◌, max, Bool, true, false, cond, ◌&&◌, nat_le, IsTrue, ◌∷◌, length, Option, Some, None, sym, ap, ◌∙◌, refl, arith}
use Rattle.std.proofs.lemmas.Bool.{and_parts, leb-true, cond-true}
use Rattle.k_parse_steps.specs.Types.{Place, Mark, Binding, Term, Site}
use Rattle.k_tree.specs.declared.tokens.TokenKind.TheVariants as token
use Rattle.k_tree.specs.declared.tokens.mark.Mark.TheVariants as mark
use Rattle.k_tree.specs.declared.tokens.word.Word.TheVariants as word
use Rattle.k_tree.specs.Ranked.{binary_rank, is_assignment, is_step}
use Rattle.k_parse_steps.specs.Operators.{binding, binding_by, other_binding, own_rank, own_of, right_rank, right_of, is_step_mark, is_prefix_mark}
use Rattle.k_parse_steps.specs.Level.{plus, above}
use Rattle.k_num.specs.Top.{top}
use Rattle.k_parse_steps.specs.Expressions.{feed, operand, opened, mark_operand, prefix_operator, word_operand, hole, plug, Opens, goes, level, take_operator, operator_opens, is_sizeof_open, posted, infix_made}
use Rattle.k_parse_steps.specs.declared.expression.Open.TheVariants as open_
use Rattle.k_parse_steps.specs.declared.expression.ExpressionStage.TheVariants as now
use Rattle.k_parse_steps.specs.declared.turn.Turn.TheVariants as turn
use Rattle.k_parse_steps.specs.declared.expression.plug.Plugged.TheVariants as plugged
use Rattle.k_parse_steps.proofs.CompleteLeads.{token_at}
use Rattle.k_parse_steps.proofs.CompleteHolds.{awaits}
use Rattle.k_parse_steps.specs.Tokens.{is_mark, is_word, token_is_mark}

-- numbers as a machine keeps them
pub reach_low : (g : Site) (s : Opens) (h d : ℕ) → h ≡ d → plus (level g s) h ≤ g.level + length s + d
reach_low g s h d e = omega arith

pub above-both : (h j d f : ℕ) → h ≡ d → j ≡ f → above h j ≡ (1 + max d f)
above-both h j d f x y = omega arith

pub above-one : (h d : ℕ) → h ≡ d → above h 0 ≡ (1 + d)
above-one h d x = omega arith

-- `(`, an operator, `sizeof` before an operand
pub paren_opens : (g : Site) (s : Opens) (p : Place)
    → feed (awaits g s) (token_at p (token.Mark mark.LeftParen))
    ≡ goes g (open_.Paren p ∷ s) now.Operand (cond (is_sizeof_open (top s)) 0 (plus (level g s) 1))
unfolding feed operand mark_operand opened is_mark is_prefix_mark
paren_opens g s p = refl

prefix_by : (g : Site) (s : Opens) (op : Mark) (p : Place) → is_prefix_mark op ≡ true → mark_operand g s op p ≡ prefix_operator g s op p
unfolding mark_operand is_prefix_mark is_mark
prefix_by g s mark.LeftParen p h = cc
prefix_by g s mark.RightParen p h = cc
prefix_by g s op p h = cond-true (is_prefix_mark op) (prefix_operator g s op p) turn.Refused h

pub prefix_opens : (g : Site) (s : Opens) (op : Mark) (p : Place) → is_prefix_mark op ≡ true
    → feed (awaits g s) (token_at p (token.Mark op)) ≡ goes g (open_.Prefix p op ∷ s) now.Operand (plus (level g s) 1)
unfolding feed operand prefix_operator
prefix_opens g s op p h = prefix_by g s op p h

pub sizeof_opens : (g : Site) (s : Opens) (p : Place)
    → feed (awaits g s) (token_at p (token.Word word.Sizeof)) ≡ goes g (open_.Sizeof p ∷ s) now.Operand (level g s)
unfolding feed operand word_operand is_word
sizeof_opens g s p = refl

-- operators with two operands
pub record Infixes (op : Mark) : Type 0 where
  pub name_stands : token_is_mark (token.Mark op) mark.LeftParen ≡ false
  pub two : is_step_mark op ≡ false
  pub opens : (a : Term) (p : Place) → operator_opens op a p ≡ open_.Infix p op a

pub comma_infixes : Infixes mark.Comma
unfolding is_step_mark is_mark
comma_infixes = record { name_stands = refl; two = refl; opens = λ a p. refl }

pub binary_infixes : (op : Mark) (n : ℕ) → binary_rank op ≡ Some n → Infixes op
unfolding is_step_mark is_mark
binary_infixes mark.LeftParen n e = absurd cc
binary_infixes mark.LeftBracket n e = absurd cc
binary_infixes mark.Question n e = absurd cc
binary_infixes mark.PlusPlus n e = absurd cc
binary_infixes mark.MinusMinus n e = absurd cc
binary_infixes op n e = record { name_stands = refl; two = refl; opens = λ a p. refl }

pub assignment_infixes : (op : Mark) → IsTrue (is_assignment op) → Infixes op
unfolding is_step_mark is_mark
assignment_infixes mark.LeftParen e = absurd cc
assignment_infixes mark.LeftBracket e = absurd cc
assignment_infixes mark.Question e = absurd cc
assignment_infixes mark.PlusPlus e = absurd cc
assignment_infixes mark.MinusMinus e = absurd cc
assignment_infixes op e = record { name_stands = refl; two = refl; opens = λ a p. refl }

within : Option ℕ → Bool
within None = true
within (Some n) = nat_le 3 n && nat_le n 12

all_within : (op : Mark) → within (binary_rank op) ≡ true
unfolding within
all_within mark.BarBar = refl
all_within op = refl

pub binary_bounds : (op : Mark) (n : ℕ) → binary_rank op ≡ Some n → (3 ≤ n) × (n ≤ 12)
unfolding within
binary_bounds op n e =
    let h : within (Some n) ≡ true = sym (ap within e) ∙ all_within op in
    let both : (nat_le 3 n ≡ true) × (nat_le n 12 ≡ true) = and_parts (nat_le 3 n) (nat_le n 12) h in
    (leb-true 3 n both.0, leb-true n 12 both.1)

abbrev pub bind : ℕ → ℕ → ℕ → Binding
bind left own right = record { left = left; own = own; right = right }

pub binary_binding : (op : Mark) (n : ℕ) → binary_rank op ≡ Some n → binding op ≡ Some (bind n n (n + 1))
unfolding binding
binary_binding op n e = ap (λ v. binding_by v (is_assignment op) (other_binding op)) e

pub assignment_binding : (op : Mark) → IsTrue (is_assignment op) → binding op ≡ Some (bind 14 1 1)
unfolding binding
assignment_binding mark.Equal e = refl
assignment_binding mark.StarEqual e = refl
assignment_binding mark.SlashEqual e = refl
assignment_binding mark.PercentEqual e = refl
assignment_binding mark.PlusEqual e = refl
assignment_binding mark.MinusEqual e = refl
assignment_binding mark.ShiftLeftEqual e = refl
assignment_binding mark.ShiftRightEqual e = refl
assignment_binding mark.AmpersandEqual e = refl
assignment_binding mark.CaretEqual e = refl
assignment_binding mark.BarEqual e = refl
assignment_binding op e = absurd cc

pub step_binding : (op : Mark) → IsTrue (is_step op) → binding op ≡ Some (bind 15 15 0)
unfolding binding
step_binding mark.PlusPlus e = refl
step_binding mark.MinusMinus e = refl
step_binding op e = absurd cc

pub step_is_no_paren : (op : Mark) → IsTrue (is_step op) → token_is_mark (token.Mark op) mark.LeftParen ≡ false
unfolding is_mark
step_is_no_paren mark.LeftParen e = cc
step_is_no_paren op e = refl

pub own_bound : (op : Mark) (b : Binding) → binding op ≡ Some b → own_rank op ≡ b.own
unfolding own_rank
own_bound op b e = ap own_of e

pub right_bound : (op : Mark) (b : Binding) → binding op ≡ Some b → right_rank op ≡ b.right
unfolding right_rank
right_bound op b e = ap right_of e

pub infix_hole : (g : Site) (s : Opens) (p : Place) (op : Mark) (a : Term) (b : Binding) → binding op ≡ Some b
    → hole g (open_.Infix p op a ∷ s) ≡ b.right
unfolding hole
infix_hole g s p op a b e = right_bound op b e

pub infix_opens : (g : Site) (s : Opens) (a : Term) (op : Mark) (p : Place) → Infixes op
    → take_operator g s a op p ≡ goes g (open_.Infix p op a ∷ s) now.Operand (plus (level g s) a.height)
unfolding take_operator is_mark
infix_opens g s a op p h =
    ap (λ v. cond v (goes g s (now.Value (posted p op a)) (plus (level g s) a.height)) (goes g (operator_opens op a p ∷ s) now.Operand (plus (level g s) a.height))) h.two
    ∙ ap (λ o. goes g (o ∷ s) now.Operand (plus (level g s) a.height)) (h.opens a p)

pub infix_plugs : (p : Place) (op : Mark) (a b : Term) → plug (open_.Infix p op a) b ≡ plugged.Whole (infix_made p op a b)
unfolding plug
infix_plugs p op a b = refl
