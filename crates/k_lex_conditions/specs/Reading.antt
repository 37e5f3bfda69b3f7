-- For contracts between crates: nobody has to believe it.
-- How a condition is read, token by token, and what its parts make.
use Rattle.std.specs.Prelude.{ℕ, Bool, if◌then◌else◌, nat_le, List, [], ◌∷◌, Option, Some, None}
use Rattle.k_tree.specs.declared.tokens.TokenKind.{TokenKind}
use Rattle.k_tree.specs.declared.tokens.TokenKind.TheVariants as token
use Rattle.k_tree.specs.declared.tokens.mark.Mark.{Mark}
use Rattle.k_tree.specs.declared.tokens.mark.Mark.TheVariants as mark
use Rattle.k_tree.specs.Ranked.{binary_rank}
use Rattle.k_tree.specs.Spelling.{Spelled}
use Rattle.k_lex_conditions.specs.declared.value.Open.{Open}
use Rattle.k_lex_conditions.specs.declared.value.Open.TheVariants as open_
use Rattle.k_lex_conditions.specs.declared.value.Value.{Value}
use Rattle.k_lex_conditions.specs.declared.value.Known.{Known}
use Rattle.k_lex_conditions.specs.Trees.{Tree, operand, enclosed, sign, operation, choice, is_operand, is_sign}
use Rattle.k_lex_conditions.specs.Values.{operand_value, prefixed, infixed, chosen}
use Rattle.k_lex_conditions.specs.Conditions.{holding}

-- what the parts of a condition make of the parts within
pub record Making (A : Type 0) : Type 0 where
  pub within : A → A
  pub signed : Mark → A → A
  pub joined : Mark → A → A → A
  pub picked : A → A → A → A

-- they make values
abbrev pub values : Making Value
values = record { within = λ a. a; signed = prefixed; joined = infixed; picked = chosen }

-- they make trees
abbrev pub trees : Making Tree
trees = record { within = enclosed; signed = sign; joined = operation; picked = choice }

-- what a tree makes, of what its operands are
abbrev pub made : {A : Type 0} → Making A → (TokenKind → A) → Tree → A
made m single (operand t) = single t
made m single (enclosed a) = m.within (made m single a)
made m single (sign op a) = m.signed op (made m single a)
made m single (operation op a b) = m.joined op (made m single a) (made m single b)
made m single (choice a b c) = m.picked (made m single a) (made m single b) (made m single c)

-- what is open, the innermost first, and the operand that was read last, if no other is awaited
abbrev pub State : Type 0 → Type 0
State A = List (Open A) × Option A

-- what an open construct makes of its last operand, where that ends before an operator of this rank
abbrev pub closed : {A : Type 0} → Making A → ℕ → Open A → A → Option A
closed m r (open_.Infix op rank left) v = if nat_le r rank then Some (m.joined op left v) else None
closed m r (open_.Prefix op) v = Some (m.signed op v)
closed m r open_.Paren v = None
closed m r (open_.Test test) v = None
closed m r (open_.Other test chosen) v = if nat_le r 2 then Some (m.picked test chosen v) else None

-- goes on with what is there
abbrev pub go_on : {A B : Type 0} → B → (A → B) → Option A → B
go_on b f None = b
go_on b f (Some x) = f x

-- what is open, and the operand, before an operator of this rank
abbrev pub reduced : {A : Type 0} → Making A → ℕ → List (Open A) → A → List (Open A) × A
reduced m r [] v = ([], v)
reduced m r (o ∷ s) v = go_on (o ∷ s, v) (λ w. reduced m r s w) (closed m r o v)

-- an operand is awaited in this construct
abbrev pub awaits : {A : Type 0} → List (Open A) → Open A → Option (State A)
awaits s o = Some (o ∷ s, None)

-- a mark before an operand
abbrev pub mark_before : {A : Type 0} → List (Open A) → Mark → Option (State A)
mark_before s mark.LeftParen = awaits s open_.Paren
mark_before s op = if is_sign op then awaits s (open_.Prefix op) else None

-- a token before an operand, or the operand
abbrev pub before : {A : Type 0} → (TokenKind → A) → List (Open A) → TokenKind → Option (State A)
before single s (token.Mark op) = mark_before s op
before single s t = if is_operand t then Some (s, Some (single t)) else None

-- `:` behind the second operand of a conditional expression
abbrev pub colon : {A : Type 0} → List (Open A) × A → Option (State A)
colon ((open_.Test test ∷ s), v) = awaits s (open_.Other test v)
colon (_, v) = None

-- `)` behind what stands in parentheses
abbrev pub right_paren : {A : Type 0} → Making A → List (Open A) × A → Option (State A)
right_paren m ((open_.Paren ∷ s), v) = Some (s, Some (m.within v))
right_paren m (_, v) = None

-- `?` behind the first operand of a conditional expression
abbrev pub question : {A : Type 0} → List (Open A) × A → Option (State A)
question (s, v) = awaits s (open_.Test v)

-- a binary operator behind its left operand
abbrev pub operator : {A : Type 0} → Mark → ℕ → List (Open A) × A → Option (State A)
operator op rank (s, v) = awaits s (open_.Infix op rank v)

-- a mark behind an operand that is no binary operator
abbrev pub other_mark : {A : Type 0} → Making A → List (Open A) → A → Mark → Option (State A)
other_mark m s v mark.Question = question (reduced m 3 s v)
other_mark m s v mark.Colon = colon (reduced m 0 s v)
other_mark m s v mark.RightParen = right_paren m (reduced m 0 s v)
other_mark m s v _ = None

-- a mark behind an operand, of this rank as a binary operator
abbrev pub mark_behind : {A : Type 0} → Making A → List (Open A) → A → Mark → Option ℕ → Option (State A)
mark_behind m s v op (Some rank) = operator op rank (reduced m rank s v)
mark_behind m s v op None = other_mark m s v op

-- a token behind an operand
abbrev pub behind : {A : Type 0} → Making A → List (Open A) → A → TokenKind → Option (State A)
behind m s v (token.Mark op) = mark_behind m s v op (binary_rank op)
behind m s v _ = None

-- the next token
abbrev pub step : {A : Type 0} → Making A → (TokenKind → A) → State A → TokenKind → Option (State A)
step m single (s, None) t = before single s t
step m single (s, Some v) t = behind m s v t

-- nothing is open
abbrev pub alone : {A : Type 0} → List (Open A) × A → Option A
alone ([], v) = Some v
alone ((o ∷ s), v) = None

-- the end of the tokens
abbrev pub finish : {A : Type 0} → Making A → State A → Option A
finish m (s, None) = None
finish m (s, Some v) = alone (reduced m 0 s v)

-- what the rest of the tokens makes, from this state
abbrev pub run : {A : Type 0} → Making A → (TokenKind → A) → Option (State A) → Spelled → Option A
run m single None ts = None
run m single (Some state) [] = finish m state
run m single (Some state) (t ∷ ts) = run m single (step m single state t) ts

-- what these tokens make
abbrev pub result_of : {A : Type 0} → Making A → (TokenKind → A) → Spelled → Option A
result_of m single ts = run m single (Some ([], None)) ts

-- the value of a condition's tokens
abbrev pub value_of : List Known → Spelled → Option Value
value_of names ts = result_of values (operand_value names) ts

-- whether the condition holds that has this value
abbrev pub answer : Option Value → Option Bool
answer None = None
answer (Some v) = holding v.number
