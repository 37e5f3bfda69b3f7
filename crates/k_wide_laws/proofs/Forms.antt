-- Forms of expressions: the variables and scalars that they are, and what their parts do.
use Rattle.std.proofs.Common.{◌≡◌, ℕ, Bool, true, false, List, [], ◌∷◌, ◌++◌, Option, Some, None, refl, sym, ◌∙◌, ap, subst, true≢false}
use Rattle.std.specs.Prelude.{nat_eq, if◌then◌else◌}
use Rattle.std.proofs.lemmas.Bool.{eqb-true}
use Rattle.std.proofs.lemmas.Option.{same_Some}
use Rattle.k_num.specs.declared.numbers.Bin.{Bin}
use Rattle.k_types_meaning.specs.declared.tree.expression.TExpr.{TExpr, fold_out-TExpr, map-TExpr, out-TExpr}
use Rattle.k_types_meaning.specs.declared.tree.expression.TExpr.TheOpen.{TExpr-F}
use Rattle.k_marks_meaning.specs.declared.uses.Read.{Read}
use Rattle.k_marks_meaning.specs.declared.uses.Use.{Use}
use Rattle.k_marks_meaning.specs.declared.uses.Use.TheVariants as stated
use Rattle.k_marks_meaning.specs.Uses.{Used, used, uses_step, uses_of}
use Rattle.k_marks_meaning.specs.Reductions.{variable_step, variable_of, read_step, read_of, read_again, unconverted_step, unconverted}
use Rattle.k_wide_meaning.specs.declared.occurrences.Scalar.{Scalar}
use Rattle.k_wide_meaning.specs.declared.occurrences.Scalar.TheVariants.{Variable, Object}
use Rattle.k_wide_meaning.specs.declared.occurrences.ScalarRead.{ScalarRead}
use Rattle.k_wide_meaning.specs.declared.occurrences.WideGroup.{WideGroup}
use Rattle.k_wide_meaning.specs.Occurrences.{same_scalar}
use Rattle.k_wide_meaning.specs.Reductions.{scalar_step, scalar_of, same_read, again, Compared, compared_by, compared_with, either_compared, compared_step, compared, kept_by, turned, before_conversion, value_beside}

-- what an expression does with variables, by what its operands do
abbrev pub uses_at : TExpr-F TExpr → Used
uses_at x = uses_step (map-TExpr TExpr Used used x)

pub used_is : (e : TExpr) → used e ≡ uses_at (out-TExpr e)
used_is e = fold_out-TExpr Used uses_step e

-- the variable that a scalar is, as it is read
abbrev pub read_at : Scalar → ℕ → Option Read
read_at (Variable n) node = Some (record { variable = n; node = node })
read_at (Object n) node = None

abbrev pub read_in : Option ScalarRead → Option Read
read_in None = None
read_in (Some s) = read_at s.scalar s.node

variable_at : (z : TExpr-F TExpr) → read_in (scalar_step z) ≡ variable_step z
variable_at (TExpr-F.Variable node n) = refl
variable_at (TExpr-F.Object node n) = refl
variable_at _ = refl

pub variable_is : (e : TExpr) → read_in (scalar_of e) ≡ variable_of e
variable_is e = variable_at (out-TExpr e)

operand_at : (e : TExpr) (z : TExpr-F TExpr) → out-TExpr e ≡ z → read_in (scalar_of (unconverted_step e z)) ≡ read_step z
operand_at e (TExpr-F.Variable node n) is = ap (λ (w : TExpr-F TExpr). read_in (scalar_step w)) is
operand_at e (TExpr-F.Object node n) is = ap (λ (w : TExpr-F TExpr). read_in (scalar_step w)) is
operand_at e (TExpr-F.Convert node a) is = variable_is a
operand_at e z is = ap (λ (w : TExpr-F TExpr). read_in (scalar_step w)) is

-- an operand that may be converted
pub operand_is : (e : TExpr) → read_in (scalar_of (unconverted e)) ≡ read_of e
operand_is e = operand_at e (out-TExpr e) refl

pub same_is : (s t : Scalar) → same_scalar s t ≡ true → s ≡ t
same_is (Variable m) (Variable n) h = ap Variable (eqb-true m n h)
same_is (Object m) (Object n) h = ap Object (eqb-true m n h)
same_is (Variable m) (Object n) h = absurd (true≢false (sym h))
same_is (Object m) (Variable n) h = absurd (true≢false (sym h))

-- the second read of one scalar
again_reads : (s t : Scalar) (m n : ℕ) → read_in (same_read (Some (record { scalar = s; node = m })) (Some (record { scalar = t; node = n }))) ≡ read_again (read_at s m) (read_at t n)
again_reads (Variable a) (Variable b) m n = by (nat_eq a b)
  where
    by : (same : Bool) → read_in (if same then Some (record { scalar = Variable b; node = n }) else None) ≡ (if same then Some (record { variable = b; node = n }) else None)
    by true = refl
    by false = refl
again_reads (Variable a) (Object b) m n = refl
again_reads (Object a) (Variable b) m n = refl
again_reads (Object a) (Object b) m n = by (nat_eq a b)
  where
    by : (same : Bool) → read_in (if same then Some (record { scalar = Object b; node = n }) else None) ≡ None
    by true = refl
    by false = refl

same_reads : (s t : Option ScalarRead) → read_in (same_read s t) ≡ read_again (read_in s) (read_in t)
same_reads None t = refl
same_reads (Some s) None = none (read_at s.scalar s.node)
  where
    none : (r : Option Read) → None ≡ read_again r None
    none None = refl
    none (Some r) = refl
same_reads (Some s) (Some t) = again_reads s.scalar t.scalar s.node t.node

pub again_is : (left e : TExpr) → read_in (again (scalar_of left) e) ≡ read_again (variable_of left) (read_of e)
again_is left e = same_reads (scalar_of left) (scalar_of (unconverted e)) ∙ (λ i. read_again (variable_is left i) (operand_is e i))

-- it is of that scalar, and is what the operand is
pub same_found : (s t : Option ScalarRead) (r : ScalarRead) → same_read s t ≡ Some r → ((a : ScalarRead) × (s ≡ Some a) × (r.scalar ≡ a.scalar)) × (t ≡ Some r)
same_found None t r h = absurd cc
same_found (Some a) None r h = absurd cc
same_found (Some a) (Some b) r h = by (same_scalar a.scalar b.scalar) refl h
  where
    by : (same : Bool) → same_scalar a.scalar b.scalar ≡ same → (if same then Some b else None) ≡ Some r
        → ((x : ScalarRead) × (Some a ≡ Some x) × (r.scalar ≡ x.scalar)) × (Some b ≡ Some r)
    by true is found = ((a, refl, ap (λ (x : ScalarRead). x.scalar) (sym (same_Some b r found)) ∙ sym (same_is a.scalar b.scalar is)), found)
    by false is found = absurd cc

-- what an operand does without its conversion
pub unconverted_at : (e : TExpr) (x : TExpr-F TExpr) → used e ≡ uses_at x → uses_of (unconverted_step e x) ≡ uses_of e
unconverted_at e (TExpr-F.Convert node a) is = sym (ap (λ (u : Used). u.uses) is)
unconverted_at e _ is = refl

pub unconverted_uses : (e : TExpr) → uses_of (unconverted e) ≡ uses_of e
unconverted_uses e = unconverted_at e (out-TExpr e) (used_is e)

before_at : (e : TExpr) (z : TExpr-F TExpr) (v : TExpr) → used e ≡ uses_at z → before_conversion e z ≡ Some v → uses_of v ≡ uses_of e
before_at e (TExpr-F.Convert node a) v is h = ap uses_of (sym (same_Some a v h)) ∙ sym (ap (λ (u : Used). u.uses) is)
before_at e (TExpr-F.Number node value) v is h = ap uses_of (sym (same_Some e v h))
before_at e _ v is h = absurd cc

-- what a value does that stands beside s
pub value_uses : (e : TExpr) (side : TExpr-F TExpr) (v : TExpr) → value_beside e side ≡ Some v → uses_of v ≡ uses_of e
value_uses e (TExpr-F.Convert node s) v h = before_at e (out-TExpr e) v (used_is e) h
value_uses e _ v h = ap uses_of (sym (same_Some e v h))

-- a comparison with s reads s
by_parts : (s : Option ScalarRead) (e : Option TExpr) (k : Option WideGroup) (c : Compared) → compared_by s e k ≡ Some c → s ≡ Some c.s
by_parts None e k c h = absurd cc
by_parts (Some s) None k c h = absurd cc
by_parts (Some s) (Some e) None c h = absurd cc
by_parts (Some s) (Some e) (Some k) c h = ap (λ (d : Compared). Some d.s) (same_Some (record { s = s; e = e; kept = k }) c h)

-- a side of the comparison is s, as it is read there
pub data IsSide (s : Option ScalarRead) (left right : TExpr) (r : ScalarRead) : Type 0 where
  on_right : again s right ≡ Some r → IsSide s left right r
  on_left : again s left ≡ Some r → IsSide s left right r

side_found : (s : Option ScalarRead) (op : Bin) (left right : TExpr) (a b : Option Compared) (c : Compared)
    → compared_with s op left right ≡ a → compared_with s (turned op) right left ≡ b → either_compared a b ≡ Some c → IsSide s left right c.s
side_found s op left right (Some a) b c one other h =
    on_right (by_parts (again s right) (value_beside left (out-TExpr right)) (kept_by op) c (one ∙ h))
side_found s op left right None b c one other h =
    on_left (by_parts (again s left) (value_beside right (out-TExpr left)) (kept_by (turned op)) c (other ∙ h))

-- where a test is a comparison with s, it has a left and a right side, one of which is s
compared_at : (s : Option ScalarRead) (z : TExpr-F TExpr) (c : Compared) → compared_step s z ≡ Some c
    → (left : TExpr) × (right : TExpr) × IsSide s left right c.s × ((uses_at z).uses ≡ uses_of left ++ uses_of right)
compared_at s (TExpr-F.Binary node op kind left right) c h =
    (left, right, side_found s op left right (compared_with s op left right) (compared_with s (turned op) right left) c refl refl h, refl)
compared_at s _ c h = absurd cc

pub compared_sides : (s : Option ScalarRead) (test : TExpr) (c : Compared) → compared s test ≡ Some c
    → (left : TExpr) × (right : TExpr) × IsSide s left right c.s × (uses_of test ≡ uses_of left ++ uses_of right)
compared_sides s test c h =
    let found = compared_at s (out-TExpr test) c h in
    (found.0, found.1, found.2, ap (λ (u : Used). u.uses) (used_is test) ∙ found.3)

-- an expression is this variable
abbrev pub IsRead : Option Read → Used → Type 0
IsRead None u = Unit {0}
IsRead (Some r) u = u ≡ record { itself = Some r.variable; uses = stated.Names r.variable ∷ [] }

read_variable_at : (x : TExpr-F TExpr) → IsRead (variable_step x) (uses_at x)
read_variable_at (TExpr-F.Variable node m) = refl
read_variable_at _ = tt

pub read_variable : (e : TExpr) → IsRead (variable_of e) (used e)
read_variable e = subst (IsRead (variable_of e)) (sym (used_is e)) (read_variable_at (out-TExpr e))

-- an operand does nothing but name this variable
abbrev pub IsNamed : Option Read → List Use → Type 0
IsNamed None uses = Unit {0}
IsNamed (Some r) uses = uses ≡ stated.Names r.variable ∷ []

named_of : (r : Option Read) (u : Used) → IsRead r u → IsNamed r u.uses
named_of None u is = tt
named_of (Some r) u is = ap (λ (v : Used). v.uses) is

named_at : (x : TExpr-F TExpr) → IsNamed (read_step x) (uses_at x).uses
named_at (TExpr-F.Variable node m) = refl
named_at (TExpr-F.Convert node e) = named_of (variable_of e) (used e) (read_variable e)
named_at _ = tt

pub read_named : (e : TExpr) → IsNamed (read_of e) (uses_of e)
read_named e = subst (λ (u : Used). IsNamed (read_of e) u.uses) (sym (used_is e)) (named_at (out-TExpr e))
