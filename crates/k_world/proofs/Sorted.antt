-- What is read of operands that are set.
use Rattle.std.proofs.Common.{◌≡◌, ◌≢◌, ℕ, ◌<◌, ◌≤◌, zero, suc, List, [], ◌∷◌, length, Option, Some, None, Bool, true, false, ◌&&◌, ℤ, IsTrue, refl, sym, ◌∙◌, ap, arith}
use Rattle.k_num.specs.declared.numbers.Kind.{Kind}
use Rattle.k_num.specs.declared.numbers.Kind.TheVariants.{I64}
use Rattle.k_num.specs.declared.numbers.Bin.{Bin}
use Rattle.k_num.specs.declared.numbers.Bin.TheVariants.{Shl, Shr}
use Rattle.k_num.specs.Arithmetic.{CanBeRight}
use Rattle.k_num.specs.Kind.{is_held}
use Rattle.k_world.specs.declared.value.Held.{Held}
use Rattle.k_world.specs.declared.value.Read.{Read}
use Rattle.k_world.specs.declared.value.Value.{Value}
use Rattle.k_world.specs.Acts.{one_value, two_values, right_kind}
use Rattle.k_world.specs.Operands.{is_set, are_set, value_before, values_of}

slot_counts : (x : Option Held) (reads : List Read) → is_set x && are_set reads ≡ true
    → (are_set reads ≡ true → length (values_of reads) ≡ length reads) → length (value_before x (values_of reads)) ≡ suc (length reads)
slot_counts None reads set rest = absurd (cc)
slot_counts (Some x) reads set rest = ap (λ n. suc n) (rest set)

-- operands that are set have as many values
pub length_values : (reads : List Read) → are_set reads ≡ true → length (values_of reads) ≡ length reads
length_values [] set = refl
length_values (r ∷ reads) set = slot_counts r.slot reads set (length_values reads)

one_of : (values : List Value) → (length values ≡ 1 → ⊥) → None ≡ one_value values
one_of [] other = refl
one_of (a ∷ []) other = absurd (other refl)
one_of (a ∷ b ∷ values) other = refl

two_of : (values : List Value) → (length values ≡ 2 → ⊥) → None ≡ two_values values
two_of [] other = refl
two_of (a ∷ []) other = refl
two_of (a ∷ b ∷ []) other = absurd (other refl)
two_of (a ∷ b ∷ c ∷ values) other = refl

-- of more or fewer operands than one none is the one
pub not_one : (reads : List Read) → are_set reads ≡ true → (length reads ≡ 1 → ⊥) → None ≡ one_value (values_of reads)
not_one reads set other = one_of (values_of reads) (λ e. other (sym (length_values reads set) ∙ e))

-- nor are more or fewer than two the two
pub not_two : (reads : List Read) → are_set reads ≡ true → (length reads ≡ 2 → ⊥) → None ≡ two_values (values_of reads)
not_two reads set other = two_of (values_of reads) (λ e. other (sym (length_values reads set) ∙ e))

-- a value of the kind to which the right operand is converted may stand there
pub can_be_right : (op : Bin) (kind : Kind) (b : ℤ) → IsTrue (is_held (right_kind op kind) b) → CanBeRight op kind b
can_be_right Shl kind b h = (I64, h)
can_be_right Shr kind b h = (I64, h)
can_be_right op kind b h = h
