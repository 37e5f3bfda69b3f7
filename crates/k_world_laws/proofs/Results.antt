-- What an act in a kind gives is a number of the kind.
use Rattle.std.proofs.Common.{◌≡◌, ℤ, pos, List, Option, Some, None, Result, Ok, Err, Bool, true, false, IsTrue, IfOk, refl, sym, subst, inl, inr}
use Rattle.k_num.specs.declared.numbers.Bin.{Bin}
use Rattle.k_num.specs.declared.numbers.Kind.{Kind}
use Rattle.k_num.specs.declared.numbers.Kind.TheVariants.{I8, U8, I16, U16, I32, U32, I64, U64}
use Rattle.k_num.specs.declared.numbers.NumTrap.{NumTrap}
use Rattle.k_num.specs.declared.numbers.Un.{Un}
use Rattle.k_num.specs.declared.numbers.Un.TheVariants.{Neg, Complement, Not}
use Rattle.k_num.specs.Arithmetic.{value, unary_value}
use Rattle.k_num.specs.ArithmeticLaws.{IsTruth, gives_number}
use Rattle.k_num.specs.Kind.{is_held, converted}
use Rattle.k_num.proofs.ArithmeticLaws.{held_value, truth_value, held_negated, held_complement, truth_not}
use Rattle.k_num.proofs.KindLaws.{zero_held, held_converted}
use Rattle.k_ending.specs.Traps.{trap_of}
use Rattle.k_world.specs.declared.act.Act.{Act}
use Rattle.k_world.specs.declared.act.Act.TheVariants as act
use Rattle.k_world.specs.declared.value.Value.{Value}
use Rattle.k_world.specs.declared.value.Value.TheVariants as held
use Rattle.k_world.specs.Acts.{Given, work, given_by, then_given, right_kind, binary_work, unary_work, one_number, two_numbers}
use Rattle.k_world.specs.Worlds.{World}
use Rattle.k_world_laws.specs.Laws.{IsNumberOf, ResultsAreHeld}

-- a result, if there is one, is a number that the kind holds
abbrev IsHeldResult : Kind → Result ℤ NumTrap → Type 0
IsHeldResult kind r = IfOk r (λ z. IsTrue (is_held kind z))

-- each kind holds 1
one_held : (kind : Kind) → IsTrue (is_held kind (pos 1))
one_held I8 = refl
one_held U8 = refl
one_held I16 = refl
one_held U16 = refl
one_held I32 = refl
one_held U32 = refl
one_held I64 = refl
one_held U64 = refl

-- each kind holds 0 and 1
truth_held : (kind : Kind) (z : ℤ) → IsTruth z → IsTrue (is_held kind z)
truth_held kind z (inl zero) = subst (λ (n : ℤ). IsTrue (is_held kind n)) (sym zero) (zero_held kind)
truth_held kind z (inr one) = subst (λ (n : ℤ). IsTrue (is_held kind n)) (sym one) (one_held kind)

-- so a result of 0 or 1 is a number of each kind
truths_held : (kind : Kind) (r : Result ℤ NumTrap) → IfOk r IsTruth → IsHeldResult kind r
truths_held kind (Ok z) h = truth_held kind z h
truths_held kind (Err t) h = tt

binary_held : (op : Bin) (kind : Kind) (a b : ℤ) → IsHeldResult kind (value op kind (converted kind a) b)
binary_held op kind a b = by (gives_number op) refl
  where
    by : (number : Bool) → gives_number op ≡ number → IsHeldResult kind (value op kind (converted kind a) b)
    by true is = held_value op kind (converted kind a) b is (held_converted kind a)
    by false is = truths_held kind (value op kind (converted kind a) b) (truth_value op kind (converted kind a) b is)

unary_held : (op : Un) (kind : Kind) (a : ℤ) → IsHeldResult kind (unary_value op kind a)
unary_held Neg kind a = held_negated kind a
unary_held Complement kind a = held_complement kind a
unary_held Not kind a = truths_held kind (unary_value Not kind a) (truth_not kind a)

-- the value that a result becomes
value_held : (kind : Kind) (r : Result ℤ NumTrap) → IsHeldResult kind r → IfOk (then_given trap_of held.Number r) (IsNumberOf kind)
value_held kind (Ok z) h = h
value_held kind (Err t) h = tt

-- and what comes of operands that may be missing
operands_held : {A : Type 0} (kind : Kind) (f : A → Given) (a : Option A) → ((x : A) → IfOk (f x) (IsNumberOf kind)) → IfOk (given_by f a) (IsNumberOf kind)
operands_held kind f None h = tt
operands_held kind f (Some a) h = h a

-- an act in a kind, by the kind in which it is made
in_kind : (what : Act) (made kind : Kind) (values : List Value) (w : World) → Some made ≡ Some kind → IfOk (work what values w) (IsNumberOf made)
    → IfOk (work what values w) (IsNumberOf kind)
in_kind what made kind values w is h = let same : made ≡ kind = cc is in subst (λ (k : Kind). IfOk (work what values w) (IsNumberOf k)) same h

binary_is_held : (op : Bin) (kind : Kind) (values : List Value) (w : World) → IfOk (work (act.Binary op kind) values w) (IsNumberOf kind)
unfolding work
binary_is_held op kind values w = operands_held kind (λ n. binary_work op kind n.0 n.1) (two_numbers values)
    (λ n. value_held kind (value op kind (converted kind n.0) (converted (right_kind op kind) n.1))
    (binary_held op kind n.0 (converted (right_kind op kind) n.1)))

unary_is_held : (op : Un) (kind : Kind) (values : List Value) (w : World) → IfOk (work (act.Unary op kind) values w) (IsNumberOf kind)
unfolding work
unary_is_held op kind values w = operands_held kind (unary_work op kind) (one_number values)
    (λ a. value_held kind (unary_value op kind (converted kind a)) (unary_held op kind (converted kind a)))

convert_is_held : (kind : Kind) (values : List Value) (w : World) → IfOk (work (act.Convert kind) values w) (IsNumberOf kind)
unfolding work
convert_is_held kind values w = operands_held kind (λ a. Ok (held.Number (converted kind a))) (one_number values) (λ a. held_converted kind a)

pub results_are_held : ResultsAreHeld
results_are_held (act.Binary op made) kind values w is = in_kind (act.Binary op made) made kind values w is (binary_is_held op made values w)
results_are_held (act.Unary op made) kind values w is = in_kind (act.Unary op made) made kind values w is (unary_is_held op made values w)
results_are_held (act.Convert made) kind values w is = in_kind (act.Convert made) made kind values w is (convert_is_held made values w)
results_are_held act.Move kind values w is = absurd (cc is)
results_are_held (act.Offset minus scale) kind values w is = absurd (cc is)
results_are_held (act.PtrCompare op) kind values w is = absurd (cc is)
results_are_held (act.PtrDistance scale) kind values w is = absurd (cc is)
results_are_held act.Load kind values w is = absurd (cc is)
results_are_held act.Store kind values w is = absurd (cc is)
results_are_held act.Input kind values w is = absurd (cc is)
results_are_held (act.Output what) kind values w is = absurd (cc is)
results_are_held act.Test kind values w is = absurd (cc is)
results_are_held act.Call kind values w is = absurd (cc is)
