-- The rows of operators do what they mean where their operands do: conversions, arithmetic, comparisons and the comma.
use Rattle.std.proofs.Common.{ℕ, ◌≤◌, Bool, true, false, Option, Some, None, refl, subst}
use Rattle.k_num.specs.declared.place.Place.{Place}
use Rattle.k_num.specs.declared.numbers.Bin.{Bin}
use Rattle.k_num.specs.declared.numbers.Kind.{Kind}
use Rattle.k_num.specs.declared.numbers.Un.{Un}
use Rattle.k_optab.specs.declared.class.Class.TheVariants as class
use Rattle.k_types_meaning.specs.declared.types.TType.{TType}
use Rattle.k_types_meaning.specs.declared.types.TType.TheVariants as ttype
use Rattle.k_types_meaning.specs.declared.tree.expression.Node.{Node}
use Rattle.k_world.specs.declared.act.Act.TheVariants as act
use Rattle.k_code.specs.declared.code.Code.{Code}
use Rattle.k_code.specs.declared.instruction.Do.TheVariants as do_
use Rattle.k_code.specs.Named.{operands, register_set}
use Rattle.k_code.specs.Steps.{behind, operation_of}
use Rattle.k_evaluation.specs.Meanings.{Meaning, kind_of, scale_of}
use Rattle.k_evaluation.specs.Meanings as means
use Rattle.k_evaluation.specs.Operators.{class_of}
use Rattle.k_evaluation.specs.Operators as row
use Rattle.k_evaluation.specs.States.{Program, ◌>>=◌, gives}
use Rattle.k_lower_code.specs.Lowered.{Lowered}
use Rattle.k_lower_code.specs.Operators as code_of
use Rattle.k_lower_code.specs.Pieces.{only, ◌>>>◌}
use Rattle.k_lower_code.specs.Pieces as pieces
use Rattle.k_lower_code.proofs.Sizes.{binds_sized}
use Rattle.k_lower_runs.proofs.Leads.{Follows, only_follows, binds}
use Rattle.k_lower_runs.proofs.Values.{Same, number, IfUsed, Always, under, Does}
use Rattle.k_lower_runs.proofs.Combined.{OnOne, OnTwo, only_value_does, used_follows, one_does, two_do, one_operation, two_operation}

module _ (code : Code) (deep count : ℕ) (program : Program) where
  pub plus_does : (node : Node) (m : Meaning) (e : Lowered) → Does code deep count m e → Does code deep count (row.plus node m) (code_of.plus node e)
  unfolding row.plus code_of.plus
  plus_does node m e is = only_value_does code deep count node m.value e.value is.value is.value_sized

  pub unary_does : (node : Node) (op : Un) (kind : Kind) (m : Meaning) (e : Lowered) → Does code deep count m e
      → Does code deep count (row.unary program node op kind m) (code_of.unary program node op kind e)
  unfolding row.unary code_of.unary operation_of operands behind register_set
  unary_does node op kind m e is = one_does code deep count node m e (row.unary_on program node.place op kind) (code_of.unary_on program node.place op kind) is
      (one_operation code deep count program node.place class.Simple (act.Unary op kind) (λ a r. do_.Unary op kind a r) (λ a r. refl) (λ a r. refl) (λ a r held c. refl))

  -- a conversion, where the type is one of numbers
  pub converts_on_one : (place : Place) (kind : Option Kind) → OnOne code deep count (row.converts program place kind) (code_of.converts program place kind)
  unfolding operation_of operands behind register_set
  converts_on_one place None = record {
    follows = λ r low o a. only_follows code deep count r (λ new. Same count r new o a) o a (λ v b new. Same count r new v b) (λ new same. same);
    sized = λ r a first. refl;
  }
  converts_on_one place (Some kind) =
      one_operation code deep count program place class.Conv (act.Convert kind) (λ a r. do_.Convert kind a r) (λ a r. refl) (λ a r. refl) (λ a r held c. refl)

  pub convert_does : (node : Node) (m : Meaning) (e : Lowered) → Does code deep count m e → Does code deep count (row.convert program node m) (code_of.convert program node e)
  unfolding row.convert code_of.convert
  convert_does node m e is = one_does code deep count node m e (row.converts program node.place (kind_of node.of)) (code_of.converts program node.place (kind_of node.of)) is
      (converts_on_one node.place (kind_of node.of))

  -- an expression of which the value is dropped
  pub dropped_follows : (m : Meaning) (e : Lowered) → Does code deep count m e → (used : Bool) (r : ℕ) → count ≤ r
      → Follows code deep count r Always (m.value false >>= λ a. gives means.nothing) (e.value false r >>> λ a. only pieces.nothing) (λ o a new. IfUsed used count r o a new)
  dropped_follows m e is used r low = binds code deep count r Always (m.value false) (e.value false r) (λ o a new. IfUsed false count r o a new)
      (λ a. gives means.nothing) (λ a. only pieces.nothing) (λ o a new. IfUsed used count r o a new) (is.value_sized false r) (is.value false r low)
      (λ o. only_follows code deep count r (λ new. IfUsed false count r o (e.value false r).gives new) means.nothing pieces.nothing (λ o a new. IfUsed used count r o a new)
      (λ new given is_used. number (Rattle.std.proofs.Common.pos 0)))

  cast_follows : (place : Place) (of : TType) (m : Meaning) (e : Lowered) → Does code deep count m e → (used : Bool) (r : ℕ) → count ≤ r
      → Follows code deep count r Always (row.cast_to program place of m used) (code_of.cast_to program place of e used r) (λ o a new. IfUsed used count r o a new)
  cast_follows place ttype.Void m e is used r low = dropped_follows m e is used r low
  cast_follows place (ttype.Number kind) m e is used r low =
      under code deep count r Always Always (m.value true >>= row.converts program place (Some kind)) (e.value true r >>> code_of.converts program place (Some kind) r)
      (λ v b new. Same count r new v b) (λ v b new. IfUsed used count r v b new) (λ registers p. p) (λ v new same is_used. same)
      (binds code deep count r Always (m.value true) (e.value true r) (λ o a new. Same count r new o a) (row.converts program place (Some kind))
      (code_of.converts program place (Some kind) r) (λ v b new. Same count r new v b) (is.value_sized true r) (used_follows code deep count m e is r low)
      (λ o. (converts_on_one place (Some kind)).follows r low o (e.value true r).gives))
  cast_follows place (ttype.Pointer target) m e is used r low = is.value used r low

  cast_sized : (place : Place) (of : TType) (m : Meaning) (e : Lowered) → Does code deep count m e → (used : Bool) (r : ℕ)
      → Rattle.k_lower_code.proofs.Sizes.IsSized (code_of.cast_to program place of e used r)
  cast_sized place ttype.Void m e is used r = binds_sized (e.value false r) (λ a. only pieces.nothing) (is.value_sized false r) (λ first. refl)
  cast_sized place (ttype.Number kind) m e is used r =
      binds_sized (e.value true r) (code_of.converts program place (Some kind) r) (is.value_sized true r) ((converts_on_one place (Some kind)).sized r (e.value true r).gives)
  cast_sized place (ttype.Pointer target) m e is used r = is.value_sized used r

  pub cast_does : (node : Node) (m : Meaning) (e : Lowered) → Does code deep count m e → Does code deep count (row.cast program node m) (code_of.cast program node e)
  unfolding row.cast code_of.cast
  cast_does node m e is = only_value_does code deep count node (row.cast_to program node.place node.of m) (code_of.cast_to program node.place node.of e)
      (cast_follows node.place node.of m e is) (cast_sized node.place node.of m e is)

  -- an operation of a binary operator
  pub binary_on_two : (place : Place) (op : Bin) (kind : Kind) → OnTwo code deep count (row.binary_on program place op kind) (code_of.binary_on program place op kind)
  unfolding operation_of operands behind register_set
  binary_on_two place op kind =
      two_operation code deep count program place (class_of op) (act.Binary op kind) (λ a b r. do_.Binary op kind a b r) (λ a b r. refl) (λ a b r. refl) (λ a b r held c. refl)

  pub binary_does : (node : Node) (op : Bin) (kind : Kind) (m n : Meaning) (e f : Lowered) → Does code deep count m e → Does code deep count n f
      → Does code deep count (row.binary program node op kind m n) (code_of.binary program node op kind e f)
  unfolding row.binary code_of.binary
  binary_does node op kind m n e f is other =
      two_do code deep count node m n e f (row.binary_on program node.place op kind) (code_of.binary_on program node.place op kind) is other (binary_on_two node.place op kind)

  pub compare_does : (node : Node) (op : Bin) (m n : Meaning) (e f : Lowered) → Does code deep count m e → Does code deep count n f
      → Does code deep count (row.compare program node op m n) (code_of.compare program node op e f)
  unfolding row.compare code_of.compare operation_of operands behind register_set
  compare_does node op m n e f is other =
      two_do code deep count node m n e f (row.compare_on program node.place op) (code_of.compare_on program node.place op) is other
      (two_operation code deep count program node.place class.Simple (act.PtrCompare op) (λ a b r. do_.PtrCompare op a b r) (λ a b r. refl) (λ a b r. refl) (λ a b r held c. refl))

  pub comma_does : (node : Node) (m n : Meaning) (e f : Lowered) → Does code deep count m e → Does code deep count n f → Does code deep count (row.comma node m n) (code_of.comma node e f)
  unfolding row.comma code_of.comma
  comma_does node m n e f is other = only_value_does code deep count node (λ used. m.value false >>= λ a. n.value used) (λ used r. e.value false r >>> λ a. f.value used r)
      (λ used r low. binds code deep count r Always (m.value false) (e.value false r) (λ o a new. IfUsed false count r o a new)
      (λ a. n.value used) (λ a. f.value used r) (λ o a new. IfUsed used count r o a new) (is.value_sized false r) (is.value false r low)
      (λ o. under code deep count r Always (λ new. IfUsed false count r o (e.value false r).gives new) (n.value used) (f.value used r)
      (λ o a new. IfUsed used count r o a new) (λ o a new. IfUsed used count r o a new) (λ registers p. tt) (λ o new given. given) (other.value used r low)))
      (λ used r. binds_sized (e.value false r) (λ a. f.value used r) (is.value_sized false r) (other.value_sized used r))

  pub distance_does : (node : Node) (m n : Meaning) (e f : Lowered) → Does code deep count m e → Does code deep count n f
      → Does code deep count (row.distance program node m n) (code_of.distance program node e f)
  unfolding row.distance code_of.distance operation_of operands behind register_set
  distance_does node m n e f is other =
      two_do code deep count node m n e f (row.distance_on program node.place (scale_of m.node.of)) (code_of.distance_on program node.place (scale_of e.node.of)) is other
      (subst (λ (of : Node). OnTwo code deep count (row.distance_on program node.place (scale_of m.node.of)) (code_of.distance_on program node.place (scale_of of.of))) is.node
      (two_operation code deep count program node.place class.Div (act.PtrDistance (scale_of m.node.of)) (λ a b r. do_.PtrDistance (scale_of m.node.of) a b r)
      (λ a b r. refl) (λ a b r. refl) (λ a b r held c. refl)))
