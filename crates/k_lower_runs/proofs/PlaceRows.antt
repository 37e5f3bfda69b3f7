-- The rows of constants and places do what they mean where their operands do.
use Rattle.std.proofs.Common.{ℕ, ◌≡◌, ◌≤◌, ◌<◌, ◌+◌, Bool, true, false, ℤ, List, [], ◌∷◌, Some, pos, refl, ap, ◌∙◌, subst, arith}
use Rattle.std.proofs.lemmas.Bool.{false≢true}
use Rattle.k_num.specs.declared.place.Place.{Place}
use Rattle.k_optab.specs.declared.class.Class.TheVariants as class
use Rattle.k_types_meaning.specs.declared.tree.expression.Node.{Node}
use Rattle.k_types_meaning.specs.declared.tree.unit.TVariable.{TVariable}
use Rattle.k_world.specs.declared.act.Act.TheVariants as act
use Rattle.k_world.specs.declared.value.Value.TheVariants as value
use Rattle.k_code.specs.declared.code.Code.{Code}
use Rattle.k_code.specs.declared.instruction.Arg.{Arg}
use Rattle.k_code.specs.declared.instruction.Arg.TheVariants.{Number, Reg}
use Rattle.k_code.specs.declared.instruction.Do.TheVariants as do_
use Rattle.k_code.specs.declared.instruction.Home.TheVariants.{File}
use Rattle.k_code.specs.Named.{operands, register_set}
use Rattle.k_code.specs.Steps.{alone, behind, operation_of, read_of}
use Rattle.k_evaluation.specs.declared.operand.Operand.{Operand}
use Rattle.k_evaluation.specs.declared.operand.Operand.TheVariants.{Constant, Register}
use Rattle.k_evaluation.specs.declared.operand.Target.{Target}
use Rattle.k_evaluation.specs.declared.operand.Target.TheVariants as target
use Rattle.k_evaluation.specs.Meanings.{Meaning, scale_of}
use Rattle.k_evaluation.specs.Meanings as means
use Rattle.k_evaluation.specs.Places as row
use Rattle.k_world.specs.Values.{pointer_to}
use Rattle.k_evaluation.specs.States.{Program, Part, ◌>>=◌, gives, read}
use Rattle.k_lower_code.specs.Lowered.{Lowered, Designated, InRegister, InMemory}
use Rattle.k_lower_code.specs.Places as code_of
use Rattle.k_lower_code.specs.Pieces.{Piece, only, ◌>>>◌, does}
use Rattle.k_lower_code.specs.Pieces as pieces
use Rattle.k_lower_code.proofs.Sizes.{IsSized, binds_sized}
use Rattle.k_lower_runs.proofs.Leads.{Registers, Follows, only_follows, binds}
use Rattle.k_lower_runs.proofs.Instructions.{alone_follows}
use Rattle.k_lower_runs.proofs.Values.{Within, Same, number, variable, constant, SamePlace, in_register, in_memory, same_kept, reads_same, IfUsed, Always, also, under, computes_follow, Does}
use Rattle.k_lower_runs.proofs.Combined.{OnTwo, only_value_does, used_follows, at_place_does, two_do, two_operation}

module _ (code : Code) (deep count : ℕ) (program : Program) where
  pub number_does : (node : Node) (z : ℤ) → Does code deep count (row.number node z) (code_of.number node z)
  unfolding row.number code_of.number
  number_does node z = only_value_does code deep count node (λ used. gives (Constant (value.Number z))) (λ used r. only (Number z))
      (λ used r low. only_follows code deep count r Always (Constant (value.Number z)) (Number z) (λ o a new. IfUsed used count r o a new) (λ new p is_used. number z))
      (λ used r first. refl)

  -- the address of an object of the program
  pub address_follows : (place : Place) (object : ℕ) (r : ℕ) → count ≤ r
      → Follows code deep count r Always (gives (row.address_of object)) (code_of.address_of program place object r) (λ o a new. Same count r new o a)
  unfolding alone operation_of
  address_follows place object r low =
      binds code deep count r Always (gives {A = Unit {0}} tt) (does program place (do_.Address (File object) 0 r)) (λ u done new. new r ≡ Some (pointer_to object 0))
      (λ u. gives (row.address_of object)) (λ done. only (Reg r false)) (λ o a new. Same count r new o a) (λ first. refl)
      (alone_follows code deep count r Always program place (do_.Address (File object) 0 r) (pointer_to object 0) refl (λ site first registers w p. refl) low)
      (λ u. only_follows code deep count r (λ new. new r ≡ Some (pointer_to object 0)) (row.address_of object) (Reg r false) (λ o a new. Same count r new o a)
      (λ new is. constant (pointer_to object 0).value r (omega arith) (omega arith) is))

  string_follows : (place : Place) (object : ℕ) (used : Bool) (r : ℕ) → count ≤ r
      → Follows code deep count r Always (gives (row.address_of object)) (code_of.string_value program place object used r) (λ o a new. IfUsed used count r o a new)
  string_follows place object false r low =
      only_follows code deep count r Always (row.address_of object) pieces.nothing (λ o a new. IfUsed false count r o a new) (λ new p is_used. absurd (false≢true is_used))
  string_follows place object true r low =
      under code deep count r Always Always (gives (row.address_of object)) (code_of.address_of program place object r)
      (λ o a new. Same count r new o a) (λ o a new. IfUsed true count r o a new) (λ registers p. p) (λ o new same is_used. same) (address_follows place object r low)

  string_sized : (place : Place) (object : ℕ) (used : Bool) (r : ℕ) → IsSized (code_of.string_value program place object used r)
  string_sized place object false r first = refl
  string_sized place object true r first = refl

  pub string_does : (node : Node) (n : ℕ) (bytes : List ℕ) → Does code deep count (row.string program node n bytes) (code_of.string program node n bytes)
  unfolding row.string code_of.string
  string_does node n bytes = record {
    value = λ used r low. string_follows node.place (row.string_number program n) used r low;
    place = λ r low. only_follows code deep count r Always (target.InMemory means.nothing) (InMemory pieces.nothing) (λ t d new. SamePlace count r new t d)
        (λ new p. in_memory means.nothing pieces.nothing (number (pos 0)));
    value_sized = λ used r. string_sized node.place (row.string_number program n) used r;
    place_sized = λ r first. refl;
    node = refl;
    text = refl;
  }

  -- what stands at an operand
  pub in_memory_follows : (r : ℕ) (P : Registers → Type 0) (part : Part Operand) (piece : Piece Arg) → IsSized piece
      → Follows code deep count r P part piece (λ o a new. Same count r new o a)
      → Follows code deep count r P (part >>= λ o. gives (target.InMemory o)) (piece >>> λ a. only (InMemory a)) (λ t d new. SamePlace count r new t d)
  in_memory_follows r P part piece sized follows =
      binds code deep count r P part piece (λ o a new. Same count r new o a) (λ o. gives (target.InMemory o)) (λ a. only (InMemory a)) (λ t d new. SamePlace count r new t d) sized follows
      (λ o. only_follows code deep count r (λ new. Same count r new o piece.gives) (target.InMemory o) (InMemory piece.gives) (λ t d new. SamePlace count r new t d)
      (λ new same. in_memory o piece.gives same))

  in_memory_sized : (piece : Piece Arg) → IsSized piece → IsSized (piece >>> λ a. only (InMemory a))
  in_memory_sized piece sized = binds_sized piece (λ a. only (InMemory a)) sized (λ first. refl)

  pub object_does : (node : Node) (n : ℕ) → Does code deep count (row.object program node n) (code_of.object program node n)
  unfolding row.object code_of.object
  object_does node n = at_place_does code deep count program node (gives (target.InMemory (row.address_of n))) (λ r. code_of.address_of program node.place n r >>> λ address. only (InMemory address))
      (λ r low. in_memory_follows r Always (gives (row.address_of n)) (code_of.address_of program node.place n r) (λ first. refl) (address_follows node.place n r low))
      (λ r. in_memory_sized (code_of.address_of program node.place n r) (λ first. refl))

  -- the address of an element
  pub offset_on_two : (place : Place) (minus : Bool) (scale : ℕ) → OnTwo code deep count (row.offset program place minus scale) (code_of.offset program place minus scale)
  unfolding operation_of operands behind register_set
  offset_on_two place minus scale =
      two_operation code deep count program place class.Simple (act.Offset minus scale) (λ a b r. do_.Offset minus scale a b r) (λ a b r. refl) (λ a b r. refl) (λ a b r held c. refl)

  index_follows : (node : Node) (m n : Meaning) (e f : Lowered) → Does code deep count m e → Does code deep count n f → (scale : ℕ) (r : ℕ) → count ≤ r
      → Follows code deep count r Always (m.value true >>= row.behind_base program node.place scale n) (e.value true r >>> code_of.behind_base program node.place scale f r)
      (λ t d new. SamePlace count r new t d)
  index_follows node m n e f is other scale r low =
      binds code deep count r Always (m.value true) (e.value true r) (λ o a new. Same count r new o a) (row.behind_base program node.place scale n)
      (code_of.behind_base program node.place scale f r) (λ t d new. SamePlace count r new t d) (is.value_sized true r) (used_follows code deep count m e is r low)
      (λ o. binds code deep count r (λ new. Same count r new o (e.value true r).gives) (n.value true) (f.value true (r + 1))
      (λ p b new. Same count (r + 1) new p b × Same count r new o (e.value true r).gives)
      (row.element_at program node.place scale o) (code_of.element_at program node.place scale r (e.value true r).gives) (λ t d new. SamePlace count r new t d)
      (other.value_sized true (r + 1))
      (also code deep count r (n.value true) (f.value true (r + 1)) (λ p b new. Same count (r + 1) new p b) (λ new. Same count r new o (e.value true r).gives)
      (λ old new keeps same. same_kept count r old new o (e.value true r).gives low keeps same) (used_follows code deep count n f other (r + 1) (omega (arith, low))))
      (λ p. in_memory_follows r (λ new. Same count (r + 1) new p (f.value true (r + 1)).gives × Same count r new o (e.value true r).gives)
      (row.offset program node.place false scale o p) (code_of.offset program node.place false scale r (e.value true r).gives (f.value true (r + 1)).gives)
      (λ first. refl) ((offset_on_two node.place false scale).follows r r r (r + 1) (r + 1) low o (e.value true r).gives p (f.value true (r + 1)).gives)))

  index_sized : (node : Node) (m n : Meaning) (e f : Lowered) → Does code deep count m e → Does code deep count n f → (scale : ℕ) (r : ℕ)
      → IsSized (e.value true r >>> code_of.behind_base program node.place scale f r)
  index_sized node m n e f is other scale r =
      binds_sized (e.value true r) (code_of.behind_base program node.place scale f r) (is.value_sized true r)
      (binds_sized (f.value true (r + 1)) (code_of.element_at program node.place scale r (e.value true r).gives) (other.value_sized true (r + 1)) (λ first. refl))

  pub index_does : (node : Node) (m n : Meaning) (e f : Lowered) → Does code deep count m e → Does code deep count n f
      → Does code deep count (row.index program node m n) (code_of.index program node e f)
  unfolding row.index code_of.index
  index_does node m n e f is other =
      at_place_does code deep count program node (m.value true >>= row.behind_base program node.place (scale_of m.node.of) n) (λ r. e.value true r >>> code_of.behind_base program node.place (scale_of e.node.of) f r)
      (λ r low. subst (λ (of : Node). Follows code deep count r Always (m.value true >>= row.behind_base program node.place (scale_of m.node.of) n)
      (e.value true r >>> code_of.behind_base program node.place (scale_of of.of) f r) (λ t d new. SamePlace count r new t d)) is.node
      (index_follows node m n e f is other (scale_of m.node.of) r low))
      (λ r. index_sized node m n e f is other (scale_of e.node.of) r)

  pub deref_does : (node : Node) (m : Meaning) (e : Lowered) → Does code deep count m e → Does code deep count (row.deref program node m) (code_of.deref program node e)
  unfolding row.deref code_of.deref
  deref_does node m e is = at_place_does code deep count program node (m.value true >>= λ pointer. gives (target.InMemory pointer)) (λ r. e.value true r >>> λ pointer. only (InMemory pointer))
      (λ r low. in_memory_follows r Always (m.value true) (e.value true r) (is.value_sized true r) (used_follows code deep count m e is r low))
      (λ r. in_memory_sized (e.value true r) (is.value_sized true r))

  address_same : (r : ℕ) (new : Registers) (t : Target) (d : Designated) → SamePlace count r new t d → Same count r new (row.address_at t) (code_of.address_at d)
  address_same r new _ _ (in_register n broken below) = number (pos 0)
  address_same r new _ _ (in_memory o a same) = same

  pub address_does : (node : Node) (m : Meaning) (e : Lowered) → Does code deep count m e → Does code deep count (row.address node m) (code_of.address node e)
  unfolding row.address code_of.address
  address_does node m e is = only_value_does code deep count node (λ used. m.place >>= λ t. gives (row.address_at t)) (λ used r. e.place r >>> λ d. only (code_of.address_at d))
      (λ used r low. binds code deep count r Always m.place (e.place r) (λ t d new. SamePlace count r new t d) (λ t. gives (row.address_at t)) (λ d. only (code_of.address_at d))
      (λ o a new. IfUsed used count r o a new) (is.place_sized r) (is.place r low)
      (λ t. only_follows code deep count r (λ new. SamePlace count r new t (e.place r).gives) (row.address_at t) (code_of.address_at (e.place r).gives) (λ o a new. IfUsed used count r o a new)
      (λ new same is_used. address_same r new t (e.place r).gives same)))
      (λ used r. binds_sized (e.place r) (λ d. only (code_of.address_at d)) (is.place_sized r) (λ first. refl))

  pub forward_does : (node : Node) (m n : Meaning) (e f : Lowered) → Does code deep count m e → Does code deep count n f
      → Does code deep count (row.forward program node m n) (code_of.forward program node e f)
  unfolding row.forward code_of.forward
  forward_does node m n e f is other = two_do code deep count node m n e f (row.offset program node.place false (scale_of node.of)) (code_of.offset program node.place false (scale_of node.of)) is other
      (offset_on_two node.place false (scale_of node.of))

  pub back_does : (node : Node) (m n : Meaning) (e f : Lowered) → Does code deep count m e → Does code deep count n f
      → Does code deep count (row.back program node m n) (code_of.back program node e f)
  unfolding row.back code_of.back
  back_does node m n e f is other = two_do code deep count node m n e f (row.offset program node.place true (scale_of node.of)) (code_of.offset program node.place true (scale_of node.of)) is other
      (offset_on_two node.place true (scale_of node.of))

  onto_on_two : (place : Place) (scale : ℕ) → OnTwo code deep count (row.offset_onto program place scale) (code_of.offset_onto program place scale)
  unfolding operation_of operands behind register_set
  onto_on_two place scale = record {
    follows = λ r low high below above least o a p b. computes_follow code deep count r (λ new. Within count below above new p b × Within count low high new o a) program place class.Simple
        (act.Offset false scale) (p ∷ o ∷ []) (λ r. do_.Offset false scale b a r) least refl
        (λ s registers agrees same.
        ap (λ x. x ∷ read s o ∷ []) (reads_same count below above registers s p b same.0 agrees)
        ∙ ap (λ x. read_of registers b ∷ x ∷ []) (reads_same count low high registers s o a same.1 agrees))
        (λ held c. refl);
    sized = λ r a b first. refl;
  }

  pub onto_does : (node : Node) (m n : Meaning) (e f : Lowered) → Does code deep count m e → Does code deep count n f
      → Does code deep count (row.onto program node m n) (code_of.onto program node e f)
  unfolding row.onto code_of.onto
  onto_does node m n e f is other = two_do code deep count node m n e f (row.offset_onto program node.place (scale_of node.of)) (code_of.offset_onto program node.place (scale_of node.of)) is other
      (onto_on_two node.place (scale_of node.of))

  variable_follows : (node : Node) (n : ℕ) → n < count → (b : Bool) (r : ℕ)
      → Follows code deep count r Always (row.variable_place program node n b) (only (code_of.variable_place program node n b)) (λ t d new. SamePlace count r new t d)
  variable_follows node n below true r =
      only_follows code deep count r Always (target.InRegister n (row.is_broken program node.number)) (InRegister n (row.is_broken program node.number)) (λ t d new. SamePlace count r new t d)
      (λ new p. in_register n (row.is_broken program node.number) below)
  variable_follows node n below false r =
      only_follows code deep count r Always (target.InMemory (Register n false)) (InMemory (Reg n false)) (λ t d new. SamePlace count r new t d)
      (λ new p. in_memory (Register n false) (Reg n false) (variable n false below))

  pub variable_does : (vs : List TVariable) (node : Node) (n : ℕ) → n < count → Does code deep count (row.variable program vs node n) (code_of.variable program vs node n)
  unfolding row.variable code_of.variable
  variable_does vs node n below = at_place_does code deep count program node (row.variable_place program node n (row.is_register vs n)) (λ r. only (code_of.variable_place program node n (row.is_register vs n)))
      (λ r low. variable_follows node n below (row.is_register vs n) r) (λ r first. refl)
