-- Rows of one and of two operands do what they mean where their operands do.
use Rattle.std.proofs.Common.{ℕ, ◌≡◌, ◌+◌, ◌≤◌, Bool, true, false, [], ◌∷◌, map, Some, pos, refl, sym, ap, ◌∙◌, arith}
use Rattle.k_num.specs.declared.place.Place.{Place}
use Rattle.k_optab.specs.declared.class.Class.{Class}
use Rattle.k_optab.specs.declared.class.Class.TheVariants as class
use Rattle.k_types_meaning.specs.declared.types.TType.{TType}
use Rattle.k_types_meaning.specs.declared.types.TType.TheVariants as ttype
use Rattle.k_types_meaning.specs.declared.tree.expression.Node.{Node}
use Rattle.k_world.specs.declared.act.Act.{Act}
use Rattle.k_world.specs.declared.act.Act.TheVariants as act
use Rattle.k_world.specs.declared.value.Held.{Held}
use Rattle.k_code.specs.declared.code.Code.{Code}
use Rattle.k_code.specs.declared.instruction.Arg.{Arg}
use Rattle.k_code.specs.declared.instruction.Arg.TheVariants.{Reg}
use Rattle.k_code.specs.declared.instruction.Do.{Do}
use Rattle.k_code.specs.declared.instruction.Do.TheVariants as do_
use Rattle.k_code.specs.Named.{operands, register_set}
use Rattle.k_code.specs.Steps.{Configuration, behind, onward, operation_of, read_of, with_register}
use Rattle.k_evaluation.specs.declared.operand.Operand.{Operand}
use Rattle.k_evaluation.specs.declared.operand.Operand.TheVariants.{Register}
use Rattle.k_evaluation.specs.declared.operand.Target.{Target}
use Rattle.k_evaluation.specs.declared.operand.Target.TheVariants as target
use Rattle.k_evaluation.specs.States.{Program, Part, ◌>>=◌, gives, read, computes}
use Rattle.k_evaluation.specs.Meanings.{Meaning}
use Rattle.k_evaluation.specs.Meanings as means
use Rattle.k_lower_code.specs.Pieces.{Piece, only, ◌>>>◌, sets}
use Rattle.k_lower_code.specs.Pieces as pieces
use Rattle.k_lower_code.specs.Lowered.{Lowered, Designated, InRegister, InMemory}
use Rattle.k_lower_code.specs.Lowered as lowers
use Rattle.k_lower_code.proofs.Sizes.{IsSized, binds_sized}
use Rattle.k_lower_runs.proofs.Leads.{Registers, Follows, only_follows, binds}
use Rattle.k_lower_runs.proofs.Values.{Within, Same, number, variable, SamePlace, same_matches, in_register, in_memory, IfUsed, same_kept, reads_same, Always, also, under, computes_follow, Does}

module _ (code : Code) (deep count : ℕ) where
  -- AN OPERATION ON ONE OPERAND follows it: it does the same and has its size
  pub record OnOne (operation : Operand → Part Operand) (lowered : ℕ → Arg → Piece Arg) : Type 0 where
    pub follows : (r : ℕ) → count ≤ r → (o : Operand) (a : Arg)
        → Follows code deep count r (λ new. Same count r new o a) (operation o) (lowered r a) (λ v b new. Same count r new v b)
    pub sized : (r : ℕ) (a : Arg) → IsSized (lowered r a)

  -- and one on two
  pub record OnTwo (operation : Operand → Operand → Part Operand) (lowered : ℕ → Arg → Arg → Piece Arg) : Type 0 where
    pub follows : (r low high below above : ℕ) → count ≤ r → (o : Operand) (a : Arg) (p : Operand) (b : Arg)
        → Follows code deep count r (λ new. Within count below above new p b × Within count low high new o a) (operation o p) (lowered r a b) (λ v c new. Same count r new v c)
    pub sized : (r : ℕ) (a b : Arg) → IsSized (lowered r a b)

  -- what is no place
  pub no_place : (r : ℕ) → Follows code deep count r Always (gives (target.InMemory means.nothing)) (only (InMemory pieces.nothing)) (λ t d new. SamePlace count r new t d)
  no_place r = only_follows code deep count r Always (target.InMemory means.nothing) (InMemory pieces.nothing) (λ t d new. SamePlace count r new t d)
      (λ new p. in_memory means.nothing pieces.nothing (number (pos 0)))

  pub only_value_does : (node : Node) (v : Bool → Part Operand) (l : Bool → ℕ → Piece Arg)
      → ((used : Bool) (r : ℕ) → count ≤ r → Follows code deep count r Always (v used) (l used r) (λ o a new. IfUsed used count r o a new))
      → ((used : Bool) (r : ℕ) → IsSized (l used r)) → Does code deep count (means.only_value node v) (lowers.only_value node l)
  only_value_does node v l follows sized = record {
    value = follows;
    place = λ r low. no_place r;
    value_sized = sized;
    place_sized = λ r first. refl;
    node = refl;
    text = refl;
  }

  -- a value that is used is one operand
  pub used_follows : (m : Meaning) (e : Lowered) → Does code deep count m e → (r : ℕ) → count ≤ r
      → Follows code deep count r Always (m.value true) (e.value true r) (λ o a new. Same count r new o a)
  used_follows m e is r low = under code deep count r Always Always (m.value true) (e.value true r) (λ o a new. IfUsed true count r o a new)
      (λ o a new. Same count r new o a) (λ registers p. p) (λ o new given. given refl) (is.value true r low)

  pub one_does : (node : Node) (m : Meaning) (e : Lowered) (operation : Operand → Part Operand) (lowered : ℕ → Arg → Piece Arg)
      → Does code deep count m e → OnOne operation lowered → Does code deep count (means.on_one node m operation) (lowers.on_one node e lowered)
  one_does node m e operation lowered is one = only_value_does node (λ used. m.value true >>= operation) (λ used r. e.value true r >>> lowered r)
      (λ used r low. under code deep count r Always Always (m.value true >>= operation) (e.value true r >>> lowered r)
      (λ v b new. Same count r new v b) (λ v b new. IfUsed used count r v b new) (λ registers p. p) (λ v new same is_used. same)
      (binds code deep count r Always (m.value true) (e.value true r) (λ o a new. Same count r new o a) operation (lowered r) (λ v b new. Same count r new v b)
      (is.value_sized true r) (used_follows m e is r low) (λ o. one.follows r low o (e.value true r).gives)))
      (λ used r. binds_sized (e.value true r) (lowered r) (is.value_sized true r) (one.sized r (e.value true r).gives))

  pub behind_one_is : (m : Meaning) (e : Lowered) (operation : Operand → Operand → Part Operand) (lowered : ℕ → Arg → Arg → Piece Arg)
      → Does code deep count m e → OnTwo operation lowered → OnOne (means.behind_one m operation) (lowers.behind_one e lowered)
  behind_one_is m e operation lowered is two = record {
    follows = λ r low o a. binds code deep count r (λ new. Same count r new o a) (m.value true) (e.value true (r + 1))
        (λ p b new. Same count (r + 1) new p b × Same count r new o a) (operation o) (lowered r a) (λ v c new. Same count r new v c)
        (is.value_sized true (r + 1))
        (also code deep count r (m.value true) (e.value true (r + 1)) (λ p b new. Same count (r + 1) new p b) (λ new. Same count r new o a)
        (λ old new keeps same. same_kept count r old new o a low keeps same) (used_follows m e is (r + 1) (omega (arith, low))))
        (λ p. two.follows r r r (r + 1) (r + 1) low o a p (e.value true (r + 1)).gives);
    sized = λ r a. binds_sized (e.value true (r + 1)) (lowered r a) (is.value_sized true (r + 1)) (two.sized r a (e.value true (r + 1)).gives);
  }

  pub two_do : (node : Node) (m n : Meaning) (e f : Lowered) (operation : Operand → Operand → Part Operand) (lowered : ℕ → Arg → Arg → Piece Arg)
      → Does code deep count m e → Does code deep count n f → OnTwo operation lowered → Does code deep count (means.on_two node m n operation) (lowers.on_two node e f lowered)
  two_do node m n e f operation lowered is other two =
      one_does node m e (means.behind_one n operation) (lowers.behind_one f lowered) is (behind_one_is n f operation lowered other two)

  -- an operation of one operand, as an instruction
  pub one_operation : (program : Program) (place : Place) (class : Class) (what : Act) (act : Arg → ℕ → Do)
      → ((a : Arg) (r : ℕ) → operation_of (act a r) ≡ Some (class, what)) → ((a : Arg) (r : ℕ) → operands (act a r) ≡ a ∷ [])
      → ((a : Arg) (r : ℕ) (held : Held) (c : Configuration) → behind code place (act a r) held c ≡ onward c (with_register (Some r) (Some held) c.frame) c.world)
      → OnOne (λ o. computes program class place what (o ∷ [])) (λ r a. sets program place (act a) r)
  one_operation program place class what act of names set = record {
    follows = λ r low o a. computes_follow code deep count r (λ new. Same count r new o a) program place class what (o ∷ []) (act a) low (of a r)
        (λ s registers agrees same. ap (λ x. x ∷ []) (reads_same count r r registers s o a same agrees) ∙ ap (map (read_of registers)) (sym (names a r)))
        (set a r);
    sized = λ r a first. refl;
  }

  -- an operation of two
  pub two_operation : (program : Program) (place : Place) (class : Class) (what : Act) (act : Arg → Arg → ℕ → Do)
      → ((a b : Arg) (r : ℕ) → operation_of (act a b r) ≡ Some (class, what)) → ((a b : Arg) (r : ℕ) → operands (act a b r) ≡ a ∷ b ∷ [])
      → ((a b : Arg) (r : ℕ) (held : Held) (c : Configuration) → behind code place (act a b r) held c ≡ onward c (with_register (Some r) (Some held) c.frame) c.world)
      → OnTwo (λ o p. computes program class place what (o ∷ p ∷ [])) (λ r a b. sets program place (act a b) r)
  two_operation program place class what act of names set = record {
    follows = λ r low high below above least o a p b. computes_follow code deep count r (λ new. Within count below above new p b × Within count low high new o a) program place class what
        (o ∷ p ∷ []) (act a b) least (of a b r)
        (λ s registers agrees same.
        ap (λ x. x ∷ read s p ∷ []) (reads_same count low high registers s o a same.1 agrees)
        ∙ ap (λ x. read_of registers a ∷ x ∷ []) (reads_same count below above registers s p b same.0 agrees)
        ∙ ap (map (read_of registers)) (sym (names a b r)))
        (set a b r);
    sized = λ r a b first. refl;
  }

  -- THE VALUE OF A PLACE follows it
  value_in_memory_follows : (program : Program) (place : Place) (of : TType) (used : Bool) (r : ℕ) → count ≤ r → (o : Operand) (a : Arg)
      → Follows code deep count r (λ new. Same count r new o a) (means.value_in_memory program place of used o) (lowers.value_in_memory program place of used r a) (λ v b new. IfUsed used count r v b new)
  unfolding operation_of operands behind register_set
  value_in_memory_follows program place ttype.Void used r low o a =
      only_follows code deep count r (λ new. Same count r new o a) means.nothing pieces.nothing (λ v b new. IfUsed used count r v b new) (λ new same is_used. number (pos 0))
  value_in_memory_follows program place (ttype.Number kind) false r low o a =
      only_follows code deep count r (λ new. Same count r new o a) means.nothing pieces.nothing (λ v b new. IfUsed false count r v b new) (λ new same is_used. number (pos 0))
  value_in_memory_follows program place (ttype.Number kind) true r low o a =
      under code deep count r (λ new. Same count r new o a) (λ new. Same count r new o a) (means.loads program place true o) (lowers.loads program place true r a)
      (λ v b new. Same count r new v b) (λ v b new. IfUsed true count r v b new) (λ registers p. p) (λ v new same is_used. same)
      ((one_operation program place class.Load act.Load (λ a r. do_.Load a r) (λ a r. refl) (λ a r. refl) (λ a r held c. refl)).follows r low o a)
  value_in_memory_follows program place (ttype.Pointer target) used r low o a =
      only_follows code deep count r (λ new. Same count r new o a) o a (λ v b new. IfUsed used count r v b new) (λ new same is_used. same)

  value_at_follows : (program : Program) (node : Node) (used : Bool) (r : ℕ) → count ≤ r → (t : Target) (d : Designated)
      → Follows code deep count r (λ new. SamePlace count r new t d) (means.value_at program node used t) (lowers.value_at program node used r d) (λ v b new. IfUsed used count r v b new)
  value_at_follows program node used r low (target.InRegister n broken) (InRegister m other) =
      only_follows code deep count r (λ new. SamePlace count r new (target.InRegister n broken) (InRegister m other)) (Register n broken) (Reg m other) (λ v b new. IfUsed used count r v b new)
      (λ new same is_used. by_register n broken m other new same)
    where
      by_register : (n : ℕ) (broken : Bool) (m : ℕ) (other : Bool) (new : Registers) → SamePlace count r new (target.InRegister n broken) (InRegister m other) → Same count r new (Register n broken) (Reg m other)
      by_register _ _ _ _ new (in_register n broken below) = variable n broken below
  value_at_follows program node used r low (target.InMemory o) (InMemory a) =
      under code deep count r (λ new. Same count r new o a) (λ new. SamePlace count r new (target.InMemory o) (InMemory a)) (means.value_in_memory program node.place node.of used o)
      (lowers.value_in_memory program node.place node.of used r a) (λ v b new. IfUsed used count r v b new) (λ v b new. IfUsed used count r v b new)
      (λ registers same. by_memory registers same) (λ v new given. given) (value_in_memory_follows program node.place node.of used r low o a)
    where
      by_memory : (new : Registers) → SamePlace count r new (target.InMemory o) (InMemory a) → Same count r new o a
      by_memory new (in_memory _ _ same) = same
  value_at_follows program node used r low (target.InRegister n broken) (InMemory a) =
      λ site first s registers has agrees p. absurd (same_matches count r registers (target.InRegister n broken) (InMemory a) p)
  value_at_follows program node used r low (target.InMemory o) (InRegister m other) =
      λ site first s registers has agrees p. absurd (same_matches count r registers (target.InMemory o) (InRegister m other) p)

  value_in_memory_sized : (program : Program) (place : Place) (of : TType) (used : Bool) (r : ℕ) (a : Arg) → IsSized (lowers.value_in_memory program place of used r a)
  value_in_memory_sized program place ttype.Void used r a first = refl
  value_in_memory_sized program place (ttype.Number kind) false r a first = refl
  value_in_memory_sized program place (ttype.Number kind) true r a first = refl
  value_in_memory_sized program place (ttype.Pointer target) used r a first = refl

  value_at_sized : (program : Program) (node : Node) (used : Bool) (r : ℕ) (d : Designated) → IsSized (lowers.value_at program node used r d)
  value_at_sized program node used r (InRegister n broken) = λ first. refl
  value_at_sized program node used r (InMemory a) = value_in_memory_sized program node.place node.of used r a

  pub at_place_does : (program : Program) (node : Node) (place : Part Target) (lowered : ℕ → Piece Designated)
      → ((r : ℕ) → count ≤ r → Follows code deep count r Always place (lowered r) (λ t d new. SamePlace count r new t d))
      → ((r : ℕ) → IsSized (lowered r)) → Does code deep count (means.at_place program node place) (lowers.at_place program node lowered)
  at_place_does program node place lowered follows sized = record {
    value = λ used r low. binds code deep count r Always place (lowered r) (λ t d new. SamePlace count r new t d) (means.value_at program node used)
        (lowers.value_at program node used r) (λ v b new. IfUsed used count r v b new) (sized r) (follows r low) (λ t. value_at_follows program node used r low t (lowered r).gives);
    place = follows;
    value_sized = λ used r. binds_sized (lowered r) (lowers.value_at program node used r) (sized r) (value_at_sized program node used r (lowered r).gives);
    place_sized = sized;
    node = refl;
    text = refl;
  }
