-- The rows of assignments, `++` and `--` do what they mean where their operands do.
use Rattle.std.proofs.Common.{ℕ, zero, suc, ◌≡◌, ◌+◌, ◌<◌, ◌≤◌, Bool, true, false, nat_eq, if◌then◌else◌, List, [], ◌∷◌, map, slice_get, slice_set, length, Option, Some, None, pos, refl, sym, subst, ap, ◌∙◌, arith}
use Rattle.std.proofs.lemmas.Bool.{eqb-true, eqb-false, false≢true}
use Rattle.k_num.specs.declared.place.Place.{Place}
use Rattle.k_num.specs.declared.numbers.Bin.{Bin}
use Rattle.k_num.specs.declared.numbers.Kind.{Kind}
use Rattle.k_optab.specs.declared.class.Class.TheVariants as class
use Rattle.k_types_meaning.specs.declared.types.TType.{TType}
use Rattle.k_types_meaning.specs.declared.tree.expression.Change.{Change}
use Rattle.k_types_meaning.specs.declared.tree.expression.Change.TheVariants as change
use Rattle.k_types_meaning.specs.declared.tree.expression.Node.{Node}
use Rattle.k_types_meaning.specs.Types.{same_kind}
use Rattle.k_world.specs.declared.act.Act.TheVariants as act
use Rattle.k_world.specs.declared.value.Held.{Held}
use Rattle.k_world.specs.Operations.{Made, Gives, Ends, operation}
use Rattle.k_optab.specs.Latencies.{latency}
use Rattle.k_code.specs.declared.code.Code.{Code}
use Rattle.k_code.specs.declared.instruction.Arg.{Arg}
use Rattle.k_code.specs.declared.instruction.Arg.TheVariants.{Reg}
use Rattle.k_code.specs.declared.instruction.Do.TheVariants as do_
use Rattle.k_code.specs.Named.{operands, register_set}
use Rattle.k_code.specs.Steps.{Going, step, behind, by_operation, operation_of, read_of, with_slot}
use Rattle.k_evaluation.specs.declared.operand.Operand.{Operand}
use Rattle.k_evaluation.specs.declared.operand.Operand.TheVariants.{Holding, Register}
use Rattle.k_evaluation.specs.declared.operand.Target.{Target}
use Rattle.k_evaluation.specs.declared.operand.Target.TheVariants as target
use Rattle.k_evaluation.specs.Assignments as row
use Rattle.k_evaluation.specs.Meanings.{Meaning, kind_of, scale_of}
use Rattle.k_evaluation.specs.Meanings as means
use Rattle.k_evaluation.specs.Operators as op_row
use Rattle.k_evaluation.specs.Places as place_row
use Rattle.k_evaluation.specs.States.{Program, State, Outcome, Goes, Stops, Part, follow, ◌>>=◌, gives, held_by, read, made, makes, sets}
use Rattle.k_lower_code.specs.Assignments as code_of
use Rattle.k_lower_code.specs.Lowered.{Lowered, Designated, InRegister, InMemory}
use Rattle.k_lower_code.specs.Lowered as lowers
use Rattle.k_lower_code.specs.Operators as op_code
use Rattle.k_lower_code.specs.Places as place_code
use Rattle.k_lower_code.specs.Pieces.{Piece, only, ◌>>>◌, does, instruction}
use Rattle.k_lower_code.proofs.Sizes.{IsSized, binds_sized}
use Rattle.k_lower_runs.proofs.Leads.{Registers, at, Agrees, Keeps, keeps_fewer, Leads, Follows, only_follows, binds, ends_at, Moves, operation_moves}
use Rattle.k_world.specs.WorldLaws.{WhereMade}
use Rattle.k_lower_runs.proofs.Leads.{goes_by_operation}
use Rattle.k_lower_runs.proofs.Instructions.{slot_here, slot_there, operation_steps, operation_beside, operation_dropped}
use Rattle.k_lower_runs.proofs.Values.{Within, Same, number, variable, held, SamePlace, in_register, in_memory, same_kept, within_kept, within_more, place_kept, reads_same, IfUsed, Always, also, also_under, under, computes_follow, Does}
use Rattle.k_lower_runs.proofs.Combined.{OnOne, OnTwo, only_value_does, used_follows}
use Rattle.k_lower_runs.proofs.OperatorRows.{converts_on_one, binary_on_two}
use Rattle.k_lower_runs.proofs.PlaceRows.{offset_on_two}

-- a list with an item set has it, and the others as before
pub got_here : (slots : List (Option Held)) (n : ℕ) (slot : Option Held) → n < length slots → held_by (slice_get (slice_set slots n slot) n) ≡ slot
got_here [] n slot below = absurd (omega (arith, below))
got_here (x ∷ slots) zero slot below = refl
got_here (x ∷ slots) (suc n) slot below = got_here slots n slot (omega (arith, below))

pub got_there : (slots : List (Option Held)) (n k : ℕ) (slot : Option Held) → (k ≡ n → ⊥) → held_by (slice_get (slice_set slots n slot) k) ≡ held_by (slice_get slots k)
got_there [] n k slot differs = refl
got_there (x ∷ slots) zero zero slot differs = absurd (differs refl)
got_there (x ∷ slots) zero (suc k) slot differs = refl
got_there (x ∷ slots) (suc n) zero slot differs = refl
got_there (x ∷ slots) (suc n) (suc k) slot differs = got_there slots n k slot (λ same. differs (ap suc same))

pub set_length : (slots : List (Option Held)) (n : ℕ) (slot : Option Held) → length (slice_set slots n slot) ≡ length slots
set_length [] n slot = refl
set_length (x ∷ slots) zero slot = refl
set_length (x ∷ slots) (suc n) slot = ap suc (set_length slots n slot)

module _ (code : Code) (deep count : ℕ) (program : Program) where
  -- a variable and its register are set
  pub agrees_set : (s : State) (registers : Registers) (n : ℕ) (slot : Option Held) → n < count → Agrees count s registers
      → Agrees count (record s { vars = slice_set s.vars n slot }) (with_slot n slot registers)
  agrees_set s registers n slot below agrees = record {
    length_is = set_length s.vars n slot ∙ agrees.length_is;
    hold = λ k low. by_number k low (nat_eq k n) refl;
  } where
    by_number : (k : ℕ) → k < count → (b : Bool) → nat_eq k n ≡ b → with_slot n slot registers k ≡ held_by (slice_get (slice_set s.vars n slot) k)
    by_number k low true same =
        subst (λ j. with_slot n slot registers j ≡ held_by (slice_get (slice_set s.vars n slot) j)) (sym (eqb-true k n same))
        (slot_here n slot registers ∙ sym (got_here s.vars n slot (let e : length s.vars ≡ count = agrees.length_is in omega (arith, e, below))))
    by_number k low false differs = slot_there n slot registers k (eqb-false k n differs) ∙ agrees.hold k low ∙ sym (got_there s.vars n k slot (eqb-false k n differs))

  -- A VALUE IS WRITTEN to a variable by a move
  writes_register : (place : Place) (used : Bool) (r q n : ℕ) (broken other : Bool) → n < count → (P : Registers → Type 0) (o : Operand) (a : Arg)
      → ((registers : Registers) → P registers → Same count q registers o a)
      → Follows code deep count r P (row.writes program place (target.InRegister n broken) o) (code_of.writes program place used r (InRegister n other) a) (λ v b new. IfUsed used count r v b new)
  unfolding operation_of operands behind register_set
  writes_register place used r q n broken other below P o a from site first s registers has agrees p =
      lands (operation class.Move (latency program.latencies class.Move) place act.Move (map (read s) (o ∷ [])) s.world)
      (operation_moves class.Move (latency program.latencies class.Move) place act.Move (map (read s) (o ∷ [])) s.world)
      (operation_steps code site first s registers program place class.Move act.Move (o ∷ []) (do_.Move a n) (has.0, tt) refl
      (ap (λ x. x ∷ []) (reads_same count q q registers s o a (from registers p) agrees.0))) where
        lands : (u : Made) → WhereMade Moves s.world u → step code (Going (at site first registers s.world)) ≡ by_operation code (instruction program place (do_.Move a n)) (at site first registers s.world) u
            → Leads code deep count site (Going (at site first registers s.world)) (first + (1 + 0)) r registers (λ v new. IfUsed used count r v (Reg n false) new)
            (follow (made s u) (λ h. sets n (Some h) >>= λ done. gives (Register n false)))
        lands (Ends end w) made_it steps_to = ends_at code (Going (at site first registers s.world)) end w (suc zero, steps_to)
        lands (Gives h w) made_it steps_to = (
          with_slot n (Some h) registers,
          (suc zero, steps_to ∙ ap (λ k. Going (at site k (with_slot n (Some h) registers) w)) (let e : first + 1 ≡ first + (1 + 0) = omega arith in e)),
          (let set : Agrees count (record s { vars = slice_set s.vars n (Some h) }) (with_slot n (Some h) registers) = agrees_set s registers n (Some h) below agrees.0 in
              record { length_is = set.length_is; hold = set.hold }),
          (λ k at_least low. slot_there n (Some h) registers k (λ same. omega (arith, same, at_least, below))),
          (λ is_used. variable n false below),
          goes_by_operation s.world w made_it,
        )

  -- and to memory by a store
  writes_memory : (place : Place) (used : Bool) (r q : ℕ) → count ≤ r → (P : Registers → Type 0) (x : Operand) (y : Arg) (o : Operand) (a : Arg)
      → ((registers : Registers) → P registers → Same count r registers x y × Same count q registers o a)
      → Follows code deep count r P (row.writes program place (target.InMemory x) o) (code_of.writes program place used r (InMemory y) a) (λ v b new. IfUsed used count r v b new)
  unfolding operation_of operands behind register_set
  writes_memory place true r q low P x y o a from =
      under code deep count r P P (row.writes program place (target.InMemory x) o) (code_of.writes program place true r (InMemory y) a) (λ v b new. Same count r new v b) (λ v b new. IfUsed true count r v b new)
      (λ registers p. p) (λ v new same is_used. same)
      (computes_follow code deep count r P program place class.Store act.Store (x ∷ o ∷ []) (λ to. do_.Store y a (Some to)) low refl
      (λ s registers agrees p. two_read s registers agrees (from registers p)) (λ held c. refl)) where
        two_read : (s : State) (registers : Registers) → Agrees count s registers → Same count r registers x y × Same count q registers o a
            → map (read s) (x ∷ o ∷ []) ≡ map (read_of registers) (y ∷ a ∷ [])
        two_read s registers agrees same = ap (λ z. z ∷ read s o ∷ []) (reads_same count r r registers s x y same.0 agrees) ∙ ap (λ z. read_of registers y ∷ z ∷ []) (reads_same count q q registers s o a same.1 agrees)
  writes_memory place false r q low P x y o a from =
      binds code deep count r P (makes program class.Store place act.Store (x ∷ o ∷ [])) (does program place (do_.Store y a None)) (λ h u new. P new)
      (λ h. gives (Holding h)) (λ u. only (Reg r false)) (λ v b new. IfUsed false count r v b new) (λ first. refl)
      (operation_dropped code deep count r P program place class.Store act.Store (x ∷ o ∷ []) (do_.Store y a None) refl
      (λ s registers agrees p. two_read s registers agrees (from registers p)) (λ held c. refl))
      (λ h. only_follows code deep count r P (Holding h) (Reg r false) (λ v b new. IfUsed false count r v b new) (λ new p is_used. absurd (false≢true is_used))) where
        two_read : (s : State) (registers : Registers) → Agrees count s registers → Same count r registers x y × Same count q registers o a
            → map (read s) (x ∷ o ∷ []) ≡ map (read_of registers) (y ∷ a ∷ [])
        two_read s registers agrees same = ap (λ z. z ∷ read s o ∷ []) (reads_same count r r registers s x y same.0 agrees) ∙ ap (λ z. read_of registers y ∷ z ∷ []) (reads_same count q q registers s o a same.1 agrees)

  -- what two places have in common
  abbrev OfBoth : ℕ → Registers → Target → Designated → Type 0
  OfBoth r registers (target.InRegister x b) (InRegister y c) = (x ≡ y) × (y < count)
  OfBoth r registers (target.InMemory x) (InMemory y) = Same count r registers x y
  OfBoth r registers t d = ⊥

  of_both : (r : ℕ) (registers : Registers) (t : Target) (d : Designated) → SamePlace count r registers t d → OfBoth r registers t d
  of_both r registers _ _ (in_register x b below) = (refl, below)
  of_both r registers _ _ (in_memory x y same) = same

  -- A VALUE IS WRITTEN to a place
  pub writes_follow : (place : Place) (used : Bool) (r q : ℕ) → count ≤ r → (P : Registers → Type 0) (t : Target) (d : Designated) (o : Operand) (a : Arg)
      → ((registers : Registers) → P registers → SamePlace count r registers t d × Same count q registers o a)
      → Follows code deep count r P (row.writes program place t o) (code_of.writes program place used r d a) (λ v b new. IfUsed used count r v b new)
  writes_follow place used r q low P (target.InRegister n broken) (InRegister m other) o a from = λ site first s registers has agrees p.
      (let both : (n ≡ m) × (m < count) = of_both r registers (target.InRegister n broken) (InRegister m other) (from registers p).0 in
      subst (λ k. Leads code deep count site (Going (at site first registers s.world)) (first + (code_of.writes program place used r (InRegister m other) a).size) r registers
      (λ v new. IfUsed used count r v (Reg m false) new) (row.writes program place (target.InRegister k broken) o s)) (sym both.0)
      (writes_register place used r q m broken other both.1 P o a (λ registers p. (from registers p).1) site first s registers has agrees p))
  writes_follow place used r q low P (target.InMemory x) (InMemory y) o a from =
      writes_memory place used r q low P x y o a (λ registers p. (of_both r registers (target.InMemory x) (InMemory y) (from registers p).0, (from registers p).1))
  writes_follow place used r q low P (target.InRegister n broken) (InMemory y) o a from =
      λ site first s registers has agrees p. absurd (of_both r registers (target.InRegister n broken) (InMemory y) (from registers p).0)
  writes_follow place used r q low P (target.InMemory x) (InRegister m other) o a from =
      λ site first s registers has agrees p. absurd (of_both r registers (target.InMemory x) (InRegister m other) (from registers p).0)

  pub writes_sized : (place : Place) (used : Bool) (r : ℕ) (d : Designated) (a : Arg) → IsSized (code_of.writes program place used r d a)
  writes_sized place used r (InRegister n broken) a = λ first. refl
  writes_sized place used r (InMemory y) a = λ first. refl

  pub assign_does : (node : Node) (m n : Meaning) (e f : Lowered) → Does code deep count m e → Does code deep count n f
      → Does code deep count (row.assign program node m n) (code_of.assign program node e f)
  unfolding row.assign code_of.assign
  assign_does node m n e f is other = only_value_does code deep count node (λ used. m.place >>= row.behind_place program node.place n) (λ used r. e.place r >>> code_of.behind_place program node.place f used r)
      (λ used r low. binds code deep count r Always m.place (e.place r) (λ t d new. SamePlace count r new t d) (row.behind_place program node.place n)
      (code_of.behind_place program node.place f used r) (λ v b new. IfUsed used count r v b new) (is.place_sized r) (is.place r low)
      (λ t. binds code deep count r (λ new. SamePlace count r new t (e.place r).gives) (n.value true) (f.value true (r + 1))
      (λ o a new. Same count (r + 1) new o a × SamePlace count r new t (e.place r).gives) (row.writes program node.place t)
      (code_of.writes program node.place used r (e.place r).gives) (λ v b new. IfUsed used count r v b new) (other.value_sized true (r + 1))
      (also code deep count r (n.value true) (f.value true (r + 1)) (λ o a new. Same count (r + 1) new o a) (λ new. SamePlace count r new t (e.place r).gives)
      (λ old new keeps same. place_kept count r old new t (e.place r).gives low keeps same) (used_follows code deep count n f other (r + 1) (omega (arith, low))))
      (λ o. writes_follow node.place used r (r + 1) low (λ new. Same count (r + 1) new o (f.value true (r + 1)).gives × SamePlace count r new t (e.place r).gives)
      t (e.place r).gives o (f.value true (r + 1)).gives (λ registers p. (p.1, p.0)))))
      (λ used r. binds_sized (e.place r) (code_of.behind_place program node.place f used r) (is.place_sized r)
      (binds_sized (f.value true (r + 1)) (code_of.writes program node.place used r (e.place r).gives) (other.value_sized true (r + 1))
      (writes_sized node.place used r (e.place r).gives (f.value true (r + 1)).gives)))

  -- the old value of a place that is changed, in a temporary of its own
  old_follows : (place : Place) (r q : ℕ) → count ≤ q → (P : Registers → Type 0) (t : Target) (d : Designated)
      → ((registers : Registers) → P registers → SamePlace count r registers t d)
      → Follows code deep count q P (row.old_value program place t) (code_of.old_value program place q d) (λ o a new. Same count q new o a)
  unfolding operation_of operands behind register_set
  old_follows place r q low P (target.InRegister n broken) (InRegister m other) from =
      only_follows code deep count q P (Register n broken) (Reg m other) (λ o a new. Same count q new o a) (λ new p. by_place n broken m other new (from new p)) where
        by_place : (n : ℕ) (broken : Bool) (m : ℕ) (other : Bool) (new : Registers) → SamePlace count r new (target.InRegister n broken) (InRegister m other) → Same count q new (Register n broken) (Reg m other)
        by_place _ _ _ _ new (in_register n broken below) = variable n broken below
  old_follows place r q low P (target.InMemory x) (InMemory y) from =
      computes_follow code deep count q P program place class.Load act.Load (x ∷ []) (λ to. do_.Load y to) low refl
      (λ s registers agrees p. ap (λ z. z ∷ []) (reads_same count r r registers s x y (of_both r registers (target.InMemory x) (InMemory y) (from registers p)) agrees)) (λ held c. refl)
  old_follows place r q low P (target.InRegister n broken) (InMemory y) from =
      λ site first s registers has agrees p. absurd (of_both r registers (target.InRegister n broken) (InMemory y) (from registers p))
  old_follows place r q low P (target.InMemory x) (InRegister m other) from =
      λ site first s registers has agrees p. absurd (of_both r registers (target.InMemory x) (InRegister m other) (from registers p))

  old_sized : (place : Place) (q : ℕ) (d : Designated) → IsSized (code_of.old_value program place q d)
  old_sized place q (InRegister n broken) = λ first. refl
  old_sized place q (InMemory y) = λ first. refl

  -- conversions of the parts of a compound assignment
  between_on_one : (place : Place) (from to : Kind) → OnOne code deep count (row.converts_between program place from to) (code_of.converts_between program place from to)
  between_on_one place from to = by_same (same_kind from to) where
    by_same : (b : Bool) → OnOne code deep count (λ o. if b then gives o else op_row.converts program place (Some to) o) (λ r a. if b then only a else op_code.converts program place (Some to) r a)
    by_same true = converts_on_one code deep count program place None
    by_same false = converts_on_one code deep count program place (Some to)

  side_on_one : (place : Place) (from : Option Kind) (to : Kind) → OnOne code deep count (row.converts_side program place from to) (code_of.converts_side program place from to)
  side_on_one place None to = converts_on_one code deep count program place None
  side_on_one place (Some from) to = between_on_one place from to

  back_on_one : (place : Place) (from : Kind) (to : Option Kind) → OnOne code deep count (row.converts_back program place from to) (code_of.converts_back program place from to)
  back_on_one place from None = converts_on_one code deep count program place None
  back_on_one place from (Some to) = between_on_one place from to

  stays_there : (place : Place) (to : Kind) (q : ℕ) → count ≤ q → (o : Operand) (a : Arg)
      → Follows code deep count (q + 2) (λ new. Same count q new o a) (gives o) (only a) (λ v c new. Within count q (q + 2) new v c)
  stays_there place to q low o a = only_follows code deep count (q + 2) (λ new. Same count q new o a) o a (λ v c new. Within count q (q + 2) new v c)
      (λ new same. within_more count q q q (q + 2) new o a (omega arith) (omega arith) same)

  converted_there : (place : Place) (to : Kind) (q : ℕ) → count ≤ q → (o : Operand) (a : Arg)
      → Follows code deep count (q + 2) (λ new. Same count q new o a) (op_row.converts program place (Some to) o) (op_code.converts program place (Some to) (q + 2) a) (λ v c new. Within count q (q + 2) new v c)
  unfolding operation_of operands behind register_set
  converted_there place to q low o a =
      under code deep count (q + 2) (λ new. Same count q new o a) (λ new. Same count q new o a) (op_row.converts program place (Some to) o) (op_code.converts program place (Some to) (q + 2) a)
      (λ v c new. Same count (q + 2) new v c) (λ v c new. Within count q (q + 2) new v c) (λ registers p. p)
      (λ v new same. within_more count (q + 2) (q + 2) q (q + 2) new v (Reg (q + 2) false) (omega arith) (omega arith) same)
      (computes_follow code deep count (q + 2) (λ new. Same count q new o a) program place class.Conv (act.Convert to) (o ∷ []) (λ r. do_.Convert to a r) (omega (arith, low)) refl
      (λ s registers agrees same. ap (λ x. x ∷ []) (reads_same count q q registers s o a same agrees)) (λ held c. refl))

  side_sized : (place : Place) (from : Option Kind) (to : Kind) (r : ℕ) (a : Arg) → IsSized (code_of.converts_side program place from to r a)
  side_sized place from to r a = (side_on_one place from to).sized r a

  -- the same of a right operand that stays where it is, or is converted in a temporary behind it
  side_follows : (place : Place) (from : Option Kind) (to : Kind) (q : ℕ) → count ≤ q → (o : Operand) (a : Arg)
      → Follows code deep count (q + 2) (λ new. Same count q new o a) (row.converts_side program place from to o) (code_of.converts_side program place from to (q + 2) a) (λ v c new. Within count q (q + 2) new v c)
  side_follows place None to q low o a = stays_there place to q low o a
  side_follows place (Some from) to q low o a = by_same (same_kind from to) where
    by_same : (b : Bool) → Follows code deep count (q + 2) (λ new. Same count q new o a) (if b then gives o else op_row.converts program place (Some to) o)
        (if b then only a else op_code.converts program place (Some to) (q + 2) a) (λ v c new. Within count q (q + 2) new v c)
    by_same true = stays_there place to q low o a
    by_same false = converted_there place to q low o a

  -- A COMPOUND ASSIGNMENT behind its operands: its place stands in register r, its right operand in q, and the old value is in the next
  module _ (place : Place) (r q : ℕ) (low : count ≤ r) (apart : r + 1 ≤ q) (t : Target) (d : Designated) where
    -- the place is still there, and stays while temporaries behind its own are used
    abbrev There : Registers → Type 0
    There new = SamePlace count r new t d

    there_kept : (old new : Registers) → Keeps count q old new → There old → There new
    there_kept old new keeps there = place_kept count r old new t d low (keeps_fewer count (r + 1) q old new apart keeps) there

    -- the right operand and the place are
    abbrev By : Operand → Arg → Registers → Type 0
    By o a new = Same count q new o a × There new

    by_kept : (o : Operand) (a : Arg) (old new : Registers) → Keeps count (q + 1) old new → By o a old → By o a new
    by_kept o a old new keeps both = (
      same_kept count q old new o a (omega (arith, low, apart)) keeps both.0,
      there_kept old new (keeps_fewer count q (q + 1) old new (omega arith) keeps) both.1,
    )

    -- a piece that uses temporaries from k on keeps what stays with those before it
    beside : (k : ℕ) → q ≤ k → (P Q : Registers → Type 0) → ((old new : Registers) → Keeps count k old new → Q old → Q new)
        → (part : Part Operand) (piece : Piece Arg) (V : Operand → Arg → Registers → Type 0)
        → Follows code deep count k (λ new. P new × Q new) part piece V → Follows code deep count q (λ new. P new × Q new) part piece (λ o a new. V o a new × Q new)
    beside k at_least P Q stays part piece V follows site first s registers has agrees both =
        from (part s) (follows site first s registers has agrees both) where
          from : (o : Outcome Operand) → Leads code deep count site (Going (at site first registers s.world)) (first + piece.size) k registers (λ a new. V a piece.gives new) o
              → Leads code deep count site (Going (at site first registers s.world)) (first + piece.size) q registers (λ a new. V a piece.gives new × Q new) o
          from (Goes a x) leads = (leads.0, leads.1, leads.2, keeps_fewer count q k registers leads.0 at_least leads.3, (leads.4, stays registers leads.0 leads.3 both.1), leads.5)
          from (Stops end w) leads = leads

    -- before less
    less : (k : ℕ) (P Q : Registers → Type 0) (part : Part Operand) (piece : Piece Arg) (V : Operand → Arg → Registers → Type 0)
        → ((registers : Registers) → Q registers → P registers) → Follows code deep count k P part piece V → Follows code deep count k Q part piece V
    less k P Q part piece V from follows = under code deep count k P Q part piece V V from (λ v new given. given) follows

    -- an operation on the old value and the right operand, in the old value's register
    on_both : (operation : Operand → Operand → Part Operand) (lowered : ℕ → Arg → Arg → Piece Arg) → OnTwo code deep count operation lowered
        → (high : ℕ) (p : Operand) (b : Arg) (o : Operand) (a : Arg)
        → Follows code deep count q (λ new. (Within count q high new o a × Same count (q + 1) new p b) × There new) (operation p o) (lowered (q + 1) b a)
        (λ v c new. Same count (q + 1) new v c × There new)
    on_both operation lowered two high p b o a =
        beside (q + 1) (omega arith) (λ new. Within count q high new o a × Same count (q + 1) new p b) There
        (λ old new keeps there. there_kept old new (keeps_fewer count q (q + 1) old new (omega arith) keeps) there) (operation p o) (lowered (q + 1) b a)
        (λ v c new. Same count (q + 1) new v c)
        (less (q + 1) (λ new. Within count q high new o a × Same count (q + 1) new p b) (λ new. (Within count q high new o a × Same count (q + 1) new p b) × There new)
        (operation p o) (lowered (q + 1) b a) (λ v c new. Same count (q + 1) new v c) (λ registers all. all.0)
        (two.follows (q + 1) (q + 1) (q + 1) q high (omega (arith, low, apart)) p b o a))

    operated : (op : Bin) (kind : Kind) (of : Option Kind) (x : Operand) (y : Arg) (z : Operand) (c : Arg)
        → Follows code deep count q (λ new. (Within count q (q + 2) new z c × Same count (q + 1) new x y) × There new)
        (op_row.binary_on program place op kind x z >>= row.converts_back program place kind of) (op_code.binary_on program place op kind (q + 1) y c >>> code_of.converts_back program place kind of (q + 1))
        (λ v c new. Same count (q + 1) new v c × There new)
    operated op kind of x y z c =
        binds code deep count q (λ new. (Within count q (q + 2) new z c × Same count (q + 1) new x y) × There new) (op_row.binary_on program place op kind x z) (op_code.binary_on program place op kind (q + 1) y c)
        (λ v e new. Same count (q + 1) new v e × There new) (row.converts_back program place kind of) (code_of.converts_back program place kind of (q + 1))
        (λ v c new. Same count (q + 1) new v c × There new) (λ first. refl)
        (on_both (op_row.binary_on program place op kind) (op_code.binary_on program place op kind) (binary_on_two code deep count program place op kind) (q + 2) x y z c)
        (λ v. beside (q + 1) (omega arith) (λ new. Same count (q + 1) new v (Reg (q + 1) false)) There
        (λ old new keeps there. there_kept old new (keeps_fewer count q (q + 1) old new (omega arith) keeps) there) (row.converts_back program place kind of v)
        (code_of.converts_back program place kind of (q + 1) (Reg (q + 1) false)) (λ v c new. Same count (q + 1) new v c)
        (less (q + 1) (λ new. Same count (q + 1) new v (Reg (q + 1) false)) (λ new. Same count (q + 1) new v (Reg (q + 1) false) × There new) (row.converts_back program place kind of v)
        (code_of.converts_back program place kind of (q + 1) (Reg (q + 1) false)) (λ v c new. Same count (q + 1) new v c) (λ registers all. all.0)
        ((back_on_one place kind of).follows (q + 1) (omega (arith, low, apart)) v (Reg (q + 1) false))))

    by_converted : (op : Bin) (kind : Kind) (of by_of : Option Kind) (x : Operand) (y : Arg) (o : Operand) (a : Arg)
        → Follows code deep count q (λ new. Same count (q + 1) new x y × By o a new)
        (row.converts_side program place by_of (row.side_kind op kind by_of) o >>= λ z. op_row.binary_on program place op kind x z >>= row.converts_back program place kind of)
        (code_of.converts_side program place by_of (row.side_kind op kind by_of) (q + 2) a >>> λ c. op_code.binary_on program place op kind (q + 1) y c >>> code_of.converts_back program place kind of (q + 1))
        (λ v c new. Same count (q + 1) new v c × There new)
    by_converted op kind of by_of x y o a =
        binds code deep count q (λ new. Same count (q + 1) new x y × By o a new) (row.converts_side program place by_of (row.side_kind op kind by_of) o)
        (code_of.converts_side program place by_of (row.side_kind op kind by_of) (q + 2) a) (λ z c new. (Within count q (q + 2) new z c × Same count (q + 1) new x y) × There new)
        (λ z. op_row.binary_on program place op kind x z >>= row.converts_back program place kind of)
        (λ c. op_code.binary_on program place op kind (q + 1) y c >>> code_of.converts_back program place kind of (q + 1))
        (λ v c new. Same count (q + 1) new v c × There new) (side_sized place by_of (row.side_kind op kind by_of) (q + 2) a)
        (under code deep count q (λ new. Same count q new o a × (Same count (q + 1) new x y × There new)) (λ new. Same count (q + 1) new x y × By o a new)
        (row.converts_side program place by_of (row.side_kind op kind by_of) o) (code_of.converts_side program place by_of (row.side_kind op kind by_of) (q + 2) a)
        (λ z c new. Within count q (q + 2) new z c × (Same count (q + 1) new x y × There new)) (λ z c new. (Within count q (q + 2) new z c × Same count (q + 1) new x y) × There new)
        (λ registers all. (all.1.0, (all.0, all.1.1))) (λ z new given. ((given.0, given.1.0), given.1.1))
        (beside (q + 2) (omega arith) (λ new. Same count q new o a) (λ new. Same count (q + 1) new x y × There new)
        (λ old new keeps both. (
          same_kept count (q + 1) old new x y (omega (arith, low, apart)) (keeps_fewer count ((q + 1) + 1) (q + 2) old new (omega arith) keeps) both.0,
          there_kept old new (keeps_fewer count q (q + 2) old new (omega arith) keeps) both.1,
        ))
        (row.converts_side program place by_of (row.side_kind op kind by_of) o) (code_of.converts_side program place by_of (row.side_kind op kind by_of) (q + 2) a)
        (λ z c new. Within count q (q + 2) new z c)
        (less (q + 2) (λ new. Same count q new o a) (λ new. Same count q new o a × (Same count (q + 1) new x y × There new)) (row.converts_side program place by_of (row.side_kind op kind by_of) o)
        (code_of.converts_side program place by_of (row.side_kind op kind by_of) (q + 2) a) (λ z c new. Within count q (q + 2) new z c) (λ registers all. all.0)
        (side_follows place by_of (row.side_kind op kind by_of) q (omega (arith, low, apart)) o a))))
        (λ z. operated op kind of x y z (code_of.converts_side program place by_of (row.side_kind op kind by_of) (q + 2) a).gives)

    combined_follows : (op : Bin) (kind : Kind) (of by_of : Option Kind) (p : Operand) (b : Arg) (o : Operand) (a : Arg)
        → Follows code deep count q (λ new. Same count (q + 1) new p b × By o a new) (row.combined program place op kind of by_of p o) (code_of.combined program place op kind of by_of q b a)
        (λ v c new. Same count (q + 1) new v c × There new)
    combined_follows op kind of by_of p b o a =
        binds code deep count q (λ new. Same count (q + 1) new p b × By o a new) (row.converts_side program place of kind p) (code_of.converts_side program place of kind (q + 1) b)
        (λ x y new. Same count (q + 1) new x y × By o a new)
        (λ x. row.converts_side program place by_of (row.side_kind op kind by_of) o >>= λ z. op_row.binary_on program place op kind x z >>= row.converts_back program place kind of)
        (λ y. code_of.converts_side program place by_of (row.side_kind op kind by_of) (q + 2) a >>> λ c. op_code.binary_on program place op kind (q + 1) y c >>> code_of.converts_back program place kind of (q + 1))
        (λ v c new. Same count (q + 1) new v c × There new) ((side_on_one place of kind).sized (q + 1) b)
        (beside (q + 1) (omega arith) (λ new. Same count (q + 1) new p b) (By o a) (by_kept o a) (row.converts_side program place of kind p) (code_of.converts_side program place of kind (q + 1) b)
        (λ x y new. Same count (q + 1) new x y)
        (less (q + 1) (λ new. Same count (q + 1) new p b) (λ new. Same count (q + 1) new p b × By o a new) (row.converts_side program place of kind p) (code_of.converts_side program place of kind (q + 1) b)
        (λ x y new. Same count (q + 1) new x y) (λ registers all. all.0) ((side_on_one place of kind).follows (q + 1) (omega (arith, low, apart)) p b)))
        (λ x. by_converted op kind of by_of x (code_of.converts_side program place of kind (q + 1) b).gives o a)

    moved_by : (minus : Bool) (of : TType) (p : Operand) (b : Arg) (o : Operand) (a : Arg)
        → Follows code deep count q (λ new. Same count (q + 1) new p b × By o a new) (place_row.offset program place minus (scale_of of) p o) (place_code.offset program place minus (scale_of of) (q + 1) b a)
        (λ v c new. Same count (q + 1) new v c × There new)
    moved_by minus of p b o a =
        less q (λ new. (Within count q q new o a × Same count (q + 1) new p b) × There new) (λ new. Same count (q + 1) new p b × By o a new)
        (place_row.offset program place minus (scale_of of) p o) (place_code.offset program place minus (scale_of of) (q + 1) b a) (λ v c new. Same count (q + 1) new v c × There new)
        (λ registers all. ((all.1.0, all.0), all.1.1))
        (on_both (place_row.offset program place minus (scale_of of)) (place_code.offset program place minus (scale_of of)) (offset_on_two code deep count program place minus (scale_of of)) q p b o a)

    -- what a change makes of the old value and the right operand
    changed_follows : (change : Change) (of : TType) (by_of : Option Kind) (p : Operand) (b : Arg) (o : Operand) (a : Arg)
        → Follows code deep count q (λ new. Same count (q + 1) new p b × By o a new) (row.changed program place change of by_of p o) (code_of.changed program place change of by_of q b a)
        (λ v c new. Same count (q + 1) new v c × There new)
    changed_follows (change.Number op kind) of by_of p b o a = combined_follows op kind (kind_of of) by_of p b o a
    changed_follows change.Forward of by_of p b o a = moved_by false of p b o a
    changed_follows change.Back of by_of p b o a = moved_by true of p b o a

  changed_sized : (place : Place) (change : Change) (of : TType) (by_of : Option Kind) (q : ℕ) (b a : Arg) → IsSized (code_of.changed program place change of by_of q b a)
  changed_sized place (change.Number op kind) of by_of q b a =
      binds_sized (code_of.converts_side program place (kind_of of) kind (q + 1) b)
      (λ y. code_of.converts_side program place by_of (row.side_kind op kind by_of) (q + 2) a >>> λ c. op_code.binary_on program place op kind (q + 1) y c >>> code_of.converts_back program place kind (kind_of of) (q + 1))
      (side_sized place (kind_of of) kind (q + 1) b)
      (binds_sized (code_of.converts_side program place by_of (row.side_kind op kind by_of) (q + 2) a)
      (λ c. op_code.binary_on program place op kind (q + 1) (code_of.converts_side program place (kind_of of) kind (q + 1) b).gives c >>> code_of.converts_back program place kind (kind_of of) (q + 1))
      (side_sized place by_of (row.side_kind op kind by_of) (q + 2) a)
      (binds_sized (op_code.binary_on program place op kind (q + 1) (code_of.converts_side program place (kind_of of) kind (q + 1) b).gives
      (code_of.converts_side program place by_of (row.side_kind op kind by_of) (q + 2) a).gives)
      (code_of.converts_back program place kind (kind_of of) (q + 1)) (λ first. refl) ((back_on_one place kind (kind_of of)).sized (q + 1) (Reg (q + 1) false))))
  changed_sized place change.Forward of by_of q b a = λ first. refl
  changed_sized place change.Back of by_of q b a = λ first. refl

  -- a piece that uses temporaries behind one, after which something is so
  pub down : {A B : Type 0} (r : ℕ) (P : Registers → Type 0) (part : Part A) (piece : Piece B) (V : A → B → Registers → Type 0)
      → Follows code deep count (r + 1) P part piece V → Follows code deep count r P part piece V
  down {A = A} r P part piece V follows site first s registers has agrees p =
      from (part s) (follows site first s registers has agrees p) where
        from : (o : Outcome A) → Leads code deep count site (Going (at site first registers s.world)) (first + piece.size) (r + 1) registers (λ a new. V a piece.gives new) o
            → Leads code deep count site (Going (at site first registers s.world)) (first + piece.size) r registers (λ a new. V a piece.gives new) o
        from (Goes a x) leads = (leads.0, leads.1, leads.2, keeps_fewer count r (r + 1) registers leads.0 (omega arith) leads.3, leads.4, leads.5)
        from (Stops end w) leads = leads

  -- A PLACE IS CHANGED, behind its right operand and its old value
  changes_follow : (node : Node) (change : Change) (by_of : Option Kind) (used : Bool) (r : ℕ) → count ≤ r → (t : Target) (d : Designated) (p : Operand) (b : Arg) (o : Operand) (a : Arg)
      → Follows code deep count r (λ new. Same count ((r + 1) + 1) new p b × (Same count (r + 1) new o a × SamePlace count r new t d))
      (row.changes program node change by_of t o p) (code_of.changes program node change by_of used r d a b) (λ v c new. IfUsed used count r v c new)
  changes_follow node change by_of used r low t d p b o a =
      binds code deep count r (λ new. Same count ((r + 1) + 1) new p b × (Same count (r + 1) new o a × SamePlace count r new t d))
      (row.changed program node.place change node.of by_of p o) (code_of.changed program node.place change node.of by_of (r + 1) b a)
      (λ v c new. Same count ((r + 1) + 1) new v c × SamePlace count r new t d) (row.writes program node.place t) (code_of.writes program node.place used r d)
      (λ v c new. IfUsed used count r v c new) (changed_sized node.place change node.of by_of (r + 1) b a)
      (down r (λ new. Same count ((r + 1) + 1) new p b × (Same count (r + 1) new o a × SamePlace count r new t d))
      (row.changed program node.place change node.of by_of p o) (code_of.changed program node.place change node.of by_of (r + 1) b a)
      (λ v c new. Same count ((r + 1) + 1) new v c × SamePlace count r new t d)
      (changed_follows node.place r (r + 1) low (omega arith) t d change node.of by_of p b o a))
      (λ v. writes_follow node.place used r ((r + 1) + 1) low
      (λ new. Same count ((r + 1) + 1) new v (code_of.changed program node.place change node.of by_of (r + 1) b a).gives × SamePlace count r new t d)
      t d v (code_of.changed program node.place change node.of by_of (r + 1) b a).gives (λ registers all. (all.1, all.0)))

  changes_sized : (node : Node) (change : Change) (by_of : Option Kind) (used : Bool) (r : ℕ) (d : Designated) (a b : Arg) → IsSized (code_of.changes program node change by_of used r d a b)
  changes_sized node change by_of used r d a b =
      binds_sized (code_of.changed program node.place change node.of by_of (r + 1) b a) (code_of.writes program node.place used r d) (changed_sized node.place change node.of by_of (r + 1) b a)
      (writes_sized node.place used r d (code_of.changed program node.place change node.of by_of (r + 1) b a).gives)

  -- and behind its right operand alone
  changes_old_follow : (node : Node) (change : Change) (by_of : Option Kind) (used : Bool) (r : ℕ) → count ≤ r → (t : Target) (d : Designated) (o : Operand) (a : Arg)
      → Follows code deep count r (λ new. Same count (r + 1) new o a × SamePlace count r new t d)
      (row.changes_old program node change by_of t o) (code_of.changes_old program node change by_of used r d a) (λ v c new. IfUsed used count r v c new)
  changes_old_follow node change by_of used r low t d o a =
      binds code deep count r (λ new. Same count (r + 1) new o a × SamePlace count r new t d) (row.old_value program node.place t) (code_of.old_value program node.place (r + 2) d)
      (λ p b new. Same count ((r + 1) + 1) new p b × (Same count (r + 1) new o a × SamePlace count r new t d))
      (row.changes program node change by_of t o) (code_of.changes program node change by_of used r d a) (λ v c new. IfUsed used count r v c new)
      (old_sized node.place (r + 2) d)
      (old_beside site_free)
      (λ p. changes_follow node change by_of used r low t d p (code_of.old_value program node.place (r + 2) d).gives o a)
    where
      site_free : Follows code deep count (r + 2) (λ new. SamePlace count r new t d) (row.old_value program node.place t) (code_of.old_value program node.place (r + 2) d) (λ p b new. Same count (r + 2) new p b)
      site_free = old_follows node.place r (r + 2) (omega (arith, low)) (λ new. SamePlace count r new t d) t d (λ registers p. p)

      old_beside : Follows code deep count (r + 2) (λ new. SamePlace count r new t d) (row.old_value program node.place t) (code_of.old_value program node.place (r + 2) d) (λ p b new. Same count (r + 2) new p b)
          → Follows code deep count r (λ new. Same count (r + 1) new o a × SamePlace count r new t d) (row.old_value program node.place t) (code_of.old_value program node.place (r + 2) d)
          (λ p b new. Same count ((r + 1) + 1) new p b × (Same count (r + 1) new o a × SamePlace count r new t d))
      old_beside follows site first s registers has agrees both =
          from (row.old_value program node.place t s) (follows site first s registers has agrees both.1) where
            from : (x : Outcome Operand) → Leads code deep count site (Going (at site first registers s.world)) (first + (code_of.old_value program node.place (r + 2) d).size) (r + 2) registers
                (λ p new. Same count (r + 2) new p (code_of.old_value program node.place (r + 2) d).gives) x
                → Leads code deep count site (Going (at site first registers s.world)) (first + (code_of.old_value program node.place (r + 2) d).size) r registers
                (λ p new. Same count ((r + 1) + 1) new p (code_of.old_value program node.place (r + 2) d).gives × (Same count (r + 1) new o a × SamePlace count r new t d)) x
            from (Goes p x) leads = (
              leads.0,
              leads.1,
              leads.2,
              keeps_fewer count r (r + 2) registers leads.0 (omega arith) leads.3,
              (
                subst (λ n. Same count n leads.0 p (code_of.old_value program node.place (r + 2) d).gives) (let e : r + 2 ≡ (r + 1) + 1 = omega arith in e) leads.4,
                (
                  same_kept count (r + 1) registers leads.0 o a (omega (arith, low)) (keeps_fewer count ((r + 1) + 1) (r + 2) registers leads.0 (omega arith) leads.3) both.0,
                  place_kept count r registers leads.0 t d low (keeps_fewer count (r + 1) (r + 2) registers leads.0 (omega arith) leads.3) both.1,
                ),
              ),
              leads.5,
            )
            from (Stops end w) leads = leads

  changes_old_sized : (node : Node) (change : Change) (by_of : Option Kind) (used : Bool) (r : ℕ) (d : Designated) (a : Arg) → IsSized (code_of.changes_old program node change by_of used r d a)
  changes_old_sized node change by_of used r d a = binds_sized (code_of.old_value program node.place (r + 2) d) (code_of.changes program node change by_of used r d a) (old_sized node.place (r + 2) d)
      (changes_sized node change by_of used r d a (code_of.old_value program node.place (r + 2) d).gives)

  assigned_by : (node : Node) (change : Change) (by_of : Option Kind) (m n : Meaning) (e f : Lowered) → Does code deep count m e → Does code deep count n f
      → Does code deep count (means.only_value node (λ used. m.place >>= λ t. n.value true >>= row.changes_old program node change by_of t))
      (lowers.only_value node (λ used r. e.place r >>> λ d. f.value true (r + 1) >>> code_of.changes_old program node change by_of used r d))
  assigned_by node change by_of m n e f is other = only_value_does code deep count node (λ used. m.place >>= λ t. n.value true >>= row.changes_old program node change by_of t)
      (λ used r. e.place r >>> λ d. f.value true (r + 1) >>> code_of.changes_old program node change by_of used r d)
      (λ used r low. binds code deep count r Always m.place (e.place r) (λ t d new. SamePlace count r new t d) (λ t. n.value true >>= row.changes_old program node change by_of t)
      (λ d. f.value true (r + 1) >>> code_of.changes_old program node change by_of used r d) (λ v b new. IfUsed used count r v b new) (is.place_sized r) (is.place r low)
      (λ t. binds code deep count r (λ new. SamePlace count r new t (e.place r).gives) (n.value true) (f.value true (r + 1))
      (λ o a new. Same count (r + 1) new o a × SamePlace count r new t (e.place r).gives) (row.changes_old program node change by_of t)
      (code_of.changes_old program node change by_of used r (e.place r).gives) (λ v b new. IfUsed used count r v b new) (other.value_sized true (r + 1))
      (also code deep count r (n.value true) (f.value true (r + 1)) (λ o a new. Same count (r + 1) new o a) (λ new. SamePlace count r new t (e.place r).gives)
      (λ old new keeps same. place_kept count r old new t (e.place r).gives low keeps same) (used_follows code deep count n f other (r + 1) (omega (arith, low))))
      (λ o. changes_old_follow node change by_of used r low t (e.place r).gives o (f.value true (r + 1)).gives)))
      (λ used r. binds_sized (e.place r) (λ d. f.value true (r + 1) >>> code_of.changes_old program node change by_of used r d) (is.place_sized r)
      (binds_sized (f.value true (r + 1)) (code_of.changes_old program node change by_of used r (e.place r).gives) (other.value_sized true (r + 1))
      (changes_old_sized node change by_of used r (e.place r).gives (f.value true (r + 1)).gives)))

  pub assign_by_does : (node : Node) (change : Change) (m n : Meaning) (e f : Lowered) → Does code deep count m e → Does code deep count n f
      → Does code deep count (row.assign_by program node change m n) (code_of.assign_by program node change e f)
  unfolding row.assign_by code_of.assign_by
  assign_by_does node change m n e f is other =
      subst (λ (of : Node). Does code deep count (means.only_value node (λ used. m.place >>= λ t. n.value true >>= row.changes_old program node change (kind_of n.node.of) t))
      (lowers.only_value node (λ used r. e.place r >>> λ d. f.value true (r + 1) >>> code_of.changes_old program node change (kind_of of.of) used r d))) other.node
      (assigned_by node change (kind_of n.node.of) m n e f is other)

  pub pre_does : (node : Node) (change : Change) (m : Meaning) (e : Lowered) → Does code deep count m e → Does code deep count (row.pre program node change m) (code_of.pre program node change e)
  unfolding row.pre code_of.pre
  pre_does node change m e is = only_value_does code deep count node (λ used. m.place >>= λ t. row.changes_old program node change None t row.one)
      (λ used r. e.place r >>> λ d. code_of.changes_old program node change None used r d code_of.one)
      (λ used r low. binds code deep count r Always m.place (e.place r) (λ t d new. SamePlace count r new t d) (λ t. row.changes_old program node change None t row.one)
      (λ d. code_of.changes_old program node change None used r d code_of.one) (λ v b new. IfUsed used count r v b new) (is.place_sized r) (is.place r low)
      (λ t. under code deep count r (λ new. Same count (r + 1) new row.one code_of.one × SamePlace count r new t (e.place r).gives) (λ new. SamePlace count r new t (e.place r).gives)
      (row.changes_old program node change None t row.one) (code_of.changes_old program node change None used r (e.place r).gives code_of.one)
      (λ v b new. IfUsed used count r v b new) (λ v b new. IfUsed used count r v b new) (λ registers there. (number (pos 1), there)) (λ v new given. given)
      (changes_old_follow node change None used r low t (e.place r).gives row.one code_of.one)))
      (λ used r. binds_sized (e.place r) (λ d. code_of.changes_old program node change None used r d code_of.one) (is.place_sized r)
      (changes_old_sized node change None used r (e.place r).gives code_of.one))

  -- the old value of a place, which is still there behind it
  old_with_place : (place : Place) (r q : ℕ) → count ≤ r → r + 1 ≤ q → (t : Target) (d : Designated)
      → Follows code deep count q (λ new. SamePlace count r new t d) (row.old_value program place t) (code_of.old_value program place q d) (λ p b new. Same count q new p b × SamePlace count r new t d)
  old_with_place place r q low apart t d site first s registers has agrees there =
      from (row.old_value program place t s) (old_follows place r q (omega (arith, low, apart)) (λ new. SamePlace count r new t d) t d (λ registers p. p) site first s registers has agrees there) where
        from : (x : Outcome Operand) → Leads code deep count site (Going (at site first registers s.world)) (first + (code_of.old_value program place q d).size) q registers
            (λ p new. Same count q new p (code_of.old_value program place q d).gives) x
            → Leads code deep count site (Going (at site first registers s.world)) (first + (code_of.old_value program place q d).size) q registers
            (λ p new. Same count q new p (code_of.old_value program place q d).gives × SamePlace count r new t d) x
        from (Goes p x) leads = (
          leads.0,
          leads.1,
          leads.2,
          leads.3,
          (leads.4, place_kept count r registers leads.0 t d low (keeps_fewer count (r + 1) q registers leads.0 apart leads.3) there),
          leads.5,
        )
        from (Stops end w) leads = leads

  -- a piece that uses temporaries from one on uses them from an earlier one on
  down_to : (r q : ℕ) → r ≤ q → (P : Registers → Type 0) (part : Part Operand) (piece : Piece Arg) (V : Operand → Arg → Registers → Type 0)
      → Follows code deep count q P part piece V → Follows code deep count r P part piece V
  down_to r q at_most P part piece V follows site first s registers has agrees p =
      from (part s) (follows site first s registers has agrees p) where
        from : (o : Outcome Operand) → Leads code deep count site (Going (at site first registers s.world)) (first + piece.size) q registers (λ a new. V a piece.gives new) o
            → Leads code deep count site (Going (at site first registers s.world)) (first + piece.size) r registers (λ a new. V a piece.gives new) o
        from (Goes a x) leads = (leads.0, leads.1, leads.2, keeps_fewer count r q registers leads.0 at_most leads.3, leads.4, leads.5)
        from (Stops end w) leads = leads

  -- what stands behind one temporary stays where that one is set
  within_set : (low high r : ℕ) (slot : Option Held) (registers : Registers) (o : Operand) (a : Arg) → r + 1 ≤ low → Within count low high registers o a → Within count low high (with_slot r slot registers) o a
  within_set low high r slot registers o a apart =
      within_kept count low high registers (with_slot r slot registers) o a (λ q at_least at_most. slot_there r slot registers q (λ same. omega (arith, same, at_least, apart)))

  place_set : (k r : ℕ) (slot : Option Held) (registers : Registers) (t : Target) (d : Designated) → r + 1 ≤ k → SamePlace count k registers t d → SamePlace count k (with_slot r slot registers) t d
  place_set k r slot registers _ _ apart (in_register n broken below) = in_register n broken below
  place_set k r slot registers _ _ apart (in_memory o a same) = in_memory o a (within_set k k r slot registers o a apart same)

  -- the old value is moved to the first temporary, and is still there for the change, as the place is
  kept_follows : (place : Place) (r : ℕ) → count ≤ r → (t : Target) (d : Designated) (p : Operand) (b : Arg)
      → Follows code deep count r (λ new. Same count (r + 3) new p b × SamePlace count (r + 1) new t d) (op_row.moves program place p) (op_code.moves program place r b)
      (λ kept c new. Same count r new kept c × (Same count (r + 3) new p b × SamePlace count (r + 1) new t d))
  unfolding operation_of operands behind register_set
  kept_follows place r low t d p b =
      binds code deep count r (λ new. Same count (r + 3) new p b × SamePlace count (r + 1) new t d) (makes program class.Move place act.Move (p ∷ [])) (does program place (do_.Move b r))
      (λ h done new. (new r ≡ Some h) × (Same count (r + 3) new p b × SamePlace count (r + 1) new t d))
      (λ h. gives (Holding h)) (λ done. only (Reg r false)) (λ kept c new. Same count r new kept c × (Same count (r + 3) new p b × SamePlace count (r + 1) new t d)) (λ first. refl)
      (operation_beside code deep count r r (λ new. Same count (r + 3) new p b × SamePlace count (r + 1) new t d) (λ new. Same count (r + 3) new p b × SamePlace count (r + 1) new t d)
      program place class.Move act.Move (p ∷ []) (do_.Move b r) refl
      (λ s registers agrees both. ap (λ x. x ∷ []) (reads_same count (r + 3) (r + 3) registers s p b both.0 agrees)) (λ held c. refl) low (omega arith)
      (λ registers slot both. (within_set (r + 3) (r + 3) r slot registers p b (omega arith) both.0, place_set (r + 1) r slot registers t d (omega arith) both.1)))
      (λ h. only_follows code deep count r (λ new. (new r ≡ Some h) × (Same count (r + 3) new p b × SamePlace count (r + 1) new t d)) (Holding h) (Reg r false)
      (λ kept c new. Same count r new kept c × (Same count (r + 3) new p b × SamePlace count (r + 1) new t d)) (λ new all. (held h r (omega arith) (omega arith) all.0, all.1)))

  -- the place is changed behind its old value
  changed_behind : (node : Node) (change : Change) (used : Bool) (r : ℕ) → count ≤ r → (t : Target) (d : Designated) (p : Operand) (b : Arg)
      → Follows code deep count (r + 1) (λ new. Same count (r + 3) new p b × SamePlace count (r + 1) new t d)
      (row.changes program node change None t row.one p) (code_of.changes program node change None used (r + 1) d code_of.one b) (λ v c new. IfUsed used count (r + 1) v c new)
  changed_behind node change used r low t d p b =
      under code deep count (r + 1) (λ new. Same count (((r + 1) + 1) + 1) new p b × (Same count ((r + 1) + 1) new row.one code_of.one × SamePlace count (r + 1) new t d))
      (λ new. Same count (r + 3) new p b × SamePlace count (r + 1) new t d)
      (row.changes program node change None t row.one p) (code_of.changes program node change None used (r + 1) d code_of.one b)
      (λ v c new. IfUsed used count (r + 1) v c new) (λ v c new. IfUsed used count (r + 1) v c new)
      (λ registers both. (subst (λ n. Same count n registers p b) (let e : r + 3 ≡ ((r + 1) + 1) + 1 = omega arith in e) both.0, (number (pos 1), both.1))) (λ v new given. given)
      (changes_follow node change None used (r + 1) (omega (arith, low)) t d p b row.one code_of.one)

  after_old_follows : (node : Node) (change : Change) (used : Bool) (r : ℕ) → count ≤ r → (t : Target) (d : Designated) (p : Operand) (b : Arg)
      → Follows code deep count r (λ new. Same count (r + 3) new p b × SamePlace count (r + 1) new t d)
      (row.after_old program node change used t p) (code_of.after_old program node change used r d b) (λ v c new. IfUsed used count r v c new)
  after_old_follows node change false r low t d p b =
      under code deep count r (λ new. Same count (r + 3) new p b × SamePlace count (r + 1) new t d) (λ new. Same count (r + 3) new p b × SamePlace count (r + 1) new t d)
      (row.changes program node change None t row.one p) (code_of.changes program node change None false (r + 1) d code_of.one b)
      (λ v c new. IfUsed false count (r + 1) v c new) (λ v c new. IfUsed false count r v c new) (λ registers p. p) (λ v new given is_used. absurd (false≢true is_used))
      (down_to r (r + 1) (omega arith) (λ new. Same count (r + 3) new p b × SamePlace count (r + 1) new t d)
      (row.changes program node change None t row.one p) (code_of.changes program node change None false (r + 1) d code_of.one b) (λ v c new. IfUsed false count (r + 1) v c new)
      (changed_behind node change false r low t d p b))
  after_old_follows node change true r low t d p b =
      binds code deep count r (λ new. Same count (r + 3) new p b × SamePlace count (r + 1) new t d) (op_row.moves program node.place p) (op_code.moves program node.place r b)
      (λ kept c new. Same count r new kept c × (Same count (r + 3) new p b × SamePlace count (r + 1) new t d))
      (λ kept. row.changes program node change None t row.one p >>= λ v. gives kept)
      (λ kept. code_of.changes program node change None false (r + 1) d code_of.one b >>> λ v. only kept) (λ v c new. IfUsed true count r v c new) (λ first. refl)
      (kept_follows node.place r low t d p b)
      (λ kept. binds code deep count r (λ new. Same count r new kept (Reg r false) × (Same count (r + 3) new p b × SamePlace count (r + 1) new t d))
      (row.changes program node change None t row.one p) (code_of.changes program node change None false (r + 1) d code_of.one b)
      (λ v c new. IfUsed false count (r + 1) v c new × Same count r new kept (Reg r false)) (λ v. gives kept) (λ v. only (Reg r false)) (λ v c new. IfUsed true count r v c new)
      (changes_sized node change None false (r + 1) d code_of.one b)
      (under code deep count r (λ new. (Same count (r + 3) new p b × SamePlace count (r + 1) new t d) × Same count r new kept (Reg r false))
      (λ new. Same count r new kept (Reg r false) × (Same count (r + 3) new p b × SamePlace count (r + 1) new t d))
      (row.changes program node change None t row.one p) (code_of.changes program node change None false (r + 1) d code_of.one b)
      (λ v c new. IfUsed false count (r + 1) v c new × Same count r new kept (Reg r false)) (λ v c new. IfUsed false count (r + 1) v c new × Same count r new kept (Reg r false))
      (λ registers all. (all.1, all.0)) (λ v new given. given)
      (also_under code deep count r (λ new. Same count (r + 3) new p b × SamePlace count (r + 1) new t d) (row.changes program node change None t row.one p)
      (code_of.changes program node change None false (r + 1) d code_of.one b) (λ v c new. IfUsed false count (r + 1) v c new) (λ new. Same count r new kept (Reg r false))
      (λ old new keeps same. same_kept count r old new kept (Reg r false) low keeps same) (changed_behind node change false r low t d p b)))
      (λ v. only_follows code deep count r (λ new. IfUsed false count (r + 1) v (code_of.changes program node change None false (r + 1) d code_of.one b).gives new × Same count r new kept (Reg r false))
      kept (Reg r false) (λ v c new. IfUsed true count r v c new) (λ new all is_used. all.1)))

  after_old_sized : (node : Node) (change : Change) (used : Bool) (r : ℕ) (d : Designated) (b : Arg) → IsSized (code_of.after_old program node change used r d b)
  after_old_sized node change false r d b = changes_sized node change None false (r + 1) d code_of.one b
  after_old_sized node change true r d b = binds_sized (op_code.moves program node.place r b) (λ kept. code_of.changes program node change None false (r + 1) d code_of.one b >>> λ v. only kept) (λ first. refl)
      (binds_sized (code_of.changes program node change None false (r + 1) d code_of.one b) (λ v. only (Reg r false)) (changes_sized node change None false (r + 1) d code_of.one b) (λ first. refl))

  pub post_does : (node : Node) (change : Change) (m : Meaning) (e : Lowered) → Does code deep count m e → Does code deep count (row.post program node change m) (code_of.post program node change e)
  unfolding row.post code_of.post
  post_does node change m e is = only_value_does code deep count node (λ used. m.place >>= row.after_place program node change used) (λ used r. e.place (r + 1) >>> code_of.after_place program node change used r)
      (λ used r low. binds code deep count r Always m.place (e.place (r + 1)) (λ t d new. SamePlace count (r + 1) new t d) (row.after_place program node change used)
      (code_of.after_place program node change used r) (λ v b new. IfUsed used count r v b new) (is.place_sized (r + 1))
      (down r Always m.place (e.place (r + 1)) (λ t d new. SamePlace count (r + 1) new t d) (is.place (r + 1) (omega (arith, low))))
      (λ t. binds code deep count r (λ new. SamePlace count (r + 1) new t (e.place (r + 1)).gives) (row.old_value program node.place t) (code_of.old_value program node.place (r + 3) (e.place (r + 1)).gives)
      (λ p b new. Same count (r + 3) new p b × SamePlace count (r + 1) new t (e.place (r + 1)).gives) (row.after_old program node change used t)
      (code_of.after_old program node change used r (e.place (r + 1)).gives) (λ v b new. IfUsed used count r v b new) (old_sized node.place (r + 3) (e.place (r + 1)).gives)
      (down_to r (r + 3) (omega arith) (λ new. SamePlace count (r + 1) new t (e.place (r + 1)).gives) (row.old_value program node.place t)
      (code_of.old_value program node.place (r + 3) (e.place (r + 1)).gives) (λ p b new. Same count (r + 3) new p b × SamePlace count (r + 1) new t (e.place (r + 1)).gives)
      (old_with_place node.place (r + 1) (r + 3) (omega (arith, low)) (omega arith) t (e.place (r + 1)).gives))
      (λ p. after_old_follows node change used r low t (e.place (r + 1)).gives p (code_of.old_value program node.place (r + 3) (e.place (r + 1)).gives).gives)))
      (λ used r. binds_sized (e.place (r + 1)) (code_of.after_place program node change used r) (is.place_sized (r + 1))
      (binds_sized (code_of.old_value program node.place (r + 3) (e.place (r + 1)).gives) (code_of.after_old program node change used r (e.place (r + 1)).gives)
      (old_sized node.place (r + 3) (e.place (r + 1)).gives)
      (after_old_sized node change used r (e.place (r + 1)).gives (code_of.old_value program node.place (r + 3) (e.place (r + 1)).gives).gives)))
