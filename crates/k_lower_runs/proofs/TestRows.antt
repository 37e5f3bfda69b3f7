-- The rows of `&&`, `||` and `?:` do what they mean where their operands do.
use Rattle.std.proofs.Common.{ℕ, zero, suc, ◌≡◌, ◌+◌, ◌≤◌, Bool, true, false, if◌then◌else◌, [], ◌∷◌, ◌++◌, length, map, Option, Some, None, refl, sym, subst, ap, ◌∙◌, arith}
use Rattle.std.proofs.lemmas.List.{length-append}
use Rattle.k_num.specs.declared.place.Place.{Place}
use Rattle.k_num.specs.declared.numbers.Bin.TheVariants.{Ne}
use Rattle.k_optab.specs.Latencies.{latency}
use Rattle.k_optab.specs.declared.class.Class.TheVariants as class
use Rattle.k_types_meaning.specs.declared.types.TType.{TType}
use Rattle.k_types_meaning.specs.declared.types.TType.TheVariants as ttype
use Rattle.k_types_meaning.specs.declared.tree.expression.Node.{Node}
use Rattle.k_world.specs.declared.act.Act.TheVariants as act
use Rattle.k_world.specs.Operations.{Made, Gives, Ends, operation}
use Rattle.k_code.specs.declared.code.Code.{Code}
use Rattle.k_code.specs.declared.instruction.Arg.{Arg}
use Rattle.k_code.specs.declared.instruction.Arg.TheVariants.{Reg}
use Rattle.k_code.specs.declared.instruction.Do.TheVariants as do_
use Rattle.k_code.specs.Named.{operands, register_set}
use Rattle.k_code.specs.Steps.{Going, step, alone, behind, by_operation, operation_of, with_slot}
use Rattle.k_evaluation.specs.declared.operand.Operand.{Operand}
use Rattle.k_evaluation.specs.declared.operand.Operand.TheVariants.{Holding}
use Rattle.k_evaluation.specs.Meanings.{Meaning, holds, kind_of, tests}
use Rattle.k_world.specs.Values.{is_true}
use Rattle.k_evaluation.specs.Meanings as means
use Rattle.k_evaluation.specs.Operators.{same_truth, kind_or_int}
use Rattle.k_evaluation.specs.Operators as row
use Rattle.k_evaluation.specs.States.{Program, State, Outcome, Goes, Stops, Part, follow, ◌>>=◌, gives, read, made}
use Rattle.k_evaluation.specs.States as part_of
use Rattle.k_lower_code.specs.Lowered.{Lowered}
use Rattle.k_lower_code.specs.Operators as code_of
use Rattle.k_lower_code.specs.Pieces.{Piece, only, ◌>>>◌, does, instruction}
use Rattle.k_lower_code.specs.Pieces as pieces
use Rattle.k_lower_code.proofs.Sizes.{IsSized, binds_sized, settled_sized}
use Rattle.k_lower_runs.proofs.Leads.{Registers, Site, at, Begins, keeps_itself, HasAt, has_first, has_rest, Reaches, reaches_both, ends_at, Leads, leads_from, Follows, binds, Moves, operation_moves, live_at}
use Rattle.k_world.specs.WorldLaws.{WhereMade}
use Rattle.k_lower_runs.proofs.Leads.{goes_by_operation}
use Rattle.k_lower_runs.proofs.Instructions.{slot_here, agrees_behind, keeps_below, alone_steps}
use Rattle.k_lower_runs.proofs.Values.{Same, held, reads_same, IfUsed, Always, under, lower, operation_held, Does}
use Rattle.k_lower_runs.proofs.Combined.{only_value_does, used_follows, one_operation}
use Rattle.k_lower_runs.proofs.OperatorRows.{dropped_follows}
use Rattle.k_lower_runs.proofs.Tested.{chosen_is, agrees_anyhow, settled_follows, then_only, test_steps}

module _ (code : Code) (deep count : ℕ) (program : Program) where
  -- behind a test that decides or not, of which the value is a temporary
  decided : (place : Place) (r : ℕ) → count ≤ r → (o : Operand) (a : Arg) (d : Bool) (inner : Part Operand) (piece : Piece (Unit {0}))
      → Follows code deep count r Always inner piece (λ v u new. Same count r new v (Reg r false))
      → (site : Site) (first : ℕ) (s : State) (registers : Registers) (taken other : ℕ)
      → HasAt code first (instruction program place (do_.Test a taken other (Some r) class.Test) ∷ []) → HasAt code (first + 1) (piece.code (first + 1))
      → ((b : Bool) → (if b then taken else other) ≡ (if same_truth b d then (first + 1) + piece.size else first + 1))
      → Same count r registers o a → Begins deep count site s registers
      → Leads code deep count site (Going (at site first registers s.world)) (first + (1 + piece.size)) r registers (λ v new. Same count r new v (Reg r false))
      ((tests program place o >>= λ test. if same_truth (holds test) d then gives (Holding test) else inner) s)
  unfolding behind
  decided place r low o a d inner piece follows site first s registers taken other has has_inner leads_where same agrees =
      lands (operation class.Test (latency program.latencies class.Test) place act.Test (map (read s) (o ∷ [])) s.world)
      (operation_moves class.Test (latency program.latencies class.Test) place act.Test (map (read s) (o ∷ [])) s.world)
      (test_steps code deep count site first s registers program place r o a taken other (Some r) has same agrees.0) where
        lands : (m : Made) → WhereMade Moves s.world m → step code (Going (at site first registers s.world))
            ≡ by_operation code (instruction program place (do_.Test a taken other (Some r) class.Test)) (at site first registers s.world) m
            → Leads code deep count site (Going (at site first registers s.world)) (first + (1 + piece.size)) r registers (λ v new. Same count r new v (Reg r false))
            (follow (made s m) (λ test. if same_truth (holds test) d then gives (Holding test) else inner))
        lands (Ends end w) made_it steps_to = ends_at code (Going (at site first registers s.world)) end w (suc zero, steps_to)
        lands (Gives h w) made_it steps_to = by_truth (same_truth (is_true h.value) d) refl where
          next : State
          next = record s { world = w }

          new : Registers
          new = with_slot r (Some h) registers

          steps_there : (n : ℕ) → (if same_truth (is_true h.value) d then (first + 1) + piece.size else first + 1) ≡ n
              → Reaches code (Going (at site first registers s.world)) (Going (at site n new w))
          steps_there n is = (suc zero, steps_to ∙ ap (λ k. Going (at site k new w)) (chosen_is h.value taken other (is_true h.value) refl ∙ leads_where (is_true h.value) ∙ is))

          by_truth : (b : Bool) → same_truth (is_true h.value) d ≡ b
              → Leads code deep count site (Going (at site first registers s.world)) (first + (1 + piece.size)) r registers (λ v new. Same count r new v (Reg r false))
              ((if same_truth (is_true h.value) d then gives (Holding h) else inner) next)
          by_truth true is = subst (λ b. Leads code deep count site (Going (at site first registers s.world)) (first + (1 + piece.size)) r registers (λ v new. Same count r new v (Reg r false))
              ((if b then gives (Holding h) else inner) next)) (sym is) (
                new,
                steps_there (first + (1 + piece.size)) (ap (λ b. if b then (first + 1) + piece.size else first + 1) is ∙ (let e : (first + 1) + piece.size ≡ first + (1 + piece.size) = omega arith in e)),
                agrees_behind code deep count s w registers r (Some h) low agrees.0,
                keeps_below code deep count r r (Some h) registers (omega arith),
                held h r (omega arith) (omega arith) (slot_here r (Some h) registers),
                goes_by_operation s.world w made_it,
              )
          by_truth false is = subst (λ b. Leads code deep count site (Going (at site first registers s.world)) (first + (1 + piece.size)) r registers (λ v new. Same count r new v (Reg r false))
              ((if b then gives (Holding h) else inner) next)) (sym is)
              (leads_from code deep count site (Going (at site first registers s.world)) (Going (at site (first + 1) new w)) (first + (1 + piece.size)) r registers new
              (λ v new. Same count r new v (Reg r false)) (inner next)
              (steps_there (first + 1) (ap (λ b. if b then (first + 1) + piece.size else first + 1) is))
              (keeps_below code deep count r r (Some h) registers (omega arith)) (goes_by_operation s.world w made_it)
              (subst (λ n. Leads code deep count site (Going (at site (first + 1) new w)) n r new (λ v new. Same count r new v (Reg r false)) (inner next))
              (let e : (first + 1) + piece.size ≡ first + (1 + piece.size) = omega arith in e)
              (follows site (first + 1) next new has_inner (agrees_behind code deep count s w registers r (Some h) low agrees.0, made_it.tidy (live_at deep) agrees.1) tt)))

  behind_test_follows : (place : Place) (r : ℕ) → count ≤ r → (o : Operand) (a : Arg) (d : Bool) (inner : Part Operand) (piece : Piece (Unit {0}))
      → Follows code deep count r Always inner piece (λ v u new. Same count r new v (Reg r false))
      → Follows code deep count r (λ new. Same count r new o a) (tests program place o >>= λ test. if same_truth (holds test) d then gives (Holding test) else inner)
      (code_of.tests_before program place d (Some r) a piece) (λ v u new. Same count r new v (Reg r false))
  behind_test_follows place r low o a false inner piece follows = λ site first s registers has agrees same.
      decided place r low o a false inner piece follows site first s registers (first + 1) ((first + 1) + piece.size) (has.0, tt) has.1 (λ b. by b first) same agrees where
        by : (b : Bool) (first : ℕ) → (if b then first + 1 else (first + 1) + piece.size) ≡ (if same_truth b false then (first + 1) + piece.size else first + 1)
        by true first = refl
        by false first = refl
  behind_test_follows place r low o a true inner piece follows = λ site first s registers has agrees same.
      decided place r low o a true inner piece follows site first s registers ((first + 1) + piece.size) (first + 1) (has.0, tt) has.1 (λ b. by b first) same agrees where
        by : (b : Bool) (first : ℕ) → (if b then (first + 1) + piece.size else first + 1) ≡ (if same_truth b true then (first + 1) + piece.size else first + 1)
        by true first = refl
        by false first = refl

  -- whether the right operand is other than 0
  truth_follows : (node : Node) (m : Meaning) (e : Lowered) → Does code deep count m e → (r : ℕ) → count ≤ r
      → Follows code deep count r Always (row.truth_of program node m) (code_of.truth_of program node e r) (λ v u new. Same count r new v (Reg r false))
  unfolding operation_of operands behind register_set
  truth_follows node m e is r low = subst (λ (of : Node). Follows code deep count r Always (row.truth_of program node m)
      (e.value true (r + 1) >>> λ b. does program node.place (do_.Binary Ne (kind_or_int (kind_of of.of)) b pieces.nothing r)) (λ v u new. Same count r new v (Reg r false))) is.node
      (binds code deep count r Always (m.value true) (e.value true (r + 1)) (λ p b new. Same count (r + 1) new p b)
      (row.truth_on program node.place (kind_or_int (kind_of m.node.of))) (λ b. does program node.place (do_.Binary Ne (kind_or_int (kind_of m.node.of)) b pieces.nothing r))
      (λ v u new. Same count r new v (Reg r false)) (is.value_sized true (r + 1))
      (lower code deep count r (m.value true) (e.value true (r + 1)) (λ p b new. Same count (r + 1) new p b) (used_follows code deep count m e is (r + 1) (omega (arith, low))))
      (λ p. computed p (e.value true (r + 1)).gives))
    where
      computed : (p : Operand) (b : Arg) → Follows code deep count r (λ new. Same count (r + 1) new p b) (row.truth_on program node.place (kind_or_int (kind_of m.node.of)) p)
          (does program node.place (do_.Binary Ne (kind_or_int (kind_of m.node.of)) b pieces.nothing r)) (λ v u new. Same count r new v (Reg r false))
      computed p b = operation_held code deep count r (λ new. Same count (r + 1) new p b) program node.place class.Simple (act.Binary Ne (kind_or_int (kind_of m.node.of)))
          (p ∷ means.nothing ∷ []) (do_.Binary Ne (kind_or_int (kind_of m.node.of)) b pieces.nothing r) low refl
          (λ s registers agrees same. ap (λ x. x ∷ read s means.nothing ∷ []) (reads_same count (r + 1) (r + 1) registers s p b same agrees)) (λ held c. refl)

  truth_sized : (node : Node) (m : Meaning) (e : Lowered) → Does code deep count m e → (r : ℕ) → IsSized (code_of.truth_of program node e r)
  truth_sized node m e is r = binds_sized (e.value true (r + 1)) (λ b. does program node.place (do_.Binary Ne (kind_or_int (kind_of e.node.of)) b pieces.nothing r))
      (is.value_sized true (r + 1)) (λ first. refl)

  tests_before_sized : (place : Place) (d : Bool) (to : Option ℕ) (a : Arg) (piece : Piece (Unit {0})) → IsSized piece → IsSized (code_of.tests_before program place d to a piece)
  tests_before_sized place false to a piece sized = λ first. (let e : length (piece.code (first + 1)) ≡ piece.size = sized (first + 1) in omega (arith, e))
  tests_before_sized place true to a piece sized = λ first. (let e : length (piece.code (first + 1)) ≡ piece.size = sized (first + 1) in omega (arith, e))

  logical_does : (node : Node) (d : Bool) (m n : Meaning) (e f : Lowered) → Does code deep count m e → Does code deep count n f
      → Does code deep count (row.logical program node d m n) (code_of.logical program node d e f)
  logical_does node d m n e f is other = only_value_does code deep count node
      (λ used. part_of.settled false (m.value true >>= λ a. tests program node.place a >>= row.behind_test program node d n))
      (λ used r. pieces.settled program node.place (e.value true r >>> λ a. code_of.tests_before program node.place d (Some r) a (code_of.truth_of program node f r) >>> λ done. only (Reg r false)))
      (λ used r low. settled_follows code deep count r Always program node.place (m.value true >>= λ a. tests program node.place a >>= row.behind_test program node d n)
      (e.value true r >>> λ a. code_of.tests_before program node.place d (Some r) a (code_of.truth_of program node f r) >>> λ done. only (Reg r false))
      (λ v b new. IfUsed used count r v b new) (whole_sized r)
      (binds code deep count r Always (m.value true) (e.value true r) (λ o a new. Same count r new o a)
      (λ a. tests program node.place a >>= row.behind_test program node d n)
      (λ a. code_of.tests_before program node.place d (Some r) a (code_of.truth_of program node f r) >>> λ done. only (Reg r false))
      (λ v b new. IfUsed used count r v b new) (is.value_sized true r) (used_follows code deep count m e is r low)
      (λ o. then_only code deep count r (λ new. Same count r new o (e.value true r).gives) (tests program node.place o >>= row.behind_test program node d n)
      (code_of.tests_before program node.place d (Some r) (e.value true r).gives (code_of.truth_of program node f r)) (Reg r false) (λ v b new. IfUsed used count r v b new)
      (under code deep count r (λ new. Same count r new o (e.value true r).gives) (λ new. Same count r new o (e.value true r).gives)
      (tests program node.place o >>= row.behind_test program node d n) (code_of.tests_before program node.place d (Some r) (e.value true r).gives (code_of.truth_of program node f r))
      (λ v u new. Same count r new v (Reg r false)) (λ v u new. IfUsed used count r v (Reg r false) new) (λ registers p. p) (λ v new same is_used. same)
      (behind_test_follows node.place r low o (e.value true r).gives d (row.truth_of program node n) (code_of.truth_of program node f r) (truth_follows node n f other r low))))))
      (λ used r. settled_sized program node.place (e.value true r >>> λ a. code_of.tests_before program node.place d (Some r) a (code_of.truth_of program node f r) >>> λ done. only (Reg r false)) (whole_sized r))
    where
      whole_sized : (r : ℕ) → IsSized (e.value true r >>> λ a. code_of.tests_before program node.place d (Some r) a (code_of.truth_of program node f r) >>> λ done. only (Reg r false))
      whole_sized r = binds_sized (e.value true r) (λ a. code_of.tests_before program node.place d (Some r) a (code_of.truth_of program node f r) >>> λ done. only (Reg r false)) (is.value_sized true r)
          (binds_sized (code_of.tests_before program node.place d (Some r) (e.value true r).gives (code_of.truth_of program node f r)) (λ done. only (Reg r false))
          (tests_before_sized node.place d (Some r) (e.value true r).gives (code_of.truth_of program node f r) (truth_sized node n f other r)) (λ first. refl))

  pub both_does : (node : Node) (m n : Meaning) (e f : Lowered) → Does code deep count m e → Does code deep count n f → Does code deep count (row.both program node m n) (code_of.both program node e f)
  unfolding row.both code_of.both
  both_does node m n e f is other = logical_does node false m n e f is other

  pub either_does : (node : Node) (m n : Meaning) (e f : Lowered) → Does code deep count m e → Does code deep count n f → Does code deep count (row.either program node m n) (code_of.either program node e f)
  unfolding row.either code_of.either
  either_does node m n e f is other = logical_does node true m n e f is other

  -- the move of a value
  moves_follows : (place : Place) (r : ℕ) → count ≤ r → (o : Operand) (a : Arg)
      → Follows code deep count r (λ new. Same count r new o a) (row.moves program place o) (code_of.moves program place r a) (λ v b new. Same count r new v b)
  unfolding operation_of operands behind register_set
  moves_follows place r low o a = (one_operation code deep count program place class.Move act.Move (λ a r. do_.Move a r) (λ a r. refl) (λ a r. refl) (λ a r held c. refl)).follows r low o a

  moved_follows : (place : Place) (m : Meaning) (e : Lowered) → Does code deep count m e → (used : Bool) (r : ℕ) → count ≤ r
      → Follows code deep count r Always (m.value true >>= row.moves program place) (e.value true r >>> code_of.moves program place r) (λ v b new. IfUsed used count r v b new)
  moved_follows place m e is used r low = under code deep count r Always Always (m.value true >>= row.moves program place) (e.value true r >>> code_of.moves program place r)
      (λ v b new. Same count r new v b) (λ v b new. IfUsed used count r v b new) (λ registers p. p) (λ v new same is_used. same)
      (binds code deep count r Always (m.value true) (e.value true r) (λ o a new. Same count r new o a) (row.moves program place) (code_of.moves program place r)
      (λ v b new. Same count r new v b) (is.value_sized true r) (used_follows code deep count m e is r low) (λ o. moves_follows place r low o (e.value true r).gives))

  -- an arm of `?:`
  arm_follows : (place : Place) (of : TType) (m : Meaning) (e : Lowered) → Does code deep count m e → (used : Bool) (r : ℕ) → count ≤ r
      → Follows code deep count r Always (row.arm program place of m) (code_of.arm program place of r e) (λ v b new. IfUsed used count r v b new)
  arm_follows place ttype.Void m e is used r low = dropped_follows code deep count program m e is used r low
  arm_follows place (ttype.Number kind) m e is used r low = moved_follows place m e is used r low
  arm_follows place (ttype.Pointer target) m e is used r low = moved_follows place m e is used r low

  arm_sized : (place : Place) (of : TType) (m : Meaning) (e : Lowered) → Does code deep count m e → (r : ℕ) → IsSized (code_of.arm program place of r e)
  arm_sized place ttype.Void m e is r = binds_sized (e.value false r) (λ a. only pieces.nothing) (is.value_sized false r) (λ first. refl)
  arm_sized place (ttype.Number kind) m e is r = binds_sized (e.value true r) (code_of.moves program place r) (is.value_sized true r) (λ first. refl)
  arm_sized place (ttype.Pointer target) m e is r = binds_sized (e.value true r) (code_of.moves program place r) (is.value_sized true r) (λ first. refl)

  arms_give : (place : Place) (of : TType) (e f : Lowered) (r : ℕ) → (code_of.arm program place of r e).gives ≡ (code_of.arm program place of r f).gives
  arms_give place ttype.Void e f r = refl
  arms_give place (ttype.Number kind) e f r = refl
  arms_give place (ttype.Pointer target) e f r = refl

  -- A TEST AND TWO ARMS, one of which runs
  chooses_follows : (place : Place) (r : ℕ) (o : Operand) (a : Arg) (P : Registers → Type 0) (V : Operand → Arg → Registers → Type 0)
      (one_part other_part : Part Operand) (one other : Piece Arg) → IsSized one → IsSized other → one.gives ≡ other.gives
      → Follows code deep count r Always one_part one V → Follows code deep count r Always other_part other V
      → Follows code deep count r (λ new. Same count r new o a) (tests program place o >>= λ test. if holds test then one_part else other_part) (code_of.chooses program place a one other) V
  unfolding behind alone operation_of
  chooses_follows place r o a P V one_part other_part one other one_sized other_sized gives_same one_follows other_follows site first s registers has agrees same =
      lands (operation class.Test (latency program.latencies class.Test) place act.Test (map (read s) (o ∷ [])) s.world)
      (operation_moves class.Test (latency program.latencies class.Test) place act.Test (map (read s) (o ∷ [])) s.world)
      (test_steps code deep count site first s registers program place r o a (first + 1) (first + 1 + one.size + 1) None (has.0, tt) same agrees.0) where
        has_other : HasAt code (first + 1 + one.size) (instruction program place (do_.Jump (first + 1 + one.size + 1 + other.size)) ∷ other.code (first + 1 + one.size + 1))
        has_other = has_rest code (first + 1) (one.code (first + 1)) _ one.size (one_sized (first + 1)) has.1

        next : ℕ
        next = first + (1 + one.size + 1 + other.size)

        lands : (m : Made) → WhereMade Moves s.world m → step code (Going (at site first registers s.world))
            ≡ by_operation code (instruction program place (do_.Test a (first + 1) (first + 1 + one.size + 1) None class.Test)) (at site first registers s.world) m
            → Leads code deep count site (Going (at site first registers s.world)) next r registers (λ v new. V v other.gives new)
            (follow (made s m) (λ test. if holds test then one_part else other_part))
        lands (Ends end w) made_it steps_to = ends_at code (Going (at site first registers s.world)) end w (suc zero, steps_to)
        lands (Gives h w) made_it steps_to = by_truth (is_true h.value) refl where
          after : State
          after = record s { world = w }

          steps_there : (n : ℕ) → (if is_true h.value then first + 1 else first + 1 + one.size + 1) ≡ n
              → Reaches code (Going (at site first registers s.world)) (Going (at site n registers w))
          steps_there n is = (suc zero, steps_to ∙ ap (λ k. Going (at site k registers w)) (chosen_is h.value (first + 1) (first + 1 + one.size + 1) (is_true h.value) refl ∙ is))

          jumps : (x : Outcome Operand) → Leads code deep count site (Going (at site (first + 1) registers w)) ((first + 1) + one.size) r registers (λ v new. V v one.gives new) x
              → Leads code deep count site (Going (at site (first + 1) registers w)) next r registers (λ v new. V v other.gives new) x
          jumps (Goes v t) leads = (
            leads.0,
            reaches_both code (Going (at site (first + 1) registers w)) (Going (at site ((first + 1) + one.size) leads.0 t.world)) (Going (at site next leads.0 t.world)) leads.1 (
              suc zero,
              alone_steps code site ((first + 1) + one.size) t.world leads.0 program place (do_.Jump (first + 1 + one.size + 1 + other.size)) (has_other.0, tt) refl
                  ∙ ap (λ n. Going (at site n leads.0 t.world)) (let e : first + 1 + one.size + 1 + other.size ≡ first + (1 + one.size + 1 + other.size) = omega arith in e),
            ),
            leads.2,
            leads.3,
            subst (λ b. V v b leads.0) gives_same leads.4,
            leads.5,
          )
          jumps (Stops end u) leads = leads

          by_truth : (b : Bool) → is_true h.value ≡ b
              → Leads code deep count site (Going (at site first registers s.world)) next r registers (λ v new. V v other.gives new) ((if is_true h.value then one_part else other_part) after)
          by_truth true is = subst (λ b. Leads code deep count site (Going (at site first registers s.world)) next r registers (λ v new. V v other.gives new) ((if b then one_part else other_part) after)) (sym is)
              (leads_from code deep count site (Going (at site first registers s.world)) (Going (at site (first + 1) registers w)) next r registers registers (λ v new. V v other.gives new) (one_part after)
              (steps_there (first + 1) (ap (λ b. if b then first + 1 else first + 1 + one.size + 1) is)) (keeps_itself count r registers) (goes_by_operation s.world w made_it)
              (jumps (one_part after) (one_follows site (first + 1) after registers (has_first code (first + 1) (one.code (first + 1)) _ has.1) (agrees_anyhow code deep count s w registers agrees.0, made_it.tidy (live_at deep) agrees.1) tt)))
          by_truth false is = subst (λ b. Leads code deep count site (Going (at site first registers s.world)) next r registers (λ v new. V v other.gives new) ((if b then one_part else other_part) after)) (sym is)
              (leads_from code deep count site (Going (at site first registers s.world)) (Going (at site (first + 1 + one.size + 1) registers w)) next r registers registers (λ v new. V v other.gives new) (other_part after)
              (steps_there (first + 1 + one.size + 1) (ap (λ b. if b then first + 1 else first + 1 + one.size + 1) is)) (keeps_itself count r registers) (goes_by_operation s.world w made_it)
              (subst (λ n. Leads code deep count site (Going (at site (first + 1 + one.size + 1) registers w)) n r registers (λ v new. V v other.gives new) (other_part after))
              (let e : (first + 1 + one.size + 1) + other.size ≡ next = omega arith in e)
              (other_follows site (first + 1 + one.size + 1) after registers has_other.1 (agrees_anyhow code deep count s w registers agrees.0, made_it.tidy (live_at deep) agrees.1) tt)))

  chooses_sized : (place : Place) (a : Arg) (one other : Piece Arg) → IsSized one → IsSized other → IsSized (code_of.chooses program place a one other)
  chooses_sized place a one other one_sized other_sized first =
      (let two : length (one.code (first + 1) ++ (instruction program place (do_.Jump (first + 1 + one.size + 1 + other.size)) ∷ other.code (first + 1 + one.size + 1)))
      ≡ length (one.code (first + 1)) + suc (length (other.code (first + 1 + one.size + 1))) =
      length-append (one.code (first + 1)) _ in
      (let x : length (one.code (first + 1)) ≡ one.size = one_sized (first + 1) in
      (let y : length (other.code (first + 1 + one.size + 1)) ≡ other.size = other_sized (first + 1 + one.size + 1) in
      omega (arith, two, x, y))))

  pub cond_does : (node : Node) (m n o : Meaning) (e f g : Lowered) → Does code deep count m e → Does code deep count n f → Does code deep count o g
      → Does code deep count (row.cond program node m n o) (code_of.cond program node e f g)
  unfolding row.cond code_of.cond
  cond_does node m n o e f g is one other = only_value_does code deep count node
      (λ used. part_of.settled false (m.value true >>= λ a. tests program node.place a >>= row.arm_by program node n o))
      (λ used r. pieces.settled program node.place (whole r))
      (λ used r low. settled_follows code deep count r Always program node.place (m.value true >>= λ a. tests program node.place a >>= row.arm_by program node n o) (whole r)
      (λ v b new. IfUsed used count r v b new) (whole_sized r)
      (binds code deep count r Always (m.value true) (e.value true r) (λ p a new. Same count r new p a) (λ a. tests program node.place a >>= row.arm_by program node n o)
      (λ a. code_of.chooses program node.place a (code_of.arm program node.place node.of r f) (code_of.arm program node.place node.of r g)) (λ v b new. IfUsed used count r v b new)
      (is.value_sized true r) (used_follows code deep count m e is r low)
      (λ p. chooses_follows node.place r p (e.value true r).gives Always (λ v b new. IfUsed used count r v b new)
      (row.arm program node.place node.of n) (row.arm program node.place node.of o) (code_of.arm program node.place node.of r f) (code_of.arm program node.place node.of r g)
      (arm_sized node.place node.of n f one r) (arm_sized node.place node.of o g other r) (arms_give node.place node.of f g r)
      (arm_follows node.place node.of n f one used r low) (arm_follows node.place node.of o g other used r low))))
      (λ used r. settled_sized program node.place (whole r) (whole_sized r))
    where
      whole : (r : ℕ) → Piece Arg
      whole r = e.value true r >>> λ a. code_of.chooses program node.place a (code_of.arm program node.place node.of r f) (code_of.arm program node.place node.of r g)

      whole_sized : (r : ℕ) → IsSized (whole r)
      whole_sized r = binds_sized (e.value true r) (λ a. code_of.chooses program node.place a (code_of.arm program node.place node.of r f) (code_of.arm program node.place node.of r g)) (is.value_sized true r)
          (chooses_sized node.place (e.value true r).gives (code_of.arm program node.place node.of r f) (code_of.arm program node.place node.of r g)
          (arm_sized node.place node.of n f one r) (arm_sized node.place node.of o g other r))
