-- Pieces behind which the control source is as before, and pieces behind a test.
use Rattle.std.proofs.Common.{ℕ, zero, suc, ◌≡◌, ◌+◌, Bool, false, if◌then◌else◌, [], ◌∷◌, map, Option, refl, subst, ap, ◌∙◌, arith}
use Rattle.k_num.specs.declared.place.Place.{Place}
use Rattle.k_optab.specs.Latencies.{latency}
use Rattle.k_optab.specs.declared.class.Class.TheVariants as class
use Rattle.k_world.specs.declared.act.Act.TheVariants as act
use Rattle.k_world.specs.declared.value.Value.{Value}
use Rattle.k_world.specs.Operations.{operation}
use Rattle.k_world.specs.Worlds.{World}
use Rattle.k_code.specs.declared.code.Code.{Code}
use Rattle.k_code.specs.declared.instruction.Arg.{Arg}
use Rattle.k_code.specs.declared.instruction.Do.TheVariants as do_
use Rattle.k_code.specs.Named.{operands}
use Rattle.k_code.specs.Steps.{Going, step, alone, by_operation, operation_of}
use Rattle.k_evaluation.specs.declared.operand.Operand.{Operand}
use Rattle.k_world.specs.Values.{is_true}
use Rattle.k_evaluation.specs.States.{Program, State, Outcome, Goes, Stops, Part, follow, ◌>>=◌, gives, read, settles}
use Rattle.k_evaluation.specs.States as part_of
use Rattle.k_lower_code.specs.Pieces.{Piece, only, ◌>>>◌, instruction}
use Rattle.k_lower_code.specs.Pieces as pieces
use Rattle.k_lower_code.proofs.Sizes.{IsSized}
use Rattle.k_lower_runs.proofs.Leads.{Registers, Site, at, Agrees, HasAt, has_first, has_rest, Reaches, reaches_both, Leads, Follows, ends_from}
use Rattle.k_lower_runs.proofs.Instructions.{alone_steps, operation_steps}
use Rattle.k_lower_runs.proofs.Values.{Same, reads_same}

-- the instruction behind a test, by whether its number is other than 0
pub chosen_is : (v : Value) (taken other : ℕ) (b : Bool) → is_true v ≡ b → (if is_true v then taken else other) ≡ (if b then taken else other)
chosen_is v taken other b is = ap (λ c. if c then taken else other) is

module _ (code : Code) (deep count : ℕ) where
  -- the world has another control source: variables agree as before
  pub agrees_anyhow : (s : State) (w : World) (registers : Registers) → Agrees count s registers → Agrees count (record s { world = w }) registers
  agrees_anyhow s w registers agrees = record { length_is = agrees.length_is; hold = agrees.hold }

  -- SAVE, A PIECE, BACK: the control source behind it is as before
  pub settled_follows : {A B : Type 0} (r : ℕ) (P : Registers → Type 0) (program : Program) (place : Place) (part : Part A) (piece : Piece B) (V : A → B → Registers → Type 0)
      → IsSized piece → Follows code deep count r P part piece V → Follows code deep count r P (part_of.settled false part) (pieces.settled program place piece) V
  unfolding operation_of alone
  settled_follows {A = A} {B = B} r P program place part piece V sized follows site first s registers has agrees p =
      goes_on (part s) (follows inner (first + 1) s registers (has_first code (first + 1) (piece.code (first + 1)) _ has.1) agrees p) where
        inner : Site
        inner = record site { saved = s.world.control ∷ site.saved }

        saves : Reaches code (Going (at site first registers s.world)) (Going (at inner (first + 1) registers s.world))
        saves = (suc zero, alone_steps code site first s.world registers program place do_.Save (has.0, tt) refl)

        goes_on : (o : Outcome A) → Leads code deep count inner (Going (at inner (first + 1) registers s.world)) ((first + 1) + piece.size) r registers (λ a new. V a piece.gives new) o
            → Leads code deep count site (Going (at site first registers s.world)) (first + (pieces.settled program place piece).size) r registers (λ a new. V a piece.gives new)
            (follow o (λ a. part_of.settles false s.world.control >>= λ done. gives a))
        goes_on (Goes a t) leads = (
          leads.0,
          reaches_both code (Going (at site first registers s.world)) (Going (at inner ((first + 1) + piece.size) leads.0 t.world)) _
              (reaches_both code (Going (at site first registers s.world)) (Going (at inner (first + 1) registers s.world)) (Going (at inner ((first + 1) + piece.size) leads.0 t.world)) saves leads.1) (
                suc zero,
                alone_steps code inner ((first + 1) + piece.size) t.world leads.0 program place do_.Back
                    ((has_rest code (first + 1) (piece.code (first + 1)) _ piece.size (sized (first + 1)) has.1).0, tt) refl
                    ∙ ap (λ n. Going (at site n leads.0 (record t.world { control = s.world.control })))
                    (let e : ((first + 1) + piece.size) + 1 ≡ first + (1 + (piece.size + (1 + 0))) = omega arith in e),
              ),
          agrees_anyhow t (record t.world { control = s.world.control }) leads.0 leads.2,
          leads.3,
          leads.4,
          record {
            numbers = leads.5.numbers;
            calls = leads.5.calls;
            size = leads.5.size;
            left = leads.5.left;
            tidy = λ live tidy. (let after = leads.5.tidy live tidy in record { laid = after.laid; origins = after.origins; calls = after.calls });
          },
        )
        goes_on (Stops end w) leads = ends_from code (Going (at site first registers s.world)) (Going (at inner (first + 1) registers s.world)) end w saves leads

  -- what a piece gives is told behind it
  pub then_only : {A B C : Type 0} (r : ℕ) (P : Registers → Type 0) (part : Part A) (piece : Piece B) (c : C) (W : A → C → Registers → Type 0)
      → Follows code deep count r P part piece (λ a b new. W a c new) → Follows code deep count r P part (piece >>> λ b. only c) W
  then_only r P part piece c W follows site first s registers has agrees p =
      subst (λ n. Leads code deep count site (Going (at site first registers s.world)) n r registers (λ a new. W a c new) (part s))
      (let e : first + piece.size ≡ first + (piece.size + 0) = omega arith in e)
      (follows site first s registers (has_first code first (piece.code first) [] has) agrees p)

  -- THE STEP OF A TEST: what *Evaluation*'s test comes to, with a jump by it
  pub test_steps : (site : Site) (first : ℕ) (s : State) (registers : Registers) (program : Program) (place : Place) (r : ℕ) (o : Operand) (a : Arg) (taken other : ℕ) (to : Option ℕ)
      → HasAt code first (instruction program place (do_.Test a taken other to class.Test) ∷ []) → Same count r registers o a → Agrees count s registers
      → step code (Going (at site first registers s.world))
      ≡ by_operation code (instruction program place (do_.Test a taken other to class.Test)) (at site first registers s.world)
      (operation class.Test (latency program.latencies class.Test) place act.Test (map (read s) (o ∷ [])) s.world)
  unfolding operation_of operands
  test_steps site first s registers program place r o a taken other to has same agrees =
      operation_steps code site first s registers program place class.Test act.Test (o ∷ []) (do_.Test a taken other to class.Test) has refl
      (ap (λ x. x ∷ []) (reads_same count r r registers s o a same agrees))
