-- Parameters, emitted by how many elements their objects have.
use Rattle.std.proofs.Common.{ℕ, zero, suc, ◌≡◌, ◌≢◌, ◌+◌, List, Result, Ok, Err, refl, sym, arith}
use Rattle.std.specs.Prelude.{IfOk}
use Rattle.std.proofs.lemmas.List.{append-nil}
use Rattle.k_num.specs.declared.memory.NoMemory.{NoMemory}
use Rattle.k_num.specs.declared.place.Place.{Place}
use Rattle.k_code.specs.declared.instruction.Instr.{Instr}
use Rattle.k_evaluation.specs.States.{Program}
use Rattle.k_lower_code.specs.Functions.{makes_parameter, serves_by}
use Rattle.k_lower_expressions.proofs.Emitted.{Emitted, Emits}
use Rattle.k_lower_parts.specs.Parts.{with_objects}

module _ (program : Program) (r : ℕ) (place : Place) (n : ℕ) where
  -- one that stays in its register
  pub none_served : (elements objects : ℕ) (old : List Instr) → elements ≡ 0
      → Emitted objects (with_objects objects (serves_by program r place n elements)) old old
  none_served zero objects old is = record {
    gives = omega arith;
    code = sym (append-nil old);
    size = omega arith;
  }
  none_served (suc count) objects old is = absurd (omega (arith, is))

  -- one that is memory
  pub one_served : (elements objects : ℕ) (result : Result ℕ NoMemory) (old new : List Instr) → elements ≢ 0 → IfOk result (λ b. b ≡ objects + 1)
      → Emitted {A = Unit {0}} tt (makes_parameter program r place n elements objects) old new
      → Emits result (with_objects objects (serves_by program r place n elements)) old new
  one_served zero objects result old new some next one = absurd (some refl)
  one_served (suc count) objects (Ok b) old new some next one = record {
    gives = next;
    code = one.code;
    size = one.size;
  }
  one_served (suc count) objects (Err e) old new some next one = tt
