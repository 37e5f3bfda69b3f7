-- What lowered code does, where its program is that of an accepted source.
use Rattle.std.proofs.Common.{◌≡◌, Result, sym, subst}
use Rattle.std.specs.Prelude.{IfOk}
use Rattle.std.proofs.lemmas.Result.{IfOk-weaker}
use Rattle.k_num.specs.declared.memory.NoMemory.{NoMemory}
use Rattle.k_code.specs.declared.code.Code.{Code}
use Rattle.k_code.specs.Valid.{IsValid}
use Rattle.k_evaluation.specs.States.{Program}
use Rattle.k_regions.specs.Regions.{regions_of}
use Rattle.k_lower_code.specs.Programs.{flattened}
use Rattle.k_lower_sound.proofs.Programs.{programs_are_lowered}
use Rattle.k_lower.specs.Promises.{RunsAs, WhereAccepted}

-- the regions of the flat code
regions_are : (program : Program) → (flattened program).regions ≡ regions_of program.unit
unfolding flattened
regions_are program = λ i. regions_of program.unit

module _ (program : Program) (result : Result Code NoMemory) (is : IfOk result (λ code. code ≡ flattened program)) where
  pub valid_where_accepted : IfOk result (λ code. WhereAccepted program (IsValid code))
  valid_where_accepted =
      IfOk-weaker {Y = NoMemory} result (λ code. code ≡ flattened program) (λ code. WhereAccepted program (IsValid code))
      (λ code at unit accepted marked. subst IsValid (sym at) (programs_are_lowered unit program accepted marked).valid) is

  pub regions_of_source : IfOk result (λ code. code.regions ≡ regions_of program.unit)
  regions_of_source =
      IfOk-weaker {Y = NoMemory} result (λ code. code ≡ flattened program) (λ code. code.regions ≡ regions_of program.unit)
      (λ code at. subst (λ (c : Code). c.regions ≡ regions_of program.unit) (sym at) (regions_are program)) is

  pub runs_where_accepted : IfOk result (λ code. WhereAccepted program (RunsAs program code))
  runs_where_accepted =
      IfOk-weaker {Y = NoMemory} result (λ code. code ≡ flattened program) (λ code. WhereAccepted program (RunsAs program code))
      (λ code at unit accepted marked. subst (RunsAs program) (sym at) (programs_are_lowered unit program accepted marked).runs) is
