-- What is below which limit, where a machine stands in a run of valid code.
use Rattle.std.proofs.Common.{ℕ, ◌≡◌, ◌+◌, ◌<◌, ◌≤◌, max, List, [], ◌∷◌, Option, Some, None, IfSome, arith, refl, ap}
use Rattle.k_code.specs.declared.instruction.Arg.{Arg}
use Rattle.k_code.specs.declared.instruction.Arg.TheVariants.{Number, Reg}
use Rattle.k_code.specs.declared.instruction.Do.{Do}
use Rattle.k_code.specs.Named.{operands, register_set, registers_needed, up_to_operands, up_to_register}
use Rattle.k_hcpa_times.specs.Seen.{AreBelow}

-- the register that an instruction sets is among those that it needs
pub set_is_needed : (what : Do) → IfSome (register_set what) (λ r. r < registers_needed what)
unfolding registers_needed
set_is_needed what = by (register_set what) refl
  where
    by : (to : Option ℕ) → register_set what ≡ to → IfSome to (λ r. r < max (up_to_operands (operands what)) (up_to_register (register_set what)))
    by None is = record {}
    by (Some r) is = (let same : up_to_register (register_set what) ≡ r + 1 = ap up_to_register is in omega (arith, same))

-- so are those of its operands
pub operands_below : (first limit count : ℕ) (args : List Arg) → up_to_operands args ≤ count → first + count ≤ 2097152 → 2097152 ≤ limit → AreBelow first limit args
operands_below first limit count [] fit below most = record {}
operands_below first limit count (Number n ∷ args) fit below most = operands_below first limit count args (omega (arith, fit)) below most
operands_below first limit count (Reg r broken ∷ args) fit below most =
    (omega (arith, fit, below, most), omega (arith, fit, below), operands_below first limit count args (omega (arith, fit)) below most)

-- as many registers as an instruction needs have those of its operands
pub operands_fit : (what : Do) (count : ℕ) → registers_needed what ≤ count → up_to_operands (operands what) ≤ count
unfolding registers_needed
operands_fit what count fit = omega (arith, fit)
