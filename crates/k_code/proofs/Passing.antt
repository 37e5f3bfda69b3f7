-- No count of what is known is beyond the instructions passed.
use Rattle.std.proofs.Common.{ℕ, ◌+◌, ◌<◌, arith}
use Rattle.std.specs.Prelude.{◌^◌}
use Rattle.k_code.specs.declared.balance.Balance.{Balance}
use Rattle.k_code.specs.declared.instruction.Do.{Do}
use Rattle.k_code.specs.declared.instruction.Do.TheVariants as act
use Rattle.k_code.specs.Balances.{IsBelow, left_open}

pub below_more : (n : ℕ) (b : Balance) → IsBelow n b → IsBelow (n + 1) b
below_more n b h = (omega (arith, h.0), omega (arith, h.1), omega (arith, h.2))

-- an instruction adds at most one
pub left_below : (n : ℕ) (what : Do) (b : Balance) → IsBelow n b → IsBelow (n + 1) (left_open what b)
unfolding left_open
left_below n act.Save b h = (omega (arith, h.0), omega (arith, h.1), omega (arith, h.2))
left_below n act.Keep b h = (omega (arith, h.0), omega (arith, h.1), omega (arith, h.2))
left_below n act.Back b h = (omega (arith, h.0), omega (arith, h.1), omega (arith, h.2))
left_below n (act.ObjectOpen elements) b h = (omega (arith, h.0), omega (arith, h.1), omega (arith, h.2))
left_below n (act.ObjectsClose count) b h = (omega (arith, h.0), omega (arith, h.1), omega (arith, h.2))
left_below n (act.Enter region) b h = (omega (arith, h.0), omega (arith, h.1), omega (arith, h.2))
left_below n act.Exit b h = (omega (arith, h.0), omega (arith, h.1), omega (arith, h.2))
left_below n what b h = below_more n b h

-- a small number of instructions makes small counts
pub small_below : (n : ℕ) (b : Balance) → n < 2 ^ 64 → IsBelow (n + 1) b → IsBelow (2 ^ 64) b
small_below n b small h = (omega (arith, small, h.0), omega (arith, small, h.1), omega (arith, small, h.2))

pub small_sum : (count k : ℕ) → k < count → count + 1 < 2 ^ 64 → k + 1 < 2 ^ 64
small_sum count k low few = omega (arith, low, few)
