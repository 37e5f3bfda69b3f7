-- Believed with a public law.
-- What a call of a function has open, and how instructions change it.
use Rattle.std.specs.Prelude.{ℕ, ◌≡◌, ◌+◌, ◌-◌, ◌<◌, ◌≤◌, nat_lt, nat_le, nat_eq, ◌||◌, Bool, true, false, List, slice_get, Some}
use Rattle.k_code.specs.declared.balance.Balance.{Balance}
use Rattle.k_code.specs.declared.instruction.Do.{Do}
use Rattle.k_code.specs.declared.instruction.Do.TheVariants.{Test, Jump, Enter, Exit, FallOff, Address, ObjectOpen, ObjectsClose, Fill, Return, Save, Keep, Back, Restore}
use Rattle.k_code.specs.declared.instruction.Home.{Home}
use Rattle.k_code.specs.declared.instruction.Home.TheVariants.{File, Local}
use Rattle.k_code.specs.declared.instruction.Instr.{Instr}

-- nothing, as at a function's entry
abbrev pub nothing_open : Balance
nothing_open = record { saved = 0; objects = 0; regions = 0 }

-- each number is below a bound
abbrev pub IsBelow : ℕ → Balance → Type 0
IsBelow bound b = (b.saved < bound) × (b.objects < bound) × (b.regions < bound)

-- what an instruction leaves of what was open before it
unfoldable pub left_open : Do → Balance → Balance
left_open Save b = record b { saved = b.saved + 1 }
left_open Keep b = record b { saved = b.saved - 1 }
left_open Back b = record b { saved = b.saved - 1 }
left_open (ObjectOpen elements) b = record b { objects = b.objects + 1 }
left_open (ObjectsClose count) b = record b { objects = b.objects - count }
left_open (Enter region) b = record b { regions = b.regions + 1 }
left_open Exit b = record b { regions = b.regions - 1 }
left_open act b = b

-- an object is one of the program's, or one of the live call's that is there
abbrev pub home_met : Home → Balance → Bool
home_met (File number) b = true
home_met (Local number) b = nat_lt number b.objects

-- all is there that an instruction takes away or names, so that no number falls below 0
unfoldable pub is_met : Do → Balance → Bool
is_met Keep b = nat_lt 0 b.saved
is_met Back b = nat_lt 0 b.saved
is_met Restore b = nat_lt 0 b.saved
is_met Exit b = nat_lt 0 b.regions
is_met (ObjectsClose count) b = nat_le count b.objects
is_met (Fill local values) b = nat_lt local b.objects
is_met (Address home offset to) b = home_met home b
is_met act b = true

-- the next instruction follows: it neither jumps nor ends the call
unfoldable pub goes_on : Do → Bool
goes_on (Test a taken other to class) = false
goes_on (Jump to) = false
goes_on FallOff = false
goes_on (Return value) = false
goes_on act = true

-- an instruction of that number may follow by a jump
unfoldable pub jumps_to : Do → ℕ → Bool
jumps_to (Test a taken other to class) n = nat_eq taken n || nat_eq other n
jumps_to (Jump to) n = nat_eq to n
jumps_to act n = false

-- The balance of a function whose first instruction has the number `entry`: what is open before each of its instructions, by their order. At
-- the entry that is nothing. Where an instruction goes on, it is what that one leaves, and where one jumps, the same before the jump and before
-- its target. An instruction to which none before it leads has what the one before it has. All is there that an instruction takes away.
pub record IsBalance (entry : ℕ) (instrs : List Instr) (before : ℕ → Balance) : Type 0 where
  pub first : before 0 ≡ nothing_open
  pub next : (k : ℕ) (i : Instr) → slice_get instrs k ≡ Some i → goes_on i.act ≡ true → before (k + 1) ≡ left_open i.act (before k)
  pub jumps : (k : ℕ) (i : Instr) (to : ℕ) → slice_get instrs k ≡ Some i → jumps_to i.act (entry + to) ≡ true → before to ≡ before k
  pub others : (k : ℕ) (i : Instr) → slice_get instrs k ≡ Some i → goes_on i.act ≡ false
      → ((j : ℕ) (earlier : Instr) → j ≤ k → slice_get instrs j ≡ Some earlier → jumps_to earlier.act (entry + (k + 1)) ≡ false)
      → before (k + 1) ≡ before k
  pub met : (k : ℕ) (i : Instr) → slice_get instrs k ≡ Some i → is_met i.act (before k) ≡ true
