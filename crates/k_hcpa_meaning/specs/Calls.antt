-- Believed with a public law.
-- What calls and returns do to the times that a machine keeps.
use Rattle.std.specs.Prelude.{ℕ, zero, suc, ◌+◌, if◌then◌else◌, Bool, List, [], ◌∷◌, Option, Some, None}
use Rattle.k_code.specs.declared.instruction.Arg.{Arg}
use Rattle.k_code.specs.declared.instruction.Arg.TheVariants.{Number, Reg}
use Rattle.k_hcpa_meaning.specs.Locations.{operand_locations}
use Rattle.k_hcpa_meaning.specs.Timings.{Timing, Register, raised, raised_all, begun, settled, operated, copied, registers_cleared, given_to, saved_kept, entered_below, all_left_below}

-- a register's value is handed to a parameter, and the call's operation depends on it unless that dependence is broken
abbrev pub handed : ℕ → Bool → ℕ → Timing → Timing
handed from broken to t = copied from to (if broken then t else raised (Register from) t)

-- the values of a call's operands are handed to its parameters, of which so many are left from this register on; no operation gave a constant; the
-- operation depends on operands without a parameter too
abbrev pub arguments_handed : ℕ → ℕ → ℕ → List Arg → Timing → Timing
arguments_handed first to zero args t = raised_all (operand_locations first args) t
arguments_handed first to (suc n) [] t = t
arguments_handed first to (suc n) (Number a ∷ args) t = arguments_handed first (to + 1) n args (registers_cleared to 1 t)
arguments_handed first to (suc n) (Reg r broken ∷ args) t = arguments_handed first (to + 1) n args (handed (first + r) broken to t)

-- a function is called by an operation of this latency, and its region entered, where so many instances are open: the caller's registers are numbered
-- from `first` on, its own, of which so many are parameters, from `to` on
abbrev pub called_below : ℕ → ℕ → ℕ → ℕ → ℕ → List Arg → ℕ → Timing → Timing
called_below depth count first to params args latency t = entered_below depth count (settled latency (arguments_handed first to params args (begun t)))

-- the register that gets what is returned, if there is one, holds what the return's operation gave
abbrev pub given_back : Option ℕ → Timing → Timing
given_back None t = t
given_back (Some r) t = given_to (Register r) t

-- or what no operation gave
abbrev pub cleared_back : Option ℕ → Timing → Timing
cleared_back None t = t
cleared_back (Some r) t = registers_cleared r 1 t

-- what a return gives the register of the caller, by its operand if it has one
abbrev pub moved_back : ℕ → Option Arg → ℕ → Option ℕ → Timing → Timing
moved_back first None latency back t = cleared_back back t
moved_back first (Some a) latency back t = given_back back (operated (operand_locations first (a ∷ [])) latency t)

-- A call returns, behind which so many control sources are saved, and leaves the innermost ones of the open instances. The register of the caller is
-- told by its number among those of all live calls.
abbrev pub returned_below : ℕ → ℕ → ℕ → Option Arg → ℕ → Option ℕ → ℕ → ℕ → Timing → Timing
returned_below depth count first value latency back saved regions t =
    all_left_below depth count regions (saved_kept saved (moved_back first value latency back t))
