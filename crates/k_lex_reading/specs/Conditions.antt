-- For contracts between crates: nobody has to believe it.
-- What the code tells of conditions.
use Rattle.std.specs.Prelude.{ℕ, Bool, Result, Ok, Err}
use Rattle.k_lex_lines.specs.Directives.{Decision}
use Rattle.k_lex_reading.specs.declared.fault.ReadFault.{ReadFault}
use Rattle.k_lex_reading.specs.declared.fault.ReadFault.TheVariants as stop

-- the decision is such a one, unless memory ran out
abbrev pub Told : Result (Bool × ℕ) ReadFault → (Decision → Type 0) → Type 0
Told (Ok d) P = P (Ok d)
Told (Err (stop.Refused f)) P = P (Err f)
Told (Err stop.Memory) P = Unit {0}
