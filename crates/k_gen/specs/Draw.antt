-- Believed with the theorem on the top call.
-- *Draws*: a row of numbers that follows from its first.
use Rattle.std.specs.Prelude.{ℕ, zero, suc, ◌+◌, ◌*◌, ◌/◌, ◌%◌, ◌^◌}

-- what comes behind a number of the row
unfoldable pub next : ℕ → ℕ
next x = (x * 1103515245 + 12345) % 2 ^ 31

-- number k of the row of a number, counted from 0
unfoldable pub state : ℕ → ℕ → ℕ
state number zero = number % 2 ^ 31
state number (suc k) = next (state number k)

-- draw k, counted from 0: each draw takes the row a step further first
abbrev pub draw : ℕ → ℕ → ℕ
draw number k = state number (k + 1) / 65536
