-- Believed with the theorem on the top call.
-- The jumps of a statement that lead out of it (C17 6.8.6).
use Rattle.std.specs.Prelude.{Bool, true, false, ◌||◌}
use Rattle.k_marks_meaning.specs.declared.jumps.Jumps.{Jumps}

-- none
abbrev pub no_jumps : Jumps
no_jumps = record { breaks = false; continues = false; returns = false }

-- a `break`
abbrev pub a_break : Jumps
a_break = record { breaks = true; continues = false; returns = false }

-- a `continue`
abbrev pub a_continue : Jumps
a_continue = record { breaks = false; continues = true; returns = false }

-- a `return`
abbrev pub a_return : Jumps
a_return = record { breaks = false; continues = false; returns = true }

-- those of two parts
abbrev pub jumps_of_both : Jumps → Jumps → Jumps
jumps_of_both a b = record {
  breaks = a.breaks || b.breaks;
  continues = a.continues || b.continues;
  returns = a.returns || b.returns;
}

-- C17 6.8.6.2, 6.8.6.3: a loop is the target of the `break` and the `continue` of its body, so only a `return` leads out of it
abbrev pub out_of_loop : Jumps → Jumps
out_of_loop j = record { breaks = false; continues = false; returns = j.returns }

-- C17 6.8.6.3: a switch is the target of the `break` of its parts
abbrev pub out_of_switch : Jumps → Jumps
out_of_switch j = record { breaks = false; continues = j.continues; returns = j.returns }

-- a statement's text holds a leaving jump
abbrev pub is_left : Jumps → Bool
is_left j = j.breaks || (j.continues || j.returns)
