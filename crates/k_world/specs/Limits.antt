-- Believed with the theorem on the top call.
-- The limits on live calls: their number, and the node counts of their functions' definitions together.
use Rattle.std.specs.Prelude.{ℕ, ◌+◌, nat_lt, Bool}
use Rattle.k_world.specs.Worlds.{World}

-- so many calls may be live at once
abbrev pub call_limit : ℕ
call_limit = 4096

-- so many nodes may the functions of the live calls have together
abbrev pub node_limit : ℕ
node_limit = 1048576

-- one call more would be too many
abbrev pub is_full : World → Bool
is_full w = nat_lt call_limit (w.calls + 1)

-- the nodes of the live calls and of one more, of a function of this size, would be too many
abbrev pub is_too_large : World → ℕ → Bool
is_too_large w size = nat_lt node_limit (w.size + size)
