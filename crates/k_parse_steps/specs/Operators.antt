-- Believed with a public law.
-- How operators bind (C17 6.5.2 to 6.5.17).
use Rattle.std.specs.Prelude.{ℕ, ◌+◌, Bool, true, false, ◌&&◌, ◌||◌, nat_le, Option, Some, None}
use Rattle.k_parse_steps.specs.Types.{Mark, Word, Binding}
use Rattle.k_tree.specs.declared.tokens.mark.Mark.TheVariants as mark
use Rattle.k_tree.specs.Ranked.{binary_rank, is_assignment, is_spec, is_step, is_unary}

-- how an operator binds that is neither binary nor an assignment: `,`, `?`, `[`, `++` and `--` (C17 6.5.2, 6.5.15, 6.5.17)
abbrev pub other_binding : Mark → Option Binding
other_binding mark.Comma = Some (record { left = 0; own = 0; right = 1 })
other_binding mark.Question = Some (record { left = 3; own = 2; right = 2 })
other_binding mark.LeftBracket = Some (record { left = 15; own = 15; right = 0 })
other_binding mark.PlusPlus = Some (record { left = 15; own = 15; right = 0 })
other_binding mark.MinusMinus = Some (record { left = 15; own = 15; right = 0 })
other_binding _ = None

-- how an operator binds: a binary one of this rank, an assignment, or another one (C17 6.5.5 to 6.5.17)
abbrev pub binding_by : Option ℕ → Bool → Option Binding → Option Binding
binding_by (Some n) assigns other = Some (record { left = n; own = n; right = n + 1 })
binding_by None true other = Some (record { left = 14; own = 1; right = 1 })
binding_by None false other = other

-- how an operator behind an operand binds
unfoldable pub binding : Mark → Option Binding
binding m = binding_by (binary_rank m) (is_assignment m) (other_binding m)

-- the least rank of an operand behind an operator that binds so
abbrev pub right_of : Option Binding → ℕ
right_of (Some b) = b.right
right_of None = 0

-- the least rank of an operand behind an operator
unfoldable pub right_rank : Mark → ℕ
right_rank m = right_of (binding m)

-- the rank of what an operator makes that binds so
abbrev pub own_of : Option Binding → ℕ
own_of (Some b) = b.own
own_of None = 0

-- the rank of what an operator makes
unfoldable pub own_rank : Mark → ℕ
own_rank m = own_of (binding m)

-- does an operator that binds so go on with an operand of this rank, in a place that takes the first rank or a higher one?
abbrev pub takes_by : ℕ → ℕ → Option Binding → Bool
takes_by hole rank (Some b) = nat_le hole b.own && nat_le b.left rank
takes_by hole rank None = false

-- does an operator go on with an operand of this rank, in a place that takes this rank or a higher one?
unfoldable pub takes : ℕ → ℕ → Mark → Bool
takes hole rank m = takes_by hole rank (binding m)

-- is it `++` or `--`?
unfoldable pub is_step_mark : Mark → Bool
is_step_mark m = is_step m

-- is it an operator that stands before an operand?
unfoldable pub is_prefix_mark : Mark → Bool
is_prefix_mark m = is_step m || is_unary m

-- is it a specifier?
unfoldable pub is_spec_word : Word → Bool
is_spec_word w = is_spec w
