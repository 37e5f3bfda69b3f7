-- Examples of reductions, by what happens to variables in a loop. Variable 0 is a whole number in a register, variable 1 is memory.
use Rattle.std.proofs.Common.{◌≡◌, ℕ, true, false, List, [], ◌∷◌, refl, None}
use Rattle.k_num.specs.declared.numbers.Kind.TheVariants.{I32}
use Rattle.k_types_meaning.specs.declared.types.TType.TheVariants as ttype
use Rattle.k_types_meaning.specs.declared.tree.statement.TFirst.TheVariants as first
use Rattle.k_types_meaning.specs.declared.tree.unit.TVariable.{TVariable}
use Rattle.k_marks_meaning.specs.declared.uses.Group.TheVariants.{Sums, Products}
use Rattle.k_marks_meaning.specs.declared.uses.Reduction.{Reduction}
use Rattle.k_marks_meaning.specs.declared.uses.Use.{Use}
use Rattle.k_marks_meaning.specs.declared.uses.Use.TheVariants.{Names, Declares, Reduces}
use Rattle.k_marks_meaning.specs.Jumps.{no_jumps, a_break, a_continue, a_return, out_of_loop, out_of_switch, is_left}
use Rattle.k_marks_meaning.specs.Loops.{Loop, is_reduced, reduced_reads}

abbrev variables : List TVariable
variables =
    record { place = record { line = 1; column = 1 }; of = ttype.Number I32; elements = 0 }
    ∷ record { place = record { line = 1; column = 5 }; of = ttype.Number I32; elements = 1 }
    ∷ []

-- `while (..) body`, where this happens in the body
abbrev over : List Use → Loop
over uses = record { start = first.Nothing; test = None; step = None; body_uses = uses; body_jumps = no_jumps }

abbrev plus : ℕ → Reduction
plus read = record { variable = 0; group = Sums; read = read }

abbrev times : ℕ → Reduction
times read = record { variable = 0; group = Products; read = read }

-- `s += 1; s -= 1;`
sums_are_mixed : is_reduced variables (over (Reduces (plus 5) ∷ Reduces (plus 9) ∷ [])) 0 Sums ≡ true
unfolding is_reduced
sums_are_mixed = refl

-- both reads are broken
both_are_broken : reduced_reads variables (over (Reduces (plus 5) ∷ Reduces (plus 9) ∷ [])) (Reduces (plus 5) ∷ Reduces (plus 9) ∷ []) ≡ 5 ∷ 9 ∷ []
unfolding is_reduced
both_are_broken = refl

-- `s += 1; s *= 2;`
groups_are_not : is_reduced variables (over (Reduces (plus 5) ∷ Reduces (times 9) ∷ [])) 0 Sums ≡ false
unfolding is_reduced
groups_are_not = refl

-- `s += s;`
not_by_itself : is_reduced variables (over (Reduces (plus 5) ∷ Names 0 ∷ [])) 0 Sums ≡ false
unfolding is_reduced
not_by_itself = refl

-- `int s; s += 1;`
not_declared_inside : is_reduced variables (over (Declares 0 ∷ Reduces (plus 5) ∷ [])) 0 Sums ≡ false
unfolding is_reduced
not_declared_inside = refl

-- memory is not reduced
not_in_memory : is_reduced variables (over []) 1 Sums ≡ false
unfolding is_reduced
not_in_memory = refl

-- `switch (..) { .. break; .. }` in a loop does not leave the switch, and `continue` leaves it
break_of_a_switch : is_left (out_of_switch a_break) ≡ false
break_of_a_switch = refl

continue_in_a_switch : is_left (out_of_switch a_continue) ≡ true
continue_in_a_switch = refl

-- a `return` leaves each loop around it
return_in_a_loop : is_left (out_of_loop a_return) ≡ true
return_in_a_loop = refl
