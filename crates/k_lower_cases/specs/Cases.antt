-- For contracts between crates: nobody has to believe it.
-- What stands before the statements of a `switch`, as pieces of code.
use Rattle.std.specs.Prelude.{ℕ, zero, suc, ◌+◌, Bool, true, false, ℤ, List, [], ◌∷◌, ◌++◌, None}
use Rattle.k_num.specs.declared.numbers.Bin.TheVariants.{Eq}
use Rattle.k_num.specs.declared.numbers.Kind.{Kind}
use Rattle.k_num.specs.declared.place.Place.{Place}
use Rattle.k_optab.specs.declared.class.Class.TheVariants as class
use Rattle.k_types_meaning.specs.declared.tree.expression.TExpr.{TExpr}
use Rattle.k_code.specs.declared.instruction.Arg.{Arg}
use Rattle.k_code.specs.declared.instruction.Arg.TheVariants.{Number, Reg}
use Rattle.k_code.specs.declared.instruction.Do.TheVariants.{Binary, Test}
use Rattle.k_evaluation.specs.States.{Program}
use Rattle.k_lower_code.specs.Declarations.{means, temporary}
use Rattle.k_lower_code.specs.Pieces.{Piece, ◌>>>◌, instruction, only}
use Rattle.k_lower_code.specs.Stretches.{Inside, Site, Stretch}
use Rattle.k_lower_code.specs.Switches.{PartLowered, ACase, ADefault, AStatement, before_default, cases_code, cases_size, has_case, skips, skips_size, switches}

-- a case, where the statements behind it begin at this instruction
abbrev pub case : Program → Kind → ℕ → Arg → ℕ → Place → ℤ → Piece (Unit {0})
case program kind r on at place z = record {
  size = 2;
  code = λ first.
      instruction program place (Binary Eq kind on (Number z) (r + 1))
      ∷ instruction program place (Test (Reg (r + 1) false) at (first + 2) None class.Select) ∷ [];
  gives = tt;
}

-- a part among the cases: it gives where the statements behind it begin
abbrev pub part_case : Program → Kind → ℕ → Arg → ℕ → PartLowered → Piece ℕ
part_case program kind r on at (ACase place z) = case program kind r on at place z >>> λ done. only at
part_case program kind r on at ADefault = only at
part_case program kind r on at (AStatement s) = only (at + s.size)

-- the cases of parts of which the statements begin at this instruction
abbrev pub cases : Program → Kind → ℕ → Arg → List PartLowered → ℕ → Piece (Unit {0})
cases program kind r on parts at =
    record { size = cases_size parts; code = λ first. cases_code program kind r on parts at first; gives = tt }

-- a part is the default
abbrev pub is_default : PartLowered → Bool
is_default (ACase place z) = false
is_default ADefault = true
is_default (AStatement s) = false

-- how many instructions of statements are of this part
abbrev pub statement_size : PartLowered → ℕ
statement_size (ACase place z) = 0
statement_size ADefault = 0
statement_size (AStatement s) = s.size

-- the jump over so many instructions, where there are any
abbrev pub skip : Program → Place → ℕ → Piece (Unit {0})
skip program place n = record { size = skips_size n; code = λ first. skips program place n first; gives = tt }

-- what stands before the statements of a switch: its value, its cases, and the jump to its default
abbrev pub front : Program → Place → Kind → ℕ → List PartLowered → Piece Arg → Piece (Unit {0})
front program place kind r parts on = record {
  size = on.size + cases_size parts + skips_size (before_default parts);
  code = λ first.
      on.code first
      ++ cases_code program kind r on.gives parts (first + on.size + cases_size parts + skips_size (before_default parts)) (first + on.size)
      ++ skips program place (before_default parts) (first + on.size + cases_size parts);
  gives = tt;
}

-- there are any instructions
abbrev pub is_any : ℕ → Bool
is_any zero = false
is_any (suc n) = true

-- the value of a switch is used where there is a case
abbrev pub value_of : Inside → TExpr → List PartLowered → Piece Arg
value_of w on parts = (means w on).value (has_case parts) (temporary w)

-- what stands before the statements of a switch on this value
abbrev pub front_in : Inside → Place → Kind → TExpr → List PartLowered → Piece (Unit {0})
front_in w place kind on parts = front w.program place kind (temporary w) parts (value_of w on parts)

-- a switch on this value, before its control source is settled
abbrev pub switches_in : Inside → Place → Kind → TExpr → List PartLowered → Stretch
switches_in w place kind on parts = switches w.program place kind (temporary w) parts (value_of w on parts)

-- a site of which a `break` goes to this instruction
abbrev pub with_breaks : Site → ℕ → Site
with_breaks site to = record site { breaks = to }
