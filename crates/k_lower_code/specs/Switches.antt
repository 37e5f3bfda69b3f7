-- Believed with a public law.
-- How `switch` is lowered: the cases in text order, each a comparison and a select, and then the statements.
use Rattle.std.specs.Prelude.{ℕ, zero, suc, ◌+◌, Bool, true, false, ℤ, List, [], ◌∷◌, ◌++◌, None}
use Rattle.k_num.specs.declared.numbers.Bin.TheVariants.{Eq}
use Rattle.k_num.specs.declared.numbers.Kind.{Kind}
use Rattle.k_num.specs.declared.place.Place.{Place}
use Rattle.k_optab.specs.declared.class.Class.TheVariants as class
use Rattle.k_marks_meaning.specs.Jumps.{out_of_switch, is_left}
use Rattle.k_code.specs.declared.instruction.Arg.{Arg}
use Rattle.k_code.specs.declared.instruction.Arg.TheVariants.{Number, Reg}
use Rattle.k_code.specs.declared.instruction.Do.TheVariants.{Binary, Test, Jump}
use Rattle.k_code.specs.declared.instruction.Instr.{Instr}
use Rattle.k_types_meaning.specs.declared.tree.expression.TExpr.{TExpr}
use Rattle.k_types_meaning.specs.declared.tree.statement.Spot.{Spot}
use Rattle.k_evaluation.specs.States.{Program}
use Rattle.k_lower_code.specs.Declarations.{means, temporary}
use Rattle.k_lower_code.specs.Pieces.{Piece, instruction}
use Rattle.k_lower_code.specs.Stretches.{Inside, Site, Stretch, in_order, settled_unless}

-- A part of the braces of a switch: a case with its value, a default, or a statement.
pub data PartLowered : Type 0 where
  ACase : Place → ℤ → PartLowered
  ADefault : PartLowered
  AStatement : Stretch → PartLowered

-- the statements among these parts
abbrev pub statements_of : List PartLowered → List Stretch
statements_of [] = []
statements_of (ACase place z ∷ parts) = statements_of parts
statements_of (ADefault ∷ parts) = statements_of parts
statements_of (AStatement s ∷ parts) = s ∷ statements_of parts

-- there is a case
abbrev pub has_case : List PartLowered → Bool
has_case [] = false
has_case (ACase place z ∷ parts) = true
has_case (ADefault ∷ parts) = has_case parts
has_case (AStatement s ∷ parts) = has_case parts

-- how many instructions the cases have
abbrev pub cases_size : List PartLowered → ℕ
cases_size [] = 0
cases_size (ACase place z ∷ parts) = 2 + cases_size parts
cases_size (ADefault ∷ parts) = cases_size parts
cases_size (AStatement s ∷ parts) = cases_size parts

-- the cases of parts of which the statements begin at this instruction, and where the cases begin at that one
abbrev pub cases_code : Program → Kind → ℕ → Arg → List PartLowered → ℕ → ℕ → List Instr
cases_code program kind r on [] at first = []
cases_code program kind r on (ACase place z ∷ parts) at first =
    instruction program place (Binary Eq kind on (Number z) (r + 1))
    ∷ instruction program place (Test (Reg (r + 1) false) at (first + 2) None class.Select) ∷ cases_code program kind r on parts at (first + 2)
cases_code program kind r on (ADefault ∷ parts) at first = cases_code program kind r on parts at first
cases_code program kind r on (AStatement s ∷ parts) at first = cases_code program kind r on parts (at + s.size) first

-- how many instructions of statements stand before the default, or all where there is none
abbrev pub before_default : List PartLowered → ℕ
before_default [] = 0
before_default (ACase place z ∷ parts) = before_default parts
before_default (ADefault ∷ parts) = 0
before_default (AStatement s ∷ parts) = s.size + before_default parts

-- the jump over instructions, where there are any
abbrev pub skips_size : ℕ → ℕ
skips_size zero = 0
skips_size (suc n) = 1

-- the jump itself
abbrev pub skips : Program → Place → ℕ → ℕ → List Instr
skips program place zero first = []
skips program place (suc n) first = instruction program place (Jump (first + 1 + suc n)) ∷ []

-- the statements of a switch, of which a `break` goes to their end
abbrev pub statements_code : Program → Place → List PartLowered → Site → ℕ → List Instr
statements_code program place parts site first =
    (in_order program place (statements_of parts)).code
    (record site { breaks = first + (in_order program place (statements_of parts)).size }) first

-- a switch behind its value
abbrev pub switches : Program → Place → Kind → ℕ → List PartLowered → Piece Arg → Stretch
switches program place kind r parts on = record {
  size = on.size + cases_size parts + skips_size (before_default parts) + (in_order program place (statements_of parts)).size;
  code = λ site first.
      on.code first
      ++ cases_code program kind r on.gives parts (first + on.size + cases_size parts + skips_size (before_default parts)) (first + on.size)
      ++ skips program place (before_default parts) (first + on.size + cases_size parts)
      ++ statements_code program place parts site (first + on.size + cases_size parts + skips_size (before_default parts));
  jumps = out_of_switch (in_order program place (statements_of parts)).jumps;
  opens = 0;
  place = place;
}

-- `switch (on) { parts }`
unfoldable pub switch : Inside → Spot → Kind → TExpr → List PartLowered → Stretch
switch w spot kind on parts =
    settled_unless (is_left (out_of_switch (in_order w.program spot.place (statements_of parts)).jumps)) w.program
    (switches w.program spot.place kind (temporary w) parts ((means w on).value (has_case parts) (temporary w)))
