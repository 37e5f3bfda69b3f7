-- Believed with a public law.
-- How statements are lowered, and how they stand one behind another. What a stretch opens it closes at one place, at its end: a `break` or a
-- `continue` in it goes to a pad before that end, which closes the same and jumps on outwards. So what is open before an instruction can be
-- read off the text.
use Rattle.std.specs.Prelude.{ℕ, zero, suc, ◌+◌, Bool, true, false, ◌||◌, List, [], ◌∷◌, ◌++◌}
use Rattle.k_num.specs.declared.place.Place.{Place}
use Rattle.k_marks_meaning.specs.declared.jumps.Jumps.{Jumps}
use Rattle.k_marks_meaning.specs.Jumps.{no_jumps, jumps_of_both}
use Rattle.k_code.specs.declared.instruction.Do.{Do}
use Rattle.k_code.specs.declared.instruction.Do.TheVariants.{Jump, ObjectsClose, Save, Back}
use Rattle.k_code.specs.declared.instruction.Instr.{Instr}
use Rattle.k_types_meaning.specs.declared.tree.unit.TVariable.{TVariable}
use Rattle.k_evaluation.specs.States.{Program}
use Rattle.k_lower_code.specs.Pieces.{Piece, instruction}

-- What stays the same in a function: the program, the number of the function, and its variables.
pub record Inside : Type 0 where
  pub program : Program
  pub function : ℕ
  pub vars : List TVariable

-- What is told to a statement where it stands: how many objects of the call are live, and to which instructions its `break` and its
-- `continue` go.
pub record Site : Type 0 where
  pub objects : ℕ
  pub breaks : ℕ
  pub continues : ℕ

-- How a statement is lowered: how many instructions it has; what they are, where the first of them has this number; the jumps that lead out
-- of its text; how many objects it makes that live on behind it; and where it stands in the source.
pub record Stretch : Type 0 where
  pub size : ℕ
  pub code : Site → ℕ → List Instr
  pub jumps : Jumps
  pub opens : ℕ
  pub place : Place

-- a piece of code, as a statement at this place
abbrev pub of_piece : Place → Piece (Unit {0}) → Stretch
of_piece place piece = record { size = piece.size; code = λ site first. piece.code first; jumps = no_jumps; opens = 0; place = place }

-- no instruction
abbrev pub nothing_done : Place → Stretch
nothing_done place = record { size = 0; code = λ site first. []; jumps = no_jumps; opens = 0; place = place }

-- the site behind objects that were made
abbrev pub behind_objects : ℕ → Site → Site
behind_objects count site = record site { objects = site.objects + count }

-- one stretch behind another
abbrev pub behind : Stretch → Stretch → Stretch
behind one other = record {
  size = one.size + other.size;
  code = λ site first. one.code site first ++ other.code (behind_objects one.opens site) (first + one.size);
  jumps = jumps_of_both one.jumps other.jumps;
  opens = one.opens + other.opens;
  place = one.place;
}

-- a pad has two instructions, where a jump of the text comes to it
abbrev pub pad_size : Bool → ℕ
pad_size false = 0
pad_size true = 2

-- a pad: what is open is closed, and the jump goes on
abbrev pub pad : Program → Place → Do → Bool → ℕ → List Instr
pad program place closes false to = []
pad program place closes true to = instruction program place closes ∷ instruction program place (Jump to) ∷ []

-- the jump over the pads behind a text, where there are any
abbrev pub over_size : Bool → ℕ
over_size false = 0
over_size true = 1

-- the jump over them
abbrev pub over : Program → Place → Bool → ℕ → List Instr
over program place false to = []
over program place true to = instruction program place (Jump to) ∷ []

-- the size of the pads of a text with these jumps, and of the jump over them
abbrev pub pads_size : Jumps → ℕ
pads_size j = over_size (j.breaks || j.continues) + pad_size j.breaks + pad_size j.continues

-- the pads of a text with these jumps, which go on to where the site says, and the jump over them
abbrev pub pads : Program → Place → Do → Jumps → Site → ℕ → List Instr
pads program place closes j site first =
    over program place (j.breaks || j.continues) (first + pads_size j)
    ++ pad program place closes j.breaks site.breaks ++ pad program place closes j.continues site.continues

-- the site of a text that is closed at its end and of which the pads begin at this instruction
abbrev pub to_pads : Jumps → ℕ → Site → Site
to_pads j first site = record site {
  breaks = first + over_size (j.breaks || j.continues);
  continues = first + over_size (j.breaks || j.continues) + pad_size j.breaks;
}

-- A TEXT THAT IS CLOSED at its end: what this instruction closes is open before it
abbrev pub closed : Program → Do → Stretch → Stretch
closed program closes text = record {
  size = text.size + pads_size text.jumps + 1;
  code = λ site first.
      text.code (to_pads text.jumps (first + text.size) site) first
      ++ pads program text.place closes text.jumps site (first + text.size) ++ instruction program text.place closes ∷ [];
  jumps = text.jumps;
  opens = 0;
  place = text.place;
}

-- a stretch of which no objects live on
abbrev pub without_objects : Stretch → Stretch
without_objects s = record s { opens = 0 }

-- the rest of a block behind a statement that makes so many objects: they die at its end
abbrev pub followed_by : Program → Stretch → ℕ → Stretch → Stretch
followed_by program s zero rest = behind s rest
followed_by program s (suc n) rest = without_objects (behind s (closed program (ObjectsClose (suc n)) rest))

-- statements one behind the other; the last of them stands at this place
abbrev pub in_order : Program → Place → List Stretch → Stretch
in_order program place [] = nothing_done place
in_order program place (s ∷ ss) = followed_by program s s.opens (in_order program place ss)

-- a stretch behind which the control source is as before it
abbrev pub settled : Program → Stretch → Stretch
settled program s = record {
  size = 1 + s.size + 1;
  code = λ site first. instruction program s.place Save ∷ s.code site (first + 1) ++ instruction program s.place Back ∷ [];
  jumps = s.jumps;
  opens = s.opens;
  place = s.place;
}

-- the same where it doesn't stay as the stretch leaves it
abbrev pub settled_unless : Bool → Program → Stretch → Stretch
settled_unless true program s = s
settled_unless false program s = settled program s
