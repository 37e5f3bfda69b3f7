-- For contracts between crates: nobody has to believe it.
-- What stands around texts, as pieces: the pads of a text and the instruction that closes it, the control source that is saved and taken
-- back, the test of an `if`, and the jump over its second arm.
use Rattle.std.specs.Prelude.{ℕ, zero, suc, ◌≡◌, ◌≢◌, ◌+◌, Bool, true, false, List, [], ◌∷◌, Option, Some, None}
use Rattle.k_num.specs.declared.place.Place.{Place}
use Rattle.k_optab.specs.declared.class.Class.TheVariants as class
use Rattle.k_marks_meaning.specs.declared.jumps.Jumps.{Jumps}
use Rattle.k_marks_meaning.specs.Jumps.{jumps_of_both, is_left}
use Rattle.k_code.specs.declared.instruction.Arg.{Arg}
use Rattle.k_code.specs.declared.instruction.Do.{Do}
use Rattle.k_code.specs.declared.instruction.Do.TheVariants.{Test, Jump, ObjectsClose}
use Rattle.k_evaluation.specs.States.{Program}
use Rattle.k_lower_code.specs.Pieces.{Piece, only, ◌>>>◌, does, instruction}
use Rattle.k_lower_code.specs.Stretches.{Site, Stretch, behind_objects, closed, over_size, over, pad_size, pad, pads_size, pads, to_pads}
use Rattle.k_lower_extents.specs.declared.extent.Extent.{Extent}
use Rattle.k_lower_statements.specs.Sites.{site_of}
use Rattle.k_lower_statements.specs.declared.site.Site as declared_site
use Rattle.k_lower_blocks.specs.declared.block.BlockRest.{BlockRest}
use Rattle.k_lower_blocks.specs.declared.block.Ending.{Ending}

-- the jump over pads, where there are any
abbrev pub passes_pads : Program → Place → Bool → ℕ → Piece (Unit {0})
passes_pads program place some to = record { size = over_size some; code = λ first. over program place some to; gives = tt }

-- a pad, where a jump comes to it
abbrev pub pad_of : Program → Place → Do → Bool → ℕ → Piece (Unit {0})
pad_of program place closes some to = record { size = pad_size some; code = λ first. pad program place closes some to; gives = tt }

-- the pads of a text with these jumps, and the jump over them
abbrev pub pads_of : Program → Place → Do → Jumps → Site → Piece (Unit {0})
pads_of program place closes j site = record { size = pads_size j; code = λ first. pads program place closes j site first; gives = tt }

-- what stands behind a text with these jumps that is closed at its end: its pads, and the instruction that closes
abbrev pub closing : Program → Place → Do → Jumps → Site → Piece (Unit {0})
closing program place closes j site = pads_of program place closes j site >>> λ passed. does program place closes

-- an instruction, unless the control source stays as the text leaves it
abbrev pub unless : Bool → Program → Place → Do → Piece (Unit {0})
unless true program place act = only tt
unless false program place act = does program place act

-- a test in front of an arm of this size
abbrev pub tests_one : Program → Place → Arg → ℕ → Piece (Unit {0})
tests_one program place a size = record {
  size = 1;
  code = λ first. instruction program place (Test a (first + 1) (first + 1 + size) None class.Test) ∷ [];
  gives = tt;
}

-- a test in front of an arm of this size, behind which a jump stands
abbrev pub tests_two : Program → Place → Arg → ℕ → Piece (Unit {0})
tests_two program place a size = record {
  size = 1;
  code = λ first. instruction program place (Test a (first + 1) (first + 1 + size + 1) None class.Test) ∷ [];
  gives = tt;
}

-- the jump over an arm of this size
abbrev pub passes_arm : Program → Place → ℕ → Piece (Unit {0})
passes_arm program place size = record {
  size = 1;
  code = λ first. instruction program place (Jump (first + 1 + size)) ∷ [];
  gives = tt;
}

-- an arm of these extents may be left by a jump
abbrev pub arms_left : Extent → Option Extent → Bool
arms_left one None = is_left one.jumps
arms_left one (Some other) = is_left (jumps_of_both one.jumps other.jumps)

-- the rest of a block behind a statement that made so many objects
abbrev pub rest_behind : Program → ℕ → Stretch → Stretch
rest_behind program zero rest = rest
rest_behind program (suc n) rest = closed program (ObjectsClose (suc n)) rest

-- the ends of texts, of which each stands in the one below it
abbrev pub ends_all : Program → List Ending → Piece (Unit {0})
ends_all program [] = only tt
ends_all program (e ∷ es) = closing program e.place (ObjectsClose e.count) e.jumps (site_of e.site) >>> λ closed. ends_all program es

-- THE REST OF A BLOCK IS ENTERED, behind a statement that made so many objects, where its first instruction has this number: the site of what
-- is in it, and the ends that are to come
pub record Enters (opens : ℕ) (rest : Extent) (place : Place) (site : declared_site.Site) (first : ℕ) (inner : declared_site.Site) (old new : List Ending) : Type 0 where
  pub same : opens ≡ 0 → inner ≡ site
  pub none : opens ≡ 0 → new ≡ old
  pub inside : opens ≢ 0 → site_of inner ≡ to_pads rest.jumps (first + rest.size) (site_of site)
  pub one : opens ≢ 0 → new ≡ record { place = place; count = opens; jumps = rest.jumps; site = site } ∷ old

-- the same, of which the first of the extents that are listed is the rest's
pub record EntersBlock (place : Place) (first : ℕ) (old new : BlockRest) : Type 0 where
  pub rest : Extent
  pub taken : old.rests ≡ rest ∷ new.rests
  pub enters : Enters old.opens rest place old.site first new.site old.endings new.endings

-- A STATEMENT of a block that makes so many objects is behind
pub record Passes (opens : ℕ) (old new : BlockRest) : Type 0 where
  pub opens_is : new.opens ≡ opens
  pub site : site_of new.site ≡ behind_objects opens (site_of old.site)
  pub rests : new.rests ≡ old.rests
  pub endings : new.endings ≡ old.endings
