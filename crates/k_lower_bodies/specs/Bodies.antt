-- For contracts between crates: nobody has to believe it.
-- Statements of a block and parts of a switch that were emitted, and what stands behind a loop in front of which objects were made.
use Rattle.std.specs.Prelude.{ℕ, zero, suc, ◌≡◌, Bool, true, false, List, [], length}
use Rattle.k_num.specs.declared.place.Place.{Place}
use Rattle.k_types_meaning.specs.declared.tree.statement.TPart.{TPart}
use Rattle.k_types_meaning.specs.declared.tree.statement.TPart.TheOpen.{TStmt-F}
use Rattle.k_types_meaning.specs.declared.tree.statement.TStmt.{TStmt, out-TStmt}
use Rattle.k_code.specs.declared.instruction.Do.TheVariants.{ObjectsClose}
use Rattle.k_code.specs.declared.instruction.Instr.{Instr}
use Rattle.k_evaluation.specs.States.{Program}
use Rattle.k_lower_code.specs.Pieces.{Piece, does, only}
use Rattle.k_lower_code.specs.Stretches.{Stretch}
use Rattle.k_lower_code.specs.Switches.{PartLowered, ACase, ADefault, AStatement}
use Rattle.k_lower_expressions.specs.Emits.{Emitted}
use Rattle.k_lower_extents.specs.declared.extent.Extent.{Extent}
use Rattle.k_lower_statements.specs.Sites.{at_site, site_of}
use Rattle.k_lower_statements.specs.declared.site.Site as declared_site
use Rattle.k_lower_blocks.specs.Arounds.{EntersBlock, Passes}
use Rattle.k_lower_blocks.specs.declared.block.BlockRest.{BlockRest}

-- a loop
abbrev pub iterates_at : TStmt-F TPart TStmt → Bool
iterates_at (TStmt-F.While spot n test body) = true
iterates_at (TStmt-F.DoWhile spot n body test) = true
iterates_at (TStmt-F.For spot n start test step body) = true
iterates_at _ = false

-- a statement is one
abbrev pub iterates : TStmt → Bool
iterates s = iterates_at (out-TStmt s)

-- a block of which nothing was emitted yet
abbrev pub begun : declared_site.Site → List Extent → BlockRest
begun site rests = record { site = site; opens = 0; rests = rests; endings = [] }

-- THE NEXT STATEMENT of a block was emitted
pub record NextEmitted (s : Stretch) (old new : BlockRest) (now after : List Instr) : Type 0 where
  pub inner : BlockRest
  pub place : Place
  pub opens : ℕ
  pub enters : EntersBlock place (length now) old inner
  pub stands : place ≡ s.place
  pub emitted : Emitted {A = Unit {0}} tt (at_site (site_of inner.site) s) now after
  pub passes : Passes opens inner new
  pub makes : opens ≡ s.opens

-- THE NEXT PART of a switch was emitted among its statements: a case and a default are none of them
abbrev pub PartEmitted : PartLowered → BlockRest → BlockRest → List Instr → List Instr → Type 0
PartEmitted (ACase place z) old new now after = (new ≡ old) × (after ≡ now)
PartEmitted ADefault old new now after = (new ≡ old) × (after ≡ now)
PartEmitted (AStatement s) old new now after = NextEmitted s old new now after

-- so many objects die, where there are any
abbrev pub closes : Program → Place → ℕ → Piece (Unit {0})
closes program place zero = only tt
closes program place (suc n) = does program place (ObjectsClose (suc n))
