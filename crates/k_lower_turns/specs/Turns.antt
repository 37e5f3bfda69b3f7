-- For contracts between crates: nobody has to believe it.
-- What stands around the body of a loop, as pieces, and where the parts of a loop stand. Of the body nothing is read but its extent.
use Rattle.std.specs.Prelude.{ℕ, ◌+◌, Bool, [], Option, None, slice_get}
use Rattle.k_num.specs.declared.place.Place.{Place}
use Rattle.k_optab.specs.declared.class.Class.TheVariants as class
use Rattle.k_types_meaning.specs.declared.tree.expression.TExpr.{TExpr}
use Rattle.k_types_meaning.specs.declared.tree.statement.Spot.{Spot}
use Rattle.k_code.specs.declared.instruction.Arg.{Arg}
use Rattle.k_code.specs.declared.instruction.Do.{Do}
use Rattle.k_code.specs.declared.instruction.Do.TheVariants.{Test, Jump, Enter, Exit, Save, Back, Restore}
use Rattle.k_evaluation.specs.Loops.{loop_region}
use Rattle.k_evaluation.specs.Meanings.{flag}
use Rattle.k_evaluation.specs.States.{Program}
use Rattle.k_lower_code.specs.Loops.{LoopParts, before_body, before_turns, body_site, end_of, if_so, one_if, restores_step, saves_body, step_or_none, test_or_one, turn_size}
use Rattle.k_lower_code.specs.Pieces.{Piece, ◌>>>◌, does, nothing}
use Rattle.k_lower_code.specs.Stretches.{Inside, Stretch, over, over_size, pad, pad_size}
use Rattle.k_lower_extents.specs.declared.extent.Extent.{Extent}
use Rattle.k_lower_statements.specs.Sites.{site_of}
use Rattle.k_lower_statements.specs.declared.site.Site as declared_site
use Rattle.k_lower_turns.specs.declared.numbers.Numbers.{Numbers}
use Rattle.k_lower_turns.specs.declared.turns.Turns.{Turns}

-- the loop of this number among those of the source, at this spot, with a body of this extent
abbrev pub source_turns : Inside → Spot → ℕ → Bool → Extent → Turns
source_turns w spot number tested body = record {
  place = spot.place;
  region = loop_region w.function number;
  counted = flag (slice_get w.program.marks.counted number);
  tested = tested;
  body = body;
}

-- a loop with this test, this step and this body
abbrev pub loop_by : Turns → Piece Arg → Piece (Unit {0}) → Stretch → LoopParts
loop_by t test step body =
    record { place = t.place; region = t.region; test = test; step = step; body = body; counted = t.counted; tested = t.tested }

-- a loop of the source with this body
abbrev pub loop_of : Inside → Turns → Option TExpr → Option TExpr → Stretch → LoopParts
loop_of w t test step body = loop_by t (test_or_one w test) (step_or_none w step) body

-- some text of this extent
abbrev pub text_of : Place → Extent → Stretch
text_of place x = record { size = x.size; code = λ site first. []; jumps = x.jumps; opens = x.opens; place = place }

-- a loop of which the step and the test have these sizes
abbrev pub shape : Turns → ℕ → ℕ → LoopParts
shape t step test =
    loop_by t (record { size = test; code = λ first. []; gives = nothing }) (record { size = step; code = λ first. []; gives = tt })
    (text_of t.place t.body)

-- how many instructions stand between the `continue` of a body and the step
abbrev pub before_step : LoopParts → ℕ
before_step l = 1 + one_if (saves_body l) + one_if (restores_step l)

-- where the parts of a loop at this site stand that begins with this instruction
abbrev pub numbers_of : LoopParts → declared_site.Site → ℕ → Numbers
numbers_of l site first = record {
  body = record {
    objects = site.objects;
    breaks = (body_site l (site_of site) (first + before_turns l + before_body l)).breaks;
    continues = (body_site l (site_of site) (first + before_turns l + before_body l)).continues;
  };
  top = first + before_turns l;
  test = first + before_turns l + turn_size l;
  end = end_of l first;
}

-- an instruction that may be left out
abbrev pub does_if : Program → Place → Bool → Do → Piece (Unit {0})
does_if program place there act = record { size = one_if there; code = λ first. if_so program place there act; gives = tt }

-- the jump over the pad of a `break`
abbrev pub jumps_over : Program → Place → Bool → ℕ → Piece (Unit {0})
jumps_over program place breaks to = record { size = over_size breaks; code = λ first. over program place breaks to; gives = tt }

-- the pad of a `break`
abbrev pub pads : Program → Place → Bool → ℕ → Piece (Unit {0})
pads program place breaks to = record { size = pad_size breaks; code = λ first. pad program place Exit breaks to; gives = tt }

-- what stands before the first turn
abbrev pub begins_turns : Program → Turns → Numbers → Piece (Unit {0})
begins_turns program t n = does program t.place (Enter t.region) >>> λ entered. does_if program t.place t.tested (Jump n.test)

-- what stands before the body in a turn
abbrev pub begins_body : Program → Turns → Piece (Unit {0})
begins_body program t =
    does_if program t.place t.counted Restore >>> λ restored. does_if program t.place (saves_body (shape t 0 0)) Save >>> λ saved.
    does program t.place (Enter (t.region + 1))

-- what stands before the body of a loop
abbrev pub enters : Program → Turns → Numbers → Piece (Unit {0})
enters program t n = begins_turns program t n >>> λ begun. begins_body program t

-- what stands behind the body and ends its region
abbrev pub ends_body : Program → Turns → Numbers → Piece (Unit {0})
ends_body program t n =
    jumps_over program t.place t.body.jumps.breaks n.body.continues >>> λ jumped. pads program t.place t.body.jumps.breaks n.end >>> λ padded.
    does program t.place Exit >>> λ left. does_if program t.place (saves_body (shape t 0 0)) Back

-- what stands behind the body's region
abbrev pub tests_again : Inside → Turns → Numbers → Option TExpr → Option TExpr → Piece (Unit {0})
tests_again w t n test step =
    does_if w.program t.place (restores_step (shape t 0 0)) Restore >>> λ restored. step_or_none w step >>> λ stepped. test_or_one w test >>> λ a.
    does w.program t.place (Test a n.top n.end None class.Test) >>> λ tested. does w.program t.place Exit

-- what stands behind the body of a loop
abbrev pub leaves : Inside → Turns → Numbers → Option TExpr → Option TExpr → Piece (Unit {0})
leaves w t n test step = ends_body w.program t n >>> λ ended. tests_again w t n test step
