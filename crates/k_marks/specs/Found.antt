-- For contracts between crates: nobody has to believe it.
-- How the conditions see a loop that was found.
use Rattle.std.specs.Prelude.{Some, None}
use Rattle.k_types_meaning.specs.declared.tree.statement.TFirst.TheVariants as first
use Rattle.k_marks.specs.declared.found.Turns.{Turns}
use Rattle.k_marks.specs.declared.found.Turns.TheVariants as turns
use Rattle.k_marks_meaning.specs.Loops.{Loop}
use Rattle.k_marks_meaning.specs.Contents.{inside}

-- a loop that was found
abbrev pub seen : Turns → Loop
seen (turns.Tested test body) = record {
  start = first.Nothing;
  test = Some test.now;
  step = None;
  body_uses = (inside body.now).uses;
  body_jumps = (inside body.now).jumps;
}
seen (turns.For start test step body) = record {
  start = start.now;
  test = test.now;
  step = step.now;
  body_uses = (inside body.now).uses;
  body_jumps = (inside body.now).jumps;
}
