-- For contracts between crates: nobody has to believe it.
-- How the conditions see a loop that was found.
use Rattle.std.specs.Prelude.{Option, Some, None}
use Rattle.std.specs.Option.{option_copied}
use Rattle.k_types_meaning.specs.declared.tree.statement.TFirst.{TFirst}
use Rattle.k_types_meaning.specs.declared.tree.statement.TFirst.TheVariants as first
use Rattle.k_wide_meaning.specs.Contents.{WideLoop, loop_of, seen}
use Rattle.k_wide_text.specs.declared.found.LoopText.{LoopText}

-- the first part of a loop, which only a `for` has
abbrev pub first_of_loop : Option TFirst → TFirst
first_of_loop None = first.Nothing
first_of_loop (Some f) = f

-- a loop that was found
abbrev pub loop_as : LoopText → WideLoop
loop_as l = loop_of l.sort (first_of_loop (option_copied l.start)) (option_copied l.test) (option_copied l.step) (seen l.body.now)
