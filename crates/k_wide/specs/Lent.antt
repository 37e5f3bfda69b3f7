-- For contracts between crates: nobody has to believe it.
-- What lent comparisons and lent steps stand for.
use Rattle.std.specs.Option.{option_copied}
use Rattle.k_wide_meaning.specs.Reductions.{Compared}
use Rattle.k_wide_meaning.specs.Steps.{Step}
use Rattle.k_wide.specs.declared.comparisons.Comparison.{Comparison}
use Rattle.k_wide.specs.declared.steps.Stepping.{Stepping}

-- the comparison that is lent
abbrev pub compared_as : Comparison → Compared
compared_as c = record { s = c.read; e = c.value.now; kept = c.kept }

-- the step that is lent
abbrev pub step_as : Stepping → Step
step_as s = record { v = s.read; d = option_copied s.by }
