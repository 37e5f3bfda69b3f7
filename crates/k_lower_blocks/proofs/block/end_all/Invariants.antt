use Rattle.std.proofs.Common.{length}
use Rattle.k_lower_expressions.specs.Arounds.{program_of}
use Rattle.k_lower_statements.proofs.Left.{IsLeft}
use Rattle.k_lower_blocks.specs.Arounds.{ends_all}
use Rattle.k_lower_blocks.proofs.block.end_all.Given as goal

abbrev pub invariant-loop-it : goal.invariant-loop-it
invariant-loop-it l =
    IsLeft {A = Unit {0}} (ends_all (program_of l.around) l.endings) (ends_all (program_of l.around) l.fn.endings) l.fn.out.items l.out.items

abbrev pub decreases-loop-it : goal.decreases-loop-it
decreases-loop-it l = length l.endings
