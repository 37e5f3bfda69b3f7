-- Believed with a public law.
-- What comes of a sum that is put together of files and is to be saved.
use Rattle.std.specs.Prelude.{◌<◌, ◌⊎◌, Result, Ok, Err}
use Rattle.k_dict_entries.specs.Trees.{size}
use Rattle.k_sum.specs.Laws.{forest_of}
use Rattle.k_sum.specs.declared.sum.Sum.{Sum}
use Rattle.k_sum.specs.declared.sum.SumFault.{SumFault}
use Rattle.k_sum.specs.declared.sum.SumFault.TheVariants.{Other, Large, Dict}
use Rattle.k_sum_order.specs.Order.{IsOrdered}
use Rattle.k_sum_saved.specs.SumLines.{AreOfMain}
use Rattle.k_sum_saved.specs.SumRules.{IsSum}

-- runs have together more work or more instances than those of one file may
abbrev pub IsPast : Sum → Type 0
IsPast sum = (17592186044416 < sum.work) ⊎ (576460752303423488 < size (forest_of sum))

-- what `finish` answers: the sum as its file has it, which can be saved, or why it can't: its roots are not of one region that is main, or
-- they are, and it is past the limits of a file
abbrev pub Finishes : Sum → Result Sum SumFault → Type 0
Finishes sum (Ok ordered) = AreOfMain sum.regions sum.dict sum.roots × (¬ IsPast sum) × IsOrdered sum ordered × IsSum ordered
Finishes sum (Err Other) = ¬ AreOfMain sum.regions sum.dict sum.roots
Finishes sum (Err Large) = AreOfMain sum.regions sum.dict sum.roots × IsPast sum
Finishes sum (Err (Dict fault)) = Unit {0}
