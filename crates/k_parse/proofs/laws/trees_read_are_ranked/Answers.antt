use Rattle.k_parse.proofs.RunSound.{tree_sound}
use Rattle.k_parse.proofs.laws.trees_read_are_ranked.Goals as goal

pub returns : goal.returns
returns c = λ limit tokens u once read. let unit = tree_sound limit tokens u once read in (unit.ranked, unit.placed, unit.within)
