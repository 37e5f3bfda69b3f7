use Rattle.std.proofs.lemmas.Slice.Eq.{slice_eq-Decides}
use Rattle.k_sum.proofs.Programs.{region_decides}
use Rattle.k_sum.proofs.adding.are_same.Goals as goal

pub returns : goal.returns
returns c = slice_eq-Decides region_decides c.args.one.now c.args.other.now c.eq.result c.eq.ensures
