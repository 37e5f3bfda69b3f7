-- For contracts between crates: nobody has to believe it.
-- What a list ends as, where its items are lent for writing, and a box, where its value is.
use Rattle.std.specs.Prelude.{List, length}
use Rattle.std.specs.List.{refill}
use Rattle.std.specs.Borrow.{Lends, Fml, RattleType, MutBor, Array}
use Rattle.k_num.specs.contracts.seq.Seq.{the_row}
use Rattle.k_num.specs.contracts.boxed.Box.{the_row as the_row_of_a_box}

-- once the borrow ends, the list has the items that the slice shows last (a slice keeps its length)
abbrev pub LendsItems : (T : RattleType) → MutBor (List T.Denot) → MutBor (List T.Denot) → Fml
LendsItems T list slice = Lends (the_row T) (Array T 0) list slice (refill (length list.now) list.now)

-- once the borrow ends, the box has the value that was written last
abbrev pub LendsValue : (T : RattleType) → MutBor T.Denot → MutBor T.Denot → Fml
LendsValue T held value = Lends (the_row_of_a_box T) T held value (λ written. written)
