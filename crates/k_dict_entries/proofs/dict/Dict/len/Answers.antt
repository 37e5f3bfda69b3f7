use Rattle.std.proofs.Common.{List, subst}
use Rattle.k_dict_entries.specs.Entries.{AreInterned}
use Rattle.k_dict_entries.specs.declared.entry.Entry.{Entry}
use Rattle.k_dict_entries.proofs.Pushes.{interned}
use Rattle.k_dict_entries.proofs.dict.Dict.len.Goals as goal

pub returns-clause-interned : goal.returns-clause-interned
returns-clause-interned c =
    let P : List Entry → Type 0 = AreInterned in subst P c.self.view_is (interned c.self.inside.table c.len.ensures.distinct c.self.invariant)
