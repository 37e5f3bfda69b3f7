use Rattle.std.proofs.Common.{List, sym, subst}
use Rattle.k_dict_entries.specs.Entries.{NameEarlier}
use Rattle.k_dict_entries.specs.declared.entry.Entry.{Entry}
use Rattle.k_dict_entries.proofs.Pushes.{NameEarlier-take}
use Rattle.k_dict_entries.proofs.dict.Dict.shorten.Goals as goal

pub invariant_of-self : goal.invariant_of-self
invariant_of-self c =
    let P : List Entry → Type 0 = NameEarlier in
    subst P (sym c.shorten.ensures) (NameEarlier-take c.args.keep c.self.inside.table c.self.invariant)
