use Rattle.std.proofs.Common.{List, subst, sym}
use Rattle.k_dict_entries.specs.Interning.{CanIntern}
use Rattle.k_dict_entries.specs.declared.entry.Entry.{Entry}
use Rattle.k_dict_entries.proofs.Pushes.{NameEarlier-interned, interned}
use Rattle.k_dict_entries.proofs.dict.Dict.intern.Goals as goal

pub invariant_of-self : goal.invariant_of-self
invariant_of-self c =
    let P : List Entry → Type 0 = λ l. CanIntern l c.args.entry in
    NameEarlier-interned c.self.inside.table c.intern.new.self c.args.entry c.intern.result c.self.invariant (subst P (sym c.self.view_is) c.requires) c.intern.ensures.answer

pub returns-clause-interned : goal.returns-clause-interned
returns-clause-interned c =
    let P : List Entry → Type 0 = λ l. CanIntern l c.args.entry in
    interned c.intern.new.self c.intern.ensures.distinct
    (NameEarlier-interned c.self.inside.table c.intern.new.self c.args.entry c.intern.result c.self.invariant (subst P (sym c.self.view_is) c.requires) c.intern.ensures.answer)
