use Rattle.std.proofs.Common.{List, refl, sym, ◌∙◌, subst}
use Rattle.std.specs.Int.{w32}
use Rattle.std.proofs.lemmas.Int.{to_z-of_z}
use Rattle.k_dict_entries.specs.Entries.{trees_of}
use Rattle.k_dict_entries.specs.declared.entry.Entry.{Entry}
use Rattle.k_dict_saved.specs.Formats.{HaveRuns}
use Rattle.k_dict_saved.specs.Migration.{AreOfShapes, HaveFewChildren}
use Rattle.k_dict_saved.specs.declared.format.Format.TheVariants.{One}
use Rattle.k_dict_saved.proofs.Migrated.{few_children, is_migrated, is_saved}
use Rattle.k_dict_saved.proofs.migration.migrate.Goals as goal

pub dictionary-requires-clause-runs : goal.dictionary-requires-clause-runs
dictionary-requires-clause-runs c =
    let P : List Entry → Type 0 = HaveRuns One in subst P (sym c.as_slice.ensures) c.requires.entries.runs

pub dictionary-requires-clause-few : goal.dictionary-requires-clause-few
dictionary-requires-clause-few c =
    let P : List Entry → Type 0 = HaveFewChildren in
    subst P (sym c.as_slice.ensures) (few_children c.args.old.now.entries c.requires.entries.runs c.requires.entries.instances)

pub returns-in-Ok-clause-saved : goal.returns-in-Ok-clause-saved
returns-in-Ok-clause-saved c =
    let P : List Entry → Type 0 = λ l. AreOfShapes (trees_of l) c.in_ok-dict.dict in
    is_saved c.args.old.now _ c.requires (to_z-of_z w32 c.args.old.now.exit c.requires.exit) refl (c.in-Ok.ensures ∙ c.as_slice-2.ensures)
    (subst P c.as_slice.ensures c.in_ok-dict.ensures.shapes) c.in_ok-dict.ensures.interned

pub returns-in-Ok-clause-migrated : goal.returns-in-Ok-clause-migrated
returns-in-Ok-clause-migrated c =
    let P : List Entry → Type 0 = λ l. AreOfShapes (trees_of l) c.in_ok-dict.dict in
    is_migrated c.args.old.now _ c.requires (to_z-of_z w32 c.args.old.now.exit c.requires.exit) refl (c.in-Ok.ensures ∙ c.as_slice-2.ensures)
    (subst P c.as_slice.ensures c.in_ok-dict.ensures.shapes) c.in_ok-dict.ensures.interned
