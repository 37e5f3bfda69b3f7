use Rattle.std.proofs.Common.{◌≡◌, Some, map, ◌++◌, sym, ap, ◌∙◌}
use Rattle.k_types_meaning.specs.declared.tree.declaration.TInit.{TInit}
use Rattle.k_types_meaning.specs.declared.tree.declaration.TInit.TheVariants as begins
use Rattle.k_types_meaning.specs.Dimensions.{room}
use Rattle.k_types_meaning.specs.Initialisers.{Beginning, Items, beginning, giving, items_within}
use Rattle.k_types_meaning.specs.Made.{Fine, then_made}
use Rattle.k_types_declarations.specs.Braces.{kept_items}
use Rattle.k_types_declarations.proofs.initialiser.elements_given.Goals as goal

pub returns : goal.returns
returns c =
    let given = c.in_ok-put_all.ensures in
    let next = λ (found : Items). Fine (beginning (Some (begins.Elements found.items)) found.taken) in
    let element = c.args.element in
    let all = map (giving c.args.names.now) c.args.items.now in
    let start : Beginning = beginning (Some (begins.Elements given.0.items)) given.0.taken in
    let made : then_made (items_within c.args.file element.kind element.dims.now (room c.args.count) 0 all) next ≡ Fine start =
    ap (λ n. then_made (items_within c.args.file element.kind element.dims.now n 0 all) next) (sym c.room.ensures) ∙ ap (λ m. then_made m next) given.1 in (
      start,
      made,
      ap (λ (i : TInit). Some i) c.in_ok-init.ensures
          ∙ ap (λ l. Some (begins.Elements l)) (given.2 ∙ ap (λ l. l ++ kept_items c.args.kept given.0.items) c.new-2.ensures),
      c.replace.ensures.after ∙ (given.3 ∙ ap (λ l. l ++ given.0.taken) c.replace-older.ensures.value),
    )
