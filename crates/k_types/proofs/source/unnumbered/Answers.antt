use Rattle.std.proofs.Common.{map, subst}
use Rattle.k_types_meaning.specs.Units.{all_names, defined_in, items_placed}
use Rattle.k_types.specs.Items.{PlacesItems, known_in}
use Rattle.k_types.proofs.Sources.{items_give}
use Rattle.k_types.proofs.source.unnumbered.Goals as goal

pub returns : goal.returns
returns c =
    let defined = c.args.defined.now in
    let older = c.in_ok-file.file in
    items_give c.args.unit.now defined older c.place_items.new.file _ c.requires.defined c.in_ok-file.ensures
    (subst (λ items. PlacesItems defined (all_names (map defined_in items)) older c.place_items.new.file (items_placed defined (known_in defined older) items)) c.as_slice.ensures c.in_ok-place_items.ensures)
    (λ i. record {
      objects = c.place_items.new.file.objects;
      strings = c.new-strings.ensures i;
      functions = c.place_items.new.file.functions;
      main = c.place-main.ensures i;
      nodes = 0;
      loops = 0;
    })
