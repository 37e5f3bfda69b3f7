use Rattle.std.proofs.Common.{Some, ap, sym, ◌∙◌}
use Rattle.std.specs.BTreeMap.{get_by_text}
use Rattle.std.specs.Map.{update}
use Rattle.std.specs.Str.{bytes_eq}
use Rattle.std.specs.String.{string_bytes}
use Rattle.std.proofs.lemmas.Map.Text.{btree_map_updates_text}
use Rattle.k_types.proofs.Places.{vacant}
use Rattle.k_types.proofs.defined.place_name.Goals as goal

pub returns-in-Ok : goal.returns-in-Ok
returns-in-Ok c =
    (λ i q. btree_map_updates_text (string_bytes c.in_ok-key.key) c.args.places.now c.insert.new.self (Some c.args.place) c.in-Ok.ensures.updates q i)
    ∙ (ap (λ t. update bytes_eq (get_by_text c.args.places.now) t (Some c.args.place)) c.in_ok-key.ensures
    ∙ ap (λ o. update bytes_eq (get_by_text c.args.places.now) c.args.name.now o)
    (vacant (get_by_text c.args.places.now c.args.name.now) c.args.place (sym c.contains_key.ensures ∙ c.if-contains_key.false)))
