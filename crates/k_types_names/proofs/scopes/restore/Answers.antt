use Rattle.std.proofs.Common.{◌≡◌, true, false, Some, None, ap, sym, ◌∙◌}
use Rattle.std.specs.Prelude.{is_some}
use Rattle.std.specs.BTreeMap.{Updates, get, get_by_text}
use Rattle.std.specs.Map.{update}
use Rattle.std.specs.Str.{bytes_eq}
use Rattle.std.specs.String.{string_bytes, string_cmp}
use Rattle.std.proofs.lemmas.Map.Text.{btree_map_updates_text}
use Rattle.k_types_names.proofs.Kept.{either}
use Rattle.k_types_names.proofs.scopes.restore.Goals as goal

pub returns-in-Some : goal.returns-in-Some
returns-in-Some c =
    either c.insert-replaced.result
    (Updates string_cmp c.args.known.now c.insert-replaced.new.self c.args.name (Some c.in-Some.before))
    (get string_cmp c.args.known.now c.args.name ≡ None)
    (get_by_text c.insert-replaced.new.self ≡ update bytes_eq (get_by_text c.args.known.now) (string_bytes c.args.name) c.args.before)
    c.insert-replaced.ensures.updates c.insert-replaced.ensures.absent
    (λ updates. (λ i q. btree_map_updates_text (string_bytes c.args.name) c.args.known.now c.insert-replaced.new.self (Some c.in-Some.before) updates q i)
    ∙ ap (λ o. update bytes_eq (get_by_text c.args.known.now) (string_bytes c.args.name) o) (sym c.in-Some.is))
    (λ absent. let no : true ≡ false = sym c.requires ∙ ap is_some absent in cc)

pub returns-in-None : goal.returns-in-None
returns-in-None c =
    (λ i q. btree_map_updates_text c.as_str.result.now c.args.known.now c.remove-removed.new.self None c.remove-removed.ensures.updates q i)
    ∙ (ap (λ t. update bytes_eq (get_by_text c.args.known.now) t None) c.as_str.ensures.value
    ∙ ap (λ o. update bytes_eq (get_by_text c.args.known.now) (string_bytes c.args.name) o) (sym c.in-None.is))
