use Rattle.std.proofs.Common.{Some}
use Rattle.std.specs.String.{string_bytes}
use Rattle.std.proofs.lemmas.Map.Text.{btree_map_updates_text}
use Rattle.k_types_names.proofs.scopes.learn.Goals as goal

pub returns-in-Ok-clause-ok : goal.returns-in-Ok-clause-ok
returns-in-Ok-clause-ok c =
    λ i q. btree_map_updates_text (string_bytes c.args.name) c.args.known.now c.insert.new.self (Some c.args.now) c.in-Ok.ensures.updates q i
