use Rattle.std.proofs.Common.{◌≡◌, ◌++◌, drop}
use Rattle.std.specs.List.{flat_map, join_by}
use Rattle.k_data.specs.Records.{comma, context_json}
use Rattle.k_data.proofs.records.push_contexts_parted.Given as goal

abbrev pub invariant-loop-context : goal.invariant-loop-context
invariant-loop-context l =
    l.text.items ++ flat_map (λ x. comma ++ context_json x) (drop l.context-index l.rest) ≡ l.fn.text.items ++ join_by context_json comma l.fn.contexts
