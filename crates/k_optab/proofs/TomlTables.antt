-- The keys of a map that holds a document stand in byte order.
use Rattle.std.proofs.Common.{List, [], ◌∷◌}
use Rattle.std.specs.Map.{keys_of}
use Rattle.std.specs.List.Sorted.{IsStrictlySortedBy}
use Rattle.std.specs.String.{string_cmp}
use Rattle.toml.specs.View.{members_view}
use Rattle.toml.proofs.Views.{Entry, is_before-sorted}
use Rattle.k_optab.specs.TomlTable.{AreInKeyOrder}

-- the keys of a map stand in byte order
pub keys_in_order : (es : List Entry) → IsStrictlySortedBy string_cmp (keys_of es) → AreInKeyOrder (members_view es)
unfolding IsStrictlySortedBy
keys_in_order [] h = tt
keys_in_order (e ∷ es) h = (is_before-sorted e.0 es h.0, keys_in_order es h.1)
