use Rattle.std.proofs.Common.{◌≡◌, map, drop}
use Rattle.std.specs.List.{list_any}
use Rattle.k_pragma.specs.Names.{name_of, same_name}
use Rattle.k_pragma.proofs.names.is_among.Given as goal

abbrev pub invariant-loop-number : goal.invariant-loop-number
invariant-loop-number l =
    list_any (same_name l.name) (map (name_of l.names) (drop l.number-index l.numbers)) ≡ list_any (same_name l.name) (map (name_of l.names) l.numbers)
