use Rattle.std.proofs.Common.{◌≡◌, ◌++◌, map, drop}
use Rattle.std.specs.List.{flat_map}
use Rattle.k_pragma.specs.Clauses.{behind_comma}
use Rattle.k_pragma.specs.Names.{name_of}
use Rattle.k_pragma.proofs.clauses.push_others.Given as goal

abbrev pub invariant-loop-number : goal.invariant-loop-number
invariant-loop-number l =
    l.text.items ++ flat_map behind_comma (map (name_of l.names) (drop l.number-index l.numbers))
    ≡ l.fn.text.items ++ flat_map behind_comma (map (name_of l.names) l.numbers)
