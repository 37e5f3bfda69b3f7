-- A source has at most twice as many regions as nodes, and main is one of them.
use Rattle.std.proofs.Common.{◌≡◌, ℕ, ◌+◌, ◌*◌, ◌≤◌, subst, List, [], ◌∷◌, ◌++◌, map, length, arith}
use Rattle.std.proofs.lemmas.List.{length-append, length-map}
use Rattle.k_tree.specs.Count.{unit_count}
use Rattle.k_types_meaning.specs.declared.tree.unit.TFunc.{TFunc}
use Rattle.k_regions.specs.Laws.{RegionsAreFew}
use Rattle.k_regions.specs.Regions.{loops_of, regions_in, regions_of, regions_of_loops}
use Rattle.k_regions.proofs.Counts.{items_counted, total}
use Rattle.k_regions.proofs.Functions.{function_shape, functions_seen, items_seen}
use Rattle.k_regions.proofs.Numbers.{loops_length}
use Rattle.k_regions.proofs.Seen.{Shape, pair_of}

in_few : (fs : List TFunc) → length (regions_in fs) ≤ 2 * total (map function_shape fs)
in_few [] = omega arith
in_few (f ∷ fs) =
    let both : length (regions_of_loops f.name (loops_of f) ++ regions_in fs) ≡ length (regions_of_loops f.name (loops_of f)) + length (regions_in fs) =
    length-append (regions_of_loops f.name (loops_of f)) (regions_in fs) in
    let own : length (regions_of_loops f.name (loops_of f)) ≡ 2 * length (loops_of f) = loops_length f.name (loops_of f) in
    let same : length (map pair_of (loops_of f)) ≡ length (loops_of f) = length-map (loops_of f) pair_of in
    let rest : length (regions_in fs) ≤ 2 * total (map function_shape fs) = in_few fs in
    omega (arith, both, own, same, rest)

pub are_few : RegionsAreFew
unfolding regions_of
are_few unit typed is =
    let count : total (items_seen unit.items) ≤ unit_count unit = items_counted unit.items in
    let many : length (regions_in typed.functions) ≤ 2 * total (items_seen unit.items) =
    subst (λ (ss : List Shape). length (regions_in typed.functions) ≤ 2 * total ss) (functions_seen unit typed is) (in_few typed.functions) in
    omega (arith, many, count)
