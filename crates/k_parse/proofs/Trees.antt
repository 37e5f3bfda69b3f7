-- Trees of a token list: how many nodes they have, and that there is one.
use Rattle.std.proofs.Common.{◌≡◌, ◌≤◌, ◌*◌, List, length, sym, ap, ◌∙◌, arith}
use Rattle.std.proofs.lemmas.List.{length-map}
use Rattle.k_parse_steps.specs.Types.{Token}
use Rattle.k_tree.specs.declared.tree.unit.Unit as source
use Rattle.k_tree.specs.Count.{unit_count}
use Rattle.k_tree.specs.Places.{Placed, lay_unit}
use Rattle.k_tree.specs.Ranked.{RankedUnit}
use Rattle.k_tree.specs.Spelling.{spelling}
use Rattle.k_tree.proofs.Bounds.{unit_bound}
use Rattle.k_tree.proofs.Laid.{unit_spelled}
use Rattle.k_tree.proofs.Standing.{stand-kinds}
use Rattle.k_parse.specs.Beginnings.{kinds}
use Rattle.k_parse_steps.proofs.CompleteSources.{source_spelled_once}
use Rattle.k_parse.specs.Parse.{IsTreeOf, IsOnly, IsOne}
use Rattle.k_parse.proofs.ReplacedUnit.{placed_alone}

-- a tree that stands over tokens is spelled by them
pub placed_spells : (u : source.Unit) (tokens : List Token) → RankedUnit u → Placed u tokens → spelling u ≡ kinds tokens
placed_spells u tokens ranked placed = sym (stand-kinds (lay_unit u) tokens placed ∙ unit_spelled u ranked)

-- a tree has at most twice as many nodes as tokens
pub few_nodes : (tokens : List Token) (u : source.Unit) → IsTreeOf tokens u → unit_count u ≤ 2 * length tokens
few_nodes tokens u is =
    let spells : length (spelling u) ≡ length (kinds tokens) = ap length (placed_spells u tokens is.ranked is.placed) in
    let same : length (kinds tokens) ≡ length tokens = length-map tokens (λ (t : Token). t.what) in
    omega (arith, unit_bound u is.ranked, spells, same)

-- up to places, no other tree is spelled by the tokens
pub only_tree : (tokens : List Token) (u : source.Unit) → IsTreeOf tokens u → IsOnly tokens u
only_tree tokens u is v ranked spells = source_spelled_once v u ranked is.ranked (spells ∙ sym (placed_spells u tokens is.ranked is.placed))

-- no other tree stands over the tokens
pub one_tree : (tokens : List Token) (u : source.Unit) → IsTreeOf tokens u → IsOne tokens u
one_tree tokens u is v ranked placed =
    placed_alone tokens u v is.ranked ranked is.placed placed (only_tree tokens u is v ranked (placed_spells v tokens ranked placed))
