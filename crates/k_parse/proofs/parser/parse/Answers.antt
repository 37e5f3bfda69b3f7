use Rattle.std.proofs.Common.{◌≡◌, ◌≤◌, ◌*◌, ◌∙◌, length, Err, ap, sym, inr, rules, arith}
use Rattle.k_tree.specs.Count.{unit_count}
use Rattle.k_parse.specs.Runs.{runs}
use Rattle.k_parse_steps.specs.Sources.{begin_source}
use Rattle.k_parse.specs.Parse.{IsTreeOf, nesting_limit}
use Rattle.k_parse.proofs.Trees.{few_nodes, only_tree, one_tree}
use Rattle.k_parse.proofs.Whole.{tree_read, err_refused}
use Rattle.k_parse.proofs.parser.parse.Goals as goal

pub nodes-requires : goal.nodes-requires
nodes-requires c =
    let few : unit_count c.in_ok-unit.unit ≤ 2 * length c.args.tokens.now = few_nodes c.args.tokens.now c.in_ok-unit.unit
    (tree_read c.args.tokens.now c.in_ok-unit.unit c.requires (ap (runs nesting_limit begin_source) (sym c.as_slice.ensures) ∙ c.in_ok-unit.ensures.tree)) in
    let same : length c.as_slice.result.now ≡ length c.args.tokens.now = ap length c.as_slice.ensures in
    let room = c.as_slice.type_inv.1 in
    omega (arith, few, same, room)

pub returns-then-nodes-gt-NODES-clause-refused : goal.returns-then-nodes-gt-NODES-clause-refused
returns-then-nodes-gt-NODES-clause-refused c =
    let is : IsTreeOf c.args.tokens.now c.in_ok-unit.unit =
    tree_read c.args.tokens.now c.in_ok-unit.unit c.requires (ap (runs nesting_limit begin_source) (sym c.as_slice.ensures) ∙ c.in_ok-unit.ensures.tree) in
    inr (c.in_ok-unit.unit, is, omega arith)

pub returns-in_err-unit-clause-refused : goal.returns-in_err-unit-clause-refused
returns-in_err-unit-clause-refused c =
    let same : c.from_residual.result ≡ Err c.in_err-unit.field-0.0 = search rules in
    err_refused c.args.tokens.now c.as_slice.result.now c.in_err-unit.field-0.0 c.from_residual.result same c.as_slice.ensures c.in_err-unit.ensures.refused

pub returns-clause-tree : goal.returns-clause-tree
returns-clause-tree c =
    let is : IsTreeOf c.args.tokens.now c.in_ok-unit.unit = tree_read c.args.tokens.now c.in_ok-unit.unit c.requires (ap (runs nesting_limit begin_source) (sym c.as_slice.ensures) ∙ c.in_ok-unit.ensures.tree) in
    (is, omega arith)

pub returns-clause-one : goal.returns-clause-one
returns-clause-one c = one_tree c.args.tokens.now c.in_ok-unit.unit
    (tree_read c.args.tokens.now c.in_ok-unit.unit c.requires (ap (runs nesting_limit begin_source) (sym c.as_slice.ensures) ∙ c.in_ok-unit.ensures.tree))

pub returns-clause-only : goal.returns-clause-only
returns-clause-only c = only_tree c.args.tokens.now c.in_ok-unit.unit
    (tree_read c.args.tokens.now c.in_ok-unit.unit c.requires (ap (runs nesting_limit begin_source) (sym c.as_slice.ensures) ∙ c.in_ok-unit.ensures.tree))
