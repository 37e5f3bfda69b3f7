use Rattle.std.proofs.Common.{refl, ap, ◌∙◌, take}
use Rattle.k_types_meaning.specs.Units.{is_name}
use Rattle.k_types.proofs.Items.{function_gives}
use Rattle.k_types.proofs.item.place_function.Goals as goal

pub returns : goal.returns
returns c =
    let d = c.args.definition.now in
    function_gives c.args.defined.now c.args.file.now _ d.place d.head.now d.body.now d.close c.is_before-again.result c.len.result c.in_ok-tree.tree
    c.requires.file c.requires.names (c.is_before-again.ensures ∙ ap (is_name (take c.len.result c.args.defined.now)) c.as_str.ensures) c.len.ensures
    c.in_ok-tree.ensures refl c.in_ok-push.ensures.ok
