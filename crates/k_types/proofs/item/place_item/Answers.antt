use Rattle.std.proofs.Common.{refl}
use Rattle.k_types.proofs.Items.{objects_give, prototype_gives}
use Rattle.k_types.proofs.item.place_item.Goals as goal

pub returns-in-Prototype : goal.returns-in-Prototype
returns-in-Prototype c =
    prototype_gives c.args.defined.now c.args.file.now _ c.in-Prototype.place c.in-Prototype.head c.args.item.now c.prototype.result c.in-Prototype.is
    c.requires.file c.prototype.ensures refl refl

pub returns-in-Objects : goal.returns-in-Objects
returns-in-Objects c =
    objects_give c.args.defined.now c.args.file.now _ _ c.in-Objects.specs c.in-Objects.list c.args.item.now c.of_specifiers-saying.result c.declare_objects.result
    c.in-Objects.is c.of_specifiers-saying.ensures c.requires.file refl c.declare_objects.ensures
