use Rattle.std.proofs.Common.{◌∙◌, sym}
use Rattle.k_lower_blocks.proofs.Places.{list_stands}
use Rattle.k_lower_blocks.proofs.place.list_place.Goals as goal

pub returns-in-Some : goal.returns-in-Some
returns-in-Some c = λ w.
    list_stands w c.args.place c.in-Some.d.now c.in-Some.field-0-1.now c.args.list.now (sym c.as_slice.ensures ∙ c.in-Some.ensures.cases.0)
