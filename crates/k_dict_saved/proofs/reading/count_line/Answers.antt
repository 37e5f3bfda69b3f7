use Rattle.std.proofs.Common.{◌∙◌, sym}
use Rattle.std.specs.Prelude.{codes}
use Rattle.std.proofs.lemmas.Bool.{false≢true}
use Rattle.k_dict_saved.proofs.HeadSteps.{no_entries}
use Rattle.k_dict_saved.proofs.Spelled.{named_takes}
use Rattle.k_dict_saved.proofs.reading.count_line.Goals as goal

pub returns-in-None : goal.returns-in-None
returns-in-None c = no_entries c.args.regions.now c.args.text.now c.in-None.ensures.value

pub returns-then-are_closed : goal.returns-then-are_closed
returns-then-are_closed c =
    let takes = named_takes (codes "entries ") 1 1048576 c.args.text.now c.in-Some.count c.in-Some.rest.now c.in-Some.ensures.value in
    (c.are_closed.ensures.0 c.if-are_closed.true, takes.1, takes.2, takes.0)

pub returns-else-are_closed : goal.returns-else-are_closed
returns-else-are_closed c = λ count later closed some few is. false≢true (sym c.if-are_closed.false ∙ c.are_closed.ensures.1 closed)
