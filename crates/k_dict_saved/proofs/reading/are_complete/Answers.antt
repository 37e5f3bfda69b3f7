use Rattle.std.proofs.Common.{sym, ◌∙◌}
use Rattle.std.proofs.lemmas.Bool.{false≢true}
use Rattle.k_dict_saved.specs.Formats.{NoneIsLeft}
use Rattle.k_dict_saved.specs.Lines.{EndsInMain}
use Rattle.k_dict_saved.proofs.Whole.{both_hold}
use Rattle.k_dict_saved.proofs.reading.are_complete.Goals as goal

pub returns-then-ends_in_main : goal.returns-then-ends_in_main
returns-then-ends_in_main c = both_hold (NoneIsLeft c.args.format c.args.entries.now) (EndsInMain c.args.regions.now c.args.entries.now) c.is_none_left.result (c.ends_in_main.ensures.0 c.if-ends_in_main.true) c.is_none_left.ensures

pub returns-else-ends_in_main : goal.returns-else-ends_in_main
returns-else-ends_in_main c = (λ h. absurd (false≢true h), λ both. sym c.if-ends_in_main.false ∙ c.ends_in_main.ensures.1 both.0)
