use Rattle.std.proofs.Common.{sym, ◌∙◌, ◌≡◌}
use Rattle.std.specs.Prelude.{codes}
use Rattle.std.proofs.lemmas.Bool.{false≢true}
use Rattle.k_dict_saved.specs.Formats.{NoneIsLeft}
use Rattle.k_dict_saved.specs.Lines.{EndsInMain}
use Rattle.k_dict_saved.proofs.Whole.{all_hold}
use Rattle.k_dict_saved.proofs.reading.may_end.Goals as goal

pub returns-then-is_end : goal.returns-then-is_end
returns-then-is_end c = all_hold (NoneIsLeft c.args.format c.args.entries.now) (EndsInMain c.args.regions.now c.args.entries.now) (c.args.text.now ≡ codes "end\n") c.are_complete.result (c.is_end.ensures.0 c.if-is_end.true) c.are_complete.ensures

pub returns-else-is_end : goal.returns-else-is_end
returns-else-is_end c = (λ h. absurd (false≢true h), λ ends. sym c.if-is_end.false ∙ c.is_end.ensures.1 ends.0)
