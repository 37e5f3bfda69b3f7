use Rattle.std.proofs.Common.{ap, sym, ◌∙◌}
use Rattle.k_types_meaning.specs.Formats.{Outside, marks_from}
use Rattle.k_types_names.specs.Forms.{formed}
use Rattle.k_types_names.proofs.Growth.{formed_more}
use Rattle.k_types_names.proofs.formats.Growing.read.Goals as goal

pub returns-in-Leads : goal.returns-in-Leads
returns-in-Leads c = λ text. ap (formed c.args.self.now) (sym (c.in-Leads.ensures text))

pub returns-in_ok-add-in-Ends : goal.returns-in_ok-add-in-Ends
returns-in_ok-add-in-Ends c =
    λ text. formed_more c.args.self.now c.add.new.self c.in-Ends.found c.in_ok-add-in-Ends.ensures (marks_from Outside text)
    ∙ ap (formed c.args.self.now) (sym (c.in-Ends.ensures text))

pub returns-in-Refused : goal.returns-in-Refused
returns-in-Refused c = λ text. ap (formed c.args.self.now) (sym (c.in-Refused.ensures text))
