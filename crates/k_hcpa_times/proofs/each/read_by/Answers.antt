use Rattle.std.proofs.Common.{◌∙◌, ap, map}
use Rattle.k_hcpa_meaning.specs.Timings.{later}
use Rattle.k_hcpa_times.proofs.Lists.{read_is}
use Rattle.k_hcpa_times.proofs.each.read_by.Goals as goal

pub returns-clause-read : goal.returns-clause-read
returns-clause-read g c =
    let levels = (g.S.Shadow.content c.args.shadow.now).levels in
    read_is c.args.location c.raise_by.new.times c.args.times.now levels c.requires.each
    (c.raise_by.ensures.raised ∙ ap (λ xs. later xs (map (λ level. level c.args.location) levels)) c.zero_times.ensures)
