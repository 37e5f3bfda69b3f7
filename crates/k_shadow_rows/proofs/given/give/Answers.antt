use Rattle.std.proofs.Common.{◌≡◌, get_or, set, ◌∙◌, ap}
use Rattle.std.proofs.lemmas.List.{get_or_default}
use Rattle.k_shadow_rows.specs.Rows.{rows_at}
use Rattle.k_shadow_rows.proofs.Places.{one_given, set_here, set_there}
use Rattle.k_shadow_rows.proofs.given.give.Goals as goal

pub returns-clause-given : goal.returns-clause-given
returns-clause-given g c =
    let seen = g.R.LevelRow.seen in
    let blank = g.R.LevelRow.blank in
    let rows = c.args.rows.now in
    let to = c.args.to in
    let level = c.args.level in
    let given = c.set_time.new.self in
    let before : get_or rows to c.index-rows-to.result ≡ get_or rows to blank = get_or_default rows to c.index-rows-to.result blank c.requires.within in
    let after : rows_at seen blank (set rows to given) to ≡ seen given = set_here seen blank rows to given c.requires.within in
    one_given (rows_at seen blank rows) (rows_at seen blank (set rows to given)) to level c.args.time c.args.paths.now c.max.result c.requires.live c.max.ensures (λ at ne. set_there seen blank rows to given at ne)
    (ap (λ r. r.stamp) after ∙ c.set_time.ensures.stamp ∙ ap (λ r. (seen r).stamp) before)
    (ap (λ r. r.time level) after ∙ c.set_time.ensures.here)
    (λ k ne. ap (λ r. r.time k) after ∙ c.set_time.ensures.others k ne ∙ ap (λ r. (seen r).time k) before)
