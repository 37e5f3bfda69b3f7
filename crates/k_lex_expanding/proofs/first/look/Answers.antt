use Rattle.std.proofs.Common.{subst, sym}
use Rattle.k_lex_expanding.specs.First.{Meets}
use Rattle.k_lex_expanding.proofs.FirstLaws.{uses_one}
use Rattle.k_lex_expanding.proofs.first.look.Goals as goal

pub returns-in-Some : goal.returns-in-Some
returns-in-Some c =
    let is = c.in-Some.ensures in
    subst (λ n. Meets c.use_at.result c.args.macros.now c.args.limit n c.args.list.now c.args.made.now c.args.source.now c.args.ends c.use_at.new.list c.use_at.new.made)
    (sym (uses_one c.args.macros.now c.args.limit is.one c.args.token c.args.list.now c.args.source.now c.args.ends c.args.made.now is.wanted))
    (c.use_at.ensures is.one is.there)
