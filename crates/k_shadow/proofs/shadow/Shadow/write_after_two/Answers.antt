use Rattle.std.proofs.Common.{ap, ◌∙◌, length, rules}
use Rattle.k_shadow.specs.Content.{written, depth, after_two}
use Rattle.k_shadow.proofs.Levels.{lent-at_levels}
use Rattle.k_shadow.proofs.shadow.Shadow.write_after_two.Goals as goal

pub returns-clause-content : goal.returns-clause-content
returns-clause-content g c =
    let content = g.Self.Shadow.content c.args.self.now in
    c.put.ensures.content ∙ ap (λ times. written c.args.to times content) (lent-at_levels (length c.args.before.now) (depth content) (after_two content c.args.left c.args.right c.args.before.now c.args.latency) c.times_after_two.new.times _ c.requires.each (search rules) c.times_after_two.ensures.times)
