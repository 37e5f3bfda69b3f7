use Rattle.std.proofs.Common.{ap, ◌∙◌, arith}
use Rattle.k_shadow.specs.Content.{written, depth, time_at}
use Rattle.k_shadow.proofs.Levels.{front-at_levels}
use Rattle.k_shadow.proofs.shadow.Shadow.pass.Goals as goal

pub returns-clause-content : goal.returns-clause-content
returns-clause-content g c =
    let content = g.Self.Shadow.content c.args.self.now in
    let j = c.loop-level in
    c.put.ensures.content ∙ ap (λ times. written c.args.to times content) (front-at_levels _ (depth content) (λ level. time_at content level c.args.from) j.passed (omega (arith, c.requires.each)) (omega arith) (λ k lt. j.invariant.done k (omega (arith, c.requires.each))))
