use Rattle.std.proofs.Common.{◌≡◌, ◌<◌, ◌⊎◌, ◌∙◌, sym, subst, ℕ}
use Rattle.k_replay.specs.Calls.{IsHolding}
use Rattle.k_replay.specs.Orders.{GivesNext}
use Rattle.k_replay.specs.Plays.{Play, left_in}
use Rattle.k_replay.specs.Sound.{IsSound}
use Rattle.k_replay.proofs.Going.{goes_on, whole}
use Rattle.k_replay.proofs.replay.Core.left.Goals as goal

pub returns-clause-whole : goal.returns-clause-whole
returns-clause-whole c = λ none.
    let is : c.self.inside.state.play ≡ c.args.self.now = c.self.view_is in
    subst (λ (p : Play). p.output ≡ p.tape.output) is (whole c.self.inside.state.play c.self.invariant.sound (sym c.self.invariant.left ∙ sym c.left.ensures ∙ none))

pub returns-clause-goes_on : goal.returns-clause-goes_on
returns-clause-goes_on c = λ some.
    let is : c.self.inside.state.play ≡ c.args.self.now = c.self.view_is in
    let more : 0 < left_in c.self.inside.state.play.values = subst (λ (n : ℕ). 0 < n) (c.left.ensures ∙ c.self.invariant.left) some in
    subst (λ (p : Play). ((worker : ℕ) × IsHolding p worker) ⊎ GivesNext p) is (goes_on c.self.inside.state.play c.self.invariant.sound more)

pub returns-clause-sound : goal.returns-clause-sound
returns-clause-sound c = let is : c.self.inside.state.play ≡ c.args.self.now = c.self.view_is in subst IsSound is c.self.invariant.sound
