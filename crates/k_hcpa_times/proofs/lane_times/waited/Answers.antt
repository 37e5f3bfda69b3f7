use Rattle.std.proofs.Common.{ℕ, List, sym, ap, ◌∙◌, map}
use Rattle.k_hcpa_meaning.specs.Timings.{later}
use Rattle.k_hcpa_times.proofs.InLanes.{waits_one, waits_two}
use Rattle.k_hcpa_times.proofs.lane_times.waited.Goals as goal

pub returns-then-from-eq1-clause-waits : goal.returns-then-from-eq1-clause-waits
returns-then-from-eq1-clause-waits g c t held waits =
    let from = c.args.from in
    let left : List (ℕ → ℕ) → List ℕ = λ levels. map (λ level. level from.left) levels in
    waits_one from.sources from.left from.right t _ c.if-from-eq1.true ((λ i. later (waits i) (left (held i))) ∙ sym c.raise_lanes-times.ensures.raised)

pub returns-clause-waits : goal.returns-clause-waits
returns-clause-waits g c t held waits =
    let from = c.args.from in
    let levels = (g.S.Shadow.content c.args.registers.now).levels in
    let left : List (ℕ → ℕ) → List ℕ = λ levels. map (λ level. level from.left) levels in
    let right : List (ℕ → ℕ) → List ℕ = λ levels. map (λ level. level from.right) levels in
    waits_two from.sources from.left from.right t _ c.if-from-eq0.false c.if-from-eq1.false
    ((λ i. later (later (waits i) (left (held i))) (right (held i)))
    ∙ sym (c.raise_lanes.ensures.raised ∙ ap (λ xs. later xs (right levels)) c.raise_lanes-times.ensures.raised))
