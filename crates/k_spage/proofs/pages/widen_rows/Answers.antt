use Rattle.std.proofs.Common.{◌≡◌, ℕ}
use Rattle.k_spage.proofs.Paged.{page_changed}
use Rattle.k_spage.proofs.pages.widen_rows.Goals as goal

pub returns-clause-same : goal.returns-clause-same
returns-clause-same c =
    page_changed (λ old new. (k : ℕ) → new k ≡ old k) c.args.pages.now.slots c.args.key c.index_mut-rows.result.now c.reserve.new.self c.index_mut-rows.ensures.value c.reserve.ensures.same
