use Rattle.std.proofs.Common.{◌≡◌, ℕ, ◌<◌, ◌≤◌}
use Rattle.k_spage.proofs.Paged.{page_changed}
use Rattle.k_spage.proofs.pages.clear_rows.Goals as goal

pub returns-clause-among : goal.returns-clause-among
returns-clause-among c =
    page_changed (λ old new. (k : ℕ) → c.args.first ≤ k → k < c.args.end → (new k).stamp ≡ 0) c.args.pages.now.slots c.args.key c.index_mut-rows.result.now c.clear.new.self c.index_mut-rows.ensures.value c.clear.ensures.among

pub returns-clause-before : goal.returns-clause-before
returns-clause-before c =
    page_changed (λ old new. (k : ℕ) → k < c.args.first → new k ≡ old k) c.args.pages.now.slots c.args.key c.index_mut-rows.result.now c.clear.new.self c.index_mut-rows.ensures.value c.clear.ensures.before

pub returns-clause-behind : goal.returns-clause-behind
returns-clause-behind c =
    page_changed (λ old new. (k : ℕ) → c.args.end ≤ k → new k ≡ old k) c.args.pages.now.slots c.args.key c.index_mut-rows.result.now c.clear.new.self c.index_mut-rows.ensures.value c.clear.ensures.behind
