use Rattle.std.proofs.Common.{◌∙◌, length, ap, subst}
use Rattle.k_hcpa_store.specs.Kept.{Kept}
use Rattle.k_hcpa_store.specs.Sound.{IsSound}
use Rattle.k_hcpa_store.proofs.Telling.{saved_is}
use Rattle.k_hcpa_store.proofs.store.Store.saved.Goals as goal

pub returns : goal.returns
returns c =
    let sound : IsSound c.args.self.now = subst IsSound c.self.view_is c.self.invariant in
    c.saved.ensures ∙ ap (λ (s : Kept). length s.saved) c.self.view_is ∙ saved_is c.args.self.now sound
