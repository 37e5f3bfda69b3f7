use Rattle.std.proofs.Common.{◌∙◌, ap, subst}
use Rattle.k_hcpa_store.specs.Kept.{Kept}
use Rattle.k_hcpa_store.specs.Sound.{IsSound}
use Rattle.k_hcpa_store.proofs.Telling.{saved_before_is}
use Rattle.k_hcpa_store.proofs.store.Store.saved_before.Goals as goal

pub returns : goal.returns
returns c =
    let sound : IsSound c.args.self.now = subst IsSound c.self.view_is c.self.invariant in
    c.saved_before.ensures ∙ ap (λ (s : Kept). s.call.saved) c.self.view_is ∙ saved_before_is c.args.self.now sound
