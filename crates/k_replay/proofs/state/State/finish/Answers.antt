use Rattle.std.proofs.Common.{◌<◌, All, length, sym, subst, ℕ, List}
use Rattle.k_replay.specs.Kept.{Kept, NamesBelow}
use Rattle.k_replay.proofs.Stays.{all_named}
use Rattle.k_replay.proofs.state.State.finish.Goals as goal

pub renew-requires : goal.renew-requires
renew-requires c =
    let named : NamesBelow c.self.inside.users.items (length c.self.inside.ready) = subst (λ (s : Kept). NamesBelow s.users (length s.ready)) (sym c.self.view_is) c.requires.named in
    let within : c.args.k < length c.self.inside.users.items = subst (λ (s : Kept). c.args.k < length s.users) (sym c.self.view_is) c.requires.list in
    subst (λ (xs : List ℕ). All (λ k. k < length c.self.inside.ready) xs) (sym c.as_slice-2.ensures)
    (all_named c.self.inside.users.items c.args.k (length c.self.inside.ready) c.index.result.now named within c.index.ensures)
