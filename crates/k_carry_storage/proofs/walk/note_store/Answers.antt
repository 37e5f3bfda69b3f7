use Rattle.std.proofs.Common.{◌≡◌, ◌∙◌, ℕ, List, ap, subst}
use Rattle.k_carry_storage.specs.declared.table.Table.{Table}
use Rattle.k_carry_storage.specs.Noting.{starts_in}
use Rattle.k_carry_storage.specs.Tables.{IsNotedAt}
use Rattle.k_carry_storage.proofs.walk.note_store.Goals as goal

pub returns : goal.returns
returns c =
    let same : c.tracked-starts.result.now ≡ starts_in c.args.noted.now.gathering = c.tracked-starts.ensures ∙ ap starts_in c.in_ok-share.ensures.shared in
    record {
      gathering = c.in_ok-share.ensures.shared;
      noted = subst (λ (starts : List ℕ). IsNotedAt c.args.element starts c.args.origin c.args.noted.now.stores c.note.new.self) same
          (subst (λ (t : Table). IsNotedAt c.args.element c.tracked-starts.result.now c.args.origin t c.note.new.self) c.in_ok-share.ensures.stores c.in_ok-note.ensures);
      loads_are = c.in_ok-share.ensures.loads;
    }
