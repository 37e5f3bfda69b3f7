use Rattle.std.proofs.Common.{ℕ, List, refl, subst}
use Rattle.k_carry_storage.specs.Tables.{IsNotedAt}
use Rattle.k_carry_storage.proofs.walk.note_load.Goals as goal

pub returns : goal.returns
returns c = record {
  gathering = refl;
  noted = subst (λ (starts : List ℕ). IsNotedAt c.args.element starts c.args.origin c.args.noted.now.loads c.note.new.self) c.tracked-starts.ensures c.in_ok-note.ensures;
  stores_are = refl;
}
