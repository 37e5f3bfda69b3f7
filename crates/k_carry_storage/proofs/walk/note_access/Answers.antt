use Rattle.std.proofs.Common.{Bool, sym, subst}
use Rattle.std.specs.Prelude.{OnOk}
use Rattle.k_carry_storage.specs.Noting.{IsAccessed}
use Rattle.k_carry_storage.proofs.walk.note_access.Goals as goal

pub returns-then-writes : goal.returns-then-writes
returns-then-writes c =
    subst (λ (w : Bool). OnOk c.note_store.result (IsAccessed w c.args.element c.args.origin c.args.noted.now.gathering c.note_store.new.noted.gathering c.args.noted.now.loads
    c.note_store.new.noted.loads c.args.noted.now.stores c.note_store.new.noted.stores)) (sym c.if-writes.true) c.note_store.ensures

pub returns : goal.returns
returns c =
    subst (λ (w : Bool). OnOk c.note_load.result (IsAccessed w c.args.element c.args.origin c.args.noted.now.gathering c.note_load.new.noted.gathering c.args.noted.now.loads
    c.note_load.new.noted.loads c.args.noted.now.stores c.note_load.new.noted.stores)) (sym c.if-writes.false) c.note_load.ensures
