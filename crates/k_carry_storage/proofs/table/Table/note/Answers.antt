use Rattle.std.proofs.Common.{refl}
use Rattle.k_carry_storage.proofs.Placing.{noted_at}
use Rattle.k_carry_storage.proofs.table.Table.note.Goals as goal

pub returns : goal.returns
returns c =
    noted_at c.args.element c.args.starts.now c.args.origin c.args.self.now c.reserve.new.self _ c.index_mut-row.result.now c.note.new.self
    c.in_ok-reserve.ensures.same c.in_ok-reserve.ensures.there c.index_mut-row.ensures.value refl c.in_ok-note.ensures
