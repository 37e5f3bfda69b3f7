use Rattle.std.proofs.Common.{refl}
use Rattle.k_carry_storage.proofs.Placing.{noted_in}
use Rattle.k_carry_storage.proofs.table.Row.note.Goals as goal

pub returns : goal.returns
returns c =
    noted_in c.args.at c.args.starts.now c.args.origin c.args.self.now c.reserve.new.self _ c.index_mut-kept.result.now (record { items = c.note.new.origins })
    c.in_ok-reserve.ensures.same c.in_ok-reserve.ensures.there c.index_mut-kept.ensures.value refl c.in_ok-note.ensures
