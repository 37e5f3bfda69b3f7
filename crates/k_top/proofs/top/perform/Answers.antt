use Rattle.std.proofs.Common.{inl, map}
use Rattle.std.specs.Prelude.{string_bytes}
use Rattle.k_top_lemmas.proofs.Streaming.{found_delivered}
use Rattle.k_top.proofs.top.perform.Goals as goal

-- the answer was found, and finding it left the files as they were
pub returns-in-Ok : goal.returns-in-Ok
returns-in-Ok g c =
    found_delivered (map string_bytes c.args.words.now) c.in-Ok.answer c.deliver-delivered.result c.end_of.result _ _ _ _ _ _ c.in-Ok.ensures c.deliver-delivered.ensures
    c.end_of.ensures

-- it was not found
pub returns-in-Err : goal.returns-in-Err
returns-in-Err g c = inl (c.in-Err.failure, c.by_failure.ensures, c.in-Err.ensures)
