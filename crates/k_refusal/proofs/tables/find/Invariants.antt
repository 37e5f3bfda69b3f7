use Rattle.std.proofs.Common.{◌≡◌, drop, map}
use Rattle.k_refusal.specs.Tables.{look_up, row}
use Rattle.k_refusal.proofs.tables.find.Given as goal

abbrev pub invariant-loop-row : goal.invariant-loop-row
invariant-loop-row l = look_up (map row (drop l.row-index l.rows)) l.word ≡ look_up (map row l.rows) l.word
