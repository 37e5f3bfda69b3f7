use Rattle.std.proofs.Common.{map, ◌<◌}
use Rattle.csv.specs.Records.{fields_of}
use Rattle.k_data_laws.proofs.Records.{HasRead}
use Rattle.k_data_laws.proofs.read_back.read_records.Given as goal

abbrev pub invariant-loop-row : goal.invariant-loop-row
invariant-loop-row l = HasRead l.fn.text (map fields_of l.table.items) l.row-iterator.rdr × (0 < l.row-iterator.left)
