use Rattle.k_code.proofs.Ending.{levels_are_regions}
use Rattle.k_code.proofs.Reading.{sources_are_read}
use Rattle.k_code.proofs.laws.reads_are_counted.Goals as goal

pub returns : goal.returns
returns c = record { levels = levels_are_regions; sources = sources_are_read }
