use Rattle.k_shaped.proofs.SpellingLaws.{spelled_are_read, spelled_once}
use Rattle.k_shaped.proofs.ReadingLaws.{read_are_spelled}
use Rattle.k_shaped.proofs.laws.spelling.Goals as goal

pub returns-clause-spelled : goal.returns-clause-spelled
returns-clause-spelled c = spelled_are_read

pub returns-clause-read : goal.returns-clause-read
returns-clause-read c = read_are_spelled

pub returns-clause-once : goal.returns-clause-once
returns-clause-once c = spelled_once
