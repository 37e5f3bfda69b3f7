use Rattle.std.proofs.Common.{arith}
use Rattle.k_lex.specs.Tokens.{first_place, nothing_read}
use Rattle.k_lex.proofs.CutLaws
use Rattle.k_lex.proofs.laws.nothing_is_lost.Goals as goal

pub returns : goal.returns
returns c = λ limits text ok. CutLaws.cuts_whole 0 first_place (nothing_read limits) text (omega arith) ok
