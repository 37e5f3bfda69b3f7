use Rattle.k_shaped.proofs.WidthLaws.{numbers_are_wide, strings_are_wide}
use Rattle.k_shaped.proofs.laws.width.Goals as goal

pub returns-clause-numbers : goal.returns-clause-numbers
returns-clause-numbers c = numbers_are_wide

pub returns-clause-strings : goal.returns-clause-strings
returns-clause-strings c = strings_are_wide
