use Rattle.k_optab.proofs.Heaviest.{heaviest_at_most_work, inner_at_most_outer}
use Rattle.k_optab.proofs.Rows.{heaviest_at_most_row}
use Rattle.k_optab.proofs.laws.meaning_of_numbers.Goals as goal

pub returns-clause-work : goal.returns-clause-work
returns-clause-work c = heaviest_at_most_work

pub returns-clause-inner : goal.returns-clause-inner
returns-clause-inner c = inner_at_most_outer

pub returns-clause-parts : goal.returns-clause-parts
returns-clause-parts c = heaviest_at_most_row
