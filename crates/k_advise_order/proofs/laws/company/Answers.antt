use Rattle.k_advise_order.proofs.Company.{alone, company}
use Rattle.k_advise_order.proofs.laws.company.Goals as goal

pub returns-clause-alone : goal.returns-clause-alone
returns-clause-alone c = alone

pub returns-clause-beside : goal.returns-clause-beside
returns-clause-beside c = company
