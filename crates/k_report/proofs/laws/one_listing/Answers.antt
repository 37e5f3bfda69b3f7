use Rattle.k_report.proofs.OneListing.{one_listing}
use Rattle.k_report.proofs.laws.one_listing.Goals as goal

pub returns : goal.returns
returns c = one_listing
