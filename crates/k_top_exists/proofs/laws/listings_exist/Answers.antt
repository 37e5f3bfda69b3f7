use Rattle.k_top_exists.proofs.Listings.{listing_exists, tree_exists}
use Rattle.k_top_exists.proofs.laws.listings_exist.Goals as goal

pub returns-clause-listing : goal.returns-clause-listing
returns-clause-listing c = listing_exists

pub returns-clause-tree : goal.returns-clause-tree
returns-clause-tree c = tree_exists
