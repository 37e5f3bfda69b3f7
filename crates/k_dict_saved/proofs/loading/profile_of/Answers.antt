use Rattle.k_dict_saved.proofs.Profiles.{names_earlier, two_saved}
use Rattle.k_dict_saved.proofs.loading.profile_of.Goals as goal

pub into_saved-requires : goal.into_saved-requires
into_saved-requires c = names_earlier c.args.file c.in-Two.is c.requires

pub returns-in-Two-clause-saved : goal.returns-in-Two-clause-saved
returns-in-Two-clause-saved c = (two_saved c.args.file c.into_saved.result c.in-Two.is c.requires c.into_saved.ensures).0
