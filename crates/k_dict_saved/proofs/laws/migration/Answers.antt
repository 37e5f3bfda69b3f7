use Rattle.k_dict_saved.proofs.Profiles as profiles
use Rattle.k_dict_saved.proofs.laws.migration.Goals as goal

pub returns : goal.returns
returns c = record { one = profiles.one_migration; expands = profiles.migration_expands }
