-- The entries that interning a tree in post-order gives are its dictionary.
use Rattle.std.specs.Prelude.{[]}
use Rattle.k_dict_entries.specs.Trees.{alone}
use Rattle.k_dict_entries.proofs.Walking.{walk, walk_is}
use Rattle.k_top_exists.specs.Profiles.{DictionariesExist}

pub dictionaries_exist : DictionariesExist
dictionaries_exist t = ((walk (alone t) []).dict, walk_is t)
