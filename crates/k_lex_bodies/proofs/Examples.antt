-- The bodies of some macros, computed.
use Rattle.std.proofs.Common.{refl}
use Rattle.k_lex_bodies.specs.Laws.{JoinedBodyHasChains, LoneHashIsRefused, LastPasteIsRefused}

pub joined_body_has_chains : JoinedBodyHasChains
joined_body_has_chains = refl

pub lone_hash_is_refused : LoneHashIsRefused
lone_hash_is_refused = refl

pub last_paste_is_refused : LastPasteIsRefused
last_paste_is_refused = refl
