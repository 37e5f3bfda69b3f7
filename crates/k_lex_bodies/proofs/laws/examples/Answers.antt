use Rattle.k_lex_bodies.proofs.Examples
use Rattle.k_lex_bodies.proofs.laws.examples.Goals as goal

pub returns-clause-joined : goal.returns-clause-joined
returns-clause-joined c = Examples.joined_body_has_chains

pub returns-clause-lone : goal.returns-clause-lone
returns-clause-lone c = Examples.lone_hash_is_refused

pub returns-clause-last : goal.returns-clause-last
returns-clause-last c = Examples.last_paste_is_refused
