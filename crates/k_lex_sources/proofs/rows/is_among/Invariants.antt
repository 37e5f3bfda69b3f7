use Rattle.std.proofs.Common.{◌≡◌, drop}
use Rattle.k_lex_sources.specs.Rows.{is_among}
use Rattle.k_lex_sources.proofs.rows.is_among.Given as goal

abbrev pub invariant-loop-other : goal.invariant-loop-other
invariant-loop-other l = is_among (drop l.other-index l.places) l.place ≡ is_among l.places l.place
