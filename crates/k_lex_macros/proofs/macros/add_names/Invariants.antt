use Rattle.std.proofs.Common.{◌≡◌, ℕ, ◌||◌, List, drop}
use Rattle.k_lex_macros.specs.Macros.{stands_in}
use Rattle.k_lex_macros.specs.Table.{is_in}
use Rattle.k_lex_macros.proofs.macros.add_names.Given as goal

abbrev pub invariant-loop-x : goal.invariant-loop-x
invariant-loop-x l = (q : List ℕ) → (is_in l.names q || stands_in q (drop l.x-index l.body)) ≡ (is_in l.fn.names q || stands_in q l.body)
