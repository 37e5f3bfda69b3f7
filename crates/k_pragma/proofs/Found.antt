-- The tokens that were found are those of the source.
use Rattle.std.proofs.Common.{◌≡◌, List, sym, ap}
use Rattle.std.specs.Prelude.{Result, Ok}
use Rattle.k_tree.specs.declared.tokens.Token.{Token}
use Rattle.k_lex.specs.declared.fault.LexFault.{LexFault}
use Rattle.k_pragma_written.specs.Written.{if_tokens}

-- what is found is what there is
pub if_found : (answer : Result (List Token) LexFault) (list : List Token) → answer ≡ Ok list → list ≡ if_tokens answer
if_found answer list e = sym (ap if_tokens e)
