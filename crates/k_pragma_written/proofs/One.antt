-- A source tells one thing.
use Rattle.std.proofs.Common.{ℕ, ◌≡◌, List, sym, ap, ◌∙◌}
use Rattle.k_lex.specs.Tokens.{tokens}
use Rattle.k_parse.proofs.Trees.{one_tree}
use Rattle.k_pragma_written.specs.declared.told.Written.{Written}
use Rattle.k_pragma_written.specs.Written.{IsWritten, if_tokens, written_of}

-- two trees of one source are one, so they tell the same
pub one_written : (bytes : List ℕ) (a b : Written) → IsWritten bytes a → IsWritten bytes b → a ≡ b
one_written bytes a b x y =
    x.is ∙ ap written_of (one_tree (if_tokens (tokens bytes)) y.tree y.read.0 x.tree x.read.0.ranked x.read.0.placed) ∙ sym y.is
