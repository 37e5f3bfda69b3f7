-- Each ranked expression is read as itself, up to places, wherever its rank serves; so its spelling tells it.
use Rattle.std.proofs.Common.{ℕ, ◌≡◌, ◌+◌, ◌≤◌, List, [], length, ◌∙◌, refl, arith}
use Rattle.k_parse_steps.specs.Types.{Token, Expr, Site, Reading}
use Rattle.k_tree.specs.Bare.{bare_expr}
use Rattle.k_tree.specs.Nesting.{expr_depth}
use Rattle.k_tree.specs.Ranked.{Ranked, RankedArgs, no_args, more_args, comma, assignment, conditional, binary, cast, unary, prefix, sizeof_expr, sizeof_type, index, postfix, call, name, number, character, string, paren}
use Rattle.k_tree.specs.Spelling.{spell_expr}
use Rattle.k_parse_steps.specs.Expressions.{feed, begin, hole}
use Rattle.k_parse_steps.specs.declared.turn.Turn.TheVariants as turn
use Rattle.k_parse_steps.proofs.CompleteLeads.{Leads, leads-more}
use Rattle.k_parse_steps.proofs.CompleteHolds.{Feeds, awaits, Below, Holds, Reads, ended}
use Rattle.k_parse_steps.proofs.CompleteDepths.{depth_positive}
use Rattle.k_parse_steps.proofs.CompleteOperators.{reads_name, reads_number, reads_character, reads_string, reads_binary, reads_assignment, reads_comma}
use Rattle.k_parse_steps.proofs.CompletePrefixes.{reads_prefix, reads_unary, reads_sizeof}
use Rattle.k_parse_steps.proofs.CompleteEnclosed.{reads_paren, reads_index, reads_postfix, reads_conditional}
use Rattle.k_parse_steps.proofs.CompleteTypes.{reads_cast, reads_size}
use Rattle.k_parse_steps.proofs.CompleteCalls.{EachReads, reads_call}

mutual
  -- a ranked expression is read in each place that takes its rank, no deeper than it lies, as itself up to places
  pub complete : (k : ℕ) (e : Expr) → Ranked k e → Reads k e
  complete _ _ (comma k p a b h x y) = reads_comma k p a b h (complete 0 a x) (complete 1 b y)
  complete _ _ (assignment k p op a b h q x y) = reads_assignment k p op a b h q (complete 14 a x) (complete 1 b y)
  complete _ _ (conditional k p a b c h x y z) = reads_conditional k p a b c h (complete 3 a x) (complete 0 b y) (complete 2 c z)
  complete _ _ (binary k p op n a b h q x y) = reads_binary k p op n a b h q (complete n a x) (complete (n + 1) b y)
  complete _ _ (cast k p specs stars a h q x) = reads_cast k p specs stars a h q (depth_positive 13 a x) (complete 13 a x)
  complete _ _ (unary k p op a h q x) = reads_unary k p op a h q (depth_positive 13 a x) (complete 13 a x)
  complete _ _ (prefix k p op a h q x) = reads_prefix k p op a h q (depth_positive 14 a x) (complete 14 a x)
  complete _ _ (sizeof_expr k p a h x) = reads_sizeof k p a h (depth_positive 14 a x) (complete 14 a x)
  complete _ _ (sizeof_type k p specs stars h q) = reads_size k p specs stars h q
  complete _ _ (index k p a b h x y) = reads_index k p a b h (complete 15 a x) (complete 0 b y)
  complete _ _ (postfix k p op a h q x) = reads_postfix k p op a h q (complete 15 a x)
  complete _ _ (call k p f args h x) = reads_call k p f args h (complete_args args x)
  complete _ _ (name k p t h) = reads_name k p t h
  complete _ _ (number k p kind n h) = reads_number k p kind n h
  complete _ _ (character k p t h) = reads_character k p t h
  complete _ _ (string k p bytes h) = reads_string k p bytes h
  complete _ _ (paren k p a h x) = reads_paren k p a h (depth_positive 0 a x) (complete 0 a x)

  pub complete_args : (args : List Expr) → RankedArgs args → EachReads args
  complete_args _ no_args = tt
  complete_args _ (more_args a args x y) = (complete 1 a x, complete_args args y)

-- an expression that was read whole: a token that goes on with no operand of this rank ends it
pub record Whole (rank : ℕ) (e : Expr) (r : Reading) : Type 0 where
  pub made : Expr
  pub ends : (t : Token) → Below rank t.what → feed r t ≡ turn.Done made
  pub same : bare_expr made ≡ bare_expr e

site_hole : (g : Site) → hole g [] ≡ g.rank
unfolding hole
site_hole g = refl

holds_whole : (rank level k : ℕ) (e : Expr) (r : Reading) → Holds rank (record { rank = rank; level = level }) [] k e r → Whole rank e r
holds_whole rank level k e r h = record {
  made = h.a.tree;
  ends = λ t below. h.next t below ∙ ended (record { rank = rank; level = level }) h.a t
      (below.1 (hole (record { rank = rank; level = level }) []) h.a.rank
      (let e : hole (record { rank = rank; level = level }) [] ≡ rank = site_hole (record { rank = rank; level = level }) in omega arith));
  same = h.same;
}

-- an expression at a site is read whole
pub whole : (rank level k : ℕ) (e : Expr) → Ranked k e → rank ≤ k → rank ≤ 13
    → Leads Feeds (level + expr_depth e) (spell_expr e) (begin rank level) (Whole rank e)
whole rank level k e x le small =
    let g : Site = record { rank = rank; level = level } in
    let at : hole g [] ≡ rank = site_hole g in
    leads-more Feeds (level + length {A = Expr} [] + expr_depth e) (level + expr_depth e) (spell_expr e) (awaits g []) (Holds rank g [] k e) (Whole rank e) (omega arith)
    (complete k e x rank g [] (omega arith) ((λ h. omega arith), (λ h. omega arith), (λ h. omega arith), (λ h. omega arith)))
    (λ r h. holds_whole rank level k e r h)
