-- A token list that ends once is read to a tree or to a refusal.
use Rattle.std.proofs.Common.{ℕ, ◌≡◌, Bool, true, false, cond, nat_le, List, [], ◌∷◌, Some, refl}
use Rattle.std.specs.Prelude.{◌≢◌, Result, Ok, Err}
use Rattle.std.proofs.lemmas.Bool.{leb-true, leb-false}
use Rattle.k_tree.specs.declared.tree.unit.Unit as source
use Rattle.k_tree.specs.Closed.{EndsOnce}
use Rattle.k_tree.specs.Count.{unit_count}
use Rattle.k_lex.proofs.TokenLaws.{ends_once}
use Rattle.k_parse_steps.specs.Types.{Token, Sourced}
use Rattle.k_parse_steps.specs.Sources.{begin_source, feed_source}
use Rattle.k_parse_steps.specs.declared.source.Source.{Source}
use Rattle.k_parse_steps.specs.declared.turn.Turn.TheVariants as turn
use Rattle.k_parse.specs.Parse.{IsParse, IsTreeOf, nesting_limit, node_limit}
use Rattle.k_parse.specs.Runs.{Outcome, next, runs}
use Rattle.k_parse.specs.declared.fault.ParseFault.{ParseFault}
use Rattle.k_parse.specs.declared.fault.ParseFault.TheVariants as fault
use Rattle.k_parse.proofs.LastToken.{end_stops}
use Rattle.k_parse.proofs.Whole.{refusal_read, tree_read}
use Rattle.k_top_exists.specs.Sources.{ListsAreRead}

-- a reading comes to a tree, or to a refusal, which is not want of memory
pub record Ends (o : Outcome) : Type 0 where
  pub found : Result source.Unit ParseFault
  pub is : o ≡ Some found
  pub no_want : found ≢ Err fault.Memory

no_want_of_tree : (u : source.Unit) → ◌≡◌ {A = Result source.Unit ParseFault} (Ok u) (Err fault.Memory) → ⊥
no_want_of_tree u e = cc

no_want_at_token : (f : ParseFault) → (f ≡ fault.Memory → ⊥) → ◌≡◌ {A = Result source.Unit ParseFault} (Err f) (Err fault.Memory) → ⊥
no_want_at_token f other e = let same : f ≡ fault.Memory = cc in other same

syntax_differs : (t : Token) → fault.Syntax t.place ≡ fault.Memory → ⊥
syntax_differs t e = cc

deep_differs : (t : Token) → fault.TooDeep t.place ≡ fault.Memory → ⊥
deep_differs t e = cc

-- one of two
one_ends : (b : Bool) (o p : Outcome) → Ends o → Ends p → Ends (cond b o p)
one_ends true o p h k = h
one_ends false o p h k = k

-- a token that is fed, where the reading ends behind each token behind which it goes on
fed_ends : (limit : ℕ) (t : Token) (ts : List Token) (x : Sourced) → ((z : Source) (reach : ℕ) → x ≡ turn.Goes z reach → Ends (runs limit z ts))
    → Ends (next limit x t.place (λ y. runs limit y ts))
fed_ends limit t ts (turn.Goes z reach) goes =
    one_ends (nat_le reach limit) (runs limit z ts) (Some (Err (fault.TooDeep t.place))) (goes z reach refl)
    (record { found = Err (fault.TooDeep t.place); is = refl; no_want = no_want_at_token (fault.TooDeep t.place) (deep_differs t) })
fed_ends limit t ts (turn.Done u) goes = record { found = Ok u; is = refl; no_want = no_want_of_tree u }
fed_ends limit t ts turn.Refused goes =
    record { found = Err (fault.Syntax t.place); is = refl; no_want = no_want_at_token (fault.Syntax t.place) (syntax_differs t) }

-- the reading of a list that ends once comes to an end, from wherever it stands
pub reading_ends : (limit : ℕ) (ts : List Token) (s : Source) → EndsOnce ts → Ends (runs limit s ts)
unfolding runs
reading_ends limit [] s once = absurd once
reading_ends limit (t ∷ []) s once =
    fed_ends limit t [] (feed_source s t) (λ z reach goes. absurd (end_stops s z t reach once goes))
reading_ends limit (t ∷ (u ∷ ts)) s once =
    fed_ends limit t (u ∷ ts) (feed_source s t) (λ z reach goes. reading_ends limit (u ∷ ts) z once.1)

-- what a list has that is read
abbrev IsRead : List Token → Type 0
IsRead list = (found : Result source.Unit ParseFault) × IsParse list found × (found ≢ Err fault.Memory)

-- a tree is the answer, where it has few nodes, and else its nodes are the fault
counted : (list : List Token) (u : source.Unit) (b : Bool) → nat_le (unit_count u) node_limit ≡ b → IsTreeOf list u → IsRead list
counted list u true few is = (Ok u, (is, leb-true (unit_count u) node_limit few), no_want_of_tree u)
counted list u false many is =
    let differs : fault.NodesMany ≡ fault.Memory → ⊥ = λ e. cc in
    (Err fault.NodesMany, (u, is, leb-false (unit_count u) node_limit many), no_want_at_token fault.NodesMany differs)

-- what a list is read to that ends once
read : (list : List Token) (found : Result source.Unit ParseFault) → EndsOnce list → runs nesting_limit begin_source list ≡ Some found
    → found ≢ Err fault.Memory → IsRead list
read list (Ok u) once is no_want = counted list u (nat_le (unit_count u) node_limit) refl (tree_read list u once is)
read list (Err f) once is no_want = (Err f, refusal_read list f is, no_want)

-- a list that ends once is read
pub list_read : (list : List Token) → EndsOnce list → IsRead list
list_read list once =
    let ends : Ends (runs nesting_limit begin_source list) = reading_ends nesting_limit list begin_source once in
    read list ends.found once ends.is ends.no_want

-- so are the tokens of a source
pub lists_are_read : ListsAreRead
lists_are_read bytes list is = list_read list (ends_once bytes list is)
