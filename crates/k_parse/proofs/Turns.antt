-- What one token of a list gives, where the rest of the list from that token on leads somewhere.
use Rattle.std.proofs.Common.{ℕ, suc, ◌≡◌, ◌+◌, ◌<◌, ◌≤◌, cond, List, ◌∷◌, length, get_or, drop, Some, Ok, Err, sym, ap, ◌∙◌, add-one, drop-cons, le-leb}
use Rattle.std.proofs.lemmas.Bool.{lt-leb}
use Rattle.k_parse_steps.specs.Types.{Token, Sourced}
use Rattle.k_parse_steps.specs.declared.source.Source.{Source}
use Rattle.k_tree.specs.declared.tree.unit.Unit as source
use Rattle.k_parse.specs.Runs.{Outcome, next, runs}
use Rattle.k_parse_steps.specs.Sources.{feed_source}
use Rattle.k_parse_steps.specs.declared.turn.Turn.TheVariants as turn
use Rattle.k_parse.specs.declared.fault.ParseFault.TheVariants as fault
use Rattle.k_parse.specs.Parse.{nesting_limit}

-- the token at an index is the first of the rest
pub drop_here : (ts : List Token) (i : ℕ) (t : Token) → i < length ts → t ≡ get_or ts i t → drop i ts ≡ t ∷ drop (i + 1) ts
drop_here ts i t h e =
    let rest : drop i ts ≡ get_or ts i t ∷ drop (suc i) ts = drop-cons ts i t h in
    let more : i + 1 ≡ suc i = add-one i in
    cc

-- the rest from a token on leads where the step for this token leads
step_leads : (s : Source) (ts : List Token) (i : ℕ) (t : Token) (fed : Sourced) (o : Outcome) → i < length ts → t ≡ get_or ts i t
    → feed_source s t ≡ fed → runs nesting_limit s (drop i ts) ≡ o → next nesting_limit fed t.place (λ x. runs nesting_limit x (drop (i + 1) ts)) ≡ o
unfolding runs
step_leads s ts i t fed o h e f led =
    ap (λ v. next nesting_limit v t.place (λ x. runs nesting_limit x (drop (i + 1) ts))) (sym f) ∙ ap (runs nesting_limit s) (sym (drop_here ts i t h e)) ∙ led

pub done_leads : (s : Source) (ts : List Token) (i : ℕ) (t : Token) (u : source.Unit) (o : Outcome) → i < length ts → t ≡ get_or ts i t
    → feed_source s t ≡ turn.Done u → runs nesting_limit s (drop i ts) ≡ o → o ≡ Some (Ok u)
done_leads s ts i t u o h e f led = sym (step_leads s ts i t (turn.Done u) o h e f led)

pub refused_leads : (s : Source) (ts : List Token) (i : ℕ) (t : Token) (o : Outcome) → i < length ts → t ≡ get_or ts i t
    → feed_source s t ≡ turn.Refused → runs nesting_limit s (drop i ts) ≡ o → o ≡ Some (Err (fault.Syntax t.place))
refused_leads s ts i t o h e f led = sym (step_leads s ts i t turn.Refused o h e f led)

pub deep_leads : (s z : Source) (ts : List Token) (i : ℕ) (t : Token) (reach : ℕ) (o : Outcome) → i < length ts → t ≡ get_or ts i t
    → feed_source s t ≡ turn.Goes z reach → nesting_limit < reach → runs nesting_limit s (drop i ts) ≡ o → o ≡ Some (Err (fault.TooDeep t.place))
deep_leads s z ts i t reach o h e f deep led =
    sym (step_leads s ts i t (turn.Goes z reach) o h e f led)
    ∙ ap (λ b. cond b (runs nesting_limit z (drop (i + 1) ts)) (Some (Err (fault.TooDeep t.place)))) (lt-leb reach nesting_limit deep)

pub goes_leads : (s z : Source) (ts : List Token) (i : ℕ) (t : Token) (reach : ℕ) (o : Outcome) → i < length ts → t ≡ get_or ts i t
    → feed_source s t ≡ turn.Goes z reach → reach ≤ nesting_limit → runs nesting_limit s (drop i ts) ≡ o → runs nesting_limit z (drop (i + 1) ts) ≡ o
goes_leads s z ts i t reach o h e f low led =
    sym (ap (λ b. cond b (runs nesting_limit z (drop (i + 1) ts)) (Some (Err (fault.TooDeep t.place)))) (le-leb reach nesting_limit low))
    ∙ step_leads s ts i t (turn.Goes z reach) o h e f led
