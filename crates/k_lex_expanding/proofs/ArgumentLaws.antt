-- Arguments of a call, one after another.
use Rattle.std.proofs.Common.{◌≡◌, ℕ, ◌+◌, true, false, List, [], ◌∷◌, ◌++◌, Ok, Err, length, ap, sym, subst, ◌∙◌, refl, append_assoc}
use Rattle.std.proofs.lemmas.List.{append-nil, length-append}
use Rattle.k_lex_expansion.specs.declared.tokens.Listed.{Listed}
use Rattle.k_lex_expansion.specs.declared.macros.Macro.{Macro}
use Rattle.k_lex_expansion.specs.declared.macros.Chain.{Chain}
use Rattle.k_lex_expansion.specs.declared.arguments.Argument.{Argument}
use Rattle.k_lex_expansion.specs.declared.failure.Failure.{Failure}
use Rattle.k_lex_expansion.specs.Replacing.{asks}
use Rattle.k_lex_expansion.specs.Expansion.{Done, Expansions, with_argument, by_itself, Continues, AreExpanded}
use Rattle.k_lex_expanding.specs.Arguments.{Arguments, Passes, with_arguments}

-- an argument behind others and before the rest
between : (complete : List Argument) (a : Argument) (args : Expansions) → with_arguments (complete ++ a ∷ []) args ≡ with_arguments complete (with_argument a.written a.expanded args)
between complete a (Ok others) = ap (λ (all : List Argument). Ok (all, others.1)) (append_assoc complete (a ∷ []) others.0)
between complete a (Err failure) = refl

one_more : (complete : List Argument) (a : Argument) → length (complete ++ a ∷ []) ≡ length complete + 1
one_more complete a = length-append complete (a ∷ [])

-- one that is not asked for
pub unasked : (body : List Chain) (complete : List Argument) (ts : List Listed) (left : List (List Listed)) → asks (length complete) body ≡ false
    → Passes body complete (ts ∷ left) (complete ++ record { written = ts; expanded = [] } ∷ []) left
unasked body complete ts left is macros limit made all h =
    let a : Argument = record { written = ts; expanded = [] } in
    record {
      args = with_argument ts [] h.args;
      expanded = AreExpanded.unasked body (length complete) made ts left h.args is (subst (λ n. AreExpanded macros limit body n left made h.args) (one_more complete a) h.expanded);
      is = h.is ∙ between complete a h.args;
    }

-- one that is asked for, and expanded
pub asked : (macros : List Macro) (limit : ℕ) (body : List Chain) (complete : List Argument) (ts : List Listed) (left : List (List Listed)) (made : ℕ) (d : Done) (all : Expansions)
    → asks (length complete) body ≡ true → Continues macros limit (by_itself limit ts made) (Ok d)
    → Arguments macros limit body (complete ++ record { written = ts; expanded = d.tokens } ∷ []) left d.made all
    → Arguments macros limit body complete (ts ∷ left) made all
asked macros limit body complete ts left made d all is c h =
    let a : Argument = record { written = ts; expanded = d.tokens } in
    record {
      args = with_argument ts d.tokens h.args;
      expanded = AreExpanded.asked body (length complete) made ts left d h.args is c (subst (λ n. AreExpanded macros limit body n left d.made h.args) (one_more complete a) h.expanded);
      is = h.is ∙ between complete a h.args;
    }

-- one that fails
pub fails : (macros : List Macro) (limit : ℕ) (body : List Chain) (complete : List Argument) (ts : List Listed) (left : List (List Listed)) (made : ℕ) (failure : Failure)
    → asks (length complete) body ≡ true → Continues macros limit (by_itself limit ts made) (Err failure)
    → Arguments macros limit body complete (ts ∷ left) made (Err failure)
fails macros limit body complete ts left made failure is c =
    record { args = Err failure; expanded = AreExpanded.fails body (length complete) made ts left failure is c; is = refl }

-- there is none behind those that are done
pub none : (macros : List Macro) (limit : ℕ) (body : List Chain) (complete : List Argument) (made : ℕ) → Arguments macros limit body complete [] made (Ok (complete, made))
none macros limit body complete made = record {
  args = Ok ([], made);
  expanded = AreExpanded.none body (length complete) made;
  is = ap (λ (all : List Argument). Ok (all, made)) (sym (append-nil complete));
}

-- from the first, all that there are are those of the rest
pub from_first : (args all : Expansions) → all ≡ with_arguments [] args → all ≡ args
from_first (Ok others) all is = is
from_first (Err failure) all is = is

-- one more was passed over
pub passes_one : (body : List Chain) (first complete new : List Argument) (all waiting left : List (List Listed)) (ts expanded : List Listed)
    → Passes body first all complete waiting → waiting ≡ ts ∷ left → asks (length complete) body ≡ false → expanded ≡ [] → new ≡ complete ++ record { written = ts; expanded = expanded } ∷ []
    → Passes body first all new left
passes_one body first complete new all waiting left ts expanded passes is unasked_for empty pushed macros limit made args h =
    passes macros limit made args (subst (λ (w : List (List Listed)). Arguments macros limit body complete w made args) (sym is)
    (unasked body complete ts left unasked_for macros limit made args
    (subst (λ (x : List Listed). Arguments macros limit body (complete ++ record { written = ts; expanded = x } ∷ []) left made args) empty
    (subst (λ (a : List Argument). Arguments macros limit body a left made args) pushed h))))
