-- Worked examples, by computing.
use Rattle.std.proofs.Common.{◌≡◌, ℕ, List, [], ◌∷◌, Option, Some, None, Result, Ok, Err, ap, subst, refl}
use Rattle.std.specs.Prelude.{map, length, codes}
use Rattle.k_lex_expansion.specs.declared.tokens.Listed.{Listed}
use Rattle.k_lex_expansion.specs.declared.macros.Macro.{Macro}
use Rattle.k_lex_expansion.specs.declared.failure.Failure.{Failure}
use Rattle.k_lex_expansion.specs.Expansion.{Done, next}
use Rattle.k_lex_expansion.specs.Pasting.{is_token}
use Rattle.k_lex_pieces.specs.Pieces.{piece_by}
use Rattle.k_lex_expansion.specs.Laws.{use_of, limit, Gives, Fails, f_and_g, x_and_y, pasting, NestedCallGives, OwnNameStays, PastingGives, PastingNothingGives, BadPasteFails, TwoArgumentsFail}
use Rattle.k_lex_expansion.proofs.Running.{run, found}

-- what is shown of a computed expansion
abbrev Shown : Type 0
Shown = Option (Result (List (List ℕ) × ℕ) Failure)

abbrev shown : Option (Result Done Failure) → Shown
shown None = None
shown (Some (Ok d)) = Some (Ok (map (λ (t : Listed). t.spelling) d.tokens, length d.source.tokens))
shown (Some (Err failure)) = Some (Err failure)

gives : (macros : List Macro) (name : List ℕ) (source texts : List (List ℕ)) (left : ℕ) (o : Option (Result Done Failure)) → run macros limit 40 (use_of name source) ≡ o → shown o ≡ Some (Ok (texts, left)) → Gives macros name source texts left
gives macros name source texts left None is same = absurd (cc same)
gives macros name source texts left (Some (Ok d)) is same =
    let both : ◌≡◌ {A = List (List ℕ) × ℕ} (map (λ (t : Listed). t.spelling) d.tokens, length d.source.tokens) (texts, left) = cc in
    record { done = d; expands = found macros limit 40 (use_of name source) (Ok d) is; texts_are = ap (λ p. p.0) both; left_are = ap (λ p. p.1) both }
gives macros name source texts left (Some (Err failure)) is same = absurd (cc same)

fails : (macros : List Macro) (name : List ℕ) (source : List (List ℕ)) (failure : Failure) (o : Option (Result Done Failure)) → run macros limit 40 (use_of name source) ≡ o → shown o ≡ Some (Err failure) → Fails macros name source failure
fails macros name source failure None is same = absurd (cc same)
fails macros name source failure (Some (Ok d)) is same = absurd (cc same)
fails macros name source failure (Some (Err other)) is same =
    let is_other : other ≡ failure = cc in
    subst (λ x. Fails macros name source x) is_other (found macros limit 40 (use_of name source) (Err other) is)

pub nested : NestedCallGives
unfolding run next is_token piece_by
nested = gives f_and_g _ _ _ 0 (run f_and_g limit 40 (use_of (codes "f") (codes "(" ∷ codes "2" ∷ codes ")" ∷ codes "(" ∷ codes "9" ∷ codes ")" ∷ []))) refl refl

pub own : OwnNameStays
unfolding run next is_token piece_by
own = gives x_and_y _ _ _ 2 (run x_and_y limit 40 (use_of (codes "x") (codes "=" ∷ codes "7" ∷ []))) refl refl

pub pastes : PastingGives
unfolding run next is_token piece_by
pastes = (
  gives pasting _ _ _ 1 (run pasting limit 40 (use_of (codes "C") (codes "(" ∷ codes "n" ∷ codes "," ∷ codes "1" ∷ codes ")" ∷ codes "=" ∷ []))) refl refl,
  gives pasting _ _ _ 1 (run pasting limit 40 (use_of (codes "C") (codes "(" ∷ codes "1" ∷ codes "," ∷ codes "2" ∷ codes ")" ∷ codes ";" ∷ []))) refl refl,
)

pub nothing : PastingNothingGives
unfolding run next is_token piece_by
nothing = gives pasting _ _ _ 1 (run pasting limit 40 (use_of (codes "C") (codes "(" ∷ codes "+" ∷ codes "," ∷ codes ")" ∷ codes "1" ∷ []))) refl refl

pub bad : BadPasteFails
unfolding run next is_token piece_by
bad = fails _ (codes "S") (codes "(" ∷ codes "-" ∷ codes ")" ∷ codes "1" ∷ []) _ _ refl refl

pub two : TwoArgumentsFail
unfolding run next is_token piece_by
two = fails _ (codes "F") (codes "(" ∷ codes "1" ∷ codes "," ∷ codes "2" ∷ codes ")" ∷ []) _ _ refl refl
