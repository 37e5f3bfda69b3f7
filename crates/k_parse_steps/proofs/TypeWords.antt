-- The words of a type, by what each of them is.
use Rattle.std.proofs.Common.{◌≡◌, Bool, true, false, ◌&&◌, cond, nat_eq, List, [], ◌∷◌, ◌++◌, length, Option, Some, None, refl}
use Rattle.k_parse_steps.specs.Types.{Stars, Word}
use Rattle.k_parse_steps.specs.Operators.{is_spec_word}
use Rattle.k_parse_steps.specs.Stars.{constant, type_word}
use Rattle.k_parse_steps.proofs.ExpressionTerms.{and_left, and_right}
use Rattle.k_parse_steps.specs.Tokens.{is_word}
use Rattle.k_tree.specs.declared.tokens.word.Word.TheVariants as word

either : {A : Type 0} (P : A → Type 0) (b : Bool) (x y : A) → (b ≡ true → P x) → (b ≡ false → P y) → P (cond b x y)
either P true x y f h = f refl
either P false x y f h = h refl

-- what is true behind `const`, behind one more specifier and of a word that can't stand there, is true behind any word
pub word_split : (P : Option (List Word × Stars) → Type 0) (specs : List Word) (stars : Stars) (more : Bool) (w : Word)
    → (stars.pending ≡ true → is_word w word.Const ≡ true → P (Some (specs, constant stars)))
    → (stars.pending ≡ false → nat_eq (length stars.done) 0 ≡ true → more ≡ true → is_spec_word w ≡ true → P (Some (specs ++ w ∷ [], stars)))
    → P None → P (type_word specs stars more w)
unfolding type_word
word_split P specs stars more w const spec none =
    either P stars.pending _ _ (λ h. either P (is_word w word.Const) _ None (λ k. const h k) (λ k. none))
    (λ h. either P (nat_eq (length stars.done) 0 && (more && is_spec_word w)) _ None
    (λ k. let c : (more && is_spec_word w) ≡ true = and_right (nat_eq (length stars.done) 0) (more && is_spec_word w) k in
    spec h (and_left (nat_eq (length stars.done) 0) (more && is_spec_word w) k) (and_left more (is_spec_word w) c) (and_right more (is_spec_word w) c))
    (λ k. none))
