-- Laws of `##` and of bodies.
use Rattle.std.proofs.Common.{◌≡◌, ℕ, zero, suc, Bool, List, [], ◌∷◌, ◌++◌, Option, Some, None, ◌≤◌, ◌<◌, length, get_or, arith, append_assoc, ap, sym, ◌∙◌, refl}
use Rattle.std.specs.Prelude.{option_map}
use Rattle.k_lex_expansion.specs.declared.tokens.Listed.{Listed}
use Rattle.k_lex_expansion.specs.declared.macros.Chain.{Chain}
use Rattle.k_lex_expansion.specs.declared.arguments.Argument.{Argument}
use Rattle.k_lex_expansion.specs.Pasting.{pasted_of, pasted_to, glue}
use Rattle.k_lex_expansion.specs.Replacing.{no_argument, argument_at, before, chained, replaced_before}

behind_nothing : (o : Option (List Listed)) → o ≡ option_map (λ ts. [] ++ ts) o
behind_nothing None = refl
behind_nothing (Some ts) = refl

behind_one : (x : Listed) (xs : List Listed) (o : Option (List Listed)) → option_map (λ ts. x ∷ ts) (option_map (λ ts. xs ++ ts) o) ≡ option_map (λ ts. (x ∷ xs) ++ ts) o
behind_one x xs None = refl
behind_one x xs (Some ts) = refl

-- the last token alone takes part in `##`
pub glue_last : (xs : List Listed) (a : Listed) (bs : List Listed) → glue (xs ++ a ∷ []) bs ≡ option_map (λ ts. xs ++ ts) (pasted_to a bs)
glue_last [] a bs = behind_nothing (pasted_to a bs)
glue_last (x ∷ []) a bs = refl
glue_last (x ∷ y ∷ xs) a bs = ap (option_map (λ ts. x ∷ ts)) (glue_last (y ∷ xs) a bs) ∙ behind_one x (y ∷ xs) (pasted_to a bs)

-- the last chain first
pub replaced_last : (args : List Argument) (front : List Chain) (c : Chain) (o : Option (List Listed)) → replaced_before args (front ++ c ∷ []) o ≡ replaced_before args front (before c.spaced (chained args c.first c.more) o)
replaced_last args [] c o = refl
replaced_last args (d ∷ front) c o = ap (before d.spaced (chained args d.first d.more)) (replaced_last args front c o)

before_none : (spaced : Bool) (o : Option (List Listed)) → before spaced o None ≡ None
before_none spaced None = refl
before_none spaced (Some ts) = refl

-- a `##` that makes no token
pub replaced_none : (args : List Argument) (front : List Chain) → replaced_before args front None ≡ None
replaced_none args [] = refl
replaced_none args (d ∷ front) = ap (before d.spaced (chained args d.first d.more)) (replaced_none args front) ∙ before_none d.spaced (chained args d.first d.more)

-- they make a token
pub glue_some : (xs : List Listed) (a b : Listed) (bs one new : List Listed) (token : Listed) → Some token ≡ pasted_of a b → one ≡ xs ++ token ∷ [] → new ≡ one ++ bs
    → glue (xs ++ a ∷ []) (b ∷ bs) ≡ Some new
glue_some xs a b bs one new token is one_is new_is =
    glue_last xs a (b ∷ bs)
    ∙ ap (λ o. option_map (λ ts. xs ++ ts) (option_map (λ t. t ∷ bs) o)) (sym is)
    ∙ ap Some (sym (append_assoc xs (token ∷ []) bs))
    ∙ ap (λ (ts : List Listed). Some (ts ++ bs)) (sym one_is)
    ∙ ap Some (sym new_is)

-- they make none
pub glue_none : (xs : List Listed) (a b : Listed) (bs : List Listed) → None ≡ pasted_of a b → glue (xs ++ a ∷ []) (b ∷ bs) ≡ None
glue_none xs a b bs is = glue_last xs a (b ∷ bs) ∙ ap (λ o. option_map (λ ts. xs ++ ts) (option_map (λ t. t ∷ bs) o)) (sym is)

-- the argument of a number, where there is one, and where there is none
pub argument_there : (args : List Argument) (k : ℕ) (d : Argument) → k < length args → get_or args k d ≡ argument_at args k
argument_there [] k d lt = absurd (omega arith)
argument_there (a ∷ args) zero d lt = refl
argument_there (a ∷ args) (suc k) d lt = argument_there args k d (omega arith)

pub argument_past : (args : List Argument) (k : ℕ) → length args ≤ k → no_argument ≡ argument_at args k
argument_past [] k le = refl
argument_past (a ∷ args) zero le = absurd (omega arith)
argument_past (a ∷ args) (suc k) le = argument_past args k (omega arith)
