-- Believed with a public law.
-- Specifiers, and stars before a name, each star with `const` behind it or not (C17 6.7.2, 6.7.6.1).
use Rattle.std.specs.Prelude.{Bool, true, false, ◌&&◌, nat_eq, List, [], ◌∷◌, ◌++◌, length, Option, Some, None, cond}
use Rattle.k_parse_steps.specs.Types.{Stars, Word}
use Rattle.k_tree.specs.declared.tokens.word.Word.TheVariants as word
use Rattle.k_parse_steps.specs.Operators.{is_spec_word}
use Rattle.k_parse_steps.specs.Tokens.{is_word}

-- no star was read yet
abbrev pub no_stars : Stars
no_stars = record { done = []; pending = false }

-- the stars, one by one
abbrev pub all_stars : Stars → List Bool
all_stars s = cond s.pending (s.done ++ false ∷ []) s.done

-- one more star was read, behind which `const` may come
abbrev pub star : Stars → Stars
star s = record { done = all_stars s; pending = true }

-- `const` was read behind the last star
abbrev pub constant : Stars → Stars
constant s = record { done = s.done ++ true ∷ []; pending = false }

-- a word behind these specifiers and stars: `const` behind a star, or one more specifier before the first star, where one may stand; or it can't stand there
unfoldable pub type_word : List Word → Stars → Bool → Word → Option (List Word × Stars)
type_word specs stars more w =
    cond stars.pending (cond (is_word w word.Const) (Some (specs, constant stars)) None)
    (cond (nat_eq (length stars.done) 0 && (more && is_spec_word w)) (Some (specs ++ w ∷ [], stars)) None)
