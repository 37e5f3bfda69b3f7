-- How `defined` is replaced, token by token.
use Rattle.std.proofs.Common.{◌≡◌, ℕ, Bool, true, false, List, [], ◌∷◌, ◌++◌, Option, Some, None, ap, sym, subst, ◌∙◌, refl, append_assoc, drop}
use Rattle.std.specs.Prelude.{if◌then◌else◌, codes}
use Rattle.k_lex_pieces.specs.Pieces.{is_name}
use Rattle.k_lex_lines.specs.declared.lines.Placed.{Placed}
use Rattle.k_lex_lines.specs.Directives.{is_text, number_for, with_first, found, found_behind, found_inside, found_closed}
use Rattle.k_lex_reading.specs.Founds.{replaced, Follows, FollowsInside, all_before}

-- a token more stands before the others
before_first : (all : List Placed) (t : Placed) (ts : Option (List Placed)) → all_before all (with_first t ts) ≡ all_before (all ++ t ∷ []) ts
before_first all t None = refl
before_first all t (Some ts) = ap (λ (x : List Placed). some_of x) (sym (append_assoc all (t ∷ []) ts))
  where
    some_of : List Placed → Option (List Placed)
    some_of x = Some x

-- a token that stays
pub kept : (names : List ℕ → Bool) (all new rest ts : List Placed) (t u : Placed) (whole : Option (List Placed)) → rest ≡ t ∷ ts → is_text (codes "defined") t ≡ false → u ≡ t → new ≡ all ++ u ∷ []
    → all_before all (found names rest) ≡ whole → all_before new (found names ts) ≡ whole
kept names all new rest ts t u whole rest_is other same new_is e =
    ap (λ (x : List Placed). all_before x (found names ts)) (new_is ∙ ap (λ (z : Placed). all ++ z ∷ []) same)
    ∙ (sym (before_first all t (found names ts))
    ∙ (ap (all_before all) (sym (ap (λ b. if b then found_behind names t ts else with_first t (found names ts)) other))
    ∙ (ap (λ (x : List Placed). all_before all (found names x)) (sym rest_is) ∙ e)))

-- a `defined`
pub put_in : (names : List ℕ → Bool) (all new rest ts : List Placed) (t u : Placed) (known : Bool) (count : ℕ) (whole : Option (List Placed)) → rest ≡ t ∷ ts → is_text (codes "defined") t ≡ true
    → Follows names (Some (known, count)) ts → u ≡ number_for known t → new ≡ all ++ u ∷ [] → all_before all (found names rest) ≡ whole → all_before new (found names (drop count ts)) ≡ whole
put_in names all new rest ts t u known count whole rest_is is told same new_is e =
    ap (λ (x : List Placed). all_before x (found names (drop count ts))) (new_is ∙ ap (λ (z : Placed). all ++ z ∷ []) same)
    ∙ (sym (before_first all (number_for known t) (found names (drop count ts)))
    ∙ (ap (all_before all) (sym (ap (λ b. if b then found_behind names t ts else with_first t (found names ts)) is ∙ told t))
    ∙ (ap (λ (x : List Placed). all_before all (found names x)) (sym rest_is) ∙ e)))

-- a `defined` of another form
pub none_there : (names : List ℕ → Bool) (all rest ts : List Placed) (t : Placed) (whole : Option (List Placed)) → rest ≡ t ∷ ts → is_text (codes "defined") t ≡ true
    → Follows names None ts → all_before all (found names rest) ≡ whole → None ≡ whole
none_there names all rest ts t whole rest_is is told e =
    ap (all_before all) (sym (ap (λ b. if b then found_behind names t ts else with_first t (found names ts)) is ∙ told t))
    ∙ (ap (λ (x : List Placed). all_before all (found names x)) (sym rest_is) ∙ e)

-- ---- behind `defined (`

pub one_inside : (names : List ℕ → Bool) (ts rest : List Placed) (t u : Placed) (known : Bool) → ts ≡ t ∷ u ∷ rest → is_name t.token.spelling ≡ true → is_text (codes ")") u ≡ true
    → known ≡ names t.token.spelling → FollowsInside names (Some (known, 2)) ts
one_inside names ts rest t u known is name closes same =
    λ d. ap (found_inside names d) is
    ∙ (ap (λ b. if b then found_closed names d (names t.token.spelling) (u ∷ rest) else None) name
    ∙ (ap (λ b. if b then with_first (number_for (names t.token.spelling) d) (found names rest) else None) closes
    ∙ (ap (λ k. with_first (number_for k d) (found names rest)) (sym same)
    ∙ ap (λ (x : List Placed). with_first (number_for known d) (found names (drop 2 x))) (sym is))))

either_none : (b : Bool) (x : Option (List Placed)) → x ≡ None → (if b then x else None) ≡ None
either_none true x e = e
either_none false x e = refl

pub no_name_inside : (names : List ℕ → Bool) (ts rest : List Placed) (t : Placed) → ts ≡ t ∷ rest → is_name t.token.spelling ≡ false → FollowsInside names None ts
no_name_inside names ts rest t is name =
    λ d. ap (found_inside names d) is ∙ ap (λ b. if b then found_closed names d (names t.token.spelling) rest else None) name

pub no_close_inside : (names : List ℕ → Bool) (ts rest : List Placed) (t u : Placed) → ts ≡ t ∷ u ∷ rest → is_text (codes ")") u ≡ false → FollowsInside names None ts
no_close_inside names ts rest t u is opens =
    λ d. ap (found_inside names d) is
    ∙ either_none (is_name t.token.spelling) (found_closed names d (names t.token.spelling) (u ∷ rest))
    (ap (λ b. if b then with_first (number_for (names t.token.spelling) d) (found names rest) else None) opens)

pub none_inside : (names : List ℕ → Bool) → FollowsInside names None []
none_inside names = λ d. refl

pub cut_inside : (names : List ℕ → Bool) (t : Placed) → FollowsInside names None (t ∷ [])
cut_inside names t = λ d. either_none (is_name t.token.spelling) None refl

-- ---- behind `defined`

pub follows_inside : (names : List ℕ → Bool) (ts more : List Placed) (t : Placed) (known : Bool) → ts ≡ t ∷ more → is_text (codes "(") t ≡ true
    → FollowsInside names (Some (known, 2)) more → Follows names (Some (known, 3)) ts
follows_inside names ts more t known is opens told =
    λ d. ap (found_behind names d) is
    ∙ (ap (λ b. if b then found_inside names d more else (if is_name t.token.spelling then with_first (number_for (names t.token.spelling) d) (found names more) else None)) opens
    ∙ (told d ∙ ap (λ (x : List Placed). with_first (number_for known d) (found names (drop 3 x))) (sym is)))

pub follows_no_inside : (names : List ℕ → Bool) (ts more : List Placed) (t : Placed) → ts ≡ t ∷ more → is_text (codes "(") t ≡ true
    → FollowsInside names None more → Follows names None ts
follows_no_inside names ts more t is opens told =
    λ d. ap (found_behind names d) is
    ∙ (ap (λ b. if b then found_inside names d more else (if is_name t.token.spelling then with_first (number_for (names t.token.spelling) d) (found names more) else None)) opens ∙ told d)

pub follows_bare : (names : List ℕ → Bool) (ts more : List Placed) (t : Placed) (known : Bool) → ts ≡ t ∷ more → is_text (codes "(") t ≡ false → is_name t.token.spelling ≡ true
    → known ≡ names t.token.spelling → Follows names (Some (known, 1)) ts
follows_bare names ts more t known is opens name same =
    λ d. ap (found_behind names d) is
    ∙ (ap (λ b. if b then found_inside names d more else (if is_name t.token.spelling then with_first (number_for (names t.token.spelling) d) (found names more) else None)) opens
    ∙ (ap (λ b. if b then with_first (number_for (names t.token.spelling) d) (found names more) else None) name
    ∙ (ap (λ k. with_first (number_for k d) (found names more)) (sym same)
    ∙ ap (λ (x : List Placed). with_first (number_for known d) (found names (drop 1 x))) (sym is))))

pub follows_none : (names : List ℕ → Bool) (ts more : List Placed) (t : Placed) → ts ≡ t ∷ more → is_text (codes "(") t ≡ false → is_name t.token.spelling ≡ false
    → Follows names None ts
follows_none names ts more t is opens name =
    λ d. ap (found_behind names d) is
    ∙ (ap (λ b. if b then found_inside names d more else (if is_name t.token.spelling then with_first (number_for (names t.token.spelling) d) (found names more) else None)) opens
    ∙ ap (λ b. if b then with_first (number_for (names t.token.spelling) d) (found names more) else None) name)
