-- Tables of macros, and what each macro is replaced by.
use Rattle.std.proofs.Common.{◌≡◌, ℕ, zero, suc, ◌+◌, ◌<◌, ◌≤◌, false, List, [], ◌∷◌, ◌++◌, Some, length, map, get_or, refl, sym, ap, ◌∙◌, append_assoc, arith}
use Rattle.std.proofs.lemmas.List.{append-nil}
use Rattle.std.specs.List.{flat_map}
use Rattle.k_lex_macros.specs.declared.macros.Lexeme.{Lexeme}
use Rattle.k_lex_macros.specs.declared.macros.Definition.{Definition}
use Rattle.k_lex_macros.specs.Macros.{Macro, body_at, stands_at, same_kind, fulls, fulls_from, full_at, full_or, used, replaced, replaced_by, sizes}
use Rattle.k_lex_macros.specs.Table.{macro}
use Rattle.k_tree.specs.declared.tokens.TokenKind.{TokenKind}

pub sizes-append : (xs ys : List Lexeme) → sizes (xs ++ ys) ≡ sizes xs + sizes ys
sizes-append [] ys = omega arith
sizes-append (x ∷ xs) ys = omega (arith, sizes-append xs ys)

-- the lists of a table with one macro more
fulls_push : (seen : List Macro) (lists : List (List Lexeme)) (ms : List Macro) (m : Macro) → fulls_from seen lists (ms ++ m ∷ []) ≡ fulls_from seen lists ms ++ flat_map (replaced_by (seen ++ ms) (fulls_from seen lists ms)) m.1 ∷ []
fulls_push seen lists [] m = ap (λ s. lists ++ flat_map (replaced_by s lists) m.1 ∷ []) (sym (append-nil seen))
fulls_push seen lists (n ∷ ms) m =
    let more = lists ++ flat_map (replaced_by seen lists) n.1 ∷ [] in
    fulls_push (seen ++ n ∷ []) more ms m
    ∙ ap (λ s. fulls_from (seen ++ n ∷ []) more ms ++ flat_map (replaced_by s (fulls_from (seen ++ n ∷ []) more ms)) m.1 ∷ []) (append_assoc seen (n ∷ []) ms)

pub fulls-push : (ms : List Macro) (m : Macro) → fulls (ms ++ m ∷ []) ≡ fulls ms ++ flat_map (replaced ms) m.1 ∷ []
unfolding fulls
fulls-push ms m = fulls_push [] [] ms m

pub flat_map-append : (f : Lexeme → List Lexeme) (xs ys : List Lexeme) → flat_map f (xs ++ ys) ≡ flat_map f xs ++ flat_map f ys
flat_map-append f [] ys = refl
flat_map-append f (x ∷ xs) ys = ap (λ t. f x ++ t) (flat_map-append f xs ys) ∙ sym (append_assoc (f x) (flat_map f xs) (flat_map f ys))

-- what a token is replaced by, where it uses a macro
pub replaced_macro : (table : List Macro) (x : Lexeme) (k : ℕ) → Some k ≡ used table x.what → replaced table x ≡ full_at (fulls table) k
replaced_macro table x k e = ap (full_or (fulls table) x) (sym e)

-- ---- by number

pub body_there : (ds : List Definition) (k : ℕ) (d : Definition) → k < length ds → d ≡ get_or ds k d → d.body ≡ body_at (map macro ds) k
body_there [] k d lt e = absurd (omega arith)
body_there (x ∷ ds) zero d lt e = ap (λ y. y.body) e
body_there (x ∷ ds) (suc k) d lt e = body_there ds k d (omega arith) e

pub body_past : (ds : List Definition) (k : ℕ) → length ds ≤ k → [] ≡ body_at (map macro ds) k
body_past [] k le = refl
body_past (x ∷ ds) zero le = absurd (omega arith)
body_past (x ∷ ds) (suc k) le = body_past ds k (omega arith)

pub stands_there : (body : List Lexeme) (k : ℕ) (x : Lexeme) (what : TokenKind) → k < length body → x ≡ get_or body k x → same_kind x.what what ≡ stands_at body k what
stands_there [] k x what lt e = absurd (omega arith)
stands_there (y ∷ body) zero x what lt e = ap (λ z. same_kind z.what what) e
stands_there (y ∷ body) (suc k) x what lt e = stands_there body k x what (omega arith) e

pub stands_past : (body : List Lexeme) (k : ℕ) (what : TokenKind) → length body ≤ k → false ≡ stands_at body k what
stands_past [] k what le = refl
stands_past (y ∷ body) zero what le = absurd (omega arith)
stands_past (y ∷ body) (suc k) what le = stands_past body k what (omega arith)
