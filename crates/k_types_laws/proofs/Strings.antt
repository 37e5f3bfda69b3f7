-- Which expressions are strings, and how many elements an initialiser gives.
use Rattle.std.proofs.Common.{◌≡◌, refl, sym, ◌∙◌, ap, subst, ℕ, ◌+◌, List, length, Option, Some, None}
use Rattle.std.proofs.lemmas.Option.{none-some, same_Some}
use Rattle.k_tree.specs.declared.tree.declaration.Init.{Init, out-Init, roll-Init, roll-out-Init}
use Rattle.k_tree.specs.declared.tree.declaration.Init.TheOpen.{Init-F}
use Rattle.k_tree.specs.declared.tree.declaration.Init.TheVariants as init
use Rattle.k_tree.specs.declared.tree.expression.Expr.{Expr, roll-Expr, fold-roll-Expr, ind-Expr, map-Expr}
use Rattle.k_tree.specs.declared.tree.expression.Expr.TheOpen.{Expr-F}
use Rattle.k_tree.specs.declared.tree.expression.Expr.TheVariants as expr
use Rattle.k_tree.proofs.Folds.{expr_Paren, expr_Str}
use Rattle.k_types_meaning.specs.Initialisers.{first_given, first_step, length_with_end, string_of, string_step}
use Rattle.k_types_laws.specs.Sizes.{GivesSize, IsString, by_braces, by_string, enclosed, string}

-- the relation has a string where its bytes are found
abbrev Sound : Expr → Type 0
Sound e = (bytes : List ℕ) → string_of e ≡ Some bytes → IsString e bytes

-- it has one where the relation of what parentheses enclose has it
sound_by : (y : Expr-F ((e : Expr) × Sound e)) (bytes : List ℕ)
    → string_step (map-Expr Expr (Option (List ℕ)) string_of (map-Expr _ Expr (λ (e : (e : Expr) × Sound e). e.0) y)) ≡ Some bytes
    → IsString (roll-Expr (map-Expr _ Expr (λ (e : (e : Expr) × Sound e). e.0) y)) bytes
sound_by (Expr-F.Name p x) bytes is = absurd (none-some bytes is)
sound_by (Expr-F.Number p kind n) bytes is = absurd (none-some bytes is)
sound_by (Expr-F.Char p z) bytes is = absurd (none-some bytes is)
sound_by (Expr-F.Str p text) bytes is =
    subst (λ e. IsString e bytes) (sym (expr.rolls-Str p text)) (subst (IsString (expr.Str p text)) (same_Some text bytes is) (string p text))
sound_by (Expr-F.Paren p a) bytes is = subst (λ e. IsString e bytes) (sym (expr.rolls-Paren p a.0)) (enclosed p a.0 bytes (a.1 bytes is))
sound_by (Expr-F.Index p a b) bytes is = absurd (none-some bytes is)
sound_by (Expr-F.Call p f args) bytes is = absurd (none-some bytes is)
sound_by (Expr-F.Post p op a) bytes is = absurd (none-some bytes is)
sound_by (Expr-F.Pre p op a) bytes is = absurd (none-some bytes is)
sound_by (Expr-F.Unary p op a) bytes is = absurd (none-some bytes is)
sound_by (Expr-F.SizeofExpr p a) bytes is = absurd (none-some bytes is)
sound_by (Expr-F.SizeofType p specs stars) bytes is = absurd (none-some bytes is)
sound_by (Expr-F.Cast p specs stars a) bytes is = absurd (none-some bytes is)
sound_by (Expr-F.Binary p op a b) bytes is = absurd (none-some bytes is)
sound_by (Expr-F.Cond p a b c) bytes is = absurd (none-some bytes is)
sound_by (Expr-F.Assign p op a b) bytes is = absurd (none-some bytes is)
sound_by (Expr-F.Comma p a b) bytes is = absurd (none-some bytes is)

-- an expression whose bytes are found is a string
pub string_sound : (e : Expr) → Sound e
string_sound =
    ind-Expr Sound
    (λ x y is bytes made. subst (λ (z : Expr-F Expr). IsString (roll-Expr z) bytes) is
    (sound_by y bytes
    (ap (λ (z : Expr-F Expr). string_step (map-Expr Expr (Option (List ℕ)) string_of z)) is ∙ sym (fold-roll-Expr (Option (List ℕ)) string_step x) ∙ made)))

-- the bytes of a string are found
pub string_complete : (e : Expr) (bytes : List ℕ) → IsString e bytes → string_of e ≡ Some bytes
string_complete _ _ (string p bytes) = expr_Str (Option (List ℕ)) string_step p bytes
string_complete _ _ (enclosed p e bytes is) = expr_Paren (Option (List ℕ)) string_step p e ∙ string_complete e bytes is

-- a length that is known is that of a string
length_fine : (text : Option (List ℕ)) (d : ℕ) → length_with_end text ≡ Some d → (bytes : List ℕ) × (text ≡ Some bytes) × (length bytes + 1 ≡ d)
length_fine None d is = absurd (none-some d is)
length_fine (Some bytes) d is = (bytes, refl, same_Some (length bytes + 1) d is)

-- an initialiser that gives a count gives it by the relation
gives_by : (x : Init-F Init) (d : ℕ) → first_step x ≡ Some d → GivesSize (roll-Init x) d
gives_by (Init-F.One p e) d is =
    let found = length_fine (string_of e) d is in
    subst (λ i. GivesSize i d) (sym (init.rolls-One p e))
    (subst (GivesSize (init.One p e)) found.2 (by_string p e found.0 (string_sound e found.0 found.1)))
gives_by (Init-F.List p items comma) d is =
    subst (λ i. GivesSize i d) (sym (init.rolls-List p items comma)) (subst (GivesSize (init.List p items comma)) (same_Some (length items) d is) (by_braces p items comma))

-- a count that is given
pub gives_sound : (start : Option Init) (d : ℕ) → first_given start ≡ Some d → (i : Init) × (start ≡ Some i) × GivesSize i d
gives_sound None d is = absurd (none-some d is)
gives_sound (Some i) d is = (i, refl, subst (λ j. GivesSize j d) (roll-out-Init i) (gives_by (out-Init i) d is))

-- it is found
pub gives_complete : (i : Init) (d : ℕ) → GivesSize i d → first_given (Some i) ≡ Some d
gives_complete _ _ (by_string p e bytes is) = ap first_step (init.outs-One p e) ∙ ap length_with_end (string_complete e bytes is)
gives_complete _ _ (by_braces p items comma) = ap first_step (init.outs-List p items comma)
