-- Specifiers and stars end where what follows can't go on with them, so their tokens tell them.
use Rattle.std.proofs.Common.{◌≡◌, Bool, IsTrue, IsFalse, List, [], ◌∷◌, ◌++◌, sym, subst, refl}
use Rattle.std.specs.Prelude.{All}
use Rattle.std.proofs.lemmas.List.Elements.{All-head, All-tail}
use Rattle.k_tree.specs.declared.tokens.TokenKind.{TokenKind}
use Rattle.k_tree.specs.declared.tokens.TokenKind.TheVariants as token
use Rattle.k_tree.specs.declared.tokens.word.Word.{Word}
use Rattle.k_tree.specs.Begins.{begins_declaration}
use Rattle.k_tree.specs.Ranked.{is_spec}
use Rattle.k_tree.specs.Spelling.{Spelled, spell_specs}

-- no first token passes the test
abbrev pub Stops : (TokenKind → Bool) → Spelled → Type 0
Stops test [] = Unit {0}
Stops test (t ∷ tokens) = IsFalse (test t)

abbrev AllSpecs : List Word → Type 0
AllSpecs specs = All (λ w. IsTrue (is_spec w)) specs

-- a word that is none can't begin what stops specifiers
no_spec : (w : Word) (x rest : Spelled) → IsTrue (is_spec w) → Stops begins_declaration x → x ≡ token.Word w ∷ rest → ⊥
no_spec w [] rest h s e = cc
no_spec w (t ∷ x) rest h s e =
    let q : t ≡ token.Word w = cc in let r : IsFalse (is_spec w) = subst (λ k. IsFalse (begins_declaration k)) q s in cc

pub specs_unique : (a b : List Word) (x y : Spelled) → AllSpecs a → AllSpecs b → Stops begins_declaration x → Stops begins_declaration y
    → spell_specs a ++ x ≡ spell_specs b ++ y → (a ≡ b) × (x ≡ y)
specs_unique [] [] x y ha hb sx sy e = (refl, e)
specs_unique [] (w ∷ b) x y ha hb sx sy e =
    absurd (no_spec w x (spell_specs b ++ y) (All-head (λ v. IsTrue (is_spec v)) w b hb) sx e)
specs_unique (v ∷ a) [] x y ha hb sx sy e =
    absurd (no_spec v y (spell_specs a ++ x) (All-head (λ u. IsTrue (is_spec u)) v a ha) sy (sym e))
specs_unique (v ∷ a) (w ∷ b) x y ha hb sx sy e =
    let q : v ≡ w = cc in
    let r : spell_specs a ++ x ≡ spell_specs b ++ y = cc in
    let s : (a ≡ b) × (x ≡ y) =
    specs_unique a b x y (All-tail (λ u. IsTrue (is_spec u)) v a ha) (All-tail (λ u. IsTrue (is_spec u)) w b hb) sx sy r in
    let s0 : a ≡ b = s.0 in (cc, s.1)
