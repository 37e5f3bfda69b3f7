-- What is taken off the front was spelled there, and what is spelled there is taken off.
use Rattle.std.proofs.Common.{◌≡◌, ℕ, suc, Bool, true, false, List, [], ◌∷◌, ◌++◌, length, take, drop, Option, Some, None, refl, sym, ap, ◌∙◌, subst, if◌then◌else◌, ◌==◌}
use Rattle.std.proofs.lemmas.Bool.{and_parts, eqb-true, eq-eqb}
use Rattle.std.proofs.lemmas.List.{take-append-drop, take_at, drop_at}
use Rattle.std.proofs.lemmas.Option.{none-some, same_Some}
use Rattle.k_scan.specs.Names.{NoNameByte, are_in_name, in_name, is_name, name_at, name_span}
use Rattle.k_scan.specs.Pieces.{word_at}
use Rattle.k_scan.proofs.Texts.{name_bytes}

-- an option that is there passed its test
pub chosen : {X : Type 0} (b : Bool) (o : Option X) (x : X) → (if b then o else None) ≡ Some x → (b ≡ true) × (o ≡ Some x)
chosen true o x h = (refl, h)
chosen false o x h = absurd (none-some x h)

-- a word that is taken off stands at the front
pub word_takes : (word text rest : List ℕ) → word_at word text ≡ Some rest → text ≡ word ++ rest
word_takes [] text rest h = same_Some text rest h
word_takes (w ∷ word) [] rest h = absurd (none-some rest h)
word_takes (w ∷ word) (b ∷ text) rest h =
    let parts = chosen (b == w) (word_at word text) rest h in
    let one : b ≡ w = eqb-true b w parts.0 in
    let more : text ≡ word ++ rest = word_takes word text rest parts.1 in
    cc

-- a word at the front is taken off
pub word_again : (word rest : List ℕ) → word_at word (word ++ rest) ≡ Some rest
word_again [] rest = refl
word_again (w ∷ word) rest = ap (λ t. if t then word_at word (word ++ rest) else None) (eq-eqb w w refl) ∙ word_again word rest

-- a name that is taken off is one, and stands at the front
pub name_takes : (text name rest : List ℕ) → name_at text ≡ Some (name, rest) → (text ≡ name ++ rest) × (is_name name ≡ true)
name_takes text name rest h =
    let parts = chosen (is_name (take (name_span text) text)) (Some (take (name_span text) text, drop (name_span text) text)) (name, rest) h in
    let pair = same_Some (take (name_span text) text, drop (name_span text) text) (name, rest) parts.1 in
    let one : take (name_span text) text ≡ name = ap (λ p. p.0) pair in
    let other : drop (name_span text) text ≡ rest = ap (λ p. p.1) pair in
    let P : List ℕ → Type 0 = λ t. is_name t ≡ true in
    (sym (take-append-drop (name_span text) text) ∙ (λ i. one i ++ other i), subst P one parts.0)

span_behind : (name rest : List ℕ) → are_in_name name ≡ true → NoNameByte rest → name_span (name ++ rest) ≡ length name
span_behind [] [] h alone = refl
span_behind [] (b ∷ rest) h alone = ap (λ t. if t then suc (name_span rest) else 0) alone
span_behind (b ∷ name) rest h alone =
    let parts = and_parts (in_name b) (are_in_name name) h in
    ap (λ t. if t then suc (name_span (name ++ rest)) else 0) parts.0 ∙ ap suc (span_behind name rest parts.1 alone)

-- a name at the front is taken off, where no byte of a name stands behind it
pub name_again : (name rest : List ℕ) → is_name name ≡ true → NoNameByte rest → name_at (name ++ rest) ≡ Some (name, rest)
name_again name rest h alone =
    let span = span_behind name rest (name_bytes name h) alone in
    let answer : ℕ → Option (List ℕ × List ℕ) = λ n. if is_name (take n (name ++ rest)) then Some (take n (name ++ rest), drop n (name ++ rest)) else None in
    let pair : List ℕ → List ℕ → Option (List ℕ × List ℕ) = λ one other. if is_name one then Some (one, other) else None in
    ap answer span ∙ (λ i. pair (take_at name rest (length name) refl i) (drop_at name rest (length name) refl i))
    ∙ ap (λ t. if t then Some (name, rest) else None) h
