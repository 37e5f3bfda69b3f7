-- The marks of a text are those that it spells.
use Rattle.std.proofs.Common.{◌≡◌, ℕ, zero, suc, ◌<◌, List, [], ◌∷◌, ◌++◌, length, Some, None, refl, ap, ◌∙◌, subst, arith, ne_eqb}
use Rattle.std.specs.Prelude.{◌==◌, slice_index_or, if◌then◌else◌}
use Rattle.k_types_meaning.specs.Formats.{FormatMark, Literal, Outside, Behind, Spells, ends, byte, conversion, conversions, mark_before, marks_from, marks_of}

-- all items have a property
abbrev AllOf : {A : Type 0} → (A → Type 0) → List A → Type 0
AllOf P [] = Unit {0}
AllOf P (x ∷ xs) = P x × AllOf P xs

item_of : {A : Type 0} (P : A → Type 0) (xs : List A) → AllOf P xs → (k : ℕ) (d : A) → k < length xs → P (slice_index_or xs k d)
item_of P [] all k d within = absurd (omega arith)
item_of P (x ∷ xs) all zero d within = all.0
item_of P (x ∷ xs) all (suc k) d within = item_of P xs all.1 k d (omega arith)

-- a text that begins with a conversion has its mark, and then those of the rest
abbrev IsRead : List ℕ × FormatMark → Type 0
IsRead entry = (text : List ℕ) → marks_from Outside (entry.0 ++ text) ≡ mark_before (Some entry.1) (marks_from Outside text)

all_read : AllOf IsRead conversions
all_read =
    ((λ text. refl), ((λ text. refl), ((λ text. refl), ((λ text. refl), ((λ text. refl), ((λ text. refl), ((λ text. refl), ((λ text. refl), ((λ text. refl), ((λ text. refl), ((λ text. refl), ((λ text. refl), ((λ text. refl), ((λ text. refl), tt))))))))))))))

pub plain_read : (b : ℕ) (text : List ℕ) → (b ≡ 0 → ⊥) → (b ≡ 37 → ⊥) → marks_from Outside (b ∷ text) ≡ mark_before (Some (Literal b)) (marks_from Outside text)
plain_read b text some other =
    ap (λ t. if t then marks_from (Behind 0) text else (if b == 0 then None else mark_before (Some (Literal b)) (marks_from Outside text))) (ne_eqb b 37 other)
    ∙ ap (λ t. if t then None else mark_before (Some (Literal b)) (marks_from Outside text)) (ne_eqb b 0 some)

-- what a text spells is read
pub complete : (text : List ℕ) (marks : List FormatMark) → Spells text marks → marks_of text ≡ Some marks
complete _ _ ends = refl
complete _ _ (byte b text marks plain rest) =
    plain_read b text plain.0 plain.1 ∙ ap (mark_before (Some (Literal b))) (complete text marks rest)
complete _ _ (conversion spelled mark text marks listed rest) =
    subst IsRead listed.2 (item_of IsRead conversions all_read listed.0 (spelled, mark) listed.1) text ∙ ap (mark_before (Some mark)) (complete text marks rest)
