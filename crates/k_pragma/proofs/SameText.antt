-- The lines of a function are those by what stands in its text.
use Rattle.std.proofs.Common.{ℕ, ◌≡◌, Bool, List}
use Rattle.k_types_meaning.specs.declared.tree.unit.TVariable.{TVariable}
use Rattle.k_pragma_texts.specs.declared.occurrence.LoopText.{LoopText}
use Rattle.k_pragma_texts.specs.declared.occurrence.Occurrence.{Occurrence}
use Rattle.k_pragma_texts.specs.declared.occurrence.Setter.{Setter}
use Rattle.k_pragma.specs.Marked.{pragmas_of_text}

-- equal texts have equal lines
pub same_pragmas : (among : List ℕ) (counted : List Bool) (bare : List Bool) (names : List (List ℕ)) (number : ℕ) (vs : List TVariable)
    (occurs occurs' : List Occurrence) (setters setters' : List Setter) (loops loops' : List LoopText)
    → occurs ≡ occurs' → setters ≡ setters' → loops ≡ loops'
    → pragmas_of_text among counted bare names number vs occurs setters loops ≡ pragmas_of_text among counted bare names number vs occurs' setters' loops'
same_pragmas among counted bare names number vs occurs occurs' setters setters' loops loops' o s l =
    λ i. pragmas_of_text among counted bare names number vs (o i) (s i) (l i)
