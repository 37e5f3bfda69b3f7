-- Sources are listed one behind another.
use Rattle.std.proofs.Common.{◌≡◌, ℕ, List, [], ◌∷◌, ◌++◌, Option, Some, None, Bool, true, false, refl, sym, ◌∙◌, ap, append_assoc}
use Rattle.k_optab.specs.declared.event.Src.{Src}
use Rattle.k_world.specs.declared.value.Read.{Read}
use Rattle.k_world.specs.Operands.{source_before, source_in, sources_before, sources}

-- a source is listed, and others behind it
pub source_more : (source : Option ℕ) (broken : Bool) (rest : List Src) → source_before source broken [] ++ rest ≡ source_before source broken rest
source_more None broken rest = refl
source_more (Some number) broken rest = refl

pub sources_more : (list : List Src) (source : Option ℕ) (broken : Bool) (rest : List Src)
    → (list ++ source_before source broken []) ++ rest ≡ list ++ source_before source broken rest
sources_more list source broken rest = append_assoc list (source_before source broken []) rest ∙ ap (λ (xs : List Src). list ++ xs) (source_more source broken rest)
