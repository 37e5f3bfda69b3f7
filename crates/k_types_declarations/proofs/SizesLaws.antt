-- Dimensions that are judged one after the other.
use Rattle.std.proofs.Common.{◌≡◌, ℕ, ◌+◌, ◌<◌, ◌≤◌, List, [], ◌∷◌, ◌++◌, Option, Ok, get_or, length, map, refl, sym, ap, ◌∙◌, append_assoc, append-nil}
use Rattle.std.specs.List.{concat}
use Rattle.std.proofs.lemmas.List.{map-append}
use Rattle.std.proofs.lemmas.List.Folds.{concat-append}
use Rattle.k_tree.specs.declared.tree.expression.Expr.{Expr}
use Rattle.k_types_meaning.specs.declared.fault.TypeFault.{TypeFault}
use Rattle.k_types_meaning.specs.Dimensions.{Dimension, dimension, dimensions, joined}
use Rattle.k_types_meaning.specs.Made.{Fine, all_made, then_made}
use Rattle.k_types_meaning.specs.Names.{Names}
use Rattle.k_types_rules.specs.Views.{Refuses}
use Rattle.k_types_objects.specs.declared.size.Size.{Size}
use Rattle.k_types_declarations.specs.Results.{GivesSizes}
use Rattle.k_types_objects.specs.KeptSizes.{size_in, sizes_in}
use Rattle.k_types_declarations.specs.Sizes.{GivesSize}
use Rattle.k_types_declarations.proofs.Lists.{SoFar, step, at_start, at_end, refused_at, refuses_then}

module _ (names : Names) (dims : List (Option Expr)) where
  -- The dimensions before one were judged, and the variables to which `&` is applied in them stand behind the older ones.
  abbrev pub Judges : ℕ → List Size → List ℕ → List ℕ → Type 0
  Judges i list older newer =
      (made : List Dimension)
      × SoFar (dimension names) dims i made
      × (sizes_in list ≡ map (λ (d : Dimension). d.size) made)
      × (newer ≡ older ++ concat (map (λ (d : Dimension). d.taken) made))

  -- none was judged
  pub judges_none : (older : List ℕ) → Judges 0 [] older older
  judges_none older = ([], at_start (dimension names) dims, refl, sym (append-nil older))

  -- one more was judged
  pub judges_more : (i : ℕ) (x : Option Expr) (list items : List Size) (s : Size) (older middle newer : List ℕ)
      → i < length dims → x ≡ get_or dims i x → Judges i list older middle → GivesSize (Ok s) middle newer (dimension names x) → items ≡ list ++ s ∷ []
      → Judges (i + 1) items older newer
  judges_more i x list items s older middle newer inside is (made, so_far, sizes, taken) (t, fine, put) added =
      let d : Dimension = record { size = size_in s; taken = t } in (
        made ++ d ∷ [],
        step (dimension names) dims i x made d inside is fine so_far,
        ap sizes_in added
            ∙ (map-append size_in list (s ∷ []) ∙ (ap (λ l. l ++ size_in s ∷ []) sizes ∙ sym (map-append (λ (e : Dimension). e.size) made (d ∷ [])))),
        put ∙ (ap (λ l. l ++ t) taken
            ∙ (append_assoc older (concat (map (λ (e : Dimension). e.taken) made)) t
            ∙ ap (λ l. older ++ l)
            (sym (ap concat (map-append (λ (e : Dimension). e.taken) made (d ∷ []))
            ∙ (concat-append (map (λ (e : Dimension). e.taken) made) (t ∷ []) ∙ ap (λ l. concat (map (λ (e : Dimension). e.taken) made) ++ l) (append-nil t)))))),
      )

  -- all were judged
  pub judges_all : (i : ℕ) (list : List Size) (older newer : List ℕ) → length dims ≤ i → Judges i list older newer
      → GivesSizes (Ok (sizes_in list)) older newer (dimensions names dims)
  unfolding dimensions
  judges_all i list older newer end (made, so_far, sizes, taken) = (
    concat (map (λ (d : Dimension). d.taken) made),
    ap (λ m. then_made m joined) (at_end (dimension names) dims i made end so_far)
        ∙ ap (λ l. Fine (record { sizes = l; taken = concat (map (λ (d : Dimension). d.taken) made) })) (sym sizes),
    taken,
  )

  -- one has a fault
  pub judges_refused : (i : ℕ) (x : Option Expr) (list : List Size) (older middle : List ℕ) (f : TypeFault)
      → i < length dims → x ≡ get_or dims i x → Judges i list older middle → Refuses f (dimension names x) → Refuses f (dimensions names dims)
  unfolding dimensions
  judges_refused i x list older middle f inside is (made, so_far, _, _) refuses =
      refuses_then f (all_made (map (dimension names) dims)) joined (refused_at (dimension names) dims i x made f inside is so_far refuses)
