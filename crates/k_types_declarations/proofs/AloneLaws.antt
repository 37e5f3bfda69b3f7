-- Initialisers that are judged for what is not known, one after the other.
use Rattle.std.proofs.Common.{◌≡◌, ℕ, Bool, ◌+◌, ◌<◌, ◌≤◌, List, [], ◌∷◌, ◌++◌, Result, Ok, Err, get_or, length, map, sym, ap, ◌∙◌, subst, append_assoc, append-nil}
use Rattle.std.specs.List.{concat}
use Rattle.std.proofs.lemmas.Simd.{map-map}
use Rattle.std.proofs.lemmas.List.Folds.{concat-append}
use Rattle.k_num.specs.declared.place.Place.{Place}
use Rattle.k_tree.specs.declared.tree.declaration.Init.{Init}
use Rattle.k_tree.specs.declared.tree.declaration.Init.TheVariants as init
use Rattle.k_tree.proofs.Folds.{init_List}
use Rattle.k_types_meaning.specs.declared.fault.TypeFault.{TypeFault}
use Rattle.k_types_meaning.specs.Initialisers.{Giving, giving, giving_step}
use Rattle.k_types_meaning.specs.Made.{Made, Fine, all_made, then_made}
use Rattle.k_types_meaning.specs.Names.{Names}
use Rattle.k_types_rules.specs.Views.{Refuses}
use Rattle.k_types_declarations.specs.Braces.{GivesAllTaken, GivesTaken}
use Rattle.k_types_declarations.proofs.Lists.{SoFar, step, at_start, at_end, refused_at, refuses_then}

module _ (names : Names) (items : List Init) where
  -- an initialiser alone
  abbrev alone : Init → Made (List ℕ)
  alone init = (giving names init).alone

  -- all initialisers alone
  all_alone : all_made (map (λ (g : Giving). g.alone) (map (giving names) items)) ≡ all_made (map alone items)
  all_alone = ap all_made (map-map (λ (g : Giving). g.alone) (giving names) items)

  -- the initialisers before one were judged, and the variables to which `&` is applied in them stand behind the older ones
  abbrev pub Judges : ℕ → List ℕ → List ℕ → Type 0
  Judges i older newer = (made : List (List ℕ)) × SoFar alone items i made × (newer ≡ older ++ concat made)

  -- none was judged
  pub judges_none : (older : List ℕ) → Judges 0 older older
  judges_none older = ([], at_start alone items, sym (append-nil older))

  -- one more was judged
  pub judges_more : (i : ℕ) (x : Init) (older middle newer : List ℕ)
      → i < length items → x ≡ get_or items i x → Judges i older middle → GivesTaken (Ok tt) middle newer (giving names x).alone → Judges (i + 1) older newer
  judges_more i x older middle newer inside is (made, so_far, taken) (t, fine, put) = (
    made ++ t ∷ [],
    step alone items i x made t inside is fine so_far,
    put ∙ (ap (λ l. l ++ t) taken
        ∙ (append_assoc older (concat made) t
        ∙ ap (λ l. older ++ l) (sym (concat-append made (t ∷ []) ∙ ap (λ l. concat made ++ l) (append-nil t))))),
  )

  -- all were judged
  pub judges_all : (i : ℕ) (older newer : List ℕ) → length items ≤ i → Judges i older newer
      → GivesAllTaken (Ok tt) older newer (all_made (map (λ (g : Giving). g.alone) (map (giving names) items)))
  judges_all i older newer end (made, so_far, taken) = (made, all_alone ∙ at_end alone items i made end so_far, taken)

  -- one has a fault
  pub judges_refused : (i : ℕ) (x : Init) (older middle : List ℕ) (f : TypeFault)
      → i < length items → x ≡ get_or items i x → Judges i older middle → Refuses f (giving names x).alone
      → Refuses f (all_made (map (λ (g : Giving). g.alone) (map (giving names) items)))
  judges_refused i x older middle f inside is (made, so_far, _) refuses =
      subst (Refuses f) (sym all_alone) (refused_at alone items i x made f inside is so_far refuses)

-- braces alone
pub braces_give : (result : Result (Unit {0}) TypeFault) (m : Made (List (List ℕ))) (older newer : List ℕ)
    → GivesAllTaken result older newer m → GivesTaken result older newer (then_made m (λ all. Fine (concat all)))
braces_give (Ok done) m older newer (all, fine, put) = (concat all, ap (λ v. then_made v (λ (l : List (List ℕ)). Fine (concat l))) fine, put)
braces_give (Err f) m older newer refuses = refuses_then f m (λ all. Fine (concat all)) refuses

-- braces for what is not known are judged item by item
pub list_alone : (names : Names) (p : Place) (items : List Init) (comma : Bool) (result : Result (Unit {0}) TypeFault) (older newer : List ℕ)
    → GivesTaken result older newer (then_made (all_made (map (λ (g : Giving). g.alone) (map (giving names) items))) (λ all. Fine (concat all)))
    → GivesTaken result older newer (giving names (init.List p items comma)).alone
list_alone names p items comma result older newer gives =
    subst (GivesTaken result older newer) (sym (ap (λ (g : Giving). g.alone) (init_List Giving (giving_step names) p items comma))) gives
