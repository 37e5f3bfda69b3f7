-- What was seen is known: each tree of the forests has its entry.
use Rattle.std.proofs.Common.{◌≡◌, ℕ, List, [], ◌∷◌, ◌++◌, length, Some, slice_get, sym, ◌∙◌, subst, append_assoc, append-nil}
use Rattle.k_dict_entries.specs.Dictionary.{Firsts, ended, again, anew}
use Rattle.k_dict_entries.specs.Trees.{Forest, bare, grown, Tree, SameShape, post_order}
use Rattle.k_dict_entries.specs.declared.entry.Entry.{Entry}
use Rattle.k_dict_entries.proofs.Coding.{Knows}
use Rattle.k_dict_entries.proofs.Forests.{SameShape-refl}
use Rattle.k_dict_entries.proofs.Places.{place_kept, place_behind}
use Rattle.k_dict_entries.proofs.Walking.{AreEntriesOf, entry_there}
use Rattle.k_hcpa_summed.proofs.Each.{Each, each_front, each_back}

-- the first trees go on
goes_on : (kept trees all : List Tree) → Firsts SameShape kept trees all → (more : List Tree) × (all ≡ kept ++ more)
goes_on _ _ _ (ended kept) = ([], sym (append-nil kept))
goes_on _ _ _ (again t kept trees all n k at same rest) = goes_on kept trees all rest
goes_on _ _ _ (anew t kept trees all none rest) =
    let further = goes_on (kept ++ t ∷ []) trees all rest in (t ∷ further.0, further.1 ∙ append_assoc kept (t ∷ []) further.0)

-- a tree of this shape is among them
abbrev pub HasShape : List Tree → Tree → Type 0
HasShape shapes t = (n : ℕ) × (k : Tree) × (slice_get shapes n ≡ Some k) × SameShape t k

-- each tree that was seen has its shape among the first trees
each_seen : (kept trees all : List Tree) → Firsts SameShape kept trees all → Each (HasShape all) trees
each_seen _ _ _ (ended kept) = tt
each_seen _ _ _ (again t kept trees all n k at same rest) =
    let further = goes_on kept trees all rest in
    let P : List Tree → Type 0 = λ list. slice_get list n ≡ Some k in
    ((n, k, subst P (sym further.1) (place_kept kept further.0 n k at), same), each_seen kept trees all rest)
each_seen _ _ _ (anew t kept trees all none rest) =
    let further = goes_on (kept ++ t ∷ []) trees all rest in
    let P : List Tree → Type 0 = λ list. slice_get list (length kept) ≡ Some t in
    let whole : all ≡ kept ++ t ∷ further.0 = further.1 ∙ append_assoc kept (t ∷ []) further.0 in
    ((length kept, t, subst P (sym whole) (place_behind kept t further.0), SameShape-refl t), each_seen (kept ++ t ∷ []) trees all rest)

module _ (entries : List Entry) (seen : List Tree) (are : AreEntriesOf entries seen) where
  pub knows_each : (f : Forest) → Each (HasShape are.shapes) (post_order f) → Knows entries f
  knows_each bare each = tt
  knows_each (grown x i l) each =
      let t : Tree = record { label = x; inner = i } in
      let rest = each_back (HasShape are.shapes) (post_order i) (t ∷ post_order l) each in (
        knows_each i (each_front (HasShape are.shapes) (post_order i) (t ∷ post_order l) each),
        entry_there entries seen are x i rest.0.0 rest.0.1 rest.0.2 rest.0.3,
        knows_each l rest.1,
      )

  -- each tree that was seen has its shape
  pub all_seen : Each (HasShape are.shapes) seen
  all_seen = each_seen [] seen are.shapes are.firsts
