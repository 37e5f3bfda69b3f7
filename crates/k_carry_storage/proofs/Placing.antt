-- What tables keep where there is a place more, and where something is kept at a place.
use Rattle.std.proofs.Common.{ℕ, zero, suc, ◌≡◌, ◌≢◌, ◌<◌, List, [], ◌∷◌, ◌++◌, length, slice_get, Some, arith, refl, sym, subst, ap, ◌⊎◌, inl, inr, ◌∙◌}
use Rattle.std.specs.Prelude.{slice_set, slice_index_or, nat_eq, true, false}
use Rattle.std.proofs.lemmas.Bool.Decides.{eqb_tells}
use Rattle.k_mem.specs.declared.pointer.Pointer.{Pointer}
use Rattle.k_carry_pairs.specs.declared.origin.Origin.{Origin}
use Rattle.k_carry_storage_pairs.specs.Firsts.{IsNoted}
use Rattle.k_carry_storage_pairs.proofs.Deeper.{set_here, set_other}
use Rattle.k_carry_storage.specs.declared.table.Kept.{Kept}
use Rattle.k_carry_storage.specs.declared.table.Row.{Row}
use Rattle.k_carry_storage.specs.declared.table.Table.{Table}
use Rattle.k_carry_storage.specs.Tables.{IsNotedAt, IsNotedIn, kept_at, kept_if, kept_in, kept_in_if}

-- a place more, where nothing is kept
pub kept_pushed : (xs : List Kept) (x : Kept) (k : ℕ) → x.items.items ≡ [] → kept_if (slice_get (xs ++ x ∷ []) k) ≡ kept_if (slice_get xs k)
kept_pushed [] x zero none = none
kept_pushed [] x (suc k) none = refl
kept_pushed (y ∷ xs) x zero none = refl
kept_pushed (y ∷ xs) x (suc k) none = kept_pushed xs x k none

pub row_pushed : (xs : List Row) (x : Row) (k at : ℕ) → x.elements.items ≡ [] → kept_in_if (slice_get (xs ++ x ∷ []) k) at ≡ kept_in_if (slice_get xs k) at
row_pushed [] x zero at none = ap (λ (kept : List Kept). kept_if (slice_get kept at)) none
row_pushed [] x (suc k) at none = refl
row_pushed (y ∷ xs) x zero at none = refl
row_pushed (y ∷ xs) x (suc k) at none = row_pushed xs x k at none

-- an item at its place
get_there : {X : Type 0} (xs : List X) (n : ℕ) (d : X) → n < length xs → slice_get xs n ≡ Some (slice_index_or xs n d)
get_there [] n d low = absurd (omega (arith, low))
get_there (x ∷ xs) zero d low = refl
get_there (x ∷ xs) (suc n) d low = get_there xs n d (omega (arith, low))

-- an access of an element of an object is noted
pub noted_in : (at : ℕ) (starts : List ℕ) (x : Origin) (old between new : Row) (before after : Kept) → ((k : ℕ) → kept_in between k ≡ kept_in old k)
    → at < length between.elements.items → before ≡ slice_index_or between.elements.items at before → new.elements.items ≡ slice_set between.elements.items at after
    → IsNoted starts x before.items.items after.items.items → IsNotedIn at starts x old new
noted_in at starts x old between new before after same low is set noted = record {
  noted = subst (λ (first : List Origin). IsNoted starts x first (kept_in new at))
      (sym (ap (λ (k : Kept). k.items.items) (sym is)) ∙ (sym (ap kept_if (get_there between.elements.items at before low)) ∙ same at))
      (subst (λ (last : List Origin). IsNoted starts x before.items.items last)
      (sym (ap (λ (all : List Kept). kept_if (slice_get all at)) set ∙ ap kept_if (set_here between.elements.items at after low))) noted);
  others = λ k differs.
      (ap (λ (all : List Kept). kept_if (slice_get all k)) set ∙ (ap kept_if (set_other between.elements.items at k after differs) ∙ same k));
}

-- an access of an element is noted
pub noted_at : (element : Pointer) (starts : List ℕ) (x : Origin) (old between new : Table) (before after : Row) → ((e : Pointer) → kept_at between e ≡ kept_at old e)
    → element.object < length between.rows.items → before ≡ slice_index_or between.rows.items element.object before
    → new.rows.items ≡ slice_set between.rows.items element.object after → IsNotedIn element.offset starts x before after → IsNotedAt element starts x old new
noted_at element starts x old between new before after same low is set noted = record {
  noted = subst (λ (first : List Origin). IsNoted starts x first (kept_at new element))
      (sym (ap (λ (r : Row). kept_in r element.offset) (sym is))
      ∙ (sym (ap (λ o. kept_in_if o element.offset) (get_there between.rows.items element.object before low)) ∙ same element))
      (subst (λ (last : List Origin). IsNoted starts x (kept_in before element.offset) last)
      (sym (ap (λ (all : List Row). kept_in_if (slice_get all element.object) element.offset) set
      ∙ ap (λ o. kept_in_if o element.offset) (set_here between.rows.items element.object after low))) noted.noted);
  others = λ other differs. by other differs (eqb_tells other.object element.object);
}
  where
    old_row : (other : Pointer) → other.object ≡ element.object → kept_in before other.offset ≡ kept_at between other
    old_row other here =
        ap (λ (r : Row). kept_in r other.offset) is
        ∙ sym (ap (λ (n : ℕ). kept_in_if (slice_get between.rows.items n) other.offset) here
        ∙ ap (λ o. kept_in_if o other.offset) (get_there between.rows.items element.object before low))

    by : (other : Pointer) → other ≢ element
        → ((nat_eq other.object element.object ≡ true) × (other.object ≡ element.object)) ⊎ ((nat_eq other.object element.object ≡ false) × (other.object ≢ element.object))
        → kept_at new other ≡ kept_at old other
    by other differs (inl here) =
        ap (λ (all : List Row). kept_in_if (slice_get all other.object) other.offset) set
        ∙ (ap (λ (n : ℕ). kept_in_if (slice_get (slice_set between.rows.items element.object after) n) other.offset) here.1
        ∙ (ap (λ o. kept_in_if o other.offset) (set_here between.rows.items element.object after low)
        ∙ (noted.others other.offset (λ same_offset. differs (λ i. record { object = here.1 i; offset = same_offset i })) ∙ (old_row other here.1 ∙ same other))))
    by other differs (inr away) =
        ap (λ (all : List Row). kept_in_if (slice_get all other.object) other.offset) set
        ∙ (ap (λ o. kept_in_if o other.offset) (set_other between.rows.items element.object other.object after away.1) ∙ same other)
