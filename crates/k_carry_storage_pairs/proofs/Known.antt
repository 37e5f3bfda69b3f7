-- What an operation shares an element with, by what is known of the accesses of the element.
use Rattle.std.proofs.Common.{ℕ, ◌≡◌, ◌≢◌, ◌⊎◌, nat_eq, Bool, true, false, List, [], map, Option, Some, refl, sym, subst, ap, inl, inr}
use Rattle.std.proofs.lemmas.Bool.Decides.{eqb_tells}
use Rattle.k_optab.specs.declared.event.Event.{Event}
use Rattle.k_optab.specs.Open.{Open, open_after}
use Rattle.k_mem.specs.declared.pointer.Pointer.{Pointer}
use Rattle.k_carry_pairs.specs.declared.origin.Origin.{Origin}
use Rattle.k_carry_storage_pairs.specs.declared.access.Access.{Access}
use Rattle.k_carry_storage_pairs.specs.Firsts.{listed}
use Rattle.k_carry_storage_pairs.specs.Kept.{Knows}
use Rattle.k_carry_storage_pairs.specs.Storage.{MakesAccess, access}
use Rattle.k_carry_storage_pairs.proofs.Keeping.{AreFirsts}
use Rattle.k_carry_storage_pairs.proofs.Knowing.{first_listed, listed_first, tracked_starts}

-- two elements are one, or are not
pub same_pointer : (p q : Pointer) → (p ≡ q) ⊎ (p ≢ q)
same_pointer p q = by (eqb_tells p.object q.object) (eqb_tells p.offset q.offset)
  where
    by : ((nat_eq p.object q.object ≡ true) × (p.object ≡ q.object)) ⊎ ((nat_eq p.object q.object ≡ false) × (p.object ≢ q.object))
        → ((nat_eq p.offset q.offset ≡ true) × (p.offset ≡ q.offset)) ⊎ ((nat_eq p.offset q.offset ≡ false) × (p.offset ≢ q.offset)) → (p ≡ q) ⊎ (p ≢ q)
    by (inl one) (inl two) = inl (λ i. record { object = one.1 i; offset = two.1 i })
    by (inl one) (inr two) = inr (λ same. two.1 (ap (λ (r : Pointer). r.offset) same))
    by (inr one) two = inr (λ same. one.1 (ap (λ (r : Pointer). r.object) same))

-- the accesses of one instruction, if its operation was made
pub access_is : (a b : Access) → Some a ≡ Some b → a ≡ b
access_is a b is = cc is

module _ (depth : ℕ) (events : List Event) (accesses : List (Option Access)) where
  -- an operation shares nothing where it does not store
  pub no_firsts : (writes : Bool) (made : Option Access) → ((element : Pointer) → made ≡ Some (access true element) → ⊥) → AreFirsts writes depth events accesses made []
  no_firsts writes made none = record {
    sound = λ x among. absurd among;
    complete = λ element o at op stores_is alive shallow lies makes first. absurd (none element stores_is);
  }

  -- what it shares where it stores to an element of which this is known
  pub known_firsts : (starts : List ℕ) → starts ≡ map (λ (o : Open). o.start) (open_after events) → (writes : Bool) (element : Pointer) (origins : List Origin)
      → Knows depth events accesses (access writes element) origins
      → AreFirsts writes depth events accesses (Some (access true element)) (listed (tracked_starts depth starts) origins [])
  known_firsts starts starts_are writes element origins known = record {
    sound = λ x among.
        (let found = listed_first depth events accesses (access writes element) origins starts starts_are known x among in
        record {
          element = element;
          stores = refl;
          at = found.of.at;
          op = found.of.op;
          made = found.of.made;
          number = found.of.number;
          place = found.of.place;
          o = found.o;
          alive = found.alive;
          lies = found.lies;
          first = found.first;
        });
    complete = λ other o at op stores_is alive shallow lies makes first.
        (let same : other ≡ element = sym (ap (λ (a : Access). a.element) (access_is (access true element) (access true other) stores_is)) in
        first_listed depth events accesses (access writes element) origins starts starts_are known o at op alive shallow lies
        (subst (λ (p : Pointer). MakesAccess events accesses at op (access writes p)) same makes)
        (λ i x before within made. first i x before within (subst (λ (p : Pointer). MakesAccess events accesses i x (access writes p)) (sym same) made)));
  }
