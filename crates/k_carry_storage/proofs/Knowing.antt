-- What is kept of elements, and what is gathered, behind the events of an instruction.
use Rattle.std.proofs.Common.{ℕ, zero, suc, ◌≡◌, ◌≢◌, ◌⊎◌, Bool, true, false, List, [], ◌∷◌, ◌++◌, length, Option, Some, None, min, take, refl, sym, subst, ap, inl, inr, ◌∙◌}
use Rattle.std.specs.Prelude.{replicate}
use Rattle.std.proofs.lemmas.List.{append_assoc, append-nil}
use Rattle.k_num.specs.declared.place.Place.{Place}
use Rattle.k_optab.specs.declared.class.Class.{Class}
use Rattle.k_optab.specs.declared.event.Event.{Event}
use Rattle.k_optab.specs.declared.event.Event.TheVariants.{Op, Enter, Exit}
use Rattle.k_optab.specs.declared.event.Src.{Src}
use Rattle.k_optab.specs.declared.region.Region.{Region}
use Rattle.k_optab.specs.Events.{Operation, operations}
use Rattle.k_mem.specs.declared.pointer.Pointer.{Pointer}
use Rattle.k_carry_pairs.specs.declared.origin.Origin.{Origin}
use Rattle.k_carry_pairs.proofs.Events.{left_operations}
use Rattle.k_carry_pairs.proofs.Lists.{get_last}
use Rattle.k_carry_storage_pairs.specs.declared.access.Access.{Access}
use Rattle.k_carry_storage_pairs.specs.Firsts.{IsNoted, listed}
use Rattle.k_carry_storage_pairs.specs.Kept.{Keeps, Kept, Knows, both_left}
use Rattle.k_carry_storage_pairs.specs.Storage.{MakesAccess, access}
use Rattle.k_carry_storage_pairs.proofs.Going.{access_here, knows_on}
use Rattle.k_carry_storage_pairs.proofs.Keeping.{AreFirsts, keeps_entered, keeps_left, keeps_operation}
use Rattle.k_carry_storage_pairs.proofs.Known.{access_is, known_firsts, no_firsts, same_pointer}
use Rattle.k_carry_storage_pairs.proofs.Knowing.{noted_knows, tracked_starts}
use Rattle.k_carry_storage.specs.declared.table.Table.{Table}
use Rattle.k_carry_storage.specs.Noting.{IsAccessed, IsNotedIf, IsStill, all_left, entered_if, starts_in}
use Rattle.k_carry_storage.specs.Running.{KnowsAll}
use Rattle.k_carry_storage.specs.Tables.{kept_at}

-- two accesses of different sorts are not one
other_sort : (v w : Bool) (p q : Pointer) → v ≢ w → Some (access v p) ≡ Some (access w q) → ⊥
other_sort v w p q differs is = differs (ap (λ (a : Access). a.writes) (access_is (access v p) (access w q) is))

false_true : false ≢ true
false_true is = cc is

true_false : true ≢ false
true_false is = cc is

-- what is gathered and what is kept of elements
pub record Stays (regions : List Region) (depth : ℕ) (events : List Event) (accesses : List (Option Access)) (g : Kept) (loads stores : Table) : Type 0 where
  pub keeps : Keeps regions depth events accesses g
  pub knows : KnowsAll depth events accesses loads stores

module _ (regions : List Region) (depth : ℕ) (events : List Event) (accesses : List (Option Access)) (g : Kept) (loads stores : Table)
    (is : Stays regions depth events accesses g loads stores) where
  numbered : length accesses ≡ length (operations events)
  numbered = (let keeps = is.keeps in keeps.numbered)

  same_starts : starts_in g ≡ tracked_starts depth g.starts
  same_starts = (let keeps = is.keeps in ap (λ (d : ℕ). take (min d (length g.starts)) g.starts) keeps.depth_is)

  -- behind an event that is no operation
  knows_quiet : (e : Event) → ((op : Operation) → e ≡ Op op.class op.latency op.sources op.place → ⊥) → KnowsAll depth (events ++ e ∷ []) accesses loads stores
  knows_quiet e no_operation =
      subst (λ (those : List (Option Access)). KnowsAll depth (events ++ e ∷ []) those loads stores) (append-nil accesses) (record {
        of_loads = λ element. knows_on events e accesses [] numbered depth (access false element) (kept_at loads element) (quiet (access false element)) (is.knows.of_loads element);
        of_stores = λ element. knows_on events e accesses [] numbered depth (access true element) (kept_at stores element) (quiet (access true element)) (is.knows.of_stores element);
      })
    where
      quiet : (a : Access) (op : Operation) → MakesAccess (events ++ e ∷ []) (accesses ++ []) (length events) op a → ⊥
      quiet a op made =
          let both : Some e ≡ Some (Op op.class op.latency op.sources op.place) = sym (get_last events e) ∙ made.stands in
          no_operation op (cc both)

  pub entered_stays : (region made : ℕ) → made ≡ length (operations events) → Stays regions depth (events ++ Enter region ∷ []) accesses (entered_if made (Some region) g) loads stores
  entered_stays region made same = record {
    keeps = keeps_entered regions depth events accesses g is.keeps region made same;
    knows = knows_quiet (Enter region) (λ op both. cc both);
  }

  pub left_stays : (made : ℕ) → made ≡ length (operations events) → Stays regions depth (events ++ Exit ∷ []) accesses (both_left made g) loads stores
  left_stays made same = record {
    keeps = keeps_left regions depth events accesses g is.keeps made same;
    knows = knows_quiet Exit (λ op both. cc both);
  }

  -- behind an operation
  module _ (class : Class) (latency : ℕ) (sources : List Src) (place : Place) where
    abbrev behind : List Event
    behind = events ++ Op class latency sources place ∷ []

    abbrev now : Origin
    now = record { number = length (operations events); place = place }

    -- what is known of an access that it does not make
    knows_other : (made : Option Access) (a : Access) (origins : List Origin) → (made ≡ Some a → ⊥) → Knows depth events accesses a origins
        → Knows depth behind (accesses ++ made ∷ []) a origins
    knows_other made a origins differs known =
        knows_on events (Op class latency sources place) accesses (made ∷ []) numbered depth a origins
        (λ op it. differs (access_here events (Op class latency sources place) accesses (made ∷ []) numbered made refl op a it)) known

    keeps_still : (made : Option Access) → ((element : Pointer) → made ≡ Some (access true element) → ⊥) → Keeps regions depth behind (accesses ++ made ∷ []) g
    keeps_still made none =
        keeps_operation regions depth events accesses g is.keeps class latency sources place made [] [] (no_firsts depth events accesses false made none) (no_firsts depth events accesses true made none)

    -- what it shares where it stores to an element
    all_firsts : (writes : Bool) (element : Pointer) (origins : List Origin) → Knows depth events accesses (access writes element) origins
        → AreFirsts writes depth events accesses (Some (access true element)) (listed (starts_in g) origins [])
    all_firsts writes element origins known =
        subst (λ (starts : List ℕ). AreFirsts writes depth events accesses (Some (access true element)) (listed starts origins [])) (sym same_starts)
        (known_firsts depth events accesses g.starts is.keeps.starts writes element origins known)

    -- what is known of the access that it makes, and of the others of its sort
    knows_noted : (writes : Bool) (element other : Pointer) (origins new : List Origin) → Knows depth events accesses (access writes other) origins
        → (other ≡ element → Knows depth behind (accesses ++ Some (access writes other) ∷ []) (access writes other) new) → (other ≢ element → new ≡ origins)
        → Knows depth behind (accesses ++ Some (access writes element) ∷ []) (access writes other) new
    knows_noted writes element other origins new known here there = by (same_pointer other element)
      where
        by : (other ≡ element) ⊎ (other ≢ element) → Knows depth behind (accesses ++ Some (access writes element) ∷ []) (access writes other) new
        by (inl same) =
            subst (λ (p : Pointer). Knows depth behind (accesses ++ Some (access writes p) ∷ []) (access writes other) new) same (here same)
        by (inr differs) =
            subst (λ (list : List Origin). Knows depth behind (accesses ++ Some (access writes element) ∷ []) (access writes other) list) (sym (there differs))
            (knows_other (Some (access writes element)) (access writes other) origins
            (λ same. differs (sym (ap (λ (a : Access). a.element) (access_is (access writes element) (access writes other) same)))) known)

    abbrev After : Option Access → Kept → Table → Table → Type 0
    After made g' loads' stores' = Stays regions depth behind (accesses ++ made ∷ []) g' loads' stores'

    -- it loads an element
    load_stays : (element : Pointer) (g' : Kept) (loads' stores' : Table) → IsAccessed false element now g g' loads loads' stores stores'
        → After (Some (access false element)) g' loads' stores'
    load_stays element g' loads' stores' it = record {
      keeps = subst (λ (x : Kept). Keeps regions depth behind (accesses ++ Some (access false element) ∷ []) x) (sym it.gathering)
          (keeps_still (Some (access false element)) (λ other. other_sort false true element other false_true));
      knows = record {
        of_loads = λ other. knows_noted false element other (kept_at loads other) (kept_at loads' other) (is.knows.of_loads other) (λ same. here other same)
            (λ differs. it.noted.others other differs);
        of_stores = λ other. subst (λ (t : Table). Knows depth behind (accesses ++ Some (access false element) ∷ []) (access true other) (kept_at t other)) (sym it.stores_are)
            (knows_other (Some (access false element)) (access true other) (kept_at stores other) (other_sort false true element other false_true) (is.knows.of_stores other));
      };
    }
      where
        here : (other : Pointer) → other ≡ element → Knows depth behind (accesses ++ Some (access false other) ∷ []) (access false other) (kept_at loads' other)
        here other same =
            subst (λ (p : Pointer). Knows depth behind (accesses ++ Some (access false p) ∷ []) (access false p) (kept_at loads' p)) (sym same)
            (noted_knows depth events accesses (access false element) (kept_at loads element) g.starts is.keeps.starts (is.knows.of_loads element) class latency sources place
            numbered (kept_at loads' element)
            (subst (λ (starts : List ℕ). IsNoted starts now (kept_at loads element) (kept_at loads' element)) same_starts it.noted.noted))

    -- it stores to an element
    store_stays : (element : Pointer) (g' : Kept) (loads' stores' : Table) → IsAccessed true element now g g' loads loads' stores stores'
        → After (Some (access true element)) g' loads' stores'
    store_stays element g' loads' stores' it = record {
      keeps = subst (λ (x : Kept). Keeps regions depth behind (accesses ++ Some (access true element) ∷ []) x) (sym it.gathering)
          (keeps_operation regions depth events accesses g is.keeps class latency sources place (Some (access true element)) (listed (starts_in g) (kept_at loads element) [])
          (listed (starts_in g) (kept_at stores element) []) (all_firsts false element (kept_at loads element) (is.knows.of_loads element))
          (all_firsts true element (kept_at stores element) (is.knows.of_stores element)));
      knows = record {
        of_stores = λ other. knows_noted true element other (kept_at stores other) (kept_at stores' other) (is.knows.of_stores other) (λ same. here other same)
            (λ differs. it.noted.others other differs);
        of_loads = λ other. subst (λ (t : Table). Knows depth behind (accesses ++ Some (access true element) ∷ []) (access false other) (kept_at t other)) (sym it.loads_are)
            (knows_other (Some (access true element)) (access false other) (kept_at loads other) (other_sort true false element other true_false) (is.knows.of_loads other));
      };
    }
      where
        here : (other : Pointer) → other ≡ element → Knows depth behind (accesses ++ Some (access true other) ∷ []) (access true other) (kept_at stores' other)
        here other same =
            subst (λ (p : Pointer). Knows depth behind (accesses ++ Some (access true p) ∷ []) (access true p) (kept_at stores' p)) (sym same)
            (noted_knows depth events accesses (access true element) (kept_at stores element) g.starts is.keeps.starts (is.knows.of_stores element) class latency sources place
            numbered (kept_at stores' element)
            (subst (λ (starts : List ℕ). IsNoted starts now (kept_at stores element) (kept_at stores' element)) same_starts it.noted.noted))

    -- it makes no access
    other_stays : (g' : Kept) (loads' stores' : Table) → IsStill g g' loads loads' stores stores' → After None g' loads' stores'
    other_stays g' loads' stores' it = record {
      keeps = subst (λ (x : Kept). Keeps regions depth behind (accesses ++ None ∷ []) x) (sym it.gathering) (keeps_still None (λ other is_some. none_some other is_some));
      knows = record {
        of_loads = λ other. subst (λ (t : Table). Knows depth behind (accesses ++ None ∷ []) (access false other) (kept_at t other)) (sym it.loads_are)
            (knows_other None (access false other) (kept_at loads other) (none_is (access false other)) (is.knows.of_loads other));
        of_stores = λ other. subst (λ (t : Table). Knows depth behind (accesses ++ None ∷ []) (access true other) (kept_at t other)) (sym it.stores_are)
            (knows_other None (access true other) (kept_at stores other) (none_is (access true other)) (is.knows.of_stores other));
      };
    }
      where
        none_is : (a : Access) → None ≡ Some a → ⊥
        none_is a both = cc both

        none_some : (other : Pointer) → None ≡ Some (access true other) → ⊥
        none_some other both = cc both

    pub operation_stays : (made : Option Access) (g' : Kept) (loads' stores' : Table) → IsNotedIf made now g g' loads loads' stores stores' → After made g' loads' stores'
    operation_stays None g' loads' stores' it = other_stays g' loads' stores' it
    operation_stays (Some a) g' loads' stores' it = by a.writes it
      where
        by : (w : Bool) → IsAccessed w a.element now g g' loads loads' stores stores' → After (Some (access w a.element)) g' loads' stores'
        by false it = load_stays a.element g' loads' stores' it
        by true it = store_stays a.element g' loads' stores' it

-- so many instances are left
pub all_left_stays : (regions : List Region) (depth : ℕ) (events : List Event) (accesses : List (Option Access)) (loads stores : Table) (made n : ℕ) (g : Kept)
    → made ≡ length (operations events) → Stays regions depth events accesses g loads stores
    → Stays regions depth (events ++ replicate n Exit) accesses (all_left made n g) loads stores
all_left_stays regions depth events accesses loads stores made zero g same is =
    subst (λ (es : List Event). Stays regions depth es accesses g loads stores) (sym (append-nil events)) is
all_left_stays regions depth events accesses loads stores made (suc n) g same is =
    subst (λ (es : List Event). Stays regions depth es accesses (all_left made n (both_left made g)) loads stores) (append_assoc events (Exit ∷ []) (replicate n Exit))
    (all_left_stays regions depth (events ++ Exit ∷ []) accesses loads stores made n (both_left made g)
    (same ∙ sym (ap (λ (ops : List Operation). length ops) (left_operations events))) (left_stays regions depth events accesses g loads stores is made same))
