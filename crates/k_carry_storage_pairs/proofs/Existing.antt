-- The turns of the loops of any events share some storage, whatever accesses their operations make: what is gathered event by event.
use Rattle.std.proofs.Common.{ℕ, ◌≡◌, ◌≢◌, ◌⊎◌, ◌<◌, ◌+◌, ◌++◌, Bool, true, false, List, [], ◌∷◌, length, Option, Some, None, slice_get, arith, refl, sym, subst, ap, ◌∙◌, inl, inr}
use Rattle.std.proofs.lemmas.Bool.{cases_lt}
use Rattle.std.proofs.lemmas.List.{append-nil, append_assoc, length_push}
use Rattle.std.proofs.lemmas.Option.{none-some, same_Some, slice_get_within}
use Rattle.k_num.specs.declared.place.Place.{Place}
use Rattle.k_optab.specs.declared.class.Class.{Class}
use Rattle.k_optab.specs.declared.event.Event.{Event}
use Rattle.k_optab.specs.declared.event.Event.TheVariants.{Op, Enter, Exit}
use Rattle.k_optab.specs.declared.event.Src.{Src}
use Rattle.k_optab.specs.declared.region.Region.{Region}
use Rattle.k_optab.specs.Events.{Operation, made_before, operations}
use Rattle.k_optab.specs.Open.{Open}
use Rattle.k_carry_pairs.specs.declared.origin.Origin.{Origin}
use Rattle.k_carry_pairs.proofs.Events.{numbered_below}
use Rattle.k_carry_pairs.proofs.Lists.{get_front, get_last}
use Rattle.k_carry_storage_pairs.specs.declared.access.Access.{Access}
use Rattle.k_carry_storage_pairs.specs.declared.pairs.LoopStorage.{LoopStorage}
use Rattle.k_carry_storage_pairs.specs.declared.pairs.Shared.{Shared}
use Rattle.k_carry_storage_pairs.specs.Firsts.{listed}
use Rattle.k_carry_storage_pairs.specs.Kept.{Keeps, Kept, Knows, both_entered, both_left, both_shared, none_shared, storage_of}
use Rattle.k_carry_storage_pairs.specs.Storage.{AreShared, IsFirst, IsStorageOf, MakesAccess, Shares, access}
use Rattle.k_carry_storage_pairs.proofs.Going.{access_here, knows_on}
use Rattle.k_carry_storage_pairs.proofs.Keeping.{AreFirsts, keeps_entered, keeps_left, keeps_nothing, keeps_operation, storage_is_shared}
use Rattle.k_carry_storage_pairs.proofs.Knowing.{noted_knows, tracked_starts}
use Rattle.k_carry_storage_pairs.proofs.Known.{known_firsts, no_firsts, same_pointer}
use Rattle.k_carry_storage_pairs.specs.Laws.{SomeAnswer}

-- the access that an operation of this number makes, if it makes one
abbrev one_of : Option (Option Access) → Option Access
one_of None = None
one_of (Some made) = made

one_some : (o : Option (Option Access)) (a : Access) → one_of o ≡ Some a → o ≡ Some (Some a)
one_some None a is = absurd (none-some a is)
one_some (Some made) a is = ap (λ (m : Option Access). Some m) is

-- two accesses are one, or are not
same_way : (v w : Bool) → (v ≡ w) ⊎ (v ≢ w)
same_way false false = inl refl
same_way false true = inr (λ is. cc is)
same_way true false = inr (λ is. cc is)
same_way true true = inl refl

same_access : (a b : Access) → (a ≡ b) ⊎ (a ≢ b)
same_access a b = by (same_way a.writes b.writes) (same_pointer a.element b.element)
  where
    by : (a.writes ≡ b.writes) ⊎ (a.writes ≢ b.writes) → (a.element ≡ b.element) ⊎ (a.element ≢ b.element) → (a ≡ b) ⊎ (a ≢ b)
    by (inl one) (inl two) = inl (λ i. record { writes = one i; element = two i })
    by (inl one) (inr two) = inr (λ same. two (ap (λ (x : Access). x.element) same))
    by (inr one) two = inr (λ same. one (ap (λ (x : Access). x.writes) same))

same_made : (made : Option Access) (a : Access) → (made ≡ Some a) ⊎ (made ≢ Some a)
same_made None a = inr (λ is. none-some a is)
same_made (Some b) a = elim (same_access b a) [ inl same ↦ inl (ap (λ (x : Access). Some x) same) | inr other ↦ inr (λ is. other (same_Some b a is)) ]

-- an operation makes this access of an element
is_access : (a : Access) (w : Bool) → a.writes ≡ w → a ≡ access w a.element
is_access a w is = λ i. record { writes = is i; element = a.element }

module _ (regions : List Region) (depth : ℕ) (accesses : List (Option Access)) where
  -- what is gathered of events, whose operations make the first of the accesses, and what is known of each access
  record Known (events : List Event) : Type 0 where
    so : List (Option Access)
    g : Kept
    keeps : Keeps regions depth events so g
    knows : (a : Access) → (origins : List Origin) × Knows depth events so a origins
    same : (n : ℕ) → n < length so → slice_get so n ≡ Some (one_of (slice_get accesses n))

  module _ (events : List Event) (k : Known events) where
    numbered : length k.so ≡ length (operations events)
    numbered = (let keeps = k.keeps in keeps.numbered)

    -- behind an event that is no operation
    quiet : (e : Event) → ((op : Operation) → e ≡ Op op.class op.latency op.sources op.place → ⊥) → (a : Access)
        → (origins : List Origin) × Knows depth (events ++ e ∷ []) k.so a origins
    quiet e no_operation a =
        let known = k.knows a in (
          known.0,
          subst (λ (those : List (Option Access)). Knows depth (events ++ e ∷ []) those a known.0) (append-nil k.so)
              (knows_on events e k.so [] numbered depth a known.0 (λ op made. no_operation op (let both : Some e ≡ Some (Op op.class op.latency op.sources op.place) =
              sym (get_last events e) ∙ made.stands in cc both)) known.1),
        )

    -- behind an operation
    module _ (class : Class) (latency : ℕ) (sources : List Src) (place : Place) where
      abbrev made : Option Access
      made = one_of (slice_get accesses (length k.so))

      abbrev behind : List Event
      behind = events ++ Op class latency sources place ∷ []

      noted : (a : Access) (origins : List Origin) → Knows depth events k.so a origins → (made ≡ Some a) ⊎ (made ≢ Some a)
          → (new : List Origin) × Knows depth behind (k.so ++ made ∷ []) a new
      noted a origins known (inl is) =
          let new : List Origin = listed (tracked_starts depth k.g.starts) origins [] ++ record { number = length (operations events); place = place } ∷ [] in (
            new,
            subst (λ (m : Option Access). Knows depth behind (k.so ++ m ∷ []) a new) (sym is)
                (noted_knows depth events k.so a origins k.g.starts k.keeps.starts known class latency sources place numbered new (inr refl)),
          )
      noted a origins known (inr other) = (
        origins,
        knows_on events (Op class latency sources place) k.so (made ∷ []) numbered depth a origins
            (λ op it. other (access_here events (Op class latency sources place) k.so (made ∷ []) numbered made refl op a it)) known,
      )

      -- what it shares an element with
      firsts : (writes : Bool) (m : Option Access) → (origins : List Origin) × AreFirsts writes depth events k.so m origins
      firsts writes None = ([], no_firsts depth events k.so writes None (λ element is. none-some (access true element) is))
      firsts writes (Some a) = by a.writes refl
        where
          by : (w : Bool) → a.writes ≡ w → (origins : List Origin) × AreFirsts writes depth events k.so (Some a) origins
          by false loads = (
            [],
            no_firsts depth events k.so writes (Some a) (λ element is. (let wrong : false ≡ true =
                sym loads ∙ ap (λ (x : Access). x.writes) (same_Some a (access true element) is) in cc wrong)),
          )
          by true stores =
              let known = k.knows (access writes a.element) in (
                listed (tracked_starts depth k.g.starts) known.0 [],
                subst (λ (x : Access). AreFirsts writes depth events k.so (Some x) (listed (tracked_starts depth k.g.starts) known.0 [])) (sym (is_access a true stores))
                    (known_firsts depth events k.so k.g.starts k.keeps.starts writes a.element known.0 known.1),
              )

      same_on : (n : ℕ) → n < length (k.so ++ made ∷ []) → slice_get (k.so ++ made ∷ []) n ≡ Some (one_of (slice_get accesses n))
      same_on n low = elim (cases_lt n (length k.so)) [
        | inl before ↦ get_front n k.so (made ∷ []) before ∙ k.same n before
        | inr high ↦
            (let long : length (k.so ++ made ∷ []) ≡ length k.so + 1 = length_push k.so made in
            let here : length k.so ≡ n = omega (arith, low, long, high) in
            subst (λ (m : ℕ). slice_get (k.so ++ made ∷ []) m ≡ Some (one_of (slice_get accesses m))) here (get_last k.so made))
      ]

      known_operation : Known behind
      known_operation =
          let loads = firsts false made in
          let stores = firsts true made in
          record {
            so = k.so ++ made ∷ [];
            g = both_shared loads.0 stores.0 place k.g;
            keeps = keeps_operation regions depth events k.so k.g k.keeps class latency sources place made loads.0 stores.0 loads.1 stores.1;
            knows = λ a. (let known = k.knows a in noted a known.0 known.1 (same_made made a));
            same = same_on;
          }

    known_behind : (e : Event) → Known (events ++ e ∷ [])
    known_behind (Op class latency sources place) = known_operation class latency sources place
    known_behind (Enter region) = record {
      so = k.so;
      g = both_entered region (length (operations events)) k.g;
      keeps = keeps_entered regions depth events k.so k.g k.keeps region (length (operations events)) refl;
      knows = quiet (Enter region) (λ op both. cc both);
      same = k.same;
    }
    known_behind Exit = record {
      so = k.so;
      g = both_left (length (operations events)) k.g;
      keeps = keeps_left regions depth events k.so k.g k.keeps (length (operations events)) refl;
      knows = quiet Exit (λ op both. cc both);
      same = k.same;
    }

  known_on : (events more : List Event) → Known events → Known (events ++ more)
  known_on events [] k = subst Known (sym (append-nil events)) k
  known_on events (e ∷ more) k = subst Known (append_assoc events (e ∷ []) more) (known_on (events ++ e ∷ []) more (known_behind events k e))

  none_known : Known []
  none_known = record {
    so = [];
    g = none_shared regions depth;
    keeps = keeps_nothing regions depth;
    knows = λ a. ([], record { sound = λ x among. absurd among; complete = λ o at op alive shallow lies made first. absurd (cc made.stands) });
    same = λ n low. absurd (omega (arith, low));
  }

  known : (events : List Event) → Known events
  known events = known_on [] events none_known

  -- the operations make the same accesses
  module _ (events : List Event) (k : Known events) where
    made_too : (at : ℕ) (op : Operation) (a : Access) → MakesAccess events k.so at op a → MakesAccess events accesses at op a
    made_too at op a is =
        let low : made_before at events < length k.so = slice_get_within k.so (made_before at events) (Some a) is.accessed in
        record {
          stands = is.stands;
          accessed = one_some (slice_get accesses (made_before at events)) a
              (same_Some (one_of (slice_get accesses (made_before at events))) (Some a) (sym (k.same (made_before at events) low) ∙ is.accessed));
        }

    made_so : (at : ℕ) (op : Operation) (a : Access) → MakesAccess events accesses at op a → MakesAccess events k.so at op a
    made_so at op a is =
        let few : made_before at events < length (operations events) = numbered_below events at op is.stands in
        let long : length k.so ≡ length (operations events) = numbered events k in
        record {
          stands = is.stands;
          accessed = k.same (made_before at events) (omega (arith, few, long)) ∙ ap (λ (o : Option (Option Access)). Some (one_of o)) is.accessed;
        }

    first_too : (o : Open) (at : ℕ) (a : Access) → IsFirst events k.so o at a → IsFirst events accesses o at a
    first_too o at a first i op before lies made = first i op before lies (made_so i op a made)

    first_so : (o : Open) (at : ℕ) (a : Access) → IsFirst events accesses o at a → IsFirst events k.so o at a
    first_so o at a first i op before lies made = first i op before lies (made_too i op a made)

    shares_too : (o : Open) (s : Shared) → Shares events k.so o s → Shares events accesses o s
    shares_too o s is = record {
      j = is.j;
      k = is.k;
      earlier = is.earlier;
      later = is.later;
      writes = is.writes;
      element = is.element;
      made = made_too is.j is.earlier (access is.writes is.element) is.made;
      stores = made_too is.k is.later (access true is.element) is.stores;
      begins_in = is.begins_in;
      ends_in = is.ends_in;
      before = is.before;
      first = first_too o is.j (access is.writes is.element) is.first;
      turns = is.turns;
      kind = is.kind;
      from = is.from;
      to = is.to;
    }

    shares_so : (o : Open) (s : Shared) → Shares events accesses o s → Shares events k.so o s
    shares_so o s is = record {
      j = is.j;
      k = is.k;
      earlier = is.earlier;
      later = is.later;
      writes = is.writes;
      element = is.element;
      made = made_so is.j is.earlier (access is.writes is.element) is.made;
      stores = made_so is.k is.later (access true is.element) is.stores;
      begins_in = is.begins_in;
      ends_in = is.ends_in;
      before = is.before;
      first = first_so o is.j (access is.writes is.element) is.first;
      turns = is.turns;
      kind = is.kind;
      from = is.from;
      to = is.to;
    }

    storage_too : (l : LoopStorage) → IsStorageOf regions depth events k.so l → IsStorageOf regions depth events accesses l
    storage_too l is = record {
      is_loop = is.is_loop;
      tracked = is.tracked;
      sorted = is.sorted;
      sound = λ s among. (let shared = is.sound s among in (shared.0, shared.1, shares_too shared.0 s shared.2));
      complete = λ s shared. is.complete s (shared.0, shared.1, shares_so shared.0 s shared.2);
    }

    shared_too : (loops : List LoopStorage) → AreShared regions depth events k.so loops → AreShared regions depth events accesses loops
    shared_too loops is = record {
      sorted = is.sorted;
      sound = λ l among. storage_too l (is.sound l among);
      complete = is.complete;
    }

pub some_answer : SomeAnswer
some_answer regions depth events accesses =
    let k : Known regions depth accesses events = known regions depth accesses events in
    (storage_of k.g, shared_too regions depth accesses events k (storage_of k.g) (storage_is_shared regions depth events k.so k.g k.keeps))
