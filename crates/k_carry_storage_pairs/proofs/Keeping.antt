-- What is gathered is that of the events behind each event.
use Rattle.std.proofs.Common.{ℕ, ◌≡◌, ◌+◌, ◌-◌, ◌<◌, Bool, true, false, List, [], ◌∷◌, ◌++◌, length, map, take, Some, arith, refl, sym, subst, ap, inl, inr, ◌∙◌}
use Rattle.std.specs.Prelude.{Option, nat_lt, ◌&&◌, if◌then◌else◌}
use Rattle.std.proofs.lemmas.List.{append-nil, length-map, length_push}
use Rattle.std.proofs.lemmas.Option.{slice_get_within}
use Rattle.k_num.specs.declared.place.Place.{Place}
use Rattle.k_optab.specs.declared.class.Class.{Class}
use Rattle.k_optab.specs.declared.event.Event.{Event}
use Rattle.k_optab.specs.declared.event.Event.TheVariants.{Op, Enter, Exit}
use Rattle.k_optab.specs.declared.event.Src.{Src}
use Rattle.k_optab.specs.declared.region.Region.{Region}
use Rattle.k_optab.specs.Events.{ListsUnbroken, Operation, made_before, operations}
use Rattle.k_optab.specs.Open.{Open, open_after}
use Rattle.k_optab.specs.OpenLaws.{next_open}
use Rattle.k_optab.proofs.Leaving.{exits_close_the_last}
use Rattle.k_optab.proofs.Opening.{enters_open, idle_exits_keep, operations_keep}
use Rattle.k_mem.specs.declared.pointer.Pointer.{Pointer}
use Rattle.k_carry_pairs.specs.declared.origin.Origin.{Origin}
use Rattle.k_carry_pairs.specs.Carried.{AreCarried, IsAmong, LiesIn, StandsAt, is_loop_at}
use Rattle.k_carry_pairs.specs.Gathered.{AreOrigins, Gathered, Gathers, depended_all, entered, left, left_of, loop_entered, loops_from, nothing}
use Rattle.k_carry_pairs.proofs.Behind.{entered_gathers, left_gathers, nothing_gathers, operation_gathers}
use Rattle.k_carry_pairs.proofs.Events.{entered_operations, left_operations, lies_less, lies_more, made_operations, made_same, stands}
use Rattle.k_carry_pairs.proofs.Telling.{loops_are_carried}
use Rattle.k_carry_pairs.proofs.Turning.{lies_last, stands_next}
use Rattle.k_carry_pairs.proofs.Lists.{get_last, last_or_none, take_front, take_whole}
use Rattle.k_carry_storage_pairs.specs.declared.access.Access.{Access}
use Rattle.k_carry_storage_pairs.specs.Kept.{Follows, IsAlike, IsListed, Keeps, Kept, Relists, both_entered, both_left, both_shared, none_shared, storage_of}
use Rattle.k_carry_storage_pairs.specs.Storage.{AreShared, IsFirst, MakesAccess, access}
use Rattle.k_carry_storage_pairs.proofs.Alike.{made_alike, same_places, stands_as}
use Rattle.k_carry_storage_pairs.proofs.Deeper.{entered_deep, left_deep, nothing_deep, operation_deep}
use Rattle.k_carry_storage_pairs.proofs.Going.{access_here, alike_next, first_back, first_on, last_access, listed_back, listed_on, makes_back, makes_on}
use Rattle.k_carry_storage_pairs.proofs.Joined.{joined_are_shared}
use Rattle.k_carry_storage_pairs.proofs.Within.{one_place}

map_push : {X Y : Type 0} (f : X → Y) (xs : List X) (x : X) → map f (xs ++ x ∷ []) ≡ map f xs ++ f x ∷ []
map_push f [] x = refl
map_push {Y = Y} f (y ∷ xs) x = ap (λ (all : List Y). f y ∷ all) (map_push f xs x)

-- all but the last
taken_front : {X Y : Type 0} (f : X → Y) (front : List X) (last : X) → take (length (map f (front ++ last ∷ [])) - 1) (map f (front ++ last ∷ [])) ≡ map f front
taken_front {Y = Y} f front last =
    let all : map f (front ++ last ∷ []) ≡ map f front ++ f last ∷ [] = map_push f front last in
    let long : length (map f front ++ f last ∷ []) ≡ length (map f front) + 1 = length_push (map f front) (f last) in
    let count : length (map f front ++ f last ∷ []) - 1 ≡ length (map f front) = omega (arith, long) in
    ap (λ (ys : List Y). take (length ys - 1) ys) all
    ∙ (ap (λ (n : ℕ). take n (map f front ++ f last ∷ [])) count
    ∙ (take_front (length (map f front)) (map f front) (f last ∷ []) (omega arith) ∙ take_whole (length (map f front)) (map f front) (omega arith)))

-- what an operation lists that shares an element with these
abbrev sources_of : List Origin → List Src
sources_of origins = map (λ (x : Origin). record { number = x.number; broken = false }) origins

source_listed : (origins : List Origin) (n : ℕ) → ListsUnbroken (sources_of origins) n → (x : Origin) × (IsAmong x origins × (x.number ≡ n))
source_listed [] n is = absurd is
source_listed (x ∷ origins) n (inl here) = (x, (inl refl, here.0))
source_listed (x ∷ origins) n (inr later) = (let rest = source_listed origins n later in (rest.0, (inr rest.1.0, rest.1.1)))

listed_source : (origins : List Origin) (x : Origin) → IsAmong x origins → ListsUnbroken (sources_of origins) x.number
listed_source [] x is = absurd is
listed_source (y ∷ origins) x (inl here) = inl (ap (λ (z : Origin). z.number) here, refl)
listed_source (y ∷ origins) x (inr later) = inr (listed_source origins x later)

-- an access that an operation behind these events shares its element with, by its first operation of an open instance
pub record IsFirstOf (writes : Bool) (events : List Event) (accesses : List (Option Access)) (access_is : Option Access) (x : Origin) : Type 0 where
  pub element : Pointer
  pub stores : access_is ≡ Some (access true element)
  pub at : ℕ
  pub op : Operation
  pub made : MakesAccess events accesses at op (access writes element)
  pub number : made_before at events ≡ x.number
  pub place : op.place ≡ x.place
  pub o : Open
  pub alive : IsAmong o (open_after events)
  pub lies : LiesIn events at o
  pub first : IsFirst events accesses o at (access writes element)

-- these are all of them
pub record AreFirsts (writes : Bool) (depth : ℕ) (events : List Event) (accesses : List (Option Access)) (access_is : Option Access) (origins : List Origin) : Type 0 where
  pub sound : (x : Origin) → IsAmong x origins → IsFirstOf writes events accesses access_is x
  pub complete : (element : Pointer) (o : Open) (at : ℕ) (op : Operation) → access_is ≡ Some (access true element) → IsAmong o (open_after events) → o.depth < depth
      → LiesIn events at o → MakesAccess events accesses at op (access writes element) → IsFirst events accesses o at (access writes element)
      → (x : Origin) × (IsAmong x origins × (x.number ≡ made_before at events))

module _ (writes : Bool) (regions : List Region) (depth : ℕ) (events : List Event) (accesses : List (Option Access)) (g : Gathered)
    (numbered_are : length accesses ≡ length (operations events)) (is : Follows writes regions depth events accesses g) where
  -- behind an operation that makes this access
  module _ (class : Class) (latency : ℕ) (sources : List Src) (place : Place) (made : Option Access) (origins : List Origin)
      (firsts : AreFirsts writes depth events accesses made origins) where
    abbrev done : Event
    done = Op class latency sources place

    abbrev relisted : Event
    relisted = Op class latency (sources_of origins) place

    abbrev behind : List Event
    behind = events ++ done ∷ []

    abbrev all : List (Option Access)
    all = accesses ++ made ∷ []

    long : length is.others ≡ length events
    long = is.relists.alike.long

    -- what is listed has its place
    origins_are : AreOrigins is.others (sources_of origins) origins
    origins_are = record {
      listed = λ x among. listed_source origins x among;
      placed = λ x op among found.
          (let of = firsts.sound x among in
          let stood = stands is.others x.number op found in
          let there = stands_as events is.others is.relists.alike stood.0 op stood.1.0 in
          let low : stood.0 < length is.others = slice_get_within is.others stood.0 (Op op.class op.latency op.sources op.place) stood.1.0 in
          let same : of.at ≡ stood.0 =
          one_place events of.at stood.0 of.op there.0 of.made.stands there.1.0
          (of.number ∙ (sym stood.1.1 ∙ made_alike events is.others is.relists.alike stood.0 (omega (arith, low, long)))) in
          sym there.1.1
          ∙ (same_places events stood.0 there.0 of.op there.1.0 (subst (λ (n : ℕ). StandsAt events n of.op) same of.made.stands) ∙ of.place));
      all = λ j listed. (let x = source_listed origins j listed in (x.0, x.1.0, x.1.1));
    }

    -- the new operation makes its access
    here_is : (element : Pointer) → made ≡ Some (access true element)
        → MakesAccess behind all (length events) (record { class = class; latency = latency; sources = sources; place = place }) (access true element)
    here_is element stores = record {
      stands = get_last events done;
      accessed = last_access events done accesses (made ∷ []) numbered_are made refl ∙ ap (λ (m : Option Access). Some m) stores;
    }

    new_listed : (n : ℕ) → (x : Origin) × (IsAmong x origins × (x.number ≡ n)) → IsListed writes behind all (length events) n
    new_listed n x =
        let of = firsts.sound x.0 x.1.0 in
        let low : of.at < length events = slice_get_within events of.at (Op of.op.class of.op.latency of.op.sources of.op.place) of.made.stands in
        record {
          at = of.at;
          earlier = of.op;
          later = record { class = class; latency = latency; sources = sources; place = place };
          element = of.element;
          o = of.o;
          number = made_same events (done ∷ []) of.at (omega (arith, low)) ∙ (of.number ∙ x.1.1);
          before = low;
          made = makes_on events done accesses (made ∷ []) numbered_are of.at of.op (access writes of.element) of.made;
          stores = here_is of.element of.stores;
          begins_in = lies_more events (done ∷ []) of.at of.o (omega (arith, low)) of.lies;
          ends_in = lies_last events done of.o of.alive;
          first = first_on events done accesses (made ∷ []) numbered_are of.o of.at (access writes of.element) (omega (arith, low)) of.first;
        }

    listed_new : (n : ℕ) (l : IsListed writes behind all (length events) n) → l.o.depth < depth → ListsUnbroken (sources_of origins) n
    listed_new n l shallow =
        let low : l.at < length events = l.before in
        let alive : IsAmong l.o (open_after events) =
        subst (λ (es : List Event). IsAmong l.o (open_after es)) (take_whole (length events) events (omega arith))
        (lies_less events (done ∷ []) (length events) l.o (omega arith) l.ends_in) in
        let x =
        firsts.complete l.element l.o l.at l.earlier (access_here events done accesses (made ∷ []) numbered_are made refl l.later (access true l.element) l.stores) alive shallow
        (lies_less events (done ∷ []) l.at l.o (omega (arith, low)) l.begins_in)
        (makes_back events done accesses (made ∷ []) numbered_are l.at l.earlier (access writes l.element) low l.made)
        (first_back events done accesses (made ∷ []) numbered_are l.o l.at (access writes l.element) (omega (arith, low)) l.first) in
        subst (λ (m : ℕ). ListsUnbroken (sources_of origins) m) (x.1.1 ∙ (sym (made_same events (done ∷ []) l.at (omega (arith, low))) ∙ l.number))
        (listed_source origins x.0 x.1.0)

    sources_are : (op : Operation) → relisted ≡ Op op.class op.latency op.sources op.place → sources_of origins ≡ op.sources
    sources_are op same = cc same

    relists_next : Relists writes depth behind all (is.others ++ relisted ∷ [])
    relists_next = record {
      alike = alike_next events is.others done relisted is.relists.alike (sources_of origins, refl);
      sound = λ k n op stood lists. elim (stands_next is.others relisted k op stood) [
        | inl old ↦ listed_on events done accesses (made ∷ []) numbered_are writes k n (is.relists.sound k n op old.1 lists)
        | inr last ↦ subst (λ (m : ℕ). IsListed writes behind all m n) (sym (last.0 ∙ long))
            (new_listed n (source_listed origins n (subst (λ (listed : List Src). ListsUnbroken listed n) (sym (sources_are op last.1)) lists)))
      ];
      complete = λ k n op l shallow stood. elim (stands_next is.others relisted k op stood) [
        | inl old ↦
            (let low : k < length is.others = old.0 in
            let before = listed_back events done accesses (made ∷ []) numbered_are writes k n (omega (arith, low, long)) l in
            is.relists.complete k n op before.0 (subst (λ (o : Open). o.depth < depth) (sym before.1) shallow) old.1)
        | inr last ↦ subst (λ (listed : List Src). ListsUnbroken listed n) (sources_are op last.1)
            (new_at k n (last.0 ∙ long) l shallow)
      ];
    }
      where
        new_at : (k n : ℕ) → k ≡ length events → (l : IsListed writes behind all k n) → l.o.depth < depth → ListsUnbroken (sources_of origins) n
        new_at k n same l shallow =
            let moved : (m : IsListed writes behind all (length events) n) × (m.o ≡ l.o) =
            subst (λ (j : ℕ). (m : IsListed writes behind all j n) × (m.o ≡ l.o)) same (l, refl) in
            listed_new n moved.0 (subst (λ (o : Open). o.depth < depth) (sym moved.1) shallow)

    pub follows_operation : Follows writes regions depth behind all (depended_all origins place g)
    follows_operation = record {
      others = is.others ++ relisted ∷ [];
      gathers = operation_gathers is.others class latency (sources_of origins) place origins g is.gathers origins_are;
      relists = relists_next;
      regions_are = is.regions_are;
      depth_is = is.depth_is;
    }

  -- behind an event that is no operation
  module _ (e : Event) (no_operation : (op : Operation) → e ≡ Op op.class op.latency op.sources op.place → ⊥) (itself : IsAlike e e)
      (still : operations (events ++ e ∷ []) ≡ operations events) where
    relists_quiet : Relists writes depth (events ++ e ∷ []) accesses (is.others ++ e ∷ [])
    relists_quiet = subst (λ (those : List (Option Access)). Relists writes depth (events ++ e ∷ []) those (is.others ++ e ∷ [])) (append-nil accesses) (record {
      alike = alike_next events is.others e e is.relists.alike itself;
      sound = λ k n op stood lists. elim (stands_next is.others e k op stood) [
        | inl old ↦ listed_on events e accesses [] numbered_are writes k n (is.relists.sound k n op old.1 lists)
        | inr last ↦ absurd (no_operation op last.1)
      ];
      complete = λ k n op l shallow stood. elim (stands_next is.others e k op stood) [
        | inl old ↦
            (let low : k < length is.others = old.0 in
            let long : length is.others ≡ length events = is.relists.alike.long in
            let before = listed_back events e accesses [] numbered_are writes k n (omega (arith, low, long)) l in
            is.relists.complete k n op before.0 (subst (λ (o : Open). o.depth < depth) (sym before.1) shallow) old.1)
        | inr last ↦ absurd (no_operation op last.1)
      ];
    })

  same_made : length (operations is.others) ≡ length (operations events)
  same_made =
      let long : length is.others ≡ length events = is.relists.alike.long in
      ap (λ (es : List Event). length (operations es)) (sym (take_whole (length events) is.others (omega (arith, long))))
      ∙ (made_alike events is.others is.relists.alike (length events) (omega arith)
      ∙ ap (λ (es : List Event). length (operations es)) (take_whole (length events) events (omega arith)))

  pub follows_entered : (region made : ℕ) → made ≡ length (operations events) → Follows writes regions depth (events ++ Enter region ∷ []) accesses (entered region made g)
  follows_entered region made same = record {
    others = is.others ++ Enter region ∷ [];
    gathers = entered_gathers is.others region made g (same ∙ sym same_made) is.gathers;
    relists = relists_quiet (Enter region) (λ op both. cc both) refl (entered_operations events region);
    regions_are = regions_kept (nat_lt (length g.opened) g.depth && is_loop_at g.regions region);
    depth_is = depth_kept (nat_lt (length g.opened) g.depth && is_loop_at g.regions region);
  }
    where
      regions_kept : (b : Bool) → (if b then loop_entered region made g else record g { opened = region ∷ g.opened }).regions ≡ regions
      regions_kept true = is.regions_are
      regions_kept false = is.regions_are

      depth_kept : (b : Bool) → (if b then loop_entered region made g else record g { opened = region ∷ g.opened }).depth ≡ depth
      depth_kept true = is.depth_is
      depth_kept false = is.depth_is

  pub follows_left : (made : ℕ) → made ≡ length (operations events) → Follows writes regions depth (events ++ Exit ∷ []) accesses (left made g)
  follows_left made same = record {
    others = is.others ++ Exit ∷ [];
    gathers = left_gathers is.others made g (same ∙ sym same_made) is.gathers;
    relists = relists_quiet Exit (λ op both. cc both) refl (left_operations events);
    regions_are = regions_kept g.opened;
    depth_is = depth_kept g.opened;
  }
    where
      regions_kept : (opened : List ℕ) → (left_of made opened g).regions ≡ regions
      regions_kept [] = is.regions_are
      regions_kept (x ∷ opened) = is.regions_are

      depth_kept : (opened : List ℕ) → (left_of made opened g).depth ≡ depth
      depth_kept [] = is.depth_is
      depth_kept (x ∷ opened) = is.depth_is

-- nothing is gathered of no events
follows_nothing : (writes : Bool) (regions : List Region) (depth : ℕ) → Follows writes regions depth [] [] (nothing regions depth)
follows_nothing writes regions depth = record {
  others = [];
  gathers = nothing_gathers regions depth;
  relists = record {
    alike = record { long = refl; each = λ at e there. absurd (cc there) };
    sound = λ k n op stood lists. absurd (cc stood);
    complete = λ k n op l shallow stood. absurd (cc stood);
  };
  regions_are = refl;
  depth_is = refl;
}

pub keeps_nothing : (regions : List Region) (depth : ℕ) → Keeps regions depth [] [] (none_shared regions depth)
keeps_nothing regions depth = record {
  numbered = refl;
  loads = follows_nothing false regions depth;
  stores = follows_nothing true regions depth;
  starts = refl;
  depth_is = refl;
  deep = nothing_deep depth;
}

module _ (regions : List Region) (depth : ℕ) (events : List Event) (accesses : List (Option Access)) (g : Kept) (is : Keeps regions depth events accesses g) where
  -- an operation that makes an access, or none
  pub keeps_operation : (class : Class) (latency : ℕ) (sources : List Src) (place : Place) (made : Option Access) (loads stores : List Origin)
      → AreFirsts false depth events accesses made loads → AreFirsts true depth events accesses made stores
      → Keeps regions depth (events ++ Op class latency sources place ∷ []) (accesses ++ made ∷ []) (both_shared loads stores place g)
  keeps_operation class latency sources place made loads stores of_loads of_stores = record {
    numbered = omega (
      arith,
      is.numbered,
      length_push accesses made,
      ap (λ (ops : List Operation). length ops) (made_operations events class latency sources place),
      length_push (operations events) (record { class = class; latency = latency; sources = sources; place = place }),
    );
    loads = follows_operation false regions depth events accesses g.loads is.numbered is.loads class latency sources place made loads of_loads;
    stores = follows_operation true regions depth events accesses g.stores is.numbered is.stores class latency sources place made stores of_stores;
    starts = is.starts ∙ sym (ap (λ (opened : List Open). map (λ (o : Open). o.start) opened) (operations_keep events class latency sources place).0);
    depth_is = is.depth_is;
    deep = operation_deep depth events g.deep is.deep class latency sources place;
  }

  -- an instance is entered
  pub keeps_entered : (region made : ℕ) → made ≡ length (operations events) → Keeps regions depth (events ++ Enter region ∷ []) accesses (both_entered region made g)
  keeps_entered region made same = record {
    numbered = is.numbered ∙ sym (ap (λ (ops : List Operation). length ops) (entered_operations events region));
    loads = follows_entered false regions depth events accesses g.loads is.numbered is.loads region made same;
    stores = follows_entered true regions depth events accesses g.stores is.numbered is.stores region made same;
    starts = (λ i. is.starts i ++ same i ∷ [])
        ∙ (sym (map_push (λ (o : Open). o.start) (open_after events) (next_open region events))
        ∙ sym (ap (λ (opened : List Open). map (λ (o : Open). o.start) opened) (enters_open events region).0));
    depth_is = is.depth_is;
    deep = entered_deep depth events g.deep is.deep region g.depth (length g.starts) is.depth_is
        (ap (λ (all : List ℕ). length all) is.starts ∙ length-map (open_after events) (λ (o : Open). o.start));
  }

  -- the innermost one is left
  pub keeps_left : (made : ℕ) → made ≡ length (operations events) → Keeps regions depth (events ++ Exit ∷ []) accesses (both_left made g)
  keeps_left made same = record {
    numbered = is.numbered ∙ sym (ap (λ (ops : List Operation). length ops) (left_operations events));
    loads = follows_left false regions depth events accesses g.loads is.numbered is.loads made same;
    stores = follows_left true regions depth events accesses g.stores is.numbered is.stores made same;
    starts = ap (λ (all : List ℕ). take (length all - 1) all) is.starts ∙ starts_left;
    depth_is = is.depth_is;
    deep = left_deep depth events g.deep is.deep;
  }
    where
      starts_left : take (length (map (λ (o : Open). o.start) (open_after events)) - 1) (map (λ (o : Open). o.start) (open_after events))
          ≡ map (λ (o : Open). o.start) (open_after (events ++ Exit ∷ []))
      starts_left = elim (last_or_none (open_after events)) [
        | inl none ↦
            ap (λ (opened : List Open). take (length (map (λ (o : Open). o.start) opened) - 1) (map (λ (o : Open). o.start) opened)) none
            ∙ sym (ap (λ (opened : List Open). map (λ (o : Open). o.start) opened) (idle_exits_keep events none).0)
        | inr some ↦
            ap (λ (opened : List Open). take (length (map (λ (o : Open). o.start) opened) - 1) (map (λ (o : Open). o.start) opened)) some.1.1
            ∙ (taken_front (λ (o : Open). o.start) some.0 some.1.0
            ∙ sym (ap (λ (opened : List Open). map (λ (o : Open). o.start) opened) (exits_close_the_last events some.0 some.1.0 some.1.1).0))
      ]

  -- WHAT IS TOLD of what is gathered are the storage pairs of its events
  pub storage_is_shared : AreShared regions depth events accesses (storage_of g)
  storage_is_shared =
      joined_are_shared regions depth events accesses is.loads.others is.stores.others
      (loops_from 0 g.loads.seen g.loads.found) (loops_from 0 g.stores.seen g.stores.found) is.loads.relists is.stores.relists
      (carried is.loads.others g.loads is.loads.gathers is.loads.regions_are is.loads.depth_is)
      (carried is.stores.others g.stores is.stores.gathers is.stores.regions_are is.stores.depth_is)
    where
      carried : (others : List Event) (x : Gathered) → Gathers others x → x.regions ≡ regions → x.depth ≡ depth
          → AreCarried regions depth others (loops_from 0 x.seen x.found)
      carried others x gathers one two =
          subst (λ (r : List Region). AreCarried r depth others (loops_from 0 x.seen x.found)) one
          (subst (λ (d : ℕ). AreCarried x.regions d others (loops_from 0 x.seen x.found)) two (loops_are_carried others x gathers))
