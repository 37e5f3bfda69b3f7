-- What is gathered is that of the events behind each event.
use Rattle.std.proofs.Common.{ℕ, zero, suc, ◌≡◌, ◌≢◌, ◌<◌, ◌≤◌, ◌⊎◌, ◌&&◌, nat_eq, nat_le, nat_lt, Bool, true, false, List, [], ◌∷◌, ◌++◌, length, map, reverse, slice_get, Option, Some, None, arith, refl, sym, subst, ap, inl, inr, ◌∙◌}
use Rattle.std.specs.Prelude.{if◌then◌else◌, replicate, slice_set}
use Rattle.std.proofs.lemmas.Bool.Decides.{eqb_tells}
use Rattle.std.proofs.lemmas.List.{length-map, length-replicate, length-reverse, length_push}
use Rattle.std.proofs.lemmas.Option.{slice_get_within}
use Rattle.k_num.specs.declared.place.Place.{Place}
use Rattle.k_optab.specs.declared.class.Class.{Class}
use Rattle.k_optab.specs.declared.event.Event.{Event}
use Rattle.k_optab.specs.declared.event.Event.TheVariants.{Op, Enter, Exit}
use Rattle.k_optab.specs.declared.event.Src.{Src}
use Rattle.k_optab.specs.declared.region.Region.{Region}
use Rattle.k_optab.specs.Events.{Operation, ListsUnbroken, operations, made_before}
use Rattle.k_optab.specs.Open.{Open, open_after}
use Rattle.k_optab.specs.OpenLaws.{next_open}
use Rattle.k_optab.proofs.Opening.{enters_open, operations_keep}
use Rattle.k_carry_pairs.specs.declared.found.Found.{Found}
use Rattle.k_carry_pairs.specs.declared.levels.Level.{Level}
use Rattle.k_carry_pairs.specs.declared.origin.Origin.{Origin}
use Rattle.k_carry_pairs.specs.Carried.{AreSorted, Carries, IsAmong, IsPair, IsTracked, LiesIn, StandsAt, is_loop_at, is_loop_kind}
use Rattle.k_carry_pairs.specs.Gathered.{AreLevelsOf, AreOrigins, Gathered, Gathers, IsLevelOf, depended, depended_all, entered, found_all, found_before, inner, is_carried, is_kept, left, left_of, loop_entered, nothing, put, turned, without_level}
use Rattle.k_carry_pairs.proofs.Carrying.{New, both_parts, carries_back, carries_new, first_part, pairs_back, pairs_on, second_part, tracked_back, tracked_on, tracked_open, tracked_still}
use Rattle.k_carry_pairs.proofs.Events.{behind_first, inner_entered, inner_left, inner_operation, lies_from, made_operations, numbered, stands}
use Rattle.k_carry_pairs.proofs.Turning.{entered_level, entered_levels, left_levels, operation_levels}
use Rattle.k_carry_pairs.proofs.Lists.{among_either, among_reverse, among_reversed, among_right}
use Rattle.k_carry_pairs.proofs.Order.{put_either, put_old, put_sorted, put_there}

-- what is found where an item of a list was set
get_set : {X : Type 0} (xs : List X) (n : ℕ) (x : X) → n < length xs → slice_get (slice_set xs n x) n ≡ Some x
get_set [] n x low = absurd (omega arith)
get_set (y ∷ xs) zero x low = refl
get_set (y ∷ xs) (suc n) x low = get_set xs n x (omega arith)

get_other : {X : Type 0} (xs : List X) (n k : ℕ) (x : X) → k ≢ n → slice_get (slice_set xs n x) k ≡ slice_get xs k
get_other [] zero k x differs = refl
get_other [] (suc n) k x differs = refl
get_other (y ∷ xs) zero zero x differs = absurd (differs refl)
get_other (y ∷ xs) zero (suc k) x differs = refl
get_other (y ∷ xs) (suc n) zero x differs = refl
get_other (y ∷ xs) (suc n) (suc k) x differs = get_other xs n k x (λ same. differs (ap (λ (m : ℕ). suc m) same))

set_length : {X : Type 0} (xs : List X) (n : ℕ) (x : X) → length (slice_set xs n x) ≡ length xs
set_length [] zero x = refl
set_length [] (suc n) x = refl
set_length (y ∷ xs) zero x = refl
set_length (y ∷ xs) (suc n) x = ap (λ (m : ℕ). suc m) (set_length xs n x)

-- a region that is a loop is there
loop_there : (regions : List Region) (region : ℕ) → is_loop_at regions region ≡ true → region < length regions
loop_there regions region is = by (slice_get regions region) refl is
  where
    by : (o : Option Region) → slice_get regions region ≡ o → is_loop_kind o ≡ true → region < length regions
    by None found loop = absurd (cc loop)
    by (Some r) found loop = slice_get_within regions region r found

-- as many regions as instances are open
opened_count : (events : List Event) (g : Gathered) → Gathers events g → length g.opened ≡ length (open_after events)
opened_count events g is =
    ap (λ (all : List ℕ). length all) is.opened ∙ length-map (inner events) (λ (o : Open). o.region) ∙ length-reverse (open_after events)

-- nothing is gathered of no events
pub nothing_gathers : (regions : List Region) (depth : ℕ)
    → Gathers [] (nothing regions depth)
nothing_gathers regions depth = record {
  opened = refl;
  levels = refl;
  size = length-replicate (length regions) false;
  seen = λ region is. absurd (none_true (length regions) region is);
  all_seen = λ region o loop is. absurd (none_open is.at o is.opened);
  sorted = tt;
  sound = λ f is. absurd is;
  complete = λ f loop is. (let made : StandsAt [] is.2.j is.2.earlier = is.2.made in absurd (cc made));
}
  where
    none_true : (n k : ℕ) → slice_get (replicate {A = Bool} n false) k ≡ Some true → ⊥
    none_true zero k is = cc is
    none_true (suc n) zero is = cc is
    none_true (suc n) (suc k) is = none_true n k is

    none_open : (at : ℕ) (o : Open) → LiesIn [] at o → ⊥
    none_open zero o is = is
    none_open (suc at) o is = is

module _ (events : List Event) (region made : ℕ) (g : Gathered) (same : made ≡ length (operations events)) (is : Gathers events g) where
  abbrev inside : List Event
  inside = events ++ Enter region ∷ []

  no_operation : (op : Operation) → Enter region ≢ Op op.class op.latency op.sources op.place
  no_operation op both = cc both

  -- the new instance is open, and the others that were
  open_either : (o : Open) → IsAmong o (open_after inside) → IsAmong o (open_after events) ⊎ (next_open region events ≡ o)
  open_either o among =
      elim (among_either o (open_after events) (next_open region events ∷ [])
      (subst (λ (all : List Open). IsAmong o all) (enters_open events region).0 among)) [
        | inl old ↦ inl old
        | inr (inl new) ↦ inr new
        | inr (inr none) ↦ absurd none
      ]

  opened_next : region ∷ g.opened ≡ map (λ (o : Open). o.region) (inner inside)
  opened_next =
      ap (λ (all : List ℕ). region ∷ all) is.opened
      ∙ sym (ap (λ (all : List Open). map (λ (o : Open). o.region) all) (inner_entered events region))

  kept_test : is_kept g.regions g.depth (next_open region events) ≡ (nat_lt (length g.opened) g.depth && is_loop_at g.regions region)
  kept_test = ap (λ (n : ℕ). nat_lt n g.depth && is_loop_at g.regions region) (sym (opened_count events g is))

  outer_levels : AreLevelsOf g.regions g.depth inside (inner events) g.levels
  outer_levels = entered_levels g.regions g.depth events region g.levels is.levels

  -- a tracked loop is entered
  loop_gathers : (nat_lt (length g.opened) g.depth && is_loop_at g.regions region) ≡ true → Gathers inside (loop_entered region made g)
  loop_gathers keeps = record {
    opened = opened_next;
    levels = subst (λ (all : List Open). AreLevelsOf g.regions g.depth inside all (new ∷ g.levels)) (sym (inner_entered events region))
        (inl (kept_test ∙ keeps, (new, (g.levels, refl, new_level, outer_levels))));
    size = set_length g.seen region true ∙ is.size;
    seen = λ r found. by_region r (eqb_tells r region) found;
    all_seen = λ r o looping tracked. elim (eqb_tells r region) [
      | inl here ↦ ap (λ (n : ℕ). slice_get (slice_set g.seen region true) n) here.1 ∙ get_set g.seen region true there
      | inr other ↦ get_other g.seen region r true other.1 ∙ elim (tracked_back events (Enter region) g.depth r o tracked) [
        | inl old ↦ is.all_seen r o looping old
        | inr alive ↦ elim (open_either o alive) [
          | inl old ↦ is.all_seen r o looping (subst (λ (n : ℕ). IsTracked g.depth events n o) tracked.of (tracked_open events (Enter region) g.depth o old tracked.shallow))
          | inr newest ↦ absurd (other.1 (sym tracked.of ∙ sym (ap (λ (x : Open). x.region) newest)))
        ]
      ]
    ];
    sorted = is.sorted;
    sound = λ f among. ((is.sound f among).0, pairs_on events (Enter region) g.depth f.region f.pair (is.sound f among).1);
    complete = λ f looping pair. is.complete f looping (pairs_back events (Enter region) g.depth f.region f.pair no_operation pair);
  }
    where
      new : Level
      new = record { region = region; depth = length g.opened; first = made; turn = 0 }

      new_level : IsLevelOf inside (next_open region events) new
      new_level =
          let made_is : length (operations events) ≡ made = sym same in
          subst (λ (l : Level). IsLevelOf inside (next_open region events) l)
          (λ i. record { region = region; depth = sym (opened_count events g is) i; first = made_is i; turn = 0 }) (entered_level events region)

      loop : is_loop_at g.regions region ≡ true
      loop = second_part (nat_lt (length g.opened) g.depth) (is_loop_at g.regions region) keeps

      there : region < length g.seen
      there = omega (arith, loop_there g.regions region loop, is.size)

      shallow : length (open_after events) < g.depth
      shallow =
          let low : nat_lt (length g.opened) g.depth ≡ true = first_part (nat_lt (length g.opened) g.depth) (is_loop_at g.regions region) keeps in
          let under : length g.opened < g.depth = grind arith in
          omega (arith, under, opened_count events g is)

      newest_tracked : IsTracked g.depth inside region (next_open region events)
      newest_tracked =
          tracked_open inside Exit g.depth (next_open region events)
          (subst (λ (all : List Open). IsAmong (next_open region events) all) (sym (enters_open events region).0)
          (among_right (next_open region events) (open_after events) (next_open region events ∷ []) (inl refl))) shallow

      by_region : (r : ℕ) → ((nat_eq r region ≡ true) × (r ≡ region)) ⊎ ((nat_eq r region ≡ false) × (r ≢ region)) → slice_get (slice_set g.seen region true) r ≡ Some true
          → (is_loop_at g.regions r ≡ true) × ((o : Open) × IsTracked g.depth inside r o)
      by_region r (inl here) found =
          subst (λ (n : ℕ). (is_loop_at g.regions n ≡ true) × ((o : Open) × IsTracked g.depth inside n o)) (sym here.1) (loop, (next_open region events, newest_tracked))
      by_region r (inr other) found =
          let old = is.seen r (sym (get_other g.seen region r true other.1) ∙ found) in
          (old.0, (old.1.0, tracked_on events (Enter region) g.depth r old.1.0 old.1.1))

  -- another instance is entered
  other_gathers : (nat_lt (length g.opened) g.depth && is_loop_at g.regions region) ≡ false → Gathers inside (record g { opened = region ∷ g.opened })
  other_gathers keeps = record {
    opened = opened_next;
    levels = subst (λ (all : List Open). AreLevelsOf g.regions g.depth inside all g.levels) (sym (inner_entered events region))
        (inr (kept_test ∙ keeps, outer_levels));
    size = is.size;
    seen = λ r found. (let old = is.seen r found in (old.0, (old.1.0, tracked_on events (Enter region) g.depth r old.1.0 old.1.1)));
    all_seen = λ r o looping tracked. elim (tracked_back events (Enter region) g.depth r o tracked) [
      | inl old ↦ is.all_seen r o looping old
      | inr alive ↦ elim (open_either o alive) [
        | inl old ↦ is.all_seen r o looping (subst (λ (n : ℕ). IsTracked g.depth events n o) tracked.of (tracked_open events (Enter region) g.depth o old tracked.shallow))
        | inr newest ↦ absurd (not_kept r o newest looping tracked)
      ]
    ];
    sorted = is.sorted;
    sound = λ f among. ((is.sound f among).0, pairs_on events (Enter region) g.depth f.region f.pair (is.sound f among).1);
    complete = λ f looping pair. is.complete f looping (pairs_back events (Enter region) g.depth f.region f.pair no_operation pair);
  }
    where
      not_kept : (r : ℕ) (o : Open) → next_open region events ≡ o → is_loop_at g.regions r ≡ true → IsTracked g.depth inside r o → ⊥
      not_kept r o newest looping tracked =
          let of : region ≡ r = ap (λ (x : Open). x.region) newest ∙ tracked.of in
          let deep : length (open_after events) ≡ o.depth = ap (λ (x : Open). x.depth) newest in
          let low : length g.opened < g.depth = omega (arith, opened_count events g is, deep, tracked.shallow) in
          let test : nat_lt (length g.opened) g.depth ≡ true = grind arith in
          let both = both_parts (nat_lt (length g.opened) g.depth) (is_loop_at g.regions region) test (ap (λ (n : ℕ). is_loop_at g.regions n) of ∙ looping) in
          absurd (let wrong : true ≡ false = sym both ∙ keeps in cc wrong)

  pub entered_gathers : Gathers inside (entered region made g)
  entered_gathers = by (nat_lt (length g.opened) g.depth && is_loop_at g.regions region) refl
    where
      by : (b : Bool) → (nat_lt (length g.opened) g.depth && is_loop_at g.regions region) ≡ b
          → Gathers inside (if b then loop_entered region made g else record g { opened = region ∷ g.opened })
      by true keeps = loop_gathers keeps
      by false keeps = other_gathers keeps

module _ (events : List Event) (made : ℕ) (g : Gathered) (same : made ≡ length (operations events)) (is : Gathers events g) where
  abbrev outside : List Event
  outside = events ++ Exit ∷ []

  no_exit : (op : Operation) → Exit ≢ Op op.class op.latency op.sources op.place
  no_exit op both = cc both

  -- what is open was open
  open_still : (o : Open) → IsAmong o (open_after outside) → IsAmong o (open_after events)
  open_still o among =
      among_reversed o (open_after events)
      (behind (inner events) (subst (λ (all : List Open). IsAmong o all) (inner_left events) (among_reverse o (open_after outside) among)))
    where
      behind : (all : List Open) → IsAmong o (behind_first all) → IsAmong o all
      behind [] none = none
      behind (x ∷ outer) later = inr later

  -- what is gathered but for the open regions and the levels
  still_gathers : (opened : List ℕ) (levels : List Level) → opened ≡ map (λ (o : Open). o.region) (inner outside)
      → AreLevelsOf g.regions g.depth outside (inner outside) levels → Gathers outside (record g { opened = opened; levels = levels })
  still_gathers opened levels opened_are levels_are = record {
    opened = opened_are;
    levels = levels_are;
    size = is.size;
    seen = λ r found. (let old = is.seen r found in (old.0, (old.1.0, tracked_on events Exit g.depth r old.1.0 old.1.1)));
    all_seen = λ r o looping tracked. elim (tracked_back events Exit g.depth r o tracked) [
      | inl old ↦ is.all_seen r o looping old
      | inr alive ↦ is.all_seen r o looping
          (subst (λ (n : ℕ). IsTracked g.depth events n o) tracked.of (tracked_open events Exit g.depth o (open_still o alive) tracked.shallow))
    ];
    sorted = is.sorted;
    sound = λ f among. ((is.sound f among).0, pairs_on events Exit g.depth f.region f.pair (is.sound f among).1);
    complete = λ f looping pair. is.complete f looping (pairs_back events Exit g.depth f.region f.pair no_exit pair);
  }

  -- nothing is open
  idle_gathers : inner events ≡ [] → Gathers outside (left made g)
  idle_gathers none =
      let opened : g.opened ≡ [] = is.opened ∙ ap (λ (all : List Open). map (λ (o : Open). o.region) all) none in
      let after : inner outside ≡ [] = inner_left events ∙ ap behind_first none in
      let levels : g.levels ≡ [] = subst (λ (all : List Open). AreLevelsOf g.regions g.depth events all g.levels) none is.levels in
      subst (λ (all : List ℕ). Gathers outside (left_of made all g)) (sym opened)
      (still_gathers g.opened g.levels (opened ∙ sym (ap (λ (all : List Open). map (λ (o : Open). o.region) all) after))
      (subst (λ (all : List Open). AreLevelsOf g.regions g.depth outside all g.levels) (sym after) levels))

  -- the innermost instance is left
  body_gathers : (body : Open) (outer : List Open) → inner events ≡ body ∷ outer → Gathers outside (left made g)
  body_gathers body outer are =
      let regions_outer : List ℕ = map (λ (o : Open). o.region) outer in
      let opened : g.opened ≡ body.region ∷ regions_outer = is.opened ∙ ap (λ (all : List Open). map (λ (o : Open). o.region) all) are in
      let after : inner outside ≡ outer = inner_left events ∙ ap behind_first are in
      let long : length outer ≡ length regions_outer = sym (length-map outer (λ (o : Open). o.region)) in
      let levels : AreLevelsOf g.regions g.depth outside outer (turned (length (operations events)) body.region (length outer) (without_level (length outer) g.levels)) =
      left_levels g.regions g.depth events body outer g.levels are
      (subst (λ (all : List Open). AreLevelsOf g.regions g.depth events all g.levels) are is.levels) in
      subst (λ (all : List ℕ). Gathers outside (left_of made all g)) (sym opened)
      (still_gathers regions_outer (turned made body.region (length regions_outer) (without_level (length regions_outer) g.levels))
      (sym (ap (λ (all : List Open). map (λ (o : Open). o.region) all) after))
      (subst (λ (all : List Open). AreLevelsOf g.regions g.depth outside all (turned made body.region (length regions_outer) (without_level (length regions_outer) g.levels))) (sym after)
      (subst (λ (n : ℕ). AreLevelsOf g.regions g.depth outside outer (turned made body.region n (without_level n g.levels))) long
      (subst (λ (n : ℕ). AreLevelsOf g.regions g.depth outside outer (turned n body.region (length outer) (without_level (length outer) g.levels))) (sym same) levels))))

  pub left_gathers : Gathers outside (left made g)
  left_gathers = by (inner events) refl
    where
      by : (all : List Open) → inner events ≡ all → Gathers outside (left made g)
      by [] are = idle_gathers are
      by (body ∷ outer) are = body_gathers body outer are

-- a level of an instance
level_of : (regions : List Region) (depth : ℕ) (events : List Event) (opened : List Open) (levels : List Level) (o : Open)
    → AreLevelsOf regions depth events opened levels → IsAmong o opened → is_kept regions depth o ≡ true → (l : Level) × (IsAmong l levels × IsLevelOf events o l)
level_of regions depth events [] levels o are is keeps = absurd is
level_of regions depth events (x ∷ opened) levels o (inl kept) (inl here) keeps =
    (kept.1.0, (subst (λ (ls : List Level). IsAmong kept.1.0 ls) (sym kept.1.1.1) (inl refl), subst (λ (y : Open). IsLevelOf events y kept.1.0) here kept.1.1.2))
level_of regions depth events (x ∷ opened) levels o (inl kept) (inr later) keeps =
    let rest = level_of regions depth events opened kept.1.1.0 o kept.1.1.3 later keeps in
    (rest.0, (subst (λ (ls : List Level). IsAmong rest.0 ls) (sym kept.1.1.1) (inr rest.1.0), rest.1.1))
level_of regions depth events (x ∷ opened) levels o (inr other) (inl here) keeps =
    absurd (let wrong : true ≡ false = sym keeps ∙ (ap (λ (y : Open). is_kept regions depth y) (sym here) ∙ other.0) in cc wrong)
level_of regions depth events (x ∷ opened) levels o (inr other) (inr later) keeps = level_of regions depth events opened levels o other.1 later keeps

-- the instance of a level
record OfLevel (regions : List Region) (depth : ℕ) (events : List Event) (opened : List Open) (l : Level) : Type 0 where
  o : Open
  among : IsAmong o opened
  keeps : is_kept regions depth o ≡ true
  is : IsLevelOf events o l

instance_of : (regions : List Region) (depth : ℕ) (events : List Event) (opened : List Open) (levels : List Level) (l : Level)
    → AreLevelsOf regions depth events opened levels → IsAmong l levels → OfLevel regions depth events opened l
instance_of regions depth events [] levels l are is = absurd (subst (λ (ls : List Level). IsAmong l ls) are is)
instance_of regions depth events (x ∷ opened) levels l (inl kept) is = by (subst (λ (ls : List Level). IsAmong l ls) kept.1.1.1 is) (λ later. instance_of regions depth events opened kept.1.1.0 l kept.1.1.3 later)
  where
    by : IsAmong l (kept.1.0 ∷ kept.1.1.0) → (IsAmong l kept.1.1.0 → OfLevel regions depth events opened l) → OfLevel regions depth events (x ∷ opened) l
    by (inl here) rest = record { o = x; among = inl refl; keeps = kept.0; is = subst (λ (m : Level). IsLevelOf events x m) here kept.1.1.2 }
    by (inr later) rest = (let found = rest later in record { o = found.o; among = inr found.among; keeps = found.keeps; is = found.is })
instance_of regions depth events (x ∷ opened) levels l (inr other) is =
    let found = instance_of regions depth events opened levels l other.1 is in
    record { o = found.o; among = inr found.among; keeps = found.keeps; is = found.is }

-- the pair of a level
abbrev pair_of : Level → Origin → Place → Found
pair_of l origin to = record { region = l.region; pair = record { from = origin.place; to = to } }

module _ (origin : Origin) (to : Place) where
  depended_old : (levels : List Level) (found : List Found) (f : Found) → IsAmong f found → IsAmong f (depended levels origin to found)
  depended_old [] found f is = is
  depended_old (l ∷ levels) found f is =
      depended_old levels (if is_carried origin.number l then put (pair_of l origin to) found else found) f (by (is_carried origin.number l))
    where
      by : (b : Bool) → IsAmong f (if b then put (pair_of l origin to) found else found)
      by true = put_old (pair_of l origin to) f found is
      by false = is

  depended_there : (levels : List Level) (found : List Found) (l : Level) → IsAmong l levels → is_carried origin.number l ≡ true
      → IsAmong (pair_of l origin to) (depended levels origin to found)
  depended_there [] found l is carried = absurd is
  depended_there (m ∷ levels) found l (inl here) carried =
      depended_old levels (if is_carried origin.number m then put (pair_of m origin to) found else found) (pair_of l origin to)
      (subst (λ (x : Level). IsAmong (pair_of x origin to) (if is_carried origin.number m then put (pair_of m origin to) found else found)) here
      (by (is_carried origin.number m) (ap (λ (x : Level). is_carried origin.number x) here ∙ carried)))
    where
      by : (b : Bool) → b ≡ true → IsAmong (pair_of m origin to) (if b then put (pair_of m origin to) found else found)
      by true is = put_there (pair_of m origin to) found
      by false is = absurd (cc is)
  depended_there (m ∷ levels) found l (inr later) carried =
      depended_there levels (if is_carried origin.number m then put (pair_of m origin to) found else found) l later carried

  depended_sorted : (levels : List Level) (found : List Found) → AreSorted found_before found → AreSorted found_before (depended levels origin to found)
  depended_sorted [] found sorted = sorted
  depended_sorted (l ∷ levels) found sorted =
      depended_sorted levels (if is_carried origin.number l then put (pair_of l origin to) found else found) (by (is_carried origin.number l))
    where
      by : (b : Bool) → AreSorted found_before (if b then put (pair_of l origin to) found else found)
      by true = put_sorted (pair_of l origin to) found sorted
      by false = sorted

  -- what is found by one level
  abbrev ByLevel : List Level → Found → Type 0
  ByLevel levels f = (l : Level) × (IsAmong l levels × (is_carried origin.number l ≡ true) × (pair_of l origin to ≡ f))

  depended_either : (levels : List Level) (found : List Found) (f : Found) → IsAmong f (depended levels origin to found) → IsAmong f found ⊎ ByLevel levels f
  depended_either [] found f is = inl is
  depended_either (l ∷ levels) found f is =
      by (is_carried origin.number l) refl
      (depended_either levels (if is_carried origin.number l then put (pair_of l origin to) found else found) f is)
    where
      by : (b : Bool) → is_carried origin.number l ≡ b → IsAmong f (if b then put (pair_of l origin to) found else found) ⊎ ByLevel levels f
          → IsAmong f found ⊎ ByLevel (l ∷ levels) f
      by b carried (inr further) = inr (further.0, (inr further.1.0, further.1.1, further.1.2))
      by true carried (inl first) = elim (put_either (pair_of l origin to) f found first) [
        | inl new ↦ inr (l, (inl refl, carried, new))
        | inr old ↦ inl old
      ]
      by false carried (inl first) = inl first

module _ (levels : List Level) (to : Place) where
  all_old : (origins : List Origin) (found : List Found) (f : Found) → IsAmong f found → IsAmong f (found_all levels origins to found)
  all_old [] found f is = is
  all_old (x ∷ origins) found f is = all_old origins (depended levels x to found) f (depended_old x to levels found f is)

  all_there : (origins : List Origin) (found : List Found) (x : Origin) (l : Level) → IsAmong x origins → IsAmong l levels → is_carried x.number l ≡ true
      → IsAmong (pair_of l x to) (found_all levels origins to found)
  all_there [] found x l is among carried = absurd is
  all_there (y ∷ origins) found x l (inl here) among carried =
      all_old origins (depended levels y to found) (pair_of l x to)
      (subst (λ (z : Origin). IsAmong (pair_of l z to) (depended levels y to found)) here
      (depended_there y to levels found l among (ap (λ (z : Origin). is_carried z.number l) here ∙ carried)))
  all_there (y ∷ origins) found x l (inr later) among carried = all_there origins (depended levels y to found) x l later among carried

  all_sorted : (origins : List Origin) (found : List Found) → AreSorted found_before found → AreSorted found_before (found_all levels origins to found)
  all_sorted [] found sorted = sorted
  all_sorted (x ∷ origins) found sorted = all_sorted origins (depended levels x to found) (depended_sorted x to levels found sorted)

  all_either : (origins : List Origin) (found : List Found) (f : Found) → IsAmong f (found_all levels origins to found)
      → IsAmong f found ⊎ ((x : Origin) × (IsAmong x origins × ByLevel x to levels f))
  all_either [] found f is = inl is
  all_either (x ∷ origins) found f is = elim (all_either origins (depended levels x to found) f is) [
    | inl first ↦ elim (depended_either x to levels found f first) [
      | inl old ↦ inl old
      | inr new ↦ inr (x, (inl refl, new))
    ]
    | inr later ↦ inr (later.0, (inr later.1.0, later.1.1))
  ]

module _ (events : List Event) (class : Class) (latency : ℕ) (sources : List Src) (place : Place) (origins : List Origin) (g : Gathered)
    (is : Gathers events g) (from : AreOrigins events sources origins) where
  abbrev done : Event
  done = Op class latency sources place

  abbrev behind : List Event
  behind = events ++ done ∷ []

  few_more : length (operations events) ≤ length (operations behind)
  few_more =
      omega (
        arith,
        ap (λ (ops : List Operation). length ops) (made_operations events class latency sources place),
        length_push (operations events) (record { class = class; latency = latency; sources = sources; place = place }),
      )

  same_open : (o : Open) → IsAmong o (open_after behind) → IsAmong o (open_after events)
  same_open o among = subst (λ (all : List Open). IsAmong o all) (operations_keep events class latency sources place).0 among

  -- an instance that is kept
  kept_of : (o : Open) (region : ℕ) → is_loop_at g.regions region ≡ true → o.region ≡ region → o.depth < g.depth → is_kept g.regions g.depth o ≡ true
  kept_of o region looping of shallow =
      let low : nat_lt o.depth g.depth ≡ true = grind arith in
      both_parts (nat_lt o.depth g.depth) (is_loop_at g.regions o.region) low (ap (λ (n : ℕ). is_loop_at g.regions n) of ∙ looping)

  -- the place of an operation that these name
  placed_as : (j : ℕ) (earlier : Operation) → StandsAt events j earlier → (x : Origin) → IsAmong x origins → x.number ≡ made_before j events → earlier.place ≡ x.place
  placed_as j earlier made x among number =
      from.placed x earlier among (ap (λ (n : ℕ). slice_get (operations events) n) number ∙ numbered events j earlier made)

  -- a pair that is new is found
  new_found : (f : Found) (o : Open) → is_loop_at g.regions f.region ≡ true → IsTracked g.depth behind f.region o → New events done o f.pair
      → IsAmong f (found_all (reverse g.levels) origins place g.found)
  new_found f o looping tracked new =
      let listed : ListsUnbroken sources (made_before new.j events) = subst (λ (s : List Src). ListsUnbroken s (made_before new.j events)) (sym sources_are) new.listed in
      let source = from.all (made_before new.j events) listed in
      let x : Origin = source.0 in
      let found = level_of g.regions g.depth events (inner events) g.levels o is.levels (among_reverse o (open_after events) new.alive)
      (kept_of o f.region looping tracked.of tracked.shallow) in
      let l : Level = found.0 in
      let level : IsLevelOf events o l = found.1.1 in
      let j_low : new.j < length events = slice_get_within events new.j (Op new.earlier.class new.earlier.latency new.earlier.sources new.earlier.place) new.made in
      let start : o.start ≤ made_before new.j events = lies_from events new.j o (omega (arith, j_low)) new.begins_in in
      let low : nat_le l.first x.number ≡ true = (let first : l.first ≤ x.number = omega (arith, level.first, start, source.2) in grind arith) in
      let high : nat_lt x.number l.turn ≡ true =
      (let turned : x.number < l.turn = omega (arith, level.only new.j new.earlier new.made new.turns, source.2) in grind arith) in
      let region : l.region ≡ f.region = level.region ∙ tracked.of in
      let starts : x.place ≡ f.pair.from = sym (placed_as new.j new.earlier new.made x source.1 source.2) ∙ new.from in
      let ends : place ≡ f.pair.to = place_is ∙ new.to in
      subst (λ (y : Found). IsAmong y (found_all (reverse g.levels) origins place g.found))
      (λ i. record { region = region i; pair = record { from = starts i; to = ends i } })
      (all_there (reverse g.levels) place origins g.found x l source.1 (among_reverse l g.levels found.1.0) (both_parts (nat_le l.first x.number) (nat_lt x.number l.turn) low high))
    where
      sources_are : sources ≡ new.later.sources
      sources_are = (let both : done ≡ Op new.later.class new.later.latency new.later.sources new.later.place = new.is in cc both)

      place_is : place ≡ new.later.place
      place_is = (let both : done ≡ Op new.later.class new.later.latency new.later.sources new.later.place = new.is in cc both)

  -- what is found by a level is a pair
  found_pair : (f : Found) (x : Origin) (l : Level) → IsAmong x origins → IsAmong l g.levels → is_carried x.number l ≡ true → pair_of l x place ≡ f
      → (is_loop_at g.regions f.region ≡ true) × IsPair g.depth behind f.region f.pair
  found_pair f x l listed among carried same =
      let of = instance_of g.regions g.depth events (inner events) g.levels l is.levels among in
      let o : Open = of.o in
      let level : IsLevelOf events o l = of.is in
      let alive : IsAmong o (open_after events) = among_reversed o (open_after events) of.among in
      let loop : is_loop_at g.regions o.region ≡ true = second_part (nat_lt o.depth g.depth) (is_loop_at g.regions o.region) of.keeps in
      let test : nat_lt o.depth g.depth ≡ true = first_part (nat_lt o.depth g.depth) (is_loop_at g.regions o.region) of.keeps in
      let shallow : o.depth < g.depth = grind arith in
      let low : nat_le l.first x.number ≡ true = first_part (nat_le l.first x.number) (nat_lt x.number l.turn) carried in
      let first : l.first ≤ x.number = grind arith in
      let high : nat_lt x.number l.turn ≡ true = second_part (nat_le l.first x.number) (nat_lt x.number l.turn) carried in
      let turned : x.number < l.turn = grind arith in
      let made : x.number < length (operations events) = omega (arith, turned, level.begun) in
      let region : o.region ≡ f.region = sym level.region ∙ ap (λ (y : Found). y.region) same in (
        ap (λ (n : ℕ). is_loop_at g.regions n) (sym region) ∙ loop,
        carried_pair o alive shallow region level first turned (operation_there (operations events) x.number made),
      )
    where
      operation_there : (ops : List Operation) (n : ℕ) → n < length ops → (op : Operation) × (slice_get ops n ≡ Some op)
      operation_there [] n low = absurd (omega arith)
      operation_there (op ∷ ops) zero low = (op, refl)
      operation_there (op ∷ ops) (suc n) low = operation_there ops n (omega arith)

      carried_pair : (o : Open) → IsAmong o (open_after events) → o.depth < g.depth → o.region ≡ f.region → IsLevelOf events o l → l.first ≤ x.number → x.number < l.turn
          → (op : Operation) × (slice_get (operations events) x.number ≡ Some op) → IsPair g.depth behind f.region f.pair
      carried_pair o alive shallow region level first turned there =
          let stood = stands events x.number there.0 there.1 in
          let at : ℕ = stood.0 in
          let number : made_before at events ≡ x.number = stood.1.1 in
          let tracked : IsTracked g.depth events f.region o = subst (λ (n : ℕ). IsTracked g.depth events n o) region (tracked_open events done g.depth o alive shallow) in
          (o, tracked_on events done g.depth f.region o tracked, newly at there.0 stood.1.0 number o alive level first turned there.1)
        where
          newly : (at : ℕ) (op : Operation) → StandsAt events at op → made_before at events ≡ x.number → (o : Open) → IsAmong o (open_after events) → IsLevelOf events o l
              → l.first ≤ x.number → x.number < l.turn → slice_get (operations events) x.number ≡ Some op → Carries behind o f.pair
          newly at op stood number o alive level first turned there =
              carries_new events done at op (record { class = class; latency = latency; sources = sources; place = place }) o f.pair stood refl
              (subst (λ (n : ℕ). ListsUnbroken sources n) (sym number) (from.listed x listed))
              (level.lies at op stood (omega (arith, number, first))) alive
              (level.earlier at op stood (omega (arith, number, turned)))
              (from.placed x op listed there ∙ ap (λ (y : Found). y.pair.from) same)
              (ap (λ (y : Found). y.pair.to) same)

  pub operation_gathers : Gathers behind (depended_all origins place g)
  operation_gathers = record {
    opened = is.opened ∙ sym (ap (λ (all : List Open). map (λ (o : Open). o.region) all) (inner_operation events class latency sources place));
    levels = subst (λ (all : List Open). AreLevelsOf g.regions g.depth behind all g.levels) (sym (inner_operation events class latency sources place))
        (operation_levels g.regions g.depth events class latency sources place g.levels few_more is.levels);
    size = is.size;
    seen = λ r found. (let old = is.seen r found in (old.0, (old.1.0, tracked_on events done g.depth r old.1.0 old.1.1)));
    all_seen = λ r o looping tracked. elim (tracked_back events done g.depth r o tracked) [
      | inl old ↦ is.all_seen r o looping old
      | inr alive ↦ is.all_seen r o looping
          (subst (λ (n : ℕ). IsTracked g.depth events n o) tracked.of (tracked_open events done g.depth o (same_open o alive) tracked.shallow))
    ];
    sorted = all_sorted (reverse g.levels) place origins g.found is.sorted;
    sound = λ f among. elim (all_either (reverse g.levels) place origins g.found f among) [
      | inl old ↦ ((is.sound f old).0, pairs_on events done g.depth f.region f.pair (is.sound f old).1)
      | inr new ↦ found_pair f new.0 new.1.1.0 new.1.0 (among_reversed new.1.1.0 g.levels new.1.1.1.0) new.1.1.1.1 new.1.1.1.2
    ];
    complete = λ f looping pair. elim (carries_back events done pair.0 f.pair pair.2) [
      | inl old ↦ all_old (reverse g.levels) place origins g.found f
          (is.complete f looping (pair.0, tracked_still events done g.depth f.region pair.0 f.pair old pair.1, old))
      | inr new ↦ new_found f pair.0 looping pair.1 new
    ];
  }
