-- Of events in which stores list what they share elements with, the carried pairs are the storage pairs of a kind.
use Rattle.std.proofs.Common.{ℕ, ◌≡◌, ◌<◌, Bool, List, length, arith, refl, sym, subst, ◌∙◌}
use Rattle.std.proofs.lemmas.Option.{slice_get_within}
use Rattle.k_optab.specs.declared.event.Event.{Event}
use Rattle.k_optab.specs.declared.event.Event.TheVariants.{Op}
use Rattle.k_optab.specs.Events.{made_before}
use Rattle.k_optab.specs.Open.{Open}
use Rattle.std.specs.Prelude.{Option}
use Rattle.k_carry_pairs.specs.declared.pairs.Pair.{Pair}
use Rattle.k_carry_pairs.specs.Carried.{Carries, IsPair, LiesIn, turn}
use Rattle.k_carry_storage_pairs.specs.declared.access.Access.{Access}
use Rattle.k_carry_storage_pairs.specs.declared.pairs.Shared.{Shared}
use Rattle.k_carry_storage_pairs.specs.Kept.{IsListed, Relists}
use Rattle.k_carry_storage_pairs.specs.Storage.{IsFirst, IsShared, MakesAccess, Shares, access, as_shared, kind_behind, places_of}
use Rattle.k_carry_storage_pairs.proofs.Alike.{lies_alike, lies_as, made_alike, same_places, stands_alike, stands_as, tracked_alike, tracked_as, turn_alike}
use Rattle.k_carry_storage_pairs.proofs.Within.{first_moves, one_place}

module _ (writes : Bool) (depth : ℕ) (events : List Event) (accesses : List (Option Access)) (others : List Event)
    (is : Relists writes depth events accesses others) where
  -- what an instance carries it shares
  shares : (o : Open) (pair : Pair) → Carries others o pair → Shares events accesses o (as_shared (kind_behind writes) pair)
  shares o pair c =
      let j_low : c.j < length others = slice_get_within others c.j (Op c.earlier.class c.earlier.latency c.earlier.sources c.earlier.place) c.made in
      let k_low : c.k < length others = slice_get_within others c.k (Op c.later.class c.later.latency c.later.sources c.later.place) c.depends in
      let long : length others ≡ length events = is.alike.long in
      let l : IsListed writes events accesses c.k (made_before c.j others) = is.sound c.k (made_before c.j others) c.later c.depends c.listed in
      let there = stands_as events others is.alike c.j c.earlier c.made in
      let at : l.at ≡ c.j =
      one_place events l.at c.j l.earlier there.0 l.made.stands there.1.0 (l.number ∙ made_alike events others is.alike c.j (omega (arith, j_low, long))) in
      let made : MakesAccess events accesses c.j l.earlier (access writes l.element) =
      subst (λ (n : ℕ). MakesAccess events accesses n l.earlier (access writes l.element)) at l.made in
      let low : c.j < c.k = omega (arith, at, l.before) in
      let begins : LiesIn events c.j o = lies_as events others is.alike c.j o c.begins_in in
      let turns : turn events o c.j < turn events o c.k =
      omega (
        arith,
        c.turns,
        turn_alike events others is.alike c.j o (omega (arith, j_low, long)),
        turn_alike events others is.alike c.k o (omega (arith, k_low, long)),
      ) in
      let later = stands_as events others is.alike c.k c.later c.depends in
      record {
        j = c.j;
        k = c.k;
        earlier = l.earlier;
        later = l.later;
        writes = writes;
        element = l.element;
        made = made;
        stores = l.stores;
        begins_in = begins;
        ends_in = lies_as events others is.alike c.k o c.ends_in;
        before = low;
        first = first_moves events accesses o l.o c.j c.k (access writes l.element) low (omega (arith, k_low, long)) begins
            (subst (λ (n : ℕ). LiesIn events n l.o) at l.begins_in) l.ends_in turns
            (subst (λ (n : ℕ). IsFirst events accesses l.o n (access writes l.element)) at l.first);
        turns = turns;
        kind = refl;
        from = same_places events c.j l.earlier there.0 made.stands there.1.0 ∙ (there.1.1 ∙ c.from);
        to = same_places events c.k l.later later.0 l.stores.stands later.1.0 ∙ (later.1.1 ∙ c.to);
      }

  pub pair_shared : (region : ℕ) (pair : Pair) → IsPair depth others region pair → IsShared depth events accesses region (as_shared (kind_behind writes) pair)
  pair_shared region pair it = (it.0, tracked_as events others is.alike depth region it.0 it.1, shares it.0 pair it.2)

  -- what it shares by this kind of access it carries
  carries : (o : Open) (s : Shared) (x : Shares events accesses o s) → x.writes ≡ writes → o.depth < depth → Carries others o (places_of s)
  carries o s x same shallow =
      let j_low : x.j < length events = slice_get_within events x.j (Op x.earlier.class x.earlier.latency x.earlier.sources x.earlier.place) x.made.stands in
      let k_low : x.k < length events = slice_get_within events x.k (Op x.later.class x.later.latency x.later.sources x.later.place) x.stores.stands in
      let earlier = stands_alike events others is.alike x.j x.earlier x.made.stands in
      let later = stands_alike events others is.alike x.k x.later x.stores.stands in
      let l : IsListed writes events accesses x.k (made_before x.j others) = record {
        at = x.j;
        earlier = x.earlier;
        later = x.later;
        element = x.element;
        o = o;
        number = sym (made_alike events others is.alike x.j (omega (arith, j_low)));
        before = x.before;
        made = subst (λ (w : Bool). MakesAccess events accesses x.j x.earlier (access w x.element)) same x.made;
        stores = x.stores;
        begins_in = x.begins_in;
        ends_in = x.ends_in;
        first = subst (λ (w : Bool). IsFirst events accesses o x.j (access w x.element)) same x.first;
      } in
      record {
        j = x.j;
        k = x.k;
        earlier = earlier.0;
        later = later.0;
        made = earlier.1.0;
        depends = later.1.0;
        listed = is.complete x.k (made_before x.j others) later.0 l shallow later.1.0;
        begins_in = lies_alike events others is.alike x.j o x.begins_in;
        ends_in = lies_alike events others is.alike x.k o x.ends_in;
        turns = omega (
          arith,
          x.turns,
          turn_alike events others is.alike x.j o (omega (arith, j_low)),
          turn_alike events others is.alike x.k o (omega (arith, k_low)),
        );
        from = earlier.1.1 ∙ x.from;
        to = later.1.1 ∙ x.to;
      }

  pub shared_pair : (region : ℕ) (s : Shared) (it : IsShared depth events accesses region s) → it.2.writes ≡ writes → IsPair depth others region (places_of s)
  shared_pair region s it same = (it.0, tracked_alike events others is.alike depth region it.0 it.1, carries it.0 s it.2 same it.1.shallow)
