-- Which regions had an instance that is not tracked, behind each event.
use Rattle.std.proofs.Common.{ℕ, zero, suc, ◌≡◌, ◌≢◌, ◌+◌, ◌-◌, ◌<◌, ◌≤◌, ◌⊎◌, nat_le, Bool, true, false, List, [], ◌∷◌, ◌++◌, length, slice_get, Some, arith, refl, sym, subst, ap, inl, inr, ◌∙◌}
use Rattle.std.specs.Prelude.{if◌then◌else◌, replicate, slice_set}
use Rattle.std.proofs.lemmas.Bool.Decides.{eqb_tells}
use Rattle.std.proofs.lemmas.List.{append-nil, append_assoc, length-append, length-replicate}
use Rattle.std.proofs.lemmas.Option.{slice_get_within}
use Rattle.k_num.specs.declared.place.Place.{Place}
use Rattle.k_optab.specs.declared.class.Class.{Class}
use Rattle.k_optab.specs.declared.event.Event.{Event}
use Rattle.k_optab.specs.declared.event.Event.TheVariants.{Op, Enter, Exit}
use Rattle.k_optab.specs.declared.event.Src.{Src}
use Rattle.k_optab.specs.Open.{Open, open_after}
use Rattle.k_optab.specs.OpenLaws.{next_open}
use Rattle.k_optab.proofs.Leaving.{exits_close_the_last}
use Rattle.k_optab.proofs.Opening.{enters_open, idle_exits_keep, operations_keep}
use Rattle.k_carry_pairs.specs.Carried.{IsAmong, IsTracked, LiesIn}
use Rattle.k_carry_pairs.proofs.Carrying.{tracked_back, tracked_on}
use Rattle.k_carry_pairs.proofs.Lists.{among_either, among_left, among_right, get_front, last_or_none, take_whole}
use Rattle.k_carry_storage_pairs.specs.Deep.{AreDeep, WasDeep}
use Rattle.k_carry_storage_pairs.specs.Kept.{deep_behind, flagged}

-- an item at its place, and the others
pub set_here : {X : Type 0} (xs : List X) (n : ℕ) (x : X) → n < length xs → slice_get (slice_set xs n x) n ≡ Some x
set_here [] n x low = absurd (omega (arith, low))
set_here (y ∷ xs) zero x low = refl
set_here (y ∷ xs) (suc n) x low = set_here xs n x (omega (arith, low))

pub set_other : {X : Type 0} (xs : List X) (n k : ℕ) (x : X) → k ≢ n → slice_get (slice_set xs n x) k ≡ slice_get xs k
set_other [] zero k x differs = refl
set_other [] (suc n) k x differs = refl
set_other (y ∷ xs) zero zero x differs = absurd (differs refl)
set_other (y ∷ xs) zero (suc k) x differs = refl
set_other (y ∷ xs) (suc n) zero x differs = refl
set_other (y ∷ xs) (suc n) (suc k) x differs = set_other xs n k x (λ same. differs (ap (λ (m : ℕ). suc m) same))

-- there is a flag for the region
pub flag_there : (flags : List Bool) (region : ℕ) → region < length (flags ++ replicate (region + 1 - length flags) false)
flag_there flags region =
    omega (arith, length-append flags (replicate (region + 1 - length flags) false), length-replicate (region + 1 - length flags) false)

-- of those that are added none is set
none_added : (flags : List Bool) (count r : ℕ) → slice_get (flags ++ replicate count false) r ≡ Some true → slice_get flags r ≡ Some true
none_added [] zero r is = is
none_added [] (suc count) zero is = absurd (cc is)
none_added [] (suc count) (suc r) is = none_added [] count r is
none_added (b ∷ flags) count zero is = is
none_added (b ∷ flags) count (suc r) is = none_added flags count r is

-- what is set behind it
flag_here : (flags : List Bool) (region : ℕ) → slice_get (flagged region flags) region ≡ Some true
flag_here flags region = set_here (flags ++ replicate (region + 1 - length flags) false) region true (flag_there flags region)

flag_on : (flags : List Bool) (region r : ℕ) → r ≢ region → slice_get flags r ≡ Some true → slice_get (flagged region flags) r ≡ Some true
flag_on flags region r other is =
    set_other (flags ++ replicate (region + 1 - length flags) false) region r true other
    ∙ (get_front r flags (replicate (region + 1 - length flags) false) (slice_get_within flags r true is) ∙ is)

flag_back : (flags : List Bool) (region r : ℕ) → r ≢ region → slice_get (flagged region flags) r ≡ Some true → slice_get flags r ≡ Some true
flag_back flags region r other is =
    none_added flags (region + 1 - length flags) r
    (sym (set_other (flags ++ replicate (region + 1 - length flags) false) region r true other) ∙ is)

-- an instance that is not tracked is one of those that would be tracked one level deeper than it lies
as_tracked : (depth : ℕ) (events : List Event) (region : ℕ) (is : WasDeep depth events region) → IsTracked (suc is.o.depth) events region is.o
as_tracked depth events region is = record { at = is.at; opened = is.opened; of = is.of; shallow = omega arith }

not_tracked : (depth below : ℕ) (events : List Event) (region : ℕ) (o : Open) → IsTracked below events region o → depth ≤ o.depth → WasDeep depth events region
not_tracked depth below events region o is high = record { o = o; at = is.at; opened = is.opened; of = is.of; deep = high }

-- so is one that is open
deep_open : (depth : ℕ) (events : List Event) (o : Open) → IsAmong o (open_after events) → depth ≤ o.depth → WasDeep depth events o.region
deep_open depth events o is high = record {
  o = o;
  at = length events;
  opened = subst (λ (es : List Event). IsAmong o (open_after es)) (sym (take_whole (length events) events (omega arith))) is;
  of = refl;
  deep = high;
}

module _ (depth : ℕ) (events : List Event) (e : Event) where
  abbrev behind : List Event
  behind = events ++ e ∷ []

  -- what was not tracked was not
  deep_on : (region : ℕ) → WasDeep depth events region → WasDeep depth behind region
  deep_on region is =
      not_tracked depth (suc is.o.depth) behind region is.o (tracked_on events e (suc is.o.depth) region is.o (as_tracked depth events region is)) is.deep

  -- one behind the event was one before, or is open behind it
  deep_back : (region : ℕ) → WasDeep depth behind region
      → WasDeep depth events region ⊎ ((o : Open) × IsAmong o (open_after behind) × (o.region ≡ region) × (depth ≤ o.depth))
  deep_back region is = elim (tracked_back events e (suc is.o.depth) region is.o (as_tracked depth behind region is)) [
    | inl old ↦ inl (not_tracked depth (suc is.o.depth) events region is.o old is.deep)
    | inr alive ↦ inr (is.o, alive, is.of, is.deep)
  ]

  -- where no instance is entered, the regions stay
  still_deep : (deep : List Bool) → ((o : Open) → IsAmong o (open_after behind) → IsAmong o (open_after events)) → AreDeep depth events deep
      → AreDeep depth behind deep
  still_deep deep old are = record {
    sound = λ region set. deep_on region (are.sound region set);
    complete = λ region is. elim (deep_back region is) [
      | inl before ↦ are.complete region before
      | inr alive ↦ are.complete region
          (subst (λ (n : ℕ). WasDeep depth events n) alive.2 (deep_open depth events alive.0 (old alive.0 alive.1) alive.3))
    ];
  }

-- nothing was entered
pub nothing_deep : (depth : ℕ) → AreDeep depth [] []
nothing_deep depth = record {
  sound = λ region set. absurd (cc set);
  complete = λ region is. absurd (none_open is.at is.o is.opened);
}
  where
    none_open : (at : ℕ) (o : Open) → LiesIn [] at o → ⊥
    none_open zero o is = is
    none_open (suc at) o is = is

module _ (depth : ℕ) (events : List Event) (deep : List Bool) (are : AreDeep depth events deep) where
  pub operation_deep : (class : Class) (latency : ℕ) (sources : List Src) (place : Place) → AreDeep depth (events ++ Op class latency sources place ∷ []) deep
  operation_deep class latency sources place =
      still_deep depth events (Op class latency sources place) deep
      (λ o is. subst (λ (opened : List Open). IsAmong o opened) (operations_keep events class latency sources place).0 is) are

  pub left_deep : AreDeep depth (events ++ Exit ∷ []) deep
  left_deep = still_deep depth events Exit deep old are
    where
      old : (o : Open) → IsAmong o (open_after (events ++ Exit ∷ [])) → IsAmong o (open_after events)
      old o is = elim (last_or_none (open_after events)) [
        | inl none ↦ absurd (subst (λ (opened : List Open). IsAmong o opened) (idle_exits_keep events none).0 is)
        | inr some ↦ subst (λ (opened : List Open). IsAmong o opened) (sym some.1.1)
            (among_left o some.0 (some.1.0 ∷ [])
            (subst (λ (opened : List Open). IsAmong o opened) (exits_close_the_last events some.0 some.1.0 some.1.1).0 is))
      ]

  -- an instance of a region is entered
  module _ (region : ℕ) where
    abbrev inside : List Event
    inside = events ++ Enter region ∷ []

    abbrev newest : Open
    newest = next_open region events

    open_newest : IsAmong newest (open_after inside)
    open_newest =
        subst (λ (opened : List Open). IsAmong newest opened) (sym (enters_open events region).0)
        (among_right newest (open_after events) (newest ∷ []) (inl refl))

    -- what is open is the new instance, or was open
    open_either : (o : Open) → IsAmong o (open_after inside) → IsAmong o (open_after events) ⊎ (newest ≡ o)
    open_either o is =
        elim (among_either o (open_after events) (newest ∷ []) (subst (λ (opened : List Open). IsAmong o opened) (enters_open events region).0 is)) [
          | inl old ↦ inl old
          | inr (inl new) ↦ inr new
          | inr (inr none) ↦ absurd none
        ]

    -- a region with an instance that is not tracked has such an older one, or is that of the new one
    deep_either : (r : ℕ) → WasDeep depth inside r → (slice_get deep r ≡ Some true) ⊎ ((r ≡ region) × (depth ≤ length (open_after events)))
    deep_either r is = elim (deep_back depth events (Enter region) r is) [
      | inl before ↦ inl (are.complete r before)
      | inr alive ↦ elim (open_either alive.0 alive.1) [
        | inl old ↦ inl (are.complete r (subst (λ (n : ℕ). WasDeep depth events n) alive.2 (deep_open depth events alive.0 old alive.3)))
        | inr new ↦
            (let deeper : depth ≤ length (open_after events) = subst (λ (o : Open). depth ≤ o.depth) (sym new) alive.3 in
            inr (sym alive.2 ∙ sym (ap (λ (o : Open). o.region) new), deeper))
      ]
    ]

    -- where it is not tracked
    flagged_deep : depth ≤ length (open_after events) → AreDeep depth inside (flagged region deep)
    flagged_deep high = record {
      sound = λ r set. elim (eqb_tells r region) [
        | inl here ↦ subst (λ (n : ℕ). WasDeep depth inside n) (sym here.1) (deep_open depth inside newest open_newest high)
        | inr other ↦ deep_on depth events (Enter region) r (are.sound r (flag_back deep region r other.1 set))
      ];
      complete = λ r is. elim (eqb_tells r region) [
        | inl here ↦ subst (λ (n : ℕ). slice_get (flagged region deep) n ≡ Some true) (sym here.1) (flag_here deep region)
        | inr other ↦ elim (deep_either r is) [
          | inl old ↦ flag_on deep region r other.1 old
          | inr new ↦ absurd (other.1 new.0)
        ]
      ];
    }

    -- where it is
    tracked_deep : length (open_after events) < depth → AreDeep depth inside deep
    tracked_deep low = record {
      sound = λ r set. deep_on depth events (Enter region) r (are.sound r set);
      complete = λ r is. elim (deep_either r is) [
        | inl old ↦ old
        | inr new ↦ absurd (omega (arith, low, new.1))
      ];
    }

    pub entered_deep : (tracked opened : ℕ) → tracked ≡ depth → opened ≡ length (open_after events) → AreDeep depth inside (deep_behind tracked opened region deep)
    entered_deep tracked opened one two = by (nat_le tracked opened) refl
      where
        by : (b : Bool) → nat_le tracked opened ≡ b → AreDeep depth inside (if b then flagged region deep else deep)
        by true test = (let high : tracked ≤ opened = grind arith in flagged_deep (omega (arith, high, one, two)))
        by false test = (let low : opened < tracked = grind arith in tracked_deep (omega (arith, low, one, two)))

-- SOME FLAGS tell of any events
pub some_deep : (depth : ℕ) (events : List Event) → (deep : List Bool) × AreDeep depth events deep
some_deep depth events = on [] events ([], nothing_deep depth)
  where
    next : (events : List Event) (e : Event) → (deep : List Bool) × AreDeep depth events deep → (deep : List Bool) × AreDeep depth (events ++ e ∷ []) deep
    next events (Op class latency sources place) is = (is.0, operation_deep depth events is.0 is.1 class latency sources place)
    next events (Enter region) is =
        (deep_behind depth (length (open_after events)) region is.0, entered_deep depth events is.0 is.1 region depth (length (open_after events)) refl refl)
    next events Exit is = (is.0, left_deep depth events is.0 is.1)

    on : (events more : List Event) → (deep : List Bool) × AreDeep depth events deep → (deep : List Bool) × AreDeep depth (events ++ more) deep
    on events [] is = subst (λ (es : List Event). (deep : List Bool) × AreDeep depth es deep) (sym (append-nil events)) is
    on events (e ∷ more) is =
        subst (λ (es : List Event). (deep : List Bool) × AreDeep depth es deep) (append_assoc events (e ∷ []) more) (on (events ++ e ∷ []) more (next events e is))
