-- One list of loops tells of a run.
use Rattle.std.proofs.Common.{ℕ, ◌≡◌, ◌&&◌, Bool, true, not, List, arith, refl, sym, subst}
use Rattle.std.specs.Prelude.{Option, ◌||◌}
use Rattle.k_optab.specs.declared.event.Event.{Event}
use Rattle.k_optab.specs.declared.region.Region.{Region}
use Rattle.k_carry_pairs.specs.declared.pairs.Pair.{Pair}
use Rattle.k_carry_pairs.specs.Carried.{IsAmong, pair_before}
use Rattle.k_carry_pairs.proofs.Order.{IsOrder, pairs_ordered, sorted_same}
use Rattle.k_carry_storage_pairs.specs.declared.access.Access.{Access}
use Rattle.k_carry_storage_pairs.specs.declared.pairs.LoopStorage.{LoopStorage}
use Rattle.k_carry_storage_pairs.specs.declared.pairs.Sharing.{Sharing}
use Rattle.k_carry_storage_pairs.specs.declared.pairs.Sharing.TheVariants.{Anti, Output}
use Rattle.k_carry_storage_pairs.specs.Laws.{OneAnswer}
use Rattle.k_carry_storage_pairs.specs.Storage.{AreShared, IsShared, IsStorageOf, kind_before, places_of, shared_before, storage_before}

-- one storage pair of a kind stands before another
abbrev stands_before : Sharing → Sharing → Pair → Pair → Bool
stands_before k l p q = kind_before k l || (not (kind_before l k) && pair_before p q)

kinds_one_way : (k l : Sharing) (p q : Pair) → stands_before k l p q ≡ true → stands_before l k q p ≡ true → ⊥
kinds_one_way Anti Anti p q one two = pairs_ordered.one_way p q one two
kinds_one_way Anti Output p q one two = cc two
kinds_one_way Output Anti p q one two = cc one
kinds_one_way Output Output p q one two = pairs_ordered.one_way p q one two

kinds_on : (k l m : Sharing) (p q r : Pair) → stands_before k l p q ≡ true → stands_before l m q r ≡ true → stands_before k m p r ≡ true
kinds_on Anti Anti Anti p q r one two = pairs_ordered.on p q r one two
kinds_on Anti Anti Output p q r one two = refl
kinds_on Anti Output Anti p q r one two = absurd (cc two)
kinds_on Anti Output Output p q r one two = refl
kinds_on Output Anti m p q r one two = absurd (cc one)
kinds_on Output Output Anti p q r one two = absurd (cc two)
kinds_on Output Output Output p q r one two = pairs_ordered.on p q r one two

shared_ordered : IsOrder shared_before
shared_ordered = record {
  one_way = λ a b one two. kinds_one_way a.kind b.kind (places_of a) (places_of b) one two;
  on = λ a b c one two. kinds_on a.kind b.kind c.kind (places_of a) (places_of b) (places_of c) one two;
}

storage_one_way : (a b : LoopStorage) → storage_before a b ≡ true → storage_before b a ≡ true → ⊥
storage_one_way a b one two = grind arith

storage_on : (a b c : LoopStorage) → storage_before a b ≡ true → storage_before b c ≡ true → storage_before a c ≡ true
storage_on a b c one two = grind arith

storage_ordered : IsOrder storage_before
storage_ordered = record { one_way = storage_one_way; on = storage_on }

module _ (regions : List Region) (depth : ℕ) (events : List Event) (accesses : List (Option Access)) where
  -- two lists of storage pairs of one loop are the same
  one_loop : (l m : LoopStorage) → m.region ≡ l.region → IsStorageOf regions depth events accesses l → IsStorageOf regions depth events accesses m → m ≡ l
  one_loop l m same a b =
      let pairs : m.pairs ≡ l.pairs = sorted_same shared_before shared_ordered m.pairs l.pairs b.sorted a.sorted
      (λ s is. a.complete s (subst (λ (r : ℕ). IsShared depth events accesses r s) same (b.sound s is)))
      (λ s is. b.complete s (subst (λ (r : ℕ). IsShared depth events accesses r s) (sym same) (a.sound s is))) in
      (λ i. record { region = same i; pairs = pairs i })

  -- what is told in one list is told in the other
  told_too : (a b : List LoopStorage) → AreShared regions depth events accesses a → AreShared regions depth events accesses b → (l : LoopStorage) → IsAmong l a → IsAmong l b
  told_too a b is too l among =
      let of : IsStorageOf regions depth events accesses l = is.sound l among in
      let other = too.complete l.region of.is_loop of.tracked in
      subst (λ (m : LoopStorage). IsAmong m b) (one_loop l other.0 other.2 of (too.sound other.0 other.1)) other.1

pub one_answer : OneAnswer
one_answer regions depth events accesses a b is too =
    sorted_same storage_before storage_ordered a b is.sorted too.sorted (told_too regions depth events accesses a b is too) (told_too regions depth events accesses b a too is)
