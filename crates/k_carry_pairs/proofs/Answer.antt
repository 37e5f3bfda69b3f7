-- One list of loops tells of a run; and what turns are.
use Rattle.std.proofs.Common.{ℕ, zero, suc, ◌≡◌, ◌+◌, ◌-◌, ◌<◌, ◌≤◌, Bool, true, false, List, take, slice_get, arith, refl, sym, subst, ap, inl, inr, ◌∙◌}
use Rattle.std.specs.Prelude.{if◌then◌else◌}
use Rattle.std.proofs.lemmas.Bool.{cases_lt}
use Rattle.k_optab.specs.declared.event.Event.{Event}
use Rattle.k_optab.specs.declared.region.Region.{Region}
use Rattle.k_optab.specs.Open.{Open, open_after}
use Rattle.k_carry_pairs.specs.declared.pairs.LoopPairs.{LoopPairs}
use Rattle.k_carry_pairs.specs.Carried.{AreCarried, IsAmong, IsLoopOf, IsPair, ends_body, loop_before, pair_before, turn}
use Rattle.k_carry_pairs.specs.Laws.{EndsBetween, LaterTurnsAreBehindBodies, OneAnswer}
use Rattle.k_carry_pairs.proofs.Events.{turn_up}
use Rattle.k_carry_pairs.proofs.Order.{IsOrder, pairs_ordered, sorted_same}

loop_one_way : (a b : LoopPairs) → loop_before a b ≡ true → loop_before b a ≡ true → ⊥
loop_one_way a b one two = grind arith

loop_on : (a b c : LoopPairs) → loop_before a b ≡ true → loop_before b c ≡ true → loop_before a c ≡ true
loop_on a b c one two = grind arith

pub loops_ordered : IsOrder loop_before
loops_ordered = record { one_way = loop_one_way; on = loop_on }

module _ (regions : List Region) (depth : ℕ) (events : List Event) where
  -- two lists of pairs of one loop are the same
  one_loop : (l m : LoopPairs) → m.region ≡ l.region → IsLoopOf regions depth events l → IsLoopOf regions depth events m → m ≡ l
  one_loop l m same a b =
      let pairs : m.pairs ≡ l.pairs = sorted_same pair_before pairs_ordered m.pairs l.pairs b.sorted a.sorted
      (λ pair is. a.complete pair (subst (λ (r : ℕ). IsPair depth events r pair) same (b.sound pair is)))
      (λ pair is. b.complete pair (subst (λ (r : ℕ). IsPair depth events r pair) (sym same) (a.sound pair is))) in
      (λ i. record { region = same i; pairs = pairs i })

  -- what is told in one list is told in the other
  told_too : (a b : List LoopPairs) → AreCarried regions depth events a → AreCarried regions depth events b → (l : LoopPairs) → IsAmong l a → IsAmong l b
  told_too a b is too l among =
      let of : IsLoopOf regions depth events l = is.sound l among in
      let other = too.complete l.region of.is_loop of.tracked in
      subst (λ (m : LoopPairs). IsAmong m b) (one_loop l other.0 other.2 of (too.sound other.0 other.1)) other.1

  one : (a b : List LoopPairs) → AreCarried regions depth events a → AreCarried regions depth events b → a ≡ b
  one a b is too = sorted_same loop_before loops_ordered a b is.sorted too.sorted (told_too a b is too) (told_too b a too is)

pub one_answer : OneAnswer
one_answer regions depth events a b is too = one regions depth events a b is too

module _ (events : List Event) (o : Open) (from : ℕ) where
  -- turns tell of bodies that ended, and these of turns
  record Tells (to : ℕ) : Type 0 where
    up : turn events o from < turn events o to → EndsBetween events o from to
    down : EndsBetween events o from to → turn events o from < turn events o to

  tells_next : (to : ℕ) (b : Bool) → from ≤ to → ends_body o (open_after (take to events)) (slice_get events to) ≡ b
      → (turn events o (suc to) ≡ (if b then suc (turn events o to) else turn events o to)) → Tells to → Tells (suc to)
  tells_next to true low is next rest = record {
    up = λ more. record { at = to; behind = low; before = omega arith; ends = is };
    down = λ between. (let grows : turn events o from ≤ turn events o to = turn_up events o from to low in omega (arith, next, grows));
  }
  tells_next to false low is next rest = record {
    up = λ more.
        (let between : EndsBetween events o from to = rest.up (omega (arith, next, more)) in
        record { at = between.at; behind = between.behind; before = omega (arith, between.before); ends = between.ends });
    down = λ between. elim (cases_lt between.at to) [
      | inl before ↦
          (let more : turn events o from < turn events o to =
          rest.down (record { at = between.at; behind = between.behind; before = before; ends = between.ends }) in
          omega (arith, next, more))
      | inr last ↦
          (let same : between.at ≡ to = omega (arith, between.before, last) in
          let both : true ≡ false =
          sym between.ends ∙ (ap (λ (n : ℕ). ends_body o (open_after (take n events)) (slice_get events n)) same ∙ is) in
          absurd (cc both))
    ];
  }

  tells : (more : ℕ) → Tells (from + more)
  tells zero =
      let same : from + 0 ≡ from = omega arith in
      record {
        up = λ up. absurd (omega (arith, ap (λ (n : ℕ). turn events o n) same, up));
        down = λ between. absurd (omega (arith, between.behind, between.before));
      }
  tells (suc more) =
      let next : suc (from + more) ≡ from + suc more = omega arith in
      subst (λ (n : ℕ). Tells n) next
      (tells_next (from + more) (ends_body o (open_after (take (from + more) events)) (slice_get events (from + more))) (omega arith) refl refl (tells more))

pub later_turns : LaterTurnsAreBehindBodies
later_turns events o from to low =
    let same : from + (to - from) ≡ to = omega arith in
    let is : Tells events o from to = subst (λ (n : ℕ). Tells events o from n) same (tells events o from (to - from)) in
    (is.up, is.down)
