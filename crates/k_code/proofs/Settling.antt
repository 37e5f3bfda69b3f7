-- What settling one instruction does to what is known.
use Rattle.std.proofs.Common.{◌≡◌, ℕ, ◌+◌, ◌-◌, ◌<◌, ◌≤◌, inl, inr, List, length, Option, Some, None, Bool, true, false, nat_eq, refl, sym, ◌∙◌, subst, ap, arith}
use Rattle.std.specs.Prelude.{◌⊎◌, ◌||◌, slice_get, nat_lt, nat_le}
use Rattle.std.proofs.lemmas.Bool.{cases_eq, and_parts, or_cases, or_left, or_right, eqb-true, eq-eqb, ltb-true, leb-true, both_ways, false_from_ne_true, false≢true}
use Rattle.std.proofs.lemmas.Option.{same_Some, slice_get_cases, slice_get_within}
use Rattle.k_optab.specs.declared.class.Class.{Class}
use Rattle.k_code.specs.declared.balance.Balance.{Balance}
use Rattle.k_code.specs.declared.instruction.Arg.{Arg}
use Rattle.k_code.specs.declared.instruction.Do.{Do}
use Rattle.k_code.specs.declared.instruction.Do.TheVariants as act
use Rattle.k_code.specs.declared.instruction.Instr.{Instr}
use Rattle.k_code.specs.Balances.{IsBelow, left_open, is_met, goes_on, jumps_to}
use Rattle.k_code.specs.Decides.{Adds, Agrees, Differs, Follows, HasBalance, IsKnown, IsOpen, Knows, Settles}
use Rattle.k_code.specs.Valid.{stays_within, is_within}
use Rattle.k_code.proofs.Balanced.{Has, NoneBefore, Step, Steps, balance_step, balance_steps, steps_of, balance_of, steps_have, has_steps, open_unreached, known_reached}
use Rattle.k_code.proofs.Known.{agrees_at, first_differs, not_both, stays_added, then_agrees}
use Rattle.k_code.proofs.Passing.{below_more, left_below}

-- what is known behind an instruction's targets, and then behind the next one
pub record Next (k : ℕ) (what : Do) (b : Balance) (mid new : List (Option Balance)) : Type 0 where
  pub long : length new ≡ length mid
  pub kept : (t : ℕ) (c : Balance) → IsKnown mid t c → IsKnown new t c
  pub here : (c : Balance) × IsKnown new (k + 1) c
  pub goes : goes_on what ≡ true → IsKnown new (k + 1) (left_open what b)
  pub stops : goes_on what ≡ false → IsOpen mid (k + 1) → IsKnown new (k + 1) b
  pub only : (t : ℕ) (c : Balance) → IsKnown new t c
      → IsKnown mid t c ⊎ ((t ≡ k + 1) × (((goes_on what ≡ true) × (c ≡ left_open what b)) ⊎ ((goes_on what ≡ false) × IsOpen mid (k + 1) × (c ≡ b))))

-- what there is at a place within a list
there : (list : List (Option Balance)) (t : ℕ) → t < length list → IsOpen list t ⊎ ((c : Balance) × IsKnown list t c)
there list t low =
    elim (slice_get_cases list t).1 [
      | inl x ↦ found x.0 x.2
      | inr past ↦ absurd (omega (arith, low, past.0))
    ]
  where
    found : (o : Option Balance) → slice_get list t ≡ Some o → IsOpen list t ⊎ ((c : Balance) × IsKnown list t c)
    found None e = inl e
    found (Some c) e = inr (c, e)

follows_next : (k : ℕ) (what : Do) (b : Balance) (mid new : List (Option Balance)) → k + 1 < length mid → Follows true k what b mid new → Next k what b mid new
follows_next k what b mid new room f = by (goes_on what) refl
  where
    by_going : goes_on what ≡ true → Adds (λ t. t ≡ k + 1) (left_open what b) mid new → Next k what b mid new
    by_going goes x = record {
      long = x.long;
      kept = x.kept;
      here = (left_open what b, x.here (k + 1) refl);
      goes = λ _. x.here (k + 1) refl;
      stops = λ stops _. absurd (both_ways (goes_on what) stops goes);
      only = λ t c e. elim (x.only t c e) [
        | inl was ↦ inl was
        | inr now ↦ inr (now.0, inl (goes, now.1))
      ];
    }

    by_staying : goes_on what ≡ false → Adds (λ t. (t ≡ k + 1) × IsOpen mid t) b mid new → Next k what b mid new
    by_staying stops x = record {
      long = x.long;
      kept = x.kept;
      here = elim (there mid (k + 1) room) [
        | inl open_is ↦ (b, x.here (k + 1) (refl, open_is))
        | inr known ↦ (known.0, x.kept (k + 1) known.0 known.1)
      ];
      goes = λ goes. absurd (both_ways (goes_on what) stops goes);
      stops = λ _ open_is. x.here (k + 1) (refl, open_is);
      only = λ t c e. elim (x.only t c e) [
        | inl was ↦ inl was
        | inr now ↦ inr (now.0.0, inr (stops, subst (λ n. IsOpen mid n) now.0.0 now.0.1, now.1))
      ];
    }

    by : (goes : Bool) → goes_on what ≡ goes → Next k what b mid new
    by true e = by_going e (f.0 e)
    by false e = by_staying e (f.1 e).1

module _ (entry : ℕ) (instrs : List Instr) (k : ℕ) (i : Instr) (is : slice_get instrs k ≡ Some i) (list : List (Option Balance)) (knows : Knows entry instrs k list)
    (b : Balance) (at : IsKnown list k b) where
  low : k < length instrs
  low = slice_get_within instrs k i is

  -- a function that has what is known has this balance here
  here_is : (before : ℕ → Balance) → Steps entry instrs k before → before k ≡ b
  here_is before s = steps_have entry instrs k list knows before s k b at

  module _ (mid : List (Option Balance)) (j : Adds (λ t. jumps_to i.act (entry + t) ≡ true) b list mid) where
    mid_has : (before : ℕ → Balance) → Steps entry instrs k before → Step entry instrs before k i → Has mid before
    mid_has before s here t c e =
        elim (j.only t c e) [
          | inl was ↦ steps_have entry instrs k list knows before s t c was
          | inr now ↦ here.jumps t now.0 ∙ (here_is before s ∙ sym now.1)
        ]

    -- where nothing is known behind this instruction, no instruction jumps there
    none_before : IsOpen mid (k + 1) → NoneBefore entry instrs k
    none_before open_is n x early there_is = false_from_ne_true (jumps_to x.act (entry + (k + 1))) (λ jumps. elim (cases_eq n k) [
      | inl same ↦ (
          let this : i ≡ x = same_Some i x (sym is ∙ (ap (λ m. slice_get instrs m) (sym same) ∙ there_is)) in
          not_both mid (k + 1) b open_is (j.here (k + 1) (subst (λ (y : Instr). jumps_to y.act (entry + (k + 1)) ≡ true) (sym this) jumps))
          )
      | inr other ↦ open_unreached entry instrs k list knows (k + 1) (was_open (there list (k + 1) (let l : length list ≡ length instrs + 1 = knows.long in let h = low in omega arith)))
          n x (omega (arith, early, other)) (λ e. omega (arith, early, e)) there_is jumps
    ])
      where
        was_open : IsOpen list (k + 1) ⊎ ((c : Balance) × IsKnown list (k + 1) c) → IsOpen list (k + 1)
        was_open (inl e) = e
        was_open (inr known) = absurd (not_both mid (k + 1) known.0 open_is (j.kept (k + 1) known.0 known.1))

    module _ (new : List (Option Balance)) (n : Next k i.act b mid new) (met : is_met i.act b ≡ true) where
      new_has : (before : ℕ → Balance) → Steps entry instrs k before → Step entry instrs before k i → Has new before
      new_has before s here t c e =
          elim (n.only t c e) [
            | inl was ↦ mid_has before s here t c was
            | inr now ↦ ap before now.0 ∙ behind c now.1
          ]
        where
          behind : (c : Balance) → ((goes_on i.act ≡ true) × (c ≡ left_open i.act b)) ⊎ ((goes_on i.act ≡ false) × IsOpen mid (k + 1) × (c ≡ b)) → before (k + 1) ≡ c
          behind c (inl x) = here.next x.0 ∙ (ap (left_open i.act) (here_is before s) ∙ sym x.1)
          behind c (inr x) = here.others x.0 (none_before x.1) ∙ (here_is before s ∙ sym x.2)

      old_has : (before : ℕ → Balance) → Has new before → Has list before
      old_has before h t c e = h t c (n.kept t c (j.kept t c e))

      step_here : (before : ℕ → Balance) → Has new before → Step entry instrs before k i
      step_here before h = record {
        next = λ goes. h (k + 1) (left_open i.act b) (n.goes goes) ∙ ap (left_open i.act) (sym here);
        jumps = λ to e. h to b (n.kept to b (j.here to e)) ∙ sym here;
        others = λ stops none. others stops none (there mid (k + 1) room);
        met = ap (is_met i.act) here ∙ met;
      }
        where
          here : before k ≡ b
          here = old_has before h k b at

          room : k + 1 < length mid
          room = let l : length list ≡ length instrs + 1 = knows.long in let m : length mid ≡ length list = j.long in let h = low in omega arith

          others : goes_on i.act ≡ false → NoneBefore entry instrs k → IsOpen mid (k + 1) ⊎ ((c : Balance) × IsKnown mid (k + 1) c) → before (k + 1) ≡ before k
          others stops none (inl open_is) = h (k + 1) b (n.stops stops open_is) ∙ sym here
          others stops none (inr known) = absurd (elim (j.only (k + 1) known.0 known.1) [
            | inl was ↦ known_reached entry instrs k list knows (k + 1) known.0 (omega arith) was (λ m x early at_m. none m x (omega (arith, early)) at_m)
            | inr now ↦ both_ways (jumps_to i.act (entry + (k + 1))) (none k i (omega arith) is) now.0
          ])

      steps_here : (before : ℕ → Balance) → Has new before → Steps entry instrs (k + 1) before
      steps_here before h =
          let s : Steps entry instrs k before = has_steps entry instrs k list knows before (old_has before h) in
          record {
            first = s.first;
            each = λ m x early at_m. elim (cases_eq m k) [
              | inl same ↦ (
                  let this : i ≡ x = same_Some i x (sym is ∙ (ap (λ l. slice_get instrs l) (sym same) ∙ at_m)) in
                  subst (λ l. Step entry instrs before l x) (sym same) (subst (λ (y : Instr). Step entry instrs before k y) this (step_here before h))
                  )
              | inr other ↦ s.each m x (omega (arith, early, other)) at_m
            ];
          }

      fewer : (before : ℕ → Balance) → Steps entry instrs (k + 1) before → Steps entry instrs k before
      fewer before s = record { first = s.first; each = λ m x early at_m. s.each m x (omega (arith, early)) at_m }

      new_below : (t : ℕ) (c : Balance) → IsKnown new t c → IsBelow (k + 1 + 1) c
      new_below t c e =
          elim (n.only t c e) [
            | inl was ↦ below_more (k + 1) c (mid_below was)
            | inr now ↦ behind now.1
          ]
        where
          this : IsBelow (k + 1) b
          this = knows.below k b at

          mid_below : IsKnown mid t c → IsBelow (k + 1) c
          mid_below m = elim (j.only t c m) [
            | inl was ↦ knows.below t c was
            | inr now ↦ subst (λ x. IsBelow (k + 1) x) (sym now.1) this
          ]

          behind : ((goes_on i.act ≡ true) × (c ≡ left_open i.act b)) ⊎ ((goes_on i.act ≡ false) × IsOpen mid (k + 1) × (c ≡ b)) → IsBelow (k + 1 + 1) c
          behind (inl x) = subst (λ y. IsBelow (k + 1 + 1) y) (sym x.1) (left_below (k + 1) i.act b this)
          behind (inr x) = subst (λ y. IsBelow (k + 1 + 1) y) (sym x.2) (below_more (k + 1) b this)

      -- ONE INSTRUCTION MORE
      settled : Knows entry instrs (k + 1) new
      settled = record {
        long = n.long ∙ (j.long ∙ knows.long);
        here = n.here;
        below = new_below;
        same = λ before. (
          λ balance. (let s : Steps entry instrs (k + 1) before = steps_of entry instrs (k + 1) before balance in
              new_has before (fewer before s) (s.each k i (omega arith) is)),
          λ h. balance_of entry instrs (k + 1) before (steps_here before h),
        );
      }

    -- what follows disagrees
    unfollowed : (new : List (Option Balance)) → Follows false k i.act b mid new → HasBalance entry instrs → ⊥
    unfollowed new f balance = by (goes_on i.act) refl
      where
        s : Steps entry instrs k balance.0
        s = balance_steps entry instrs balance.0 k balance.1

        here : Step entry instrs balance.0 k i
        here = balance_step entry instrs balance.0 k i balance.1 is

        fails : goes_on i.act ≡ true → Differs (λ t. t ≡ k + 1) (left_open i.act b) mid → ⊥
        fails goes d =
            let known : balance.0 d.place ≡ d.other = mid_has balance.0 s here d.place d.other d.known in
            let next : balance.0 (k + 1) ≡ left_open i.act b = here.next goes ∙ ap (left_open i.act) (here_is balance.0 s) in
            d.differs (sym known ∙ (ap balance.0 d.there ∙ next))

        by : (goes : Bool) → goes_on i.act ≡ goes → ⊥
        by true e = fails e (f.0 e)
        by false e = false≢true (f.1 e).0

  -- what it takes away is missing
  unmet : is_met i.act b ≡ false → HasBalance entry instrs → ⊥
  unmet fails balance =
      let s : Steps entry instrs k balance.0 = balance_steps entry instrs balance.0 k balance.1 in
      let here : is_met i.act (balance.0 k) ≡ true = balance.1.met k i is in
      both_ways (is_met i.act b) fails (ap (is_met i.act) (sym (here_is balance.0 s)) ∙ here)

  -- a target disagrees
  unjumped : Differs (λ t. jumps_to i.act (entry + t) ≡ true) b list → HasBalance entry instrs → ⊥
  unjumped d balance =
      let s : Steps entry instrs k balance.0 = balance_steps entry instrs balance.0 k balance.1 in
      let known : balance.0 d.place ≡ d.other = steps_have entry instrs k list knows balance.0 s d.place d.other d.known in
      let jump : balance.0 d.place ≡ balance.0 k = balance.1.jumps k i d.place is d.there in
      d.differs (sym known ∙ (jump ∙ here_is balance.0 s))

  -- AN INSTRUCTION IS SETTLED, or there is no balance
  pub settles : (answer : Bool) (mid new : List (Option Balance)) → is_met i.act b ≡ true → Agrees true (λ t. jumps_to i.act (entry + t) ≡ true) b list mid → Follows answer k i.act b mid new
      → Settles answer entry instrs k new
  settles true mid new met j f =
      settled mid j new (follows_next k i.act b mid new (let l : length list ≡ length instrs + 1 = knows.long in let m : length mid ≡ length list = j.long in let h = low in omega arith) f) met
  settles false mid new met j f = unfollowed mid j new f

  pub settles_not : (new : List (Option Balance)) → is_met i.act b ≡ false → Settles false entry instrs k new
  settles_not new fails = unmet fails

  pub settles_no_jump : (new : List (Option Balance)) → Agrees false (λ t. jumps_to i.act (entry + t) ≡ true) b list new → Settles false entry instrs k new
  settles_no_jump new d = unjumped d

-- the targets of an instruction that stays within are within what is known
pub targets_within : (entry count k : ℕ) (what : Do) (room : ℕ) → stays_within entry count k what ≡ true → room ≡ count + 1
    → (to : ℕ) → jumps_to what to ≡ true → (entry ≤ to) × (to < entry + room)
unfolding stays_within jumps_to
targets_within entry count k (act.Test a taken other to class) room inside is t jumps =
    let parts = and_parts (is_within entry count taken) (is_within entry count other) inside in
    elim (or_cases (nat_eq taken t) (nat_eq other t) jumps) [
      | inl first ↦ within taken t (eqb-true taken t first) parts.0
      | inr second ↦ within other t (eqb-true other t second) parts.1
    ]
  where
    within : (at t : ℕ) → at ≡ t → is_within entry count at ≡ true → (entry ≤ t) × (t < entry + room)
    within at t same h =
        let parts = and_parts (nat_le entry at) (nat_lt at (entry + count)) h in
        let above : entry ≤ at = leb-true entry at parts.0 in
        let below : at < entry + count = ltb-true at (entry + count) parts.1 in
        (omega (arith, above, same), omega (arith, below, same, is))
targets_within entry count k (act.Jump to) room inside is t jumps =
    let parts = and_parts (nat_lt (entry + k) to) (nat_lt to (entry + count)) inside in
    let above : entry + k < to = ltb-true (entry + k) to parts.0 in
    let below : to < entry + count = ltb-true to (entry + count) parts.1 in
    let same : to ≡ t = eqb-true to t jumps in
    (omega (arith, above, same), omega (arith, below, same, is))
targets_within entry count k what room inside is t jumps = absurd (false≢true jumps)

-- THE TARGETS of a test
module _ (entry : ℕ) (what : Do) (a : Arg) (taken other : ℕ) (to : Option ℕ) (class : Class) (is : what ≡ act.Test a taken other to class) where
  test_jumps : (t : ℕ) → jumps_to what t ≡ (nat_eq taken t || nat_eq other t)
  unfolding jumps_to
  test_jumps t = ap (λ (w : Do). jumps_to w t) is

  pub first_target : jumps_to what taken ≡ true
  first_target = test_jumps taken ∙ or_left (nat_eq taken taken) (nat_eq other taken) (eq-eqb taken taken refl)

  pub second_target : jumps_to what other ≡ true
  second_target = test_jumps other ∙ or_right (nat_eq taken other) (nat_eq other other) (eq-eqb other other refl)

  first_place : entry ≤ taken → (t : ℕ) → t ≡ taken - entry → jumps_to what (entry + t) ≡ true
  first_place above t at = let e : taken ≡ entry + t = omega (arith, above, at) in ap (jumps_to what) (sym e) ∙ first_target

  second_place : entry ≤ other → (t : ℕ) → t ≡ other - entry → jumps_to what (entry + t) ≡ true
  second_place above t at = let e : other ≡ entry + t = omega (arith, above, at) in ap (jumps_to what) (sym e) ∙ second_target

  parts : (t : ℕ) → jumps_to what (entry + t) ≡ true → (t ≡ taken - entry) ⊎ (t ≡ other - entry)
  parts t jumps = elim (or_cases (nat_eq taken (entry + t)) (nat_eq other (entry + t)) (sym (test_jumps (entry + t)) ∙ jumps)) [
    | inl first ↦ inl (let e : taken ≡ entry + t = eqb-true taken (entry + t) first in omega (arith, e))
    | inr second ↦ inr (let e : other ≡ entry + t = eqb-true other (entry + t) second in omega (arith, e))
  ]

  pub test_agrees : (b : Balance) (old mid new : List (Option Balance)) (answer : Bool) → entry ≤ taken → entry ≤ other → Adds (λ t. t ≡ taken - entry) b old mid
      → Agrees answer (λ t. t ≡ other - entry) b mid new → Agrees answer (λ t. jumps_to what (entry + t) ≡ true) b old new
  test_agrees b old mid new answer first second x y =
      then_agrees (λ t. t ≡ taken - entry) (λ t. t ≡ other - entry) (λ t. jumps_to what (entry + t) ≡ true) b old mid new answer parts (first_place first) (second_place second) x y

  pub test_differs : (b : Balance) (old mid : List (Option Balance)) (answer : Bool) → entry ≤ taken → answer ≡ false → Agrees answer (λ t. t ≡ taken - entry) b old mid
      → Agrees answer (λ t. jumps_to what (entry + t) ≡ true) b old mid
  test_differs b old mid true first fails x = absurd (false≢true (sym fails))
  test_differs b old mid false first fails x = first_differs (λ t. t ≡ taken - entry) (λ t. jumps_to what (entry + t) ≡ true) b old mid mid (first_place first) x

-- of a jump
module _ (entry : ℕ) (what : Do) (to : ℕ) (is : what ≡ act.Jump to) where
  jump_jumps : (t : ℕ) → jumps_to what t ≡ nat_eq to t
  unfolding jumps_to
  jump_jumps t = ap (λ (w : Do). jumps_to w t) is

  pub jump_target : jumps_to what to ≡ true
  jump_target = jump_jumps to ∙ eq-eqb to to refl

  pub jump_agrees : (b : Balance) (old new : List (Option Balance)) (answer : Bool) → entry ≤ to → Agrees answer (λ t. t ≡ to - entry) b old new
      → Agrees answer (λ t. jumps_to what (entry + t) ≡ true) b old new
  jump_agrees b old new answer above x =
      agrees_at (λ t. t ≡ to - entry) (λ t. jumps_to what (entry + t) ≡ true) b old new answer
      (λ t jumps. let e : to ≡ entry + t = eqb-true to (entry + t) (sym (jump_jumps (entry + t)) ∙ jumps) in omega (arith, e))
      (λ t at. let e : to ≡ entry + t = omega (arith, above, at) in ap (jumps_to what) (sym e) ∙ jump_target)
      x

-- other instructions have none
no_jump : (what : Do) → ((a : Arg) (taken other : ℕ) (to : Option ℕ) (class : Class) → what ≡ act.Test a taken other to class → ⊥) → ((to : ℕ) → what ≡ act.Jump to → ⊥)
    → (t : ℕ) → jumps_to what t ≡ false
unfolding jumps_to
no_jump (act.Test a taken other to class) test jump t = absurd (test a taken other to class refl)
no_jump (act.Jump to) test jump t = absurd (jump to refl)
no_jump what test jump t = refl

pub no_targets : (entry : ℕ) (what : Do) (b : Balance) (list : List (Option Balance)) → ((a : Arg) (taken other : ℕ) (to : Option ℕ) (class : Class) → what ≡ act.Test a taken other to class → ⊥)
    → ((to : ℕ) → what ≡ act.Jump to → ⊥) → Adds (λ t. jumps_to what (entry + t) ≡ true) b list list
no_targets entry what b list test jump =
    stays_added (λ t. jumps_to what (entry + t) ≡ true) b list (λ t jumps. absurd (both_ways (jumps_to what (entry + t)) (no_jump what test jump (entry + t)) jumps))
