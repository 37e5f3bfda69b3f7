-- *Any order gives the serial run*.
use Rattle.std.proofs.Common.{◌≡◌, ◌≢◌, ℕ, zero, suc, ◌+◌, ◌<◌, ◌≤◌, ◌⊎◌, inl, inr, List, [], ◌∷◌, length, get_or, set, replicate, Option, Some, None, Bool, true, false, Contains, Ok, Err, refl, sym, ◌∙◌, ap, subst, arith}
use Rattle.std.specs.Prelude.{◌||◌, ◌==◌, if◌then◌else◌, is_some, slice_get}
use Rattle.std.proofs.lemmas.Bool.{and_parts, both_ways, cases_eq, cases_lt, ne_eqb, or_cases}
use Rattle.std.proofs.lemmas.List.{get_or-set_same}
use Rattle.std.proofs.lemmas.List.Elements.{All-from_recursion}
use Rattle.std.specs.List.{AllByRecursion as ByRecursion}
use Rattle.std.proofs.lemmas.Option.{none-some, slice_get_within}
use Rattle.k_replay_record.specs.declared.record.Datum.{Datum}
use Rattle.k_replay_record.specs.declared.record.Operand.{Operand}
use Rattle.k_replay_record.specs.declared.record.Operand.TheVariants.{Fixed, From}
use Rattle.k_replay_record.specs.declared.record.Record.{Record}
use Rattle.k_replay_record.specs.declared.record.Step.{Step}
use Rattle.k_replay.specs.declared.answer.Deal.TheVariants.{Given, Held, Idle}
use Rattle.k_replay.specs.declared.answer.FireFault.TheVariants.{NoneHeld, Memory}
use Rattle.k_replay.specs.Orders.{AnyOrderGivesTheSerialRun, AreAmong, AreInOrder, Call, Does, Fired, GivesSerialRun, IsAmong, Leads, Took, times_given, times_in}
use Rattle.k_replay.specs.Plays.{Play, are_given, fired_by, has_sources, held_by, is_fired, is_held, is_number, started, with_held}
use Rattle.k_replay.specs.Sound.{IsSound}
use Rattle.k_replay.proofs.Firing.{fired_still, given_other, given_same, held_still, held_there, same_itself}
use Rattle.k_replay.proofs.Going.{goes_on, prefix, whole}
use Rattle.k_replay.proofs.Keeping.{can_give_of, fired_sound, given_sound, none_fired, started_sound}
use Rattle.k_replay_record.proofs.Lists.{contains_first, contains_behind}

-- a worker that holds something is one of them
pub holder_within : (held : List (Option ℕ)) (w k : ℕ) → get_or held w None ≡ Some k → w < length held
holder_within [] w k at = absurd (none-some k at)
holder_within (x ∷ held) zero k at = omega arith
holder_within (x ∷ held) (suc w) k at = let low = holder_within held w k at in omega arith

-- the play behind a call
abbrev pub after : Call → Play → Play
after (Took w (Given k)) p = with_held w (Some k) p
after (Took w deal) p = p
after (Fired w (Ok k)) p = fired_by w k p
after (Fired w answer) p = p

pub does_is : (c : Call) (p r : Play) → Does c p r → r ≡ after c p
does_is (Took w (Given k)) p r d = d.1.2
does_is (Took w (Held k)) p r d = d.1.1
does_is (Took w Idle) p r d = d.1.2
does_is (Fired w (Ok k)) p r d = d.1.1
does_is (Fired w (Err NoneHeld)) p r d = d.1.1
does_is (Fired w (Err Memory)) p r d = d.1.1

pub sound_after : (c : Call) (p r : Play) → IsSound p → Does c p r → IsSound (after c p)
sound_after (Took w (Given k)) p r s d = given_sound p w k s d.0 d.1.0 d.1.1.ready
sound_after (Took w (Held k)) p r s d = s
sound_after (Took w Idle) p r s d = s
sound_after (Fired w (Ok k)) p r s d = fired_sound p w k s d.0 d.1.0
sound_after (Fired w (Err NoneHeld)) p r s d = s
sound_after (Fired w (Err Memory)) p r s d = s

pub tape_after : (c : Call) (p : Play) → (after c p).tape ≡ p.tape
tape_after (Took w (Given k)) p = refl
tape_after (Took w (Held k)) p = refl
tape_after (Took w Idle) p = refl
tape_after (Fired w (Ok k)) p = refl
tape_after (Fired w (Err NoneHeld)) p = refl
tape_after (Fired w (Err Memory)) p = refl

-- an operation is fired or held
abbrev busy : Play → ℕ → Bool
busy p k = is_fired p.values k || is_held p.held k

by_held : (a b : Bool) → b ≡ true → (a || b) ≡ true
by_held true b h = refl
by_held false b h = h

by_fired : (a b : Bool) → a ≡ true → (a || b) ≡ true
by_fired true b h = refl
by_fired false b h = absurd (cc)

neither : (a b : Bool) → a ≡ false → b ≡ false → (a || b) ≡ false
neither true b h k = absurd (cc)
neither false b h k = k

not_first : (a b : Bool) → (a || b) ≡ false → a ≡ false
not_first true b h = absurd (cc)
not_first false b h = refl

not_second : (a b : Bool) → (a || b) ≡ false → b ≡ false
not_second true b h = absurd (cc)
not_second false b h = h

pub number_not : (k j : ℕ) → k ≢ j → is_number k (Some j) ≡ false
number_not k j ne = ne_eqb j k (λ e. ne (sym e))

pub of_none : (held : List (Option ℕ)) (w k : ℕ) → get_or held w None ≡ None → is_number k (get_or held w None) ≡ false
of_none held w k free = ap (is_number k) free

pub of_other : (held : List (Option ℕ)) (w k j : ℕ) → get_or held w None ≡ Some j → k ≢ j → is_number k (get_or held w None) ≡ false
of_other held w k j at ne = ap (is_number k) at ∙ number_not k j ne

pub held_of : (p : Play) (w j : ℕ) → IsSound p → held_by p w ≡ Some j → j < length p.values
held_of p w j s at = go (slice_get p.tape.steps j) refl (s.sources_held w j at)
  where
    go : (o : Option Step) → slice_get p.tape.steps j ≡ o → has_sources p.values o ≡ true → j < length p.values
    go None e h = absurd (cc)
    go (Some t) e h = let low = slice_get_within p.tape.steps j t e in omega (arith, low, s.lengths)

-- what is given is held then
given_busy : (p : Play) (w k : ℕ) → w < length p.held → busy (with_held w (Some k) p) k ≡ true
given_busy p w k within = by_held (is_fired p.values k) _ (held_there (set p.held w (Some k)) w k (get_or-set_same p.held w (Some k) None within))

abbrev one_if : Bool → ℕ
one_if b = if b then 1 else 0

-- what is fired or held stays so
busy_after : (c : Call) (p r : Play) (k : ℕ) → IsSound p → Does c p r → busy p k ≡ true → busy (after c p) k ≡ true
busy_after (Took w (Held j)) p r k s d b = b
busy_after (Took w Idle) p r k s d b = b
busy_after (Fired w (Err NoneHeld)) p r k s d b = b
busy_after (Fired w (Err Memory)) p r k s d b = b
busy_after (Took w (Given j)) p r k s d b = go (cases_eq k j)
  where
    go : (k ≡ j) ⊎ (k ≢ j) → busy (with_held w (Some j) p) k ≡ true
    go (inl e) = subst (λ (n : ℕ). busy (with_held w (Some j) p) n ≡ true) (sym e) (given_busy p w j d.0)
    go (inr ne) = ap (λ (x : Bool). is_fired p.values k || x) (held_still p.held w k (Some j) (of_none p.held w k d.1.0) (number_not k j ne)) ∙ b
busy_after (Fired w (Ok j)) p r k s d b = go (cases_eq k j) (or_cases (is_fired p.values k) (is_held p.held k) b)
  where
    go : (k ≡ j) ⊎ (k ≢ j) → (is_fired p.values k ≡ true) ⊎ (is_held p.held k ≡ true) → busy (fired_by w j p) k ≡ true
    go (inl e) x = subst (λ (n : ℕ). busy (fired_by w j p) n ≡ true) (sym e)
        (by_fired (is_fired (fired_by w j p).values j) _ (ap is_some (given_same p.values j _ (held_of p w j s d.1.0))))
    go (inr ne) (inl f) = by_fired (is_fired (fired_by w j p).values k) _ (fired_still p.values j k _ f)
    go (inr ne) (inr h) = by_held (is_fired (fired_by w j p).values k) _ (held_still p.held w k None (of_other p.held w k j d.1.0 ne) refl ∙ h)

-- a call that does not give an operation leaves it as free as it was
free_after : (c : Call) (p r : Play) (k : ℕ) → Does c p r → times_given k c ≡ 0 → busy p k ≡ false → busy (after c p) k ≡ false
free_after (Took w (Held j)) p r k d t b = b
free_after (Took w Idle) p r k d t b = b
free_after (Fired w (Err NoneHeld)) p r k d t b = b
free_after (Fired w (Err Memory)) p r k d t b = b
free_after (Took w (Given j)) p r k d t b = go (cases_eq k j)
  where
    once : (x : Bool) → x ≡ true → one_if x ≡ 0 → ⊥
    once true e z = omega arith
    once false e z = absurd (cc)

    go : (k ≡ j) ⊎ (k ≢ j) → busy (with_held w (Some j) p) k ≡ false
    go (inl e) = absurd (once (j == k) (subst (λ (n : ℕ). (j == n) ≡ true) (sym e) (same_itself j)) t)
    go (inr ne) = ap (λ (x : Bool). is_fired p.values k || x) (held_still p.held w k (Some j) (of_none p.held w k d.1.0) (number_not k j ne)) ∙ b
free_after (Fired w (Ok j)) p r k d t b = go (cases_eq k j)
  where
    go : (k ≡ j) ⊎ (k ≢ j) → busy (fired_by w j p) k ≡ false
    go (inl e) = absurd (both_ways (is_held p.held k) (not_second (is_fired p.values k) (is_held p.held k) b)
        (subst (λ (n : ℕ). is_held p.held n ≡ true) (sym e) (held_there p.held w j d.1.0)))
    go (inr ne) = neither (is_fired (fired_by w j p).values k) (is_held (fired_by w j p).held k)
        (ap is_some (given_other p.values j k _ ne) ∙ not_first (is_fired p.values k) (is_held p.held k) b)
        (held_still p.held w k None (of_other p.held w k j d.1.0 ne) refl ∙ not_second (is_fired p.values k) (is_held p.held k) b)

-- what is fired or held is not given
not_given : (c : Call) (p r : Play) (k : ℕ) → Does c p r → busy p k ≡ true → times_given k c ≡ 0
not_given (Took w (Held j)) p r k d b = refl
not_given (Took w Idle) p r k d b = refl
not_given (Fired w (Ok j)) p r k d b = refl
not_given (Fired w (Err NoneHeld)) p r k d b = refl
not_given (Fired w (Err Memory)) p r k d b = refl
not_given (Took w (Given j)) p r k d b = go (cases_eq k j)
  where
    go : (k ≡ j) ⊎ (k ≢ j) → one_if (j == k) ≡ 0
    go (inl e) =
        let can = can_give_of p j d.1.1.ready in
        absurd (both_ways (busy p j) (neither (is_fired p.values j) (is_held p.held j) can.not_fired can.not_held) (subst (λ (n : ℕ). busy p n ≡ true) e b))
    go (inr ne) = ap one_if (number_not k j ne)

-- what is given is not free
given_after : (c : Call) (p r : Play) (k : ℕ) → Does c p r → 0 < times_given k c → busy (after c p) k ≡ true
given_after (Took w (Held j)) p r k d t = absurd (omega arith)
given_after (Took w Idle) p r k d t = absurd (omega arith)
given_after (Fired w (Ok j)) p r k d t = absurd (omega arith)
given_after (Fired w (Err NoneHeld)) p r k d t = absurd (omega arith)
given_after (Fired w (Err Memory)) p r k d t = absurd (omega arith)
given_after (Took w (Given j)) p r k d t = go (cases_eq k j)
  where
    never : (x : Bool) → x ≡ false → 0 < one_if x → ⊥
    never true e z = absurd (cc)
    never false e z = omega arith

    go : (k ≡ j) ⊎ (k ≢ j) → busy (with_held w (Some j) p) k ≡ true
    go (inl e) = subst (λ (n : ℕ). busy (with_held w (Some j) p) n ≡ true) (sym e) (given_busy p w j d.0)
    go (inr ne) = absurd (never (j == k) (number_not k j ne) t)

at_most_one : (b : Bool) → one_if b ≤ 1
at_most_one true = omega arith
at_most_one false = omega arith

once_given : (c : Call) (k : ℕ) → times_given k c ≤ 1
once_given (Took w (Given j)) k = at_most_one (j == k)
once_given (Took w (Held j)) k = omega arith
once_given (Took w Idle) k = omega arith
once_given (Fired w (Ok j)) k = omega arith
once_given (Fired w (Err NoneHeld)) k = omega arith
once_given (Fired w (Err Memory)) k = omega arith

-- what is fired or held is given no more
none_more : (calls : List Call) (p q : Play) (k : ℕ) → IsSound p → Leads calls p q → busy p k ≡ true → times_in k calls ≡ 0
none_more [] p q k s leads b = refl
none_more (c ∷ calls) p q k s leads b =
    let rest : Leads calls (after c p) q = subst (λ (x : Play). Leads calls x q) (does_is c p leads.0 leads.1) leads.2 in
    let first : times_given k c ≡ 0 = not_given c p leads.0 k leads.1 b in
    let others : times_in k calls ≡ 0 = none_more calls (after c p) q k (sound_after c p leads.0 s leads.1) rest (busy_after c p leads.0 k s leads.1 b) in
    omega (arith, first, others)

-- no operation is given twice
at_most_once : (calls : List Call) (p q : Play) (k : ℕ) → IsSound p → Leads calls p q → times_in k calls ≤ 1
at_most_once [] p q k s leads = omega arith
at_most_once (c ∷ calls) p q k s leads =
    go (cases_lt 0 (times_given k c)) (at_most_once calls (after c p) q k sound rest)
  where
    rest : Leads calls (after c p) q
    rest = subst (λ (x : Play). Leads calls x q) (does_is c p leads.0 leads.1) leads.2

    sound : IsSound (after c p)
    sound = sound_after c p leads.0 s leads.1

    go : (0 < times_given k c) ⊎ (times_given k c ≤ 0) → times_in k calls ≤ 1 → times_given k c + times_in k calls ≤ 1
    go (inl t) others =
        let none : times_in k calls ≡ 0 = none_more calls (after c p) q k sound rest (given_after c p leads.0 k leads.1 t) in
        omega (arith, none, once_given c k)
    go (inr t) others = omega arith

-- what is fired or held then, and was not, was given
at_least_once : (calls : List Call) (p q : Play) (k : ℕ) → IsSound p → Leads calls p q → busy p k ≡ false → busy q k ≡ true → 1 ≤ times_in k calls
at_least_once [] p q k s leads free b = absurd (both_ways (busy p k) free (subst (λ (x : Play). busy x k ≡ true) leads b))
at_least_once (c ∷ calls) p q k s leads free b =
    go (cases_lt 0 (times_given k c)) (λ still. at_least_once calls (after c p) q k sound rest still b)
  where
    rest : Leads calls (after c p) q
    rest = subst (λ (x : Play). Leads calls x q) (does_is c p leads.0 leads.1) leads.2

    sound : IsSound (after c p)
    sound = sound_after c p leads.0 s leads.1

    go : (0 < times_given k c) ⊎ (times_given k c ≤ 0) → (busy (after c p) k ≡ false → 1 ≤ times_in k calls) → 1 ≤ times_given k c + times_in k calls
    go (inl t) others = omega arith
    go (inr t) others =
        let none : times_given k c ≡ 0 = omega arith in
        let more : 1 ≤ times_in k calls = others (free_after c p leads.0 k leads.1 none free) in
        omega (arith, more)

-- operands that are given come from what was fired
among : (values : List (Option Datum)) (fired : List ℕ) (operands : List Operand) → ((j : ℕ) → is_fired values j ≡ true → Contains fired j)
    → are_given values operands ≡ true → ByRecursion (IsAmong fired) operands
among values fired [] all given = tt
among values fired (Fixed d ∷ operands) all given = (tt, among values fired operands all given)
among values fired (From j ∷ operands) all given =
    let parts = and_parts (is_fired values j) (are_given values operands) given in
    (all j parts.0, among values fired operands all parts.1)

step_among : (values : List (Option Datum)) (fired : List ℕ) (o : Option Step) → ((j : ℕ) → is_fired values j ≡ true → Contains fired j)
    → has_sources values o ≡ true → AreAmong fired o
step_among values fired None all given = tt
step_among values fired (Some s) all given = All-from_recursion (IsAmong fired) s.operands (among values fired s.operands all given)

-- each operation is fired behind its sources
in_order : (calls : List Call) (p q : Play) (fired : List ℕ) → IsSound p → Leads calls p q → ((j : ℕ) → is_fired p.values j ≡ true → Contains fired j)
    → AreInOrder p.tape.steps fired calls
in_order [] p q fired s leads all = tt
in_order (Took w (Given k) ∷ calls) p q fired s leads all =
    in_order calls (with_held w (Some k) p) q fired (sound_after (Took w (Given k)) p leads.0 s leads.1) (subst (λ (x : Play). Leads calls x q) leads.1.1.2 leads.2) all
in_order (Took w (Held k) ∷ calls) p q fired s leads all = in_order calls p q fired s (subst (λ (x : Play). Leads calls x q) leads.1.1.1 leads.2) all
in_order (Took w Idle ∷ calls) p q fired s leads all = in_order calls p q fired s (subst (λ (x : Play). Leads calls x q) leads.1.1.2 leads.2) all
in_order (Fired w (Err NoneHeld) ∷ calls) p q fired s leads all = in_order calls p q fired s (subst (λ (x : Play). Leads calls x q) leads.1.1.1 leads.2) all
in_order (Fired w (Err Memory) ∷ calls) p q fired s leads all = in_order calls p q fired s (subst (λ (x : Play). Leads calls x q) leads.1.1.1 leads.2) all
in_order (Fired w (Ok k) ∷ calls) p q fired s leads all = (
  step_among p.values fired (slice_get p.tape.steps k) all (s.sources_held w k leads.1.1.0),
  in_order calls (fired_by w k p) q (k ∷ fired) (sound_after (Fired w (Ok k)) p leads.0 s leads.1) (subst (λ (x : Play). Leads calls x q) leads.1.1.1 leads.2)
      (λ j f. more j f (cases_eq j k)),
)
  where
    more : (j : ℕ) → is_fired (fired_by w k p).values j ≡ true → (j ≡ k) ⊎ (j ≢ k) → Contains (k ∷ fired) j
    more j f (inl e) = subst (λ (n : ℕ). Contains (k ∷ fired) n) (sym e) (contains_first k fired)
    more j f (inr ne) = contains_behind k fired j (all j (sym (ap is_some (given_other p.values k j _ ne)) ∙ f))

-- what calls lead to is sound, over the same record
sound_all : (calls : List Call) (p q : Play) → IsSound p → Leads calls p q → IsSound q × (q.tape ≡ p.tape)
sound_all [] p q s leads = (subst IsSound (sym leads) s, ap (λ (x : Play). x.tape) leads)
sound_all (c ∷ calls) p q s leads =
    let rest : Leads calls (after c p) q = subst (λ (x : Play). Leads calls x q) (does_is c p leads.0 leads.1) leads.2 in
    let found = sound_all calls (after c p) q (sound_after c p leads.0 s leads.1) rest in
    (found.0, found.1 ∙ tape_after c p)

-- at the start nothing is held or fired
free_at_start : (tape : Record) (workers k : ℕ) → busy (started tape workers) k ≡ false
free_at_start tape workers k = neither (is_fired (started tape workers).values k) (is_held (started tape workers).held k) (none_fired (length tape.steps) k) (none_held workers)
  where
    none_held : (n : ℕ) → is_held (replicate n None) k ≡ false
    none_held zero = refl
    none_held (suc n) = none_held n

pub any_order_gives_the_serial_run : AnyOrderGivesTheSerialRun
any_order_gives_the_serial_run tape workers calls p is leads =
    let P : Record → Type 0 = λ t. GivesSerialRun t calls p in
    subst P same (record {
      once = λ k. at_most_once calls (started tape workers) p k start leads;
      given = λ k fired. let less : times_in k calls ≤ 1 = at_most_once calls (started tape workers) p k start leads in
          let more : 1 ≤ times_in k calls = at_least_once calls (started tape workers) p k start leads (free_at_start tape workers k) (by_fired (is_fired p.values k) (is_held p.held k) fired) in
          omega (arith, less, more);
      order = subst (λ (t : Record). AreInOrder t.steps [] calls) (sym same) (in_order calls (started tape workers) p [] start leads
          (λ j f. absurd (both_ways (is_fired (started tape workers).values j) (none_fired (length tape.steps) j) f)));
      value = end.0.value;
      prefix = prefix p end.0;
      whole = whole p end.0;
      goes_on = goes_on p end.0;
    })
  where
    start : IsSound (started tape workers)
    start = started_sound tape workers is

    end : IsSound p × (p.tape ≡ tape)
    end = sound_all calls (started tape workers) p start leads

    same : p.tape ≡ tape
    same = end.1
