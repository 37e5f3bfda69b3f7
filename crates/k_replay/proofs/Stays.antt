-- What a core keeps stays so.
use Rattle.std.proofs.Common.{◌≡◌, ◌≢◌, ℕ, zero, suc, ◌-◌, ◌<◌, ◌⊎◌, inl, inr, List, [], ◌∷◌, length, get_or, set, replicate, Option, Some, None, Bool, true, false, Contains, All, refl, sym, ◌∙◌, ap, subst, arith}
use Rattle.std.specs.Prelude.{◌&&◌, not, is_some, slice_get}
use Rattle.std.proofs.Math.ListN.{length-set}
use Rattle.std.proofs.lemmas.Bool.{and_left, and_right, cases_eq}
use Rattle.std.proofs.lemmas.List.{get_or-set_same, get_or-set_other}
use Rattle.std.proofs.lemmas.List.Elements.{Contains-get_or}
use Rattle.std.proofs.lemmas.Option.{get_or_from_slice_get, slice_get_read}
use Rattle.k_replay_record.specs.declared.record.Datum.{Datum}
use Rattle.k_replay_record.specs.declared.record.Operand.TheVariants.{From}
use Rattle.k_replay_record.specs.declared.record.Record.{Record}
use Rattle.k_replay_record.specs.declared.record.Step.{Step}
use Rattle.k_replay_record.specs.Records.{IsRecord}
use Rattle.k_replay.specs.Kept.{AreUsers, IsKept, Kept, NamesBelow, Renews}
use Rattle.k_replay.specs.Plays.{Play, can_give, fired_by, has_sources, held_by, is_fired, is_held, is_ready, left_in, value_at, with_held}
use Rattle.k_replay.specs.Ready.{IsLeast}
use Rattle.k_replay.specs.Sound.{IsSound}
use Rattle.k_replay.proofs.Firing.{are_given_without, given_other, given_same, held_still, held_there, one_fewer}
use Rattle.k_replay.proofs.Keeping.{fired_sound, given_sound, started_sound}
use Rattle.k_replay_record.proofs.Lists.{contains_none, contains_cases, contains_behind}
use Rattle.k_replay.proofs.Ordering.{held_of, number_not, of_none, of_other}

contains_or_not : (xs : List ℕ) (k : ℕ) → Contains xs k ⊎ (Contains xs k → ⊥)
contains_or_not [] k = inr (contains_none k)
contains_or_not (x ∷ xs) k = go (cases_eq x k) (contains_or_not xs k)
  where
    go : (x ≡ k) ⊎ (x ≢ k) → Contains xs k ⊎ (Contains xs k → ⊥) → Contains (x ∷ xs) k ⊎ (Contains (x ∷ xs) k → ⊥)
    go (inl e) rest = inl (0, omega arith, e)
    go (inr ne) (inl there) = inl (contains_behind x xs k there)
    go (inr ne) (inr absent) = inr (λ c. elim (contains_cases x xs k c) [ inl e ↦ ne e | inr there ↦ absent there ])

all_left : (n : ℕ) → n ≡ left_in (replicate n None)
all_left zero = refl
all_left (suc n) = ap (λ m. suc m) (all_left n)

-- what is kept at the start
pub started_kept : (tape : Record) (workers : ℕ) (held : List (Option ℕ)) (values : List (Option Datum)) (output : List ℕ) (flags : List Bool) (users : List (List ℕ)) (count : ℕ)
    → IsRecord tape → held ≡ replicate workers None → values ≡ replicate (length tape.steps) None → output ≡ [] → count ≡ length tape.steps
    → length flags ≡ length tape.steps → ((k : ℕ) → get_or flags k false ≡ can_give tape.steps held values k)
    → length users ≡ length tape.steps → AreUsers users tape.steps → NamesBelow users (length tape.steps)
    → IsKept (record { play = record { tape = tape; held = held; values = values; output = output }; left = count; ready = flags; users = users })
unfolding is_ready
started_kept tape workers held values output flags users count is h v o n long ready lists all below = record {
  sound = subst IsSound (λ i. record { tape = tape; held = sym h i; values = sym v i; output = sym o i }) (started_sound tape workers is);
  left = n ∙ all_left (length tape.steps) ∙ ap left_in (sym v);
  flags = long;
  ready = ready;
  lists = lists;
  users = all;
  named = below;
}

held_false : (p : Play) (k : ℕ) → is_held p.held k ≡ true → is_ready p k ≡ false
unfolding is_ready
held_false p k h = and_right (has_sources p.values (slice_get p.tape.steps k)) _ (and_right (not (is_fired p.values k)) _ (ap not h))

fired_false : (p : Play) (k : ℕ) → is_fired p.values k ≡ true → is_ready p k ≡ false
unfolding is_ready
fired_false p k h = and_right (has_sources p.values (slice_get p.tape.steps k)) _ (and_left (not (is_fired p.values k)) _ (ap not h))

-- an operation that is given can be given no more, and all others as before
ready_given : (p : Play) (w k m : ℕ) → held_by p w ≡ None → m ≢ k → is_ready (with_held w (Some k) p) m ≡ is_ready p m
unfolding is_ready
ready_given p w k m free ne = ap (λ (b : Bool). has_sources p.values (slice_get p.tape.steps m) && (not (is_fired p.values m) && not b))
    (held_still p.held w m (Some k) (of_none p.held w m free) (number_not m k ne))

pub given_kept : (s : Kept) (w k : ℕ) → IsKept s → w < length s.play.held → held_by s.play w ≡ None → k < length s.ready → is_ready s.play k ≡ true
    → IsKept (record s { play = with_held w (Some k) s.play; ready = set s.ready k false })
given_kept s w k kept within free low can = record {
  sound = given_sound s.play w k kept.sound within free can;
  left = kept.left;
  flags = length-set s.ready k false ∙ kept.flags;
  ready = λ m. flag m (cases_eq m k);
  lists = kept.lists;
  users = kept.users;
  named = kept.named;
}
  where
    after : Play
    after = with_held w (Some k) s.play

    flag : (m : ℕ) → (m ≡ k) ⊎ (m ≢ k) → get_or (set s.ready k false) m false ≡ is_ready after m
    flag m (inl e) = ap (λ (n : ℕ). get_or (set s.ready k false) n false) e ∙ get_or-set_same s.ready k false false low
        ∙ sym (held_false after k (held_there (set s.play.held w (Some k)) w k (get_or-set_same s.play.held w (Some k) None within))) ∙ ap (is_ready after) (sym e)
    flag m (inr ne) = get_or-set_other s.ready k m false false ne ∙ kept.ready m ∙ sym (ready_given s.play w k m free ne)

-- where a step does not come from the one that is fired, it can be given as before
ready_without : (p : Play) (w k m : ℕ) → held_by p w ≡ Some k → m ≢ k → ((s : Step) → slice_get p.tape.steps m ≡ Some s → Contains s.operands (From k) → ⊥)
    → is_ready (fired_by w k p) m ≡ is_ready p m
unfolding is_ready
ready_without p w k m holds ne without = λ i. sources (slice_get p.tape.steps m) refl i && (not (is_some (given_other p.values k m v ne i)) && not (held i))
  where
    v : Datum
    v = value_at p.values (slice_get p.tape.steps k)

    held : is_held (set p.held w None) m ≡ is_held p.held m
    held = held_still p.held w m None (of_other p.held w m k holds ne) refl

    sources : (o : Option Step) → slice_get p.tape.steps m ≡ o → has_sources (set p.values k (Some v)) o ≡ has_sources p.values o
    sources None e = refl
    sources (Some s) e = are_given_without p.values k v s.operands (without s e)

can_is : (p : Play) (m : ℕ) → can_give p.tape.steps p.held p.values m ≡ is_ready p m
unfolding is_ready
can_is p m = refl

-- what is kept once an operation is fired
pub fired_kept : (s t : Kept) (w k : ℕ) → IsKept s → w < length s.play.held → held_by s.play w ≡ Some k → t.play ≡ fired_by w k s.play → t.left ≡ s.left - 1
    → t.users ≡ s.users → Renews (get_or s.users k []) (can_give t.play.tape.steps t.play.held t.play.values) s.ready t.ready → IsKept t
fired_kept s t w k kept within holds play less users renewed = record {
  sound = subst IsSound (sym play) (fired_sound s.play w k kept.sound within holds);
  left = less ∙ ap (λ n. n - 1) (kept.left ∙ one_fewer s.play.values k v low (kept.sound.not_fired w k holds)) ∙ one_less (left_in (set s.play.values k (Some v))) ∙ ap (λ (p : Play). left_in p.values) (sym play);
  flags = renewed.lengths ∙ kept.flags ∙ ap (λ (p : Play). length p.tape.steps) (sym play);
  ready = λ m. flag m (contains_or_not (get_or s.users k []) m) (cases_eq m k);
  lists = ap length users ∙ kept.lists ∙ ap (λ (p : Play). length p.tape.steps) (sym play);
  users = subst (λ (p : Play). AreUsers t.users p.tape.steps) (sym play) (subst (λ (us : List (List ℕ)). AreUsers us s.play.tape.steps) (sym users) kept.users);
  named = subst (λ (p : Play). NamesBelow t.users (length p.tape.steps)) (sym play) (subst (λ (us : List (List ℕ)). NamesBelow us (length s.play.tape.steps)) (sym users) kept.named);
}
  where
    v : Datum
    v = value_at s.play.values (slice_get s.play.tape.steps k)

    low : k < length s.play.values
    low = held_of s.play w k kept.sound holds

    one_less : (n : ℕ) → suc n - 1 ≡ n
    one_less n = omega arith

    flag : (m : ℕ) → Contains (get_or s.users k []) m ⊎ (Contains (get_or s.users k []) m → ⊥) → (m ≡ k) ⊎ (m ≢ k) → get_or t.ready m false ≡ is_ready t.play m
    flag m (inl there) e = renewed.here m there ∙ can_is t.play m
    flag m (inr absent) (inl e) = renewed.others m absent ∙ kept.ready m ∙ ap (is_ready s.play) e ∙ held_false s.play k (held_there s.play.held w k holds)
        ∙ sym (fired_false (fired_by w k s.play) k (ap is_some (given_same s.play.values k v low))) ∙ ap (is_ready (fired_by w k s.play)) (sym e)
        ∙ ap (λ (p : Play). is_ready p m) (sym play)
    flag m (inr absent) (inr ne) = renewed.others m absent ∙ kept.ready m
        ∙ sym (ready_without s.play w k m holds ne (λ x at c. absent (kept.users m k x at c))) ∙ ap (λ (p : Play). is_ready p m) (sym play)

-- something is left where a worker holds an operation
pub some_left : (s : Kept) (w k : ℕ) → IsKept s → held_by s.play w ≡ Some k → 0 < s.left
some_left s w k kept holds =
    let low : k < length s.play.values = held_of s.play w k kept.sound holds in
    let more : left_in s.play.values ≡ suc (left_in (set s.play.values k (Some (value_at s.play.values (slice_get s.play.tape.steps k)))))
    = one_fewer s.play.values k (value_at s.play.values (slice_get s.play.tape.steps k)) low (kept.sound.not_fired w k holds) in
    omega (arith, more, kept.left)

-- and it is one of the steps
pub held_step : (s : Kept) (w k : ℕ) → IsKept s → held_by s.play w ≡ Some k → k < length s.play.tape.steps
held_step s w k kept holds = let low = held_of s.play w k kept.sound holds in omega (arith, low, kept.sound.lengths)

-- all that a list names are below a limit
pub all_named : (users : List (List ℕ)) (j limit : ℕ) (list : List ℕ) → NamesBelow users limit → j < length users → list ≡ get_or users j list → All (λ k. k < limit) list
all_named users j limit list below within is k d low =
    let at : get_or users j [] ≡ list = get_or_from_slice_get users j list [] (slice_get_read users (length users) j list refl within is) in
    below j (get_or list k d) (subst (λ (xs : List ℕ). Contains xs (get_or list k d)) (sym at) (Contains-get_or list k d low))

set_within : (flags : List Bool) (k : ℕ) → get_or flags k false ≡ true → k < length flags
set_within [] k h = absurd (cc)
set_within (x ∷ flags) zero h = omega arith
set_within (x ∷ flags) (suc k) h = let low = set_within flags k h in omega arith

-- what is kept once an operation is given, the least of the flags
pub taken_kept : (s t : Kept) (w k : ℕ) → IsKept s → w < length s.play.held → held_by s.play w ≡ None → IsLeast s.ready k
    → t ≡ record s { play = with_held w (Some k) s.play; ready = set s.ready k false } → IsKept t
taken_kept s t w k kept within free least is =
    subst IsKept (sym is) (given_kept s w k kept within free (set_within s.ready k least.within) (sym (kept.ready k) ∙ least.within))

-- an option that is no number is none
pub none_of : (o : Option ℕ) → ((x : ℕ) → o ≡ Some x → ⊥) → o ≡ None
none_of None other = refl
none_of (Some x) other = absurd (other x refl)
