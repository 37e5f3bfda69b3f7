-- What holds of a pass at each place among the events.
use Rattle.std.proofs.Common.{◌≡◌, ℕ, zero, suc, ◌+◌, ◌-◌, ◌<◌, ◌≤◌, ◌^◌, inl, inr, List, [], ◌∷◌, ◌++◌, length, Option, Some, None, Bool, true, false, refl, sym, ◌∙◌, subst, ap, arith, slice_get, get_or, drop, min, map, append_assoc, append-nil, length-append}
use Rattle.std.specs.Prelude.{nat_lt, filter, if◌then◌else◌, ◌==◌}
use Rattle.std.proofs.lemmas.Bool.{cases_lt, cases_eq}
use Rattle.std.proofs.Math.Seq.{drop-cons}
use Rattle.std.proofs.Math.Numerals.{add-one}
use Rattle.std.proofs.lemmas.List.{length-map, drop_all}
use Rattle.std.proofs.lemmas.List.Elements.{filter-append}
use Rattle.k_num.specs.declared.place.Place.{Place}
use Rattle.k_optab.specs.declared.class.Class.{Class}
use Rattle.k_optab.specs.declared.event.Src.{Src}
use Rattle.k_optab.specs.declared.event.Event.{Event}
use Rattle.k_optab.specs.declared.event.Event.TheVariants.{Op, Enter, Exit}
use Rattle.k_optab.specs.Events.{Operation, operations, SourcesAreEarlier, total_latency}
use Rattle.k_optab.specs.declared.closed.Closed.{Closed}
use Rattle.k_optab.specs.Instances.{until_exit, instance_of, closed_from, tracked}
use Rattle.k_graph.specs.declared.level.Level.{Level}
use Rattle.k_graph.specs.declared.level.Measured.{Measured}
use Rattle.k_graph.specs.Levels.{CanAdd, added}
use Rattle.k_optab.specs.Graph.{Heaviest}
use Rattle.k_optab.specs.Tree.{EachWith, IsNodeOf}
use Rattle.k_optab.proofs.Crossing.{instances_are_left_later, instances_never_cross}
use Rattle.k_graph.specs.declared.tree.Instance.{Instance}
use Rattle.k_graph.specs.Listings.{AreNested, HasParent, IsListed, IsListing, closed_of, node_of}
use Rattle.k_graph.specs.Passes.{State, CanTake, start_state, operated, entered, new_level, close_into, closed, exited, taken, listed}
use Rattle.k_graph.proofs.Entries.{live, live_operation, live_enter, live_enter_level, live_exit, live_close, live_end, levels_close}
use Rattle.k_graph.proofs.Measures.{Every, every_all, every_append, every_map, every_weaker, IsMeasured, IsLevel, entered_level, closed_levels, added_level, can_add}

-- the instances of the events to come
abbrev pub coming : ℕ → List Event → ℕ → ℕ → ℕ → List Closed
coming limit rest place made open_count = filter (λ i. nat_lt i.depth limit) (closed_from rest place made open_count)

-- the pass has taken all events but these
pub record IsBefore (limit : ℕ) (events rest : List Event) (s : State) : Type 0 where
  pub limit_is : s.limit ≡ limit
  pub listing : map closed_of s.done ++ (live rest s.passed s.made (s.open_count - length s.levels) s.levels ++ coming limit rest s.passed s.made s.open_count)
      ≡ tracked limit events
  pub depth : length s.levels ≡ min s.open_count limit
  pub operations_left : drop s.made (operations events) ≡ operations rest
  pub count : s.passed + length rest ≡ length events
  pub made_few : s.made ≤ s.passed
  pub open_few : s.open_count ≤ s.passed
  pub levels : Every (IsLevel (operations events) s.made) s.levels
  pub done : Every (IsMeasured (operations events)) s.done

pub at_start : (limit : ℕ) (events : List Event) → IsBefore limit events events (start_state limit)
at_start limit events = record {
  limit_is = refl;
  listing = refl;
  depth = omega arith;
  operations_left = refl;
  count = omega arith;
  made_few = omega arith;
  open_few = omega arith;
  levels = tt;
  done = tt;
}

-- the head of what is left of a list
pub dropped_head : {A : Type 0} (n : ℕ) (xs : List A) (y : A) (ys : List A) → drop n xs ≡ y ∷ ys → (slice_get xs n ≡ Some y) × (drop (n + 1) xs ≡ ys)
dropped_head zero [] y ys h = cc
dropped_head zero (x ∷ xs) y ys h = let one : x ≡ y = cc in let two : xs ≡ ys = cc in (ap Some one, two)
dropped_head (suc n) [] y ys h = cc
dropped_head (suc n) (x ∷ xs) y ys h =
    let found : (slice_get xs n ≡ Some y) × (drop (n + 1) xs ≡ ys) = dropped_head n xs y ys h in
    let next : suc n + 1 ≡ suc (n + 1) = omega arith in
    (found.0, ap (λ k. drop k (x ∷ xs)) next ∙ found.1)

pub if_true : {A : Type 0} (b : Bool) (x y : A) → b ≡ true → (if b then x else y) ≡ x
if_true true x y h = refl
if_true false x y h = cc

pub if_false : {A : Type 0} (b : Bool) (x y : A) → b ≡ false → (if b then x else y) ≡ y
if_false true x y h = cc
if_false false x y h = refl

-- what an Exit makes of the state, by cases
exited_idle : (s : State) → s.open_count ≡ 0 → exited s ≡ record s { passed = s.passed + 1 }
exited_idle s none = let test : (s.open_count == 0) ≡ true = search (arith) in if_true (s.open_count == 0) _ _ test

exited_deep : (s : State) → (s.open_count ≡ 0 → ⊥) → s.limit < s.open_count → exited s ≡ record s { passed = s.passed + 1; open_count = s.open_count - 1 }
exited_deep s some deep =
    let test : (s.open_count == 0) ≡ false = search (arith) in
    let other : nat_lt s.limit s.open_count ≡ true = search (arith) in
    if_false (s.open_count == 0) _ _ test ∙ if_true (nat_lt s.limit s.open_count) _ _ other

exited_tracked : (s : State) → (s.open_count ≡ 0 → ⊥) → s.open_count ≤ s.limit → exited s ≡ record (closed s) { passed = s.passed + 1; open_count = s.open_count - 1 }
exited_tracked s some low =
    let test : (s.open_count == 0) ≡ false = search (arith) in
    let other : nat_lt s.limit s.open_count ≡ false = search (arith) in
    if_false (s.open_count == 0) _ _ test ∙ if_false (nat_lt s.limit s.open_count) _ _ other

module _ (limit : ℕ) (events rest : List Event) (earlier : SourcesAreEarlier (operations events)) where
  pub operation_taken : (class : Class) (latency : ℕ) (sources : List Src) (here : Place) (s : State)
      → IsBefore limit events (Op class latency sources here ∷ rest) s → IsBefore limit events rest (operated latency sources s)
  operation_taken class latency sources here s is =
      let op : Operation = record { class = class; latency = latency; sources = sources; place = here } in
      let head : (slice_get (operations events) s.made ≡ Some op) × (drop (s.made + 1) (operations events) ≡ operations rest) =
      dropped_head s.made (operations events) op (operations rest) is.operations_left in
      let size : length (map (added latency sources) s.levels) ≡ length s.levels = length-map s.levels (added latency sources) in
      record {
        limit_is = is.limit_is;
        listing =
            ap (λ n. map closed_of s.done ++ (live rest (s.passed + 1) (s.made + 1) (s.open_count - n) (map (added latency sources) s.levels)
            ++ coming limit rest (s.passed + 1) (s.made + 1) s.open_count)) size
            ∙ (ap (λ l. map closed_of s.done ++ (l ++ coming limit rest (s.passed + 1) (s.made + 1) s.open_count))
            (sym (live_operation rest s.passed s.made class latency sources here (s.open_count - length s.levels) s.levels))
            ∙ is.listing);
        depth = size ∙ is.depth;
        operations_left = head.1;
        count = (let count = is.count in omega arith);
        made_few = (let few = is.made_few in omega arith);
        open_few = (let few = is.open_few in omega arith);
        levels = every_map (IsLevel (operations events) s.made) (IsLevel (operations events) (s.made + 1)) (added latency sources) s.levels
            (λ level. added_level (operations events) earlier s.made op head.0 level) is.levels;
        done = is.done;
      }

  -- what an Enter lists, where its depth is tracked and where it is not
  filter_instance : (region open_count place made : ℕ) (found : Option (List Event)) → nat_lt open_count limit ≡ true
      → filter (λ i. nat_lt i.depth limit) (instance_of region open_count place made found) ≡ instance_of region open_count place made found
  filter_instance region open_count place made None test = refl
  filter_instance region open_count place made (Some inside) test = rw test refl

  filter_no_instance : (region open_count place made : ℕ) (found : Option (List Event)) → nat_lt open_count limit ≡ false
      → filter (λ i. nat_lt i.depth limit) (instance_of region open_count place made found) ≡ []
  filter_no_instance region open_count place made None test = refl
  filter_no_instance region open_count place made (Some inside) test = rw test refl

  tracked_entered : (region : ℕ) (s : State) → s.open_count < limit → IsBefore limit events (Enter region ∷ rest) s
      → IsBefore limit events rest (record s { passed = s.passed + 1; open_count = s.open_count + 1; levels = s.levels ++ new_level region s ∷ [] })
  tracked_entered region s low is =
      let test : nat_lt s.open_count limit ≡ true = search (arith) in
      let depth : length s.levels ≡ min s.open_count limit = is.depth in
      let size : length (s.levels ++ new_level region s ∷ []) ≡ length s.levels + 1 = length-append s.levels (new_level region s ∷ []) in
      let none : s.open_count - length s.levels ≡ 0 = omega arith in
      let still : (s.open_count + 1) - length (s.levels ++ new_level region s ∷ []) ≡ 0 = omega arith in
      let after = coming limit rest (s.passed + 1) s.made (s.open_count + 1) in
      let inst = instance_of region s.open_count s.passed s.made (until_exit rest 0) in
      let come : coming limit (Enter region ∷ rest) s.passed s.made s.open_count ≡ inst ++ after =
      filter-append (λ i. nat_lt i.depth limit) inst (closed_from rest (s.passed + 1) s.made (s.open_count + 1))
      ∙ ap (λ l. l ++ after) (filter_instance region s.open_count s.passed s.made (until_exit rest 0) test) in
      record {
        limit_is = is.limit_is;
        listing =
            ap (λ n. map closed_of s.done ++ (live rest (s.passed + 1) s.made n (s.levels ++ new_level region s ∷ []) ++ after)) still
            ∙ (ap (λ l. map closed_of s.done ++ (l ++ after))
            (sym (live_enter_level rest s.passed s.made region (new_level region s) refl refl refl refl s.levels))
            ∙ (ap (λ l. map closed_of s.done ++ l) (append_assoc (live (Enter region ∷ rest) s.passed s.made 0 s.levels) inst after)
            ∙ (ap (λ l. map closed_of s.done ++ (live (Enter region ∷ rest) s.passed s.made 0 s.levels ++ l)) (sym come)
            ∙ (ap (λ n. map closed_of s.done ++ (live (Enter region ∷ rest) s.passed s.made n s.levels ++ coming limit (Enter region ∷ rest) s.passed s.made s.open_count)) (sym none)
            ∙ is.listing))));
        depth = omega arith;
        operations_left = is.operations_left;
        count = (let count = is.count in omega arith);
        made_few = (let few = is.made_few in omega arith);
        open_few = (let few = is.open_few in omega arith);
        levels = every_append (IsLevel (operations events) s.made) s.levels (new_level region s ∷ []) is.levels
            (entered_level (operations events) s.made (new_level region s) refl refl refl refl refl, tt);
        done = is.done;
      }

  untracked_entered : (region : ℕ) (s : State) → limit ≤ s.open_count → IsBefore limit events (Enter region ∷ rest) s
      → IsBefore limit events rest (record s { passed = s.passed + 1; open_count = s.open_count + 1 })
  untracked_entered region s high is =
      let test : nat_lt s.open_count limit ≡ false = search (arith) in
      let depth : length s.levels ≡ min s.open_count limit = is.depth in
      let deeper : (s.open_count + 1) - length s.levels ≡ (s.open_count - length s.levels) + 1 = omega arith in
      let after = coming limit rest (s.passed + 1) s.made (s.open_count + 1) in
      let inst = instance_of region s.open_count s.passed s.made (until_exit rest 0) in
      let come : coming limit (Enter region ∷ rest) s.passed s.made s.open_count ≡ after =
      filter-append (λ i. nat_lt i.depth limit) inst (closed_from rest (s.passed + 1) s.made (s.open_count + 1))
      ∙ ap (λ l. l ++ after) (filter_no_instance region s.open_count s.passed s.made (until_exit rest 0) test) in
      record {
        limit_is = is.limit_is;
        listing =
            ap (λ n. map closed_of s.done ++ (live rest (s.passed + 1) s.made n s.levels ++ after)) deeper
            ∙ (ap (λ l. map closed_of s.done ++ (l ++ after)) (sym (live_enter rest s.passed s.made region (s.open_count - length s.levels) s.levels))
            ∙ (ap (λ l. map closed_of s.done ++ (live (Enter region ∷ rest) s.passed s.made (s.open_count - length s.levels) s.levels ++ l)) (sym come)
            ∙ is.listing));
        depth = omega arith;
        operations_left = is.operations_left;
        count = (let count = is.count in omega arith);
        made_few = (let few = is.made_few in omega arith);
        open_few = (let few = is.open_few in omega arith);
        levels = is.levels;
        done = is.done;
      }

  enter_taken : (region : ℕ) (s : State) → IsBefore limit events (Enter region ∷ rest) s → IsBefore limit events rest (entered region s)
  enter_taken region s is = elim (cases_lt s.open_count limit) [
    | inl low ↦
        (let test : nat_lt s.open_count s.limit ≡ true = (let same = is.limit_is in let less : s.open_count < s.limit = omega arith in search (arith)) in
        let next : entered region s ≡ record s { passed = s.passed + 1; open_count = s.open_count + 1; levels = s.levels ++ new_level region s ∷ [] } =
        ap (λ b. record s { passed = s.passed + 1; open_count = s.open_count + 1; levels = if b then s.levels ++ new_level region s ∷ [] else s.levels }) test in
        subst (λ t. IsBefore limit events rest t) (sym next) (tracked_entered region s low is))
    | inr high ↦
        (let test : nat_lt s.open_count s.limit ≡ false = (let same = is.limit_is in let more : s.limit ≤ s.open_count = omega arith in search (arith)) in
        let next : entered region s ≡ record s { passed = s.passed + 1; open_count = s.open_count + 1 } =
        ap (λ b. record s { passed = s.passed + 1; open_count = s.open_count + 1; levels = if b then s.levels ++ new_level region s ∷ [] else s.levels }) test in
        subst (λ t. IsBefore limit events rest t) (sym next) (untracked_entered region s high is))
  ]

  idle_exit : (s : State) → s.open_count ≡ 0 → IsBefore limit events (Exit ∷ rest) s → IsBefore limit events rest (record s { passed = s.passed + 1 })
  idle_exit s none is =
      let depth : length s.levels ≡ min s.open_count limit = is.depth in
      let same : s.open_count - 1 ≡ s.open_count = omega arith in
      let empty : s.levels ≡ [] = no_levels s.levels (omega arith) in
      record {
        limit_is = is.limit_is;
        listing =
            ap (λ l. map closed_of s.done ++ (live rest (s.passed + 1) s.made (s.open_count - length l) l ++ coming limit rest (s.passed + 1) s.made s.open_count)) empty
            ∙ (ap (λ n. map closed_of s.done ++ ([] ++ coming limit rest (s.passed + 1) s.made n)) (sym same)
            ∙ (ap (λ l. map closed_of s.done ++ (live (Exit ∷ rest) s.passed s.made (s.open_count - length l) l ++ coming limit (Exit ∷ rest) s.passed s.made s.open_count)) (sym empty)
            ∙ is.listing));
        depth = is.depth;
        operations_left = is.operations_left;
        count = (let count = is.count in omega arith);
        made_few = (let few = is.made_few in omega arith);
        open_few = (let few = is.open_few in omega arith);
        levels = is.levels;
        done = is.done;
      }
    where
      no_levels : (levels : List Level) → length levels ≡ 0 → levels ≡ []
      no_levels [] h = refl
      no_levels (level ∷ levels) h = absurd (omega arith)

  untracked_exit : (s : State) → limit < s.open_count → IsBefore limit events (Exit ∷ rest) s
      → IsBefore limit events rest (record s { passed = s.passed + 1; open_count = s.open_count - 1 })
  untracked_exit s deep is =
      let depth : length s.levels ≡ min s.open_count limit = is.depth in
      let deeper : s.open_count - length s.levels ≡ ((s.open_count - 1) - length s.levels) + 1 = omega arith in
      record {
        limit_is = is.limit_is;
        listing =
            ap (λ l. map closed_of s.done ++ (l ++ coming limit rest (s.passed + 1) s.made (s.open_count - 1)))
            (sym (live_exit rest s.passed s.made ((s.open_count - 1) - length s.levels) s.levels))
            ∙ (ap (λ n. map closed_of s.done ++ (live (Exit ∷ rest) s.passed s.made n s.levels ++ coming limit rest (s.passed + 1) s.made (s.open_count - 1))) (sym deeper)
            ∙ is.listing);
        depth = omega arith;
        operations_left = is.operations_left;
        count = (let count = is.count in omega arith);
        made_few = (let few = is.made_few in omega arith);
        open_few = (let few = is.open_few in omega arith);
        levels = is.levels;
        done = is.done;
      }

  closes : (s : State) (levels : List Level) → 0 < length levels
      → (map closed_of s.done ++ live (Exit ∷ rest) s.passed s.made 0 levels
      ≡ map closed_of (close_into s.passed s.made s.done levels).done ++ live rest (s.passed + 1) s.made 0 (close_into s.passed s.made s.done levels).levels)
      × (length (close_into s.passed s.made s.done levels).levels + 1 ≡ length levels)
  closes s [] some = absurd (omega arith)
  closes s (level ∷ levels) some =
      (live_close rest s.passed s.made s.done level levels, (let size = levels_close s.passed s.made s.done level levels in omega arith))

  tracked_exit : (s : State) → 0 < s.open_count → s.open_count ≤ limit → IsBefore limit events (Exit ∷ rest) s
      → IsBefore limit events rest (record (closed s) { passed = s.passed + 1; open_count = s.open_count - 1 })
  tracked_exit s some low is =
      let depth : length s.levels ≡ min s.open_count limit = is.depth in
      let none : s.open_count - length s.levels ≡ 0 = omega arith in
      let close = closes s s.levels (omega arith) in
      let size : length (closed s).levels + 1 ≡ length s.levels = close.1 in
      let still : (s.open_count - 1) - length (closed s).levels ≡ 0 = omega arith in
      let after = coming limit rest (s.passed + 1) s.made (s.open_count - 1) in
      let kept = closed_levels (operations events) s.made s.passed s.done s.levels is.done is.levels in
      record {
        limit_is = is.limit_is;
        listing =
            ap (λ n. map closed_of (closed s).done ++ (live rest (s.passed + 1) s.made n (closed s).levels ++ after)) still
            ∙ (sym (append_assoc (map closed_of (closed s).done) (live rest (s.passed + 1) s.made 0 (closed s).levels) after)
            ∙ (ap (λ l. l ++ after) (sym close.0)
            ∙ (append_assoc (map closed_of s.done) (live (Exit ∷ rest) s.passed s.made 0 s.levels) after
            ∙ (ap (λ n. map closed_of s.done ++ (live (Exit ∷ rest) s.passed s.made n s.levels ++ after)) (sym none)
            ∙ is.listing))));
        depth = omega arith;
        operations_left = is.operations_left;
        count = (let count = is.count in omega arith);
        made_few = (let few = is.made_few in omega arith);
        open_few = (let few = is.open_few in omega arith);
        levels = kept.1;
        done = kept.0;
      }

  exit_taken : (s : State) → IsBefore limit events (Exit ∷ rest) s → IsBefore limit events rest (exited s)
  exit_taken s is = elim (cases_eq s.open_count 0) [
    | inl none ↦ subst (λ t. IsBefore limit events rest t) (sym (exited_idle s none)) (idle_exit s none is)
    | inr some ↦ elim (cases_lt limit s.open_count) [
      | inl deep ↦ (let less : s.limit < s.open_count = (let same = is.limit_is in omega arith) in
          subst (λ t. IsBefore limit events rest t) (sym (exited_deep s some less)) (untracked_exit s deep is))
      | inr low ↦ (let more : s.open_count ≤ s.limit = (let same = is.limit_is in omega arith) in
          subst (λ t. IsBefore limit events rest t) (sym (exited_tracked s some more)) (tracked_exit s (omega arith) low is))
    ]
  ]

  pub event_taken : (event : Event) (s : State) → IsBefore limit events (event ∷ rest) s → IsBefore limit events rest (taken event s)
  event_taken (Op class latency sources here) s is = operation_taken class latency sources here s is
  event_taken (Enter region) s is = enter_taken region s is
  event_taken Exit s is = exit_taken s is

  pub can_take : total_latency (operations events) < 2 ^ 62 → length events < 2 ^ 64 → limit < 2 ^ 32 → (event : Event) (s : State)
      → IsBefore limit events (event ∷ rest) s → CanTake event s
  can_take small few shallow (Op class latency sources here) s is =
      let op : Operation = record { class = class; latency = latency; sources = sources; place = here } in
      let head : (slice_get (operations events) s.made ≡ Some op) × (drop (s.made + 1) (operations events) ≡ operations rest) =
      dropped_head s.made (operations events) op (operations rest) is.operations_left in
      let count = is.count in
      let made = is.made_few in (
        omega arith,
        omega arith,
        every_all (CanAdd latency sources) s.levels
            (every_weaker (IsLevel (operations events) s.made) (CanAdd latency sources) s.levels
            (λ level. can_add (operations events) earlier s.made op head.0 small level) is.levels),
      )
  can_take small few shallow (Enter region) s is =
      let count = is.count in
      let open_few = is.open_few in
      let same = is.limit_is in
      (omega arith, omega arith, omega arith)
  can_take small few shallow Exit s is = let count = is.count in omega arith

-- after the last event
every_listed : (ops : List Operation) (made : ℕ) (done : List Measured) (levels : List Level) → Every (IsMeasured ops) done → Every (IsLevel ops made) levels
    → Every (IsMeasured ops) (listed done levels)
every_listed ops made done [] are is = are
every_listed ops made done (level ∷ levels) are is =
    every_listed ops made (done ++ level.inner) levels (every_append (IsMeasured ops) done level.inner are is.0.inner) is.1

module _ (limit : ℕ) (events : List Event) (s : State) (is : IsBefore limit events [] s) where
  pub at_end : map closed_of (listed s.done s.levels) ≡ tracked limit events
  at_end =
      live_end s.passed s.made (s.open_count - length s.levels) s.done s.levels
      ∙ (ap (λ l. map closed_of s.done ++ l) (sym (append-nil (live [] s.passed s.made (s.open_count - length s.levels) s.levels)))
      ∙ is.listing)

  pub nested_at_end : AreNested (map closed_of (listed s.done s.levels))
  nested_at_end = subst (λ l. AreNested l) (sym at_end)
      (record { left = instances_are_left_later limit events; apart = instances_never_cross limit events })

  pub listing_at_end : (tree : List Instance) → EachWith (HasParent (map closed_of (listed s.done s.levels))) (listed s.done s.levels) tree
      → IsListing limit events tree
  listing_at_end tree each =
      subst (λ l. EachWith (IsListed (operations events) l) l tree) at_end
      (each_listed (operations events) (map closed_of (listed s.done s.levels)) (listed s.done s.levels) tree each
      (every_listed (operations events) s.made s.done s.levels is.done is.levels))
    where
      each_listed : (ops : List Operation) (all : List Closed) (list : List Measured) (tree : List Instance) → EachWith (HasParent all) list tree
          → Every (IsMeasured ops) list → EachWith (IsListed ops all) (map closed_of list) tree
      each_listed ops all [] [] each measured = tt
      each_listed ops all [] (n ∷ tree) each measured = absurd each
      each_listed ops all (m ∷ list) [] each measured = absurd each
      each_listed ops all (m ∷ list) (n ∷ tree) each measured = (
        record {
          node = record {
            region = ap (λ (x : Instance). x.region) each.0.is;
            depth = ap (λ (x : Instance). x.depth) each.0.is;
            work = ap (λ (x : Instance). x.work) each.0.is ∙ measured.0.work;
            path = subst (λ p. Heaviest ops m.closed.start m.closed.end p) (sym (ap (λ (x : Instance). x.path) each.0.is)) measured.0.path;
          };
          start = ap (λ (x : Instance). x.start) each.0.is;
          end = ap (λ (x : Instance). x.end) each.0.is;
          parent = each.0.parent;
        },
        each_listed ops all list tree each.1 measured.1,
      )

-- the nodes of a listing are the tree's
pub tree_of_listing : (ops : List Operation) (all list : List Closed) (tree : List Instance) → EachWith (IsListed ops all) list tree
    → EachWith (IsNodeOf ops) list (map node_of tree)
tree_of_listing ops all [] [] each = tt
tree_of_listing ops all [] (n ∷ tree) each = absurd each
tree_of_listing ops all (i ∷ list) [] each = absurd each
tree_of_listing ops all (i ∷ list) (n ∷ tree) each =
    (each.0.node, tree_of_listing ops all list tree each.1)

-- the events as a loop reads them: the one at a place, and those behind it
pub before_event : (limit : ℕ) (events shown : List Event) (i : ℕ) (event : Event) (s : State) → shown ≡ events → i < length shown → event ≡ get_or shown i event
    → IsBefore limit events (drop i events) s → IsBefore limit events (event ∷ drop (i + 1) events) s
before_event limit events shown i event s same within item is =
    let size : length shown ≡ length events = ap length same in
    let low : i < length events = omega arith in
    let here : get_or events i event ≡ event = ap (λ l. get_or l i event) (sym same) ∙ sym item in
    let rest : drop i events ≡ get_or events i event ∷ drop (i + 1) events = rw add-one (drop-cons events i event low) in
    subst (λ l. IsBefore limit events l s) (rest ∙ ap (λ x. x ∷ drop (i + 1) events) here) is

pub before_end : (limit : ℕ) (events shown : List Event) (i : ℕ) (s : State) → shown ≡ events → length shown ≤ i
    → IsBefore limit events (drop i events) s → IsBefore limit events [] s
before_end limit events shown i s same past is =
    let size : length shown ≡ length events = ap length same in
    subst (λ l. IsBefore limit events l s) (drop_all i events (omega arith)) is

-- what the listed instances are, where the list is what the pass listed
pub nested_list : (limit : ℕ) (events : List Event) (s : State) (list shown : List Measured) → IsBefore limit events [] s → list ≡ listed s.done s.levels → shown ≡ list
    → AreNested (map closed_of shown)
nested_list limit events s list shown is listed_is shown_is =
    subst (λ l. AreNested (map closed_of l)) (sym listed_is ∙ sym shown_is) (nested_at_end limit events s is)

pub listing_list : (limit : ℕ) (events : List Event) (s : State) (list shown : List Measured) → IsBefore limit events [] s → list ≡ listed s.done s.levels → shown ≡ list
    → (tree : List Instance) → EachWith (HasParent (map closed_of shown)) shown tree → IsListing limit events tree
listing_list limit events s list shown is listed_is shown_is tree each =
    listing_at_end limit events s is tree (subst (λ l. EachWith (HasParent (map closed_of l)) l tree) (shown_is ∙ listed_is) each)
