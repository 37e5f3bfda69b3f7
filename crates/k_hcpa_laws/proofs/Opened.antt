-- Live levels, and the heaviest paths of the open instances, behind each kind of event.
use Rattle.std.proofs.Common.{ℕ, ◌≡◌, ◌+◌, ◌-◌, ◌<◌, ◌≤◌, ◌⊎◌, List, [], ◌∷◌, ◌++◌, length, get_or, slice_get, Some, arith, sym, subst, ap, inl, inr, ◌∙◌}
use Rattle.std.proofs.lemmas.Option.{slice_get_within}
use Rattle.std.proofs.lemmas.List.{append-nil, length_push, get_or_append_left, get_or_push, get_or-take, length-take-le}
use Rattle.k_num.specs.declared.place.Place.{Place}
use Rattle.k_optab.specs.declared.class.Class.{Class}
use Rattle.k_optab.specs.declared.event.Event.{Event}
use Rattle.k_optab.specs.declared.event.Event.TheVariants.{Op, Enter, Exit}
use Rattle.k_optab.specs.declared.event.Src.{Src}
use Rattle.k_optab.specs.Events.{Operation, operations}
use Rattle.k_optab.specs.Graph.{Heaviest}
use Rattle.k_optab.specs.Open.{Open, open_after}
use Rattle.k_optab.specs.OpenLaws.{next_open}
use Rattle.k_optab.proofs.Heaviest.{heaviest_empty}
use Rattle.k_optab.proofs.Leaving.{exits_close_the_last}
use Rattle.k_optab.proofs.Opening.{operations_keep, enters_open}
use Rattle.k_optab.proofs.Trees.{operations-append}
use Rattle.k_hcpa_meaning.specs.Timed.{ArePaths}
use Rattle.k_hcpa_meaning.specs.Timings.{without_last}
use Rattle.k_hcpa_laws.specs.Depends.{OneMore}
use Rattle.k_hcpa_laws.proofs.Lists.{get_before, get_pushed, last_split}

-- an operation's event is one operation more
pub one_more : (events : List Event) (class : Class) (latency : ℕ) (sources : List Src) (place : Place)
    → OneMore events (events ++ Op class latency sources place ∷ []) (record { class = class; latency = latency; sources = sources; place = place })
one_more events class latency sources place = record {
  operations = operations-append events (Op class latency sources place ∷ []);
  opened = (operations_keep events class latency sources place).0;
}

-- these events make no operation more, and the same operations are there
pub entered_operations : (events : List Event) (region : ℕ) → operations (events ++ Enter region ∷ []) ≡ operations events
entered_operations events region = operations-append events (Enter region ∷ []) ∙ append-nil (operations events)

pub left_operations : (events : List Event) → operations (events ++ Exit ∷ []) ≡ operations events
left_operations events = operations-append events (Exit ∷ []) ∙ append-nil (operations events)

-- an instance more is open
pub entered_length : (events : List Event) (region : ℕ) → length (open_after (events ++ Enter region ∷ [])) ≡ length (open_after events) + 1
entered_length events region =
    ap (λ (opened : List Open). length opened) (enters_open events region).0 ∙ length_push (open_after events) (next_open region events)

-- the instances that were open are so still, and the new one begins with the next operation
pub entered_open : (events : List Event) (region level : ℕ) (o : Open) → slice_get (open_after (events ++ Enter region ∷ [])) level ≡ Some o
    → (slice_get (open_after events) level ≡ Some o) ⊎ ((level ≡ length (open_after events)) × (o.start ≡ length (operations events)))
entered_open events region level o there =
    let found : slice_get (open_after events ++ next_open region events ∷ []) level ≡ Some o =
    ap (λ (opened : List Open). slice_get opened level) (sym (enters_open events region).0) ∙ there in
    elim (get_pushed (open_after events) (next_open region events) level o found) [
      | inl before ↦ inl before
      | inr last ↦ (let start : o.start ≡ length (operations events) = sym (ap (λ (x : Open). x.start) last.1) in inr (last.0, start))
    ]

-- the heaviest paths behind an Enter, where the instance has a level
pub paths_entered : (depth : ℕ) (events : List Event) (region : ℕ) (paths : List ℕ) → length (open_after events) < depth
    → ArePaths depth events paths → ArePaths depth (events ++ Enter region ∷ []) (paths ++ 0 ∷ [])
paths_entered depth events region paths shallow are = record {
  count = omega (arith, length_push paths 0, are.count, entered_length events region);
  each = λ level o below there.
      let inside : length paths ≡ length (open_after events) = omega (arith, are.count) in
      subst (λ (ops : List Operation). Heaviest ops o.start (length ops) (get_or (paths ++ 0 ∷ []) level 0)) (sym (entered_operations events region))
      (elim (entered_open events region level o there) [
        | inl before ↦ older level o before
        | inr last ↦ newest level o last.0 last.1
      ]);
}
  where
    older : (level : ℕ) (o : Open) → slice_get (open_after events) level ≡ Some o
        → Heaviest (operations events) o.start (length (operations events)) (get_or (paths ++ 0 ∷ []) level 0)
    older level o before =
        let within : level < length (open_after events) = slice_get_within (open_after events) level o before in
        let inside : level < length paths = omega (arith, are.count, within) in
        subst (λ (n : ℕ). Heaviest (operations events) o.start (length (operations events)) n) (sym (get_or_append_left paths (0 ∷ []) 0 level inside))
        (are.each level o inside before)

    newest : (level : ℕ) (o : Open) → level ≡ length (open_after events) → o.start ≡ length (operations events)
        → Heaviest (operations events) o.start (length (operations events)) (get_or (paths ++ 0 ∷ []) level 0)
    newest level o last start =
        let at : length paths ≡ level = omega (arith, are.count, last) in
        subst (λ (n : ℕ). Heaviest (operations events) o.start (length (operations events)) n) (sym (get_or_push paths 0 0 level at))
        (heaviest_empty (operations events) o.start (length (operations events)) (omega arith))

-- and where it has none
pub paths_deeper : (depth : ℕ) (events : List Event) (region : ℕ) (paths : List ℕ) → depth ≤ length (open_after events)
    → ArePaths depth events paths → ArePaths depth (events ++ Enter region ∷ []) paths
paths_deeper depth events region paths deep are = record {
  count = omega (arith, are.count, entered_length events region);
  each = λ level o below there.
      subst (λ (ops : List Operation). Heaviest ops o.start (length ops) (get_or paths level 0)) (sym (entered_operations events region))
      (elim (entered_open events region level o there) [
        | inl before ↦ are.each level o below before
        | inr last ↦ absurd (omega (arith, last.0, are.count, below))
      ]);
}

-- an Exit leaves the innermost instance: one fewer is open
pub left_length : (events : List Event) → 0 < length (open_after events)
    → length (open_after (events ++ Exit ∷ [])) + 1 ≡ length (open_after events)
left_length events some =
    let split = last_split (open_after events) some in
    let outer : open_after (events ++ Exit ∷ []) ≡ split.0 = (exits_close_the_last events split.0 split.1.0 split.1.1).0 in
    omega (arith, ap (λ (opened : List Open). length opened) outer, ap (λ (opened : List Open). length opened) split.1.1, length_push split.0 split.1.0)

-- and those that are open were open before
pub left_open : (events : List Event) (level : ℕ) (o : Open) → 0 < length (open_after events)
    → slice_get (open_after (events ++ Exit ∷ [])) level ≡ Some o → slice_get (open_after events) level ≡ Some o
left_open events level o some there =
    let split = last_split (open_after events) some in
    let outer : open_after (events ++ Exit ∷ []) ≡ split.0 = (exits_close_the_last events split.0 split.1.0 split.1.1).0 in
    let here : slice_get split.0 level ≡ Some o = ap (λ (opened : List Open). slice_get opened level) (sym outer) ∙ there in
    ap (λ (opened : List Open). slice_get opened level) split.1.1 ∙ get_before split.0 (split.1.0 ∷ []) level o here

-- the heaviest paths behind an Exit, where the innermost instance has a level
pub paths_left : (depth : ℕ) (events : List Event) (paths : List ℕ) → 0 < length (open_after events) → length (open_after events) ≤ depth
    → ArePaths depth events paths → ArePaths depth (events ++ Exit ∷ []) (without_last paths)
paths_left depth events paths some shallow are =
    let one_fewer : length (open_after (events ++ Exit ∷ [])) + 1 ≡ length (open_after events) = left_length events some in
    let long : length paths ≡ length (open_after events) = omega (arith, are.count) in
    let cut : length (without_last paths) ≡ length paths - 1 = length-take-le (length paths - 1) paths (omega arith) in
    record {
      count = omega (arith, one_fewer, long, cut);
      each = λ level o below there.
          let inside : level < length paths - 1 = omega (arith, cut, below) in
          let same : get_or (without_last paths) level 0 ≡ get_or paths level 0 = get_or-take (length paths - 1) paths level 0 inside in
          subst (λ (ops : List Operation). Heaviest ops o.start (length ops) (get_or (without_last paths) level 0)) (sym (left_operations events))
          (subst (λ (n : ℕ). Heaviest (operations events) o.start (length (operations events)) n) (sym same)
          (are.each level o (omega arith) (left_open events level o some there)));
    }

-- and where it has none
pub paths_shallower : (depth : ℕ) (events : List Event) (paths : List ℕ) → 0 < length (open_after events) → depth < length (open_after events)
    → ArePaths depth events paths → ArePaths depth (events ++ Exit ∷ []) paths
paths_shallower depth events paths some deep are = record {
  count = omega (arith, are.count, left_length events some);
  each = λ level o below there.
      subst (λ (ops : List Operation). Heaviest ops o.start (length ops) (get_or paths level 0)) (sym (left_operations events))
      (are.each level o below (left_open events level o some there));
}
