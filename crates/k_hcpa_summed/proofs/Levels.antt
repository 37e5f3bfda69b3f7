-- The open instances that have levels, behind each event; and the paths of the open ones where some of them are left.
use Rattle.std.proofs.Common.{◌≡◌, ℕ, zero, suc, ◌+◌, ◌-◌, ◌<◌, ◌≤◌, List, [], ◌∷◌, ◌++◌, length, take, reverse, Some, slice_get, slice_index_or, refl, sym, ap, ◌∙◌, subst, arith, length-append}
use Rattle.std.specs.Prelude.{AllPairs}
use Rattle.std.proofs.lemmas.List.{get_or_append_left, reverse-append, take-append-le, take_all}
use Rattle.std.proofs.Math.Seq.{get_or-append_seam}
use Rattle.std.proofs.lemmas.List.Elements.{All-take}
use Rattle.k_optab.specs.declared.event.Event.{Event}
use Rattle.k_optab.specs.declared.event.Event.TheVariants.{Exit}
use Rattle.k_optab.specs.Events.{Operation, operations}
use Rattle.k_optab.specs.Graph.{Heaviest}
use Rattle.k_optab.specs.Open.{Open, open_after}
use Rattle.k_optab.specs.OpenLaws.{IsAround}
use Rattle.k_optab.proofs.Leaving.{open_instances_began}
use Rattle.k_dict_entries.proofs.Places.{place_kept, place_behind}
use Rattle.k_hcpa_meaning.specs.Summed.{open_below}
use Rattle.k_hcpa_meaning.specs.Summing.{last_path, paths_outside}
use Rattle.k_hcpa_meaning.specs.Timed.{ArePaths}
use Rattle.k_hcpa_summed.proofs.Each.{Each, each_of, all_of, each_both}

pub each_reverse : {X : Type 0} (P : X → Type 0) (xs : List X) → Each P xs → Each P (reverse xs)
each_reverse P [] each = tt
each_reverse P (x ∷ xs) each =
    let Q : List _ → Type 0 = Each P in
    subst Q (sym (reverse-append (x ∷ []) xs)) (each_both P (reverse xs) (x ∷ []) (each_reverse P xs each.1) (each.0, tt))

-- each open instance that has a level began among the events
pub each_began : (depth : ℕ) (events : List Event)
    → Each (λ (o : Open). (o.enter < length events) × (o.start ≤ length (operations events))) (open_below depth events)
each_began depth events =
    let P : Open → Type 0 = λ o. (o.enter < length events) × (o.start ≤ length (operations events)) in
    each_reverse P (take depth (open_after events)) (each_of P (take depth (open_after events)) (All-take P depth (open_after events) (open_instances_began events)))

-- those around one more that has a level
pub below_one_more : (depth : ℕ) (opens : List Open) (o : Open) → length opens < depth → reverse (take depth (opens ++ o ∷ [])) ≡ o ∷ reverse (take depth opens)
below_one_more depth opens o room =
    let count = length-append opens (o ∷ []) in
    ap reverse (take_all depth (opens ++ o ∷ []) (omega arith)) ∙ reverse-append opens (o ∷ [])
    ∙ ap (λ list. o ∷ reverse list) (sym (take_all depth opens (omega arith)))

-- one more that has no level changes nothing
pub below_the_same : (depth : ℕ) (opens : List Open) (o : Open) → depth ≤ length opens → reverse (take depth (opens ++ o ∷ [])) ≡ reverse (take depth opens)
below_the_same depth opens o deep = ap reverse (take-append-le depth opens (o ∷ []) deep)

-- each instance of a list was entered before the last
pub before_last : (opens : List Open) (o : Open) → AllPairs IsAround (opens ++ o ∷ []) → Each (λ (x : Open). x.enter < o.enter) opens
before_last opens o nest =
    each_of (λ (x : Open). x.enter < o.enter) opens (λ k d less.
    (let count = length-append opens (o ∷ []) in
    let whole = nest k (length opens) d less (omega arith) in
    let first : slice_index_or (opens ++ o ∷ []) k d ≡ slice_index_or opens k d = get_or_append_left opens (o ∷ []) d k less in
    let last : slice_index_or (opens ++ o ∷ []) (length opens) d ≡ o = get_or-append_seam opens o [] d in
    let P : Open → Type 0 = λ x. IsAround x (slice_index_or (opens ++ o ∷ []) (length opens) d) in
    let Q : Open → Type 0 = λ x. IsAround (slice_index_or opens k d) x in
    (subst Q last (subst P first whole)).entered))

pub each_take : {X : Type 0} (P : X → Type 0) (n : ℕ) (xs : List X) → Each P xs → Each P (take n xs)
each_take P n xs each = each_of P (take n xs) (All-take P n xs (all_of P xs each))

-- the open instances that have levels were entered before one more
pub each_before : (depth : ℕ) (opens : List Open) (o : Open) → AllPairs IsAround (opens ++ o ∷ [])
    → Each (λ (x : Open). x.enter < o.enter) (reverse (take depth opens))
each_before depth opens o nest =
    let P : Open → Type 0 = λ x. x.enter < o.enter in
    each_reverse P (take depth opens) (each_take P depth opens (before_last opens o nest))

-- the paths of the open instances where the innermost is left
length_outside : (paths : List ℕ) → length (paths_outside paths) ≡ length paths - 1
length_outside [] = refl
length_outside (p ∷ []) = refl
length_outside (p ∷ q ∷ paths) = let rest = length_outside (q ∷ paths) in let all : suc (length (paths_outside (q ∷ paths))) ≡ suc (suc (length paths)) - 1 = omega arith in all

path_outside : (paths : List ℕ) (level : ℕ) → level < length (paths_outside paths) → slice_index_or (paths_outside paths) level 0 ≡ slice_index_or paths level 0
path_outside [] level less = absurd (omega arith)
path_outside (p ∷ []) level less = absurd (omega arith)
path_outside (p ∷ q ∷ paths) zero less = refl
path_outside (p ∷ q ∷ paths) (suc level) less = path_outside (q ∷ paths) level (omega arith)

pub last_is : (paths : List ℕ) (n : ℕ) → length paths ≡ n + 1 → last_path paths ≡ slice_index_or paths n 0
last_is [] n count = absurd (omega arith)
last_is (p ∷ []) zero count = refl
last_is (p ∷ []) (suc n) count = absurd (omega arith)
last_is (p ∷ q ∷ paths) zero count = absurd (omega arith)
last_is (p ∷ q ∷ paths) (suc n) count = last_is (q ∷ paths) n (omega arith)

module _ (depth : ℕ) (events : List Event) (outer : List Open) (o : Open) (opens : open_after events ≡ outer ++ o ∷ [])
    (rest : open_after (events ++ Exit ∷ []) ≡ outer) (same : operations (events ++ Exit ∷ []) ≡ operations events) (paths : List ℕ) (are : ArePaths depth events paths) where
  count_before : length (open_after events) ≡ length outer + 1
  count_before = ap length opens ∙ length-append outer (o ∷ [])

  count_behind : length (open_after (events ++ Exit ∷ [])) ≡ length outer
  count_behind = ap length rest

  -- what is so of an open instance that stays open
  stays : (level : ℕ) (x : Open) → level < length paths → slice_get (open_after (events ++ Exit ∷ [])) level ≡ Some x
      → Heaviest (operations (events ++ Exit ∷ [])) x.start (length (operations (events ++ Exit ∷ []))) (slice_index_or paths level 0)
  stays level x less at =
      let S : List Open → Type 0 = λ list. slice_get list level ≡ Some x in
      let there : slice_get (open_after events) level ≡ Some x = subst S (sym opens) (place_kept outer (o ∷ []) level x (subst S rest at)) in
      let H : List Operation → Type 0 = λ ops. Heaviest ops x.start (length ops) (slice_index_or paths level 0) in
      subst H (sym same) (are.each level x less there)

  -- one that has no level is left
  pub paths_stay : depth < length (open_after events) → ArePaths depth (events ++ Exit ∷ []) paths
  paths_stay deep =
      let one = count_before in let two = count_behind in let count = are.count in
      record { count = omega arith; each = stays }

  -- one that has a level is left
  pub paths_go : length (open_after events) ≤ depth → ArePaths depth (events ++ Exit ∷ []) (paths_outside paths)
  paths_go shallow =
      let one = count_before in let two = count_behind in let count = are.count in let fewer = length_outside paths in
      record {
        count = omega arith;
        each = λ level x less at.
            (let P : ℕ → Type 0 = λ p. Heaviest (operations (events ++ Exit ∷ [])) x.start (length (operations (events ++ Exit ∷ []))) p in
            subst P (sym (path_outside paths level less)) (stays level x (omega arith) at));
      }

  -- the path of the one that is left, if it has a level
  pub path_of_last : length outer < depth → Heaviest (operations events) o.start (length (operations events)) (last_path paths)
  path_of_last shallow =
      let one = count_before in let count = are.count in
      let many : length paths ≡ length outer + 1 = omega arith in
      let S : List Open → Type 0 = λ list. slice_get list (length outer) ≡ Some o in
      let there : slice_get (open_after events) (length outer) ≡ Some o = subst S (sym opens) (place_behind outer o []) in
      let P : ℕ → Type 0 = λ p. Heaviest (operations events) o.start (length (operations events)) p in
      subst P (sym (last_is paths (length outer) many)) (are.each (length outer) o (omega arith) there)
