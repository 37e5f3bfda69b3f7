use Rattle.std.proofs.Common.{◌≡◌, ℕ, ◌<◌, length, get_or, ap, ◌∙◌, sym, subst, arith}
use Rattle.std.specs.Prelude.{IsSome}
use Rattle.std.specs.Ordering.{nat_cmp}
use Rattle.std.specs.BTreeMap.{BTreeMap, get}
use Rattle.std.proofs.lemmas.List.{get_or_default}
use Rattle.k_shadow.specs.Maps.{map_time}
use Rattle.k_shadow.proofs.Changed.{changed_more}
use Rattle.k_shadow.proofs.Plain.{same_times}
use Rattle.k_shadow.proofs.maps.hold_in_all.Goals as goal

pub returns-clause-times : goal.returns-clause-times
returns-clause-times c = same_times _ _ _ c.loop-level.invariant.changed

pub returns-clause-ok : goal.returns-clause-ok
returns-clause-ok c = λ at low high k d lt. c.loop-level.invariant.stand k d (omega arith) at low high

-- one map may have got some of the locations
pub returns-in_err-hold_in-clause-times : goal.returns-in_err-hold_in-clause-times
returns-in_err-hold_in-clause-times c =
    let j = c.loop-level in
    let m = c.index-maps-level.result in
    let new = c.hold_in.new.map in
    let old = c.args.maps.now in
    let within : j.level < length j.maps = omega arith in
    let below : j.level < length old = omega (arith, j.invariant.changed.same_length) in
    let same : (d : BTreeMap ℕ ℕ) → get_or j.maps j.level m ≡ get_or j.maps j.level d = λ d. get_or_default j.maps j.level m d within in
    let times : (d : BTreeMap ℕ ℕ) (at : ℕ) → map_time new at ≡ map_time (get_or j.maps j.level d) at = λ d at. c.hold_in.ensures.times at ∙ ap (λ x. map_time x at) (same d) in
    let held : (d : BTreeMap ℕ ℕ) (at : ℕ) → IsSome (get nat_cmp (get_or j.maps j.level d) at) → IsSome (get nat_cmp new at) = λ d at h.
    let R : BTreeMap ℕ ℕ → Type 0 = λ x. IsSome (get nat_cmp x at) in c.hold_in.ensures.kept at (subst R (sym (same d)) h) in
    same_times _ _ _ (changed_more (λ k x. x) j.level old j.maps new below j.invariant.changed times held)
