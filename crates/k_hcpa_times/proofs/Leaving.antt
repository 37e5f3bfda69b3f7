-- The innermost instances are left one by one.
use Rattle.std.proofs.Common.{◌≡◌, ℕ, ◌+◌, ◌-◌, ◌<◌, ◌≤◌, suc, Bool, true, false, length, min, refl, ap, sym, ◌∙◌, arith, nat_lt}
use Rattle.std.specs.Prelude.{if◌then◌else◌}
use Rattle.std.proofs.lemmas.Bool.{ltb-true, ltb-false}
use Rattle.std.proofs.lemmas.List.{length-take-le}
use Rattle.k_hcpa_meaning.specs.Timings.{Timing, innermost_gone, left_below, all_left_below, without_last}
use Rattle.k_hcpa_times.specs.Seen.{Seen, made, levels}

-- one instance, and then the rest
pub left_first : (depth count regions k : ℕ) (s t goal : Seen) → k < regions → t ≡ made (left_below depth (count - k)) s
    → made (all_left_below depth (count - k) (regions - k)) s ≡ goal → made (all_left_below depth (count - (k + 1)) (regions - (k + 1))) t ≡ goal
left_first depth count regions k s t goal lt is same =
    let more : regions - k ≡ suc (regions - (k + 1)) = omega arith in
    let fewer : count - (k + 1) ≡ count - k - 1 = omega arith in
    ap (λ x. made (all_left_below depth (count - (k + 1)) (regions - (k + 1))) x) is
    ∙ ap (λ n. made (all_left_below depth n (regions - (k + 1))) (made (left_below depth (count - k)) s)) fewer
    ∙ sym (ap (λ n. made (all_left_below depth (count - k) n) s) more)
    ∙ same

levels_if : (b : Bool) (depth count : ℕ) (t : Timing) → (b ≡ true → depth < count) → (b ≡ false → count ≤ depth) → length t.paths ≡ min depth count
    → length (if b then t else innermost_gone t).paths ≡ min depth (count - 1)
levels_if true depth count t above below live = let lt : depth < count = above refl in omega arith
levels_if false depth count t above below live =
    let le : count ≤ depth = below refl in
    let gone : length (without_last t.paths) ≡ length t.paths - 1 = length-take-le (length t.paths - 1) t.paths (omega arith) in
    omega arith

-- how many levels there are behind an instance that is left
pub levels_behind : (depth count k : ℕ) (s t : Seen) → t ≡ made (left_below depth (count - k)) s → levels s ≡ min depth (count - k) → levels t ≡ min depth (count - (k + 1))
levels_behind depth count k s t is live =
    let fewer : count - (k + 1) ≡ count - k - 1 = omega arith in
    ap (λ x. levels x) is
    ∙ levels_if (nat_lt depth (count - k)) depth (count - k) s.timing (ltb-true depth (count - k)) (ltb-false depth (count - k)) live
    ∙ ap (λ n. min depth n) (sym fewer)
