-- A place that is too far from every object is as far as any other.
use Rattle.std.proofs.Common.{◌≡◌, ℕ, zero, suc, ◌+◌, ◌*◌, ◌^◌, ◌<◌, ◌≤◌, inl, inr, ◌⊎◌, ℤ, pos, negsuc, neg_ℤ, ◌+ℤ◌, ◌*ℤ◌, ◌<ℤ◌, ◌≤ℤ◌, Bool, true, false, if◌then◌else◌, Option, Some, None, Result, length, refl, sym, ◌∙◌, ap, arith}
use Rattle.std.specs.Prelude.{int_lt, nat_le}
use Rattle.std.proofs.Math.Nat.{le-mul_of_pos_right}
use Rattle.std.proofs.lemmas.Bool.{lt-leb}
use Rattle.std.proofs.lemmas.Int.{ints}
use Rattle.k_mem.specs.declared.fault.MemTrap.{MemTrap}
use Rattle.k_mem.specs.declared.pointer.Pointer.{Pointer}
use Rattle.k_mem.specs.Memory.{Object, Memory, object_of, live_elements, IsLaidOut}
use Rattle.k_mem.specs.Calls.{where_live, offset_within, pointer_to, shift_of}
use Rattle.k_mem.proofs.Numbers.{objects_lie_within}
use Rattle.k_world.specs.Acts.{at_least_one, distance}
use Rattle.k_world.specs.Answers.{near}

-- 2^64 or more from 0
abbrev pub Far : ℤ → Type 0
Far d = (pos (2 ^ 64) ≤ℤ d) ⊎ (d ≤ℤ neg_ℤ (pos (2 ^ 64)))

neg_far : (m : ℕ) → 2 ^ 64 ≤ m → neg_ℤ (pos m) ≤ℤ neg_ℤ (pos (2 ^ 64))
neg_far zero h = absurd (omega arith)
neg_far (suc m) h = omega (arith, ints)

times_far : (by : ℤ) (s : ℕ) → 0 < s → Far by → Far (by *ℤ pos s)
times_far (pos b) s some (inl h) =
    let low : 2 ^ 64 ≤ b = omega (arith, ints) in
    let more : b ≤ b * s = le-mul_of_pos_right b some in
    let far : 2 ^ 64 ≤ b * s = omega (arith, low, more) in
    inl (omega (arith, ints))
times_far (pos b) s some (inr h) = absurd (omega (arith, ints))
times_far (negsuc b) s some (inl h) = absurd (omega (arith, ints))
times_far (negsuc b) s some (inr h) =
    let low : 2 ^ 64 ≤ suc b = omega (arith, ints) in
    let more : suc b ≤ suc b * s = le-mul_of_pos_right (suc b) some in
    inr (neg_far (suc b * s) (omega (arith, low, more)))

back_far : (d : ℤ) → Far d → Far (neg_ℤ d)
back_far (pos zero) (inl h) = absurd (omega (arith, ints))
back_far (pos zero) (inr h) = absurd (omega (arith, ints))
back_far (pos (suc n)) (inl h) = inr (omega (arith, ints))
back_far (pos (suc n)) (inr h) = absurd (omega (arith, ints))
back_far (negsuc n) (inl h) = absurd (omega (arith, ints))
back_far (negsuc n) (inr h) = inl (omega (arith, ints))

some_scale : (scale : ℕ) → 0 < at_least_one scale
some_scale zero = omega arith
some_scale (suc n) = omega arith

-- so many elements are as many numbers or more
distance_far : (minus : Bool) (scale : ℕ) (by : ℤ) → Far by → Far (distance minus scale by)
distance_far false scale by far = times_far by (at_least_one scale) (some_scale scale) far
distance_far true scale by far = back_far (by *ℤ pos (at_least_one scale)) (times_far by (at_least_one scale) (some_scale scale) far)

near_cases : (n : ℤ) → (near n ≡ n) ⊎ (Far n × Far (near n))
near_cases n = go (int_lt n (neg_ℤ (pos (2 ^ 64)))) refl (int_lt (pos (2 ^ 64)) n) refl
  where
    go : (low : Bool) → int_lt n (neg_ℤ (pos (2 ^ 64))) ≡ low → (high : Bool) → int_lt (pos (2 ^ 64)) n ≡ high
        → (let x : ℤ = (if low then neg_ℤ (pos (2 ^ 64)) else if high then pos (2 ^ 64) else n) in (x ≡ n) ⊎ (Far n × Far x))
    go true e high f = inr (inr (grind (arith, ints)), inr (grind (arith, ints)))
    go false e true f = inr (inl (grind (arith, ints)), inl (grind (arith, ints)))
    go false e false f = inl refl

out_of_reach : (len : ℕ) (z : ℤ) → (pos len <ℤ z) ⊎ (z <ℤ pos 0) → offset_within len z ≡ None
out_of_reach len (pos n) (inl high) = let h : len < n = omega (arith, ints) in rw (lt-leb n len h) refl
out_of_reach len (pos n) (inr low) = absurd (omega (arith, ints))
out_of_reach len (negsuc n) h = refl

far_offset : (len offset : ℕ) (d : ℤ) → offset < 2 ^ 64 → len < 2 ^ 64 → Far d → offset_within len (pos offset +ℤ d) ≡ None
far_offset len offset d small short (inl h) = out_of_reach len (pos offset +ℤ d) (inl (omega (arith, ints)))
far_offset len offset d small short (inr h) = out_of_reach len (pos offset +ℤ d) (inr (omega (arith, ints)))

-- a pointer is moved by a number of elements as it is by one that is near
pub shift_near : (m : Memory) (at : Pointer) (minus : Bool) (scale : ℕ) (by : ℤ) → IsLaidOut m → at.offset < 2 ^ 64
    → shift_of m at (distance minus scale (near by)) ≡ shift_of m at (distance minus scale by)
shift_near m at minus scale by laid small = go (object_of m at.object) refl
  where
    moved : ℤ → Object → Result Pointer MemTrap
    moved n o = pointer_to at.object (offset_within (length o.elements) (pos at.offset +ℤ distance minus scale n))

    go : (found : Option Object) → object_of m at.object ≡ found → where_live found (moved (near by)) ≡ where_live found (moved by)
    go None is = refl
    go (Some o) is =
        let within = objects_lie_within m at.object o laid is in
        let short : length o.elements < 2 ^ 64 = omega (arith, within, laid.few_elements) in
        elim (near_cases by) [
          | inl same ↦ ap (λ n. moved n o) same
          | inr far ↦ ap (λ p. pointer_to at.object p)
              (far_offset (length o.elements) at.offset (distance minus scale (near by)) small short (distance_far minus scale (near by) far.1)
              ∙ sym (far_offset (length o.elements) at.offset (distance minus scale by) small short (distance_far minus scale by far.0)))
        ]
