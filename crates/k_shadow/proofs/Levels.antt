-- Lists that a function gives level by level.
use Rattle.std.proofs.Common.{◌≡◌, ℕ, ◌+◌, ◌<◌, zero, suc, ◌≤◌, List, [], ◌∷◌, ◌++◌, length, take, get_or, refl, ap, sym, ◌∙◌, arith}
use Rattle.std.proofs.lemmas.List.{get_or-take, length-take-le, take_at}
use Rattle.k_shadow.specs.Content.{at_levels}

pub length-at_levels : (n : ℕ) (f : ℕ → ℕ) → length (at_levels n f) ≡ n
unfolding at_levels
length-at_levels zero f = refl
length-at_levels (suc n) f = ap (λ m. suc m) (length-at_levels n (λ k. f (k + 1)))

-- the time of a level
pub get_or-at_levels : (n : ℕ) (f : ℕ → ℕ) (k : ℕ) → k < n → get_or (at_levels n f) k 0 ≡ f k
unfolding at_levels
get_or-at_levels zero f k h = absurd (omega arith)
get_or-at_levels (suc n) f zero h = refl
get_or-at_levels (suc n) f (suc k) h = get_or-at_levels n (λ k. f (k + 1)) k (omega arith) ∙ (let e : k + 1 ≡ suc k = omega arith in ap f e)

-- a list that has these times
pub is-at_levels : (n : ℕ) (f : ℕ → ℕ) (times : List ℕ) → length times ≡ n → ((k : ℕ) → k < n → get_or times k 0 ≡ f k) → times ≡ at_levels n f
unfolding at_levels
is-at_levels zero f [] same h = refl
is-at_levels zero f (t ∷ ts) same h = absurd (omega arith)
is-at_levels (suc n) f [] same h = absurd (omega arith)
is-at_levels (suc n) f (t ∷ ts) same h =
    let rest = is-at_levels n (λ k. f (k + 1)) ts (omega arith) (λ k lt. h (suc k) (omega arith) ∙ (let e : suc k ≡ k + 1 = omega arith in ap f e)) in
    λ i. h 0 (omega arith) i ∷ rest i

-- a list whose front was lent and filled with these times
pub lent-at_levels : (n m : ℕ) (f : ℕ → ℕ) (new behind : List ℕ) → n ≡ m → length new ≡ n → ((k : ℕ) → k < m → get_or new k 0 ≡ f k) → take n (new ++ behind) ≡ at_levels m f
lent-at_levels n m f new behind same long h = take_at new behind n long ∙ is-at_levels m f new (long ∙ same) h

-- a list whose front has these times
pub front-at_levels : (n m : ℕ) (f : ℕ → ℕ) (times : List ℕ) → n ≡ m → n ≤ length times → ((k : ℕ) → k < m → get_or times k 0 ≡ f k) → take n times ≡ at_levels m f
front-at_levels n m f times same few h = is-at_levels m f (take n times) (length-take-le n times few ∙ same) (λ k lt. get_or-take n times k 0 (omega arith) ∙ h k lt)

-- lanes that have these times at the live levels
pub lanes_front : (lane : ℕ → ℕ) (times current : List ℕ) → times ≡ current → ((k : ℕ) → k < length times → lane k ≡ get_or times k 0) → at_levels (length current) lane ≡ current
lanes_front lane times current same each =
    sym (is-at_levels (length current) lane current refl (λ k lt. ap (λ ts. get_or ts k 0) (sym same) ∙ sym (each k (omega (arith, ap length same)))))
