-- Forests side by side, the instances of one region, and children; what the order of siblings leaves as it is.
use Rattle.std.proofs.Common.{◌≡◌, ℕ, ◌+◌, ◌-◌, ◌<◌, ◌≤◌, Bool, true, false, ◌==◌, max, refl, sym, ap, ◌∙◌, subst, arith, if◌then◌else◌}
use Rattle.k_dict_entries.specs.Trees.{Alike, Forest, Label, bare, both, exchanged, further, grown, height, neither, size}
use Rattle.k_dict_entries.proofs.Forests.{Alike-refl, Alike-sym, beside, beside_left, beside_right, beside_front}
use Rattle.k_selfpar.specs.Contexts.{NoneBelow, inner_forest, chosen, others, with_beside}
use Rattle.k_selfpar.specs.Sums.{one, outer, outer_paths, outer_works, path, serial_in, work}

-- forests side by side, as the dictionary's proofs have them
beside_is : (f g : Forest) → with_beside f g ≡ beside f g
beside_is bare g = refl
beside_is (grown x i l) g = ap (grown x i) (beside_is l g)

pub with_beside_right : (f g h : Forest) → Alike g h → Alike (with_beside f g) (with_beside f h)
with_beside_right f g h are =
    subst (λ x. Alike x (with_beside f h)) (sym (beside_is f g)) (subst (λ x. Alike (beside f g) x) (sym (beside_is f h)) (beside_right f g h are))

pub with_beside_left : (f g h : Forest) → Alike f g → Alike (with_beside f h) (with_beside g h)
with_beside_left f g h are =
    subst (λ x. Alike x (with_beside g h)) (sym (beside_is f h)) (subst (λ x. Alike (beside f h) x) (sym (beside_is g h)) (beside_left f g h are))

pub with_beside_front : (f : Forest) (x : Label) (i g : Forest) → Alike (with_beside f (grown x i g)) (grown x i (with_beside f g))
with_beside_front f x i g =
    subst (λ y. Alike y (grown x i (with_beside f g))) (sym (beside_is f (grown x i g)))
    (subst (λ y. Alike (beside f (grown x i g)) (grown x i y)) (sym (beside_is f g)) (beside_front f x i g))

-- two forests before a third may change places
pub with_beside_exchanged : (f g h : Forest) → Alike (with_beside f (with_beside g h)) (with_beside g (with_beside f h))
with_beside_exchanged bare g h = Alike-refl (with_beside g h)
with_beside_exchanged (grown x i l) g h =
    further (grown x i (with_beside l (with_beside g h))) (grown x i (with_beside g (with_beside l h))) (with_beside g (grown x i (with_beside l h)))
    (both x i i (with_beside l (with_beside g h)) (with_beside g (with_beside l h)) (Alike-refl i) (with_beside_exchanged l g h))
    (Alike-sym (with_beside g (grown x i (with_beside l h))) (grown x i (with_beside g (with_beside l h))) (with_beside_front g x i (with_beside l h)))

-- children of alike forests are alike
pub children_alike : (f g : Forest) → Alike f g → Alike (inner_forest f) (inner_forest g)
children_alike _ _ neither = neither
children_alike _ _ (both x i i' l l' inner later) =
    further (with_beside i (inner_forest l)) (with_beside i' (inner_forest l)) (with_beside i' (inner_forest l'))
    (with_beside_left i i' (inner_forest l) inner) (with_beside_right i' (inner_forest l) (inner_forest l') (children_alike l l' later))
children_alike _ _ (exchanged x y i j l) = with_beside_exchanged i j (inner_forest l)
children_alike _ _ (further f g h first second) = further (inner_forest f) (inner_forest g) (inner_forest h) (children_alike f g first) (children_alike g h second)

-- an instance is among those of a region, or not
put_alike : (b : Bool) (x : Label) (i i' f f' : Forest) → Alike i i' → Alike f f' → Alike (if b then grown x i f else f) (if b then grown x i' f' else f')
put_alike true x i i' f f' inner later = both x i i' f f' inner later
put_alike false x i i' f f' inner later = later

put_exchanged : (a b : Bool) (x y : Label) (i j f : Forest)
    → Alike (if a then grown x i (if b then grown y j f else f) else (if b then grown y j f else f))
    (if b then grown y j (if a then grown x i f else f) else (if a then grown x i f else f))
put_exchanged true true x y i j f = exchanged x y i j f
put_exchanged true false x y i j f = Alike-refl (grown x i f)
put_exchanged false true x y i j f = Alike-refl (grown y j f)
put_exchanged false false x y i j f = Alike-refl f

pub chosen_alike : (region : ℕ) (f g : Forest) → Alike f g → Alike (chosen region f) (chosen region g)
chosen_alike region _ _ neither = neither
chosen_alike region _ _ (both x i i' l l' inner later) =
    put_alike (x.region == region) x i i' (chosen region l) (chosen region l') inner (chosen_alike region l l' later)
chosen_alike region _ _ (exchanged x y i j l) = put_exchanged (x.region == region) (y.region == region) x y i j (chosen region l)
chosen_alike region _ _ (further f g h first second) =
    further (chosen region f) (chosen region g) (chosen region h) (chosen_alike region f g first) (chosen_alike region g h second)

left_alike : (b : Bool) (x : Label) (i i' f f' : Forest) → Alike i i' → Alike f f' → Alike (if b then f else grown x i f) (if b then f' else grown x i' f')
left_alike true x i i' f f' inner later = later
left_alike false x i i' f f' inner later = both x i i' f f' inner later

left_exchanged : (a b : Bool) (x y : Label) (i j f : Forest)
    → Alike (if a then (if b then f else grown y j f) else grown x i (if b then f else grown y j f))
    (if b then (if a then f else grown x i f) else grown y j (if a then f else grown x i f))
left_exchanged true true x y i j f = Alike-refl f
left_exchanged true false x y i j f = Alike-refl (grown y j f)
left_exchanged false true x y i j f = Alike-refl (grown x i f)
left_exchanged false false x y i j f = exchanged x y i j f

pub others_alike : (region : ℕ) (f g : Forest) → Alike f g → Alike (others region f) (others region g)
others_alike region _ _ neither = neither
others_alike region _ _ (both x i i' l l' inner later) =
    left_alike (x.region == region) x i i' (others region l) (others region l') inner (others_alike region l l' later)
others_alike region _ _ (exchanged x y i j l) = left_exchanged (x.region == region) (y.region == region) x y i j (others region l)
others_alike region _ _ (further f g h first second) =
    further (others region f) (others region g) (others region h) (others_alike region f g first) (others_alike region g h second)

-- what alike forests give is the same, where alike children change nothing
pub outer_alike : (own : Label → Forest → ℕ) → ((x : Label) (i j : Forest) → Alike i j → own x i ≡ own x j) → (f g : Forest) → Alike f g → outer own f ≡ outer own g
outer_alike own same _ _ neither = let P : outer own bare ≡ outer own bare = refl in P
outer_alike own same _ _ (both x i i' l l' inner later) =
    ap (λ n. n + outer own l) (same x i i' inner) ∙ ap (λ n. own x i' + n) (outer_alike own same l l' later)
outer_alike own same _ _ (exchanged x y i j l) = turned (own x i) (own y j) (outer own l)
  where
    turned : (a b c : ℕ) → a + (b + c) ≡ b + (a + c)
    turned a b c = omega arith
outer_alike own same _ _ (further f g h first second) = outer_alike own same f g first ∙ outer_alike own same g h second

pub count_alike : (f g : Forest) → Alike f g → outer one f ≡ outer one g
count_alike f g are = outer_alike one (λ x i j same. refl) f g are

pub works_alike : (f g : Forest) → Alike f g → outer_works f ≡ outer_works g
works_alike f g are = outer_alike work (λ x i j same. refl) f g are

pub paths_alike : (f g : Forest) → Alike f g → outer_paths f ≡ outer_paths g
paths_alike f g are = outer_alike path (λ x i j same. refl) f g are

pub serial_same : (x : Label) (i j : Forest) → Alike i j → serial_in x i ≡ serial_in x j
serial_same x i j same = ap (λ n. n + (x.work - outer_works i)) (paths_alike i j same) ∙ ap (λ n. outer_paths j + (x.work - n)) (works_alike i j same)

pub serial_alike : (f g : Forest) → Alike f g → outer serial_in f ≡ outer serial_in g
serial_alike f g are = outer_alike serial_in serial_same f g are

-- alike forests have as many levels
pub height_alike : (f g : Forest) → Alike f g → height f ≡ height g
height_alike _ _ neither = let P : height bare ≡ height bare = refl in P
height_alike _ _ (both x i i' l l' inner later) =
    let a : height i ≡ height i' = height_alike i i' inner in let b : height l ≡ height l' = height_alike l l' later in
    ap (λ n. max (1 + n) (height l)) a ∙ ap (λ n. max (1 + height i') n) b
height_alike _ _ (exchanged x y i j l) = turned (height i) (height j) (height l)
  where
    turned : (a b c : ℕ) → max (1 + a) (max (1 + b) c) ≡ max (1 + b) (max (1 + a) c)
    turned a b c = omega arith
height_alike _ _ (further f g h first second) = height_alike f g first ∙ height_alike g h second

pub none_below_alike : (region : ℕ) (f g : Forest) → Alike f g → NoneBelow region f → NoneBelow region g
none_below_alike region _ _ neither none = none
none_below_alike region _ _ (both x i i' l l' inner later) none = (none.0, none_below_alike region l l' later none.1)
none_below_alike region _ _ (exchanged x y i j l) none = (none.1.0, (none.0, none.1.1))
none_below_alike region _ _ (further f g h first second) none = none_below_alike region g h second (none_below_alike region f g first none)

-- sizes
pub size-beside : (f g : Forest) → size (with_beside f g) ≡ size f + size g
size-beside bare g = omega arith
size-beside (grown x i l) g = let rest = size-beside l g in omega arith

pub size-children : (f : Forest) → size (inner_forest f) + outer one f ≡ size f
size-children bare = refl
size-children (grown x i l) = let a = size-beside i (inner_forest l) in let b = size-children l in omega arith

pub size-parts : (region : ℕ) (f : Forest) → size (chosen region f) + size (others region f) ≡ size f
size-parts region bare = refl
size-parts region (grown x i l) = by (x.region == region) (chosen region l) (others region l) (size-parts region l)
  where
    by : (b : Bool) (c o : Forest) → size c + size o ≡ size l → size (if b then grown x i c else c) + size (if b then o else grown x i o) ≡ 1 + size i + size l
    by true c o e = omega arith
    by false c o e = omega arith

pub count-below-size : (f : Forest) → outer one f ≤ size f
count-below-size f = let e = size-children f in omega arith

-- levels
pub height-beside : (f g : Forest) → height (with_beside f g) ≡ max (height f) (height g)
height-beside bare g = omega arith
height-beside (grown x i l) g = let rest = height-beside l g in omega arith

pub height-children : (f : Forest) → 0 < outer one f → height (inner_forest f) + 1 ≤ height f
height-children bare some = absurd (omega arith)
height-children (grown x i bare) some = let e = height-beside i bare in omega arith
height-children (grown x i (grown y j l)) some =
    let e = height-beside i (inner_forest (grown y j l)) in
    let rest : height (inner_forest (grown y j l)) + 1 ≤ height (grown y j l) = height-children (grown y j l) (omega arith) in
    omega arith

-- works
pub works-beside : (f g : Forest) → outer_works (with_beside f g) ≡ outer_works f + outer_works g
works-beside bare g = omega arith
works-beside (grown x i l) g = let rest = works-beside l g in omega arith
