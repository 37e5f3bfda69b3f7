-- Forests that are equal up to the order of siblings.
use Rattle.std.proofs.Common.{◌≡◌, ℕ, zero, suc, ◌+◌, max, refl, ap, ◌∙◌, sym, subst, arith}
use Rattle.k_dict_entries.specs.Trees.{Label, Forest, Tree, bare, grown, Alike, neither, both, exchanged, further, SameShape, height, size}
use Rattle.k_dict_entries.specs.Entries.{copies}

pub Alike-refl : (f : Forest) → Alike f f
Alike-refl bare = neither
Alike-refl (grown label inner later) = both label inner inner later later (Alike-refl inner) (Alike-refl later)

pub Alike-sym : (f g : Forest) → Alike f g → Alike g f
Alike-sym _ _ neither = neither
Alike-sym _ _ (both label i i' l l' inner later) = both label i' i l' l (Alike-sym i i' inner) (Alike-sym l l' later)
Alike-sym _ _ (exchanged x y i j l) = exchanged y x j i l
Alike-sym _ _ (further f g h one other) = further h g f (Alike-sym g h other) (Alike-sym f g one)

-- equal forests are alike
pub Alike-same : (f g : Forest) → f ≡ g → Alike f g
Alike-same f g is = let P : Forest → Type 0 = λ h. Alike f h in subst P is (Alike-refl f)

-- a forest's trees, and then others
abbrev pub beside : Forest → Forest → Forest
beside bare g = g
beside (grown label inner later) g = grown label inner (beside later g)

-- a tree between two forests may stand before both
pub beside_front : (f : Forest) (label : Label) (inner g : Forest) → Alike (beside f (grown label inner g)) (grown label inner (beside f g))
beside_front bare x i g = Alike-refl (grown x i g)
beside_front (grown y j l) x i g =
    further (grown y j (beside l (grown x i g))) (grown y j (grown x i (beside l g))) (grown x i (grown y j (beside l g)))
    (both y j j (beside l (grown x i g)) (grown x i (beside l g)) (Alike-refl j) (beside_front l x i g)) (exchanged y x j i (beside l g))

pub beside_right : (f g h : Forest) → Alike g h → Alike (beside f g) (beside f h)
beside_right bare g h are = are
beside_right (grown x i l) g h are = both x i i (beside l g) (beside l h) (Alike-refl i) (beside_right l g h are)

pub beside_left : (f g h : Forest) → Alike f g → Alike (beside f h) (beside g h)
beside_left _ _ h neither = Alike-refl h
beside_left _ _ h (both x i i' l l' inner later) = both x i i' (beside l h) (beside l' h) inner (beside_left l l' h later)
beside_left _ _ h (exchanged x y i j l) = exchanged x y i j (beside l h)
beside_left _ _ h (further f g k one other) = further (beside f h) (beside g h) (beside k h) (beside_left f g h one) (beside_left g k h other)

pub Alike-size : (f g : Forest) → Alike f g → size f ≡ size g
Alike-size _ _ neither = let P : size bare ≡ size bare = refl in P
Alike-size _ _ (both x i i' l l' inner later) =
    let one : size i ≡ size i' = Alike-size i i' inner in let other : size l ≡ size l' = Alike-size l l' later in omega arith
Alike-size _ _ (exchanged x y i j l) = omega arith
Alike-size _ _ (further f g h one other) = Alike-size f g one ∙ Alike-size g h other

higher_turned : (a b c : ℕ) → max (1 + a) (max (1 + b) c) ≡ max (1 + b) (max (1 + a) c)
higher_turned a b c = omega arith

-- alike forests have as many levels
pub Alike-height : (f g : Forest) → Alike f g → height f ≡ height g
Alike-height _ _ neither = let P : height bare ≡ height bare = refl in P
Alike-height _ _ (both x i i' l l' inner later) =
    let a : height i ≡ height i' = Alike-height i i' inner in let b : height l ≡ height l' = Alike-height l l' later in
    ap (λ n. max (1 + n) (height l)) a ∙ ap (λ n. max (1 + height i') n) b
Alike-height _ _ (exchanged x y i j l) = higher_turned (height i) (height j) (height l)
Alike-height _ _ (further f g h one other) = Alike-height f g one ∙ Alike-height g h other

pub SameShape-refl : (t : Tree) → SameShape t t
SameShape-refl t = record { label = refl; inner = Alike-refl t.inner }

pub SameShape-sym : (s t : Tree) → SameShape s t → SameShape t s
SameShape-sym s t same = record { label = sym same.label; inner = Alike-sym s.inner t.inner same.inner }

pub SameShape-further : (s t u : Tree) → SameShape s t → SameShape t u → SameShape s u
SameShape-further s t u one other = record { label = one.label ∙ other.label; inner = further s.inner t.inner u.inner one.inner other.inner }

-- trees of one shape before alike forests
pub grown_alike : (s t : Tree) (f g : Forest) → SameShape s t → Alike f g → Alike (grown s.label s.inner f) (grown t.label t.inner g)
grown_alike s t f g same later =
    let P : Label → Type 0 = λ x. Alike (grown s.label s.inner f) (grown x t.inner g) in
    subst P same.label (both s.label s.inner t.inner f g same.inner later)

-- copies of trees of one shape before alike forests
pub copies_alike : (n : ℕ) (s t : Tree) (f g : Forest) → SameShape s t → Alike f g → Alike (copies n s f) (copies n t g)
copies_alike zero s t f g same later = later
copies_alike (suc n) s t f g same later = grown_alike s t (copies n s f) (copies n t g) same (copies_alike n s t f g same later)
