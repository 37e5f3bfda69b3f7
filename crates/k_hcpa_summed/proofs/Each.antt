-- A property of each item, item by item; and lists that stand with lists.
use Rattle.std.proofs.Common.{zero, suc, List, [], ◌∷◌, ◌++◌, arith}
use Rattle.std.specs.Prelude.{All}
use Rattle.k_optab.specs.Tree.{EachWith}

-- P holds of each item
abbrev pub Each : {X : Type 0} → (X → Type 0) → List X → Type 0
Each P [] = Unit {0}
Each P (x ∷ xs) = P x × Each P xs

pub each_of : {X : Type 0} (P : X → Type 0) (xs : List X) → All P xs → Each P xs
each_of P [] all = tt
each_of P (x ∷ xs) all = (all 0 x (omega arith), each_of P xs (λ k d less. all (suc k) d (omega arith)))

pub all_of : {X : Type 0} (P : X → Type 0) (xs : List X) → Each P xs → All P xs
all_of P [] each k d less = absurd (omega arith)
all_of P (x ∷ xs) each zero d less = each.0
all_of P (x ∷ xs) each (suc k) d less = all_of P xs each.1 k d (omega arith)

pub each_front : {X : Type 0} (P : X → Type 0) (xs ys : List X) → Each P (xs ++ ys) → Each P xs
each_front P [] ys each = tt
each_front P (x ∷ xs) ys each = (each.0, each_front P xs ys each.1)

pub each_back : {X : Type 0} (P : X → Type 0) (xs ys : List X) → Each P (xs ++ ys) → Each P ys
each_back P [] ys each = each
each_back P (x ∷ xs) ys each = each_back P xs ys each.1

pub each_both : {X : Type 0} (P : X → Type 0) (xs ys : List X) → Each P xs → Each P ys → Each P (xs ++ ys)
each_both P [] ys one other = other
each_both P (x ∷ xs) ys one other = (one.0, each_both P xs ys one.1 other)

pub each_map : {X : Type 0} (P Q : X → Type 0) → ((x : X) → P x → Q x) → (xs : List X) → Each P xs → Each Q xs
each_map P Q f [] each = tt
each_map P Q f (x ∷ xs) each = (f x each.0, each_map P Q f xs each.1)

-- lists that stand with lists, one behind the other
pub with_both : {A B : Type 0} (R : A → B → Type 0) (xs : List A) (ys : List B) (cs : List A) (bs : List B)
    → EachWith R xs ys → EachWith R cs bs → EachWith R (xs ++ cs) (ys ++ bs)
with_both R [] [] cs bs one other = other
with_both R [] (y ∷ ys) cs bs one other = absurd one
with_both R (x ∷ xs) [] cs bs one other = absurd one
with_both R (x ∷ xs) (y ∷ ys) cs bs one other = (one.0, with_both R xs ys cs bs one.1 other)

-- what each item has carries a relation to another one
pub with_each : {A B : Type 0} (P : A → Type 0) (R S : A → B → Type 0) → ((a : A) (b : B) → P a → R a b → S a b) → (xs : List A) (ys : List B)
    → Each P xs → EachWith R xs ys → EachWith S xs ys
with_each P R S f [] [] each one = tt
with_each P R S f [] (y ∷ ys) each one = one
with_each P R S f (x ∷ xs) [] each one = one
with_each P R S f (x ∷ xs) (y ∷ ys) each one = (f x y each.0 one.0, with_each P R S f xs ys each.1 one.1)
