-- The first fault of a part is that of what it stands in.
use Rattle.std.proofs.Common.{◌≡◌, ◌⊎◌, inl, inr, refl, subst, List, [], ◌∷◌, ◌++◌}
use Rattle.k_types_meaning.specs.declared.fault.TypeFault.{TypeFault}
use Rattle.k_types_meaning.specs.Made.{Made, Fine, Faulty, both, then_made, faults_of, StartsWith}
use Rattle.k_types_rules.specs.Views.{Refuses}
use Rattle.k_types_expressions.specs.Arguments.{made_before}
use Rattle.k_types.specs.Results.{IsFirstFault}

-- nothing is refused of what is made but for want of memory
fine_refuses : {A B : Type 0} (f : TypeFault) (a : A) (m : Made B) → Refuses f (Fine a) → Refuses f m
fine_refuses f a m (inl memory) = inl memory
fine_refuses f a m (inr none) = absurd none

-- what comes of a part
pub refuses_then : {A B : Type 0} (f : TypeFault) (m : Made A) (next : A → Made B) → Refuses f m → Refuses f (then_made m next)
refuses_then f (Fine a) next refuses = fine_refuses f a (next a) refuses
refuses_then f (Faulty g gs) next refuses = refuses

-- two parts, of which the first has it
pub refuses_first : {A B C : Type 0} (f : TypeFault) (m : Made A) (n : Made B) (next : A → B → Made C) → Refuses f m → Refuses f (both m n next)
refuses_first f (Fine a) n next refuses = fine_refuses f a (both (Fine a) n next) refuses
refuses_first f (Faulty g gs) (Fine b) next refuses = refuses
refuses_first f (Faulty g gs) (Faulty h hs) next refuses = refuses

-- two parts, of which the second has it
pub refuses_second : {A B C : Type 0} (f : TypeFault) (a : A) (n : Made B) (next : A → B → Made C) → Refuses f n → Refuses f (both (Fine a) n next)
refuses_second f a (Fine b) next refuses = fine_refuses f b (next a b) refuses
refuses_second f a (Faulty g gs) next refuses = refuses

-- parts behind others that are made
pub refuses_behind : {A : Type 0} (f : TypeFault) (before : List A) (m : Made (List A)) → Refuses f m → Refuses f (made_before before m)
refuses_behind f before (Fine more) refuses = fine_refuses f more (Fine (before ++ more)) refuses
refuses_behind f before (Faulty g gs) refuses = refuses

-- the first of some faults is that of more
pub first_of_more : (f : TypeFault) (fs gs : List TypeFault) → IsFirstFault f fs → IsFirstFault f (fs ++ gs)
first_of_more f fs gs (inl memory) = inl memory
first_of_more f [] gs (inr none) = absurd none
first_of_more f (g ∷ fs) gs (inr same) = inr same

-- the first fault of what is made
pub first_made : {A : Type 0} (f : TypeFault) (m : Made A) → Refuses f m → IsFirstFault f (faults_of m)
first_made f m refuses = refuses
