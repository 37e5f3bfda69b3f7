-- What the names of scopes mean, one by one.
use Rattle.std.proofs.Common.{◌≡◌, ℕ, ◌<◌, ◌≤◌, List, [], ◌∷◌, Option, Some, None, Bool, true, false, if◌then◌else◌, refl, subst, arith}
use Rattle.std.specs.Str.{bytes_eq}
use Rattle.std.proofs.lemmas.Option.{none-some, same_Some}
use Rattle.k_num.specs.declared.numbers.Kind.{Kind}
use Rattle.k_types_meaning.specs.declared.names.Meaning.{Meaning}
use Rattle.k_types_meaning.specs.declared.names.Meaning.TheVariants as meaning
use Rattle.k_types_meaning.specs.declared.types.CType.TheVariants as ctype
use Rattle.k_types_meaning.specs.Declarations.{entered}
use Rattle.k_types_meaning.specs.Names.{Scope, Names, meaning_in, or_meaning, meaning_of}

-- each name of a scope means such a thing
abbrev pub ScopeEach : (Meaning → Type 0) → Scope → Type 0
ScopeEach P [] = Unit {0}
ScopeEach P (entry ∷ scope) = P entry.1 × ScopeEach P scope

-- so does each name of several scopes
abbrev pub NamesEach : (Meaning → Type 0) → Names → Type 0
NamesEach P [] = Unit {0}
NamesEach P (scope ∷ names) = ScopeEach P scope × NamesEach P names

-- a variable is one of so many, and is declared with the kind that it has
abbrev pub Fits : (ℕ → Kind → Type 0) → ℕ → Meaning → Type 0
Fits K count (meaning.Variable n of fixed) = (n < count) × ((kind : Kind) → K n kind → of ≡ ctype.Number kind)
Fits K count (meaning.Object n of fixed) = Unit {0}
Fits K count (meaning.Function signature) = Unit {0}
Fits K count (meaning.Library function) = Unit {0}

-- it is no variable
abbrev pub IsNoVariable : Meaning → Type 0
IsNoVariable (meaning.Variable n of fixed) = ⊥
IsNoVariable (meaning.Object n of fixed) = Unit {0}
IsNoVariable (meaning.Function signature) = Unit {0}
IsNoVariable (meaning.Library function) = Unit {0}

module _ (P Q : Meaning → Type 0) (so : (m : Meaning) → P m → Q m) where
  scope_so : (scope : Scope) → ScopeEach P scope → ScopeEach Q scope
  scope_so [] h = tt
  scope_so (entry ∷ scope) h = (so entry.1 h.0, scope_so scope h.1)

  pub names_so : (names : Names) → NamesEach P names → NamesEach Q names
  names_so [] h = tt
  names_so (scope ∷ names) h = (scope_so scope h.0, names_so names h.1)

module _ (P : Meaning → Type 0) where
  -- the first of two that is there
  entry_or : (b : Bool) (here : Meaning) (rest : Option Meaning) (m : Meaning) → P here → (rest ≡ Some m → P m) → (if b then Some here else rest) ≡ Some m → P m
  entry_or true here rest m one each is = subst P (same_Some here m is) one
  entry_or false here rest m one each is = each is

  scope_or : (o rest : Option Meaning) (m : Meaning) → ((here : Meaning) → o ≡ Some here → P here) → (rest ≡ Some m → P m) → or_meaning o rest ≡ Some m → P m
  scope_or None rest m one each is = each is
  scope_or (Some here) rest m one each is = subst P (same_Some here m is) (one here refl)

  found_in : (scope : Scope) (x : List ℕ) (m : Meaning) → ScopeEach P scope → meaning_in scope x ≡ Some m → P m
  found_in [] x m h is = absurd (none-some m is)
  found_in (entry ∷ scope) x m h is = entry_or (bytes_eq entry.0 x) entry.1 (meaning_in scope x) m h.0 (found_in scope x m h.1) is

  -- so does what a name means
  pub found : (names : Names) (x : List ℕ) (m : Meaning) → NamesEach P names → meaning_of names x ≡ Some m → P m
  found [] x m h is = absurd (none-some m is)
  found (scope ∷ names) x m h is =
      scope_or (meaning_in scope x) (meaning_of names x) m (λ here there. found_in scope x here h.0 there) (found names x m h.1) is

  -- one more name
  pub entered_each : (x : List ℕ) (m : Meaning) (names : Names) → P m → NamesEach P names → NamesEach P (entered x m names)
  entered_each x m [] one h = ((one, tt), tt)
  entered_each x m (scope ∷ names) one h = ((one, h.0), h.1)

-- among more variables it is one too
fits_among : (K : ℕ → Kind → Type 0) (low high : ℕ) → low ≤ high → (m : Meaning) → Fits K low m → Fits K high m
fits_among K low high more (meaning.Variable n of fixed) h = let below : n < low = h.0 in (omega (arith, below, more), h.1)
fits_among K low high more (meaning.Object n of fixed) h = tt
fits_among K low high more (meaning.Function signature) h = tt
fits_among K low high more (meaning.Library function) h = tt

pub names_among : (K : ℕ → Kind → Type 0) (low high : ℕ) (names : Names) → low ≤ high → NamesEach (Fits K low) names → NamesEach (Fits K high) names
names_among K low high names more h = names_so (Fits K low) (Fits K high) (fits_among K low high more) names h

none_fits : (K : ℕ → Kind → Type 0) (m : Meaning) → IsNoVariable m → Fits K 0 m
none_fits K (meaning.Variable n of fixed) h = absurd h
none_fits K (meaning.Object n of fixed) h = tt
none_fits K (meaning.Function signature) h = tt
none_fits K (meaning.Library function) h = tt

pub no_variables_fit : (K : ℕ → Kind → Type 0) (names : Names) → NamesEach IsNoVariable names → NamesEach (Fits K 0) names
no_variables_fit K names h = names_so IsNoVariable (Fits K 0) (none_fits K) names h
