-- What the names that are known at a place mean, each with the name itself.
use Rattle.std.proofs.Common.{◌≡◌, ℕ, List, [], ◌∷◌, Option, Some, None, Bool, true, false, if◌then◌else◌, refl, sym, subst}
use Rattle.std.specs.Cmp.Lexicographic.{same_text}
use Rattle.std.specs.Str.{bytes_eq}
use Rattle.std.proofs.lemmas.Option.{none-some, same_Some}
use Rattle.k_types_meaning.specs.declared.names.Meaning.{Meaning}
use Rattle.k_types_meaning.specs.Declarations.{entered}
use Rattle.k_types_meaning.specs.Names.{Scope, Names, meaning_in, or_meaning, meaning_of}

-- each name of a scope means such a thing
abbrev pub ScopeEach : (List ℕ → Meaning → Type 0) → Scope → Type 0
ScopeEach P [] = Unit {0}
ScopeEach P (entry ∷ scope) = P entry.0 entry.1 × ScopeEach P scope

-- so does each name of several scopes
abbrev pub NamesEach : (List ℕ → Meaning → Type 0) → Names → Type 0
NamesEach P [] = Unit {0}
NamesEach P (scope ∷ names) = ScopeEach P scope × NamesEach P names

module _ (P : List ℕ → Meaning → Type 0) where
  -- the first of two that is there
  entry_or : (b : Bool) (y x : List ℕ) (here : Meaning) (rest : Option Meaning) (m : Meaning) → bytes_eq y x ≡ b → P y here → (rest ≡ Some m → P x m)
      → (if b then Some here else rest) ≡ Some m → P x m
  entry_or true y x here rest m same one each is = subst (λ (z : List ℕ). P z m) (same_text y x (sym same)) (subst (P y) (same_Some here m is) one)
  entry_or false y x here rest m same one each is = each is

  scope_or : (x : List ℕ) (o rest : Option Meaning) (m : Meaning) → ((here : Meaning) → o ≡ Some here → P x here) → (rest ≡ Some m → P x m) → or_meaning o rest ≡ Some m → P x m
  scope_or x None rest m one each is = each is
  scope_or x (Some here) rest m one each is = subst (P x) (same_Some here m is) (one here refl)

  pub found_in : (scope : Scope) (x : List ℕ) (m : Meaning) → ScopeEach P scope → meaning_in scope x ≡ Some m → P x m
  found_in [] x m h is = absurd (none-some m is)
  found_in (entry ∷ scope) x m h is = entry_or (bytes_eq entry.0 x) entry.0 x entry.1 (meaning_in scope x) m refl h.0 (found_in scope x m h.1) is

  -- so does what a name means
  pub found : (names : Names) (x : List ℕ) (m : Meaning) → NamesEach P names → meaning_of names x ≡ Some m → P x m
  found [] x m h is = absurd (none-some m is)
  found (scope ∷ names) x m h is =
      scope_or x (meaning_in scope x) (meaning_of names x) m (λ here there. found_in scope x here h.0 there) (found names x m h.1) is

  -- one more name
  pub entered_each : (x : List ℕ) (m : Meaning) (names : Names) → P x m → NamesEach P names → NamesEach P (entered x m names)
  entered_each x m [] one h = ((one, tt), tt)
  entered_each x m (scope ∷ names) one h = ((one, h.0), h.1)
