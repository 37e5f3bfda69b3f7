-- An outside that holds what was seen, and that the call may have met.
use Rattle.std.proofs.Common.{ℕ, ◌≡◌, ◌≢◌, Bool, true, false, if◌then◌else◌, nat_eq, refl, sym, subst, ◌∙◌, List, [], ◌∷◌, Option, Some, None}
use Rattle.std.proofs.lemmas.Slice.Eq.{slice_eq-Decides}
use Rattle.std.specs.Cmp.{unsigned_Decides}
use Rattle.std.specs.Cmp.Lexicographic.{pointwise}
use Rattle.k_top_answers.specs.Clauses.{Fits, MayGive, MayHold, World}
use Rattle.k_top_lemmas.specs.Phases.{AreTold, Hold, IsNew, IsToldInput, IsView, Seen, Shows, View}
use Rattle.k_top_answers.specs.Steps.{Outside}

-- what files hold of which this was seen, and nothing else
abbrev content_in : List Seen → List ℕ → Option (List ℕ)
content_in [] name = None
content_in (s ∷ files) name = if pointwise nat_eq s.name name then s.content else content_in files name

-- what files hold that tell this, or of which this was seen
abbrev held_by : Option (List ℕ → Option (List ℕ)) → List Seen → List ℕ → Option (List ℕ)
held_by None files = content_in files
held_by (Some told) files = told

-- what the input holds that tells this, or of which this was seen
abbrev given_by : Option (List ℕ) → Option (List ℕ) → List ℕ
given_by (Some told) seen = told
given_by None (Some seen) = seen
given_by None None = []

-- THE OUTSIDE of a call that has seen this
abbrev pub outside_of : World → View → Outside
outside_of old view = record { files = held_by old.files.held view.files; input = given_by old.input.left view.input }

held_may : (told : Option (List ℕ → Option (List ℕ))) (files : List Seen) → MayHold told (held_by told files)
held_may None files = tt
held_may (Some told) files = refl

given_may : (told seen : Option (List ℕ)) → MayGive told (given_by told seen)
given_may None seen = tt
given_may (Some told) seen = refl

pub fits : (old : World) (view : View) → Fits (outside_of old view) old
fits old view = record { files = held_may old.files.held view.files; input = given_may old.input.left view.input }

-- a test that is not true is false
false_of : (b : Bool) → (b ≡ true → ⊥) → b ≡ false
false_of true differs = absurd (differs refl)
false_of false differs = refl

names_same : (name : List ℕ) → pointwise nat_eq name name ≡ true
names_same name = (slice_eq-Decides unsigned_Decides name name (pointwise nat_eq name name) refl).1 refl

names_differ : (name other : List ℕ) → other ≢ name → pointwise nat_eq name other ≡ false
names_differ name other differs =
    false_of (pointwise nat_eq name other) (λ is. differs (sym ((slice_eq-Decides unsigned_Decides name other (pointwise nat_eq name other) refl).0 is)))

-- by a test
chosen : {A : Type 0} (b : Bool) (x y : A) → b ≡ true → (if b then x else y) ≡ x
chosen b x y is = subst (λ c. (if c then x else y) ≡ x) (sym is) refl

passed : {A : Type 0} (b : Bool) (x y : A) → b ≡ false → (if b then x else y) ≡ y
passed b x y is = subst (λ c. (if c then x else y) ≡ y) (sym is) refl

-- a file more of another name changes none of these
keeps : (s : Seen) (files others : List Seen) → IsNew s.name others → Hold (content_in files) others → Hold (content_in (s ∷ files)) others
keeps s files [] new holds = tt
keeps s files (t ∷ others) (differs, new) (is, holds) =
    (passed (pointwise nat_eq s.name t.name) s.content (content_in files t.name) (names_differ s.name t.name differs) ∙ is, keeps s files others new holds)

-- files hold what was seen of them
hold_seen : (files : List Seen) → AreTold None files → Hold (content_in files) files
hold_seen [] told = tt
hold_seen (s ∷ files) (has, new, told) =
    (chosen (pointwise nat_eq s.name s.name) s.content (content_in files s.name) (names_same s.name), keeps s files files new (hold_seen files told))

-- files that tell hold what was seen of them
hold_told : (told : List ℕ → Option (List ℕ)) (files : List Seen) → AreTold (Some told) files → Hold told files
hold_told told [] are = tt
hold_told told (s ∷ files) (has, new, are) = (has, hold_told told files are)

files_show : (told : Option (List ℕ → Option (List ℕ))) (files : List Seen) → AreTold told files → Hold (held_by told files) files
files_show None files are = hold_seen files are
files_show (Some told) files are = hold_told told files are

input_shows : (told seen : Option (List ℕ)) → IsToldInput told seen → MayGive seen (given_by told seen)
input_shows None None is = tt
input_shows None (Some seen) is = refl
input_shows (Some told) None is = tt
input_shows (Some told) (Some seen) is = sym is

-- it holds what was seen
pub shows : (old : World) (view : View) → IsView view (record { files = old.files; input = old.input }) → Shows (outside_of old view) view
shows old view is = record { files = files_show old.files.held view.files is.files; input = input_shows old.input.left view.input is.input }
