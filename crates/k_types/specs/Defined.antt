-- For contracts between crates: nobody has to believe it.
-- The places of names in a list, as they are kept.
use Rattle.std.specs.Prelude.{ℕ, suc, ◌≡◌, if◌then◌else◌, List, [], ◌∷◌, Option, Some, None, option_map}
use Rattle.std.specs.Map.{update}
use Rattle.std.specs.Str.{bytes_eq}

-- the place of a name in a list, if it is there: the first
abbrev pub place_of : List (List ℕ) → List ℕ → Option ℕ
place_of [] x = None
place_of (y ∷ ys) x = if bytes_eq y x then Some 0 else option_map suc (place_of ys x)

-- what is kept tells the place of each name
abbrev pub IsIndexed : List (List ℕ) → (List ℕ → Option ℕ) → Type 0
IsIndexed names places = (x : List ℕ) → places x ≡ place_of names x

-- this place, where there is none
abbrev pub or_place : Option ℕ → ℕ → Option ℕ
or_place None n = Some n
or_place (Some m) n = Some m

-- a name has its place, where it had none
abbrev pub placed : (List ℕ → Option ℕ) → List ℕ → ℕ → (List ℕ → Option ℕ)
placed places y n = update bytes_eq places y (or_place (places y) n)
