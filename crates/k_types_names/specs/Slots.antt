-- For contracts between crates: nobody has to believe it.
-- How scopes are kept: what was opened and declared, the newest first, and what each name means now.
use Rattle.std.specs.Prelude.{◌≡◌, ◌==◌, ℕ, ◌+◌, Bool, false, List, [], ◌∷◌, Option, Some, None}
use Rattle.std.specs.Map.{update}
use Rattle.std.specs.Str.{bytes_eq}
use Rattle.std.specs.String.{string_bytes}
use Rattle.k_types_meaning.specs.Names.{Names}
use Rattle.k_types_names.specs.declared.scopes.Visible.{Visible}
use Rattle.k_types_names.specs.declared.scopes.Slot.{Slot}
use Rattle.k_types_names.specs.declared.scopes.Slot.TheVariants.{Opened, Named}
use Rattle.k_types_meaning.specs.Declarations.{entered}

-- how many scopes are open
abbrev pub opened : List Slot → ℕ
opened [] = 0
opened (Opened ∷ slots) = 1 + opened slots
opened (Named name hidden ∷ slots) = opened slots

-- a name is declared as what is known of it
abbrev pub entered_as : List ℕ → Option Visible → Names → Names
entered_as x None names = names
entered_as x (Some known) names = entered x known.meaning names

-- the scopes, from what is known of each name
abbrev pub names_in : List Slot → (List ℕ → Option Visible) → Names
names_in [] known = []
names_in (Opened ∷ slots) known = [] ∷ names_in slots known
names_in (Named name hidden ∷ slots) known =
    entered_as (string_bytes name) (known (string_bytes name)) (names_in slots (update bytes_eq known (string_bytes name) hidden))

-- something is known, from where so many scopes were open
abbrev pub IsFrom : ℕ → Option Visible → Type 0
IsFrom depth None = ⊥
IsFrom depth (Some known) = known.depth ≡ depth

-- whether something is known from where so many scopes are open
abbrev pub from : Option Visible → ℕ → Bool
from None depth = false
from (Some known) depth = known.depth == depth

-- each name that was declared is known from there, and nothing else is
abbrev pub AllKnown : List Slot → (List ℕ → Option Visible) → Type 0
AllKnown [] known = (x : List ℕ) → known x ≡ None
AllKnown (Opened ∷ slots) known = AllKnown slots known
AllKnown (Named name hidden ∷ slots) known =
    IsFrom (opened slots) (known (string_bytes name)) × AllKnown slots (update bytes_eq known (string_bytes name) hidden)

-- the scopes are kept: so many are open, and all names are known
pub record IsKept (depth : ℕ) (slots : List Slot) (known : List ℕ → Option Visible) : Type 0 where
  pub counted : depth ≡ opened slots
  pub known_all : AllKnown slots known
