-- Believed with the theorem on the top call.
-- The dimensions of declarators and parameters (C17 6.7.6.2): integer constants of 1 or more, and at most 4,194,304 elements in
-- one object.
use Rattle.std.specs.Prelude.{ℕ, ◌*◌, nat_le, int_le, unsigned_abs, if◌then◌else◌, ℤ, pos, List, [], ◌∷◌, map, Option, Some, None}
use Rattle.std.specs.List.{concat}
use Rattle.k_tree.specs.declared.tree.expression.Expr.{Expr}
use Rattle.k_types_meaning.specs.Constants.{constant}
use Rattle.k_types_meaning.specs.Expressions.{judge}
use Rattle.k_types_meaning.specs.Made.{Made, Fine, all_made, then_made}
use Rattle.k_types_meaning.specs.Names.{Names}
use Rattle.k_types_meaning.specs.Types.{elements}

-- a dimension: left out, a size of 1 or more, or none
pub data Size : Type 0 where
  LeftOut : Size
  Is : ℕ → Size
  NoSize : Size

-- a dimension, and the variables that `&` is applied to in it
pub record Dimension : Type 0 where
  pub size : Size
  pub taken : List ℕ

-- dimensions, and the variables that `&` is applied to in them
pub record Sizes : Type 0 where
  pub sizes : List Size
  pub taken : List ℕ

-- the size that a constant is
abbrev pub size_of_constant : Option ℤ → Size
size_of_constant None = NoSize
size_of_constant (Some z) = if int_le (pos 1) z then Is (unsigned_abs z) else NoSize

-- one dimension, with the variables that `&` is applied to in it
abbrev pub dimension : Names → Option Expr → Made Dimension
dimension names None = Fine (record { size = LeftOut; taken = [] })
dimension names (Some e) =
    then_made (judge names e) (λ v. Fine (record { size = size_of_constant (constant v.tree); taken = v.taken }))

-- dimensions one after the other
abbrev pub joined : List Dimension → Made Sizes
joined list = Fine (record {
  sizes = map (λ (d : Dimension). d.size) list;
  taken = concat (map (λ (d : Dimension). d.taken) list);
})

-- all dimensions of a declarator or parameter
unfoldable pub dimensions : Names → List (Option Expr) → Made Sizes
dimensions names dims = then_made (all_made (map (dimension names) dims)) joined

-- a size before others, where there are both
abbrev pub size_before : ℕ → Option (List ℕ) → Option (List ℕ)
size_before d None = None
size_before d (Some ds) = Some (d ∷ ds)

-- the sizes, where none is left out and each is one
abbrev pub all_sizes : List Size → Option (List ℕ)
all_sizes [] = Some []
all_sizes (LeftOut ∷ sizes) = None
all_sizes (NoSize ∷ sizes) = None
all_sizes (Is d ∷ sizes) = size_before d (all_sizes sizes)

-- sizes of one object: at most 4,194,304 elements
abbrev pub within_limit : Option (List ℕ) → Option (List ℕ)
within_limit None = None
within_limit (Some ds) = if nat_le (elements ds) 4194304 then Some ds else None

-- a first dimension that an initialiser may give, before others
abbrev pub given_before : Option ℕ → Option (List ℕ) → Option (List ℕ)
given_before None ds = None
given_before (Some d) ds = size_before d ds

-- C17 6.7.6.2p1, 6.7.9p22: the dimensions of an object, of which an initialiser may give the first; none where one is wrong
abbrev pub object_sizes : List Size → Option ℕ → Option (List ℕ)
object_sizes [] given = Some []
object_sizes (LeftOut ∷ sizes) given = within_limit (given_before given (all_sizes sizes))
object_sizes (Is d ∷ sizes) given = within_limit (size_before d (all_sizes sizes))
object_sizes (NoSize ∷ sizes) given = None

-- What is known of a size of a declarator of which a size is wrong, where those before it make so many elements: the size, where it is one
-- and there are not too many with it; else 0, since nothing is known of it.
abbrev pub known_size : ℕ → Size → ℕ
known_size n LeftOut = 0
known_size n NoSize = 0
known_size n (Is d) = if nat_le (n * d) 4194304 then d else 0

-- so many elements, each with as many as a size says, where it is known
abbrev pub times_known : ℕ → ℕ → ℕ
times_known n d = if nat_le 1 d then n * d else n

-- what is known of sizes, where those before them make so many elements
abbrev pub known_sizes : ℕ → List Size → List ℕ
known_sizes n [] = []
known_sizes n (size ∷ sizes) = known_size n size ∷ known_sizes (times_known n (known_size n size)) sizes

-- the sizes of one object, and where one is wrong what is known of them
abbrev pub sizes_or_known : List Size → Option (List ℕ) → List ℕ
sizes_or_known sizes None = known_sizes 1 sizes
sizes_or_known sizes (Some dims) = dims

-- how many elements an array of a size takes: where the size is not known, as many as any object has
abbrev pub room : ℕ → ℕ
room d = if nat_le 1 d then d else 4194304

-- C17 6.7.6.3p7: the dimensions of a parameter behind the first, which may be left out and counts for nothing; none where one is
-- wrong
abbrev pub param_sizes : List Size → Option (List ℕ)
param_sizes [] = Some []
param_sizes (LeftOut ∷ sizes) = within_limit (all_sizes sizes)
param_sizes (Is d ∷ sizes) = within_limit (all_sizes sizes)
param_sizes (NoSize ∷ sizes) = None
