-- For contracts between crates: nobody has to believe it.
-- Sizes as they are kept.
use Rattle.std.specs.Prelude.{List, map}
use Rattle.k_types_meaning.specs.Dimensions as dimensions
use Rattle.k_types_objects.specs.declared.size.Size.{Size}
use Rattle.k_types_objects.specs.declared.size.Size.TheVariants as size

-- the size that is kept
abbrev pub size_in : Size → dimensions.Size
size_in size.LeftOut = dimensions.LeftOut
size_in (size.Is n) = dimensions.Is n
size_in size.NoSize = dimensions.NoSize

-- the sizes that are kept
abbrev pub sizes_in : List Size → List dimensions.Size
sizes_in list = map size_in list
