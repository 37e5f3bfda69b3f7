-- For contracts between crates: nobody has to believe it.
-- Whether a function may be declared at file scope, as it is kept and as it is made.
use Rattle.std.specs.Prelude.{ℕ, List}
use Rattle.k_num.specs.declared.place.Place.{Place}
use Rattle.k_types_meaning.specs.declared.fault.TypeFault.TheVariants as fault
use Rattle.k_types_meaning.specs.declared.names.Signature.{Signature}
use Rattle.k_types_meaning.specs.Made.{Made, Fine, refused}
use Rattle.k_types.specs.declared.standing.Standing.{Standing}
use Rattle.k_types.specs.declared.standing.Standing.TheVariants as standing

-- what is made of a function that stands so
abbrev pub standing_made : Standing → Place → List ℕ → Signature → Made Signature
standing_made standing.Stands p x f = Fine f
standing_made standing.Taken p x f = refused (fault.Twice x p)
standing_made standing.Misfits p x f = refused (fault.Kinds p)
