-- For contracts between crates: nobody has to believe it.
-- How the code reads macros, token by token.
use Rattle.std.specs.Prelude.{◌≡◌, ℕ, Bool, List, ◌++◌, Option, Some, None, Result, Ok, Err}
use Rattle.k_lex_pieces.specs.declared.fault.Fault.{Fault}
use Rattle.k_lex_pieces.specs.declared.fault.Stop.{Stop}
use Rattle.k_lex_sources.specs.declared.rows.Cut.{Cut}
use Rattle.k_lex_bodies.specs.declared.bodies.Glue.{Glue}
use Rattle.k_lex_bodies.specs.declared.bodies.Part.{Part}
use Rattle.k_lex_bodies.specs.declared.bodies.Setting.{Setting}
use Rattle.k_lex_bodies.specs.declared.bodies.Sign.{Sign}
use Rattle.k_lex_bodies.specs.declared.bodies.Listing.{Listing}
use Rattle.k_num.specs.declared.place.Place.{Place}
use Rattle.k_lex_pieces.specs.Outcome.{Fails}
use Rattle.k_lex_bodies.specs.Bodies.{Listed, by_listing, by_sign, parts_from}

-- what comes of a list of parameters from a token on, whatever is behind it
abbrev pub Lists : Place → List (List ℕ) → List (List ℕ) → Result (Option Bool) Stop → Cut → Listing → Type 0
Lists hash old new (Ok (Some named)) cut listing =
    (cuts : List Cut) (next : Bool → List (List ℕ) → Listed) → by_listing hash old cut cuts next listing ≡ next named new
Lists hash old new (Ok None) cut listing = (cuts : List Cut) (next : Bool → List (List ℕ) → Listed) → by_listing hash old cut cuts next listing ≡ Ok (new, cuts)
Lists hash old new (Err e) cut listing = (cuts : List Cut) (next : Bool → List (List ℕ) → Listed) → Fails e (by_listing hash old cut cuts next listing)

-- parts before those, or their fault
abbrev pub prepended : List Part → Result (List Part) Fault → Result (List Part) Fault
prepended before (Ok parts) = Ok (before ++ parts)
prepended before (Err fault) = Err fault

-- A token did what it is: the parts before and those from it on are the parts now and those behind it.
abbrev pub Took : Setting → List Part → List Part → Result (Glue × ℕ) Stop → Glue → Cut → Sign → Type 0
Took it old new (Ok now) glue cut sign = (next : Glue → ℕ → Result (List Part) Fault) → prepended old (by_sign it glue cut next sign) ≡ prepended new (next now.0 now.1)
Took it old new (Err e) glue cut sign = (next : Glue → ℕ → Result (List Part) Fault) → Fails e (by_sign it glue cut next sign)

-- the same, where some tokens belong to the part before
abbrev pub TookOne : Setting → List (List ℕ) → List Part → List Part → Result (Glue × ℕ) Stop → Glue → ℕ → List Cut → List Cut → Type 0
TookOne it names old new (Ok now) glue skip all rest = prepended old (parts_from it names glue skip all) ≡ prepended new (parts_from it names now.0 now.1 rest)
TookOne it names old new (Err e) glue skip all rest = Fails e (parts_from it names glue skip all)
