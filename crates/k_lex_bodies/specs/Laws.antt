-- Believed with a public law.
-- What the bodies of some macros are.
use Rattle.std.specs.Prelude.{◌≡◌, ℕ, Bool, true, false, List, [], ◌∷◌, None, Some, Ok, Err, codes}
use Rattle.k_num.specs.declared.place.Place.{Place}
use Rattle.k_lex_pieces.specs.declared.fault.Refusal.TheVariants as r
use Rattle.k_lex_pieces.specs.declared.pieces.Piece.TheVariants as p
use Rattle.k_lex_expansion.specs.declared.macros.Operand.TheVariants as o
use Rattle.k_lex_sources.specs.declared.rows.Cut.{Cut}
use Rattle.k_lex_bodies.specs.declared.bodies.Setting.{Setting}
use Rattle.k_lex_bodies.specs.Bodies.{body_of}

-- this column of the first line
abbrev pub at : ℕ → Place
at column = record { line = 1; column = column }

-- a name
abbrev pub name_cut : ℕ → Bool → List ℕ → Cut
name_cut column spaced spelling = record { place = at column; spaced = spaced; what = p.Name; spelling = spelling; fault = None }

-- a `#`
abbrev pub hash_cut : ℕ → Bool → Cut
hash_cut column spaced = record { place = at column; spaced = spaced; what = p.Unknown; spelling = codes "#"; fault = Some (record { what = r.BadByte; place = at column }) }

-- a directive at the start of its line, with a list of parameters or not
abbrev pub setting : Bool → Setting
setting listed = record { hash = at 1; end = None; listed = listed }

-- `a ## x #x`
abbrev pub joined_body : List Cut
joined_body = name_cut 14 true (codes "a") ∷ hash_cut 16 true ∷ hash_cut 17 false ∷ name_cut 19 true (codes "x") ∷ hash_cut 21 true ∷ name_cut 22 false (codes "x") ∷ []

-- with a parameter x it is a chain of a token and the parameter, and the parameter's text (6.10.3.2, 6.10.3.3)
abbrev pub JoinedBodyHasChains : Type 0
JoinedBodyHasChains = body_of (setting true) (codes "x" ∷ []) joined_body ≡ Ok (
    record { spaced = true; first = o.Token (codes "a"); more = o.Parameter 0 ∷ [] }
    ∷ record { spaced = true; first = o.Text 0; more = [] } ∷ [])

-- without parameters the second `#` is no token (6.10.3.2p1)
abbrev pub LoneHashIsRefused : Type 0
LoneHashIsRefused = body_of (setting false) [] joined_body ≡ Err (record { what = r.BadByte; place = at 21 })

-- `##` is not the last of a body (6.10.3.3p1)
abbrev pub LastPasteIsRefused : Type 0
LastPasteIsRefused = body_of (setting false) [] (name_cut 11 true (codes "a") ∷ hash_cut 13 true ∷ hash_cut 14 false ∷ []) ≡ Err (record { what = r.BadDirective; place = at 1 })
