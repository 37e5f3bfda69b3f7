-- Believed with a public law.
-- The parameters and the body of a macro (C17 6.10.3).
use Rattle.std.specs.Prelude.{ℕ, zero, suc, ◌+◌, Bool, true, false, ◌&&◌, not, List, [], ◌∷◌, ◌++◌, Option, Some, None, Result, Ok, Err, if◌then◌else◌, codes}
use Rattle.k_num.specs.declared.place.Place.{Place}
use Rattle.k_lex_pieces.specs.declared.fault.Fault.{Fault}
use Rattle.k_lex_pieces.specs.declared.fault.Refusal.TheVariants as r
use Rattle.k_lex_pieces.specs.Bytes.{same}
use Rattle.k_lex_pieces.specs.Outcome.{◌>>=◌}
use Rattle.k_lex_expansion.specs.declared.macros.Chain.{Chain}
use Rattle.k_lex_expansion.specs.declared.macros.Operand.{Operand}
use Rattle.k_lex_expansion.specs.declared.macros.Operand.TheVariants as o
use Rattle.k_lex_expansion.specs.Names.{has}
use Rattle.k_lex_sources.specs.declared.rows.Cut.{Cut}
use Rattle.k_lex_bodies.specs.declared.bodies.Glue.{Glue}
use Rattle.k_lex_bodies.specs.declared.bodies.Glue.TheVariants as g
use Rattle.k_lex_bodies.specs.declared.bodies.Listing.{Listing}
use Rattle.k_lex_bodies.specs.declared.bodies.Listing.TheVariants as i
use Rattle.k_lex_bodies.specs.declared.bodies.Part.{Part}
use Rattle.k_lex_bodies.specs.declared.bodies.Setting.{Setting}
use Rattle.k_lex_bodies.specs.declared.bodies.Sign.{Sign}
use Rattle.k_lex_bodies.specs.declared.bodies.Sign.TheVariants as s
use Rattle.k_lex_bodies.specs.Forms.{unformed, cut_short, is_plain_name, is_spelled}

-- ---- parameters

-- the names of parameters, and the tokens behind the `)` of their list, or a fault
abbrev pub Listed : Type 0
Listed = Result (List (List ℕ) × List Cut) Fault

-- a parameter is a name that is no keyword, and is listed once
abbrev pub is_parameter : List (List ℕ) → Cut → Bool
is_parameter seen cut = is_plain_name cut && not (has seen cut.spelling)

-- what a token is in a list of parameters, where a name is next, or what follows one
abbrev pub listing_of : Bool → List (List ℕ) → Cut → Listing
listing_of true seen cut = if is_parameter seen cut then i.Name else i.Bad
listing_of false seen cut = if is_spelled (codes ")") cut then i.Closed else (if is_spelled (codes ",") cut then i.Comma else i.Bad)

-- the names from a token on that is this, where next gives those behind it
abbrev pub by_listing : Place → List (List ℕ) → Cut → List Cut → (Bool → List (List ℕ) → Listed) → Listing → Listed
by_listing hash seen cut cuts next i.Name = next false (seen ++ cut.spelling ∷ [])
by_listing hash seen cut cuts next i.Comma = next true seen
by_listing hash seen cut cuts next i.Closed = Ok (seen, cuts)
by_listing hash seen cut cuts next i.Bad = Err (unformed hash)

-- the names of a list of parameters, behind those that were seen, where a name is next or not
abbrev pub parameters : Place → Option Fault → Bool → List (List ℕ) → List Cut → Listed
parameters hash end named seen [] = Err (cut_short hash end)
parameters hash end named seen (cut ∷ cuts) = by_listing hash seen cut cuts (λ now names. parameters hash end now names cuts) (listing_of named seen cut)

-- the same behind `(`, where no parameter is needed
abbrev pub parameter_list : Place → Option Fault → List Cut → Listed
parameter_list hash end [] = Err (cut_short hash end)
parameter_list hash end (cut ∷ cuts) = if is_spelled (codes ")") cut then Ok ([], cuts) else parameters hash end true [] (cut ∷ cuts)

-- ---- what stands in a body

-- the number of a name in a list, counted from n
abbrev pub number_from : ℕ → List (List ℕ) → List ℕ → Option ℕ
number_from n [] name = None
number_from n (one ∷ names) name = if same one name then Some n else number_from (n + 1) names name

-- the number of a parameter of this name
abbrev pub number_of : List (List ℕ) → List ℕ → Option ℕ
number_of names name = number_from 0 names name

-- the fault of a `#` at this place that stands before no parameter: without a list of parameters it is no token (6.10.3.2p1)
abbrev pub lone_hash : Setting → Fault → Place → Fault
lone_hash it fault place = if it.listed then fault else record { what = r.BadByte; place = place }

-- a parameter, or another token
abbrev pub parameter_sign : Option ℕ → Sign
parameter_sign None = s.Token
parameter_sign (Some n) = s.Parameter n

-- a token, unless something is wrong with it
abbrev pub token_sign : List (List ℕ) → Cut → Option Fault → Sign
token_sign names cut None = parameter_sign (number_of names cut.spelling)
token_sign names cut (Some fault) = s.Bad fault

-- `#` before the parameter of a number, or before none
abbrev pub text_sign : Setting → Place → Option ℕ → Sign
text_sign it place None = s.Bad (lone_hash it (unformed it.hash) place)
text_sign it place (Some n) = s.Text n

-- `#` at this place, before some tokens
abbrev pub hash_sign : Setting → List (List ℕ) → Place → List Cut → Sign
hash_sign it names place [] = s.Bad (lone_hash it (cut_short it.hash it.end) place)
hash_sign it names place (next ∷ _) =
    if is_spelled (codes "#") next && not next.spaced then s.Paste
    else text_sign it place (number_of names next.spelling)

-- what a token is that stands before others in a body
abbrev pub sign_of : Setting → List (List ℕ) → Cut → List Cut → Sign
sign_of it names cut cuts = if is_spelled (codes "#") cut then hash_sign it names cut.place cuts else token_sign names cut cut.fault

-- ---- bodies

-- `##` stands before
abbrev pub is_glued : Glue → Bool
is_glued g.Pasted = true
is_glued _ = false

-- `##` may stand here
abbrev pub is_free : Glue → Bool
is_free g.Free = true
is_free _ = false

-- the end of a body, where `##` is not the last (6.10.3.3p1)
abbrev pub end_of_parts : Setting → Glue → Result (List Part) Fault
end_of_parts it g.Pasted = Err (cut_short it.hash it.end)
end_of_parts it _ = Ok []

-- a part before others, or their fault
abbrev pub with_part : Part → Result (List Part) Fault → Result (List Part) Fault
with_part part (Ok parts) = Ok (part ∷ parts)
with_part part (Err fault) = Err fault

-- a part behind this, which is that
abbrev pub part_of : Glue → Cut → Operand → Part
part_of glue cut what = record { glued = is_glued glue; spaced = cut.spaced; what = what }

-- The parts of a body from a token on that is this, where next gives those behind it, which go on so, without so many more tokens.
abbrev pub by_sign : Setting → Glue → Cut → (Glue → ℕ → Result (List Part) Fault) → Sign → Result (List Part) Fault
by_sign it glue cut next s.Paste = if is_free glue then next g.Pasted 1 else Err (unformed it.hash)
by_sign it glue cut next s.Token = with_part (part_of glue cut (o.Token cut.spelling)) (next g.Free 0)
by_sign it glue cut next (s.Parameter n) = with_part (part_of glue cut (o.Parameter n)) (next g.Free 0)
by_sign it glue cut next (s.Text n) = with_part (part_of glue cut (o.Text n)) (next g.Free 1)
by_sign it glue cut next (s.Bad fault) = Err fault

-- the parts of a body, from here on, where the first skip tokens belong to the part before
abbrev pub parts_from : Setting → List (List ℕ) → Glue → ℕ → List Cut → Result (List Part) Fault
parts_from it names glue skip [] = end_of_parts it glue
parts_from it names glue (suc skip) (cut ∷ cuts) = parts_from it names glue skip cuts
parts_from it names glue zero (cut ∷ cuts) = by_sign it glue cut (λ now skip. parts_from it names now skip cuts) (sign_of it names cut cuts)

-- what is glued to the part before some parts
abbrev pub glued_to : List Part → List Operand
glued_to [] = []
glued_to (part ∷ parts) = if part.glued then part.what ∷ glued_to parts else []

-- the chain that begins with a part before others
abbrev pub chain_of : Part → List Part → Chain
chain_of part parts = record { spaced = part.spaced; first = part.what; more = glued_to parts }

-- the chains of some parts
abbrev pub chains : List Part → List Chain
chains [] = []
chains (part ∷ parts) = if part.glued then chains parts else chain_of part parts ∷ chains parts

-- what a body of these tokens is, with parameters of these names
abbrev pub body_of : Setting → List (List ℕ) → List Cut → Result (List Chain) Fault
body_of it names cuts = parts_from it names g.First 0 cuts >>= λ parts. Ok (chains parts)
