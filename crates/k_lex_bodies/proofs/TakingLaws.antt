-- How the code reads a body, token by token.
use Rattle.std.proofs.Common.{◌≡◌, ℕ, zero, suc, ◌-◌, ◌<◌, List, [], ◌∷◌, ◌++◌, Result, Ok, Err, refl, sym, ap, ◌∙◌, arith}
use Rattle.std.proofs.lemmas.List.{append_assoc}
use Rattle.k_lex_pieces.specs.declared.fault.Fault.{Fault}
use Rattle.k_lex_pieces.specs.declared.fault.Stop.{Stop}
use Rattle.k_lex_pieces.specs.declared.fault.Stop.TheVariants as stop
use Rattle.k_lex_pieces.specs.Outcome.{Fails}
use Rattle.k_lex_sources.specs.declared.rows.Cut.{Cut}
use Rattle.k_lex_bodies.specs.declared.bodies.Glue.{Glue}
use Rattle.k_lex_bodies.specs.declared.bodies.Part.{Part}
use Rattle.k_lex_bodies.specs.declared.bodies.Setting.{Setting}
use Rattle.k_lex_bodies.specs.Bodies.{sign_of, with_part, parts_from}
use Rattle.k_lex_bodies.specs.Taking.{prepended, Took, TookOne}

-- a part is taken
pub pushed : (old : List Part) (part : Part) (all : Result (List Part) Fault) → prepended old (with_part part all) ≡ prepended (old ++ part ∷ []) all
pushed old part (Ok parts) = ap (λ (list : List Part). Ok list) (sym (append_assoc old (part ∷ []) parts))
pushed old part (Err fault) = refl

-- a token that belongs to the part before
pub skipped : (it : Setting) (names : List (List ℕ)) (glue : Glue) (skip : ℕ) (cut : Cut) (cuts : List Cut) → 0 < skip
    → parts_from it names glue skip (cut ∷ cuts) ≡ parts_from it names glue (skip - 1) cuts
skipped it names glue zero cut cuts some = absurd (omega (arith, some))
skipped it names glue (suc skip) cut cuts some = ap (λ (n : ℕ). parts_from it names glue n cuts) less
  where
    less : skip ≡ suc skip - 1
    less = omega arith

-- a token that is a part's first
pub took_one : (it : Setting) (names : List (List ℕ)) (old new : List Part) (r : Result (Glue × ℕ) Stop) (glue : Glue) (cut : Cut) (cuts : List Cut)
    → Took it old new r glue cut (sign_of it names cut cuts) → TookOne it names old new r glue 0 (cut ∷ cuts) cuts
took_one it names old new (Ok now) glue cut cuts did = did (λ now skip. parts_from it names now skip cuts)
took_one it names old new (Err e) glue cut cuts did = did (λ now skip. parts_from it names now skip cuts)

-- what is read is the fault of a token
pub stopped : (e : Stop) (all want : Result (List Part) Fault) (parts : List Part) → Fails e all → prepended parts all ≡ want → Fails e want
stopped stop.Memory all want parts fails is = fails
stopped (stop.Refused fault) all want parts fails is = sym is ∙ ap (prepended parts) fails
