-- Regions come of tokens: each stands where a token does, and has the name of one.
use Rattle.std.proofs.Common.{◌≡◌, ℕ, zero, suc, refl, sym, subst, List, [], ◌∷◌, ◌++◌, map, slice_get, Some}
use Rattle.std.proofs.lemmas.Option.{none-some, same_Some}
use Rattle.k_num.specs.declared.place.Place.{Place}
use Rattle.k_optab.specs.declared.region.Region.{Region}
use Rattle.k_tree.specs.declared.tokens.Token.{Token}
use Rattle.k_tree.specs.declared.tokens.TokenKind.{TokenKind}
use Rattle.k_tree.specs.declared.tokens.TokenKind.TheVariants as token
use Rattle.k_tree.specs.declared.tree.unit.Unit as source
use Rattle.k_tree.specs.Places.{Placed}
use Rattle.k_types_meaning.specs.declared.tree.unit.TFunc.{TFunc}
use Rattle.k_types_meaning.specs.declared.tree.unit.TUnit.{TUnit}
use Rattle.k_types_meaning.specs.Bare.{IsTyped}
use Rattle.k_regions.specs.declared.loops.LoopAt.{LoopAt}
use Rattle.k_regions.specs.Laws.{HasTheKind, HasThePlace, RegionsComeOfTokens}
use Rattle.k_regions.specs.Regions.{loops_of, regions_in, regions_of, regions_of_loops}
use Rattle.k_regions.proofs.Functions.{function_shape, functions_named, functions_seen, name_of}
use Rattle.k_regions.proofs.Seen.{pair_of}
use Rattle.k_regions.proofs.Standing.{AreTokens, LoopsGood, NamesGood, ShapesGood, source_good}

module _ (IsPlace : Place → Type 0) (IsKind : TokenKind → Type 0) where
  -- a region has such a place and the name of such a token
  abbrev pub IsRight : Region → Type 0
  IsRight r = IsPlace r.place × IsKind (token.Name r.func)

  abbrev EachRight : List Region → Type 0
  EachRight [] = Unit {0}
  EachRight (r ∷ regions) = IsRight r × EachRight regions

  at_number : (regions : List Region) → EachRight regions → (n : ℕ) (r : Region) → slice_get regions n ≡ Some r → IsRight r
  at_number [] h n r is = absurd (none-some r is)
  at_number (x ∷ regions) h zero r is = subst IsRight (same_Some x r is) h.0
  at_number (x ∷ regions) h (suc n) r is = at_number regions h.1 n r is

  loops_right : (name : List ℕ) (loops : List LoopAt) (rest : List Region) → IsKind (token.Name name) → LoopsGood IsPlace IsKind (map pair_of loops) → EachRight rest
      → EachRight (regions_of_loops name loops ++ rest)
  loops_right name [] rest one h k = k
  loops_right name (l ∷ loops) rest one h k = ((h.0.0, one), ((h.0.1, one), loops_right name loops rest one h.1 k))

  functions_right : (fs : List TFunc) → ShapesGood IsPlace IsKind (map function_shape fs) → NamesGood IsPlace IsKind (map name_of fs) → EachRight (regions_in fs)
  functions_right [] h k = tt
  functions_right (f ∷ fs) h k = ((h.0.0, k.0), loops_right f.name (loops_of f) (regions_in fs) k.0 h.0.1 (functions_right fs h.1 k.1))

  -- each region of a source, of whose tokens that holds
  pub regions_right : (unit : source.Unit) (typed : TUnit) (tokens : List Token) → Placed unit tokens → AreTokens IsPlace IsKind tokens → IsTyped unit typed
      → (n : ℕ) (r : Region) → slice_get (regions_of typed) n ≡ Some r → IsRight r
  unfolding regions_of
  regions_right unit typed tokens placed good is =
      let right = source_good IsPlace IsKind unit tokens placed good in
      at_number (regions_in typed.functions)
      (functions_right typed.functions (subst (ShapesGood IsPlace IsKind) (sym (functions_seen unit typed is)) right.0)
      (subst (NamesGood IsPlace IsKind) (sym (functions_named unit typed is)) right.1))

pub come_of_tokens : RegionsComeOfTokens
come_of_tokens unit typed tokens placed is n r at =
    let right = regions_right (HasThePlace tokens) (HasTheKind tokens) unit typed tokens placed (λ m t there. ((m, (t, (there, refl))), (m, (t, (there, refl))))) is n r at in
    record { place = right.0; name = right.1 }
