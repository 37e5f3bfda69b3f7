-- The numbers of sources, part by part.
use Rattle.std.proofs.Common.{◌≡◌, ℕ, Bool, true, false, List, [], ◌∷◌, ◌++◌, map, Option, Some, None, length, slice_get, ◌<◌, ◌⊎◌, inl, inr, subst, refl, sym, ap, ◌∙◌}
use Rattle.std.proofs.lemmas.List.{append_assoc}
use Rattle.k_optab.specs.declared.event.Src.{Src}
use Rattle.k_world.specs.declared.value.Read.{Read}
use Rattle.k_world.specs.Operands.{source_before, source_in, sources, sources_before}
use Rattle.k_code.specs.declared.instruction.Arg.{Arg}
use Rattle.k_code.specs.Steps.{Configuration, read_of}
use Rattle.k_carry.specs.declared.cited.Cited.{Cited}
use Rattle.k_num.specs.declared.place.Place.{Place}
use Rattle.k_carry_pairs.specs.declared.origin.Origin.{Origin}
use Rattle.k_carry_pairs.proofs.Lists.{get_pushed}
use Rattle.k_carry.specs.Sources.{ArePlaced, IsPlaceOf, Setting, cited_numbers, one_number, operand_numbers, origin_numbers, unbroken}

-- of the sources of operands before others
unbroken_before : (source : Option ℕ) (broken : Bool) (rest : List Src) → unbroken (source_before source broken rest) ≡ unbroken (source_before source broken []) ++ unbroken rest
unbroken_before None broken rest = refl
unbroken_before (Some n) true rest = refl
unbroken_before (Some n) false rest = refl

pub unbroken_sources : (reads : List Read) (rest : List Src) → unbroken (sources_before reads rest) ≡ unbroken (sources_before reads []) ++ unbroken rest
unbroken_sources [] rest = refl
unbroken_sources (r ∷ reads) rest =
    unbroken_before (source_in r.slot) r.broken (sources_before reads rest)
    ∙ (ap (λ (all : List ℕ). unbroken (source_before (source_in r.slot) r.broken []) ++ all) (unbroken_sources reads rest)
    ∙ (sym (append_assoc (unbroken (source_before (source_in r.slot) r.broken [])) (unbroken (sources_before reads [])) (unbroken rest))
    ∙ ap (λ (all : List ℕ). all ++ unbroken rest) (sym (unbroken_before (source_in r.slot) r.broken (sources_before reads [])))))

-- the operands one after another
pub operands_next : (c : Configuration) (a : Arg) (args : List Arg) → operand_numbers c (a ∷ args) ≡ operand_numbers c (a ∷ []) ++ operand_numbers c args
operands_next c a args =
    let r : Read = read_of c.frame.registers a in
    unbroken_before (source_in r.slot) r.broken (sources_before (map (read_of c.frame.registers) args) [])

-- what was cited, with one operand more
pub cited_next : (c : Configuration) (a : Arg) (args all : List Arg) (before now after : List Cited) → cited_numbers now ≡ cited_numbers before ++ operand_numbers c (a ∷ [])
    → cited_numbers before ++ operand_numbers c (a ∷ args) ≡ cited_numbers after ++ operand_numbers c all
    → cited_numbers now ++ operand_numbers c args ≡ cited_numbers after ++ operand_numbers c all
cited_next c a args all before now after is was =
    ap (λ (front : List ℕ). front ++ operand_numbers c args) is
    ∙ (append_assoc (cited_numbers before) (operand_numbers c (a ∷ [])) (operand_numbers c args)
    ∙ (ap (λ (more : List ℕ). cited_numbers before ++ more) (sym (operands_next c a args)) ∙ was))

-- the sources of an operation: of its operands, the hidden one, the control source
pub all_numbers : (reads : List Read) (hidden control : Option ℕ)
    → unbroken (sources reads hidden control) ≡ unbroken (sources_before reads []) ++ (one_number hidden ++ one_number control)
all_numbers reads hidden control =
    unbroken_sources reads (source_before hidden false (source_before control false []))
    ∙ ap (λ (more : List ℕ). unbroken (sources_before reads []) ++ more)
    (unbroken_before hidden false (source_before control false []) ∙ (λ j. one_is hidden j ++ one_is control j))
  where
    one_is : (source : Option ℕ) → unbroken (source_before source false []) ≡ one_number source
    one_is None = refl
    one_is (Some n) = refl

-- the places of operations, one more
origin_push : (origins : List Origin) (x : Origin) → origin_numbers (origins ++ x ∷ []) ≡ origin_numbers origins ++ x.number ∷ []
origin_push [] x = refl
origin_push (y ∷ origins) x = ap (λ (all : List ℕ). y.number ∷ all) (origin_push origins x)

pub placed_numbers : (origins now : List Origin) (one : Cited) (place : Place) (rest later all : List Cited)
    → now ≡ origins ++ record { number = one.number; place = place } ∷ [] → rest ≡ one ∷ later → origin_numbers origins ++ cited_numbers rest ≡ cited_numbers all
    → origin_numbers now ++ cited_numbers later ≡ cited_numbers all
placed_numbers origins now one place rest later all is first was =
    ap (λ (xs : List Origin). origin_numbers xs ++ cited_numbers later) is
    ∙ (ap (λ (front : List ℕ). front ++ cited_numbers later) (origin_push origins (record { number = one.number; place = place }))
    ∙ (append_assoc (origin_numbers origins) (one.number ∷ []) (cited_numbers later)
    ∙ (ap (λ (xs : List Cited). origin_numbers origins ++ cited_numbers xs) (sym first) ∙ was)))

pub placed_push : (s : Setting) (origins now : List Origin) (x : Origin) → now ≡ origins ++ x ∷ [] → ArePlaced s origins → IsPlaceOf s x.number x.place → ArePlaced s now
placed_push s origins now x is placed new k y found =
    by (get_pushed origins x k y (ap (λ (xs : List Origin). slice_get xs k) (sym is) ∙ found))
  where
    by : ((k < length origins) × (slice_get origins k ≡ Some y)) ⊎ ((k ≡ length origins) × (x ≡ y)) → IsPlaceOf s y.number y.place
    by (inl before) = placed k y before.1
    by (inr last) = subst (λ (z : Origin). IsPlaceOf s z.number z.place) last.1 new
