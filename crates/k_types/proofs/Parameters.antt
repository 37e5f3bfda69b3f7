-- Parameters that are judged one after the other.
use Rattle.std.proofs.Common.{ℕ, ◌+◌, ◌<◌, ◌≤◌, ◌≡◌, refl, sym, ap, ◌∙◌, subst, arith, Bool, true, false, cond, List, [], ◌∷◌, ◌++◌, length, drop, get_or, append_assoc, append-nil, length-append, Option, Some, None, Ok, Err, Result}
use Rattle.std.specs.Prelude.{is_some, not, ◌&&◌, ◌||◌}
use Rattle.k_tree.specs.declared.tree.declaration.Param.{Param}
use Rattle.k_types_meaning.specs.declared.fault.TypeFault.{TypeFault}
use Rattle.k_types_meaning.specs.declared.fault.TypeFault.TheVariants as fault
use Rattle.k_types_meaning.specs.declared.types.CType.{CType}
use Rattle.k_types_meaning.specs.declared.names.Meaning.TheVariants as meaning
use Rattle.k_types_meaning.specs.Declarations.{type_or_int}
use Rattle.k_types_meaning.specs.Dimensions.{Size, Sizes, dimensions, param_sizes}
use Rattle.k_types_meaning.specs.Functions.{entered_option, name_or_nothing, option_twice, param_dims, param_fixed, param_judged, params_in_order, sized_param, sizes_or_none, sizes_taken}
use Rattle.k_types_meaning.specs.Made.{Made, Fine, Faulty, both, refused, then_made}
use Rattle.k_types_meaning.specs.Names.{Names}
use Rattle.k_types_meaning.specs.Statements.{Judged, Known, judged_before}
use Rattle.k_types_rules.specs.Views.{Refuses}
use Rattle.k_types_expressions.specs.Arguments.{made_before}
use Rattle.k_types.specs.Parameters.{GoesAll, GoesOn, behind_variable, checked_type, type_with}
use Rattle.k_types.specs.Results.{MakesOrRefuses}
use Rattle.k_types.proofs.Faults.{refuses_first, refuses_behind}
use Rattle.k_types.proofs.Rests.{rest_from, nothing_from}

-- a part was judged, and this is known behind it
goes_on : (result : Result (Unit {0}) TypeFault) (of : CType) (newer : Known) (j : Judged CType) → MakesOrRefuses result of j.made → newer ≡ j.after → GoesOn result newer j
goes_on (Ok done) of newer j made after = (of, made, after)
goes_on (Err f) of newer j refuses after = refuses

sized_is : (p : Param) (of : CType) (o : Option (List ℕ)) → cond (is_some o) (Fine of) (refused (fault.BadSize p.place)) ≡ sized_param p.place of o
sized_is p of None = refl
sized_is p of (Some dims) = refl

module _ (defines : Bool) (known : Known) (p : Param) where
  -- the type of the parameter, by what its dimensions come to
  abbrev type_by : Made Sizes → CType
  type_by m = type_or_int (type_with p (sizes_or_none (param_dims m)))

  -- what is made of it
  abbrev made_by : Made Sizes → Made CType
  made_by m = then_made m (λ (found : Sizes).
      cond (option_twice known.names p.name) (refused (fault.Twice (name_or_nothing p.name) p.place))
      (cond (is_some (type_with p []) && (not defines || is_some p.name)) (sized_param p.place (type_by m) (param_sizes found.sizes)) (refused (fault.Kinds p.place))))

  -- what is known behind it
  abbrev after_by : Made Sizes → Known
  after_by m = record {
    names = entered_option p.name (meaning.Variable (length known.variables) (type_by m) (param_fixed p)) known.names;
    variables = known.variables ++ record { place = p.place; of = type_by m } ∷ [];
    taken = known.taken ++ sizes_taken m;
  }

  -- a parameter whose dimensions have no fault
  pub param_goes : (result : Result (Unit {0}) TypeFault) (newer : Known) (sizes : List Size) (taken : List ℕ) (of : CType) (twice typed fits : Bool)
      → dimensions known.names p.dims ≡ Fine (record { sizes = sizes; taken = taken })
      → of ≡ type_or_int (type_with p (sizes_or_none (param_sizes sizes)))
      → twice ≡ option_twice known.names p.name → typed ≡ (is_some (type_with p []) && (not defines || is_some p.name)) → fits ≡ is_some (param_sizes sizes)
      → newer ≡ behind_variable (record known { taken = known.taken ++ taken }) p of
      → ((a : CType) → MakesOrRefuses result a (checked_type twice typed fits p a))
      → GoesOn result newer (param_judged defines known p)
  unfolding param_judged
  param_goes result newer sizes taken of twice typed fits judged of_is twice_is typed_is fits_is after makes =
      let found : Sizes = record { sizes = sizes; taken = taken } in
      let made : checked_type twice typed fits p (type_by (Fine found)) ≡ made_by (Fine found) =
      (λ i. checked_type (twice_is i) (typed_is i) (fits_is i) p (type_by (Fine found)))
      ∙ ap (λ m. cond (option_twice known.names p.name) (refused (fault.Twice (name_or_nothing p.name) p.place))
      (cond (is_some (type_with p []) && (not defines || is_some p.name)) m (refused (fault.Kinds p.place)))) (sized_is p (type_by (Fine found)) (param_sizes sizes)) in
      subst (λ m. GoesOn result newer (record { made = made_by m; after = after_by m })) (sym judged)
      (goes_on result (type_by (Fine found)) newer (record { made = made_by (Fine found); after = after_by (Fine found) })
      (subst (MakesOrRefuses result (type_by (Fine found))) made (makes (type_by (Fine found))))
      (after ∙ ap (λ a. behind_variable (record known { taken = known.taken ++ taken }) p a) of_is))

-- what parameters come to behind some of these types
abbrev behind_types : List CType → Judged (List CType) → Judged (List CType)
behind_types types j = record { made = made_before types j.made; after = j.after }

-- So many parameters were judged: what they come to, before what the rest comes to where this is known, is what all come to.
pub record ParamsSoFar (defines : Bool) (older now : Known) (n : ℕ) (params : List Param) : Type 0 where
  pub types : List CType
  pub counted : length types ≡ n
  pub within : n ≤ length params
  pub leads : params_in_order defines older params ≡ behind_types types (params_in_order defines now (drop n params))

before_nothing : {A : Type 0} (m : Made (List A)) → made_before [] m ≡ m
before_nothing (Fine more) = refl
before_nothing (Faulty f fs) = refl

-- none was judged
pub params_begin : (defines : Bool) (known : Known) (params : List Param) → ParamsSoFar defines known known 0 params
params_begin defines known params = record {
  types = [];
  counted = refl;
  within = omega arith;
  leads = λ i. record { made = sym (before_nothing (params_in_order defines known params).made) i; after = (params_in_order defines known params).after };
}

one_more : (types : List CType) (of : CType) (m : Made (List CType)) → made_before types (both (Fine of) m (λ x xs. Fine (x ∷ xs))) ≡ made_before (types ++ of ∷ []) m
one_more types of (Fine more) = ap Fine (sym (append_assoc types (of ∷ []) more))
one_more types of (Faulty f fs) = refl

-- one more was judged
module _ (defines : Bool) (older now newer : Known) (n : ℕ) (params : List Param) (p : Param) (sofar : ParamsSoFar defines older now n params)
    (inside : n < length params) (is : p ≡ get_or params n p) where
  whole : params_in_order defines older params ≡ behind_types sofar.types (params_in_order defines now (p ∷ drop (n + 1) params))
  whole = sofar.leads ∙ ap (λ ps. behind_types sofar.types (params_in_order defines now ps)) (rest_from params n p inside is)

  pub params_more : GoesOn (Ok tt) newer (param_judged defines now p) → ParamsSoFar defines older newer (n + 1) params
  params_more (of, made, after) = record {
    types = sofar.types ++ of ∷ [];
    counted = length-append sofar.types (of ∷ []) ∙ ap (λ k. k + 1) sofar.counted;
    within = omega (arith, inside);
    leads =
        whole
        ∙ ((λ i. record {
          made = made_before sofar.types (both (made i) (params_in_order defines (param_judged defines now p).after (drop (n + 1) params)).made (λ x xs. Fine (x ∷ xs)));
          after = (params_in_order defines (param_judged defines now p).after (drop (n + 1) params)).after;
        })
        ∙ ((λ i. record {
          made = one_more sofar.types of (params_in_order defines (param_judged defines now p).after (drop (n + 1) params)).made i;
          after = (params_in_order defines (param_judged defines now p).after (drop (n + 1) params)).after;
        })
        ∙ ap (λ known. behind_types (sofar.types ++ of ∷ []) (params_in_order defines known (drop (n + 1) params))) (sym after)));
  }

  -- it has a fault
  pub params_fail : (f : TypeFault) → Refuses f (param_judged defines now p).made → Refuses f (params_in_order defines older params).made
  params_fail f refuses =
      subst (λ (j : Judged (List CType)). Refuses f j.made) (sym whole)
      (refuses_behind f sofar.types (params_in_order defines now (p ∷ drop (n + 1) params)).made
      (refuses_first f (param_judged defines now p).made (params_in_order defines (param_judged defines now p).after (drop (n + 1) params)).made (λ x xs. Fine (x ∷ xs)) refuses))

-- all were judged
pub params_end : (defines : Bool) (older now : Known) (n : ℕ) (params : List Param) → ParamsSoFar defines older now n params → length params ≤ n
    → GoesAll (Ok tt) now (length params) (params_in_order defines older params)
params_end defines older now n params sofar end =
    let all : params_in_order defines older params ≡ record { made = Fine sofar.types; after = now } =
    sofar.leads ∙ (ap (λ ps. behind_types sofar.types (params_in_order defines now ps)) (nothing_from params n end)
    ∙ (λ i. record { made = Fine (append-nil sofar.types i); after = now })) in
    let count : length sofar.types ≡ n = sofar.counted in
    let within : n ≤ length params = sofar.within in
    (sofar.types, ap (λ (j : Judged (List CType)). j.made) all, omega (arith, count, within, end), sym (ap (λ (j : Judged (List CType)). j.after) all))
