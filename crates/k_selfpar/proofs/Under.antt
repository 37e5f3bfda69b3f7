-- Contexts of a forest: they do not depend on the order of siblings, there is one list of them, and none is below 1.
use Rattle.std.proofs.Common.{◌≡◌, ℕ, zero, suc, ◌+◌, ◌/◌, ◌%◌, ◌<◌, ◌≤◌, inl, inr, Bool, true, false, ◌==◌, List, [], ◌∷◌, ◌++◌, length, get_or, refl, sym, ap, ◌∙◌, subst, arith, if◌then◌else◌}
use Rattle.std.specs.Prelude.{option_map}
use Rattle.std.specs.Int.{IsGcd}
use Rattle.std.proofs.Math.Nat.{mod-lt}
use Rattle.std.proofs.lemmas.Bool.{cases_eq, cases_lt, eq-eqb, ne_eqb}
use Rattle.std.proofs.lemmas.List.Elements.{All-append, All-cons, All-nil}
use Rattle.std.proofs.lemmas.Nat.Gcd.{IsGcd-from_mod, IsGcd-from_zero}
use Rattle.std.proofs.lemmas.Option.{same_Some, slice_get-get_or}
use Rattle.k_optab.specs.declared.region.Region.{Region}
use Rattle.k_optab.specs.declared.region.RegionKind.TheVariants.{Func}
use Rattle.k_dict_entries.specs.Trees.{Alike, Forest, Label, bare, grown, size}
use Rattle.k_dict_entries.proofs.Forests.{Alike-size}
use Rattle.k_selfpar.specs.Contexts.{AreUnder, ContextsAreAtLeastOne, IsContext, NoneBelow, inner_forest, chosen, count_in, group, has_turns, none, others, with_beside}
use Rattle.k_selfpar.specs.Ratio.{IsRatio}
use Rattle.k_selfpar.specs.Sums.{one, outer, outer_paths, outer_works, serial_in}
use Rattle.k_selfpar.specs.declared.context.Context.{Context}
use Rattle.k_selfpar.proofs.Besides.{children_alike, chosen_alike, count_alike, none_below_alike, others_alike, paths_alike, serial_alike, size-children, size-parts, count-below-size, works_alike}
use Rattle.k_selfpar.proofs.Lowest.{one_ratio, quotients_ratio}
use Rattle.k_selfpar.proofs.Profile.{Bounded}
use Rattle.k_selfpar.proofs.Rowed.{ratio_at_least_one}

-- a context of a group is one of each group that is alike
pub context_alike : (regions : List Region) (parent region : ℕ) (f g : Forest) (c : Context) → Alike f g → IsContext regions parent region f c
    → IsContext regions parent region g c
context_alike regions parent region f g c are is = record {
  parent_is = is.parent_is;
  region_is = is.region_is;
  kind = is.kind;
  instances = is.instances ∙ count_alike f g are;
  turns = is.turns ∙ ap (λ n. if has_turns regions region then n else 0)
      (count_alike (chosen (region + 1) (inner_forest f)) (chosen (region + 1) (inner_forest g))
      (chosen_alike (region + 1) (inner_forest f) (inner_forest g) (children_alike f g are)));
  work = is.work ∙ works_alike f g are;
  path = is.path ∙ paths_alike f g are;
  sp = subst (λ n. IsRatio n (outer_paths g) c.sp.0 c.sp.1) (serial_alike f g are)
      (subst (λ n. IsRatio (outer serial_in f) n c.sp.0 c.sp.1) (paths_alike f g are) is.sp);
}

bare_alike : (g : Forest) → Alike bare g → g ≡ bare
bare_alike bare are = refl
bare_alike (grown x i l) are = absurd (let e : size bare ≡ size (grown x i l) = Alike-size bare (grown x i l) are in omega arith)

-- contexts do not depend on the order of siblings
pub under_alike : (regions : List Region) (parent number : ℕ) (f g : Forest) (contexts : List Context) → AreUnder regions parent number f contexts → Alike f g
    → AreUnder regions parent number g contexts
under_alike regions parent number _ g _ (none _ _ _) are =
    subst (λ x. AreUnder regions parent number x []) (sym (bare_alike g are)) (none regions parent number)
under_alike regions parent number f g _ (group _ _ _ region _ c below later some least is under behind) are =
    let same : Alike (chosen region f) (chosen region g) = chosen_alike region f g are in
    group regions parent number region g c below later
    (subst (λ n. 0 < n) (count_alike (chosen region f) (chosen region g) same) some)
    (none_below_alike region f g are least)
    (context_alike regions parent region (chosen region f) (chosen region g) c same is)
    (under_alike regions number (number + 1) (inner_forest (chosen region f)) (inner_forest (chosen region g)) below under
    (children_alike (chosen region f) (chosen region g) same))
    (under_alike regions parent ((number + 1) + length below) (others region f) (others region g) later behind (others_alike region f g are))

-- how a list of contexts begins
pub record Opens (regions : List Region) (parent number : ℕ) (f : Forest) (contexts : List Context) : Type 0 where
  pub region : ℕ
  pub first : Context
  pub below : List Context
  pub later : List Context
  pub whole : contexts ≡ first ∷ (below ++ later)
  pub some : 0 < count_in region f
  pub least : NoneBelow region f
  pub is : IsContext regions parent region (chosen region f) first
  pub under : AreUnder regions number (number + 1) (inner_forest (chosen region f)) below
  pub behind : AreUnder regions parent ((number + 1) + length below) (others region f) later

count_within : (region : ℕ) (f : Forest) → count_in region f ≤ outer one f
count_within region bare = omega arith
count_within region (grown x i l) = by (x.region == region) (chosen region l) (count_within region l)
  where
    by : (b : Bool) (c : Forest) → outer one c ≤ outer one l → outer one (if b then grown x i c else c) ≤ 1 + outer one l
    by true c le = omega arith
    by false c le = omega arith

pub opened : (regions : List Region) (parent number : ℕ) (f : Forest) (contexts : List Context) → AreUnder regions parent number f contexts → 0 < outer one f
    → Opens regions parent number f contexts
opened regions parent number _ _ (none _ _ _) some = absurd (omega arith)
opened regions parent number f _ (group _ _ _ region _ c below later here least is under behind) some =
    record { region = region; first = c; below = below; later = later; whole = refl; some = here; least = least; is = is; under = under; behind = behind }

closed : (regions : List Region) (parent number : ℕ) (f : Forest) (contexts : List Context) → outer one f ≡ 0 → AreUnder regions parent number f contexts → contexts ≡ []
closed regions parent number _ _ empty (none _ _ _) = refl
closed regions parent number f _ empty (group _ _ _ region _ c below later some least is under behind) =
    absurd (let le = count_within region f in omega arith)

-- a region that occurs is no lower than one below which none is
occurs_above : (region other : ℕ) (f : Forest) → NoneBelow region f → 0 < count_in other f → region ≤ other
occurs_above region other bare least some = absurd (omega arith)
occurs_above region other (grown x i l) least some = elim (cases_eq x.region other) [
  | inl is ↦ let low : region ≤ x.region = least.0 in omega arith
  | inr ne ↦ occurs_above region other l least.1
      (subst (λ b. 0 < outer one (if b then grown x i (chosen other l) else chosen other l)) (ne_eqb x.region other ne) some)
]

-- there is one context of a group
one_context : (regions : List Region) (parent region : ℕ) (f : Forest) (c d : Context) → IsContext regions parent region f c → IsContext regions parent region f d → c ≡ d
one_context regions parent region f c d one_is other_is = λ i. record {
  parent = (one_is.parent_is ∙ sym other_is.parent_is) i;
  region = (one_is.region_is ∙ sym other_is.region_is) i;
  kind = same_Some c.kind d.kind (sym one_is.kind ∙ other_is.kind) i;
  instances = (one_is.instances ∙ sym other_is.instances) i;
  turns = (one_is.turns ∙ sym other_is.turns) i;
  work = (one_is.work ∙ sym other_is.work) i;
  path = (one_is.path ∙ sym other_is.path) i;
  sp = (sp.0 i, sp.1 i);
}
  where
    sp : (c.sp.0 ≡ d.sp.0) × (c.sp.1 ≡ d.sp.1)
    sp = one_ratio (outer serial_in f) (outer_paths f) c.sp.0 c.sp.1 d.sp.0 d.sp.1 one_is.sp other_is.sp

same_region : (a b : ℕ) → a ≤ b → b ≤ a → a ≡ b
same_region a b le ge = omega arith

-- a forest has one list of contexts
pub one_list : (regions : List Region) (parent number : ℕ) (f : Forest) (cs ds : List Context) → AreUnder regions parent number f cs
    → AreUnder regions parent number f ds → cs ≡ ds
one_list regions parent number _ _ ds (none _ _ _) other = sym (closed regions parent number bare ds refl other)
one_list regions parent number f _ ds (group _ _ _ region _ c below later some least is under behind) other =
    let more : 0 < outer one f = let le = count_within region f in omega arith in
    let o : Opens regions parent number f ds = opened regions parent number f ds other more in
    let one_way : region ≤ o.region = occurs_above region o.region f least o.some in
    let other_way : o.region ≤ region = occurs_above o.region region f o.least some in
    let at : o.region ≡ region = same_region o.region region other_way one_way in
    let first : c ≡ o.first =
    one_context regions parent region (chosen region f) c o.first is (subst (λ r. IsContext regions parent r (chosen r f) o.first) at o.is) in
    let inner : below ≡ o.below =
    one_list regions number (number + 1) (inner_forest (chosen region f)) below o.below under
    (subst (λ r. AreUnder regions number (number + 1) (inner_forest (chosen r f)) o.below) at o.under) in
    let rest : later ≡ o.later =
    one_list regions parent ((number + 1) + length below) (others region f) later o.later behind
    (subst (λ (l : List Context). AreUnder regions parent ((number + 1) + length l) (others region f) o.later) (sym inner)
    (subst (λ r. AreUnder regions parent ((number + 1) + length o.below) (others r f) o.later) at o.behind)) in
    (λ i. first i ∷ (inner i ++ rest i)) ∙ sym o.whole

-- bounded paths, in the parts of a forest
pub bounded_chosen : (region : ℕ) (f : Forest) → Bounded f → Bounded (chosen region f)
bounded_chosen region bare bounded = tt
bounded_chosen region (grown x i l) bounded = by (x.region == region) (chosen region l) (bounded_chosen region l bounded.2)
  where
    by : (b : Bool) (c : Forest) → Bounded c → Bounded (if b then grown x i c else c)
    by true c is = (bounded.0, bounded.1, is)
    by false c is = is

pub bounded_others : (region : ℕ) (f : Forest) → Bounded f → Bounded (others region f)
bounded_others region bare bounded = tt
bounded_others region (grown x i l) bounded = by (x.region == region) (others region l) (bounded_others region l bounded.2)
  where
    by : (b : Bool) (c : Forest) → Bounded c → Bounded (if b then c else grown x i c)
    by true c is = is
    by false c is = (bounded.0, bounded.1, is)

bounded_beside : (f g : Forest) → Bounded f → Bounded g → Bounded (with_beside f g)
bounded_beside bare g one_is other_is = other_is
bounded_beside (grown x i l) g one_is other_is = (one_is.0, one_is.1, bounded_beside l g one_is.2 other_is)

pub bounded_children : (f : Forest) → Bounded f → Bounded (inner_forest f)
bounded_children bare bounded = tt
bounded_children (grown x i l) bounded = bounded_beside i (inner_forest l) bounded.1 (bounded_children l bounded.2)

paths_below_serial : (f : Forest) → Bounded f → outer_paths f ≤ outer serial_in f
paths_below_serial bare bounded = omega arith
paths_below_serial (grown x i l) bounded =
    let here : x.path ≤ serial_in x i = bounded.0.parts in let rest = paths_below_serial l bounded.2 in omega arith

-- no context of a bounded forest has a self-parallelism below 1
pub under_at_least_one : (regions : List Region) (parent number : ℕ) (f : Forest) (contexts : List Context) → AreUnder regions parent number f contexts → Bounded f
    → ContextsAreAtLeastOne contexts
under_at_least_one regions parent number _ _ (none _ _ _) bounded = All-nil (λ (c : Context). c.sp.1 ≤ c.sp.0)
under_at_least_one regions parent number f _ (group _ _ _ region _ c below later some least is under behind) bounded =
    let here : Bounded (chosen region f) = bounded_chosen region f bounded in
    All-cons (λ (d : Context). d.sp.1 ≤ d.sp.0) c (below ++ later)
    (ratio_at_least_one (outer serial_in (chosen region f)) (outer_paths (chosen region f)) c.sp.0 c.sp.1 (paths_below_serial (chosen region f) here) is.sp)
    (All-append (λ (d : Context). d.sp.1 ≤ d.sp.0) below later
    (under_at_least_one regions number (number + 1) (inner_forest (chosen region f)) below under (bounded_children (chosen region f) here))
    (under_at_least_one regions parent ((number + 1) + length below) (others region f) later behind (bounded_others region f bounded)))

-- each instance of a forest is of one of so many regions
abbrev pub Names : ℕ → Forest → Type 0
Names count bare = Unit {0}
Names count (grown x i l) = (x.region < count) × Names count i × Names count l

names_chosen : (count region : ℕ) (f : Forest) → Names count f → Names count (chosen region f)
names_chosen count region bare names = tt
names_chosen count region (grown x i l) names = by (x.region == region) (chosen region l) (names_chosen count region l names.2)
  where
    by : (b : Bool) (c : Forest) → Names count c → Names count (if b then grown x i c else c)
    by true c is = (names.0, names.1, is)
    by false c is = is

names_others : (count region : ℕ) (f : Forest) → Names count f → Names count (others region f)
names_others count region bare names = tt
names_others count region (grown x i l) names = by (x.region == region) (others region l) (names_others count region l names.2)
  where
    by : (b : Bool) (c : Forest) → Names count c → Names count (if b then c else grown x i c)
    by true c is = is
    by false c is = (names.0, names.1, is)

names_beside : (count : ℕ) (f g : Forest) → Names count f → Names count g → Names count (with_beside f g)
names_beside count bare g one_is other_is = other_is
names_beside count (grown x i l) g one_is other_is = (one_is.0, one_is.1, names_beside count l g one_is.2 other_is)

names_children : (count : ℕ) (f : Forest) → Names count f → Names count (inner_forest f)
names_children count bare names = tt
names_children count (grown x i l) names = names_beside count i (inner_forest l) names.1 (names_children count l names.2)

pub names_region : (count region : ℕ) (f : Forest) → Names count f → 0 < count_in region f → region < count
names_region count region bare names some = absurd (omega arith)
names_region count region (grown x i l) names some = elim (cases_eq x.region region) [
  | inl is ↦ let lt : x.region < count = names.0 in omega arith
  | inr ne ↦ names_region count region l names.2
      (subst (λ b. 0 < outer one (if b then grown x i (chosen region l) else chosen region l)) (ne_eqb x.region region ne) some)
]

-- the lowest region of a forest's outermost instances
record HasLowest (f : Forest) : Type 0 where
  region : ℕ
  some : 0 < count_in region f
  least : NoneBelow region f

none_below_lower : (low region : ℕ) (f : Forest) → low ≤ region → NoneBelow region f → NoneBelow low f
none_below_lower low region bare le least = tt
none_below_lower low region (grown x i l) le least =
    let here : region ≤ x.region = least.0 in (omega arith, none_below_lower low region l le least.1)

count_here : (x : Label) (i l : Forest) → 0 < count_in x.region (grown x i l)
count_here x i l =
    subst (λ b. 0 < outer one (if b then grown x i (chosen x.region l) else chosen x.region l)) (sym (eq-eqb x.region x.region refl)) (omega arith)

count_more : (region : ℕ) (x : Label) (i l : Forest) → 0 < count_in region l → 0 < count_in region (grown x i l)
count_more region x i l some = by (x.region == region)
  where
    by : (b : Bool) → 0 < outer one (if b then grown x i (chosen region l) else chosen region l)
    by true = omega arith
    by false = some

has_lowest : (x : Label) (i l : Forest) → HasLowest (grown x i l)
has_lowest x i bare = record { region = x.region; some = count_here x i bare; least = (omega arith, tt) }
has_lowest x i (grown y j m) = elim (cases_lt (has_lowest y j m).region x.region) [
  | inl lt ↦ record {
    region = (has_lowest y j m).region;
    some = count_more (has_lowest y j m).region x i (grown y j m) (has_lowest y j m).some;
    least = (omega arith, (has_lowest y j m).least);
  }
  | inr ge ↦ record {
    region = x.region;
    some = count_here x i (grown y j m);
    least = (omega arith, none_below_lower x.region (has_lowest y j m).region (grown y j m) ge (has_lowest y j m).least);
  }
]

-- two numbers have a greatest common divisor, by Euclid's algorithm
has_gcd : (fuel a b : ℕ) → b < fuel → (g : ℕ) × IsGcd a b g
has_gcd zero a b lt = absurd (omega arith)
has_gcd (suc fuel) a zero lt = (a, IsGcd-from_zero a 0 refl)
has_gcd (suc fuel) a (suc b) lt =
    let less : a % suc b < suc b = mod-lt a (omega arith) in
    let r = has_gcd fuel (suc b) (a % suc b) (omega arith) in (r.0, IsGcd-from_mod a (suc b) r.0 r.1)

-- and so a ratio in lowest terms
pub has_ratio : (a b : ℕ) → (num : ℕ) × (den : ℕ) × IsRatio a b num den
has_ratio a zero = (1, 1, inl (refl, refl, refl))
has_ratio a (suc b) = let r = has_gcd (suc (suc b)) a (suc b) (omega arith) in (a / r.0, suc b / r.0, quotients_ratio a (suc b) r.0 (omega arith) r.1)

no_region : Region
no_region = record { kind = Func; func = []; place = record { line = 0; column = 0 } }

has_context : (regions : List Region) (parent region : ℕ) (f : Forest) → region < length regions → (c : Context) × IsContext regions parent region f c
has_context regions parent region f lt =
    let sp = has_ratio (outer serial_in f) (outer_paths f) in
    let r : Region = get_or regions region no_region in (
      record {
        parent = parent;
        region = region;
        kind = r.kind;
        instances = outer one f;
        turns = if has_turns regions region then count_in (region + 1) (inner_forest f) else 0;
        work = outer_works f;
        path = outer_paths f;
        sp = (sp.0, sp.1);
      },
      record {
        parent_is = refl;
        region_is = refl;
        kind = ap (option_map (λ (x : Region). x.kind)) (slice_get-get_or regions region no_region lt);
        instances = refl;
        turns = refl;
        work = refl;
        path = refl;
        sp = sp.2;
      },
    )

-- a forest whose regions there are has contexts
pub has_contexts : (regions : List Region) (fuel : ℕ) (f : Forest) → size f < fuel → Names (length regions) f → (parent number : ℕ)
    → (contexts : List Context) × AreUnder regions parent number f contexts
has_contexts regions zero f lt names parent number = absurd (omega arith)
has_contexts regions (suc fuel) bare lt names parent number = ([], none regions parent number)
has_contexts regions (suc fuel) (grown x i l) lt names parent number =
    let f : Forest = grown x i l in
    let low : HasLowest f = has_lowest x i l in
    let mine : Forest = chosen low.region f in
    let parts = size-parts low.region f in
    let counts = size-children mine in
    let some : 0 < outer one mine = low.some in
    let within_size = count-below-size mine in
    let c = has_context regions parent low.region mine (names_region (length regions) low.region f names low.some) in
    let below = has_contexts regions fuel (inner_forest mine) (omega arith)
    (names_children (length regions) mine (names_chosen (length regions) low.region f names)) number (number + 1) in
    let later = has_contexts regions fuel (others low.region f) (omega arith) (names_others (length regions) low.region f names) parent ((number + 1) + length below.0) in
    (c.0 ∷ (below.0 ++ later.0), group regions parent number low.region f c.0 below.0 later.0 low.some low.least c.1 below.1 later.1)
