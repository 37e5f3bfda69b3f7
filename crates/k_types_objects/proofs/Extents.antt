-- How many elements sizes have together, counted up to one above the limit.
use Rattle.std.proofs.Common.{◌≡◌, inl, inr, ℕ, zero, suc, ◌*◌, ◌<◌, ◌≤◌, min, List, [], ◌∷◌, ◌++◌, length, Option, Some, None, refl, sym, ap, ◌∙◌, subst, append_assoc, append-nil, mul_assoc, mul_comm, arith}
use Rattle.std.specs.Prelude.{option_map, nat_le, cond, option_to_list, true, false}
use Rattle.std.specs.Prelude.{Bool}
use Rattle.std.proofs.lemmas.Bool.{cases_lt}
use Rattle.std.proofs.lemmas.Bool.Decides.{nat_tests}
use Rattle.std.proofs.Math.Nat.{min-eq_left, min-eq_right, mul-le-mul}
use Rattle.k_types_meaning.specs.Dimensions as dims
use Rattle.k_types_meaning.specs.Dimensions.{Size, all_sizes, known_size, known_sizes, size_before, times_known, within_limit}
use Rattle.k_types_meaning.specs.Types.{elements}
use Rattle.k_types_objects.specs.declared.size.Size as kept
use Rattle.k_types_objects.specs.declared.size.Size.TheVariants as size
use Rattle.k_types_objects.specs.KeptSizes.{size_in, sizes_in}
use Rattle.k_types_objects.specs.Products.{counted, counted_option, starts, with_first, IsSmall}

-- a product with a factor that is at least the limit
above : (m cap k : ℕ) → cap ≤ m → min (m * suc k) cap ≡ cap
above m cap k most =
    let one : cap * 1 ≤ m * suc k = mul-le-mul most (omega arith) in
    min-eq_right (omega (arith, one))

-- a product may be cut at the limit before it grows
pub min_times : (m cap e : ℕ) → min (min m cap * e) cap ≡ min (m * e) cap
min_times m cap zero = let none : min m cap * 0 ≡ m * 0 = omega arith in ap (λ x. min x cap) none
min_times m cap (suc k) = elim (cases_lt m cap) [
  | inl less ↦ ap (λ x. min (x * suc k) cap) (min-eq_left (omega arith))
  | inr most ↦ (ap (λ x. min (x * suc k) cap) (min-eq_right most) ∙ (above cap cap k (omega arith) ∙ sym (above m cap k most)))
]

-- a size may be cut at the limit
pub min_of_times : (m cap e : ℕ) → min (m * min e cap) cap ≡ min (m * e) cap
min_of_times m cap e =
    ap (λ x. min x cap) (mul_comm m (min e cap)) ∙ (min_times e cap m ∙ ap (λ x. min x cap) (mul_comm e m))

-- a product of two numbers up to the limit is small
pub small_times : (count size : ℕ) → count ≤ 4194305 → size ≤ 4194305 → count * size ≤ 17592194433025
small_times count size a b = mul-le-mul a b

either_more : (n d : ℕ) (o : Option (List ℕ))
    → option_map (λ ds. min (n * elements ds) 4194305) (size_before d o) ≡ option_map (λ ds. min (min (n * d) 4194305 * elements ds) 4194305) o
either_more n d None = refl
either_more n d (Some ds) =
    ap Some (ap (λ x. min x 4194305) (sym (mul_assoc n d (elements ds))) ∙ sym (min_times (n * d) 4194305 (elements ds)))

-- one size more
pub counted_more : (n d next : ℕ) (sizes : List Size) → next ≡ min (n * d) 4194305 → counted n (dims.Is d ∷ sizes) ≡ counted next sizes
unfolding counted
counted_more n d next sizes is =
    either_more n d (all_sizes sizes) ∙ ap (λ m. option_map (λ ds. min (m * elements ds) 4194305) (all_sizes sizes)) (sym is)

-- a size that is left out, or none
pub counted_left_out : (n : ℕ) (sizes : List Size) → counted n (dims.LeftOut ∷ sizes) ≡ None
unfolding counted
counted_left_out n sizes = refl

pub counted_wrong : (n : ℕ) (sizes : List Size) → counted n (dims.NoSize ∷ sizes) ≡ None
unfolding counted
counted_wrong n sizes = refl

-- no size more
pub counted_end : (n : ℕ) → n ≤ 4194305 → counted n [] ≡ Some n
unfolding counted
counted_end n most = let e : min (n * 1) 4194305 ≡ n = omega arith in ap Some e

either_one : (o : Option (List ℕ)) → option_map (λ ds. min (1 * elements ds) 4194305) o ≡ option_map (λ ds. min (elements ds) 4194305) o
either_one None = refl
either_one (Some ds) = let e : 1 * elements ds ≡ elements ds = omega arith in ap (λ x. Some (min x 4194305)) e

either_first : (d : ℕ) (o : Option (List ℕ))
    → option_map (λ ds. min (min d 4194305 * elements ds) 4194305) o ≡ option_map (λ ds. min (elements ds) 4194305) (size_before d o)
either_first d None = refl
either_first d (Some ds) = ap Some (min_times d 4194305 (elements ds))

-- how many elements sizes have behind one that may be given
counts_first : (first : Option ℕ) (sizes : List Size)
    → counted (starts first) sizes ≡ option_map (λ ds. min (elements ds) 4194305) (with_first first (all_sizes sizes))
unfolding counted
counts_first None sizes = either_one (all_sizes sizes)
counts_first (Some d) sizes = either_first d (all_sizes sizes)

-- sizes, by whether they have at most as many elements as there may be
by_test : (ds : List ℕ) (b : Bool) → nat_le (elements ds) 4194304 ≡ b → cond b (Some ds) None ≡ within_limit (Some ds)
by_test ds b is = ap (λ x. cond x (Some ds) None) (sym is)

is_none : (o : Option (List ℕ)) → None ≡ option_map (λ ds. min (elements ds) 4194305) o → None ≡ within_limit o
is_none None e = refl
is_none (Some ds) e = let no : ⊥ = cc in absurd no

is_many : (count : ℕ) (o : Option (List ℕ)) → Some count ≡ option_map (λ ds. min (elements ds) 4194305) o → 4194304 < count → None ≡ within_limit o
is_many count None e many = let no : ⊥ = cc in absurd no
is_many count (Some ds) e many =
    let same : count ≡ min (elements ds) 4194305 = cc in
    let above : 4194304 < elements ds = omega arith in
    by_test ds false (grind (arith, nat_tests))

is_few : (count : ℕ) (ds : List ℕ) → Some count ≡ option_map (λ ds. min (elements ds) 4194305) (Some ds) → count ≤ 4194304 → Some ds ≡ within_limit (Some ds)
is_few count ds e most =
    let same : count ≡ min (elements ds) 4194305 = cc in
    let below : elements ds ≤ 4194304 = omega arith in
    by_test ds true (grind (arith, nat_tests))

-- they are none where one is none
pub none_within : (first : Option ℕ) (sizes : List Size) → None ≡ counted (starts first) sizes → None ≡ within_limit (with_first first (all_sizes sizes))
none_within first sizes is = is_none (with_first first (all_sizes sizes)) (is ∙ counts_first first sizes)

-- they are none where they are too many
pub too_many : (first : Option ℕ) (count : ℕ) (sizes : List Size) → Some count ≡ counted (starts first) sizes → 4194304 < count
    → None ≡ within_limit (with_first first (all_sizes sizes))
too_many first count sizes is many = is_many count (with_first first (all_sizes sizes)) (is ∙ counts_first first sizes) many

-- they are those that were put
pub few : (first : Option ℕ) (count : ℕ) (sizes : List Size) (ds : List ℕ) → Some count ≡ counted (starts first) sizes → count ≤ 4194304
    → with_first first (all_sizes sizes) ≡ Some ds → Some ds ≡ within_limit (with_first first (all_sizes sizes))
few first count sizes ds is most all =
    is_few count ds (subst (λ o. Some count ≡ option_map (λ ds. min (elements ds) 4194305) o) all (is ∙ counts_first first sizes)) most
    ∙ ap within_limit (sym all)

by_first : (first : Option ℕ) (o : Option (List ℕ)) (put : List ℕ) → option_map (λ ds. option_to_list first ++ ds) o ≡ Some put → with_first first o ≡ Some put
by_first None None put e = let no : ⊥ = cc in absurd no
by_first None (Some ds) put e = e
by_first (Some d) None put e = let no : ⊥ = cc in absurd no
by_first (Some d) (Some ds) put e = e

-- the sizes that were put, behind one that may be given
pub put_first : (first : Option ℕ) (o : Option (List ℕ)) (before put : List ℕ) → before ≡ option_to_list first
    → option_map (λ ds. before ++ ds) o ≡ Some put → with_first first o ≡ Some put
put_first first o before put is all = by_first first o put (sym (ap (λ l. option_map (λ ds. l ++ ds) o) is) ∙ all)

-- one size more was counted
pub counts_more : (count next whole : Option ℕ) (s : kept.Size) (rest more : List kept.Size)
    → ((sizes : List Size) → counted_option next sizes ≡ counted_option count (size_in s ∷ sizes))
    → rest ≡ s ∷ more → counted_option count (sizes_in rest) ≡ whole → counted_option next (sizes_in more) ≡ whole
counts_more count next whole s rest more step is so_far =
    step (sizes_in more) ∙ (ap (λ l. counted_option count (sizes_in l)) (sym is) ∙ so_far)

-- all sizes were counted
pub counts_all : (count whole : Option ℕ) (rest : List kept.Size) → IsSmall count → counted_option count (sizes_in rest) ≡ whole → length rest ≡ 0 → count ≡ whole
counts_all None whole rest small so_far none = so_far
counts_all (Some n) whole [] small so_far none = sym (counted_end n small) ∙ so_far
counts_all (Some n) whole (s ∷ more) small so_far none = absurd (omega arith)

-- what one size does to a count
pub by_left_out : (n : ℕ) (s : kept.Size) (sizes : List Size) → s ≡ size.LeftOut → None ≡ counted n (size_in s ∷ sizes)
by_left_out n s sizes is = sym (ap (λ t. counted n (size_in t ∷ sizes)) is ∙ counted_left_out n sizes)

pub by_wrong : (n : ℕ) (s : kept.Size) (sizes : List Size) → s ≡ size.NoSize → None ≡ counted n (size_in s ∷ sizes)
by_wrong n s sizes is = sym (ap (λ t. counted n (size_in t ∷ sizes)) is ∙ counted_wrong n sizes)

pub by_size : (n d next : ℕ) (s : kept.Size) (sizes : List Size) → s ≡ size.Is d → next ≡ min (n * d) 4194305 → counted next sizes ≡ counted n (size_in s ∷ sizes)
by_size n d next s sizes is product = sym (ap (λ t. counted n (size_in t ∷ sizes)) is ∙ counted_more n d next sizes product)

-- what is known of a size, by whether there are too many elements with it
known_by : (n d : ℕ) (b : Bool) → nat_le (n * d) 4194304 ≡ b → cond b d 0 ≡ known_size n (dims.Is d)
known_by n d b is = ap (λ x. cond x d 0) (sym is)

-- nothing is known of one with which there are too many
pub known_too_many : (n d count : ℕ) → count ≡ min (n * d) 4194305 → 4194304 < count → 0 ≡ known_size n (dims.Is d)
known_too_many n d count is many =
    let above : 4194304 < n * d = omega arith in
    known_by n d false (grind (arith, nat_tests))

-- one with which there are not too many is known
pub known_few : (n d count : ℕ) → count ≡ min (n * d) 4194305 → count ≤ 4194304 → d ≡ known_size n (dims.Is d)
known_few n d count is most =
    let below : n * d ≤ 4194304 = omega arith in
    known_by n d true (grind (arith, nat_tests))

-- there are as many elements with it
pub few_times : (n d count : ℕ) → count ≡ min (n * d) 4194305 → count ≤ 4194304 → n * d ≤ 4194304
few_times n d count is most = omega arith

-- one size more is known
pub known_more : (n k next : ℕ) (s : kept.Size) (rest more : List kept.Size) (put items whole : List ℕ)
    → k ≡ known_size n (size_in s) → next ≡ times_known n k → items ≡ put ++ k ∷ [] → rest ≡ s ∷ more
    → put ++ known_sizes n (sizes_in rest) ≡ whole → items ++ known_sizes next (sizes_in more) ≡ whole
known_more n k next s rest more put items whole known times added is so_far =
    (λ i. added i ++ known_sizes (times i) (sizes_in more))
    ∙ (append_assoc put (k ∷ []) (known_sizes (times_known n k) (sizes_in more))
    ∙ (ap (λ m. put ++ (m ∷ known_sizes (times_known n m) (sizes_in more))) known
    ∙ (ap (λ l. put ++ known_sizes n (sizes_in l)) (sym is) ∙ so_far)))

-- all sizes are known
pub known_all : (n : ℕ) (rest : List kept.Size) (put whole : List ℕ) → put ++ known_sizes n (sizes_in rest) ≡ whole → length rest ≡ 0 → put ≡ whole
known_all n [] put whole so_far none = sym (append-nil put) ∙ so_far
known_all n (s ∷ more) put whole so_far none = absurd (omega arith)
