-- The entries of a sum can be brought in order.
use Rattle.std.proofs.Common.{◌≡◌, ℕ, zero, suc, ◌+◌, ◌<◌, ◌⊎◌, inl, inr, List, [], ◌∷◌, ◌++◌, length, get_or, replicate, refl, sym, ap, ◌∙◌, subst, arith}
use Rattle.std.proofs.lemmas.Bool.{cases_eq, cases_lt}
use Rattle.std.proofs.lemmas.Cmp.{nat_list_cmp_total}
use Rattle.std.proofs.lemmas.List.{length-replicate}
use Rattle.k_dict_entries.specs.Entries.{NameEarlier}
use Rattle.k_dict_entries.specs.Rules.{entry_of}
use Rattle.k_dict_entries.specs.declared.entry.Entry.{Entry}
use Rattle.k_dict_saved.specs.Migration.{renumbered}
use Rattle.k_sum.specs.Laws.{TellsOfRuns}
use Rattle.k_sum.specs.declared.sum.Sum.{Sum}
use Rattle.k_sum_order.specs.Order.{AreOrdered, ComesBefore, IsOrdered, key_of}
use Rattle.k_sum_order.specs.Placing.{AreLevels, AreOrderedTo, Ordering, entry_with, level_over, placed_all}
use Rattle.k_sum_order.proofs.Comparing.{before_not, before_or}
use Rattle.k_sum_order.proofs.LevelOrder.{Leveling, leveling_more}
use Rattle.k_sum_order.proofs.Placed.{AreOfLevel, IsAmong, Rise, level_ordered, ordered_done, ordered_start}
use Rattle.k_top_exists.proofs.SumDeciding.{before_decided}

-- what comes before one that comes before another comes before that
goes_further : (c d e : Entry) → ComesBefore c d → ComesBefore d e → ComesBefore c e
goes_further c d e first second = nat_list_cmp_total.trans (key_of c) (key_of d) (key_of e) first second

-- ---- levels

module _ (entries : List Entry) (earlier : NameEarlier entries) where
  levels_from : (left count : ℕ) (levels : List ℕ) → count + left ≡ length entries → Leveling entries levels count → (levels : List ℕ) × AreLevels entries levels
  levels_from zero count levels sum at = (
    levels,
    record { count = at.count_is ∙ (let all : count ≡ length entries = omega (arith, sum) in all); each = λ n less. at.each n (omega (arith, less, sum)); low = at.low },
  )
  levels_from (suc left) count levels sum at =
      let new : List ℕ = levels ++ level_over levels (entry_of entries count).runs ∷ [] in
      levels_from left (count + 1) new (omega (arith, sum)) (leveling_more entries levels count at earlier (omega (arith, sum)) new refl)

  levels_exist : (levels : List ℕ) × AreLevels entries levels
  levels_exist = levels_from (length entries) 0 [] (omega arith) (record { count_is = refl; each = λ n less. absurd (omega (arith, less)); low = λ n. omega arith })

  -- ---- the entries of a level, from the one that comes first on
  module _ (levels : List ℕ) (are : AreLevels entries levels) (level : ℕ) (numbers : List ℕ) where
    abbrev now : ℕ → Entry
    now n = entry_with entries numbers n

    -- no entry of these comes before one that stands before it
    abbrev IsRisen : List ℕ → Type 0
    IsRisen list = Rise entries levels earlier are level numbers list

    -- what is between is between
    not_before : (k m n : ℕ) → ¬ ComesBefore (now k) (now m) → ¬ ComesBefore (now m) (now n) → ¬ ComesBefore (now k) (now n)
    not_before k m n late later first = elim (before_or (now m) (now k)) [
      | inl second ↦ later (goes_further (now m) (now k) (now n) second first)
      | inr other ↦ elim other [
        | inl same ↦ later (subst (λ e. ComesBefore e (now n)) (sym same) first)
        | inr third ↦ late third
      ]
    ]

    -- a number more in its place
    record IsInserted (n : ℕ) (list new : List ℕ) : Type 0 where
      risen : IsRisen new
      here : IsAmong n new
      others : (m : ℕ) → IsAmong m list → IsAmong m new
      from : (m : ℕ) → IsAmong m new → (m ≡ n) ⊎ IsAmong m list

    inserted : (n : ℕ) (list : List ℕ) → IsRisen list → (new : List ℕ) × IsInserted n list new
    inserted n [] rise = (
      n ∷ [],
      record {
        risen = ((λ m among. absurd among), tt);
        here = inl refl;
        others = λ m among. absurd among;
        from = λ m among. elim among [ inl same ↦ inl same | inr none ↦ absurd none ];
      },
    )
    inserted n (x ∷ list) rise = elim (before_decided (now x) (now n)) [
      | inl first ↦ (let rest : (new : List ℕ) × IsInserted n list new = inserted n list rise.1 in (
        x ∷ rest.0,
        record {
          risen = (
            (λ m among before. elim (rest.1.from m among) [
              | inl same ↦ before_not (now n) (now x) (subst (λ k. ComesBefore (now k) (now x)) same before) first
              | inr there ↦ rise.0 m there before
            ]),
            rest.1.risen,
          );
          here = inr rest.1.here;
          others = λ m among. elim among [ inl same ↦ inl same | inr there ↦ inr (rest.1.others m there) ];
          from = λ m among. elim among [
            | inl same ↦ inr (inl same)
            | inr there ↦ elim (rest.1.from m there) [ inl same ↦ inl same | inr listed ↦ inr (inr listed) ]
          ];
        },
      ))
      | inr late ↦ (
        n ∷ x ∷ list,
        record {
          risen = (
            (λ m among. elim among [
              | inl same ↦ subst (λ k. ¬ ComesBefore (now k) (now n)) (sym same) late
              | inr there ↦ not_before m x n (rise.0 m there) late
            ]),
            rise,
          );
          here = inl refl;
          others = λ m among. inr among;
          from = λ m among. elim among [ inl same ↦ inl same | inr there ↦ inr there ];
        },
      )
    ]

    -- the numbers of a level below a bound, in their places
    record AreSorted (high : ℕ) (list : List ℕ) : Type 0 where
      risen : IsRisen list
      of : (m : ℕ) → IsAmong m list → (m < high) × (get_or levels m 0 ≡ level)
      all : (m : ℕ) → m < high → get_or levels m 0 ≡ level → IsAmong m list

    sorted_below : (high : ℕ) → (list : List ℕ) × AreSorted high list
    sorted_below zero = ([], record { risen = tt; of = λ m among. absurd among; all = λ m less is. absurd (omega (arith, less)) })
    sorted_below (suc high) =
        let rest : (list : List ℕ) × AreSorted high list = sorted_below high in
        elim (cases_eq (get_or levels high 0) level) [
          | inl here ↦ (let new : (new : List ℕ) × IsInserted high rest.0 new = inserted high rest.0 rest.1.risen in (
            new.0,
            record {
              risen = new.1.risen;
              of = λ m among. elim (new.1.from m among) [
                | inl same ↦ (omega (arith, same), ap (λ k. get_or levels k 0) same ∙ here)
                | inr there ↦ (let is = rest.1.of m there in (omega (arith, is.0), is.1))
              ];
              all = λ m less is. elim (cases_lt m high) [
                | inl below ↦ new.1.others m (rest.1.all m below is)
                | inr above ↦ (let same : high ≡ m = omega (arith, less, above) in subst (λ k. IsAmong k new.0) same new.1.here)
              ];
            },
          ))
          | inr other ↦ (
            rest.0,
            record {
              risen = rest.1.risen;
              of = λ m among. (let is = rest.1.of m among in (omega (arith, is.0), is.1));
              all = λ m less is. elim (cases_lt m high) [
                | inl below ↦ rest.1.all m below is
                | inr above ↦ (let same : m ≡ high = omega (arith, less, above) in absurd (other (ap (λ k. get_or levels k 0) (sym same) ∙ is)))
              ];
            },
          )
        ]

    of_level : (list : List ℕ) → ((m : ℕ) → IsAmong m list → (m < length entries) × (get_or levels m 0 ≡ level))
        → AreOfLevel entries levels earlier are level numbers list
    of_level [] each = tt
    of_level (m ∷ list) each = (let is = each m (inl refl) in (is.0, is.1, of_level list (λ k among. each k (inr among))))

  -- ---- level by level
  module _ (levels : List ℕ) (are : AreLevels entries levels) where
    ordered_to : (level : ℕ) → (o : Ordering) × AreOrderedTo entries levels level o
    ordered_to zero =
        let o : Ordering = record { dict = []; numbers = replicate (length entries) 0 } in
        (o, ordered_start entries levels o (length-replicate (length entries) 0) refl)
    ordered_to (suc level) =
        let before : (o : Ordering) × AreOrderedTo entries levels level o = ordered_to level in
        let list = sorted_below levels are level before.0.numbers (length entries) in (
          placed_all entries before.0 list.0,
          subst (λ n. AreOrderedTo entries levels n (placed_all entries before.0 list.0)) (one_more level)
              (level_ordered entries levels level before.0 list.0 earlier are before.1
              (of_level levels are level before.0.numbers list.0 list.1.of) list.1.risen list.1.all),
        )
      where
        one_more : (level : ℕ) → level + 1 ≡ suc level
        one_more level = omega arith

  entries_ordered : (numbers : List ℕ) × (ordered : List Entry) × AreOrdered entries numbers ordered
  entries_ordered =
      let levels = levels_exist in
      let end : (o : Ordering) × AreOrderedTo entries levels.0 (length entries) o = ordered_to levels.0 levels.1 (length entries) in (
        end.0.numbers,
        end.0.dict,
        ordered_done entries levels.0 (length entries) end.0 end.1 (λ n within. (let low = levels.1.low n in omega (arith, low, within))),
      )

-- a sum has its entries in order in some way
pub ordered_exists : (sum : Sum) → TellsOfRuns sum → (ordered : Sum) × IsOrdered sum ordered
ordered_exists sum tells =
    let found = entries_ordered sum.dict tells.earlier in (
      record sum { dict = found.1; roots = renumbered found.0 sum.roots [] },
      record { numbers = found.0; dict = found.2; roots = refl; runs = refl; exits = refl; ops = refl; work = refl; regions = refl },
    )
