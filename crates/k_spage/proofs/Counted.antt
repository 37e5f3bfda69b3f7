-- How many keys a table has.
use Rattle.std.proofs.Common.{◌≡◌, ℕ, ◌+◌, ◌<◌, ◌≤◌, zero, suc, List, length, take, set, get_or, cond, Bool, true, false, Option, Some, None, is_some, count_by, refl, ap, sym, ◌∙◌, arith, ⊎_elim}
use Rattle.std.proofs.lemmas.Bool.{cases_lt}
use Rattle.std.proofs.lemmas.List.{take_all, get_or_past}
use Rattle.std.proofs.lemmas.List.Sums.{count_by_more_yes, count_by_more_no, sum_by-set}
use Rattle.k_spage.specs.Pages.{key_of}
use Rattle.k_spage.specs.ShadowPages.{count_below}

-- one number more
count_step : (table : List (Option ℕ)) (n : ℕ) → n < length table → (b : Bool) → is_some (get_or table n None) ≡ b → count_by is_some (take (n + 1) table) ≡ count_by is_some (take n table) + cond b 1 0
count_step table n h true e = count_by_more_yes is_some table n None h e
count_step table n h false e = count_by_more_no is_some table n None h e ∙ (let z : count_by is_some (take n table) ≡ count_by is_some (take n table) + 0 = omega arith in z)

count_past : (table : List (Option ℕ)) (n : ℕ) → length table ≤ n → count_by is_some (take (n + 1) table) ≡ count_by is_some (take n table) + cond (is_some (get_or table n None)) 1 0
count_past table n h =
    let none : get_or table n None ≡ None = get_or_past table n None h in
    let z : count_by is_some table ≡ count_by is_some table + 0 = omega arith in
    ap (λ ks. count_by is_some ks) (take_all (n + 1) table (omega arith))
    ∙ z
    ∙ ap (λ ks. count_by is_some ks + 0) (sym (take_all n table h))
    ∙ ap (λ o. count_by is_some (take n table) + cond (is_some o) 1 0) (sym none)

-- the numbers of pages that have a key
pub count_below-keys : (table : List (Option ℕ)) (n : ℕ) → count_below (λ page. is_some (key_of table page)) n ≡ count_by is_some (take n table)
unfolding count_below
count_below-keys table zero = refl
count_below-keys table (suc n) =
    let one : n + 1 ≡ suc n = omega arith in
    ap (λ m. m + cond (is_some (get_or table n None)) 1 0) (count_below-keys table n)
    ∙ sym (⊎_elim (λ (lt : n < length table). count_step table n lt (is_some (get_or table n None)) refl) (λ (ge : length table ≤ n). count_past table n ge) (cases_lt n (length table)))
    ∙ ap (λ m. count_by is_some (take m table)) one

-- a key where there was none
pub count_by-set : (table : List (Option ℕ)) (page key : ℕ) → page < length table → get_or table page None ≡ None → count_by is_some (set table page (Some key)) ≡ count_by is_some table + 1
count_by-set table page key h e =
    let one = sum_by-set (λ (o : Option ℕ). cond (is_some o) 1 0) table page (Some key) None h in
    let none : ◌≡◌ {A = ℕ} (cond (is_some (get_or table page None)) 1 0) 0 = ap (λ (o : Option ℕ). cond (is_some o) 1 0) e in
    omega (arith, one, none)
