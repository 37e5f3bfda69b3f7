-- How a token changes what was read of a call.
use Rattle.std.proofs.Common.{◌≡◌, ℕ, zero, suc, ◌+◌, ◌-◌, ◌≤◌, Bool, true, false, if◌then◌else◌, List, [], ◌∷◌, ◌++◌, Option, Some, None, length, drop, ap, sym, ◌∙◌, refl, append_assoc, arith}
use Rattle.std.proofs.lemmas.List.{append-nil}
use Rattle.std.specs.Prelude.{option_map, codes, map}
use Rattle.k_lex_expansion.specs.declared.tokens.Spelled.{Spelled}
use Rattle.k_lex_expansion.specs.declared.tokens.Listed.{Listed}
use Rattle.k_lex_expansion.specs.Listing.{unhidden}
use Rattle.k_lex_expansion.specs.declared.calls.Gathering.{Gathering}
use Rattle.k_lex_expansion.specs.Calls as spec
use Rattle.k_lex_expansion.specs.Calls.{Gathered, gathered, is_outside, depth_behind, closed_by}
use Rattle.k_lex_expansion.specs.Gathering.{Whole, all_of, resumed, call_with}

-- what comes of a token, by what it is
at_token : Gathering → ℕ → Listed → List Listed → Bool → Bool → ℕ → Option Whole
at_token g n t ts close comma depth =
    option_map (resumed n g) (if close then Some (closed_by t) else (if comma then option_map spec.with_comma (gathered ts g.depth) else option_map (spec.with_token t) (gathered ts depth)))

-- the `)` of the call
pub closes : (g : Gathering) (t : Listed) → is_outside (codes ")") t g.depth ≡ true → (n : ℕ) (ts : List Listed)
    → call_with n g (t ∷ ts) ≡ Some (record { arguments = all_of g; hidden = t.hidden; size = n + 1 })
unfolding at_token
closes g t is n ts =
    ap (λ b. at_token g n t ts b (is_outside (codes ",") t g.depth) (depth_behind t g.depth)) is
    ∙ ap (λ (a : List Listed). Some (record { arguments = g.complete ++ a ∷ []; hidden = t.hidden; size = n + 1 })) (append-nil g.current)

sum_moves : (n k : ℕ) → n + (k + 1) ≡ n + 1 + k
sum_moves n k = omega arith

comma_moves : (n : ℕ) (old new : Gathering) (o : Option Gathered) → new.complete ≡ old.complete ++ old.current ∷ [] → new.current ≡ []
    → option_map (resumed n old) (option_map spec.with_comma o) ≡ option_map (resumed (n + 1) new) o
comma_moves n old new None complete current = refl
comma_moves n old new (Some x) complete current =
    ap (λ (s : ℕ). Some (record { arguments = old.complete ++ (old.current ++ []) ∷ x.first ∷ x.more; hidden = x.hidden; size = s })) (sum_moves n x.size)
    ∙ ap (λ (a : List Listed). Some (record { arguments = old.complete ++ a ∷ x.first ∷ x.more; hidden = x.hidden; size = n + 1 + x.size })) (append-nil old.current)
    ∙ ap (λ (a : List (List Listed)). Some (record { arguments = a; hidden = x.hidden; size = n + 1 + x.size })) (sym (append_assoc old.complete (old.current ∷ []) (x.first ∷ x.more)))
    ∙ ap (λ (a : List (List Listed)). Some (record { arguments = a ++ x.first ∷ x.more; hidden = x.hidden; size = n + 1 + x.size })) (sym complete)
    ∙ ap (λ (a : List Listed). Some (record { arguments = new.complete ++ (a ++ x.first) ∷ x.more; hidden = x.hidden; size = n + 1 + x.size })) (sym current)

token_moves : (n : ℕ) (old new : Gathering) (t : Listed) (o : Option Gathered) → new.complete ≡ old.complete → new.current ≡ old.current ++ t ∷ []
    → option_map (resumed n old) (option_map (spec.with_token t) o) ≡ option_map (resumed (n + 1) new) o
token_moves n old new t None complete current = refl
token_moves n old new t (Some x) complete current =
    ap (λ (s : ℕ). Some (record { arguments = old.complete ++ (old.current ++ t ∷ x.first) ∷ x.more; hidden = x.hidden; size = s })) (sum_moves n x.size)
    ∙ ap (λ (a : List Listed). Some (record { arguments = old.complete ++ a ∷ x.more; hidden = x.hidden; size = n + 1 + x.size })) (sym (append_assoc old.current (t ∷ []) x.first))
    ∙ ap (λ (a : List Listed). Some (record { arguments = old.complete ++ (a ++ x.first) ∷ x.more; hidden = x.hidden; size = n + 1 + x.size })) (sym current)
    ∙ ap (λ (a : List (List Listed)). Some (record { arguments = a ++ (new.current ++ x.first) ∷ x.more; hidden = x.hidden; size = n + 1 + x.size })) (sym complete)

-- a comma between arguments
pub parts : (old new : Gathering) (t : Listed) → is_outside (codes ")") t old.depth ≡ false → is_outside (codes ",") t old.depth ≡ true
    → new.complete ≡ old.complete ++ old.current ∷ [] → new.current ≡ [] → new.depth ≡ old.depth
    → (n : ℕ) (ts : List Listed) → call_with n old (t ∷ ts) ≡ call_with (n + 1) new ts
unfolding at_token
parts old new t unclosed comma complete current depth n ts =
    ap (λ b. at_token old n t ts b (is_outside (codes ",") t old.depth) (depth_behind t old.depth)) unclosed
    ∙ ap (λ b. at_token old n t ts false b (depth_behind t old.depth)) comma
    ∙ comma_moves n old new (gathered ts old.depth) complete current
    ∙ ap (λ d. option_map (resumed (n + 1) new) (gathered ts d)) (sym depth)

-- any other token of an argument
pub goes_on : (old new : Gathering) (t : Listed) → is_outside (codes ")") t old.depth ≡ false → is_outside (codes ",") t old.depth ≡ false
    → new.complete ≡ old.complete → new.current ≡ old.current ++ t ∷ [] → new.depth ≡ depth_behind t old.depth
    → (n : ℕ) (ts : List Listed) → call_with n old (t ∷ ts) ≡ call_with (n + 1) new ts
unfolding at_token
goes_on old new t unclosed comma complete current depth n ts =
    ap (λ b. at_token old n t ts b (is_outside (codes ",") t old.depth) (depth_behind t old.depth)) unclosed
    ∙ ap (λ b. at_token old n t ts false b (depth_behind t old.depth)) comma
    ∙ token_moves n old new t (gathered ts (depth_behind t old.depth)) complete current
    ∙ ap (λ d. option_map (resumed (n + 1) new) (gathered ts d)) (sym depth)

-- ---- a list, token by token

one_less : (a r : ℕ) → suc r ≤ a → a - suc r + 1 ≡ a - r
one_less a r le = omega (arith, le)

-- the call goes on behind a token of the list
pub list_on : (all list rest : List Listed) (t : Listed) (before old new : Gathering) → list ≡ t ∷ rest → length list ≤ length all
    → ((behind : List Listed) → call_with 0 before (all ++ behind) ≡ call_with (length all - length list) old (list ++ behind))
    → ((n : ℕ) (ts : List Listed) → call_with n old (t ∷ ts) ≡ call_with (n + 1) new ts)
    → (behind : List Listed) → call_with 0 before (all ++ behind) ≡ call_with (length all - length rest) new (rest ++ behind)
list_on all list rest t before old new is short read fed behind =
    read behind
    ∙ ap (λ (ts : List Listed). call_with (length all - length ts) old (ts ++ behind)) is
    ∙ fed (length all - suc (length rest)) (rest ++ behind)
    ∙ ap (λ n. call_with n new (rest ++ behind)) (one_less (length all) (length rest) (omega (arith, short, ap length is)))

-- it ends with a token of the list
pub list_ends : (all list rest : List Listed) (t : Listed) (before old new : Gathering) → list ≡ t ∷ rest → length list ≤ length all
    → ((behind : List Listed) → call_with 0 before (all ++ behind) ≡ call_with (length all - length list) old (list ++ behind))
    → ((n : ℕ) (ts : List Listed) → call_with n old (t ∷ ts) ≡ Some (record { arguments = all_of new; hidden = t.hidden; size = n + 1 }))
    → (behind : List Listed) → call_with 0 before (all ++ behind) ≡ Some (record { arguments = all_of new; hidden = t.hidden; size = length all - length rest })
list_ends all list rest t before old new is short read fed behind =
    read behind
    ∙ ap (λ (ts : List Listed). call_with (length all - length ts) old (ts ++ behind)) is
    ∙ fed (length all - suc (length rest)) (rest ++ behind)
    ∙ ap (λ (n : ℕ). Some (record { arguments = all_of new; hidden = t.hidden; size = n })) (one_less (length all) (length rest) (omega (arith, short, ap length is)))

drop_next : (n : ℕ) (all rest : List Listed) (t : Listed) → t ∷ rest ≡ drop n all → rest ≡ drop (suc n) all
drop_next zero all rest t is = ap (drop 1) is
drop_next (suc n) [] rest t is = absurd (cc is)
drop_next (suc n) (a ∷ all) rest t is = drop_next n all rest t is

-- what is left of the list
pub list_left : (all list rest : List Listed) (t : Listed) → list ≡ t ∷ rest → length list ≤ length all → list ≡ drop (length all - length list) all → rest ≡ drop (length all - length rest) all
list_left all list rest t is short left =
    let one_more : suc (length all - length list) ≡ length all - length rest = omega (arith, short, ap length is) in
    drop_next (length all - length list) all rest t (sym is ∙ left) ∙ ap (λ (n : ℕ). drop n all) one_more

-- ---- the source, token by token

one_less_behind : (n a r : ℕ) → suc r ≤ a → n + (a - suc r) + 1 ≡ n + (a - r)
one_less_behind n a r le = omega (arith, le)

-- the call goes on behind a token of the source
pub source_on : (all rest more : List Spelled) (t : Spelled) (before old new : Gathering) → rest ≡ t ∷ more → length rest ≤ length all
    → ((n : ℕ) → call_with n before (map unhidden all) ≡ call_with (n + (length all - length rest)) old (map unhidden rest))
    → ((n : ℕ) (ts : List Listed) → call_with n old (unhidden t ∷ ts) ≡ call_with (n + 1) new ts)
    → (n : ℕ) → call_with n before (map unhidden all) ≡ call_with (n + (length all - length more)) new (map unhidden more)
source_on all rest more t before old new is short read fed n =
    read n
    ∙ ap (λ (ts : List Spelled). call_with (n + (length all - length ts)) old (map unhidden ts)) is
    ∙ fed (n + (length all - suc (length more))) (map unhidden more)
    ∙ ap (λ k. call_with k new (map unhidden more)) (one_less_behind n (length all) (length more) (omega (arith, short, ap length is)))

-- it ends with a token of the source
pub source_ends : (all rest more : List Spelled) (t : Spelled) (before old new : Gathering) → rest ≡ t ∷ more → length rest ≤ length all
    → ((n : ℕ) → call_with n before (map unhidden all) ≡ call_with (n + (length all - length rest)) old (map unhidden rest))
    → ((n : ℕ) (ts : List Listed) → call_with n old (unhidden t ∷ ts) ≡ Some (record { arguments = all_of new; hidden = []; size = n + 1 }))
    → (n : ℕ) → call_with n before (map unhidden all) ≡ Some (record { arguments = all_of new; hidden = []; size = n + (length all - length more) })
source_ends all rest more t before old new is short read fed n =
    read n
    ∙ ap (λ (ts : List Spelled). call_with (n + (length all - length ts)) old (map unhidden ts)) is
    ∙ fed (n + (length all - suc (length more))) (map unhidden more)
    ∙ ap (λ (k : ℕ). Some (record { arguments = all_of new; hidden = []; size = k })) (one_less_behind n (length all) (length more) (omega (arith, short, ap length is)))
