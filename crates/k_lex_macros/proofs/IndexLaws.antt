-- The map and the set by which macros are found.
use Rattle.std.proofs.Common.{◌≡◌, ℕ, ◌+◌, ◌<◌, Bool, true, false, ◌||◌, cond, if◌then◌else◌, List, [], ◌∷◌, ◌++◌, Option, Some, None, length, map, refl, sym, ap, subst, ◌∙◌, inl, inr, arith, nat_eq}
use Rattle.std.specs.Prelude.{is_some, IsSome, IfSome}
use Rattle.std.specs.Option.{option_or}
use Rattle.std.specs.Cmp.Lexicographic.{pointwise, nat_list_eq_equiv}
use Rattle.std.specs.List.{list_any}
use Rattle.std.specs.Map.{lookup, IsKeyTest, AreApart, KeepsOthers}
use Rattle.std.specs.Set.{KeepsOthers as KeepsOtherKeys}
use Rattle.std.specs.Global.{Vec}
use Rattle.std.specs.HashMap as table
use Rattle.std.specs.HashSet as bag
use Rattle.std.specs.declared.hash.FoldHasher.{FoldHasher}
use Rattle.std.specs.declared.hash.BuildHasherDefault.{BuildHasherDefault}
use Rattle.std.proofs.Math.Bool.{or_assoc, or-false}
use Rattle.std.proofs.lemmas.Bool.{cases_Bool, cond-true, cond-false, false≢true}
use Rattle.std.proofs.lemmas.List.{length-map, map-append}
use Rattle.k_lex_macros.specs.declared.macros.Lexeme.{Lexeme}
use Rattle.k_lex_macros.specs.declared.macros.Definition.{Definition}
use Rattle.k_lex_macros.specs.declared.macros.Macros.{Macros}
use Rattle.k_lex_pieces.specs.Bytes.{same}
use Rattle.k_lex_macros.specs.Macros.{Macro, find, find_from, mentions, stands_in}
use Rattle.k_lex_macros.specs.Table.{macro, listed, number_in, is_in, IsIndexed}
use Rattle.k_lex_pieces.proofs.Tables.{same_true, same_pointwise}

abbrev pub equal : Vec ℕ → Vec ℕ → Bool
equal x y = pointwise nat_eq x.items y.items

-- ---- the map

unless : (o : Option ℕ) (b : Bool) (v : ℕ) → (b ≡ true → IsSome o) → o ≡ option_or o (if b then Some v else None)
unless (Some k) b v h = refl
unless None true v h = absurd (false≢true (h refl))
unless None false v h = refl

-- a name that the map has keeps its number
pub number_kept : (m : table.HashMap (Vec ℕ) ℕ (BuildHasherDefault FoldHasher)) (name : List ℕ) (v : ℕ) → IsSome (number_in m name) → (q : List ℕ) → number_in m q ≡ option_or (number_in m q) (if same name q then Some v else None)
number_kept m name v h q = unless (number_in m q) (same name q) v (λ e. subst (λ w. IsSome (number_in m w)) (same_true name q e) h)

none_from : (o : Option ℕ) → is_some o ≡ false → o ≡ None
none_from (Some k) h = absurd (false≢true (sym h))
none_from None h = refl

chosen : (o : Option ℕ) (b : Bool) (v : ℕ) → (b ≡ true → o ≡ None) → cond b (Some v) o ≡ option_or o (if b then Some v else None)
chosen (Some k) true v h = let e : ◌≡◌ {A = Option ℕ} (Some k) None = h refl in cc
chosen (Some k) false v h = refl
chosen None true v h = refl
chosen None false v h = refl

apart : (bs cs ks : List ℕ) → pointwise nat_eq bs cs ≡ false → pointwise nat_eq bs ks ≡ true → pointwise nat_eq cs ks ≡ false
apart bs cs ks n y = nat_list_eq_equiv.symm cs ks ∙ sym (nat_list_eq_equiv.congr bs ks cs y) ∙ n

other_entries : (eq : Vec ℕ → Vec ℕ → Bool) (test : Vec ℕ → Bool) (old new : List (Vec ℕ × ℕ)) → KeepsOthers eq test old new → (other : Vec ℕ → Bool) → IsKeyTest eq other → AreApart test other → lookup other new ≡ lookup other old
unfolding KeepsOthers
other_entries eq test old new h = h

other_keys : (eq : Vec ℕ → Vec ℕ → Bool) (test : Vec ℕ → Bool) (old new : List (Vec ℕ)) → KeepsOtherKeys eq test old new → (other : Vec ℕ → Bool) → IsKeyTest eq other → AreApart test other → list_any other new ≡ list_any other old
unfolding KeepsOtherKeys
other_keys eq test old new h = h

-- g is w at bs, and f elsewhere
by_bytes : {W : Type 0} (f g : List ℕ → W) (bs : List ℕ) (w : W) → g bs ≡ w → ((cs : List ℕ) → pointwise nat_eq bs cs ≡ false → g cs ≡ f cs) → (cs : List ℕ) → g cs ≡ cond (same bs cs) w (f cs)
by_bytes f g bs w here other cs = elim (cases_Bool (same bs cs)) [
  | inl y ↦ subst (λ l. g l ≡ w) (same_true bs cs y) here ∙ sym (cond-true (same bs cs) w (f cs) y)
  | inr n ↦ other cs (same_pointwise bs cs ∙ n) ∙ sym (cond-false (same bs cs) w (f cs) n)
]

-- a name that is new gets its number
pub number_added : (m n : table.HashMap (Vec ℕ) ℕ (BuildHasherDefault FoldHasher)) (k : Vec ℕ) (name : List ℕ) (v : ℕ) → k.items ≡ name → is_some (number_in m name) ≡ false → table.Updates equal m n k (Some v) → (q : List ℕ) → number_in n q ≡ option_or (number_in m q) (if same name q then Some v else None)
number_added m n k name v key new h =
    let here : (q : List ℕ) → number_in n q ≡ cond (same k.items q) (Some v) (number_in m q) =
    by_bytes (number_in m) (number_in n) k.items (Some v) h.1 (λ cs e. other_entries equal (equal k) m.entries n.entries h.3 (λ y. pointwise nat_eq cs y.items) (λ x y. nat_list_eq_equiv.congr cs x.items y.items) (λ y. apart k.items cs y.items e)) in
    λ q. here q ∙ ap (λ w. cond (same w q) (Some v) (number_in m q)) key
    ∙ chosen (number_in m q) (same name q) v (λ e. none_from (number_in m q) (subst (λ w. is_some (number_in m w) ≡ false) (same_true name q e) new))

-- ---- the set

with_more : (a b : Bool) → (b ≡ true → a ≡ true) → a ≡ (a || b)
with_more true b h = refl
with_more false true h = h refl
with_more false false h = refl

-- a name that the set has changes nothing
pub name_kept : (s : bag.HashSet (Vec ℕ) (BuildHasherDefault FoldHasher)) (name : List ℕ) → is_in s name ≡ true → (q : List ℕ) → is_in s q ≡ (is_in s q || same name q)
name_kept s name h q = with_more (is_in s q) (same name q) (λ e. subst (λ w. is_in s w ≡ true) (same_true name q e) h)

either : (a b : Bool) → cond b true a ≡ (a || b)
either true true = refl
either true false = refl
either false true = refl
either false false = refl

-- a name that is added
pub name_added : (s n : bag.HashSet (Vec ℕ) (BuildHasherDefault FoldHasher)) (k : Vec ℕ) (name : List ℕ) → k.items ≡ name → bag.Updates equal s n k true → (q : List ℕ) → is_in n q ≡ (is_in s q || same name q)
name_added s n k name key h =
    let here : (q : List ℕ) → is_in n q ≡ cond (same k.items q) true (is_in s q) =
    by_bytes (is_in s) (is_in n) k.items true h.1 (λ cs e. other_keys equal (equal k) s.keys n.keys h.3 (λ y. pointwise nat_eq cs y.items) (λ x y. nat_list_eq_equiv.congr cs x.items y.items) (λ y. apart k.items cs y.items e)) in
    λ q. here q ∙ ap (λ w. cond (same w q) true (is_in s q)) key ∙ either (is_in s q) (same name q)

-- ---- the list of macros with one more

find_within : (count : ℕ) (ms : List Macro) (q : List ℕ) (k : ℕ) → find_from count ms q ≡ Some k → k < count + length ms
find_within count [] q k e = absurd cc
find_within count (m ∷ ms) q k e = elim (cases_Bool (same m.0 q)) [
  | inl yes_it ↦ (let first : ◌≡◌ {A = Option ℕ} (Some count) (Some k) = sym (ap (λ b. if b then Some count else find_from (count + 1) ms q) yes_it) ∙ e in omega (arith, some_is count k first))
  | inr no_it ↦ omega (arith, find_within (count + 1) ms q k (sym (ap (λ b. if b then Some count else find_from (count + 1) ms q) no_it) ∙ e))
]
  where
    some_is : (a b : ℕ) → ◌≡◌ {A = Option ℕ} (Some a) (Some b) → a ≡ b
    some_is a b h = cc

pub find-within : (ms : List Macro) (q : List ℕ) → IfSome (find ms q) (λ k. k < length ms)
find-within ms q = if_some (find ms q) (λ k e. let e : k < 0 + length ms = find_within 0 ms q k e in omega arith)
  where
    if_some : (o : Option ℕ) → ((k : ℕ) → o ≡ Some k → k < length ms) → IfSome o (λ k. k < length ms)
    if_some None h = tt
    if_some (Some k) h = h k refl

pub within : (m : Macros) (q : List ℕ) (r : Option ℕ) → r ≡ find (listed m) q → IfSome r (λ k. k < length m.list.items)
within m q r e = subst (λ o. IfSome o (λ k. k < length m.list.items)) (sym e) (subst (λ n. IfSome (find (listed m) q) (λ k. k < n)) (length-map m.list.items macro) (find-within (listed m) q))

find_more : (count : ℕ) (ms : List Macro) (m : Macro) (q : List ℕ) → find_from count (ms ++ m ∷ []) q ≡ option_or (find_from count ms q) (if same m.0 q then Some (count + length ms) else None)
find_more count [] m q = ap (λ v. if same m.0 q then Some v else None) (omega arith)
find_more count (n ∷ ms) m q =
    let behind = if same m.0 q then Some (count + length (n ∷ ms)) else None in
    elim (cases_Bool (same n.0 q)) [
      | inl e ↦ ap (λ b. if b then Some count else find_from (count + 1) (ms ++ m ∷ []) q) e
          ∙ sym (ap (λ b. option_or (if b then Some count else find_from (count + 1) ms q) behind) e)
      | inr e ↦ ap (λ b. if b then Some count else find_from (count + 1) (ms ++ m ∷ []) q) e
          ∙ find_more (count + 1) ms m q
          ∙ ap (λ v. option_or (find_from (count + 1) ms q) (if same m.0 q then Some v else None)) (omega arith)
          ∙ sym (ap (λ b. option_or (if b then Some count else find_from (count + 1) ms q) behind) e)
    ]

pub find-push : (ms : List Macro) (m : Macro) (q : List ℕ) → find (ms ++ m ∷ []) q ≡ option_or (find ms q) (if same m.0 q then Some (length ms) else None)
find-push ms m q =
    let e : 0 + length ms ≡ length ms = omega arith in
    find_more 0 ms m q ∙ ap (λ v. option_or (find ms q) (if same m.0 q then Some v else None)) e

pub mentions-push : (ms : List Macro) (m : Macro) (q : List ℕ) → mentions (ms ++ m ∷ []) q ≡ (mentions ms q || stands_in q m.1)
mentions-push [] m q = or-false (stands_in q m.1)
mentions-push (n ∷ ms) m q = ap (λ b. stands_in q n.1 || b) (mentions-push ms m q) ∙ sym (or_assoc (stands_in q n.1) (mentions ms q) (stands_in q m.1))

-- a table with a macro more
pub indexed_push : (old new : Macros) (d : Definition) (name : List ℕ) (body : List Lexeme) (n : ℕ) → IsIndexed old → new.list.items ≡ old.list.items ++ d ∷ [] → name ≡ d.name → body ≡ d.body → n ≡ length old.list.items
    → ((q : List ℕ) → number_in new.numbers q ≡ option_or (number_in old.numbers q) (if same name q then Some n else None))
    → ((q : List ℕ) → is_in new.mentioned q ≡ (is_in old.mentioned q || stands_in q body)) → IsIndexed new
indexed_push old new d name body n h e en eb el numbers mentioned =
    let whole : listed new ≡ listed old ++ macro d ∷ [] = ap (map macro) e ∙ map-append macro old.list.items (d ∷ []) in
    record {
      numbers = λ q. numbers q
          ∙ ap (λ o. option_or o (if same name q then Some n else None)) (h.numbers q)
          ∙ ap (λ w. option_or (find (listed old) q) (if same w q then Some n else None)) en
          ∙ ap (λ k. option_or (find (listed old) q) (if same d.name q then Some k else None)) (el ∙ sym (length-map old.list.items macro))
          ∙ sym (ap (λ t. find t q) whole ∙ find-push (listed old) (macro d) q);
      mentioned = λ q. mentioned q
          ∙ ap (λ b. b || stands_in q body) (h.mentioned q)
          ∙ ap (λ t. mentions (listed old) q || stands_in q t) eb
          ∙ sym (ap (λ t. mentions t q) whole ∙ mentions-push (listed old) (macro d) q);
    }
