-- Values of JSON that are written and read without loss: they do not nest too deep, each number is one, and each text is UTF-8.
use Rattle.std.proofs.Common.{ℕ, ◌-◌, ◌<◌, ◌≤◌, true, false, List, [], ◌∷◌, All, refl, ap, subst, arith, IsUtf8}
use Rattle.std.proofs.lemmas.List.Elements.{All-head, All-tail}
use Rattle.std.proofs.lemmas.Str.{IsUtf8-append}
use Rattle.json.specs.Json.{Json, Items, Members, null, boolean, number, string, array, object, no_items, item, no_members, member}
use Rattle.json.specs.Print.{IsNumber, quoted}
use Rattle.json.specs.Tree.{HasNumbers, ItemsHaveNumbers, MembersHaveNumbers, depth, items_depth, members_depth}
use Rattle.json.proofs.Printed.Utf8.{IsUtf8-are_ascii, IsUtf8-quoted}
use Rattle.k_data_laws.specs.Values.{items_of}
use Rattle.k_data_laws.proofs.Texts.{string_onto, onto, first_item, more_items, first_member, more_members, quoted_onto}

-- such a value, which nests at most so deep; such items, and such members
abbrev mutual
  pub IsSimple : Json → ℕ → Type 0
  IsSimple null d = Unit {0}
  IsSimple (boolean b) d = Unit {0}
  IsSimple (number s) d = IsNumber s × IsUtf8 s
  IsSimple (string s) d = IsUtf8 s
  IsSimple (array js) d = (0 < d) × AreSimple js (d - 1)
  IsSimple (object ms) d = (0 < d) × HaveSimple ms (d - 1)

  pub AreSimple : Items → ℕ → Type 0
  AreSimple no_items d = Unit {0}
  AreSimple (item j js) d = IsSimple j d × AreSimple js d

  pub HaveSimple : Members → ℕ → Type 0
  HaveSimple no_members d = Unit {0}
  HaveSimple (member k j ms) d = IsUtf8 k × IsSimple j d × HaveSimple ms d

-- each number is one
mutual
  pub simple_numbers : (j : Json) (d : ℕ) → IsSimple j d → HasNumbers j
  simple_numbers null d h = tt
  simple_numbers (boolean b) d h = tt
  simple_numbers (number s) d h = h.0
  simple_numbers (string s) d h = tt
  simple_numbers (array js) d h = items_numbers js (d - 1) h.1
  simple_numbers (object ms) d h = members_numbers ms (d - 1) h.1

  items_numbers : (js : Items) (d : ℕ) → AreSimple js d → ItemsHaveNumbers js
  items_numbers no_items d h = tt
  items_numbers (item j js) d h = (simple_numbers j d h.0, items_numbers js d h.1)

  members_numbers : (ms : Members) (d : ℕ) → HaveSimple ms d → MembersHaveNumbers ms
  members_numbers no_members d h = tt
  members_numbers (member k j ms) d h = (simple_numbers j d h.1, members_numbers ms d h.2)

-- it does not nest deeper
mutual
  pub simple_depth : (j : Json) (d : ℕ) → IsSimple j d → depth j ≤ d
  simple_depth null d h = omega arith
  simple_depth (boolean b) d h = omega arith
  simple_depth (number s) d h = omega arith
  simple_depth (string s) d h = omega arith
  simple_depth (array js) d h = omega (arith, items_shallow js (d - 1) h.1, h.0)
  simple_depth (object ms) d h = omega (arith, members_shallow ms (d - 1) h.1, h.0)

  items_shallow : (js : Items) (d : ℕ) → AreSimple js d → items_depth js ≤ d
  items_shallow no_items d h = omega arith
  items_shallow (item j js) d h = omega (arith, simple_depth j d h.0, items_shallow js d h.1)

  members_shallow : (ms : Members) (d : ℕ) → HaveSimple ms d → members_depth ms ≤ d
  members_shallow no_members d h = omega arith
  members_shallow (member k j ms) d h = omega (arith, simple_depth j d h.1, members_shallow ms d h.2)

one_more : (b : ℕ) (text : List ℕ) → IsUtf8 (b ∷ []) → IsUtf8 text → IsUtf8 (b ∷ text)
one_more b text h u = IsUtf8-append (b ∷ []) text h u

string_utf8 : (s text : List ℕ) → IsUtf8 s → IsUtf8 text → IsUtf8 (string_onto s text)
string_utf8 s text h u = subst IsUtf8 (ap (λ l. 34 ∷ l) (quoted_onto s text)) (IsUtf8-append (quoted s) text (IsUtf8-quoted s h) u)

-- its text in front of a text of UTF-8 is UTF-8
mutual
  pub simple_utf8 : (j : Json) (d : ℕ) (text : List ℕ) → IsSimple j d → IsUtf8 text → IsUtf8 (onto j text)
  simple_utf8 null d text h u = IsUtf8-append (110 ∷ 117 ∷ 108 ∷ 108 ∷ []) text (IsUtf8-are_ascii _ refl) u
  simple_utf8 (boolean true) d text h u = IsUtf8-append (116 ∷ 114 ∷ 117 ∷ 101 ∷ []) text (IsUtf8-are_ascii _ refl) u
  simple_utf8 (boolean false) d text h u = IsUtf8-append (102 ∷ 97 ∷ 108 ∷ 115 ∷ 101 ∷ []) text (IsUtf8-are_ascii _ refl) u
  simple_utf8 (number s) d text h u = IsUtf8-append s text h.1 u
  simple_utf8 (string s) d text h u = string_utf8 s text h u
  simple_utf8 (array js) d text h u = one_more 91 (first_item js text) (IsUtf8-are_ascii _ refl) (first_utf8 js (d - 1) text h.1 u)
  simple_utf8 (object ms) d text h u = one_more 123 (first_member ms text) (IsUtf8-are_ascii _ refl) (member_utf8 ms (d - 1) text h.1 u)

  first_utf8 : (js : Items) (d : ℕ) (text : List ℕ) → AreSimple js d → IsUtf8 text → IsUtf8 (first_item js text)
  first_utf8 no_items d text h u = one_more 93 text (IsUtf8-are_ascii _ refl) u
  first_utf8 (item j js) d text h u = simple_utf8 j d (more_items js text) h.0 (more_utf8 js d text h.1 u)

  more_utf8 : (js : Items) (d : ℕ) (text : List ℕ) → AreSimple js d → IsUtf8 text → IsUtf8 (more_items js text)
  more_utf8 no_items d text h u = one_more 93 text (IsUtf8-are_ascii _ refl) u
  more_utf8 (item j js) d text h u =
      one_more 44 (onto j (more_items js text)) (IsUtf8-are_ascii _ refl) (simple_utf8 j d (more_items js text) h.0 (more_utf8 js d text h.1 u))

  member_utf8 : (ms : Members) (d : ℕ) (text : List ℕ) → HaveSimple ms d → IsUtf8 text → IsUtf8 (first_member ms text)
  member_utf8 no_members d text h u = one_more 125 text (IsUtf8-are_ascii _ refl) u
  member_utf8 (member k j ms) d text h u =
      string_utf8 k (58 ∷ onto j (more_members ms text)) h.0 (one_more 58 (onto j (more_members ms text)) (IsUtf8-are_ascii _ refl)
      (simple_utf8 j d (more_members ms text) h.1 (members_utf8 ms d text h.2 u)))

  members_utf8 : (ms : Members) (d : ℕ) (text : List ℕ) → HaveSimple ms d → IsUtf8 text → IsUtf8 (more_members ms text)
  members_utf8 no_members d text h u = one_more 125 text (IsUtf8-are_ascii _ refl) u
  members_utf8 (member k j ms) d text h u =
      one_more 44 (string_onto k (58 ∷ onto j (more_members ms text))) (IsUtf8-are_ascii _ refl)
      (string_utf8 k (58 ∷ onto j (more_members ms text)) h.0 (one_more 58 (onto j (more_members ms text)) (IsUtf8-are_ascii _ refl)
      (simple_utf8 j d (more_members ms text) h.1 (members_utf8 ms d text h.2 u))))

-- an array of simple values is simple
pub items_simple : {X : Type 0} (value : X → Json) (P : X → Type 0) (d : ℕ) → ((x : X) → P x → IsSimple (value x) d) → (list : List X) → All P list
    → AreSimple (items_of value list) d
items_simple value P d each [] h = tt
items_simple value P d each (x ∷ list) h =
    (each x (All-head P x list h), items_simple value P d each list (All-tail P x list h))
