-- The compact text of a value of JSON, in front of another text.
use Rattle.std.proofs.Common.{◌≡◌, ℕ, Bool, true, false, cond, List, [], ◌∷◌, ◌++◌, refl, sym, ap, ◌∙◌, append_assoc, append-nil}
use Rattle.json.specs.Json.{Json, Items, Members, null, boolean, number, string, array, object, no_items, item, no_members, member}
use Rattle.json.specs.Token.{Token}
use Rattle.json.specs.Print.{escape, print, print_from, separator, token_text}
use Rattle.json.specs.Tree.{json_tokens, items_tokens, members_tokens}

-- a truth value in front of a text
abbrev pub truth_onto : Bool → List ℕ → List ℕ
truth_onto true rest = 116 ∷ 114 ∷ 117 ∷ 101 ∷ rest
truth_onto false rest = 102 ∷ 97 ∷ 108 ∷ 115 ∷ 101 ∷ rest

-- a string
abbrev pub string_onto : List ℕ → List ℕ → List ℕ
string_onto s rest = 34 ∷ (escape s ++ (34 ∷ rest))

-- a value; the items of an array and the members of an object, the first and the others
abbrev mutual
  pub onto : Json → List ℕ → List ℕ
  onto null rest = 110 ∷ 117 ∷ 108 ∷ 108 ∷ rest
  onto (boolean b) rest = truth_onto b rest
  onto (number s) rest = s ++ rest
  onto (string s) rest = string_onto s rest
  onto (array js) rest = 91 ∷ first_item js rest
  onto (object ms) rest = 123 ∷ first_member ms rest

  pub first_item : Items → List ℕ → List ℕ
  first_item no_items rest = 93 ∷ rest
  first_item (item j js) rest = onto j (more_items js rest)

  pub more_items : Items → List ℕ → List ℕ
  more_items no_items rest = 93 ∷ rest
  more_items (item j js) rest = 44 ∷ onto j (more_items js rest)

  pub first_member : Members → List ℕ → List ℕ
  first_member no_members rest = 125 ∷ rest
  first_member (member k j ms) rest = string_onto k (58 ∷ onto j (more_members ms rest))

  pub more_members : Members → List ℕ → List ℕ
  more_members no_members rest = 125 ∷ rest
  more_members (member k j ms) rest = 44 ∷ string_onto k (58 ∷ onto j (more_members ms rest))

-- a comma, where a value stands before
abbrev pub comma_if : Bool → List ℕ
comma_if b = cond b (44 ∷ []) []

pub quoted_onto : (s more : List ℕ) → (escape s ++ (34 ∷ [])) ++ more ≡ escape s ++ (34 ∷ more)
quoted_onto s more = append_assoc (escape s) (34 ∷ []) more

key_onto : (s more : List ℕ) → ((34 ∷ (escape s ++ (34 ∷ []))) ++ (58 ∷ [])) ++ more ≡ string_onto s (58 ∷ more)
key_onto s more = append_assoc (34 ∷ (escape s ++ (34 ∷ []))) (58 ∷ []) more ∙ ap (λ l. 34 ∷ l) (quoted_onto s (58 ∷ more))

key_after : (b : Bool) (s : List ℕ) (more : List ℕ) → separator b (Token.key s) ++ (token_text (Token.key s) ++ more) ≡ comma_if b ++ string_onto s (58 ∷ more)
key_after true s more = ap (λ l. 44 ∷ l) (key_onto s more)
key_after false s more = key_onto s more

mutual
  unfolding print_from

  pub printed : (b : Bool) (j : Json) (ts : List Token) → print_from b (json_tokens j ++ ts) ≡ comma_if b ++ onto j (print_from true ts)
  printed true null ts = refl
  printed false null ts = refl
  printed true (boolean true) ts = refl
  printed true (boolean false) ts = refl
  printed false (boolean true) ts = refl
  printed false (boolean false) ts = refl
  printed true (number s) ts = refl
  printed false (number s) ts = refl
  printed true (string s) ts = ap (λ l. 44 ∷ 34 ∷ l) (quoted_onto s (print_from true ts))
  printed false (string s) ts = ap (λ l. 34 ∷ l) (quoted_onto s (print_from true ts))
  printed true (array js) ts = ap (λ l. 44 ∷ 91 ∷ l) (printed_first js ts)
  printed false (array js) ts = ap (λ l. 91 ∷ l) (printed_first js ts)
  printed true (object ms) ts = ap (λ l. 44 ∷ 123 ∷ l) (printed_member ms ts)
  printed false (object ms) ts = ap (λ l. 123 ∷ l) (printed_member ms ts)

  printed_first : (js : Items) (ts : List Token) → print_from false (items_tokens js ++ ts) ≡ first_item js (print_from true ts)
  printed_first no_items ts = refl
  printed_first (item j js) ts =
      ap (print_from false) (append_assoc (json_tokens j) (items_tokens js) ts) ∙ printed false j (items_tokens js ++ ts) ∙ ap (onto j) (printed_more js ts)

  printed_more : (js : Items) (ts : List Token) → print_from true (items_tokens js ++ ts) ≡ more_items js (print_from true ts)
  printed_more no_items ts = refl
  printed_more (item j js) ts =
      ap (print_from true) (append_assoc (json_tokens j) (items_tokens js) ts) ∙ printed true j (items_tokens js ++ ts)
      ∙ ap (λ l. 44 ∷ onto j l) (printed_more js ts)

  printed_member : (ms : Members) (ts : List Token) → print_from false (members_tokens ms ++ ts) ≡ first_member ms (print_from true ts)
  printed_member no_members ts = refl
  printed_member (member k j ms) ts =
      key_after false k (print_from false ((json_tokens j ++ members_tokens ms) ++ ts)) ∙ ap (λ l. string_onto k (58 ∷ l))
      (ap (print_from false) (append_assoc (json_tokens j) (members_tokens ms) ts) ∙ printed false j (members_tokens ms ++ ts) ∙ ap (onto j) (printed_members ms ts))

  printed_members : (ms : Members) (ts : List Token) → print_from true (members_tokens ms ++ ts) ≡ more_members ms (print_from true ts)
  printed_members no_members ts = refl
  printed_members (member k j ms) ts =
      key_after true k (print_from false ((json_tokens j ++ members_tokens ms) ++ ts)) ∙ ap (λ l. 44 ∷ string_onto k (58 ∷ l))
      (ap (print_from false) (append_assoc (json_tokens j) (members_tokens ms) ts) ∙ printed false j (members_tokens ms ++ ts) ∙ ap (onto j) (printed_members ms ts))

-- what the kit writes of a value is its compact text
pub printed_alone : (j : Json) → print (json_tokens j) ≡ onto j []
unfolding print_from
printed_alone j = ap (print_from false) (sym (append-nil (json_tokens j))) ∙ printed false j []

string_append : (s one other : List ℕ) → string_onto s (one ++ other) ≡ string_onto s one ++ other
string_append s one other = ap (λ l. 34 ∷ l) (sym (append_assoc (escape s) (34 ∷ one) other))

-- in front of two texts
mutual
  pub onto_append : (j : Json) (one other : List ℕ) → onto j (one ++ other) ≡ onto j one ++ other
  onto_append null one other = refl
  onto_append (boolean true) one other = refl
  onto_append (boolean false) one other = refl
  onto_append (number s) one other = sym (append_assoc s one other)
  onto_append (string s) one other = string_append s one other
  onto_append (array js) one other = ap (λ l. 91 ∷ l) (first_append js one other)
  onto_append (object ms) one other = ap (λ l. 123 ∷ l) (member_append ms one other)

  first_append : (js : Items) (one other : List ℕ) → first_item js (one ++ other) ≡ first_item js one ++ other
  first_append no_items one other = refl
  first_append (item j js) one other = ap (onto j) (more_append js one other) ∙ onto_append j (more_items js one) other

  more_append : (js : Items) (one other : List ℕ) → more_items js (one ++ other) ≡ more_items js one ++ other
  more_append no_items one other = refl
  more_append (item j js) one other = ap (λ l. 44 ∷ l) (ap (onto j) (more_append js one other) ∙ onto_append j (more_items js one) other)

  member_append : (ms : Members) (one other : List ℕ) → first_member ms (one ++ other) ≡ first_member ms one ++ other
  member_append no_members one other = refl
  member_append (member k j ms) one other =
      ap (λ l. string_onto k (58 ∷ l)) (ap (onto j) (members_append ms one other) ∙ onto_append j (more_members ms one) other)
      ∙ string_append k (58 ∷ onto j (more_members ms one)) other

  members_append : (ms : Members) (one other : List ℕ) → more_members ms (one ++ other) ≡ more_members ms one ++ other
  members_append no_members one other = refl
  members_append (member k j ms) one other =
      ap (λ l. 44 ∷ l) (ap (λ l. string_onto k (58 ∷ l)) (ap (onto j) (members_append ms one other) ∙ onto_append j (more_members ms one) other)
      ∙ string_append k (58 ∷ onto j (more_members ms one)) other)
