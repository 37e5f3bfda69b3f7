-- White space behind the compact text of a value changes nothing.
use Rattle.std.proofs.Common.{◌≡◌, ◌≤◌, ℕ, true, false, cond, List, [], ◌∷◌, ◌++◌, Some, option_and_then, refl, sym, ap, ap₂, ◌∙◌}
use Rattle.json.specs.Json.{Json, Items, Members, null, boolean, number, string, array, object, no_items, item, no_members, member, value, if_last, max_depth, document}
use Rattle.json.specs.Token as tok
use Rattle.json.specs.Word.{ends_word, word}
use Rattle.json.specs.Lex.{token, string_token, lex, between, fresh, punctuate}
use Rattle.json.specs.Tree.{HasNumbers, ItemsHaveNumbers, MembersHaveNumbers, depth}
use Rattle.json.proofs.Printed.Strings.{content-escape, lex-escape}
use Rattle.json.proofs.Printed.Numbers.{lex-number, in_word-ended}
use Rattle.json.proofs.Printed.Trees.{document-print}
use Rattle.k_data_laws.proofs.Texts.{string_onto, onto, first_item, more_items, first_member, more_members, printed_alone}

lexed_string : (s rest : List ℕ) → lex between (string_onto s rest) ≡ token (tok.string s) ∷ lex between rest
unfolding lex
lexed_string s rest = ap₂ (λ o l. token (string_token o) ∷ l) (content-escape s rest) (lex-escape s rest)

-- two texts that are lexed alike, at both of which a word ends
pub record Alike (one other : List ℕ) : Type 0 where
  pub lexed : lex between one ≡ lex between other
  pub ends : ends_word one ≡ true
  pub other_ends : ends_word other ≡ true

string_alike : (s one other : List ℕ) → lex between one ≡ lex between other → lex between (string_onto s one) ≡ lex between (string_onto s other)
string_alike s one other h = lexed_string s one ∙ ap (λ l. token (tok.string s) ∷ l) h ∙ sym (lexed_string s other)

key_alike : (s one other : List ℕ) → lex between one ≡ lex between other → lex between (string_onto s (58 ∷ one)) ≡ lex between (string_onto s (58 ∷ other))
unfolding lex
key_alike s one other h = string_alike s (58 ∷ one) (58 ∷ other) (ap (λ l. lex between (58 ∷ []) ++ l) h)

mutual
  unfolding lex word

  pub onto_alike : (j : Json) (one other : List ℕ) → HasNumbers j → Alike one other → lex between (onto j one) ≡ lex between (onto j other)
  onto_alike null one other n h =
      ap₂ (λ b l. token (cond b tok.null tok.bad) ∷ l) (h.ends ∙ sym h.other_ends) (in_word-ended one h.ends ∙ h.lexed ∙ sym (in_word-ended other h.other_ends))
  onto_alike (boolean true) one other n h =
      ap₂ (λ b l. token (cond b (tok.boolean true) tok.bad) ∷ l) (h.ends ∙ sym h.other_ends) (in_word-ended one h.ends ∙ h.lexed ∙ sym (in_word-ended other h.other_ends))
  onto_alike (boolean false) one other n h =
      ap₂ (λ b l. token (cond b (tok.boolean false) tok.bad) ∷ l) (h.ends ∙ sym h.other_ends) (in_word-ended one h.ends ∙ h.lexed ∙ sym (in_word-ended other h.other_ends))
  onto_alike (number s) one other n h =
      lex-number s one n h.ends ∙ ap (λ l. token (tok.number s) ∷ l) h.lexed ∙ sym (lex-number s other n h.other_ends)
  onto_alike (string s) one other n h = string_alike s one other h.lexed
  onto_alike (array js) one other n h = ap (λ l. token tok.begin_array ∷ l) (first_alike js one other n h)
  onto_alike (object ms) one other n h = ap (λ l. token tok.begin_object ∷ l) (member_alike ms one other n h)

  first_alike : (js : Items) (one other : List ℕ) → ItemsHaveNumbers js → Alike one other → lex between (first_item js one) ≡ lex between (first_item js other)
  first_alike no_items one other n h = ap (λ l. token tok.end_array ∷ l) h.lexed
  first_alike (item j js) one other n h = onto_alike j _ _ n.0 (more_alike js one other n.1 h)

  more_alike : (js : Items) (one other : List ℕ) → ItemsHaveNumbers js → Alike one other → Alike (more_items js one) (more_items js other)
  more_alike no_items one other n h = record { lexed = ap (λ l. token tok.end_array ∷ l) h.lexed; ends = refl; other_ends = refl }
  more_alike (item j js) one other n h =
      record { lexed = ap (λ l. lex between (44 ∷ []) ++ l) (onto_alike j _ _ n.0 (more_alike js one other n.1 h)); ends = refl; other_ends = refl }

  member_alike : (ms : Members) (one other : List ℕ) → MembersHaveNumbers ms → Alike one other → lex between (first_member ms one) ≡ lex between (first_member ms other)
  member_alike no_members one other n h = ap (λ l. token tok.end_object ∷ l) h.lexed
  member_alike (member k j ms) one other n h = key_alike k _ _ (onto_alike j _ _ n.0 (members_alike ms one other n.1 h))

  members_alike : (ms : Members) (one other : List ℕ) → MembersHaveNumbers ms → Alike one other → Alike (more_members ms one) (more_members ms other)
  members_alike no_members one other n h = record { lexed = ap (λ l. token tok.end_object ∷ l) h.lexed; ends = refl; other_ends = refl }
  members_alike (member k j ms) one other n h =
      record { lexed = ap (λ l. lex between (44 ∷ []) ++ l) (key_alike k _ _ (onto_alike j _ _ n.0 (members_alike ms one other n.1 h))); ends = refl; other_ends = refl }

-- a newline alone is white space
newline_alike : Alike (10 ∷ []) []
unfolding lex
newline_alike = record { lexed = refl; ends = refl; other_ends = refl }

-- the compact text of a value, with a newline behind it, reads as the value
pub document_onto : (j : Json) → HasNumbers j → depth j ≤ max_depth → document (onto j (10 ∷ [])) ≡ Some j
document_onto j numbers shallow =
    ap (λ ls. option_and_then (λ p. if_last p.0 p.1) (value max_depth (punctuate fresh ls))) (onto_alike j (10 ∷ []) [] numbers newline_alike)
    ∙ ap document (sym (printed_alone j)) ∙ document-print j numbers shallow
