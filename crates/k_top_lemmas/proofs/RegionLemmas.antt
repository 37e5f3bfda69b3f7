-- The regions of a source that is accepted can stand in a saved profile.
use Rattle.std.proofs.Common.{ℕ, zero, suc, ◌≡◌, ◌∙◌, ◌||◌, ◌==◌, Bool, true, false, not, if◌then◌else◌, nat_eq, is_some, refl, ap, sym, subst, arith, List, [], ◌∷◌, map, slice_get, Option, Some, None, Ok}
use Rattle.std.proofs.lemmas.Bool.{and_from, and_parts, or_from}
use Rattle.std.proofs.lemmas.Bool.Decides.{nat_tests}
use Rattle.std.proofs.lemmas.Slice.Eq.{slice_eq-Decides}
use Rattle.std.specs.Cmp.{unsigned_Decides}
use Rattle.std.specs.Cmp.Lexicographic.{pointwise}
use Rattle.std.specs.List.{AllByRecursion, list_any}
use Rattle.std.proofs.lemmas.List.Elements.{recursion_from_All}
use Rattle.std.proofs.lemmas.Option.{none-some, same_Some}
use Rattle.k_scan.specs.Names as scanned
use Rattle.k_tree.specs.declared.tokens.Token.{Token}
use Rattle.k_tree.specs.declared.tokens.TokenKind.{TokenKind}
use Rattle.k_tree.specs.declared.tokens.TokenKind.TheVariants as token
use Rattle.k_tree.specs.declared.tokens.word.Word.{Word}
use Rattle.k_tree.specs.declared.tree.unit.Unit as tree
use Rattle.k_lex_pieces.specs.Bytes.{every, in_name, is_digit, is_letter, look_up, same, within}
use Rattle.k_lex.specs.Laws.{IsNamed, IsRightKind, IsRightToken}
use Rattle.k_lex_pieces.specs.Pieces.{is_name}
use Rattle.k_lex.specs.Tokens.{tokens}
use Rattle.k_lex_pieces.specs.Words.{words}
use Rattle.k_lex.proofs.TokenLaws.{strings_fit, tokens_right}
use Rattle.k_dict_saved.specs.Files.{AreRegions}
use Rattle.k_parse.specs.Parse.{IsParse}
use Rattle.k_types_meaning.specs.Bare.{IsTyped}
use Rattle.k_types_meaning.specs.Units.{faults}
use Rattle.k_types_meaning.specs.declared.tree.unit.TUnit.{TUnit}
use Rattle.k_evaluation.specs.Laws.{AreAtMost}
use Rattle.k_evaluation.specs.States.{Program}
use Rattle.k_lower_accepted.specs.Accepted.{IsAccepted}
use Rattle.k_regions.specs.Regions.{regions_of}
use Rattle.k_regions_saved.specs.Saving as saving
use Rattle.k_regions_saved.proofs.Paired.{can_be_saved}

-- the bytes of a name are the same in sources and in saved profiles
or_grouped : (a b c : Bool) → (a || b || c) ≡ (a || (b || c))
or_grouped true b c = refl
or_grouped false b c = refl

letters : (b : ℕ) → is_letter b ≡ scanned.is_letter b
letters b = or_grouped (within 97 122 b) (within 65 90 b) (b == 95)

all_in_name : (text : List ℕ) → every in_name text ≡ true → scanned.are_in_name text ≡ true
all_in_name [] is = refl
all_in_name (b ∷ text) is =
    let parts = and_parts (in_name b) (every in_name text) is in
    let here : scanned.in_name b ≡ true = sym (ap (λ letter. letter || is_digit b) (letters b)) ∙ parts.0 in
    and_from (scanned.in_name b) (scanned.are_in_name text) here (all_in_name text parts.1)

is_word : (text : List ℕ) → is_name text ≡ true → scanned.is_word text ≡ true
is_word [] is = is
is_word (b ∷ text) is =
    let parts = and_parts (is_letter b) (every in_name text) is in
    and_from (scanned.is_letter b) (scanned.are_in_name text) (sym (letters b) ∙ parts.0) (all_in_name text parts.1)

-- a text is the same as itself
same_itself : (text : List ℕ) → same text text ≡ true
same_itself [] = refl
same_itself (b ∷ text) = and_from (same text text) (nat_eq b b) (same_itself text) (itself b)
  where
    itself : (n : ℕ) → nat_eq n n ≡ true
    itself n = grind (arith, nat_tests)

-- a text that no row of a table has is not among its keys
no_key : (b c : Bool) (word : Word) (later : Option Word) → (c ≡ true → b ≡ true) → (if b then Some word else later) ≡ None → (later ≡ None) × (c ≡ false)
no_key true c word later follows none = absurd (let wrong : true ≡ false = ap is_some none in cc)
no_key false false word later follows none = (none, refl)
no_key false true word later follows none = absurd (let wrong : false ≡ true = follows refl in cc)

not_among : (rows : List (List ℕ × Word)) (text : List ℕ) → look_up rows text ≡ None → list_any (λ (word : List ℕ). pointwise nat_eq word text) (map (λ (row : List ℕ × Word). row.0) rows) ≡ false
not_among [] text none = refl
not_among (row ∷ rows) text none =
    let equal : pointwise nat_eq row.0 text ≡ true → same row.0 text ≡ true =
    λ is. subst (λ t. same row.0 t ≡ true) ((slice_eq-Decides unsigned_Decides row.0 text (pointwise nat_eq row.0 text) refl).0 is) (same_itself row.0) in
    let parts = no_key (same row.0 text) (pointwise nat_eq row.0 text) row.1 (look_up rows text) equal none in
    or_from (pointwise nat_eq row.0 text) (list_any (λ (word : List ℕ). pointwise nat_eq word text) (map (λ (row : List ℕ × Word). row.0) rows)) parts.1 (not_among rows text parts.0)

-- a name of a source is one of a saved profile
named : (text : List ℕ) → IsNamed text → scanned.is_name text ≡ true
unfolding scanned.is_name
named text is =
    let no_keyword : list_any (λ (word : List ℕ). pointwise nat_eq word text) scanned.keywords ≡ false = not_among words text is.no_word in
    and_from (scanned.is_word text) (not (list_any (λ (word : List ℕ). pointwise nat_eq word text) scanned.keywords)) (is_word text is.name) (ap not no_keyword)

kind_right : (what : TokenKind) → IsRightKind what → saving.IsRightKind what
kind_right (token.Name name) is = named name is
kind_right (token.Word word) is = tt
kind_right (token.Number kind value) is = tt
kind_right (token.Char value) is = tt
kind_right (token.Str bytes) is = tt
kind_right (token.Mark mark) is = tt
kind_right token.End is = tt

token_right : (t : Token) → IsRightToken t → saving.IsRightToken t
token_right t is = record {
  line = (is.inside.line, is.inside.last_line);
  column = (is.inside.column, is.inside.last_column);
  kind = kind_right t.what is.kind;
}

-- one of a list of which something is so of all
at_place : (P : Token → Type 0) (list : List Token) → AllByRecursion P list → (n : ℕ) (t : Token) → slice_get list n ≡ Some t → P t
at_place P [] all n t there = absurd (none-some t there)
at_place P (x ∷ list) all zero t there = subst P (same_Some x t there) all.0
at_place P (x ∷ list) all (suc n) t there = at_place P list all.1 n t there

-- THE REGIONS of an accepted source
pub source_regions : (bytes : List ℕ) (list : List Token) (unit : tree.Unit) (typed : TUnit) → tokens bytes ≡ Ok list → IsParse list (Ok unit)
    → faults unit ≡ [] → IsTyped unit typed → AreRegions (regions_of typed)
source_regions bytes list unit typed lexed parsed faultless is =
    can_be_saved unit typed list parsed.0.placed parsed.1
    (λ n t there. token_right t (at_place IsRightToken list (recursion_from_All IsRightToken list (tokens_right bytes list lexed)) n t there)) is faultless

-- it is accepted, as the laws of lowering have it
pub source_accepted : (bytes : List ℕ) (list : List Token) (unit : tree.Unit) (program : Program) → tokens bytes ≡ Ok list → IsParse list (Ok unit)
    → faults unit ≡ [] → IsTyped unit program.unit → AreAtMost 10000 program.latencies → IsAccepted unit program
source_accepted bytes list unit program lexed parsed faultless is bounded = record {
  tokens = list;
  strings = strings_fit bytes list lexed;
  ranked = parsed.0.ranked;
  placed = parsed.0.placed;
  few = parsed.1;
  faultless = faultless;
  typed = is;
  latencies = bounded;
}
