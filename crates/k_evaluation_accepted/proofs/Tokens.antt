-- The literals of an accepted source are those of its tokens, and so numbers of their kinds.
use Rattle.std.proofs.Common.{◌≡◌, ◌∙◌, [], ◌∷◌, map, subst, arith}
use Rattle.std.specs.Prelude.{All}
use Rattle.std.proofs.lemmas.Int.{ints}
use Rattle.std.proofs.lemmas.List.Elements.{All-cons, All-head, All-nil, All-tail}
use Rattle.k_tree.specs.declared.tokens.Token.{Token}
use Rattle.k_tree.specs.declared.tokens.TokenKind.{TokenKind}
use Rattle.k_tree.specs.declared.tokens.TokenKind.TheVariants as token
use Rattle.k_tree.specs.declared.tree.unit.Unit as source
use Rattle.k_tree.specs.Literals.{NumbersAreHeld, StringsFit}
use Rattle.k_tree.specs.Places.{lay_unit}
use Rattle.k_tree.specs.Spelling.{Spelled, spelling}
use Rattle.k_tree.proofs.Laid.{unit_spelled}
use Rattle.k_tree.proofs.Standing.{stand-kinds}
use Rattle.k_lex.proofs.TokenLaws.{numbers_held}
use Rattle.k_lex_laws.specs.Laws.{CharacterIsAChar}
use Rattle.k_lex_laws.proofs.Characters.{characters_are_chars}
use Rattle.k_evaluation.specs.States.{Program}
use Rattle.k_evaluation_laws.specs.Laws.{ExpressionsGiveTheirTypes, FunctionsKeepKinds, MainGivesAnInt, ObjectsBeginRight, RunsStartRight, StatementsKeepKinds}
use Rattle.k_evaluation_laws.specs.Ranges.{CharacterIsHeld}
use Rattle.k_evaluation_laws.proofs.Closed.{expressions_give_their_types, functions_keep_kinds, main_gives_an_int, objects_begin_right, runs_start_right, statements_keep_kinds}
use Rattle.k_lower_accepted.specs.Accepted.{IsAccepted}
use Rattle.k_evaluation_accepted.specs.Laws.{AcceptedProgramsAreOfTheirSources, IsAcceptedText}

same_tokens : (unit : source.Unit) (program : Program) (h : IsAccepted unit program) → map (λ (t : Token). t.what) h.tokens ≡ spelling unit
same_tokens unit program h = stand-kinds (lay_unit unit) h.tokens h.placed ∙ unit_spelled unit h.ranked

-- C17 6.4.4.4p10: a char is an int
char_is_int : (t : TokenKind) → CharacterIsAChar t → CharacterIsHeld t
char_is_int (token.Char z) held = grind (arith, ints, held)
char_is_int (token.Name name) held = tt
char_is_int (token.Word word) held = tt
char_is_int (token.Number kind n) held = tt
char_is_int (token.Str bytes) held = tt
char_is_int (token.Mark mark) held = tt
char_is_int token.End held = tt

chars_are_ints : (ts : Spelled) → All CharacterIsAChar ts → All CharacterIsHeld ts
chars_are_ints [] all = All-nil CharacterIsHeld
chars_are_ints (t ∷ ts) all = All-cons CharacterIsHeld t ts (char_is_int t (All-head CharacterIsAChar t ts all)) (chars_are_ints ts (All-tail CharacterIsAChar t ts all))

pub of_their_sources : AcceptedProgramsAreOfTheirSources
of_their_sources unit program h =
    let same = same_tokens unit program h.accepted in
    let kinds : Spelled = map (λ (t : Token). t.what) h.accepted.tokens in
    record {
      typed = h.accepted.typed;
      faultless = h.accepted.faultless;
      strings = subst StringsFit same h.accepted.strings;
      ranked = h.accepted.ranked;
      numbers = subst NumbersAreHeld same (numbers_held h.bytes h.accepted.tokens h.cut);
      characters = subst (λ (ts : Spelled). All CharacterIsHeld ts) same (chars_are_ints kinds (characters_are_chars h.bytes h.accepted.tokens h.cut));
    }

-- THE LAWS of values, of each accepted program
pub objects_right : ObjectsBeginRight IsAcceptedText
objects_right unit program h = objects_begin_right unit program (of_their_sources unit program h)

pub starts_right : RunsStartRight IsAcceptedText
starts_right unit program input budget h bytes = runs_start_right unit program input budget (of_their_sources unit program h) bytes

pub expressions_right : ExpressionsGiveTheirTypes IsAcceptedText
expressions_right unit program depth number f e used kinds s h stands right = expressions_give_their_types unit program depth number f e used kinds s (of_their_sources unit program h) stands right

pub statements_right : StatementsKeepKinds IsAcceptedText
statements_right unit program depth number f part kinds s h stands right = statements_keep_kinds unit program depth number f part kinds s (of_their_sources unit program h) stands right

pub functions_right : FunctionsKeepKinds IsAcceptedText
functions_right unit program depth number f kinds s h right = functions_keep_kinds unit program depth number f kinds s (of_their_sources unit program h) right

pub main_right : MainGivesAnInt IsAcceptedText
main_right unit program input budget held t h bytes is = main_gives_an_int unit program input budget held t (of_their_sources unit program h) bytes is
