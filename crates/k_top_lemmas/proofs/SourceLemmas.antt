-- What a source that is read comes to, by what its tokens, its tree and its types come to.
use Rattle.std.proofs.Common.{ℕ, ◌≡◌, ◌≤◌, ◌⊎◌, ◌∙◌, Bool, true, false, if◌then◌else◌, nat_lt, refl, ap, sym, subst, List, [], ◌∷◌, length, Result, Ok, Err, inl, inr, arith}
use Rattle.std.proofs.lemmas.Bool.Decides.{nat_tests}
use Rattle.k_tree.specs.declared.tokens.Token.{Token}
use Rattle.k_tree.specs.declared.tree.unit.Unit as tree
use Rattle.k_lex.specs.Tokens.{answer, first_place, tokens}
use Rattle.k_lex_pieces.specs.Outcome.{refused}
use Rattle.k_lex_pieces.specs.declared.fault.Refusal.TheVariants as refusal
use Rattle.k_lex_pieces.specs.declared.fault.Fault.{Fault}
use Rattle.k_lex.specs.declared.fault.LexFault.{LexFault}
use Rattle.k_lex.specs.declared.fault.LexFault.TheVariants as lexical
use Rattle.k_parse.specs.Parse.{IsParse}
use Rattle.k_parse.specs.declared.fault.ParseFault.{ParseFault}
use Rattle.k_parse.specs.declared.fault.ParseFault.TheVariants as syntax
use Rattle.k_types_meaning.specs.Bare.{IsTyped}
use Rattle.k_types_meaning.specs.Made.{StartsWith}
use Rattle.k_types_meaning.specs.Units.{faults}
use Rattle.k_types_meaning.specs.declared.fault.TypeFault.{TypeFault}
use Rattle.k_types_meaning.specs.declared.fault.TypeFault.TheVariants as typing
use Rattle.k_types_meaning.specs.declared.tree.unit.TUnit.{TUnit}
use Rattle.k_top_answers.specs.declared.failure.Failure.{Failure}
use Rattle.k_top_answers.specs.declared.failure.Failure.TheVariants as why
use Rattle.k_top_answers.specs.Failures.{failure_of_lex, failure_of_parse, failure_of_types}
use Rattle.k_top_lemmas.specs.Parts.{AcceptsSource}
use Rattle.k_top_answers.specs.Steps.{AnswersSource, AnswersTokens, AnswersTyped}

module _ (failed : Failure → Type 0) (next : TUnit → Type 0) (bytes : List ℕ) where
  -- the tokens spell a tree that has a typed tree
  pub accepted : (list : List Token) (unit : tree.Unit) (typed : TUnit) → tokens bytes ≡ Ok list → IsParse list (Ok unit) → faults unit ≡ []
      → IsTyped unit typed → next typed → AnswersSource failed next bytes
  accepted list unit typed lexed parsed faultless is holds =
      subst (λ found. AnswersTokens failed next found) (sym lexed)
      (Ok unit, parsed, subst (λ fs. AnswersTyped failed next unit fs) (sym faultless) (typed, is, holds))

  -- there are no tokens
  pub not_lexed : (fault : LexFault) → tokens bytes ≡ Err fault → failed (why.Lex fault) → AnswersSource failed next bytes
  not_lexed fault lexed holds = subst (λ found. AnswersTokens failed next found) (sym lexed) holds

  -- the tokens spell no tree
  pub not_parsed : (list : List Token) (fault : ParseFault) → tokens bytes ≡ Ok list → IsParse list (Err fault) → failed (why.Parse fault)
      → AnswersSource failed next bytes
  not_parsed list fault lexed parsed holds = subst (λ found. AnswersTokens failed next found) (sym lexed) (Err fault, parsed, holds)

  -- the tree has no typed tree
  pub not_typed : (list : List Token) (unit : tree.Unit) (fault : TypeFault) (rest : List TypeFault) → tokens bytes ≡ Ok list → IsParse list (Ok unit)
      → faults unit ≡ fault ∷ rest → failed (why.Types fault) → AnswersSource failed next bytes
  not_typed list unit fault rest lexed parsed is holds =
      subst (λ found. AnswersTokens failed next found) (sym lexed)
      (Ok unit, parsed, subst (λ fs. AnswersTyped failed next unit fs) (sym is) holds)

-- the source is refused by a fault of its tokens
out_lexed : (bytes : List ℕ) (fault : LexFault) → tokens bytes ≡ Err fault → AnswersSource (λ other. other ≡ why.Lex fault) (λ source. ⊥) bytes
out_lexed bytes fault is = not_lexed (λ other. other ≡ why.Lex fault) (λ source. ⊥) bytes fault is refl

-- or by one of its tree
out_parsed : (bytes : List ℕ) (list : List Token) (fault : ParseFault) → tokens bytes ≡ Ok list → IsParse list (Err fault)
    → AnswersSource (λ other. other ≡ why.Parse fault) (λ source. ⊥) bytes
out_parsed bytes list fault lexed is = not_parsed (λ other. other ≡ why.Parse fault) (λ source. ⊥) bytes list fault lexed is refl

-- or by one of its types
out_typed : (bytes : List ℕ) (list : List Token) (unit : tree.Unit) (fault : TypeFault) (rest : List TypeFault) → tokens bytes ≡ Ok list
    → IsParse list (Ok unit) → faults unit ≡ fault ∷ rest → AnswersSource (λ other. other ≡ why.Types fault) (λ source. ⊥) bytes
out_typed bytes list unit fault rest lexed parsed is =
    not_typed (λ other. other ≡ why.Types fault) (λ source. ⊥) bytes list unit fault rest lexed parsed is refl

-- a fault of the tokens that is no want of memory
lex_fault : (bytes : List ℕ) (fault : LexFault) → tokens bytes ≡ Err fault → AcceptsSource (Err (failure_of_lex fault)) bytes
lex_fault bytes lexical.Memory is = inl refl
lex_fault bytes (lexical.BadByte place) is = inr (out_lexed bytes (lexical.BadByte place) is)
lex_fault bytes (lexical.OpenComment place) is = inr (out_lexed bytes (lexical.OpenComment place) is)
lex_fault bytes (lexical.OpenLiteral place) is = inr (out_lexed bytes (lexical.OpenLiteral place) is)
lex_fault bytes (lexical.BadEscape place) is = inr (out_lexed bytes (lexical.BadEscape place) is)
lex_fault bytes (lexical.BadNumber place) is = inr (out_lexed bytes (lexical.BadNumber place) is)
lex_fault bytes (lexical.BadDirective place) is = inr (out_lexed bytes (lexical.BadDirective place) is)
lex_fault bytes (lexical.UnknownHeader place) is = inr (out_lexed bytes (lexical.UnknownHeader place) is)
lex_fault bytes (lexical.MacroOrder place) is = inr (out_lexed bytes (lexical.MacroOrder place) is)
lex_fault bytes (lexical.MacroAgain place) is = inr (out_lexed bytes (lexical.MacroAgain place) is)
lex_fault bytes (lexical.SourceLong place) is = inr (out_lexed bytes (lexical.SourceLong place) is)
lex_fault bytes (lexical.TokensMany place) is = inr (out_lexed bytes (lexical.TokensMany place) is)

pub lex_fails : (bytes : List ℕ) (fault : LexFault) → (fault ≡ lexical.Memory) ⊎ (tokens bytes ≡ Err fault)
    → AcceptsSource (Err (failure_of_lex fault)) bytes
lex_fails bytes fault (inl is) = subst (λ f. AcceptsSource (Err (failure_of_lex f)) bytes) (sym is) (inl refl)
lex_fails bytes fault (inr is) = lex_fault bytes fault is

-- a fault of the tree that is no want of memory
parse_fault : (bytes : List ℕ) (list : List Token) (fault : ParseFault) → tokens bytes ≡ Ok list → IsParse list (Err fault)
    → AcceptsSource (Err (failure_of_parse fault)) bytes
parse_fault bytes list syntax.Memory lexed is = inl refl
parse_fault bytes list (syntax.Syntax place) lexed is = inr (out_parsed bytes list (syntax.Syntax place) lexed is)
parse_fault bytes list (syntax.TooDeep place) lexed is = inr (out_parsed bytes list (syntax.TooDeep place) lexed is)
parse_fault bytes list syntax.NodesMany lexed is = inr (out_parsed bytes list syntax.NodesMany lexed is)

pub parse_fails : (bytes : List ℕ) (list : List Token) (fault : ParseFault) → tokens bytes ≡ Ok list
    → (fault ≡ syntax.Memory) ⊎ IsParse list (Err fault) → AcceptsSource (Err (failure_of_parse fault)) bytes
parse_fails bytes list fault lexed (inl is) = subst (λ f. AcceptsSource (Err (failure_of_parse f)) bytes) (sym is) (inl refl)
parse_fails bytes list fault lexed (inr is) = parse_fault bytes list fault lexed is

-- a fault in names and types that is no want of memory
type_fault : (bytes : List ℕ) (list : List Token) (unit : tree.Unit) (fault : TypeFault) (rest : List TypeFault) → tokens bytes ≡ Ok list
    → IsParse list (Ok unit) → faults unit ≡ fault ∷ rest → AcceptsSource (Err (failure_of_types fault)) bytes
type_fault bytes list unit typing.Memory rest lexed parsed is = inl refl
type_fault bytes list unit (typing.Unknown name place) rest lexed parsed is = inr (out_typed bytes list unit (typing.Unknown name place) rest lexed parsed is)
type_fault bytes list unit (typing.Twice name place) rest lexed parsed is = inr (out_typed bytes list unit (typing.Twice name place) rest lexed parsed is)
type_fault bytes list unit (typing.Kinds place) rest lexed parsed is = inr (out_typed bytes list unit (typing.Kinds place) rest lexed parsed is)
type_fault bytes list unit (typing.NotPlace place) rest lexed parsed is = inr (out_typed bytes list unit (typing.NotPlace place) rest lexed parsed is)
type_fault bytes list unit (typing.ConstWrite place) rest lexed parsed is = inr (out_typed bytes list unit (typing.ConstWrite place) rest lexed parsed is)
type_fault bytes list unit (typing.Arity place) rest lexed parsed is = inr (out_typed bytes list unit (typing.Arity place) rest lexed parsed is)
type_fault bytes list unit (typing.BadSize place) rest lexed parsed is = inr (out_typed bytes list unit (typing.BadSize place) rest lexed parsed is)
type_fault bytes list unit (typing.BadFormat place) rest lexed parsed is = inr (out_typed bytes list unit (typing.BadFormat place) rest lexed parsed is)
type_fault bytes list unit (typing.NoMain place) rest lexed parsed is = inr (out_typed bytes list unit (typing.NoMain place) rest lexed parsed is)
type_fault bytes list unit (typing.NotDefined name place) rest lexed parsed is = inr (out_typed bytes list unit (typing.NotDefined name place) rest lexed parsed is)
type_fault bytes list unit (typing.JumpOutside place) rest lexed parsed is = inr (out_typed bytes list unit (typing.JumpOutside place) rest lexed parsed is)
type_fault bytes list unit (typing.CaseAgain place) rest lexed parsed is = inr (out_typed bytes list unit (typing.CaseAgain place) rest lexed parsed is)

-- faults that start with this one
started : (fault : TypeFault) (fs : List TypeFault) → StartsWith fault fs → (rest : List TypeFault) × (fs ≡ fault ∷ rest)
started fault [] is = elim is [ ]
started fault (g ∷ gs) is = (gs, ap (λ f. f ∷ gs) (sym is))

pub type_fails : (bytes : List ℕ) (list : List Token) (unit : tree.Unit) (fault : TypeFault) → tokens bytes ≡ Ok list → IsParse list (Ok unit)
    → (fault ≡ typing.Memory) ⊎ StartsWith fault (faults unit) → AcceptsSource (Err (failure_of_types fault)) bytes
type_fails bytes list unit fault lexed parsed (inl is) = subst (λ f. AcceptsSource (Err (failure_of_types f)) bytes) (sym is) (inl refl)
type_fails bytes list unit fault lexed parsed (inr is) =
    let found = started fault (faults unit) is in
    type_fault bytes list unit fault found.0 lexed parsed found.1

-- tokens that come behind a test came because it failed
behind_test : (b : Bool) (one other : Result (List Token) Fault) (fault : LexFault) (list : List Token) → answer one ≡ Err fault
    → answer (if b then one else other) ≡ Ok list → b ≡ false
behind_test true one other fault list refused lexed = absurd (let wrong : Err fault ≡ Ok list = sym refused ∙ lexed in cc wrong)
behind_test false one other fault list refused lexed = refl

-- a source that has tokens is no longer than one may be
pub source_short : (bytes : List ℕ) (list : List Token) → tokens bytes ≡ Ok list → length bytes ≤ 1048576
source_short bytes list lexed =
    let fits : nat_lt 1048576 (length bytes) ≡ false =
    behind_test (nat_lt 1048576 (length bytes)) (refused refusal.SourceLong first_place) _ (lexical.SourceLong first_place) list refl lexed in
    grind (arith, nat_tests, fits)
