-- Believed with the theorem on the top call.
-- What `check` tells of a source that is refused: each refusal by its rule, with the name that it is about, and its place.
use Rattle.std.specs.Prelude.{ℕ, Bool, true, false, List, []}
use Rattle.k_num.specs.declared.place.Place.{Place}
use Rattle.k_lex.specs.declared.fault.LexFault.{LexFault}
use Rattle.k_lex.specs.declared.fault.LexFault.TheVariants as lexical
use Rattle.k_parse.specs.declared.fault.ParseFault.{ParseFault}
use Rattle.k_parse.specs.declared.fault.ParseFault.TheVariants as syntax
use Rattle.k_types_meaning.specs.declared.fault.TypeFault.{TypeFault}
use Rattle.k_types_meaning.specs.declared.fault.TypeFault.TheVariants as typing
use Rattle.k_refusal.specs.Refusals.{refusal_text}
use Rattle.k_refusal.specs.declared.rule.Rule.{Rule}
use Rattle.k_refusal.specs.declared.rule.Rule.TheVariants as rule
use Rattle.k_top_answers.specs.declared.failure.Failure.{Failure}
use Rattle.k_top_answers.specs.declared.failure.Failure.TheVariants as why
use Rattle.k_top_answers.specs.Refusals.{whole_place}

-- a refusal that is about no name
abbrev pub unnamed : List ℕ → List ℕ → Rule → Place → List ℕ
unnamed file source r place = refusal_text file source r [] place

-- a fault of the tokens; want of memory is no refusal, and nothing is told of it here or below
abbrev pub lex_told : List ℕ → List ℕ → LexFault → List ℕ
lex_told file source (lexical.BadByte place) = unnamed file source rule.BadByte place
lex_told file source (lexical.OpenComment place) = unnamed file source rule.OpenComment place
lex_told file source (lexical.OpenLiteral place) = unnamed file source rule.OpenLiteral place
lex_told file source (lexical.BadEscape place) = unnamed file source rule.BadEscape place
lex_told file source (lexical.BadNumber place) = unnamed file source rule.BadNumber place
lex_told file source (lexical.BadDirective place) = unnamed file source rule.BadDirective place
lex_told file source (lexical.UnknownHeader place) = unnamed file source rule.UnknownHeader place
lex_told file source (lexical.MacroOrder place) = unnamed file source rule.MacroOrder place
lex_told file source (lexical.MacroAgain place) = unnamed file source rule.MacroAgain place
lex_told file source (lexical.SourceLong place) = unnamed file source rule.SourceLong place
lex_told file source (lexical.TokensMany place) = unnamed file source rule.TokensMany place
lex_told file source lexical.Memory = []

-- a fault of the tree; one with too many nodes is refused as a whole
abbrev pub parse_told : List ℕ → List ℕ → ParseFault → List ℕ
parse_told file source (syntax.Syntax place) = unnamed file source rule.Syntax place
parse_told file source (syntax.TooDeep place) = unnamed file source rule.TooDeep place
parse_told file source syntax.NodesMany = unnamed file source rule.NodesMany whole_place
parse_told file source syntax.Memory = []

-- a fault in names and types
abbrev pub type_told : List ℕ → List ℕ → TypeFault → List ℕ
type_told file source (typing.Unknown name place) = refusal_text file source rule.Unknown name place
type_told file source (typing.Twice name place) = refusal_text file source rule.Twice name place
type_told file source (typing.Kinds place) = unnamed file source rule.Kinds place
type_told file source (typing.NotPlace place) = unnamed file source rule.NotPlace place
type_told file source (typing.ConstWrite place) = unnamed file source rule.ConstWrite place
type_told file source (typing.Arity place) = unnamed file source rule.Arity place
type_told file source (typing.BadSize place) = unnamed file source rule.BadSize place
type_told file source (typing.BadFormat place) = unnamed file source rule.BadFormat place
type_told file source (typing.NoMain place) = unnamed file source rule.NoMain place
type_told file source (typing.NotDefined name place) = refusal_text file source rule.NotDefined name place
type_told file source (typing.JumpOutside place) = unnamed file source rule.JumpOutside place
type_told file source typing.Memory = []
type_told file source (typing.CaseAgain place) = unnamed file source rule.CaseAgain place

-- WHAT `check` TELLS of this source, in a file of this name: nothing but of its refusal
abbrev pub told : List ℕ → List ℕ → Failure → List ℕ
told file source (why.Lex fault) = lex_told file source fault
told file source (why.Parse fault) = parse_told file source fault
told file source (why.Types fault) = type_told file source fault
told file source failure = []

-- the failure refuses a source
abbrev pub refuses_source : Failure → Bool
refuses_source (why.Lex fault) = true
refuses_source (why.Parse fault) = true
refuses_source (why.Types fault) = true
refuses_source failure = false
