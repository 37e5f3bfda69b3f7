-- Believed with the theorem on the top call.
-- Why a source, a table of latencies or the words are refused, and how that is written: a name, what it is about in parentheses, a place.
use Rattle.std.specs.Prelude.{ℕ, List, [], ◌++◌, codes}
use Rattle.std.specs.Fmt.{decimal, signed_decimal}
use Rattle.k_num.specs.declared.place.Place.{Place}
use Rattle.k_optab.specs.declared.toml_table.TableFault.{TableFault}
use Rattle.k_optab.specs.declared.toml_table.TableFault.TheVariants as table
use Rattle.k_lex.specs.declared.fault.LexFault.{LexFault}
use Rattle.k_lex.specs.declared.fault.LexFault.TheVariants as lexical
use Rattle.k_parse.specs.declared.fault.ParseFault.{ParseFault}
use Rattle.k_parse.specs.declared.fault.ParseFault.TheVariants as syntax
use Rattle.k_types_meaning.specs.declared.fault.TypeFault.{TypeFault}
use Rattle.k_types_meaning.specs.declared.fault.TypeFault.TheVariants as typing
use Rattle.k_text.specs.Texts.{place_text}
use Rattle.k_words.specs.declared.usage.Usage.{Usage}
use Rattle.k_words.specs.declared.usage.Usage.TheVariants as usage

-- a name and a place, as NAME at line:column
abbrev pub named_at : List ℕ → Place → List ℕ
named_at name place = name ++ codes " at " ++ place_text place

-- a name, and what it is about in parentheses
abbrev pub about : List ℕ → List ℕ → List ℕ
about name what = name ++ codes "(" ++ what ++ codes ")"

-- the place of what is refused as a whole
abbrev pub whole_place : Place
whole_place = record { line = 1; column = 1 }

-- a fault of the tokens; want of memory is no refusal, and has no text here or below
abbrev pub lex_text : LexFault → List ℕ
lex_text (lexical.BadByte place) = named_at (codes "BadByte") place
lex_text (lexical.OpenComment place) = named_at (codes "OpenComment") place
lex_text (lexical.OpenLiteral place) = named_at (codes "OpenLiteral") place
lex_text (lexical.BadEscape place) = named_at (codes "BadEscape") place
lex_text (lexical.BadNumber place) = named_at (codes "BadNumber") place
lex_text (lexical.BadDirective place) = named_at (codes "BadDirective") place
lex_text (lexical.UnknownHeader place) = named_at (codes "UnknownHeader") place
lex_text (lexical.MacroOrder place) = named_at (codes "MacroOrder") place
lex_text (lexical.MacroAgain place) = named_at (codes "MacroAgain") place
lex_text (lexical.SourceLong place) = named_at (codes "SourceLong") place
lex_text (lexical.TokensMany place) = named_at (codes "TokensMany") place
lex_text lexical.Memory = []

-- a fault of the tree; one with too many nodes is refused as a whole
abbrev pub parse_text : ParseFault → List ℕ
parse_text (syntax.Syntax place) = named_at (codes "Syntax") place
parse_text (syntax.TooDeep place) = named_at (codes "TooDeep") place
parse_text syntax.NodesMany = named_at (codes "NodesMany") whole_place
parse_text syntax.Memory = []

-- a fault in names and types
abbrev pub type_text : TypeFault → List ℕ
type_text (typing.Unknown name place) = named_at (about (codes "Unknown") name) place
type_text (typing.Twice name place) = named_at (about (codes "Twice") name) place
type_text (typing.Kinds place) = named_at (codes "Kinds") place
type_text (typing.NotPlace place) = named_at (codes "NotPlace") place
type_text (typing.ConstWrite place) = named_at (codes "ConstWrite") place
type_text (typing.Arity place) = named_at (codes "Arity") place
type_text (typing.BadSize place) = named_at (codes "BadSize") place
type_text (typing.BadFormat place) = named_at (codes "BadFormat") place
type_text (typing.NoMain place) = named_at (codes "NoMain") place
type_text (typing.NotDefined name place) = named_at (about (codes "NotDefined") name) place
type_text (typing.JumpOutside place) = named_at (codes "JumpOutside") place
type_text typing.Memory = []
type_text (typing.CaseAgain place) = named_at (codes "CaseAgain") place

-- a fault of a table of latencies: the key, and a number that is out of range behind it
abbrev pub table_text : TableFault → List ℕ
table_text table.NotToml = codes "NotToml"
table_text (table.UnknownKey key) = about (codes "UnknownKey") key
table_text (table.NotWhole key) = about (codes "NotWhole") key
table_text (table.OutOfRange key number) = about (codes "OutOfRange") (key ++ codes ", " ++ signed_decimal number)
table_text table.Memory = []

-- a name and the index of a word
abbrev pub at_word : List ℕ → ℕ → List ℕ
at_word name index = name ++ codes " at word " ++ decimal index

-- what is wrong with the words
abbrev pub usage_text : Usage → List ℕ
usage_text usage.NoCommand = codes "NoCommand"
usage_text (usage.UnknownWord index) = at_word (codes "UnknownWord") index
usage_text (usage.BadNumber index) = at_word (codes "BadNumber") index
usage_text (usage.Twice index) = at_word (codes "Twice") index
usage_text usage.NoFile = codes "NoFile"
usage_text usage.Memory = []
