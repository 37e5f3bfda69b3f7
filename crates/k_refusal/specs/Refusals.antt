-- Believed with the theorem on the top call.
-- Why a source is refused, as it is told to whoever wrote it.
use Rattle.std.specs.Prelude.{ℕ, ◌-◌, List, ◌++◌, take, drop, codes}
use Rattle.k_num.specs.declared.place.Place.{Place}
use Rattle.k_text.specs.Texts.{place_text}
use Rattle.k_refusal.specs.declared.rule.Rule.{Rule}
use Rattle.k_refusal.specs.declared.rule.Rule.TheVariants as rule
use Rattle.k_refusal.specs.declared.sentence.Sentence.{Sentence}
use Rattle.k_refusal.specs.declared.sentence.Sentence.TheVariants as says
use Rattle.k_refusal.specs.declared.sentence.Directive.TheVariants as directive_says
use Rattle.k_refusal.specs.declared.sentence.Limit.TheVariants as limit_says
use Rattle.k_refusal.specs.declared.sentence.Name.TheVariants as name_says
use Rattle.k_refusal.specs.declared.sentence.Token.TheVariants as token_says
use Rattle.k_refusal.specs.declared.sentence.Usage.TheVariants as usage_says
use Rattle.k_refusal.specs.Fronts.{behind_blanks, first_byte}
use Rattle.k_refusal.specs.Lexical.{of_byte, of_directive, of_header, of_literal, of_number}
use Rattle.k_refusal.specs.Lines.{line_of, shown_line}
use Rattle.k_refusal.specs.Rules.{about_text, rule_name}
use Rattle.k_refusal.specs.Sentences.{text}
use Rattle.k_refusal.specs.Syntax.{of_syntax}
use Rattle.k_refusal.specs.Typing.{of_format, of_kinds, of_no_place, of_unknown_behind}

-- THE SENTENCE of a refusal that is about this, at a place behind so many bytes of this line
unfoldable pub sentence_of : Rule → List ℕ → List ℕ → ℕ → Sentence
sentence_of rule.BadByte about line before = of_byte (first_byte (drop before line))
sentence_of rule.OpenComment about line before = says.Token token_says.OpenComment
sentence_of rule.OpenLiteral about line before = of_literal (first_byte (drop before line))
sentence_of rule.BadEscape about line before = says.Token token_says.BadEscape
sentence_of rule.BadNumber about line before = of_number (drop before line)
sentence_of rule.BadDirective about line before = of_directive (behind_blanks (drop 1 (drop before line)))
sentence_of rule.UnknownHeader about line before = of_header (drop before line)
sentence_of rule.MacroOrder about line before = says.Directive directive_says.MacroOrder
sentence_of rule.MacroAgain about line before = says.Directive directive_says.MacroAgain
sentence_of rule.SourceLong about line before = says.Limit limit_says.SourceLong
sentence_of rule.TokensMany about line before = says.Limit limit_says.TokensMany
sentence_of rule.Syntax about line before = of_syntax (first_byte (drop (before - 1) line)) (drop before line)
sentence_of rule.TooDeep about line before = says.Limit limit_says.TooDeep
sentence_of rule.NodesMany about line before = says.Limit limit_says.NodesMany
sentence_of rule.Unknown about line before = of_unknown_behind (drop (before - 5) line) about
sentence_of rule.Twice about line before = says.Name name_says.DeclaredTwice
sentence_of rule.Kinds about line before = of_kinds (take before line) (drop before line)
sentence_of rule.NotPlace about line before = of_no_place (first_byte (drop before line))
sentence_of rule.ConstWrite about line before = says.Usage usage_says.ConstWrite
sentence_of rule.Arity about line before = says.Usage usage_says.ArgumentCount
sentence_of rule.BadSize about line before = says.Usage usage_says.BadSize
sentence_of rule.BadFormat about line before = of_format (drop before line)
sentence_of rule.NoMain about line before = says.Name name_says.NoMain
sentence_of rule.NotDefined about line before = says.Name name_says.NoBody
sentence_of rule.JumpOutside about line before = says.Usage usage_says.NothingToLeave
sentence_of rule.CaseAgain about line before = says.Usage usage_says.CaseAgain

-- the place, and that it is an error
abbrev pub head_text : List ℕ → Place → List ℕ
head_text file place = file ++ codes ":" ++ place_text place ++ codes ": error: "

-- the name of the refusal, and what it is about
abbrev pub tail_text : Rule → List ℕ → List ℕ
tail_text r about = codes " [" ++ rule_name r ++ about_text about ++ codes "]\n"

-- of a refusal at a place behind so many bytes of this line: where it is, its sentence and its name, and the line with the caret
abbrev pub told_at : List ℕ → Rule → List ℕ → Place → List ℕ → ℕ → List ℕ
told_at file r about place line before =
    head_text file place ++ text (sentence_of r about line before) ++ tail_text r about ++ shown_line line before

-- A REFUSAL of this source in a file of this name: what is told of it
unfoldable pub refusal_text : List ℕ → List ℕ → Rule → List ℕ → Place → List ℕ
refusal_text file source r about place = told_at file r about place (line_of place.line source) (place.column - 1)
