-- Believed with the theorem on the top call.
-- The names of refusals, as the line on err has them.
use Rattle.std.specs.Prelude.{ℕ, List, [], ◌∷◌, ◌++◌, codes}
use Rattle.k_refusal.specs.declared.rule.Rule.{Rule}
use Rattle.k_refusal.specs.declared.rule.Rule.TheVariants as rule

-- the name of a refusal
unfoldable pub rule_name : Rule → List ℕ
rule_name rule.BadByte = codes "BadByte"
rule_name rule.OpenComment = codes "OpenComment"
rule_name rule.OpenLiteral = codes "OpenLiteral"
rule_name rule.BadEscape = codes "BadEscape"
rule_name rule.BadNumber = codes "BadNumber"
rule_name rule.BadDirective = codes "BadDirective"
rule_name rule.UnknownHeader = codes "UnknownHeader"
rule_name rule.MacroOrder = codes "MacroOrder"
rule_name rule.MacroAgain = codes "MacroAgain"
rule_name rule.SourceLong = codes "SourceLong"
rule_name rule.TokensMany = codes "TokensMany"
rule_name rule.Syntax = codes "Syntax"
rule_name rule.TooDeep = codes "TooDeep"
rule_name rule.NodesMany = codes "NodesMany"
rule_name rule.Unknown = codes "Unknown"
rule_name rule.Twice = codes "Twice"
rule_name rule.Kinds = codes "Kinds"
rule_name rule.NotPlace = codes "NotPlace"
rule_name rule.ConstWrite = codes "ConstWrite"
rule_name rule.Arity = codes "Arity"
rule_name rule.BadSize = codes "BadSize"
rule_name rule.BadFormat = codes "BadFormat"
rule_name rule.NoMain = codes "NoMain"
rule_name rule.NotDefined = codes "NotDefined"
rule_name rule.JumpOutside = codes "JumpOutside"
rule_name rule.CaseAgain = codes "CaseAgain"

-- what a refusal is about, in parentheses, where it is about something
abbrev pub about_text : List ℕ → List ℕ
about_text [] = []
about_text (b ∷ about) = codes "(" ++ (b ∷ about) ++ codes ")"
