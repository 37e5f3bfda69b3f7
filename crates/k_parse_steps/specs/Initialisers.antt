-- Believed with a public law.
-- How initialisers are read (C17 6.7.9).
use Rattle.std.specs.Prelude.{Bool, true, false, cond, nat_eq, List, [], ◌∷◌, ◌++◌, length, Option, Some, None}
use Rattle.k_parse_steps.specs.Types.{Mark, Init, Declarator, Brace, Opened, After}
use Rattle.k_tree.specs.declared.tokens.mark.Mark.TheVariants as mark
use Rattle.k_tree.specs.declared.tree.declaration.Init.TheVariants as init
use Rattle.k_parse_steps.specs.declared.declaration.initialiser.After.TheVariants as after_

-- a declarator with the braces that are open in its initialiser, the innermost first
abbrev pub opened : Declarator → List Brace → Opened
opened d s = record { declarator = d; braces = s }

-- a declarator with its initialiser
abbrev pub initialised : Declarator → Init → Declarator
initialised d i = record d { init = Some i }

-- an initialiser that ends goes to the innermost of these braces, or to the declarator if none is open
abbrev pub plug_into : Declarator → List Brace → Init → Opened
plug_into d [] i = opened (initialised d i) []
plug_into d (b ∷ s) i = opened d (record { place = b.place; items = b.items ++ i ∷ [] } ∷ s)

-- an initialiser that ends belongs to the innermost brace, or to the declarator
unfoldable pub plug : Opened → Init → Opened
plug o i = plug_into o.declarator o.braces i

-- the initialisers of a brace that closes
abbrev pub listed : Brace → Bool → Init
listed b comma = init.List b.place b.items comma

-- the mark behind an initialiser in a brace: a comma awaits one more, `}` closes the brace (C17 6.7.9)
abbrev pub after_mark : Declarator → Brace → List Brace → Mark → After
after_mark d b s mark.Comma = after_.Starts (opened d (b ∷ s))
after_mark d b s mark.RightBrace = after_.Closed (plug_into d s (listed b false))
after_mark d b s _ = after_.Refused

-- the mark behind an initialiser: with no brace open the declarator is done, else the mark belongs to the brace
abbrev pub after_in : Declarator → List Brace → Mark → After
after_in d [] m = after_.Done d
after_in d (b ∷ s) m = after_mark d b s m

-- the mark behind an initialiser
unfoldable pub after : Opened → Mark → After
after o m = after_in o.declarator o.braces m

-- `}` behind a comma closes the innermost brace, if there is one and it has an initialiser (C17 6.7.9)
abbrev pub last_comma_in : Declarator → List Brace → Option Opened
last_comma_in d [] = None
last_comma_in d (b ∷ s) = cond (nat_eq (length b.items) 0) None (Some (plug_into d s (listed b true)))

-- a closing brace behind a comma
unfoldable pub last_comma : Opened → Option Opened
last_comma o = last_comma_in o.declarator o.braces
