-- Believed with the theorem on the top call.
-- What the tree of syntax of a source tells of its functions and loops.
use Rattle.std.specs.Prelude.{ℕ, ◌≡◌, Bool, List, [], ◌∷◌, ◌++◌, map, Result, Ok, Err}
use Rattle.k_tree.specs.declared.tokens.Token.{Token}
use Rattle.k_tree.specs.declared.tree.statement.Stmt.{Stmt}
use Rattle.k_tree.specs.declared.tree.unit.Head.{Head}
use Rattle.k_tree.specs.declared.tree.unit.Item.{Item}
use Rattle.k_tree.specs.declared.tree.unit.Item.TheVariants as item
use Rattle.k_tree.specs.declared.tree.unit.Unit as source
use Rattle.k_lex.specs.declared.fault.LexFault.{LexFault}
use Rattle.k_lex.specs.Tokens.{tokens}
use Rattle.k_parse.specs.Parse.{IsParse}
use Rattle.k_pragma_written.specs.declared.told.Written.{Written}
use Rattle.k_pragma_written.specs.Names.{names_in, params_declared}
use Rattle.k_pragma_written.specs.Names as names
use Rattle.k_pragma_written.specs.Loops.{loops_in}
use Rattle.k_pragma_written.specs.Loops as loops

-- the tokens, where the source has any
abbrev pub if_tokens : Result (List Token) LexFault → List Token
if_tokens (Ok list) = list
if_tokens (Err fault) = []

-- THE NAMES OF A FUNCTION'S VARIABLES, by their numbers: its parameters, and then those that its body declares, in text order
abbrev pub function_names : Head → List Stmt → List (List ℕ)
function_names head body = params_declared head.params ++ names.in_rows (map names_in body)

-- the loops of a function's body
abbrev pub loops_of : List Stmt → List Bool
loops_of body = loops.in_rows (map loops_in body)

-- the names of a defined function's variables; another item defines none
abbrev pub item_names : Item → List (List (List ℕ))
item_names (item.Function place head body close) = function_names head body ∷ []
item_names (item.Prototype place head) = []
item_names (item.Objects place specs list) = []

-- the loops of a defined function
abbrev pub item_loops : Item → List Bool
item_loops (item.Function place head body close) = loops_of body
item_loops (item.Prototype place head) = []
item_loops (item.Objects place specs list) = []

-- the names of items, function by function
abbrev pub names_of_items : List Item → List (List (List ℕ))
names_of_items [] = []
names_of_items (i ∷ items) = item_names i ++ names_of_items items

-- the loops of items
abbrev pub loops_of_items : List Item → List Bool
loops_of_items [] = []
loops_of_items (i ∷ items) = item_loops i ++ loops_of_items items

-- WHAT A TREE TELLS: of each defined function the names of its variables, and of each loop whether its head is of one variable that stands bare
abbrev pub written_of : source.Unit → Written
written_of unit = record { names = names_of_items unit.items; bare = loops_of_items unit.items }

-- the bytes have this tree, and this is what it tells
pub record IsWritten (bytes : List ℕ) (w : Written) : Type 0 where
  pub tree : source.Unit
  pub read : IsParse (if_tokens (tokens bytes)) (Ok tree)
  pub is : w ≡ written_of tree
