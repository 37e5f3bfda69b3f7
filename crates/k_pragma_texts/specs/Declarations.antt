-- Believed with the theorem on the top call.
-- Where variables occur in declarations and in the parts of statements that may be left out, and which is their last node.
use Rattle.std.specs.Prelude.{ℕ, List, [], ◌∷◌, ◌++◌, map, Option, Some, None}
use Rattle.k_types_meaning.specs.declared.tree.declaration.TDeclarator.{TDeclarator}
use Rattle.k_types_meaning.specs.declared.tree.declaration.TInit.{TInit}
use Rattle.k_types_meaning.specs.declared.tree.declaration.TInit.TheVariants as begins
use Rattle.k_types_meaning.specs.declared.tree.declaration.TItem.{TItem}
use Rattle.k_types_meaning.specs.declared.tree.declaration.TItem.TheVariants as item
use Rattle.k_types_meaning.specs.declared.tree.expression.TExpr.{TExpr}
use Rattle.k_types_meaning.specs.declared.tree.statement.TFirst.{TFirst}
use Rattle.k_types_meaning.specs.declared.tree.statement.TFirst.TheVariants as first
use Rattle.k_pragma_texts.specs.declared.occurrence.How.TheVariants.{Declares}
use Rattle.k_pragma_texts.specs.declared.occurrence.Occurrence.{Occurrence}
use Rattle.k_pragma_texts.specs.Occurrences.{occurs_in, last_in, sets}

-- several lists, one behind another
abbrev pub one_behind_another : List (List Occurrence) → List Occurrence
one_behind_another [] = []
one_behind_another (xs ∷ rest) = xs ++ one_behind_another rest

-- the last of several texts, each told by its last node where one stands before it
abbrev pub last_behind : ℕ → List (ℕ → ℕ) → ℕ
last_behind n [] = n
last_behind n (f ∷ rest) = last_behind (f n) rest

-- where variables occur in an expression that may be left out
abbrev pub option_occurs : Option TExpr → List Occurrence
option_occurs None = []
option_occurs (Some e) = occurs_in e

-- its last node; where it is left out, the one before it
abbrev pub option_last : ℕ → Option TExpr → ℕ
option_last n None = n
option_last n (Some e) = last_in e

-- where variables occur in an item of braces
abbrev pub item_occurs : TItem → List Occurrence
item_occurs (item.Bytes n bytes) = []
item_occurs (item.Value p n e) = occurs_in e

-- its last node; where it has none, the one before it
abbrev pub item_last : TItem → ℕ → ℕ
item_last (item.Bytes n bytes) before = before
item_last (item.Value p n e) before = last_in e

-- where variables occur in an initialiser
abbrev pub init_occurs : TInit → List Occurrence
init_occurs begins.Nothing = []
init_occurs (begins.Value e) = occurs_in e
init_occurs (begins.Elements items) = one_behind_another (map item_occurs items)

-- its last node; where it has none, the one before it
abbrev pub init_last : TInit → ℕ → ℕ
init_last begins.Nothing before = before
init_last (begins.Value e) before = last_in e
init_last (begins.Elements items) before = last_behind before (map item_last items)

-- where variables occur in a declarator of the declaration at a node
abbrev pub declarator_occurs : ℕ → TDeclarator → List Occurrence
declarator_occurs node d = record { variable = d.variable; node = node; how = Declares } ∷ init_occurs d.init

-- where variables occur in the declaration at a node
abbrev pub declared_occurs : ℕ → List TDeclarator → List Occurrence
declared_occurs node list = one_behind_another (map (declarator_occurs node) list)

-- its last node, behind this one
abbrev pub declared_last : ℕ → List TDeclarator → ℕ
declared_last n list = last_behind n (map (λ (d : TDeclarator). init_last d.init) list)

-- where variables occur in the first part of the `for` at a node
abbrev pub first_occurs : ℕ → TFirst → List Occurrence
first_occurs node first.Nothing = []
first_occurs node (first.Value e) = occurs_in e
first_occurs node (first.Declare list) = declared_occurs node list

-- the variable v, where the first part of a `for` is `v = e` and e does not name v
abbrev pub first_sets : TFirst → Option ℕ
first_sets first.Nothing = None
first_sets (first.Value e) = sets e
first_sets (first.Declare list) = None

-- its last node; where it has none, the one before it
abbrev pub first_last : ℕ → TFirst → ℕ
first_last before first.Nothing = before
first_last before (first.Value e) = last_in e
first_last before (first.Declare list) = declared_last before list
