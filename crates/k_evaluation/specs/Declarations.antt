-- Believed with the theorem on the top call.
-- Declarations, and how a variable begins (C17 6.7, 6.7.9).
use Rattle.std.specs.Prelude.{ℕ, zero, suc, true, false, List, [], ◌∷◌, ◌++◌, slice_get, Option, Some, None}
use Rattle.k_num.specs.declared.initial.Initial.{Initial}
use Rattle.k_num.specs.declared.place.Place.{Place}
use Rattle.k_optab.specs.declared.class.Class.TheVariants as class
use Rattle.k_types_meaning.specs.declared.tree.expression.TExpr.{TExpr}
use Rattle.k_evaluation.specs.declared.operand.Target.{Target}
use Rattle.k_types_meaning.specs.declared.tree.declaration.TDeclarator.{TDeclarator}
use Rattle.k_types_meaning.specs.declared.tree.declaration.TInit.{TInit}
use Rattle.k_types_meaning.specs.declared.tree.declaration.TInit.TheVariants as init
use Rattle.k_types_meaning.specs.declared.tree.declaration.TItem.{TItem}
use Rattle.k_types_meaning.specs.declared.tree.declaration.TItem.TheVariants as item
use Rattle.k_types_meaning.specs.declared.tree.statement.TFirst.{TFirst}
use Rattle.k_types_meaning.specs.declared.tree.statement.TFirst.TheVariants as first
use Rattle.k_types_meaning.specs.declared.tree.unit.TVariable.{TVariable}
use Rattle.k_types_meaning.specs.Initialisers.{bytes_from}
use Rattle.k_mem.specs.declared.start.Start.TheVariants.{Unset}
use Rattle.k_world.specs.declared.act.Act.TheVariants as act
use Rattle.k_world.specs.declared.value.Held.{Held}
use Rattle.k_world.specs.declared.value.Value.{Value}
use Rattle.k_world.specs.declared.value.Value.TheVariants as value
use Rattle.k_evaluation.specs.declared.operand.Operand.{Operand}
use Rattle.k_evaluation.specs.declared.operand.Operand.TheVariants.{Constant}
use Rattle.k_evaluation.specs.declared.operand.Target.TheVariants.{InRegister, InMemory}
use Rattle.k_evaluation.specs.States.{Program, Part, ◌>>=◌, gives, computes, sets}
use Rattle.k_evaluation.specs.Objects.{makes_object, fills}
use Rattle.k_evaluation.specs.Assignments.{writes}
use Rattle.k_evaluation.specs.Flows.{Within, means, drops}

-- a variable is initialised at its declarator: a register by a move, memory by a store
abbrev pub initialises : Within → TDeclarator → TExpr → Target → Part (Unit {0})
initialises w d e target = (means w e).value true >>= λ a. writes w.program d.place target a >>= λ v. gives tt

-- A register begins unset, or by a move: until then it keeps what it holds.
abbrev pub begins_register : Within → TDeclarator → TInit → Part (Unit {0})
begins_register w d init.Nothing = sets d.variable None
begins_register w d (init.Value e) = initialises w d e (InRegister d.variable false)
begins_register w d (init.Elements items) = gives tt

-- C17 6.7.9p14: the numbers with which elements of an array begin without an operation: those that strings give
abbrev pub values_from : List TItem → List Initial
values_from [] = []
values_from (item.Bytes n bytes ∷ items) = bytes_from n bytes ++ values_from items
values_from (item.Value place n e ∷ items) = values_from items

-- a pointer to the element of this number, by that to the first
abbrev pub element_value : Value → ℕ → Value
element_value (value.Number z) n = value.Number z
element_value (value.Pointer p) n = value.Pointer (record p { offset = n })

-- the address of an element of an object, without an operation
abbrev pub element_of : Held → ℕ → Operand
element_of home n = Constant (element_value home.value n)

-- the store of an item
abbrev pub stores : Program → Place → Operand → Operand → Part (Unit {0})
stores program place address a = computes program class.Store place act.Store (address ∷ a ∷ []) >>= λ v. gives tt

-- an item of braces that is no string is stored, at its own place
abbrev pub stores_item : Within → Held → TItem → Part (Unit {0})
stores_item w home (item.Bytes n bytes) = gives tt
stores_item w home (item.Value place n e) = (means w e).value true >>= stores w.program place (element_of home n)

-- the items that are no strings, in text order
abbrev pub stores_items : Within → Held → List TItem → Part (Unit {0})
stores_items w home [] = gives tt
stores_items w home (i ∷ items) = stores_item w home i >>= λ done. stores_items w home items

-- AN OBJECT begins unset, by a store, or as an array: zeros and the strings' bytes without an operation, then a store for each other item.
abbrev pub begins_object : Within → TDeclarator → TInit → Held → Part (Unit {0})
begins_object w d init.Nothing home = gives tt
begins_object w d (init.Value e) home = initialises w d e (InMemory (Constant home.value))
begins_object w d (init.Elements items) home = fills home (values_from items) >>= λ done. stores_items w home items

-- a variable has its object from now on, which then begins
abbrev pub begins_variable : Within → TDeclarator → Held → Part (Unit {0})
begins_variable w d home = sets d.variable (Some home) >>= λ done. begins_object w d d.init home

-- a declared variable, by how many elements its object has: a register has none
abbrev pub declares_by : Within → TDeclarator → ℕ → Part (Unit {0})
declares_by w d zero = begins_register w d d.init
declares_by w d (suc n) = makes_object d.place Unset (suc n) >>= begins_variable w d

-- how many elements the object of a variable has
abbrev pub elements_of : Option TVariable → ℕ
elements_of None = 0
elements_of (Some v) = v.elements

-- A DECLARATOR (C17 6.2.4p6, 6.7.6)
unfoldable pub declares : Within → TDeclarator → Part (Unit {0})
declares w d = declares_by w d (elements_of (slice_get w.vars d.variable))

-- the declarators of a declaration, in their order
abbrev pub declares_all : Within → List TDeclarator → Part (Unit {0})
declares_all w [] = gives tt
declares_all w (d ∷ ds) = declares w d >>= λ done. declares_all w ds

-- the first part of a `for`
abbrev pub starts_with : Within → TFirst → Part (Unit {0})
starts_with w first.Nothing = gives tt
starts_with w (first.Value e) = drops w e
starts_with w (first.Declare list) = declares_all w list
