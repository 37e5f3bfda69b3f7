-- Each form of an initialiser, of an item of braces and of what may be left out is numbered where the expressions in it are.
use Rattle.std.proofs.Common.{ℕ, List, Some, None, refl, ap}
use Rattle.k_num.specs.declared.place.Place.{Place}
use Rattle.k_types_meaning.specs.declared.tree.declaration.TDeclarator.{TDeclarator}
use Rattle.k_types_meaning.specs.declared.tree.declaration.TInit.{TInit}
use Rattle.k_types_meaning.specs.declared.tree.declaration.TInit.TheVariants as begins
use Rattle.k_types_meaning.specs.declared.tree.declaration.TItem.{TItem}
use Rattle.k_types_meaning.specs.declared.tree.declaration.TItem.TheVariants as item
use Rattle.k_types_meaning.specs.declared.tree.expression.TExpr.{TExpr}
use Rattle.k_types_meaning.specs.declared.tree.statement.TFirst.TheVariants as first
use Rattle.k_types_numbers.specs.declared.counts.Counts.{Counts}
use Rattle.k_types_numbers.specs.Renumbering.{NumbersExpr, NumbersOption, NumbersItem, NumbersItems, NumbersInit, NumbersDeclarator, NumbersDeclared, NumbersFirst}
use Rattle.k_types_numbers.proofs.CountingLaws.{nothing_more}

-- no initialiser
pub init_nothing : (s : Counts) → NumbersInit begins.Nothing begins.Nothing s s
init_nothing s = record { same = refl; counted = nothing_more s }

-- a value
pub init_value : (a x : TExpr) (s t : Counts) → NumbersExpr a x s t → NumbersInit (begins.Value a) (begins.Value x) s t
init_value a x s t h = record { same = ap begins.Value h.same; counted = h.counted }

-- items of braces
pub init_elements : (as_ xs : List TItem) (s t : Counts) → NumbersItems as_ xs s t → NumbersInit (begins.Elements as_) (begins.Elements xs) s t
init_elements as_ xs s t h = record { same = ap begins.Elements h.same; counted = h.counted }

-- the bytes of a string
pub item_bytes : (n : ℕ) (bytes : List ℕ) (s : Counts) → NumbersItem (item.Bytes n bytes) (item.Bytes n bytes) s s
item_bytes n bytes s = record { same = refl; counted = nothing_more s }

-- a value in braces
pub item_value : (p : Place) (n : ℕ) (a x : TExpr) (s t : Counts) → NumbersExpr a x s t → NumbersItem (item.Value p n a) (item.Value p n x) s t
item_value p n a x s t h = record { same = ap (λ (e : TExpr). item.Value p n e) h.same; counted = h.counted }

-- a declared variable
pub declarator_numbered : (d : TDeclarator) (x : TInit) (s t : Counts) → NumbersInit d.init x s t → NumbersDeclarator d (record d { init = x }) s t
declarator_numbered d x s t h = record { same = ap (λ (i : TInit). record d { init = i }) h.same; counted = h.counted }

-- no expression
pub option_none : (s : Counts) → NumbersOption None None s s
option_none s = record { same = refl; counted = nothing_more s }

-- an expression
pub option_some : (a x : TExpr) (s t : Counts) → NumbersExpr a x s t → NumbersOption (Some a) (Some x) s t
option_some a x s t h = record { same = ap (λ (e : TExpr). Some e) h.same; counted = h.counted }

-- no first part
pub first_nothing : (s : Counts) → NumbersFirst first.Nothing first.Nothing s s
first_nothing s = record { same = refl; counted = nothing_more s }

-- an expression as the first part
pub first_value : (a x : TExpr) (s t : Counts) → NumbersExpr a x s t → NumbersFirst (first.Value a) (first.Value x) s t
first_value a x s t h = record { same = ap first.Value h.same; counted = h.counted }

-- declared variables as the first part
pub first_declare : (ds xs : List TDeclarator) (s t : Counts) → NumbersDeclared ds xs s t → NumbersFirst (first.Declare ds) (first.Declare xs) s t
first_declare ds xs s t h = record { same = ap first.Declare h.same; counted = h.counted }
