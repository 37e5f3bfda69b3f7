-- How many instructions a variable's object takes, whatever its number among those of the call.
use Rattle.std.proofs.Common.{ℕ, ◌≡◌, ◌+◌, List, [], ◌∷◌, refl, ap, arith}
use Rattle.k_types_meaning.specs.declared.tree.declaration.TDeclarator.{TDeclarator}
use Rattle.k_types_meaning.specs.declared.tree.declaration.TInit.{TInit}
use Rattle.k_types_meaning.specs.declared.tree.declaration.TInit.TheVariants as init
use Rattle.k_types_meaning.specs.declared.tree.declaration.TItem.{TItem}
use Rattle.k_types_meaning.specs.declared.tree.declaration.TItem.TheVariants as item
use Rattle.k_lower_code.specs.Declarations.{stores_item, stores_items, begins_object, makes_variable}
use Rattle.k_lower_code.specs.Stretches.{Inside}

module _ (w : Inside) where
  -- the size of what an object begins with is the same whatever its number
  item_size : (i : TItem) (a b : ℕ) → (stores_item w a i).size ≡ (stores_item w b i).size
  item_size (item.Bytes n bytes) a b = refl
  item_size (item.Value place n e) a b = refl

  items_size : (items : List TItem) (a b : ℕ) → (stores_items w a items).size ≡ (stores_items w b items).size
  items_size [] a b = refl
  items_size (i ∷ items) a b = (let one : (stores_item w a i).size ≡ (stores_item w b i).size = item_size i a b in (let rest : (stores_items w a items).size ≡ (stores_items w b items).size = items_size items a b in
      (let e : (stores_item w a i).size + (stores_items w a items).size ≡ (stores_item w b i).size + (stores_items w b items).size = omega (arith, one, rest) in e)))

  object_size : (d : TDeclarator) (i : TInit) (a b : ℕ) → (begins_object w d a i).size ≡ (begins_object w d b i).size
  object_size d init.Nothing a b = refl
  object_size d (init.Value e) a b = refl
  object_size d (init.Elements items) a b = ap (λ n. 1 + n) (items_size items a b)

  pub variable_size : (d : TDeclarator) (elements a b : ℕ) → (makes_variable w d elements a).size ≡ (makes_variable w d elements b).size
  variable_size d elements a b = ap (λ n. 1 + (1 + n)) (object_size d d.init a b)
