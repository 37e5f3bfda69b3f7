-- The element that a store of operands would write.
use Rattle.std.proofs.Common.{◌≡◌, List, ℤ, Option, Some, None, option_map, refl, sym, ap}
use Rattle.std.proofs.lemmas.Option.{same_Some}
use Rattle.k_mem.specs.declared.pointer.Pointer.{Pointer}
use Rattle.k_mem.specs.Memory.{Memory}
use Rattle.k_mem.specs.Calls.{store_of}
use Rattle.k_world.specs.declared.act.Act.TheVariants as act
use Rattle.k_world.specs.declared.value.Value.{Value}
use Rattle.k_world.specs.Acts.{touched, pointer_and_number, element_written, element_or_none}

module _ (values : List Value) (m : Memory) where
  -- a store to a pointer writes the element that it points to
  pub store_at : (p : Pointer) → Some p ≡ option_map (λ (s : Pointer × ℤ). s.0) (pointer_and_number values)
      → touched act.Store values m ≡ element_or_none (store_of m p)
  unfolding touched
  store_at p = go (pointer_and_number values)
    where
      go : (s : Option (Pointer × ℤ)) → Some p ≡ option_map (λ (x : Pointer × ℤ). x.0) s → element_written m s ≡ element_or_none (store_of m p)
      go None is = absurd (cc is)
      go (Some s) is = ap (λ (q : Pointer). element_or_none (store_of m q)) (sym (same_Some p s.0 is))

  -- and none without a pointer
  pub store_nowhere : None ≡ option_map (λ (s : Pointer × ℤ). s.0) (pointer_and_number values) → touched act.Store values m ≡ None
  unfolding touched
  store_nowhere = go (pointer_and_number values)
    where
      go : (s : Option (Pointer × ℤ)) → None ≡ option_map (λ (x : Pointer × ℤ). x.0) s → element_written m s ≡ None
      go None is = refl
      go (Some s) is = absurd (cc is)
