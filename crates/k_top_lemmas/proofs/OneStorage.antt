-- A run has one list of storage pairs.
use Rattle.std.proofs.Common.{ℕ, ◌≡◌, ◌∙◌, ◌&&◌, not, Bool, true, false, List, Option, Some, None, filter, slice_get, ap, refl, sym}
use Rattle.k_regions.specs.Regions.{regions_of}
use Rattle.k_carry_pairs.specs.declared.pairs.LoopPairs.{LoopPairs}
use Rattle.k_carry_storage_pairs.specs.Deep.{AreDeep}
use Rattle.k_carry_storage_pairs.specs.declared.pairs.LoopStorage.{LoopStorage}
use Rattle.k_carry_storage_pairs.proofs.Answer.{one_answer}
use Rattle.k_carry_storage_text.specs.Lines.{storage_text}
use Rattle.k_pragma_profile.specs.Strict.{is_deep, is_set, is_shared, strictly_markable}
use Rattle.k_top_answers.specs.Steps.{Running, run_of}
use Rattle.k_top_answers.specs.Storage.{HasStorage, MayBeMarked, WritesStorage, accesses_of}

module _ (r : Running) (depth : ℕ) where
  pub one_storage : (a b : List LoopStorage) → HasStorage r depth a → HasStorage r depth b → a ≡ b
  one_storage a b x y = one_answer (regions_of r.typed) depth (run_of r).events (accesses_of r) a b x y

  -- so one text is written of them
  pub one_written : (storage : Bool) (a b : List ℕ) → WritesStorage storage r depth a → WritesStorage storage r depth b → a ≡ b
  one_written false a b x y = x ∙ sym y
  one_written true a b (s, x, is) (t, y, so) =
      is ∙ (ap (λ (shared : List LoopStorage). storage_text (regions_of r.typed) shared) (one_storage s t x y) ∙ sym so)

  -- the flags of the regions with a deep instance say one thing of each region
  one_deep : (a b : List Bool) → AreDeep depth (run_of r).events a → AreDeep depth (run_of r).events b → (region : ℕ) → is_deep a region ≡ is_deep b region
  one_deep a b x y region =
      both (is_deep a region) (is_deep b region)
      (λ is. ap is_set (y.complete region (x.sound region (set_some (slice_get a region) is))))
      (λ is. ap is_set (x.complete region (y.sound region (set_some (slice_get b region) is))))
    where
      set_some : (o : Option Bool) → is_set o ≡ true → o ≡ Some true
      set_some None is = absurd (cc is)
      set_some (Some flag) is = ap (λ (f : Bool). Some f) is

      both : (p q : Bool) → (p ≡ true → q ≡ true) → (q ≡ true → p ≡ true) → p ≡ q
      both true q on back = sym (on refl)
      both false true on back = back refl
      both false false on back = refl

  one_markable : (a b : List Bool) → AreDeep depth (run_of r).events a → AreDeep depth (run_of r).events b → (shared : List LoopStorage) (loops : List LoopPairs)
      → strictly_markable a shared loops ≡ strictly_markable b shared loops
  unfolding strictly_markable
  one_markable a b x y shared loops =
      let same : (region : ℕ) → is_deep a region ≡ is_deep b region = one_deep a b x y in
      (λ i. filter (λ (l : LoopPairs). not (is_shared shared l.region) && not (same l.region i)) loops)

  pub one_marked : (strict : Bool) (loops a b : List LoopPairs) → MayBeMarked strict r depth loops a → MayBeMarked strict r depth loops b → a ≡ b
  one_marked false loops a b x y = x ∙ sym y
  one_marked true loops a b (s, x, (d, deep, is)) (t, y, (e, flags, so)) =
      is
      ∙ (ap (λ (shared : List LoopStorage). strictly_markable d shared loops) (one_storage s t x y)
      ∙ (one_markable d e deep flags t loops ∙ sym so))
