-- A path is read off from its end.
use Rattle.std.proofs.Common.{◌≡◌, ℕ, ◌-◌, ◌<◌, List, [], ◌∷◌, ◌++◌, length, Option, Some, None, sym, ◌∙◌, subst, ap, slice_get, get_or, reverse, append_assoc, append-nil}
use Rattle.std.proofs.lemmas.List.{reverse-append}
use Rattle.std.proofs.lemmas.Option.{slice_get-get_or}
use Rattle.k_graph.specs.Chains.{Traces, starts, follows}

-- what stands at a place, as a read gives it
pub read_at : {A : Type 0} (xs : List A) (k : ℕ) (d x : A) → k < length xs → get_or xs k d ≡ x → slice_get xs k ≡ Some x
read_at xs k d x within is = slice_get-get_or xs k d within ∙ ap Some is

reverse-push : (items : List ℕ) (node : ℕ) → reverse (items ++ node ∷ []) ≡ node ∷ reverse items
reverse-push items node = reverse-append items (node ∷ [])

module _ (start : ℕ) (befores : List (Option ℕ)) (last : ℕ) where
  pub trace_starts : (items nodes : List ℕ) → items ≡ [] → Traces start befores last nodes → Traces start befores last (nodes ++ reverse items)
  trace_starts items nodes none traces =
      subst (λ l. Traces start befores last l) (sym (ap (λ l. nodes ++ reverse l) none ∙ append-nil nodes)) traces

  module _ (node : ℕ) (items grown : List ℕ) (push : grown ≡ items ++ node ∷ [])
      (goes_on : (nodes : List ℕ) → Traces start befores node nodes → Traces start befores last (nodes ++ reverse items)) where
    pub trace_goes_on : (before : ℕ) → slice_get befores (node - start) ≡ Some (Some before) → (nodes : List ℕ) → Traces start befores before nodes
        → Traces start befores last (nodes ++ reverse grown)
    trace_goes_on before at nodes traces =
        let whole : (nodes ++ node ∷ []) ++ reverse items ≡ nodes ++ reverse grown =
        append_assoc nodes (node ∷ []) (reverse items) ∙ ap (λ l. nodes ++ l) (sym (ap reverse push ∙ reverse-push items node)) in
        subst (λ l. Traces start befores last l) whole (goes_on (nodes ++ node ∷ []) (follows before node nodes traces at))

    pub trace_ends : slice_get befores (node - start) ≡ Some None → Traces start befores last (reverse grown)
    trace_ends at =
        let whole : (node ∷ []) ++ reverse items ≡ reverse grown = sym (ap reverse push ∙ reverse-push items node) in
        subst (λ l. Traces start befores last l) whole (goes_on (node ∷ []) (starts node at))
