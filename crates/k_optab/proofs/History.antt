-- A longer history changes nothing of an interval within the shorter one.
use Rattle.std.proofs.Common.{◌≡◌, ℕ, zero, suc, ◌+◌, ◌-◌, ◌<◌, ◌≤◌, inl, inr, List, [], ◌∷◌, ◌++◌, length, Some, take, drop, refl, sym, ◌∙◌, ap, arith, slice_get}
use Rattle.std.proofs.lemmas.Bool.{cases_lt}
use Rattle.std.proofs.lemmas.List.{drop-append-le, take-append-le, length-drop}
use Rattle.k_optab.specs.Events.{Operation, total_latency}
use Rattle.k_optab.specs.Graph.{IsNode, Path, alone, joined, Heaviest, HeaviestTo, IsTime, work}

pub slice_get-append : {X : Type 0} (xs ys : List X) (k : ℕ) → k < length xs → slice_get (xs ++ ys) k ≡ slice_get xs k
slice_get-append [] ys k low = absurd (omega arith)
slice_get-append (x ∷ xs) ys zero low = refl
slice_get-append (x ∷ xs) ys (suc k) low = slice_get-append xs ys k (omega arith)

module _ (ops more : List Operation) where
  kept_node : (s e k : ℕ) (op : Operation) → e ≤ length ops → IsNode ops s e k op → IsNode (ops ++ more) s e k op
  kept_node s e k op within node =
      record {
        from_start = node.from_start;
        before_end = node.before_end;
        made = slice_get-append ops more k (omega (arith, node.before_end)) ∙ node.made;
      }

  lost_node : (s e k : ℕ) (op : Operation) → e ≤ length ops → IsNode (ops ++ more) s e k op → IsNode ops s e k op
  lost_node s e k op within node =
      record {
        from_start = node.from_start;
        before_end = node.before_end;
        made = sym (slice_get-append ops more k (omega (arith, node.before_end))) ∙ node.made;
      }

  pub longer_keeps_path : (s e k w : ℕ) (nodes : List ℕ) → e ≤ length ops → Path ops s e k w nodes → Path (ops ++ more) s e k w nodes
  longer_keeps_path s e _ _ _ within (alone k op node) = alone k op (kept_node s e k op within node)
  longer_keeps_path s e _ _ _ within (joined j w k nodes op path node listed) =
      joined j w k nodes op (longer_keeps_path s e j w nodes within path) (kept_node s e k op within node) listed

  pub shorter_keeps_path : (s e k w : ℕ) (nodes : List ℕ) → e ≤ length ops → Path (ops ++ more) s e k w nodes → Path ops s e k w nodes
  shorter_keeps_path s e _ _ _ within (alone k op node) = alone k op (lost_node s e k op within node)
  shorter_keeps_path s e _ _ _ within (joined j w k nodes op path node listed) =
      joined j w k nodes op (shorter_keeps_path s e j w nodes within path) (lost_node s e k op within node) listed

  pub longer_keeps_work : (s e : ℕ) → e ≤ length ops → work (ops ++ more) s e ≡ work ops s e
  longer_keeps_work s e within = elim (cases_lt s e) [
    | inl some ↦
        (let front : drop s (ops ++ more) ≡ drop s ops ++ more = drop-append-le s ops more (omega arith) in
        let size : length (drop s ops) ≡ length ops - s = length-drop s ops in
        let same : take (e - s) (drop s ops ++ more) ≡ take (e - s) (drop s ops) =
        take-append-le (e - s) (drop s ops) more (omega arith) in
        ap total_latency (ap (λ l. take (e - s) l) front ∙ same))
    | inr none ↦ (let empty : e - s ≡ 0 = omega arith in rw empty refl)
  ]

  pub longer_keeps_heaviest : (s e p : ℕ) → e ≤ length ops → Heaviest ops s e p → Heaviest (ops ++ more) s e p
  longer_keeps_heaviest s e p within most = record {
    reached = elim most.reached [
      | inl none ↦ inl none
      | inr some ↦ inr (some.0, (some.1.0, longer_keeps_path s e some.0 p some.1.0 within some.1.1))
    ];
    greatest = λ k w weighs. most.greatest k w (weighs.0, shorter_keeps_path s e k w weighs.0 within weighs.1);
  }

  pub shorter_keeps_heaviest : (s e p : ℕ) → e ≤ length ops → Heaviest (ops ++ more) s e p → Heaviest ops s e p
  shorter_keeps_heaviest s e p within most = record {
    reached = elim most.reached [
      | inl none ↦ inl none
      | inr some ↦ inr (some.0, (some.1.0, shorter_keeps_path s e some.0 p some.1.0 within some.1.1))
    ];
    greatest = λ k w weighs. most.greatest k w (weighs.0, longer_keeps_path s e k w weighs.0 within weighs.1);
  }

  pub longer_keeps_heaviest_to : (s k p : ℕ) → k < length ops → HeaviestTo ops s k p → HeaviestTo (ops ++ more) s k p
  longer_keeps_heaviest_to s k p within to = record {
    reached = (to.reached.0, longer_keeps_path s (k + 1) k p to.reached.0 (omega arith) to.reached.1);
    greatest = λ w weighs. to.greatest w (weighs.0, shorter_keeps_path s (k + 1) k w weighs.0 (omega arith) weighs.1);
  }

  pub shorter_keeps_heaviest_to : (s k p : ℕ) → k < length ops → HeaviestTo (ops ++ more) s k p → HeaviestTo ops s k p
  shorter_keeps_heaviest_to s k p within to = record {
    reached = (to.reached.0, shorter_keeps_path s (k + 1) k p to.reached.0 (omega arith) to.reached.1);
    greatest = λ w weighs. to.greatest w (weighs.0, longer_keeps_path s (k + 1) k w weighs.0 (omega arith) weighs.1);
  }

  pub longer_keeps_time : (s q t : ℕ) → q < length ops → IsTime ops s (Some q) t → IsTime (ops ++ more) s (Some q) t
  longer_keeps_time s q t within time = (time.0, λ from. longer_keeps_heaviest_to s q t within (time.1 from))

  pub shorter_keeps_time : (s q t : ℕ) → q < length ops → IsTime (ops ++ more) s (Some q) t → IsTime ops s (Some q) t
  shorter_keeps_time s q t within time = (time.0, λ from. shorter_keeps_heaviest_to s q t within (time.1 from))
