-- The conditions on events, as a loop finds them.
use Rattle.std.proofs.Common.{◌≡◌, ℕ, ◌+◌, ◌<◌, ◌≤◌, ◌^◌, inl, inr, List, [], ◌∷◌, length, drop, refl, sym, ◌∙◌, subst, ap, arith, get_or}
use Rattle.std.proofs.lemmas.Bool.{cases_lt}
use Rattle.std.proofs.lemmas.List.{drop_all}
use Rattle.std.proofs.lemmas.Option.{slice_get_within}
use Rattle.k_num.specs.declared.place.Place.{Place}
use Rattle.k_optab.specs.declared.class.Class.{Class}
use Rattle.k_optab.specs.declared.event.Src.{Src}
use Rattle.k_optab.specs.declared.event.Event.{Event}
use Rattle.k_optab.specs.declared.event.Event.TheVariants.{Op}
use Rattle.k_optab.specs.Events.{Operation, IsOperation, AreBefore, SourcesAreEarlier, operations, total_latency}
use Rattle.k_optab.proofs.Heaviest.{same_operation}
use Rattle.k_graph.proofs.Chaining.{event_at, operation_at, other_at, no_operation, all_made}

-- the operations before a place keep the conditions
pub record AreFit (events : List Event) (i made total : ℕ) : Type 0 where
  pub left : drop made (operations events) ≡ operations (drop i events)
  pub few : made ≤ i
  pub in_range : made ≤ length (operations events)
  pub sources : (k : ℕ) (op : Operation) → IsOperation (operations events) k op → k < made → AreBefore k op.sources
  pub whole : total + total_latency (operations (drop i events)) ≡ total_latency (operations events)
  pub small : total ≤ 2000

module _ (events : List Event) (i made total : ℕ) (is : AreFit events i made total) (event : Event) (within : i < length events) (here : event ≡ get_or events i event) where
  pub fit_operation : (class : Class) (latency : ℕ) (sources : List Src) (place : Place) → event ≡ Op class latency sources place → AreBefore made sources
      → total + latency ≤ 2000 → AreFit events (i + 1) (made + 1) (total + latency)
  fit_operation class latency sources place op before small =
      let at = operation_at (operations events) events i made event class latency sources place within here op is.left in
      let few = is.few in
      let shown : operations (drop i events) ≡ record { class = class; latency = latency; sources = sources; place = place } ∷ operations (drop (i + 1) events) =
      ap operations (event_at events i event within here) ∙ ap (λ x. operations (x ∷ drop (i + 1) events)) op in
      let sum : total_latency (operations (drop i events)) ≡ latency + total_latency (operations (drop (i + 1) events)) = ap total_latency shown in
      let whole = is.whole in
      record {
        left = at.1;
        few = omega arith;
        in_range = (let low : made < length (operations events) = slice_get_within (operations events) made _ at.0 in omega arith);
        sources = λ k other there less. elim (cases_lt k made) [
          | inl old ↦ is.sources k other there old
          | inr new ↦
              (let last : made ≡ k = omega arith in
              let same = same_operation (operations events) k (record { class = class; latency = latency; sources = sources; place = place }) other
              (subst (λ n. IsOperation (operations events) n (record { class = class; latency = latency; sources = sources; place = place })) last at.0) there in
              subst (λ (x : Operation). AreBefore k x.sources) same (subst (λ n. AreBefore n sources) last before))
        ];
        whole = omega arith;
        small = small;
      }

  pub fit_other : ((class : Class) (latency : ℕ) (sources : List Src) (place : Place) → event ≡ Op class latency sources place → ⊥) → AreFit events (i + 1) made total
  fit_other other =
      let few = is.few in
      let shown : operations (drop i events) ≡ operations (drop (i + 1) events) =
      ap operations (event_at events i event within here) ∙ no_operation event (drop (i + 1) events) other in
      record {
        left = other_at (operations events) events i made event within here other is.left;
        few = omega arith;
        in_range = is.in_range;
        sources = is.sources;
        whole = ap (λ l. total + total_latency l) (sym shown) ∙ is.whole;
        small = is.small;
      }

pub fit_start : (events : List Event) → AreFit events 0 0 0
fit_start events = record {
  left = refl;
  few = omega arith;
  in_range = omega arith;
  sources = λ k op there less. absurd (omega arith);
  whole = omega arith;
  small = omega arith;
}

module _ (events : List Event) (i made total : ℕ) (is : AreFit events i made total) (past : length events ≤ i) where
  none_left : operations (drop i events) ≡ []
  none_left = ap operations (drop_all i events past)

  pub fit_sources : SourcesAreEarlier (operations events)
  fit_sources k op there =
      let all : length (operations events) ≤ made = all_made (operations events) events i made past is.left in
      let within : k < length (operations events) = slice_get_within (operations events) k op there in
      is.sources k op there (omega arith)

  pub fit_count : made ≡ length (operations events)
  fit_count =
      let all : length (operations events) ≤ made = all_made (operations events) events i made past is.left in
      let in_range = is.in_range in
      omega arith

  pub fit_latencies : total_latency (operations events) < 2 ^ 62
  fit_latencies =
      let none : total_latency (operations (drop i events)) ≡ 0 = ap total_latency none_left in
      let whole = is.whole in
      let small = is.small in
      omega arith
