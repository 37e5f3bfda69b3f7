-- The times of all locations with lanes, once an operation was made in these.
use Rattle.std.proofs.Common.{◌≡◌, ℕ, ◌+◌, ◌%◌, ◌^◌, ◌<◌, ◌≤◌, zero, suc, List, [], ◌∷◌, ◌++◌, length, take, map, refl, ap, sym, subst, ◌∙◌, arith}
use Rattle.std.proofs.lemmas.List.Elements.{All-map, All-weaker}
use Rattle.k_shadow.specs.Content.{Content, at_levels, written, written_by}
use Rattle.k_shadow.specs.Stack.{Stack}
use Rattle.k_hcpa_meaning.specs.Timings.{Timing, Location, Register, Element, Control, after, begun, given_to, later, operated, raised_all, times_at}
use Rattle.k_hcpa_times.specs.Seen.{NoLevelAbove, NoneAbove, Seen, levels, made, seen_of}
use Rattle.k_hcpa_times.specs.AtOnce.{at_once}
use Rattle.k_hcpa_times.specs.Lanes.{Laid, registers_from, with_lanes}
use Rattle.k_hcpa_times.proofs.InLanes.{none_waits, raised_more}
use Rattle.k_hcpa_times.proofs.Within.{none_later, none_same, none_there}

-- what is said of a time
abbrev IsUpTo : ℕ → ℕ → Type 0
IsUpTo reach time = time ≤ reach

-- what an operation is of as many levels
pub operated_at : (locations : List Location) (latency : ℕ) (t : Timing) (control paths raised : List ℕ) (times : ℕ → ℕ) (m n : ℕ) → m ≡ n
    → (t.control ≡ take m control → t.paths ≡ take m paths → operated locations latency t ≡ record t { row = at_levels m times; paths = take m raised })
    → t.control ≡ take n control → t.paths ≡ take n paths → operated locations latency t ≡ record t { row = at_levels n times; paths = take n raised }
operated_at locations latency t control paths raised times m n same is =
    subst (λ (k : ℕ). t.control ≡ take k control → t.paths ≡ take k paths → operated locations latency t ≡ record t { row = at_levels k times; paths = take k raised }) same is

-- none of its times is above what was reached and the latency
later_up : (reach latency : ℕ) (waits : List ℕ) → reach + latency < 2 ^ 32 → NoneAbove reach waits → NoneAbove (reach + latency) (after latency waits)
later_up reach latency waits fits up =
    let f : ℕ → ℕ = λ time. (time + latency) % 2 ^ 64 in
    All-map (IsUpTo (reach + latency)) f waits (All-weaker (IsUpTo reach) (λ time. f time ≤ reach + latency) (λ time h. omega arith) waits up)

pub none_operated : (reach latency n left right : ℕ) (t : Timing) (row paths : List ℕ) → operated (registers_from n left right) latency t ≡ record t { row = row; paths = paths }
    → NoneAbove reach t.control → NoLevelAbove reach t.registers → reach + latency < 2 ^ 32 → NoneAbove (reach + latency) row
none_operated reach latency n left right t row paths is waits held fits =
    none_same (reach + latency) row _ (sym (ap (λ (u : Timing). u.row) is))
    (later_up reach latency (raised_all (registers_from n left right) (begun t)).row fits (none_waits reach n left right (begun t) waits held))

-- raising changes no element
elements_raised : (n left right : ℕ) (t : Timing) → (raised_all (registers_from n left right) t).elements ≡ t.elements
elements_raised zero left right t = refl
elements_raised (suc zero) left right t = refl
elements_raised (suc (suc n)) left right t = refl

loaded_row : (locations : List Location) (element : ℕ) (t : Timing) → (raised_all (locations ++ Element element ∷ []) t).row
    ≡ later (raised_all locations t).row (map (λ level. level element) (raised_all locations t).elements)
unfolding times_at
loaded_row locations element t = ap (λ (u : Timing). u.row) (raised_more locations (Element element) t)

pub none_loaded : (reach latency n left right element : ℕ) (t : Timing) (row paths : List ℕ)
    → operated (registers_from n left right ++ Element element ∷ []) latency t ≡ record t { row = row; paths = paths }
    → NoneAbove reach t.control → NoLevelAbove reach t.registers → NoLevelAbove reach t.elements → reach + latency < 2 ^ 32 → NoneAbove (reach + latency) row
none_loaded reach latency n left right element t row paths is waits held stored fits =
    let first : List Location = registers_from n left right in
    let all : List Location = first ++ Element element ∷ [] in
    let waited : List ℕ = (raised_all all (begun t)).row in
    let before : List ℕ = (raised_all first (begun t)).row in
    let at : List (ℕ → ℕ) → List ℕ = λ ls. map (λ level. level element) ls in
    let up : NoneAbove reach waited = none_same reach waited (later before (at t.elements))
    (loaded_row first element (begun t) ∙ ap (λ ls. later before (at ls)) (elements_raised n left right (begun t)))
    (none_later reach before (at t.elements) (none_waits reach n left right (begun t) waits held) (none_there reach element t.elements stored)) in
    none_same (reach + latency) row (after latency waited) (sym (ap (λ (u : Timing). u.row) is)) (later_up reach latency waited fits up)

-- a location was given the times of lanes
pub content_given : (to count : ℕ) (times : ℕ → ℕ) (c d e : Content) → d ≡ c → length c.levels ≡ count → e ≡ written_by to times d → e ≡ written to (at_levels count times) c
content_given to count times c d e same counts is =
    is ∙ ap (λ (x : Content). written_by to times x) same ∙ ap (λ k. written to (at_levels k times) c) counts

-- a register holds what the operation gave
pub register_given : (c d e : Content) (s : Stack) (i o w p : List ℕ) (old new : Laid) (locations : List Location) (latency to : ℕ) (times : ℕ → ℕ)
    → d ≡ written to (at_levels (length p) times) c → new.control ≡ old.control
    → operated locations latency (with_lanes old (seen_of c e s i o w p)).timing ≡ record (with_lanes old (seen_of c e s i o w p)).timing { row = at_levels (length p) times; paths = take (length p) new.paths }
    → with_lanes new (seen_of d e s i o w p) ≡ made (at_once (λ t. given_to (Register to) (operated locations latency t))) (with_lanes old (seen_of c e s i o w p))
unfolding given_to
register_given c d e s i o w p old new locations latency to times is same op =
    let n = length p in
    let a : Content = written to (at_levels n times) c in
    ap (λ (x : Content). with_lanes new (seen_of x e s i o w p)) is
    ∙ (λ j. record {
      timing = record {
        registers = a.levels;
        elements = e.levels;
        control = take n (same j);
        saved = s.saved;
        in_cell = i;
        out_cell = o;
        row = w;
        paths = take n new.paths;
      };
      entries = c.entries;
      registers = c.limit;
      elements = e.limit;
    })
    ∙ sym (ap (λ (u : Timing). made (λ t. record (given_to (Register to) u) { row = t.row }) (with_lanes old (seen_of c e s i o w p))) op)

-- an element holds it
pub element_given : (c d e : Content) (s : Stack) (i o w p : List ℕ) (old new : Laid) (locations : List Location) (latency to : ℕ) (times : ℕ → ℕ)
    → d ≡ written to (at_levels (length p) times) e → new.control ≡ old.control
    → operated locations latency (with_lanes old (seen_of c e s i o w p)).timing ≡ record (with_lanes old (seen_of c e s i o w p)).timing { row = at_levels (length p) times; paths = take (length p) new.paths }
    → with_lanes new (seen_of c d s i o w p) ≡ made (at_once (λ t. given_to (Element to) (operated locations latency t))) (with_lanes old (seen_of c e s i o w p))
unfolding given_to
element_given c d e s i o w p old new locations latency to times is same op =
    let n = length p in
    let a : Content = written to (at_levels n times) e in
    ap (λ (x : Content). with_lanes new (seen_of c x s i o w p)) is
    ∙ (λ j. record {
      timing = record {
        registers = c.levels;
        elements = a.levels;
        control = take n (same j);
        saved = s.saved;
        in_cell = i;
        out_cell = o;
        row = w;
        paths = take n new.paths;
      };
      entries = c.entries;
      registers = c.limit;
      elements = e.limit;
    })
    ∙ sym (ap (λ (u : Timing). made (λ t. record (given_to (Element to) u) { row = t.row }) (with_lanes old (seen_of c e s i o w p))) op)

-- the control source has it
pub control_given : (c e : Content) (s : Stack) (i o w p : List ℕ) (old new : Laid) (locations : List Location) (latency : ℕ) (times : ℕ → ℕ)
    → take (length p) new.control ≡ at_levels (length p) times
    → operated locations latency (with_lanes old (seen_of c e s i o w p)).timing ≡ record (with_lanes old (seen_of c e s i o w p)).timing { row = at_levels (length p) times; paths = take (length p) new.paths }
    → with_lanes new (seen_of c e s i o w p) ≡ made (at_once (λ t. given_to Control (operated locations latency t))) (with_lanes old (seen_of c e s i o w p))
unfolding given_to
control_given c e s i o w p old new locations latency times same op =
    let n = length p in
    (λ j. record {
      timing = record {
        registers = c.levels;
        elements = e.levels;
        control = same j;
        saved = s.saved;
        in_cell = i;
        out_cell = o;
        row = w;
        paths = take n new.paths;
      };
      entries = c.entries;
      registers = c.limit;
      elements = e.limit;
    })
    ∙ sym (ap (λ (u : Timing). made (λ t. record (given_to Control u) { row = t.row }) (with_lanes old (seen_of c e s i o w p))) op)

-- lanes of what is kept
pub lanes_are : (s : Seen) (l : Laid) → take (levels s) l.control ≡ s.timing.control → take (levels s) l.paths ≡ s.timing.paths → with_lanes l s ≡ s
lanes_are s l control paths = λ j. record s { timing = record s.timing { control = control j; paths = paths j } }
