-- Operands that are handed to parameters while the operation's times stand in lanes.
use Rattle.std.proofs.Common.{◌≡◌, ℕ, ◌+◌, ◌-◌, ◌^◌, ◌<◌, zero, suc, ℤ, Bool, true, false, List, [], ◌∷◌, length, take, map, replicate, refl, ap, sym, subst, ◌∙◌, arith}
use Rattle.std.specs.Prelude.{if◌then◌else◌}
use Rattle.std.proofs.lemmas.List.{length-map}
use Rattle.k_code.specs.declared.instruction.Arg.{Arg}
use Rattle.k_code.specs.declared.instruction.Arg.TheVariants.{Number, Reg}
use Rattle.k_shadow.specs.Content.{Content, at_levels, cleared, depth, set_times, without, written_by}
use Rattle.k_shadow.specs.Stack.{Stack}
use Rattle.k_shadow.proofs.Laws.{depth_cleared, depth_written}
use Rattle.k_shadow.proofs.Levels.{get_or-at_levels, length-at_levels}
use Rattle.k_hcpa_meaning.specs.Calls.{arguments_handed}
use Rattle.k_hcpa_meaning.specs.Timings.{Timing, Register, after, later, raised, registers_cleared, settled, times_at}
use Rattle.k_hcpa_times.specs.AtOnce.{at_once}
use Rattle.k_hcpa_times.specs.Lanes.{AreHanded, Holds, Laid, with_lanes}
use Rattle.k_hcpa_times.specs.Seen.{AreBelow, NoLevelAbove, NoneAbove, Seen, made, seen_of}
use Rattle.k_hcpa_times.proofs.Args.{one_handed}
use Rattle.k_hcpa_times.proofs.Lists.{later-zeros, zeros_are}
use Rattle.k_hcpa_times.proofs.Within.{none_cleared, none_later, none_set, none_there}

-- lanes that are the later ones of none and of a location
pub lanes_read : (n from : ℕ) (times none : ℕ → ℕ) (ls : List (ℕ → ℕ)) → length ls ≡ n → ((k : ℕ) → k < n → none k ≡ 0)
    → at_levels n times ≡ later (at_levels n none) (map (λ level. level from) ls) → at_levels n times ≡ map (λ level. level from) ls
lanes_read n from times none ls as_many each raises =
    let f : (ℕ → ℕ) → ℕ = λ level. level from in
    let long : length (map f ls) ≡ n = length-map ls f ∙ as_many in
    let zeros : at_levels n none ≡ replicate n 0 = zeros_are (at_levels n none) n (length-at_levels n none) (λ k lt. get_or-at_levels n none k lt ∙ each k lt) in
    raises
    ∙ ap (λ xs. later xs (map f ls)) (zeros ∙ ap (λ k. replicate k 0) (sym long))
    ∙ later-zeros (map f ls)

-- no operation gave a constant
pub number_handed : (first to : ℕ) (number : ℤ) (old new : Content) (before : ℕ → ℕ) → new ≡ cleared to 1 old → AreHanded first to 1 (Number number ∷ []) old before new before
number_handed first to number old new before is = record {
  entries = ap (λ (c : Content). c.entries) is;
  limit = ap (λ (c : Content). c.limit) is;
  levels = ap (λ (c : Content). depth c) is ∙ depth_cleared to 1 old;
  handed = λ t held waits.
      let regs : map (without to 1) t.registers ≡ new.levels = ap (λ ls. map (without to 1) ls) held ∙ sym (ap (λ (c : Content). c.levels) is) in
      λ i. record t { registers = regs i; row = waits i };
}

-- a register holds what another one holds, and the operation depends on that unless the dependence is broken
pub register_handed : (first to r : ℕ) (broken : Bool) (old new : Content) (before times behind : ℕ → ℕ) → new ≡ written_by to times old
    → at_levels (depth old) times ≡ map (λ level. level (first + r)) old.levels
    → at_levels (depth old) behind ≡ (if broken then at_levels (depth old) before else later (at_levels (depth old) before) (at_levels (depth old) times))
    → AreHanded first to 1 (Reg r broken ∷ []) old before new behind
unfolding times_at
register_handed first to r broken old new before times behind is reads raises = record {
  entries = ap (λ (c : Content). c.entries) is;
  limit = ap (λ (c : Content). c.limit) is;
  levels = ap (λ (c : Content). depth c) is ∙ depth_written to (at_levels (depth old) times) old;
  handed = λ t held waits. by broken t held waits raises;
}
  where
    at : List (ℕ → ℕ) → List ℕ
    at ls = map (λ level. level (first + r)) ls

    by : (b : Bool) (t : Timing) → t.registers ≡ old.levels → t.row ≡ at_levels (depth old) before
        → at_levels (depth old) behind ≡ (if b then at_levels (depth old) before else later (at_levels (depth old) before) (at_levels (depth old) times))
        → arguments_handed first to 1 (Reg r b ∷ []) t ≡ record t { registers = new.levels; row = at_levels (depth old) behind }
    by true t held waits same =
        let regs : set_times to (at t.registers) t.registers ≡ new.levels
        = (λ i. set_times to (at (held i)) (held i)) ∙ ap (λ xs. set_times to xs old.levels) (sym reads) ∙ sym (ap (λ (c : Content). c.levels) is) in
        let row : t.row ≡ at_levels (depth old) behind = waits ∙ sym same in
        λ i. record t { registers = regs i; row = row i }
    by false t held waits same =
        let regs : set_times to (at t.registers) t.registers ≡ new.levels
        = (λ i. set_times to (at (held i)) (held i)) ∙ ap (λ xs. set_times to xs old.levels) (sym reads) ∙ sym (ap (λ (c : Content). c.levels) is) in
        let row : later t.row (at t.registers) ≡ at_levels (depth old) behind
        = (λ i. later (waits i) (at (held i))) ∙ ap (λ xs. later (at_levels (depth old) before) xs) (sym reads) ∙ sym same in
        λ i. record t { registers = regs i; row = row i }

-- no register comes to have a time above what was reached
handed_levels : (reach first to n : ℕ) (args : List Arg) (t : Timing) → NoLevelAbove reach t.registers → NoLevelAbove reach (arguments_handed first to n args t).registers
unfolding times_at
handed_levels reach first to zero [] t held = held
handed_levels reach first to zero (Number a ∷ args) t held = handed_levels reach first to zero args t held
handed_levels reach first to zero (Reg r true ∷ args) t held = handed_levels reach first to zero args t held
handed_levels reach first to zero (Reg r false ∷ args) t held = handed_levels reach first to zero args (raised (Register (first + r)) t) held
handed_levels reach first to (suc n) [] t held = held
handed_levels reach first to (suc n) (Number a ∷ args) t held =
    let c : Content = record { levels = t.registers; entries = 0; limit = 0 } in
    handed_levels reach first (to + 1) n args (registers_cleared to 1 t) (none_cleared reach to 1 c (cleared to 1 c) refl held)
handed_levels reach first to (suc n) (Reg r true ∷ args) t held =
    let xs : List ℕ = map (λ level. level (first + r)) t.registers in
    handed_levels reach first (to + 1) n args (record t { registers = set_times to xs t.registers }) (none_set reach to xs t.registers (none_there reach (first + r) t.registers held) held)
handed_levels reach first to (suc n) (Reg r false ∷ args) t held =
    let xs : List ℕ = map (λ level. level (first + r)) t.registers in
    handed_levels reach first (to + 1) n args (record t { registers = set_times to xs t.registers; row = later t.row xs })
    (none_set reach to xs t.registers (none_there reach (first + r) t.registers held) held)

-- nor does the operation wait for such a time
handed_row : (reach first to n : ℕ) (args : List Arg) (t : Timing) → NoLevelAbove reach t.registers → NoneAbove reach t.row → NoneAbove reach (arguments_handed first to n args t).row
unfolding times_at
handed_row reach first to zero [] t held up = up
handed_row reach first to zero (Number a ∷ args) t held up = handed_row reach first to zero args t held up
handed_row reach first to zero (Reg r true ∷ args) t held up = handed_row reach first to zero args t held up
handed_row reach first to zero (Reg r false ∷ args) t held up =
    let xs : List ℕ = map (λ level. level (first + r)) t.registers in
    handed_row reach first to zero args (record t { row = later t.row xs }) held (none_later reach t.row xs up (none_there reach (first + r) t.registers held))
handed_row reach first to (suc n) [] t held up = up
handed_row reach first to (suc n) (Number a ∷ args) t held up =
    let c : Content = record { levels = t.registers; entries = 0; limit = 0 } in
    handed_row reach first (to + 1) n args (registers_cleared to 1 t) (none_cleared reach to 1 c (cleared to 1 c) refl held) up
handed_row reach first to (suc n) (Reg r true ∷ args) t held up =
    let xs : List ℕ = map (λ level. level (first + r)) t.registers in
    handed_row reach first (to + 1) n args (record t { registers = set_times to xs t.registers }) (none_set reach to xs t.registers (none_there reach (first + r) t.registers held) held) up
handed_row reach first to (suc n) (Reg r false ∷ args) t held up =
    let xs : List ℕ = map (λ level. level (first + r)) t.registers in
    let there : NoneAbove reach xs = none_there reach (first + r) t.registers held in
    handed_row reach first (to + 1) n args (record t { registers = set_times to xs t.registers; row = later t.row xs }) (none_set reach to xs t.registers there held)
    (none_later reach t.row xs up there)

module _ (first to count : ℕ) (args : List Arg) (old new : Content) (before behind : ℕ → ℕ) (is : AreHanded first to count args old before new behind) where
  -- times of these registers alone
  abbrev alone : Timing
  alone = record {
    registers = old.levels;
    elements = [];
    control = [];
    saved = [];
    in_cell = [];
    out_cell = [];
    row = at_levels (depth old) before;
    paths = [];
  }

  pub levels_within : (reach : ℕ) → NoLevelAbove reach old.levels → NoLevelAbove reach new.levels
  levels_within reach held = subst (λ (u : Timing). NoLevelAbove reach u.registers) (is.handed alone refl refl) (handed_levels reach first to count args alone held)

  pub row_within : (reach : ℕ) → NoLevelAbove reach old.levels → NoneAbove reach (at_levels (depth old) before) → NoneAbove reach (at_levels (depth old) behind)
  row_within reach held up = subst (λ (u : Timing). NoneAbove reach u.row) (is.handed alone refl refl) (handed_row reach first to count args alone held up)

  pub holds_handed : (lanes : ℕ) → Holds lanes old → Holds lanes new
  holds_handed lanes h =
      let same = is.levels in
      let shallow = h.shallow in
      record {
        most = h.most;
        shallow = omega (arith, same, shallow);
        few = subst (λ n. n < 2 ^ 32) (sym is.entries) h.few;
        small = levels_within 4294967295 h.small;
      }

-- what is left to be handed from here is what all came to from the start
abbrev pub LeavesToHand : ℕ → ℕ → ℕ → ℕ → List Arg → List Arg → Content → (ℕ → ℕ) → Content → (ℕ → ℕ) → Type 0
LeavesToHand first to given count args rest old before now waits =
    (t : Timing) → t.registers ≡ old.levels → t.row ≡ at_levels (depth old) before
    → arguments_handed first to count args t ≡ arguments_handed first (to + given) (count - given) rest (record t { registers = now.levels; row = at_levels (depth old) waits })

pub left_at_first : (first to count : ℕ) (args : List Arg) (old : Content) (before : ℕ → ℕ) → LeavesToHand first to 0 count args args old before old before
left_at_first first to count args old before t held waits =
    let none : to + 0 ≡ to = omega arith in
    let all : count - 0 ≡ count = omega arith in
    sym (λ i. arguments_handed first (none i) (all i) args (record t { registers = (sym held) i; row = (sym waits) i }))

pub left_further : (first to given count : ℕ) (a : Arg) (args rest whole : List Arg) (old now next : Content) (before waits behind : ℕ → ℕ) → given < count → whole ≡ a ∷ rest
    → depth now ≡ depth old → AreHanded first (to + given) 1 (a ∷ []) now waits next behind → LeavesToHand first to given count args whole old before now waits
    → LeavesToHand first to (given + 1) count args rest old before next behind
left_further first to given count a args rest whole old now next before waits behind lt same live step reached t held first_waits =
    let n = count - (given + 1) in
    let more : count - given ≡ suc n = omega arith in
    let further : to + (given + 1) ≡ to + given + 1 = omega arith in
    let u : Timing = record t { registers = now.levels; row = at_levels (depth old) waits } in
    let one : arguments_handed first (to + given) 1 (a ∷ []) u ≡ record t { registers = next.levels; row = at_levels (depth old) behind }
    = step.handed u refl (ap (λ k. at_levels k waits) (sym live)) ∙ (λ i. record t { registers = next.levels; row = at_levels (live i) behind }) in
    reached t held first_waits
    ∙ (λ i. arguments_handed first (to + given) (more i) (same i) u)
    ∙ sym (one_handed first (to + given) n a rest u)
    ∙ ap (λ (v : Timing). arguments_handed first (to + given + 1) n rest v) one
    ∙ sym (ap (λ m. arguments_handed first m n rest (record t { registers = next.levels; row = at_levels (depth old) behind })) further)

none_handed : (first to n : ℕ) (t : Timing) → arguments_handed first to n [] t ≡ t
none_handed first to zero t = refl
none_handed first to (suc n) t = refl

none_left : (rest : List Arg) → length rest ≡ 0 → rest ≡ []
none_left [] none = refl
none_left (a ∷ rest) none = absurd (omega (arith, none))

pub left_none : (first to given count : ℕ) (args rest : List Arg) (old now : Content) (before waits : ℕ → ℕ) → length rest ≡ 0 → now.entries ≡ old.entries → now.limit ≡ old.limit
    → depth now ≡ depth old → LeavesToHand first to given count args rest old before now waits → AreHanded first to count args old before now waits
left_none first to given count args rest old now before waits none entries limit live reached = record {
  entries = entries;
  limit = limit;
  levels = live;
  handed = λ t held first_waits.
      let u : Timing = record t { registers = now.levels; row = at_levels (depth old) waits } in
      reached t held first_waits
      ∙ ap (λ (left : List Arg). arguments_handed first (to + given) (count - given) left u) (none_left rest none)
      ∙ none_handed first (to + given) (count - given) u;
}

-- the operands that are left are below the limit
below_rest : (first limit : ℕ) (a : Arg) (rest : List Arg) → AreBelow first limit (a ∷ rest) → AreBelow first limit rest
below_rest first limit (Number n) rest below = below
below_rest first limit (Reg r broken) rest below = below.2

pub still_below : (first limit more : ℕ) (a : Arg) (rest whole : List Arg) → whole ≡ a ∷ rest → more ≡ limit → AreBelow first limit whole → AreBelow first more rest
still_below first limit more a rest whole same is below =
    subst (λ n. AreBelow first n rest) (sym is) (below_rest first limit a rest (subst (λ all. AreBelow first limit all) same below))

-- its operation is later by the latency, and raises paths
pub settled_is : (latency : ℕ) (t u : Timing) (registers : List (ℕ → ℕ)) (waits row old paths : List ℕ) → u ≡ record t { registers = registers; row = waits }
    → row ≡ after latency waits → t.paths ≡ old → paths ≡ later old row → settled latency u ≡ record t { registers = registers; row = row; paths = paths }
settled_is latency t u registers waits row old paths is later_by same raises =
    let each : later t.paths (after latency waits) ≡ paths = ap (λ ps. later ps (after latency waits)) same ∙ ap (λ r. later old r) (sym later_by) ∙ sym raises in
    ap (λ (v : Timing). settled latency v) is ∙ (λ i. record t { registers = registers; row = sym later_by i; paths = each i })

-- what is made of as many levels
abbrev IsMadeOf : (Timing → Timing) → Timing → List (ℕ → ℕ) → (ℕ → ℕ) → Laid → Laid → ℕ → Type 0
IsMadeOf change t registers times old new n =
    t.control ≡ take n old.control → t.paths ≡ take n old.paths → change t ≡ record t { registers = registers; row = at_levels n times; paths = take n new.paths }

-- registers were given times, and the paths are those that lanes have
pub registers_changed : (c d e : Content) (s : Stack) (i o w p : List ℕ) (old new : Laid) (change : Timing → Timing) (times : ℕ → ℕ) → depth c ≡ length p
    → d.entries ≡ c.entries → d.limit ≡ c.limit → new.control ≡ old.control
    → IsMadeOf change (let all = with_lanes old (seen_of c e s i o w p) in all.timing) d.levels times old new (depth c)
    → with_lanes new (seen_of d e s i o w p) ≡ made (at_once change) (with_lanes old (seen_of c e s i o w p))
registers_changed c d e s i o w p old new change times live entries limit same makes =
    let n = length p in
    let x : Seen = with_lanes old (seen_of c e s i o w p) in
    let is : change x.timing ≡ record x.timing { registers = d.levels; row = at_levels n times; paths = take n new.paths }
    = subst (IsMadeOf change x.timing d.levels times old new) live makes refl refl in
    (λ j. record {
      timing = record {
        registers = d.levels;
        elements = e.levels;
        control = take n (same j);
        saved = s.saved;
        in_cell = i;
        out_cell = o;
        row = w;
        paths = take n new.paths;
      };
      entries = entries j;
      registers = limit j;
      elements = e.limit;
    })
    ∙ sym (ap (λ (v : Timing). made (λ t. record v { row = t.row }) x) is)
