-- A `switch`: its cases, the jump to its default, and its statements.
use Rattle.std.proofs.Common.{ℕ, zero, suc, ◌≡◌, ◌+◌, ◌<◌, ◌≤◌, false, List, [], ◌∷◌, ◌++◌, None, refl, sym, subst, ◌∙◌, arith}
use Rattle.k_num.specs.declared.numbers.Bin.TheVariants.{Eq}
use Rattle.k_num.specs.declared.numbers.Kind.{Kind}
use Rattle.k_num.specs.declared.place.Place.{Place}
use Rattle.k_optab.specs.declared.class.Class.TheVariants as class
use Rattle.k_code.specs.declared.balance.Balance.{Balance}
use Rattle.k_code.specs.declared.code.Code.{Code}
use Rattle.k_code.specs.declared.instruction.Arg.{Arg}
use Rattle.k_code.specs.declared.instruction.Arg.TheVariants.{Number, Reg}
use Rattle.k_code.specs.declared.instruction.Do.TheVariants as act
use Rattle.k_code.specs.Balances.{left_open, is_met, goes_on}
use Rattle.k_code.specs.Named.{is_there}
use Rattle.k_evaluation.specs.States.{Program}
use Rattle.k_lower_code.specs.Pieces.{Piece}
use Rattle.k_lower_code.specs.Stretches.{Site, Stretch, behind, followed_by, in_order}
use Rattle.k_lower_code.specs.Switches.{PartLowered, ACase, ADefault, AStatement, statements_of, cases_size, cases_code, before_default, skips_size, skips, switches}
use Rattle.k_lower_valid.proofs.Texts.{Text, opened, as_before, Labelled, labelled_first, labelled_rest, HasTable, jumps, tests}
use Rattle.k_lower_valid.proofs.Stands.{Stands, moved}
use Rattle.k_lower_valid.proofs.Spans.{Leaves, leaves_fewer, jump_rest, objects_are, Spans, nothing_spans, behind_spans}
use Rattle.k_lower_valid.proofs.Segments.{Segment, both_segments, between, no_segment, one_segment, piece_segment, stretch_segment, going_segment}
use Rattle.k_lower_valid.proofs.Arms.{nowhere, somewhere}

-- an instruction of this number is in its function, and so much is open before it
abbrev pub Here : Text → Balance → ℕ → Type 0
Here g b at = (g.entry ≤ at) × (at < g.end) × (g.before at ≡ b)

-- so is the first instruction of each statement among the parts of a switch, of which the first has this number, and the one behind the last
abbrev pub Bounds : Text → Balance → List PartLowered → ℕ → Type 0
Bounds g b [] at = Here g b at
Bounds g b (ACase place z ∷ parts) at = Bounds g b parts at
Bounds g b (ADefault ∷ parts) at = Bounds g b parts at
Bounds g b (AStatement s ∷ parts) at = Here g b at × Bounds g b parts (at + s.size)

bounds_here : (g : Text) (b : Balance) (parts : List PartLowered) (at : ℕ) → Bounds g b parts at → Here g b at
bounds_here g b [] at bounds = bounds
bounds_here g b (ACase place z ∷ parts) at bounds = bounds_here g b parts at bounds
bounds_here g b (ADefault ∷ parts) at bounds = bounds_here g b parts at bounds
bounds_here g b (AStatement s ∷ parts) at bounds = bounds.0

bounds_default : (g : Text) (b : Balance) (parts : List PartLowered) (at : ℕ) → Bounds g b parts at → Here g b (at + before_default parts)
bounds_default g b [] at bounds = subst (Here g b) (let e : at ≡ at + 0 = omega arith in e) bounds
bounds_default g b (ACase place z ∷ parts) at bounds = bounds_default g b parts at bounds
bounds_default g b (ADefault ∷ parts) at bounds = subst (Here g b) (let e : at ≡ at + 0 = omega arith in e) (bounds_here g b parts at bounds)
bounds_default g b (AStatement s ∷ parts) at bounds =
    subst (Here g b) (let e : (at + s.size) + before_default parts ≡ at + (s.size + before_default parts) = omega arith in e) (bounds_default g b parts (at + s.size) bounds.1)

module _ (code : Code) (program : Program) (table : HasTable program) where
  -- a part of a switch may stand anywhere, and makes no objects that live on
  abbrev pub PartStands : PartLowered → Type 0
  PartStands (ACase place z) = Unit {0}
  PartStands ADefault = Unit {0}
  PartStands (AStatement s) = (s.opens ≡ 0) × Spans code s 0 0

  abbrev pub PartsStand : List PartLowered → Type 0
  PartsStand [] = Unit {0}
  PartsStand (p ∷ parts) = PartStands p × PartsStand parts

  -- the statements of a switch stand one behind the other, and its bounds are known
  abbrev Ordered : List PartLowered → Stretch → Type 0
  Ordered parts t =
      (spans : Spans code t 0 0) × ((g : Text) (s o r at : ℕ) → Labelled g at (spans.marks s o r) → g.before (at + t.size) ≡ opened s o r → g.entry ≤ at → at + t.size < g.end
      → Bounds g (opened s o r) parts at)

  ordered_behind : (s : Stretch) (parts : List PartLowered) (rest : Stretch) → s.opens ≡ 0 → Spans code s 0 0 → Ordered parts rest → Ordered (AStatement s ∷ parts) (behind s rest)
  unfolding behind_spans
  ordered_behind t parts rest none one others = (both, λ g s o r at labels end low high. bounds g s o r at labels end low high)
    where
      both : Spans code (behind t rest) 0 0
      both = behind_spans code t rest 0 0 0 (omega (arith, none)) one others.0

      bounds : (g : Text) (s o r at : ℕ) → Labelled g at (one.marks s o r ++ others.0.marks s o r) → g.before (at + (t.size + rest.size)) ≡ opened s o r → g.entry ≤ at → at + (t.size + rest.size) < g.end
          → Here g (opened s o r) at × Bounds g (opened s o r) parts (at + t.size)
      bounds g s o r at labels end low high =
          (let last : g.before ((at + t.size) + rest.size) ≡ opened s o r = moved g (at + (t.size + rest.size)) ((at + t.size) + rest.size) (opened s o r) (omega arith) end in
          (let later : Labelled g (at + t.size) (others.0.marks s o r) = labelled_rest g at (one.marks s o r) (others.0.marks s o r) t.size (one.long s o r) labels in
          (let middle : g.before (at + t.size) ≡ opened s o r = others.0.begins g s o r o o (at + t.size) (omega arith) (omega arith) later last in
          (let start : g.before at ≡ opened s o r = one.begins g s o r o o at (omega arith) (omega arith) (labelled_first g at (one.marks s o r) (others.0.marks s o r) labels) middle in
          ((low, (let e : at < g.end = omega (arith, high) in e), start), others.1 g s o r (at + t.size) later last (omega (arith, low)) (omega (arith, high)))))))

  ordered : (place : Place) (parts : List PartLowered) → PartsStand parts → Ordered parts (in_order program place (statements_of parts))
  ordered place [] all = (nothing_spans code place, λ g s o r at labels end low high. (low, (let e : at < g.end = omega (arith, high) in e), moved g (at + 0) at (opened s o r) (omega arith) end))
  ordered place (ACase p z ∷ parts) all = ordered place parts all.1
  ordered place (ADefault ∷ parts) all = ordered place parts all.1
  ordered place (AStatement s ∷ parts) all =
      subst (λ n. Ordered (AStatement s ∷ parts) (followed_by program s n (in_order program place (statements_of parts)))) (sym all.0.0)
      (ordered_behind s parts (in_order program place (statements_of parts)) all.0.0 all.0.1 (ordered place parts all.1))

  -- THE CASES
  abbrev case_marks : List PartLowered → Balance → List Balance
  case_marks [] b = []
  case_marks (ACase place z ∷ parts) b = b ∷ b ∷ case_marks parts b
  case_marks (ADefault ∷ parts) b = case_marks parts b
  case_marks (AStatement s ∷ parts) b = case_marks parts b

  case_segment : {F : Type 0} (g : Text) (kind : Kind) (register : ℕ) (on : Arg) (parts : List PartLowered) (at first : ℕ) (b : Balance) → (F → Bounds g b parts at)
      → Segment code F g first (cases_code program kind register on parts at first) (case_marks parts b) (cases_size parts) b b
  unfolding goes_on left_open is_met is_there
  case_segment g kind register on [] at first b bounds = no_segment first b
  case_segment g kind register on (ADefault ∷ parts) at first b bounds = case_segment g kind register on parts at first b bounds
  case_segment g kind register on (AStatement s ∷ parts) at first b bounds = case_segment g kind register on parts (at + s.size) first b (λ f. (bounds f).1)
  case_segment {F = F} g kind register on (ACase place z ∷ parts) at first b bounds =
      both_segments (first + 1) (2 + cases_size parts) refl (omega arith)
      (going_segment code program table place (act.Binary Eq kind on (Number z) (register + 1)) b b refl refl refl refl refl)
      (both_segments (first + 2) (1 + cases_size parts) (omega arith) refl
      (one_segment {code = code} {F = F} {g = g} {first = first + 1} (λ f has here next low high.
      (let target : Here g b at = bounds_here g b parts at (bounds f) in
      tests code g program place (Reg (register + 1) false) at (first + 2) None class.Select (first + 1) b table refl here target.2 (moved g ((first + 1) + 1) (first + 2) b (omega arith) next) next
      target.0 target.1 (let e : g.entry ≤ first + 2 = omega (arith, low) in e) (let e : first + 2 < g.end = omega (arith, high) in e))))
      (case_segment g kind register on parts at (first + 2) b bounds))

  abbrev skip_marks : ℕ → Balance → List Balance
  skip_marks zero b = []
  skip_marks (suc n) b = b ∷ []

  skip_segment : {F : Type 0} (place : Place) (g : Text) (n first : ℕ) (b : Balance) → (F → Here g b ((first + skips_size n) + n))
      → Segment code F g first (skips program place n first) (skip_marks n b) (skips_size n) b b
  skip_segment place g zero first b there = no_segment first b
  skip_segment place g (suc n) first b there = one_segment (λ f has here next low high.
      jumps code g program place ((first + 1) + suc n) first b table here ((there f).2) (omega arith) ((there f).1) (as_before (next ∙ sym here)))

  -- THE WHOLE
  module _ (place : Place) (kind : Kind) (register : ℕ) (parts : List PartLowered) (on : Piece Arg) (valued : Stands code on) (all : PartsStand parts) where
    abbrev body : Stretch
    body = in_order program place (statements_of parts)

    order : Ordered parts body
    order = ordered place parts all

    abbrev cases_at : ℕ → ℕ
    cases_at first = first + on.size

    abbrev skips_at : ℕ → ℕ
    skips_at first = cases_at first + cases_size parts

    abbrev body_at : ℕ → ℕ
    body_at first = skips_at first + skips_size (before_default parts)

    abbrev before_body : ℕ
    before_body = (on.size + cases_size parts) + skips_size (before_default parts)

    abbrev switch_size : ℕ
    switch_size = before_body + body.size

    abbrev head_marks : ℕ → ℕ → ℕ → List Balance
    head_marks s o r = (valued.marks s o r ++ case_marks parts (opened s o r)) ++ skip_marks (before_default parts) (opened s o r)

    abbrev inner_site : Site → ℕ → Site
    inner_site site first = record site { breaks = body_at first + body.size }

    pub record SwitchFacts (g : Text) (site : Site) (s o r first : ℕ) : Type 0 where
      pub bounds : Bounds g (opened s o r) parts (body_at first)
      pub last : g.before (body_at first + body.size) ≡ opened s o r
      pub below : body_at first + body.size < g.end
      pub continues : Leaves body.jumps.continues g site.continues (body_at first + body.size) (opened s o r)

    head_segment : (g : Text) (site : Site) (s o r first : ℕ)
        → Segment code (SwitchFacts g site s o r first) g first ((on.code first ++ cases_code program kind register on.gives parts (body_at first) (cases_at first)) ++ skips program place (before_default parts) (skips_at first))
        (head_marks s o r) before_body (opened s o r) (opened s o r)
    head_segment g site s o r first =
        both_segments (skips_at first) before_body (omega arith) refl
        (both_segments (cases_at first) (on.size + cases_size parts) refl refl (piece_segment first s o r on valued)
        (case_segment g kind register on.gives parts (body_at first) (cases_at first) (opened s o r) (λ f. f.bounds)))
        (skip_segment place g (before_default parts) (skips_at first) (opened s o r) (λ f. bounds_default g (opened s o r) parts (body_at first) f.bounds))

    switch_segment : (g : Text) (site : Site) (s o r first : ℕ) → site.objects ≡ o
        → Segment code (SwitchFacts g site s o r first) g first ((switches program place kind register parts on).code site first) (head_marks s o r ++ order.0.marks s o r) switch_size (opened s o r) (opened s o r)
    switch_segment g site s o r first enters =
        both_segments (body_at first) switch_size (omega arith) refl (head_segment g site s o r first)
        (between (opened s o r) (opened s o r) (objects_are s r (o + 0) o (omega arith)) (objects_are s r (o + 0) o (omega arith))
        (stretch_segment (body_at first) s o r 0 0 0 (inner_site site first) body order.0 (omega (arith, enters)) (omega arith)
        (λ f is. ((let e : body_at first + body.size ≤ body_at first + body.size = omega arith in e), f.below, f.last)) (λ f. f.continues)))

    switch_facts : (g : Text) (site : Site) (s o r first : ℕ) → Labelled g first (head_marks s o r ++ order.0.marks s o r) → g.before (first + switch_size) ≡ opened s o r
        → g.entry ≤ first → first + switch_size < g.end → Leaves body.jumps.continues g site.continues (first + switch_size) (opened s o r) → SwitchFacts g site s o r first
    switch_facts g site s o r first labels end low high continues =
        (let heads : Segment code (SwitchFacts g site s o r first) g first ((on.code first ++ cases_code program kind register on.gives parts (body_at first) (cases_at first)) ++ skips program place (before_default parts) (skips_at first))
        (head_marks s o r) before_body (opened s o r) (opened s o r) = head_segment g site s o r first in
        (let marks : Labelled g (body_at first) (order.0.marks s o r) = subst (λ n. Labelled g n (order.0.marks s o r)) (let e : first + before_body ≡ body_at first = omega arith in e)
        (labelled_rest g first (head_marks s o r) (order.0.marks s o r) before_body heads.long labels) in
        (let there : g.before (body_at first + body.size) ≡ opened s o r = moved g (first + switch_size) (body_at first + body.size) (opened s o r) (omega arith) end in
        record {
          bounds = order.1 g s o r (body_at first) marks there (omega (arith, low)) (omega (arith, high));
          last = there;
          below = omega (arith, high);
          continues = leaves_fewer body.jumps.continues g site.continues (first + switch_size) (body_at first + body.size) (opened s o r) (omega arith) continues;
        })))

    pub switches_spans : Spans code (switches program place kind register parts on) 0 0
    switches_spans = record {
      sized = λ site first. (switch_segment nowhere site 0 site.objects 0 first refl).sized;
      marks = λ s o r. head_marks s o r ++ order.0.marks s o r;
      long = λ s o r. (switch_segment nowhere (somewhere o) s o r 0 refl).long;
      begins = λ g s o r a z first enters leaves labels end.
          (switch_segment g (somewhere o) s o r first refl).begins labels (end ∙ objects_are s r z o (omega (arith, leaves))) ∙ objects_are s r o a (omega (arith, enters));
      fine = λ g site s o r z first enters leaves saved has labels end low high breaks continues.
          (switch_segment g site s o r first (omega (arith, enters))).fine
          (switch_facts g site s o r first labels (end ∙ objects_are s r z o (omega (arith, leaves))) low high continues)
          has labels (end ∙ objects_are s r z o (omega (arith, leaves))) low high;
      comes = λ site first holds.
          jump_rest site.continues ((on.code first ++ cases_code program kind register on.gives parts (body_at first) (cases_at first)) ++ skips program place (before_default parts) (skips_at first))
          (body.code (inner_site site first) (body_at first)) (order.0.comes (inner_site site first) (body_at first) holds);
    }
