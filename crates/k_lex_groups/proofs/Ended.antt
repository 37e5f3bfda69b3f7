-- Lines that are refused nowhere are those of a block, or begin one.
use Rattle.std.proofs.Common.{◌≡◌, Bool, true, false, ◌&&◌, not, if◌then◌else◌, List, [], ◌∷◌, ◌++◌, Option, Some, None, refl, ap, sym, subst, ◌∙◌, append_assoc}
use Rattle.std.proofs.lemmas.List.{append-nil}
use Rattle.std.proofs.lemmas.Bool.{false≢true}
use Rattle.k_num.specs.declared.place.Place.{Place}
use Rattle.k_lex_groups.specs.declared.groups.Group.{Group}
use Rattle.k_lex_groups.specs.Blocks.{Line, if_line, elif_line, else_line, endif_line, other_line, Block, Rest, empty, line, section, endif, final, elif, lines, rest_lines, reads}
use Rattle.k_lex_groups.specs.Steps.{Opens, is_read, opened, step, seen, in_front, follow, outcome}
use Rattle.k_lex_groups.specs.Laws.{EndedAreBlocks, RefusedIsNone, OpenGoesOn}
use Rattle.k_lex_groups.proofs.Read.{blocks_read, outcome_of}

-- lines that close what is open: the rest of a group and what follows it, for each open `#if`, and then a block
pub data Closes : Opens → List Line → Type 0 where
  bottom : (b : Block) → Closes [] (lines b)
  within : (g : Group) (s : Opens) (b : Block) (r : Rest) (ts : List Line) → g.ends ≡ false → Closes s ts → Closes (g ∷ s) (lines b ++ (rest_lines r ++ ts))
  at_last : (g : Group) (s : Opens) (b : Block) (ts : List Line) → g.ends ≡ true → Closes s ts → Closes (g ∷ s) (lines b ++ (endif_line ∷ ts))

other_closes : (s : Opens) (ts : List Line) → Closes s ts → Closes s (other_line ∷ ts)
other_closes _ _ (bottom b) = bottom (line b)
other_closes _ _ (within g s b r ts e c) = within g s (line b) r ts e c
other_closes _ _ (at_last g s b ts e c) = at_last g s (line b) ts e c

-- the lines of a section in front of others
section_lines : (place : Place) (holds : Bool) (b c : Block) (r : Rest) (us : List Line)
    → lines (section place holds b r c) ++ us ≡ if_line place holds ∷ (lines b ++ (rest_lines r ++ (lines c ++ us)))
section_lines place holds b c r us =
    ap (λ z. if_line place holds ∷ z) (append_assoc (lines b) (rest_lines r ++ lines c) us ∙ ap (λ z. lines b ++ z) (append_assoc (rest_lines r) (lines c) us))

section_closes : (place : Place) (holds : Bool) (b : Block) (r : Rest) (s : Opens) (ts : List Line) → Closes s ts
    → Closes s (if_line place holds ∷ (lines b ++ (rest_lines r ++ ts)))
section_closes place holds b r _ _ (bottom c) = bottom (section place holds b r c)
section_closes place holds b r _ _ (within g s c q ts e x) =
    subst (Closes (g ∷ s)) (section_lines place holds b c r (rest_lines q ++ ts)) (within g s (section place holds b r c) q ts e x)
section_closes place holds b r _ _ (at_last g s c ts e x) =
    subst (Closes (g ∷ s)) (section_lines place holds b c r (endif_line ∷ ts)) (at_last g s (section place holds b r c) ts e x)

-- a test has one value
not_both : (b : Bool) → b ≡ false → b ≡ true → ⊥
not_both b e q = false≢true (sym e ∙ q)

-- what closes an `#if` whose last group isn't that of `#else`
record Goes (s : Opens) (ts : List Line) : Type 0 where
  block : Block
  rest : Rest
  behind : List Line
  closes : Closes s behind
  spelled : lines block ++ (rest_lines rest ++ behind) ≡ ts

goes_on : (g : Group) (s : Opens) (ts : List Line) → g.ends ≡ false → Closes (g ∷ s) ts → Goes s ts
goes_on g s _ e (within _ _ b r ts q c) = record { block = b; rest = r; behind = ts; closes = c; spelled = refl }
goes_on g s _ e (at_last _ _ b ts q c) = absurd (not_both g.ends e q)

-- what closes an `#if` whose last group is that of `#else`
record Ends (s : Opens) (ts : List Line) : Type 0 where
  block : Block
  behind : List Line
  closes : Closes s behind
  spelled : lines block ++ (endif_line ∷ behind) ≡ ts

ends_so : (g : Group) (s : Opens) (ts : List Line) → g.ends ≡ true → Closes (g ∷ s) ts → Ends s ts
ends_so g s _ e (within _ _ b r ts q c) = absurd (not_both g.ends q e)
ends_so g s _ e (at_last _ _ b ts q c) = record { block = b; behind = ts; closes = c; spelled = refl }

if_closes : (place : Place) (holds : Bool) (s : Opens) (ts : List Line) → Closes (opened place holds s) ts → Closes s (if_line place holds ∷ ts)
if_closes place holds s ts c =
    let i = goes_on (record { place = place; waits = is_read s && not holds; reads = is_read s && holds; ends = false }) s ts refl c in
    subst (λ z. Closes s (if_line place holds ∷ z)) i.spelled (section_closes place holds i.block i.rest s i.behind i.closes)

elif_closes : (holds : Bool) (g new : Group) (s : Opens) (ts : List Line) → g.ends ≡ false → new.ends ≡ false → Closes (new ∷ s) ts → Closes (g ∷ s) (elif_line holds ∷ ts)
elif_closes holds g new s ts e q c =
    let i = goes_on new s ts q c in
    subst (λ z. Closes (g ∷ s) (elif_line holds ∷ z)) (append_assoc (lines i.block) (rest_lines i.rest) i.behind ∙ i.spelled)
    (within g s empty (elif holds i.block i.rest) i.behind e i.closes)

else_closes : (g new : Group) (s : Opens) (ts : List Line) → g.ends ≡ false → new.ends ≡ true → Closes (new ∷ s) ts → Closes (g ∷ s) (else_line ∷ ts)
else_closes g new s ts e q c =
    let i = ends_so new s ts q c in
    subst (λ z. Closes (g ∷ s) (else_line ∷ z)) (append_assoc (lines i.block) (endif_line ∷ []) i.behind ∙ i.spelled)
    (within g s empty (final i.block) i.behind e i.closes)

endif_closes : (g : Group) (s : Opens) (ts : List Line) (b : Bool) → g.ends ≡ b → Closes s ts → Closes (g ∷ s) (endif_line ∷ ts)
endif_closes g s ts true e c = at_last g s empty ts e c
endif_closes g s ts false e c = within g s empty endif ts e c

-- what closes what a line leaves closes, with the line, what was open before it
abbrev Backs : Line → Opens → Option Opens → List Line → Type 0
Backs t s None ts = Unit {0}
Backs t s (Some new) ts = Closes new ts → Closes s (t ∷ ts)

another_backs : (holds : Bool) (g new : Group) (s : Opens) (ts : List Line) (b : Bool) → g.ends ≡ b → new.ends ≡ false
    → Backs (elif_line holds) (g ∷ s) (if b then None else Some (new ∷ s)) ts
another_backs holds g new s ts true e q = tt
another_backs holds g new s ts false e q = λ c. elif_closes holds g new s ts e q c

otherwise_backs : (g new : Group) (s : Opens) (ts : List Line) (b : Bool) → g.ends ≡ b → new.ends ≡ true
    → Backs else_line (g ∷ s) (if b then None else Some (new ∷ s)) ts
otherwise_backs g new s ts true e q = tt
otherwise_backs g new s ts false e q = λ c. else_closes g new s ts e q c

step_backs : (t : Line) (s : Opens) (ts : List Line) → Backs t s (step t s) ts
step_backs (if_line place holds) s ts = λ c. if_closes place holds s ts c
step_backs (elif_line holds) [] ts = tt
step_backs (elif_line holds) (g ∷ s) ts =
    another_backs holds g (record { place = g.place; waits = g.waits && not holds; reads = g.waits && holds; ends = false }) s ts g.ends refl refl
step_backs else_line [] ts = tt
step_backs else_line (g ∷ s) ts = otherwise_backs g (record { place = g.place; waits = false; reads = g.waits; ends = true }) s ts g.ends refl refl
step_backs endif_line [] ts = tt
step_backs endif_line (g ∷ s) ts = λ c. endif_closes g s ts g.ends refl c
step_backs other_line s ts = λ c. other_closes s ts c

-- nothing is not something
none_some : {A : Type 0} (x : A) → None ≡ Some x → ⊥
none_some x e = cc

-- what is open, by one outcome
abbrev opens_or : Opens → Option (Opens × List Bool) → Opens
opens_or s None = s
opens_or s (Some p) = p.0

same_opens : (s u : Opens) (xs ys : List Bool) → outcome_of s xs ≡ outcome_of u ys → s ≡ u
same_opens s u xs ys e = ap (opens_or s) e

-- what is open behind lines that are not refused
record Behind (xs : List Bool) (o : Option (Opens × List Bool)) (s : Opens) : Type 0 where
  flags : List Bool
  there : o ≡ Some (s, flags)

behind_of : (xs : List Bool) (o : Option (Opens × List Bool)) (s : Opens) (flags : List Bool) → in_front xs o ≡ Some (s, flags) → Behind xs o s
behind_of xs None s flags e = absurd (none_some {A = Opens × List Bool} (s, flags) e)
behind_of xs (Some (u, zs)) s flags e =
    record { flags = zs; there = ap (λ v. outcome_of v zs) (same_opens u s (xs ++ zs) flags e) }

closes_by : (t : Line) (ts us : List Line) (s end : Opens)
    → ((new : Opens) (flags : List Bool) → outcome new ts ≡ Some (end, flags) → Closes new (ts ++ us))
    → (flags : List Bool) (o : Option Opens) → Backs t s o (ts ++ us)
    → follow (λ new. in_front (seen t s) (outcome new ts)) o ≡ Some (end, flags) → Closes s (t ∷ (ts ++ us))
closes_by t ts us s end all flags None backs e = absurd (none_some {A = Opens × List Bool} (end, flags) e)
closes_by t ts us s end all flags (Some new) backs e =
    let i = behind_of (seen t s) (outcome new ts) end flags e in
    backs (all new i.flags i.there)

-- lines behind which this is open, and then lines that close it, close what was open before
closes_all : (ts us : List Line) (end s : Opens) (flags : List Bool) → outcome s ts ≡ Some (end, flags) → Closes end us → Closes s (ts ++ us)
closes_all [] us end s flags e c = subst (λ v. Closes v us) (sym (same_opens s end [] flags e)) c
closes_all (t ∷ ts) us end s flags e c =
    closes_by t ts us s end (λ new more q. closes_all ts us end new more q c) flags (step t s) (step_backs t s (ts ++ us)) e

-- as many `#endif` as are open
abbrev endings : Opens → List Line
endings [] = []
endings (g ∷ s) = endif_line ∷ endings s

endings_close : (s : Opens) → Closes s (endings s)
endings_close [] = bottom empty
endings_close (g ∷ s) = endif_closes g s (endings s) g.ends refl (endings_close s)

-- what closes nothing is a block
block_of : (ts : List Line) → Closes [] ts → (b : Block) × (lines b ≡ ts)
block_of _ (bottom b) = (b, refl)

pub ended : EndedAreBlocks
ended ts flags e = block_of ts (subst (Closes []) (append-nil ts) (closes_all ts [] [] [] flags e (bottom empty)))

pub open_goes_on : OpenGoesOn
open_goes_on ts s flags e =
    let i = block_of (ts ++ endings s) (closes_all ts (endings s) s [] flags e (endings_close s)) in
    (i.0, endings s, i.1)

-- flags stand in front of nothing only where there is nothing
nothing_in_front : (xs : List Bool) (o : Option (Opens × List Bool)) → in_front xs o ≡ None → o ≡ None
nothing_in_front xs None e = refl
nothing_in_front xs (Some (s, ys)) e = absurd (none_some {A = Opens × List Bool} (s, xs ++ ys) (sym e))

refused_by : (t : Line) (ts us : List Line) (s : Opens) → ((new : Opens) → outcome new ts ≡ None → outcome new (ts ++ us) ≡ None) → (o : Option Opens)
    → follow (λ new. in_front (seen t s) (outcome new ts)) o ≡ None → follow (λ new. in_front (seen t s) (outcome new (ts ++ us))) o ≡ None
refused_by t ts us s all None e = refl
refused_by t ts us s all (Some new) e = ap (in_front (seen t s)) (all new (nothing_in_front (seen t s) (outcome new ts) e))

-- lines behind refused ones are refused too
refused_on : (ts us : List Line) (s : Opens) → outcome s ts ≡ None → outcome s (ts ++ us) ≡ None
refused_on [] us s e = absurd (none_some {A = Opens × List Bool} (s, []) (sym e))
refused_on (t ∷ ts) us s e = refused_by t ts us s (λ new q. refused_on ts us new q) (step t s) e

pub refused : RefusedIsNone
refused ts us b e q =
    none_some {A = Opens × List Bool} ([], reads true b) (sym (refused_on ts us [] e) ∙ (ap (outcome []) (sym q) ∙ blocks_read b))
