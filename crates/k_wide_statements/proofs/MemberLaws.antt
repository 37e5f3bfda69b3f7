-- The statements behind a test, one behind another.
use Rattle.std.proofs.Common.{◌≡◌, ℕ, ◌+◌, ◌<◌, ◌≤◌, Bool, true, false, List, [], ◌∷◌, ◌++◌, map, drop, get_or, length, Option, Some, None, refl, sym, ◌∙◌, ap, subst, true≢false}
use Rattle.std.specs.Prelude.{if◌then◌else◌, ◌||◌, unwrap_or, is_some}
use Rattle.std.proofs.lemmas.List.{append-nil, append_assoc, drop_all, drop_more}
use Rattle.k_types_meaning.specs.declared.tree.expression.TExpr.{TExpr}
use Rattle.k_types_meaning.specs.declared.tree.statement.TStmt.{TStmt}
use Rattle.k_wide_meaning.specs.declared.occurrences.Occurrence.{Occurrence}
use Rattle.k_wide_meaning.specs.Reductions.{kept_if}
use Rattle.k_wide_meaning.specs.Contents.{Seen, Member, member, seen, members_occur, kept_first, kept_among, last_action}
use Rattle.k_wide_statements.specs.Members.{member_occurs, rest_occurs}

step_by : (later : List Occurrence) (m : Member) (k rest : Option (List Occurrence))
    → unwrap_or (kept_first k later m rest) (m.occurs ++ later) ≡ unwrap_or k m.occurs ++ (if is_some k then later else unwrap_or rest later)
step_by later m (Some kept) rest = refl
step_by later m None None = refl
step_by later m None (Some os) = refl

-- a statement and those behind it
rest_behind : (test : TExpr) (kept : Bool) (m : Member) (ms : List Member)
    → rest_occurs test kept (m ∷ ms) ≡ member_occurs test kept m ++ rest_occurs test (kept || is_some (kept_if test m.action)) ms
unfolding rest_occurs
rest_behind test true m ms = refl
rest_behind test false m ms = step_by (members_occur ms) m (kept_if test m.action) (kept_among test ms)

-- none is left
rest_none : (test : TExpr) (kept : Bool) → rest_occurs test kept ([]) ≡ []
unfolding rest_occurs
rest_none test true = refl
rest_none test false = refl

-- the statements from here on
abbrev members : List TStmt → List Member
members ss = map member (map seen ss)

drop_here : (ss : List TStmt) (i : ℕ) (s : TStmt) → i < length ss → s ≡ get_or ss i s → drop i ss ≡ s ∷ drop (i + 1) ss
drop_here ss i s below is = drop_more ss i s below ∙ ap (λ (q : TStmt). q ∷ drop (i + 1) ss) (sym is)

first_some : (k rest : Option (List Occurrence)) (later : List Occurrence) (m : Member) → is_some k ≡ true → is_some (kept_first k later m rest) ≡ true
first_some (Some os) rest later m h = refl
first_some None rest later m h = absurd (true≢false (sym h))

first_none : (k rest : Option (List Occurrence)) (later : List Occurrence) (m : Member) → is_some k ≡ false → is_some (kept_first k later m rest) ≡ is_some rest
first_none (Some os) rest later m h = absurd (true≢false h)
first_none None None later m h = refl
first_none None (Some os) later m h = refl

-- this statement keeps the least or the greatest
pub keeps_here : (test : TExpr) (ss : List TStmt) (i : ℕ) (s : TStmt) (b whole : Bool) → i < length ss → s ≡ get_or ss i s
    → b ≡ is_some (kept_if test (seen s).action) → b ≡ true → is_some (kept_among test (members (drop i ss))) ≡ whole → true ≡ whole
keeps_here test ss i s b whole below is told holds so_far =
    let now = ap (λ (xs : List TStmt). is_some (kept_among test (members xs))) (drop_here ss i s below is) in
    sym (first_some (kept_if test (seen s).action) (kept_among test (members (drop (i + 1) ss))) (members_occur (members (drop (i + 1) ss))) (member (seen s)) (sym told ∙ holds))
    ∙ (sym now ∙ so_far)

-- this statement keeps nothing
pub keeps_on : (test : TExpr) (ss : List TStmt) (i : ℕ) (s : TStmt) (b whole : Bool) → i < length ss → s ≡ get_or ss i s
    → b ≡ is_some (kept_if test (seen s).action) → b ≡ false → is_some (kept_among test (members (drop i ss))) ≡ whole
    → is_some (kept_among test (members (drop (i + 1) ss))) ≡ whole
keeps_on test ss i s b whole below is told fails so_far =
    let now = ap (λ (xs : List TStmt). is_some (kept_among test (members xs))) (drop_here ss i s below is) in
    sym (first_none (kept_if test (seen s).action) (kept_among test (members (drop (i + 1) ss))) (members_occur (members (drop (i + 1) ss))) (member (seen s)) (sym told ∙ fails))
    ∙ (sym now ∙ so_far)

-- what was noted behind one more statement
pub members_on : (test : TExpr) (kept next : Bool) (ss : List TStmt) (i : ℕ) (s : TStmt) (found new whole : List Occurrence) → i < length ss → s ≡ get_or ss i s
    → next ≡ (kept || is_some (kept_if test (seen s).action)) → new ≡ found ++ member_occurs test kept (member (seen s))
    → found ++ rest_occurs test kept (members (drop i ss)) ≡ whole → new ++ rest_occurs test next (members (drop (i + 1) ss)) ≡ whole
members_on test kept next ss i s found new whole below is told noted so_far =
    let later = members (drop (i + 1) ss) in
    let one = member_occurs test kept (member (seen s)) in
    let now : rest_occurs test kept (members (drop i ss)) ≡ one ++ rest_occurs test (kept || is_some (kept_if test (seen s).action)) later =
    ap (λ (xs : List TStmt). rest_occurs test kept (members xs)) (drop_here ss i s below is) ∙ rest_behind test kept (member (seen s)) later in
    (λ i. noted i ++ rest_occurs test (told i) later)
    ∙ (append_assoc found one (rest_occurs test (kept || is_some (kept_if test (seen s).action)) later)
    ∙ (ap (λ (os : List Occurrence). found ++ os) (sym now) ∙ so_far))

-- no statement is left
pub members_end : (test : TExpr) (kept : Bool) (ss : List TStmt) (i : ℕ) (found whole : List Occurrence) → length ss ≤ i
    → found ++ rest_occurs test kept (members (drop i ss)) ≡ whole → found ≡ whole
members_end test kept ss i found whole past so_far =
    let none : rest_occurs test kept (members (drop i ss)) ≡ [] =
    ap (λ (xs : List TStmt). rest_occurs test kept (members xs)) (drop_all i ss past) ∙ rest_none test kept in
    sym (append-nil found) ∙ (ap (λ (os : List Occurrence). found ++ os) (sym none) ∙ so_far)

-- one of the statements keeps the least or the greatest
chosen : (o : Option (List Occurrence)) (x y : List Occurrence) → is_some o ≡ true → unwrap_or o x ≡ unwrap_or o y
chosen (Some os) x y h = refl
chosen None x y h = absurd (true≢false (sym h))

pub braces_kept : (test : TExpr) (ms : List Member) (b : Bool) (x old new : List Occurrence) → b ≡ is_some (kept_among test ms) → b ≡ true
    → new ≡ old ++ rest_occurs test false ms → new ≡ old ++ unwrap_or (kept_among test ms) x
unfolding rest_occurs
braces_kept test ms b x old new told holds noted =
    noted ∙ ap (λ (os : List Occurrence). old ++ os) (chosen (kept_among test ms) (members_occur ms) x (sym told ∙ holds))

-- a single statement that keeps the least or the greatest
pub single_kept : (k : Option (List Occurrence)) (m : Member) (b : Bool) (x old new : List Occurrence) → b ≡ is_some k → b ≡ true
    → new ≡ old ++ unwrap_or k ([]) → new ≡ old ++ unwrap_or (kept_first k ([]) m None) x
single_kept (Some os) m b x old new told holds noted = noted ∙ ap (λ (l : List Occurrence). old ++ l) (sym (append-nil os))
single_kept None m b x old new told holds noted = absurd (true≢false (sym holds ∙ told))

-- a single statement that keeps nothing
pub single_other : (k : Option (List Occurrence)) (m : Member) (b : Bool) (t s old one two new : List Occurrence) → b ≡ is_some k → b ≡ false
    → one ≡ old ++ unwrap_or k ([]) → two ≡ one ++ t → new ≡ two ++ s → new ≡ old ++ unwrap_or (kept_first k ([]) m None) (t ++ s)
single_other (Some os) m b t s old one two new told fails first second third = absurd (true≢false (sym told ∙ fails))
single_other None m b t s old one two new told fails first second third =
    third ∙ (ap (λ (l : List Occurrence). l ++ s) (second ∙ ap (λ (l : List Occurrence). l ++ t) (first ∙ append-nil old)) ∙ append_assoc old t s)

-- a statement of a block that keeps the least or the greatest
pub member_kept : (k : Option (List Occurrence)) (kept b : Bool) (x old new : List Occurrence) → kept ≡ false → b ≡ is_some k → b ≡ true
    → new ≡ old ++ unwrap_or k ([]) → new ≡ old ++ (if kept then x else unwrap_or k x)
member_kept (Some os) kept b x old new outside told holds noted = noted ∙ ap (λ c. old ++ (if c then x else os)) (sym outside)
member_kept None kept b x old new outside told holds noted = absurd (true≢false (sym holds ∙ told))

-- a statement of a block that keeps nothing
pub member_other : (k : Option (List Occurrence)) (kept b : Bool) (x old one new : List Occurrence) → kept ≡ false → b ≡ is_some k → b ≡ false
    → one ≡ old ++ unwrap_or k ([]) → new ≡ one ++ x → new ≡ old ++ (if kept then x else unwrap_or k x)
member_other (Some os) kept b x old one new outside told fails first second = absurd (true≢false (sym told ∙ fails))
member_other None kept b x old one new outside told fails first second =
    second ∙ (ap (λ (l : List Occurrence). l ++ x) (first ∙ append-nil old) ∙ ap (λ c. old ++ (if c then x else x)) (sym outside))

last_front : (b : Seen) (bs : List TStmt) (s : TStmt) → last_action (member b ∷ map member (map seen (bs ++ s ∷ []))) ≡ last_action (map member (map seen (bs ++ s ∷ [])))
last_front b [] s = refl
last_front b (c ∷ cs) s = refl

-- the last of these
pub last_behind : (before : List TStmt) (s : TStmt) → last_action (map member (map seen (before ++ s ∷ []))) ≡ (seen s).action
last_behind [] s = refl
last_behind (b ∷ bs) s = last_front (seen b) bs s ∙ last_behind bs s
