-- Believed with the theorem on the top call.
-- What a loop's text has to do with its variables so that its turns may run in parallel, each thread with variables of its own.
use Rattle.std.specs.Prelude.{ℕ, nat_eq, nat_lt, nat_le, Bool, true, false, not, ◌&&◌, ◌||◌, ◌+◌, List, [], ◌∷◌, count_by, Option, Some, None}
use Rattle.std.specs.List.{list_all, list_any}
use Rattle.k_types_meaning.specs.declared.tree.unit.TVariable.{TVariable}
use Rattle.k_marks_meaning.specs.declared.uses.Group.{Group}
use Rattle.k_marks_meaning.specs.declared.uses.Group.TheVariants.{Sums, Products, Ands, Ors, Xors}
use Rattle.k_marks_meaning.specs.Loops.{is_number_register, same_group}
use Rattle.k_pragma_texts.specs.declared.occurrence.How.{How}
use Rattle.k_pragma_texts.specs.declared.occurrence.How.TheVariants.{Reads, Sets, Changes, Declares, Reduces}
use Rattle.k_pragma_texts.specs.declared.occurrence.LoopText.{LoopText}
use Rattle.k_pragma_texts.specs.declared.occurrence.Occurrence.{Occurrence}
use Rattle.k_pragma_texts.specs.declared.occurrence.Setter.{Setter}

-- AN OCCURRENCE IS A READ unless it is the left of a plain `=` or the variable's declarator
abbrev pub is_read : How → Bool
is_read Reads = true
is_read Sets = false
is_read Changes = true
is_read Declares = false
is_read (Reduces g) = true

-- an occurrence assigns its variable
abbrev pub is_assigned : How → Bool
is_assigned Reads = false
is_assigned Sets = true
is_assigned Changes = true
is_assigned Declares = false
is_assigned (Reduces g) = true

-- an occurrence declares its variable
abbrev pub is_declared : How → Bool
is_declared Declares = true
is_declared _ = false

-- an occurrence is in a statement that reduces its variable by operators of this group
abbrev pub reduces : Group → How → Bool
reduces g (Reduces h) = same_group h g
reduces g _ = false

-- a node lies in a loop's text
abbrev pub in_text : LoopText → ℕ → Bool
in_text l node = nat_le l.node node && nat_le node l.last

-- an occurrence is of this variable
abbrev pub is_of : ℕ → Occurrence → Bool
is_of v o = nat_eq o.variable v

-- an occurrence of this variable in the loop's text
abbrev pub occurs_in_text : LoopText → ℕ → Occurrence → Bool
occurs_in_text l v o = is_of v o && in_text l o.node

-- an occurrence in the loop's text that assigns this variable
abbrev pub assigns_in : LoopText → ℕ → Occurrence → Bool
assigns_in l v o = occurs_in_text l v o && is_assigned o.how

-- an occurrence in the loop's text that declares this variable
abbrev pub declares_in : LoopText → ℕ → Occurrence → Bool
declares_in l v o = occurs_in_text l v o && is_declared o.how

-- a variable is assigned in the loop's text
abbrev pub assigned_in : List Occurrence → LoopText → ℕ → Bool
assigned_in occurs l v = list_any (assigns_in l v) occurs

-- a variable is declared in the loop's text
abbrev pub declared_in : List Occurrence → LoopText → ℕ → Bool
declared_in occurs l v = list_any (declares_in l v) occurs

-- a variable is the one that the loop's step counts
abbrev pub is_counter : Option ℕ → ℕ → Bool
is_counter None v = false
is_counter (Some n) v = nat_eq n v

-- an occurrence of this variable in test, step or body, or by which the loop declares it
abbrev pub occurs_in_turns : LoopText → ℕ → Occurrence → Bool
occurs_in_turns l v o = occurs_in_text l v o && (nat_lt l.head o.node || is_declared o.how)

-- an occurrence is none of this variable in the turns, or one in a statement that reduces it by operators of this group
abbrev pub keeps_reduction : LoopText → Group → ℕ → Occurrence → Bool
keeps_reduction l g v o = not (occurs_in_turns l v o) || reduces g o.how

-- a variable occurs in test, step or body, or the loop declares it
abbrev pub occurs_somewhere : List Occurrence → LoopText → ℕ → Bool
occurs_somewhere occurs l v = list_any (occurs_in_turns l v) occurs

-- all these occurrences are in statements that reduce it by operators of this group
abbrev pub all_reduce : List Occurrence → LoopText → Group → ℕ → Bool
all_reduce occurs l g v = list_all (keeps_reduction l g v) occurs

-- A VARIABLE of this number IS A REDUCTION of the loop by operators of a group: a whole number in a register, which occurs in test, step and body, and
-- there only in expression statements that reduce it so, and which the loop does not declare
abbrev pub is_reduction : List Occurrence → LoopText → Group → ℕ → TVariable → Bool
is_reduction occurs l g n v =
    is_number_register v && (occurs_somewhere occurs l n && all_reduce occurs l g n)

-- the same by some group
abbrev pub is_some_reduction : List Occurrence → LoopText → ℕ → TVariable → Bool
is_some_reduction occurs l n v =
    is_reduction occurs l Sums n v
    || (is_reduction occurs l Products n v
    || (is_reduction occurs l Ands n v || (is_reduction occurs l Ors n v || is_reduction occurs l Xors n v)))

-- an assignment `v = e` FEEDS A READ: the read is of v, and it stands in the `for` of which the assignment is the first part, or in a later
-- statement of the block of which it is a statement
abbrev pub feeds : Setter → Occurrence → Bool
feeds s o = nat_eq s.variable o.variable && (nat_lt s.node o.node && nat_le o.node s.last)

-- a loop lies where an assignment feeds reads: in its `for`, or in a later statement of its block
abbrev pub lies_behind : Setter → LoopText → Bool
lies_behind s l = nat_lt s.node l.node && nat_le l.node s.last

-- an assignment lies in a loop, and is not its first part
abbrev pub lies_in : Setter → LoopText → Bool
lies_in s l = nat_lt l.node s.node && nat_le s.node l.last

-- an assignment feeds a read, and the loop does not lie behind it
abbrev pub feeds_without : LoopText → Occurrence → Setter → Bool
feeds_without l o s = feeds s o && not (lies_behind s l)

-- an assignment feeds a read, and lies in the loop
abbrev pub feeds_within : LoopText → Occurrence → Setter → Bool
feeds_within l o s = feeds s o && lies_in s l

-- a read is fed by an assignment behind which the loop does not lie
abbrev pub fed_without : List Setter → LoopText → Occurrence → Bool
fed_without setters l o = list_any (feeds_without l o) setters

-- a read is fed by an assignment in the loop
abbrev pub fed_within : List Setter → LoopText → Occurrence → Bool
fed_within setters l o = list_any (feeds_within l o) setters

-- an occurrence is a read of this variable
abbrev pub is_read_of : ℕ → Occurrence → Bool
is_read_of v o = is_of v o && is_read o.how

-- an occurrence, if it is a read of this variable outside the loop, is fed by an assignment behind which the loop does not lie
abbrev pub keeps_settled : List Setter → LoopText → ℕ → Occurrence → Bool
keeps_settled setters l v o = not (is_read_of v o) || (in_text l o.node || fed_without setters l o)

-- an occurrence, if it is a read of this variable in the loop, is fed by an assignment in the loop
abbrev pub keeps_private : List Setter → LoopText → ℕ → Occurrence → Bool
keeps_private setters l v o = not (is_read_of v o) || (not (in_text l o.node) || fed_within setters l o)

-- A VARIABLE IS SETTLED OUTSIDE A LOOP: each read of it outside the loop is fed by an assignment behind which the loop does not lie
abbrev pub is_settled : List Occurrence → List Setter → LoopText → ℕ → Bool
is_settled occurs setters l v = list_all (keeps_settled setters l v) occurs

-- each read of a variable in the loop is fed by an assignment in the loop
abbrev pub fed_inside : List Occurrence → List Setter → LoopText → ℕ → Bool
fed_inside occurs setters l v = list_all (keeps_private setters l v) occurs

-- A VARIABLE IS PRIVATE TO A LOOP: each read of it in the loop is fed by an assignment in the loop, and it is settled outside
abbrev pub is_private : List Occurrence → List Setter → LoopText → ℕ → Bool
is_private occurs setters l v = fed_inside occurs setters l v && is_settled occurs setters l v

-- a variable of this number has to be private to the loop: a register that is assigned in its text, is declared outside, and is neither the loop's
-- variable nor a reduction
abbrev pub must_be_private : List Occurrence → LoopText → ℕ → TVariable → Bool
must_be_private occurs l n v =
    nat_eq v.elements 0
    && (assigned_in occurs l n && (not (declared_in occurs l n) && (not (is_counter l.counter n) && not (is_some_reduction occurs l n v))))

-- a variable of this number that has to be private to the loop is private to it
abbrev pub private_where_needed : List Occurrence → List Setter → LoopText → ℕ → TVariable → Bool
private_where_needed occurs setters l n v = not (must_be_private occurs l n v) || is_private occurs setters l n

-- variables, the first of which has this number, pass a test
abbrev pub all_pass : (ℕ → TVariable → Bool) → ℕ → List TVariable → Bool
all_pass test n [] = true
all_pass test n (v ∷ vs) = test n v && all_pass test (n + 1) vs

-- THE FIFTH CONDITION: each variable that has to be private to the loop is
abbrev pub all_private : List Occurrence → List Setter → LoopText → List TVariable → Bool
all_private occurs setters l vs = all_pass (private_where_needed occurs setters l) 0 vs

-- THE SIXTH CONDITION: the loop's variable, where it is declared outside, is settled outside
abbrev pub counter_settled : List Occurrence → List Setter → LoopText → Option ℕ → Bool
counter_settled occurs setters l None = false
counter_settled occurs setters l (Some n) = declared_in occurs l n || is_settled occurs setters l n

-- the fifth and the sixth condition: turns that run in threads of their own share no register
abbrev pub shares_nothing : List Occurrence → List Setter → LoopText → List TVariable → Bool
shares_nothing occurs setters l vs = counter_settled occurs setters l l.counter && all_private occurs setters l vs

-- a node lies in the first part of a loop, where a variable that it declares occurs at the loop's own node
abbrev pub in_first : LoopText → ℕ → Bool
in_first l node = nat_le l.node node && nat_le node l.head

-- a node lies in the test of a loop
abbrev pub in_test : LoopText → ℕ → Bool
in_test l node = nat_lt l.head node && nat_le node l.test

-- an occurrence of this variable in the first part
abbrev pub occurs_first : LoopText → ℕ → Occurrence → Bool
occurs_first l v o = is_of v o && in_first l o.node

-- an occurrence of this variable in the test
abbrev pub occurs_in_test : LoopText → ℕ → Occurrence → Bool
occurs_in_test l v o = is_of v o && in_test l o.node

-- the loop's variable i occurs once in the first part `i = e` and once in the test `i op e'`: neither e nor e' names it
abbrev pub named_once : List Occurrence → LoopText → Option ℕ → Bool
named_once occurs l None = false
named_once occurs l (Some n) = nat_eq (count_by (occurs_first l n) occurs) 1 && nat_eq (count_by (occurs_in_test l n) occurs) 1

-- an occurrence of this variable in the first part or the test
abbrev pub occurs_in_head : LoopText → ℕ → Occurrence → Bool
occurs_in_head l v o = occurs_first l v o || occurs_in_test l v o

-- a variable of this number stands in a clause: it is a reduction, or has to be private
abbrev pub is_in_clause : List Occurrence → LoopText → ℕ → TVariable → Bool
is_in_clause occurs l n v = is_some_reduction occurs l n v || must_be_private occurs l n v

-- a variable of this number does not occur in the first part and the test, or stands in no clause
abbrev pub keeps_head : List Occurrence → LoopText → ℕ → TVariable → Bool
keeps_head occurs l n v = not (list_any (occurs_in_head l n) occurs) || not (is_in_clause occurs l n v)

-- all variables do so: first part and test have the same value in every thread
abbrev pub head_stays : List Occurrence → LoopText → List TVariable → Bool
head_stays occurs l vs = all_pass (keeps_head occurs l) 0 vs

-- first part and test name the loop's variable once each, and nothing that stands in a clause
abbrev pub has_plain_head : List Occurrence → LoopText → List TVariable → Bool
has_plain_head occurs l vs = named_once occurs l l.counter && head_stays occurs l vs
