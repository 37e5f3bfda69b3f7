-- Bytes tell a table of latencies, or are refused: whether they are UTF-8 is decided, and the keys of a document that is parsed are in order.
use Rattle.std.proofs.Common.{◌≡◌, ◌≢◌, inl, inr, ℕ, zero, suc, ℤ, Bool, true, false, ◌&&◌, ◌==◌, if◌then◌else◌, int_le, pos, Ordering, Less, Equal, Greater, nat_cmp, is_lt, List, [], ◌∷◌, ◌++◌, length, map, Option, Some, None, Err, option_map, option_and_then, option_to_list, refl, sym, ap, ◌∙◌, subst}
use Rattle.std.specs.Cmp.Lexicographic.{slice_cmp}
use Rattle.std.specs.Ordering.{match_ordering, ordering_reverse}
use Rattle.std.specs.Str.{is_utf8}
use Rattle.std.proofs.lemmas.Bool.{both_ways}
use Rattle.std.proofs.lemmas.Cmp.{nat_list_cmp_total}
use Rattle.std.proofs.lemmas.Option.{none-some, same_Some}
use Rattle.std.proofs.lemmas.Str.{IsUtf8-from_is_utf8, is_utf8-from_IsUtf8}
use Rattle.toml_parser.specs.Lexical.{skip_blank}
use Rattle.toml_parser.specs.Strings.{Key}
use Rattle.toml.specs.Data.{Data, Members, no_members, member, as_integer, is_before, same_key}
use Rattle.toml.specs.Parse.{line, lines, parse_document, skip_bom}
use Rattle.toml.specs.Tables.{Definition, Document, Edit, Expression, Node, Nodes, along_dots, along_header, array_table, at_found, at_key, by_dot, by_header, close, define, define_as, dot_node, dotted, get_node, header_node, implicit, insert, key_value, new_node, no_nodes, node, open_table, put, redefine, replace, std_table}
use Rattle.k_optab.specs.declared.toml_table.TableFault.{TableFault}
use Rattle.k_optab.specs.declared.toml_table.TableFault.TheVariants.{NotToml, UnknownKey, NotWhole, OutOfRange, Memory}
use Rattle.k_optab.specs.Latencies.{classes}
use Rattle.k_optab.specs.TomlTable.{AreInKeyOrder, IsDocument, IsRefused, IsTold, document_faults, is_class_name, latency_in, number_fault, pair_fault, table_of}
use Rattle.k_top_exists.specs.Files.{TableIsAnswered, TellsOrRefuses}

-- ---- the keys of a document

-- the key stands before the first key of these nodes
abbrev is_first : List ℕ → Nodes → Bool
is_first k no_nodes = true
is_first k (node l x ns) = is_lt (slice_cmp nat_cmp k l)

-- the keys of these nodes stand in byte order, each once
abbrev InOrder : Nodes → Type 0
InOrder no_nodes = Unit {0}
InOrder (node k x ns) = (is_first k ns ≡ true) × InOrder ns

closed_first : (k : List ℕ) (ns : Nodes) → is_before k (close ns) ≡ is_first k ns
closed_first k no_nodes = refl
closed_first k (node l x ns) = refl

-- then so do those of the values that they stand for
closed_order : (ns : Nodes) → InOrder ns → AreInKeyOrder (close ns)
closed_order no_nodes is = tt
closed_order (node k x ns) is = (closed_first k ns ∙ is.0, closed_order ns is.1)

first_insert : (k l : List ℕ) (x : Node) (ns : Nodes) → is_lt (slice_cmp nat_cmp l k) ≡ true → is_first l ns ≡ true → is_first l (insert k x ns) ≡ true
first_insert k l x no_nodes below first = below
first_insert k l x (node m y ns) below first = by (slice_cmp nat_cmp k m)
  where
    by : (o : Ordering) → is_first l (match_ordering o (node k x (node m y ns)) (node m x ns) (node m y (insert k x ns))) ≡ true
    by Less = below
    by Equal = first
    by Greater = first

-- a key that is put in keeps the order
order_insert : (k : List ℕ) (x : Node) (ns : Nodes) → InOrder ns → InOrder (insert k x ns)
order_insert k x no_nodes is = (refl, tt)
order_insert k x (node l y ns) is = by (order_insert k x ns is.1) (slice_cmp nat_cmp k l) refl
  where
    by : InOrder (insert k x ns) → (o : Ordering) → slice_cmp nat_cmp k l ≡ o
        → InOrder (match_ordering o (node k x (node l y ns)) (node l x ns) (node l y (insert k x ns)))
    by later Less h = (ap is_lt h, is)
    by later Equal h = is
    by later Greater h = (first_insert k l x ns (ap is_lt (nat_list_cmp_total.antisymm l k ∙ ap ordering_reverse h)) is.0, later)

first_replace : (k l : List ℕ) (x : Node) (ns : Nodes) → is_first l (replace k x ns) ≡ is_first l ns
first_replace k l x no_nodes = refl
first_replace k l x (node m y ns) = by (same_key k m)
  where
    by : (same : Bool) → is_first l (if same then node m x ns else node m y (replace k x ns)) ≡ is_lt (slice_cmp nat_cmp l m)
    by true = refl
    by false = refl

-- another node at a key keeps it
order_replace : (k : List ℕ) (x : Node) (ns : Nodes) → InOrder ns → InOrder (replace k x ns)
order_replace k x no_nodes is = tt
order_replace k x (node l y ns) is = by (order_replace k x ns is.1) (same_key k l)
  where
    by : InOrder (replace k x ns) → (same : Bool) → InOrder (if same then node l x ns else node l y (replace k x ns))
    by later true = is
    by later false = (first_replace k l x ns ∙ is.0, later)

-- the nodes that an edit makes, if any, are in order
abbrev AreGood : Option Nodes → Type 0
AreGood None = Unit {0}
AreGood (Some ns) = InOrder ns

made_good : {A : Type 0} (o : Option A) (f : A → Nodes) → ((a : A) → InOrder (f a)) → AreGood (option_map f o)
made_good None f all = tt
made_good (Some a) f all = all a

keeps_at : (k : List ℕ) (what : Definition) (ns : Nodes) → InOrder ns → AreGood (at_key k what ns)
unfolding at_key
keeps_at k what ns is = by (get_node k ns)
  where
    by : (o : Option Node) → AreGood (at_found k what ns o)
    by None = order_insert k (new_node what) ns is
    by (Some x) = made_good (redefine what x) (λ y. replace k y ns) (λ y. order_replace k y ns is)

keeps_dots : (path : List (List ℕ)) (edit : Edit) → ((ns : Nodes) → InOrder ns → AreGood (edit ns)) → (ns : Nodes) → InOrder ns
    → AreGood (along_dots path edit ns)
unfolding along_dots
keeps_dots [] edit keeps ns is = keeps ns is
keeps_dots (k ∷ path) edit keeps ns is = by (get_node k ns)
  where
    by : (o : Option Node) → AreGood (by_dot k (along_dots path edit) ns o)
    by None = made_good (along_dots path edit no_nodes) (λ new. insert k (open_table dotted new) ns) (λ new. order_insert k (open_table dotted new) ns is)
    by (Some x) = made_good (dot_node (along_dots path edit) x) (λ new. replace k new ns) (λ new. order_replace k new ns is)

keeps_header : (path : List (List ℕ)) (edit : Edit) → ((ns : Nodes) → InOrder ns → AreGood (edit ns)) → (ns : Nodes) → InOrder ns
    → AreGood (along_header path edit ns)
unfolding along_header
keeps_header [] edit keeps ns is = keeps ns is
keeps_header (k ∷ path) edit keeps ns is = by (get_node k ns)
  where
    by : (o : Option Node) → AreGood (by_header k (along_header path edit) ns o)
    by None = made_good (along_header path edit no_nodes) (λ new. insert k (open_table implicit new) ns) (λ new. order_insert k (open_table implicit new) ns is)
    by (Some x) = made_good (header_node (along_header path edit) x) (λ new. replace k new ns) (λ new. order_replace k new ns is)

-- the document that was made, if any, has its keys in order
abbrev IsGood : Option Document → Type 0
IsGood None = Unit {0}
IsGood (Some doc) = InOrder doc.0

rooted_good : (o : Option Nodes) (path : List (List ℕ)) → AreGood o → IsGood (option_map (λ root. (root, path)) o)
rooted_good None path good = tt
rooted_good (Some root) path good = good

keeps_as : (doc : Document) (key : Key) (what : Definition) → InOrder doc.0 → IsGood (define_as doc key what)
keeps_as doc key (key_value d) is =
    rooted_good (along_header doc.1 (put key d) doc.0) doc.1
    (keeps_header doc.1 (put key d) (keeps_dots key.0 (at_key key.1 (key_value d)) (keeps_at key.1 (key_value d))) doc.0 is)
keeps_as doc key std_table is =
    rooted_good (along_header key.0 (at_key key.1 std_table) doc.0) (key.0 ++ key.1 ∷ []) (keeps_header key.0 (at_key key.1 std_table) (keeps_at key.1 std_table) doc.0 is)
keeps_as doc key array_table is =
    rooted_good (along_header key.0 (at_key key.1 array_table) doc.0) (key.0 ++ key.1 ∷ []) (keeps_header key.0 (at_key key.1 array_table) (keeps_at key.1 array_table) doc.0 is)

-- one more expression keeps the order
keeps_define : (doc : Document) (e : Expression) → InOrder doc.0 → IsGood (define doc e)
unfolding define
keeps_define doc e is = keeps_as doc e.0 e.1 is

-- what follows a document in order is in order
follows_good : (o : Option Document) (next : Document → Option Document) → IsGood o → ((doc : Document) → InOrder doc.0 → IsGood (next doc))
    → IsGood (option_and_then next o)
follows_good None next good keeps = tt
follows_good (Some doc) next good keeps = keeps doc good

step_good : (ended : Bool) (doc : Document) (o : Option (Expression × List ℕ)) (next : Document → List ℕ → Option Document) → InOrder doc.0
    → ((d : Document) (rest : List ℕ) → InOrder d.0 → IsGood (next d rest))
    → IsGood (if ended then Some doc else option_and_then (λ e. option_and_then (λ d. next d e.1) (define doc e.0)) o)
step_good true doc o next is keeps = is
step_good false doc None next is keeps = tt
step_good false doc (Some e) next is keeps = follows_good (define doc e.0) (λ d. next d e.1) (keeps_define doc e.0 is) (λ d good. keeps d e.1 good)

-- the lines of a document keep the order
keeps_lines : (n : ℕ) (doc : Document) (text : List ℕ) → InOrder doc.0 → IsGood (lines n doc text)
unfolding lines
keeps_lines zero doc text is = tt
keeps_lines (suc n) doc text is =
    step_good (length (skip_blank text) == 0) doc (line (skip_blank text)) (lines n) is (λ d rest good. keeps_lines n d rest good)

-- the keys of a document that is parsed stand in byte order
pub parsed_in_order : (text : List ℕ) (document : Members) → parse_document text ≡ Some document → AreInKeyOrder document
unfolding parse_document
parsed_in_order text document read =
    by (lines (suc (length text)) (no_nodes, []) (skip_bom text)) (keeps_lines (suc (length text)) (no_nodes, []) (skip_bom text) tt) read
  where
    by : (o : Option Document) → IsGood o → option_map (λ doc. close doc.0) o ≡ Some document → AreInKeyOrder document
    by None good h = absurd (none-some document h)
    by (Some doc) good h = let P : Members → Type 0 = AreInKeyOrder in subst P (same_Some (close doc.0) document h) (closed_order doc.0 good)

-- ---- the faults of a document

-- the fault is one of a key
abbrev IsOfKey : TableFault → Type 0
IsOfKey NotToml = ⊥
IsOfKey (UnknownKey key) = Unit {0}
IsOfKey (NotWhole key) = Unit {0}
IsOfKey (OutOfRange key number) = Unit {0}
IsOfKey Memory = ⊥

-- such a fault, if any
abbrev IsKeyFault : Option TableFault → Type 0
IsKeyFault None = Unit {0}
IsKeyFault (Some fault) = IsOfKey fault

number_fault_of : (key : List ℕ) (number : Option ℤ) → IsKeyFault (number_fault key number)
number_fault_of key None = tt
number_fault_of key (Some number) = by (int_le (pos 0) number && int_le number (pos 10000))
  where
    by : (b : Bool) → IsKeyFault (if b then None else Some (OutOfRange key number))
    by true = tt
    by false = tt

pair_fault_of : (key : List ℕ) (value : Data) → IsKeyFault (pair_fault key value)
pair_fault_of key value = by (is_class_name key)
  where
    by : (b : Bool) → IsKeyFault (if b then number_fault key (as_integer value) else Some (UnknownKey key))
    by true = number_fault_of key (as_integer value)
    by false = tt

-- the first of these faults, if any, is one of a key
abbrev IsFirstOfKey : List TableFault → Type 0
IsFirstOfKey [] = Unit {0}
IsFirstOfKey (fault ∷ faults) = IsOfKey fault

first_of_faults : (document : Members) → IsFirstOfKey (document_faults document)
first_of_faults no_members = tt
first_of_faults (member key value rest) = by (pair_fault key value) (pair_fault_of key value) (first_of_faults rest)
  where
    by : (o : Option TableFault) → IsKeyFault o → IsFirstOfKey (document_faults rest) → IsFirstOfKey (option_to_list o ++ document_faults rest)
    by None one later = later
    by (Some fault) one later = one

-- bytes whose document has a fault of a key first are refused
refused_by : (bytes : List ℕ) (fault : TableFault) → IsOfKey fault → IsTold bytes (Err fault) → (fault ≢ Memory) × IsRefused bytes fault
refused_by bytes NotToml of told = absurd of
refused_by bytes (UnknownKey key) of told = ((λ e. cc), told)
refused_by bytes (NotWhole key) of told = ((λ e. cc), told)
refused_by bytes (OutOfRange key number) of told = ((λ e. cc), told)
refused_by bytes Memory of told = absurd of

-- a document tells latencies, or has a first fault
told_by : (bytes : List ℕ) (document : Members) → IsDocument bytes document → AreInKeyOrder document → TellsOrRefuses bytes
told_by bytes document is order = by (document_faults document) refl (first_of_faults document)
  where
    by : (faults : List TableFault) → document_faults document ≡ faults → IsFirstOfKey faults → TellsOrRefuses bytes
    by [] none first = inl (map (latency_in document) classes, (document, is, order, ap (table_of document) none))
    by (fault ∷ faults) some first =
        let refused = refused_by bytes fault first (document, is, order, ap (table_of document) some) in inr (fault, refused.0, refused.1)

-- any bytes tell a table of latencies, or are refused
pub table_is_answered : TableIsAnswered
table_is_answered bytes = by (is_utf8 bytes) refl (parse_document bytes) refl
  where
    by : (utf8 : Bool) → is_utf8 bytes ≡ utf8 → (read : Option Members) → parse_document bytes ≡ read → TellsOrRefuses bytes
    by false other read at = inr (NotToml, (λ e. cc), λ document is. both_ways (is_utf8 bytes) other (is_utf8-from_IsUtf8 bytes is.0))
    by true utf8 None at = inr (NotToml, (λ e. cc), λ document is. none-some document (sym at ∙ is.1))
    by true utf8 (Some document) at = told_by bytes document (IsUtf8-from_is_utf8 bytes utf8, at) (parsed_in_order bytes document at)
