-- What the items of a source come to, one after the other.
use Rattle.std.proofs.Common.{ℕ, zero, suc, ◌+◌, ◌<◌, ◌≤◌, ◌≡◌, refl, sym, ap, ◌∙◌, subst, arith, Bool, true, List, [], ◌∷◌, ◌++◌, length, map, sum, take, drop, get_or, append_assoc, append-nil, length-append, Result, Ok, Err}
use Rattle.std.proofs.lemmas.List.{drop-drop, drop_at}
use Rattle.std.proofs.lemmas.List.Sums.{sum-map, sum_by-cons}
use Rattle.k_num.specs.declared.place.Place.{Place}
use Rattle.k_tree.specs.Count.{item_count}
use Rattle.k_tree.specs.declared.tree.declaration.Declarator.{Declarator}
use Rattle.k_tree.specs.declared.tree.statement.Stmt.{Stmt}
use Rattle.k_tree.specs.declared.tree.unit.Head.{Head}
use Rattle.k_tree.specs.declared.tree.unit.Item.{Item}
use Rattle.k_tree.specs.declared.tree.unit.Item.TheVariants as item
use Rattle.k_types_meaning.specs.declared.fault.TypeFault.{TypeFault}
use Rattle.k_types_meaning.specs.declared.names.Signature.{Signature}
use Rattle.k_types_meaning.specs.declared.tree.unit.TFunc.{TFunc}
use Rattle.k_types_meaning.specs.declared.tree.unit.TObject.{TObject}
use Rattle.k_tree.specs.declared.tokens.word.Word.{Word}
use Rattle.k_types_meaning.specs.Declarations.{Saying, saying}
use Rattle.k_types_meaning.specs.Functions.{function_judged, names_behind_head, prototype_judged}
use Rattle.k_types_meaning.specs.Made.{Made, Fine, Faulty, both, then_made}
use Rattle.k_types_meaning.specs.Names.{Names}
use Rattle.k_types_meaning.specs.Units.{FileKnown, Parts, Placed, all_names, defined_in, is_name, item_placed, items_placed, object_placed, objects_placed, parts_of_both}
use Rattle.k_types_rules.specs.Views.{Refuses}
use Rattle.k_types_declarations.specs.Results.{PlacesObjects}
use Rattle.k_types.specs.declared.item.File.{File}
use Rattle.k_types.specs.Heads.{IsFile}
use Rattle.k_types.specs.Functions.{Declares, GivesFunction}
use Rattle.k_types.specs.Items.{GivesParts, PlacesItems, known_in}
use Rattle.k_types.proofs.Faults.{refuses_first, refuses_then}
use Rattle.k_types.proofs.Heads.{file_entered}
use Rattle.k_types.proofs.Rests.{rest_from, nothing_from}

-- one item more at the front of a list
take_next : {A : Type 0} (xs : List A) (n : ℕ) (y : A) (ys : List A) → drop n xs ≡ y ∷ ys → take (n + 1) xs ≡ take n xs ++ y ∷ []
take_next [] zero y ys is = cc
take_next [] (suc n) y ys is = cc
take_next (x ∷ xs) zero y ys is = let e : x ≡ y = cc in ap (λ z. z ∷ []) e
take_next (x ∷ xs) (suc n) y ys is =
    let e : suc n + 1 ≡ suc (n + 1) = omega arith in
    ap (λ k. take k (x ∷ xs)) e ∙ ap (λ zs. x ∷ zs) (take_next xs n y ys is)

-- the nodes of items are those of the first and of the others
nodes_first : (i : Item) (items : List Item) → sum (map item_count (i ∷ items)) ≡ item_count i + sum (map item_count items)
nodes_first i items = sum-map item_count (i ∷ items) ∙ (sum_by-cons item_count i items ∙ ap (λ n. item_count i + n) (sym (sum-map item_count items)))

-- what is left behind the first items of a rest
drop_next : {A : Type 0} (zs xs ys : List A) (n m : ℕ) → drop n zs ≡ xs ++ ys → m ≡ n + length xs → drop m zs ≡ ys
drop_next zs xs ys n m is count =
    ap (λ k. drop k zs) count ∙ (sym (drop-drop (length xs) n zs) ∙ (ap (drop (length xs)) is ∙ drop_at xs ys (length xs) refl))

-- a definition
module _ (defined : List (List ℕ)) (older newer : File) (head : Head) (file : IsFile older.known.names) where
  pub function_placed : (p : Place) (body : List Stmt) (close : Place) (f : TFunc) (rest : List (List ℕ)) → drop (length older.functions) defined ≡ head.name ∷ rest
      → function_judged defined (is_name (take (length older.functions) defined) head.name) older.known.names p head body close ≡ Fine f
      → newer.known.names ≡ names_behind_head defined older.known.names head → newer.objects ≡ older.objects → newer.functions ≡ older.functions ++ f ∷ []
      → PlacesItems defined (head.name ∷ []) older newer (item_placed defined (known_in defined older) (item.Function p head body close))
  function_placed p body close f rest next made names objects functions =
      let count : length newer.functions ≡ length older.functions + 1 = ap length functions ∙ length-append older.functions (f ∷ []) in
      record {
        parts = record { objects = []; functions = f ∷ [] };
        made = ap (λ m. then_made m (λ (g : TFunc). Fine (record { objects = []; functions = g ∷ [] }))) made;
        objects = objects ∙ sym (append-nil older.objects);
        functions = functions;
        counted = count;
        known = λ i. record {
          names = names i;
          objects = length (objects i);
          functions = (ap (λ n. take n defined) count ∙ take_next defined (length older.functions) head.name rest next) i;
        };
        file = subst IsFile (sym names) (file_entered older.known.names head.name _ file);
      }

  pub prototype_placed : (p : Place) (f : Signature) → prototype_judged defined older.known.names p head ≡ Fine f
      → newer.known.names ≡ names_behind_head defined older.known.names head → newer.objects ≡ older.objects → newer.functions ≡ older.functions
      → PlacesItems defined [] older newer (item_placed defined (known_in defined older) (item.Prototype p head))
  prototype_placed p f made names objects functions =
      let count : length newer.functions ≡ length older.functions + 0 = ap length functions ∙ omega arith in
      record {
        parts = record { objects = []; functions = [] };
        made = ap (λ m. then_made m (λ (g : Signature). Fine (record { objects = []; functions = [] }))) made;
        objects = objects ∙ sym (append-nil older.objects);
        functions = functions ∙ sym (append-nil older.functions);
        counted = count;
        known = λ i. record { names = names i; objects = length (objects i); functions = take (length (functions i)) defined };
        file = subst IsFile (sym names) (file_entered older.known.names head.name _ file);
      }

-- file objects leave the scope of the file the innermost
objects_file : (s : Saying) (known : FileKnown) (ds : List Declarator) → IsFile known.names → IsFile (objects_placed s known ds).after.names
objects_file s known [] file = file
objects_file s known (d ∷ ds) file = objects_file s (object_placed s known d).after ds (file_entered known.names d.name _ file)

pub objects_are_placed : (defined : List (List ℕ)) (older newer : File) (s : Saying) (p : Place) (list : List Declarator) (placed : Placed)
    → placed ≡ objects_placed s (known_in defined older) list → IsFile older.known.names → newer.functions ≡ older.functions
    → PlacesObjects (Ok tt) older.objects newer.objects newer.known.names (take (length older.functions) defined) (objects_placed s (known_in defined older) list)
    → PlacesItems defined [] older newer placed
objects_are_placed defined older newer s p list placed is file functions (objects, made, more, after) =
    let count : length newer.functions ≡ length older.functions + 0 = ap length functions ∙ omega arith in
    subst (PlacesItems defined [] older newer) (sym is)
    (record {
      parts = record { objects = objects; functions = [] };
      made = made;
      objects = more;
      functions = functions ∙ sym (append-nil older.functions);
      counted = count;
      known = (λ i. record { names = newer.known.names; objects = length newer.objects; functions = take (length (functions i)) defined }) ∙ sym after;
      file = subst IsFile (ap (λ (k : FileKnown). k.names) after) (objects_file s (known_in defined older) list file);
    })

-- a definition that is judged, as an item
pub function_gives : (defined : List (List ℕ)) (older newer : File) (p : Place) (head : Head) (body : List Stmt) (close : Place) (again : Bool) (count : ℕ) (f : TFunc)
    → IsFile older.known.names → ((rest : List (List ℕ)) × (drop (length older.functions) defined ≡ head.name ∷ rest))
    → again ≡ is_name (take count defined) head.name → count ≡ length older.functions
    → GivesFunction (Ok f) newer.known.names (function_judged defined again older.known.names p head body close) (names_behind_head defined older.known.names head)
    → newer.objects ≡ older.objects → newer.functions ≡ older.functions ++ f ∷ []
    → PlacesItems defined (head.name ∷ []) older newer (item_placed defined (known_in defined older) (item.Function p head body close))
function_gives defined older newer p head body close again count f file (rest, next) again_is count_is (made, names) objects functions =
    function_placed defined older newer head file p body close f rest next
    ((λ i. function_judged defined ((sym (again_is ∙ ap (λ n. is_name (take n defined) head.name) count_is)) i) older.known.names p head body close) ∙ made)
    names objects functions

pub function_refuses : (defined : List (List ℕ)) (older : File) (p : Place) (head : Head) (body : List Stmt) (close : Place) (again : Bool) (count : ℕ) (e : TypeFault)
    → again ≡ is_name (take count defined) head.name → count ≡ length older.functions
    → Refuses e (function_judged defined again older.known.names p head body close)
    → Refuses e (item_placed defined (known_in defined older) (item.Function p head body close)).made
function_refuses defined older p head body close again count e again_is count_is refuses =
    refuses_then e (function_judged defined (is_name (take (length older.functions) defined) head.name) older.known.names p head body close)
    (λ (g : TFunc). Fine (record { objects = []; functions = g ∷ [] }))
    (subst (λ b. Refuses e (function_judged defined b older.known.names p head body close)) (again_is ∙ ap (λ n. is_name (take n defined) head.name) count_is) refuses)

-- a prototype that is judged, as an item
pub prototype_gives : (defined : List (List ℕ)) (older newer : File) (p : Place) (head : Head) (i : Item) (result : Result (Unit {0}) TypeFault) → i ≡ item.Prototype p head
    → IsFile older.known.names
    → Declares result newer.known.names (prototype_judged defined older.known.names p head) (names_behind_head defined older.known.names head)
    → newer.objects ≡ older.objects → newer.functions ≡ older.functions
    → GivesParts result defined (defined_in i) older newer (item_placed defined (known_in defined older) i)
prototype_gives defined older newer p head i (Ok done) is file (f, made, names) objects functions =
    subst (λ (j : Item). PlacesItems defined (defined_in j) older newer (item_placed defined (known_in defined older) j)) (sym is)
    (prototype_placed defined older newer head file p f made names objects functions)
prototype_gives defined older newer p head i (Err e) is file refuses objects functions =
    subst (λ (j : Item). Refuses e (item_placed defined (known_in defined older) j).made) (sym is)
    (refuses_then e (prototype_judged defined older.known.names p head) (λ (g : Signature). Fine (record { objects = []; functions = [] })) refuses)

-- file objects that are declared, as an item
pub objects_give : (defined : List (List ℕ)) (older newer : File) (p : Place) (specs : List Word) (list : List Declarator) (i : Item) (s : Saying) (result : Result (Unit {0}) TypeFault)
    → i ≡ item.Objects p specs list → s ≡ saying true specs → IsFile older.known.names → newer.functions ≡ older.functions
    → ((functions : List (List ℕ)) → PlacesObjects result older.objects newer.objects newer.known.names functions
    (objects_placed s (record { names = older.known.names; objects = length older.objects; functions = functions }) list))
    → GivesParts result defined (defined_in i) older newer (item_placed defined (known_in defined older) i)
objects_give defined older newer p specs list i s (Ok done) is says file functions placed =
    subst (λ (j : Item). PlacesItems defined (defined_in j) older newer (item_placed defined (known_in defined older) j)) (sym is)
    (objects_are_placed defined older newer s p list (item_placed defined (known_in defined older) (item.Objects p specs list))
    (ap (λ t. objects_placed t (known_in defined older) list) (sym says)) file functions (placed (take (length older.functions) defined)))
objects_give defined older newer p specs list i s (Err e) is says file functions placed =
    subst (λ (j : Item). Refuses e (item_placed defined (known_in defined older) j).made) (sym is)
    (subst (λ t. Refuses e (objects_placed t (known_in defined older) list).made) says (placed (take (length older.functions) defined)))

-- what items come to behind these parts
abbrev parts_before : Parts → Made Parts → Made Parts
parts_before p (Fine q) = Fine (record { objects = p.objects ++ q.objects; functions = p.functions ++ q.functions })
parts_before p (Faulty f fs) = Faulty f fs

abbrev behind_parts : Parts → Placed → Placed
behind_parts p placed = record { made = parts_before p placed.made; after = placed.after }

-- So many items were judged: what they come to, before what the rest comes to where this is known, is what all come to.
pub record ItemsSoFar (defined : List (List ℕ)) (older now : File) (n : ℕ) (items : List Item) : Type 0 where
  pub parts : Parts
  pub objects : now.objects ≡ older.objects ++ parts.objects
  pub functions : now.functions ≡ older.functions ++ parts.functions
  pub leads : items_placed defined (known_in defined older) items ≡ behind_parts parts (items_placed defined (known_in defined now) (drop n items))
  pub file : IsFile now.known.names
  pub names : drop (length now.functions) defined ≡ all_names (map defined_in (drop n items))
  pub counted : length now.functions + length (all_names (map defined_in (drop n items))) ≡ length older.functions + length (all_names (map defined_in items))
  pub nodes : sum (map item_count (drop n items)) ≤ 262144

before_nothing : (m : Made Parts) → parts_before (record { objects = []; functions = [] }) m ≡ m
before_nothing (Fine q) = refl
before_nothing (Faulty f fs) = refl

-- none was judged
pub items_begin : (defined : List (List ℕ)) (file : File) (items : List Item) → IsFile file.known.names → drop (length file.functions) defined ≡ all_names (map defined_in items)
    → sum (map item_count items) ≤ 262144 → ItemsSoFar defined file file 0 items
items_begin defined file items is names nodes =
    let all = items_placed defined (known_in defined file) items in
    record {
      parts = record { objects = []; functions = [] };
      objects = sym (append-nil file.objects);
      functions = sym (append-nil file.functions);
      leads = λ i. record { made = sym (before_nothing all.made) i; after = all.after };
      file = is;
      names = names;
      counted = refl;
      nodes = nodes;
    }

joined_parts : Parts → Parts → Parts
joined_parts p q = record { objects = p.objects ++ q.objects; functions = p.functions ++ q.functions }

one_more : (p q : Parts) (m : Made Parts) → parts_before p (both (Fine q) m parts_of_both) ≡ parts_before (joined_parts p q) m
unfolding joined_parts
one_more p q (Fine r) = λ i. Fine (record {
  objects = sym (append_assoc p.objects q.objects r.objects) i;
  functions = sym (append_assoc p.functions q.functions r.functions) i;
})
one_more p q (Faulty f fs) = refl

module _ (defined : List (List ℕ)) (older now : File) (n : ℕ) (items : List Item) (i : Item) (sofar : ItemsSoFar defined older now n items)
    (inside : n < length items) (is : i ≡ get_or items n i) where
  rest : drop n items ≡ i ∷ drop (n + 1) items
  rest = rest_from items n i inside is

  whole : items_placed defined (known_in defined older) items ≡ behind_parts sofar.parts (items_placed defined (known_in defined now) (i ∷ drop (n + 1) items))
  whole = sofar.leads ∙ ap (λ is_. behind_parts sofar.parts (items_placed defined (known_in defined now) is_)) rest

  -- the names that it and the items behind it define
  pub names_here : drop (length now.functions) defined ≡ defined_in i ++ all_names (map defined_in (drop (n + 1) items))
  names_here = sofar.names ∙ ap (λ is_. all_names (map defined_in is_)) rest

  -- its nodes
  pub nodes_here : item_count i ≤ 262144
  nodes_here =
      let all : sum (item_count i ∷ map item_count (drop (n + 1) items)) ≤ 262144 = subst (λ is_. sum (map item_count is_) ≤ 262144) rest sofar.nodes in
      let sums : sum (item_count i ∷ map item_count (drop (n + 1) items)) ≡ item_count i + sum (map item_count (drop (n + 1) items)) = nodes_first i (drop (n + 1) items) in
      omega (arith, all, sums)

  -- one more was judged
  pub items_more : (newer : File) → PlacesItems defined (defined_in i) now newer (item_placed defined (known_in defined now) i) → ItemsSoFar defined older newer (n + 1) items
  unfolding joined_parts
  items_more newer placed =
      let here = item_placed defined (known_in defined now) i in
      let behind = items_placed defined here.after (drop (n + 1) items) in
      let left = all_names (map defined_in (drop (n + 1) items)) in
      let counts : length now.functions + length (defined_in i ++ left) ≡ length older.functions + length (all_names (map defined_in items)) =
      ap (λ is_. length now.functions + length (all_names (map defined_in is_))) (sym rest) ∙ sofar.counted in
      let both_counts : length (defined_in i ++ left) ≡ length (defined_in i) + length left = length-append (defined_in i) left in
      let grown : length newer.functions ≡ length now.functions + length (defined_in i) = placed.counted in
      let all_nodes : sum (item_count i ∷ map item_count (drop (n + 1) items)) ≤ 262144 = subst (λ is_. sum (map item_count is_) ≤ 262144) rest sofar.nodes in
      let sums : sum (item_count i ∷ map item_count (drop (n + 1) items)) ≡ item_count i + sum (map item_count (drop (n + 1) items)) = nodes_first i (drop (n + 1) items) in
      record {
        parts = joined_parts sofar.parts placed.parts;
        objects = placed.objects ∙ (ap (λ o. o ++ placed.parts.objects) sofar.objects ∙ append_assoc older.objects sofar.parts.objects placed.parts.objects);
        functions = placed.functions ∙ (ap (λ o. o ++ placed.parts.functions) sofar.functions ∙ append_assoc older.functions sofar.parts.functions placed.parts.functions);
        leads =
            whole
            ∙ ((λ j. record { made = parts_before sofar.parts (both (placed.made j) behind.made parts_of_both); after = behind.after })
            ∙ ((λ j. record { made = one_more sofar.parts placed.parts behind.made j; after = behind.after })
            ∙ ap (λ known. behind_parts (joined_parts sofar.parts placed.parts) (items_placed defined known (drop (n + 1) items))) (sym placed.known)));
        file = placed.file;
        names = drop_next defined (defined_in i) left (length now.functions) (length newer.functions) names_here grown;
        counted = omega arith;
        nodes = omega (arith, all_nodes, sums);
      }

  -- it has a fault
  behind_refuses : (f : TypeFault) (p : Parts) (m : Made Parts) → Refuses f m → Refuses f (parts_before p m)
  behind_refuses f p (Fine q) refuses = refuses_first f (Fine q) (Fine q) (λ a b. Fine (joined_parts p q)) refuses
  behind_refuses f p (Faulty g gs) refuses = refuses

  pub items_fail : (f : TypeFault) → Refuses f (item_placed defined (known_in defined now) i).made → Refuses f (items_placed defined (known_in defined older) items).made
  items_fail f refuses =
      let here = item_placed defined (known_in defined now) i in
      let behind = items_placed defined here.after (drop (n + 1) items) in
      subst (λ (p : Placed). Refuses f p.made) (sym whole)
      (behind_refuses f sofar.parts (both here.made behind.made parts_of_both) (refuses_first f here.made behind.made parts_of_both refuses))

-- all were judged
pub items_end : (defined : List (List ℕ)) (older now : File) (n : ℕ) (items : List Item) → ItemsSoFar defined older now n items → length items ≤ n
    → PlacesItems defined (all_names (map defined_in items)) older now (items_placed defined (known_in defined older) items)
items_end defined older now n items sofar end =
    let nothing : drop n items ≡ [] = nothing_from items n end in
    let all : items_placed defined (known_in defined older) items ≡ record { made = Fine sofar.parts; after = known_in defined now } =
    sofar.leads ∙ (ap (λ is_. behind_parts sofar.parts (items_placed defined (known_in defined now) is_)) nothing
    ∙ (λ j. record { made = Fine (record { objects = append-nil sofar.parts.objects j; functions = append-nil sofar.parts.functions j }); after = known_in defined now })) in
    let counts : length now.functions + 0 ≡ length older.functions + length (all_names (map defined_in items)) =
    ap (λ is_. length now.functions + length (all_names (map defined_in is_))) (sym nothing) ∙ sofar.counted in
    record {
      parts = sofar.parts;
      made = ap (λ (p : Placed). p.made) all;
      objects = sofar.objects;
      functions = sofar.functions;
      counted = omega (arith, counts);
      known = sym (ap (λ (p : Placed). p.after) all);
      file = sofar.file;
    }
