-- What is kept of scopes tells what each name means, and where it was declared.
use Rattle.std.proofs.Common.{◌≡◌, ℕ, ◌+◌, ◌≤◌, Bool, true, false, cond, List, [], ◌∷◌, ◌++◌, length, Option, Some, None, Result, Ok, Err, IsSome, OnOk, OnErr, is_ok, refl, sym, ap, ◌∙◌, subst, arith, eq-eqb, ne_eqb, reverse}
use Rattle.std.specs.Prelude.{◌||◌, is_some, String}
use Rattle.std.specs.Cmp.Lexicographic.{same_text, nat_list_eq_equiv}
use Rattle.std.specs.Map.{update}
use Rattle.std.specs.Str.{bytes_eq}
use Rattle.std.specs.String.{string_bytes}
use Rattle.std.proofs.lemmas.List.{reverse-append}
use Rattle.std.specs.declared.alloc.Global.{Global}
use Rattle.k_types_meaning.specs.declared.names.Meaning.{Meaning}
use Rattle.k_types_meaning.specs.Names.{Names, meaning_in, meaning_of, library, or_meaning}
use Rattle.k_types_names.specs.declared.scopes.Visible.{Visible}
use Rattle.k_types_names.specs.declared.scopes.Slot.{Slot}
use Rattle.k_types_names.specs.declared.scopes.Slot.TheVariants.{Opened, Named}
use Rattle.k_types_meaning.specs.Declarations.{entered, is_twice}
use Rattle.k_types_names.specs.Scoping.{innermost, outside, stands_in}
use Rattle.k_types_names.specs.Slots.{AllKnown, IsFrom, IsKept, entered_as, from, names_in, opened}

-- what is known of each name
abbrev Finder : Type 0
Finder = List ℕ → Option Visible

-- what a name means, by what is known of it
abbrev pub meant : Option Visible → Option Meaning
meant None = None
meant (Some known) = Some known.meaning

-- what a name means behind its entry
meaning-entered : (x : List ℕ) (meaning : Meaning) (names : Names) (q : List ℕ)
    → meaning_of (entered x meaning names) q ≡ cond (bytes_eq x q) (Some meaning) (meaning_of names q)
meaning-entered x meaning [] q =
    elim (bytes_eq x q) as (λ b. or_meaning (cond b (Some meaning) None) None ≡ cond b (Some meaning) None) [ true ↦ refl | false ↦ refl ]
meaning-entered x meaning (scope ∷ names) q =
    elim (bytes_eq x q) as (λ b. or_meaning (cond b (Some meaning) (meaning_in scope q)) (meaning_of names q) ≡ cond b (Some meaning) (or_meaning (meaning_in scope q) (meaning_of names q)))
    [ true ↦ refl | false ↦ refl ]

stands_either : (b : Bool) (meaning : Meaning) (other : Option Meaning) → is_some (cond b (Some meaning) other) ≡ cond b true (is_some other)
stands_either true meaning other = refl
stands_either false meaning other = refl

-- what stands in the innermost scope behind a declaration
stands-entered : (x : List ℕ) (meaning : Meaning) (names : Names) (q : List ℕ)
    → stands_in (innermost (entered x meaning names)) q ≡ cond (bytes_eq x q) true (stands_in (innermost names) q)
stands-entered x meaning [] q = stands_either (bytes_eq x q) meaning None
stands-entered x meaning (scope ∷ names) q = stands_either (bytes_eq x q) meaning (meaning_in scope q)

-- behind a declaration lies what lay before it
outside-entered : (x : List ℕ) (meaning : Meaning) (names : Names) → outside (entered x meaning names) ≡ outside names
outside-entered x meaning [] = refl
outside-entered x meaning (scope ∷ names) = refl

-- a name is there twice where it stands in the innermost scope or in that of the library
pub twice_is : (names : Names) (x : List ℕ) → (stands_in (innermost names) x || stands_in library x) ≡ is_twice names x
twice_is [] x = refl
twice_is (scope ∷ names) x = refl

module _ (x : List ℕ) (f : Finder) (hidden : Option Visible) (names : Names) (q : List ℕ) where
  -- what the newest name means, by whether it is asked for
  means_either : (known : Visible) → f x ≡ Some known → (b : Bool) → bytes_eq x q ≡ b → meant (cond b hidden (f q)) ≡ meaning_of names q
      → meant (f q) ≡ cond b (Some known.meaning) (meaning_of names q)
  means_either known is true same rest = ap (λ t. meant (f t)) (sym (same_text x q (sym same))) ∙ ap meant is
  means_either known is false other rest = rest

  entered_means : (depth : ℕ) (now : Option Visible) → f x ≡ now → IsFrom depth now → meant (update bytes_eq f x hidden q) ≡ meaning_of names q
      → meant (f q) ≡ meaning_of (entered_as x now names) q
  entered_means depth None is found rest = absurd found
  entered_means depth (Some known) is found rest =
      means_either known is (bytes_eq x q) refl rest ∙ sym (meaning-entered x known.meaning names q)

  stood_either : (depth : ℕ) (known : Visible) → f x ≡ Some known → known.depth ≡ depth → (b : Bool) → bytes_eq x q ≡ b
      → from (cond b hidden (f q)) depth ≡ stands_in (innermost names) q → from (f q) depth ≡ cond b true (stands_in (innermost names) q)
  stood_either depth known is deep true same rest =
      ap (λ t. from (f t) depth) (sym (same_text x q (sym same))) ∙ (ap (λ o. from o depth) is ∙ eq-eqb known.depth depth deep)
  stood_either depth known is deep false other rest = rest

  entered_stood : (depth : ℕ) (now : Option Visible) → f x ≡ now → IsFrom depth now → from (update bytes_eq f x hidden q) depth ≡ stands_in (innermost names) q
      → from (f q) depth ≡ stands_in (innermost (entered_as x now names)) q
  entered_stood depth None is found rest = absurd found
  entered_stood depth (Some known) is found rest =
      stood_either depth known is found (bytes_eq x q) refl rest ∙ sym (stands-entered x known.meaning names q)

-- each name means what is known of it
pub meant_is : (slots : List Slot) (f : Finder) → AllKnown slots f → (q : List ℕ) → meant (f q) ≡ meaning_of (names_in slots f) q
meant_is [] f all q = ap meant (all q)
meant_is (Opened ∷ slots) f all q = meant_is slots f all q
meant_is (Named name hidden ∷ slots) f all q =
    entered_means (string_bytes name) f hidden (names_in slots (update bytes_eq f (string_bytes name) hidden)) q (opened slots) (f (string_bytes name)) refl all.0
    (meant_is slots (update bytes_eq f (string_bytes name) hidden) all.1 q)

-- something known is from no deeper than where so many scopes are open
abbrev IsUpTo : ℕ → Option Visible → Type 0
IsUpTo depth None = Unit {0}
IsUpTo depth (Some known) = known.depth ≤ depth

up_to_more : (depth : ℕ) (o : Option Visible) → IsUpTo depth o → IsUpTo (1 + depth) o
up_to_more depth None most = tt
up_to_more depth (Some known) most = omega arith

up_to_from : (depth : ℕ) (o : Option Visible) → IsFrom depth o → IsUpTo depth o
up_to_from depth None found = absurd found
up_to_from depth (Some known) found = omega arith

up_to_either : (x : List ℕ) (f : Finder) (hidden : Option Visible) (depth : ℕ) (q : List ℕ) (b : Bool) → bytes_eq x q ≡ b → IsFrom depth (f x)
    → IsUpTo depth (cond b hidden (f q)) → IsUpTo depth (f q)
up_to_either x f hidden depth q true same found rest = subst (λ t. IsUpTo depth (f t)) (same_text x q (sym same)) (up_to_from depth (f x) found)
up_to_either x f hidden depth q false other found rest = rest

up_to : (slots : List Slot) (f : Finder) → AllKnown slots f → (q : List ℕ) → IsUpTo (opened slots) (f q)
up_to [] f all q = subst (IsUpTo 0) (sym (all q)) tt
up_to (Opened ∷ slots) f all q = up_to_more (opened slots) (f q) (up_to slots f all q)
up_to (Named name hidden ∷ slots) f all q =
    up_to_either (string_bytes name) f hidden (opened slots) q (bytes_eq (string_bytes name) q) refl all.0
    (up_to slots (update bytes_eq f (string_bytes name) hidden) all.1 q)

not_deeper : (depth : ℕ) (o : Option Visible) → IsUpTo depth o → from o (1 + depth) ≡ false
not_deeper depth None most = refl
not_deeper depth (Some known) most = ne_eqb known.depth (1 + depth) (λ same. absurd (omega arith))

-- a name stands in the innermost scope where it is known from there
pub stands_is : (slots : List Slot) (f : Finder) → AllKnown slots f → (q : List ℕ) → from (f q) (opened slots) ≡ stands_in (innermost (names_in slots f)) q
stands_is [] f all q = ap (λ o. from o 0) (all q)
stands_is (Opened ∷ slots) f all q = not_deeper (opened slots) (f q) (up_to slots f all q)
stands_is (Named name hidden ∷ slots) f all q =
    entered_stood (string_bytes name) f hidden (names_in slots (update bytes_eq f (string_bytes name) hidden)) q (opened slots) (f (string_bytes name)) refl all.0
    (stands_is slots (update bytes_eq f (string_bytes name) hidden) all.1 q)

-- what was put in place of a name is found there, and what was there put back gives what was
module _ (f g : Finder) (x : List ℕ) (now : Option Visible) (is : g ≡ update bytes_eq f x now) where
  found_here : g x ≡ now
  found_here = ap (λ h. h x) is ∙ ap (λ b. cond b now (f x)) (nat_list_eq_equiv.refl x)

  back_at : (q : List ℕ) (b : Bool) → bytes_eq x q ≡ b → cond b (f x) (g q) ≡ f q
  back_at q true same = ap f (same_text x q (sym same))
  back_at q false other = ap (λ h. h q) is ∙ ap (λ b. cond b now (f q)) other

  put_back : update bytes_eq g x (f x) ≡ f
  put_back = λ i q. back_at q (bytes_eq x q) refl i

-- a name is entered: what it meant is kept, and what it means now is known
module _ (slots : List Slot) (f g : Finder) (name : String Global) (hidden : Option Visible) (known : Visible) (y : List ℕ)
    (same : y ≡ string_bytes name) (was : hidden ≡ f y) (is : g ≡ update bytes_eq f y (Some known)) where
  put_at_name : g ≡ update bytes_eq f (string_bytes name) (Some known)
  put_at_name = is ∙ ap (λ t. update bytes_eq f t (Some known)) same

  known_now : g (string_bytes name) ≡ Some known
  known_now = found_here f g (string_bytes name) (Some known) put_at_name

  hidden_again : update bytes_eq g (string_bytes name) hidden ≡ f
  hidden_again = ap (λ o. update bytes_eq g (string_bytes name) o) (was ∙ ap f same) ∙ put_back f g (string_bytes name) (Some known) put_at_name

  pub names_added : names_in (Named name hidden ∷ slots) g ≡ entered (string_bytes name) known.meaning (names_in slots f)
  names_added =
      ap (λ o. entered_as (string_bytes name) o (names_in slots (update bytes_eq g (string_bytes name) hidden))) known_now
      ∙ ap (λ h. entered (string_bytes name) known.meaning (names_in slots h)) hidden_again

  pub kept_added : (depth : ℕ) → IsKept depth slots f → known.depth ≡ depth → IsKept depth (Named name hidden ∷ slots) g
  kept_added depth kept deep = record {
    counted = kept.counted;
    known_all = (
      subst (IsFrom (opened slots)) (sym known_now) (deep ∙ kept.counted),
      subst (AllKnown slots) (sym hidden_again) kept.known_all,
    );
  }

-- how many scopes are open is within the count of slots
pub opened_within : (slots : List Slot) → opened slots ≤ length slots
opened_within [] = omega arith
opened_within (Opened ∷ slots) = let rest : opened slots ≤ length slots = opened_within slots in omega arith
opened_within (Named name hidden ∷ slots) = let rest : opened slots ≤ length slots = opened_within slots in omega arith

-- while a scope is closed: the rest is kept, and the scopes outside stay
pub record IsClosing (depth : ℕ) (slots : List Slot) (f : Finder) (names : Names) : Type 0 where
  pub kept : IsKept depth slots f
  pub left : outside (names_in slots f) ≡ outside names

some_from : (depth : ℕ) (o : Option Visible) → IsFrom depth o → IsSome o
some_from depth None found = absurd found
some_from depth (Some known) found = refl

outside_known : (x : List ℕ) (depth : ℕ) (o : Option Visible) (names : Names) → IsFrom depth o → outside (entered_as x o names) ≡ outside names
outside_known x depth None names found = absurd found
outside_known x depth (Some known) names found = outside-entered x known.meaning names

module _ (depth : ℕ) (name : String Global) (hidden : Option Visible) (slots : List Slot) (f : Finder) (names : Names)
    (closing : IsClosing depth (Named name hidden ∷ slots) f names) where
  -- the name is known
  pub closing_known : IsSome (f (string_bytes name))
  closing_known = some_from (opened slots) (f (string_bytes name)) closing.kept.known_all.0

  -- what it meant is put back
  pub closing_name : (g : Finder) → g ≡ update bytes_eq f (string_bytes name) hidden → IsClosing depth slots g names
  closing_name g is = record {
    kept = record { counted = closing.kept.counted; known_all = subst (AllKnown slots) (sym is) closing.kept.known_all.1 };
    left = ap (λ h. outside (names_in slots h)) is
        ∙ (sym (outside_known (string_bytes name) (opened slots) (f (string_bytes name))
        (names_in slots (update bytes_eq f (string_bytes name) hidden)) closing.kept.known_all.0)
        ∙ closing.left);
  }

-- the scope is closed where it was opened
module _ (depth : ℕ) (slots : List Slot) (f : Finder) (names : Names) (closing : IsClosing depth (Opened ∷ slots) f names) where
  pub closed_depth : 1 ≤ depth
  closed_depth = let counted : depth ≡ 1 + opened slots = closing.kept.counted in omega arith

  pub closed_kept : (new : ℕ) → new + 1 ≡ depth → IsKept new slots f
  closed_kept new less =
      let counted : depth ≡ 1 + opened slots = closing.kept.counted in
      record { counted = omega arith; known_all = closing.kept.known_all }

-- one of two, by a result
pub either : {T E : Type 0} (r : Result T E) (P Q G : Type 0) → OnOk r P → OnErr r Q → (P → G) → (Q → G) → G
either (Ok x) P Q G p q f g = f p
either (Err e) P Q G p q f g = g q

pub on_ok : {T E : Type 0} (r : Result T E) (P Q : Type 0) → OnOk r P → (P → Q) → OnOk r Q
on_ok (Ok x) P Q p f = f p
on_ok (Err e) P Q p f = tt

-- a push for which there is room
pub pushed : {T E : Type 0} (r : Result T E) (len capacity : ℕ) → OnErr r (capacity ≤ len) → len + 1 ≤ capacity → is_ok r ≡ true
pushed (Ok x) len capacity full room = refl
pushed (Err e) len capacity full room = absurd (omega arith)

-- the slots, the newest first, behind a push
pub newest_first : {A : Type 0} (old new : List A) (x : A) → new ≡ old ++ x ∷ [] → reverse new ≡ x ∷ reverse old
newest_first old new x is = ap reverse is ∙ reverse-append old (x ∷ [])

-- while a scope is closed: the topmost slot is taken
pub closing_top : (depth : ℕ) (old new : List Slot) (slot top : Slot) (f : Finder) (names : Names) → old ≡ new ++ slot ∷ [] → slot ≡ top
    → IsClosing depth (reverse old) f names → IsClosing depth (top ∷ reverse new) f names
closing_top depth old new slot top f names is same closing =
    subst (λ slots. IsClosing depth slots f names) (newest_first new old slot is ∙ ap (λ (t : Slot). t ∷ reverse new) same) closing

-- no slot is left
pub closing_end : (depth : ℕ) (slots : List Slot) (f : Finder) (names : Names) → slots ≡ [] → IsClosing depth (reverse slots) f names
    → names_in (reverse slots) f ≡ outside names
closing_end depth slots f names is closing =
    let h : IsClosing depth [] f names = subst (λ s. IsClosing depth (reverse s) f names) is closing in
    ap (λ s. names_in (reverse s) f) is ∙ h.left

pub empty_of : {A : Type 0} (xs : List A) → length xs ≡ 0 → xs ≡ []
empty_of [] none = refl
empty_of (x ∷ xs) none = absurd (omega arith)
