-- The body of a function: its size, its balance and its ranges.
use Rattle.std.proofs.Common.{ℕ, zero, suc, ◌≡◌, ◌+◌, ◌-◌, ◌≤◌, ◌&&◌, nat_le, Bool, true, false, List, [], ◌∷◌, ◌++◌, map, length, slice_get, Option, Some, None, refl, sym, subst, ap, ◌∙◌, arith}
use Rattle.std.proofs.lemmas.Bool.{and_from, and_parts, le-leb, or_from, true≢false}
use Rattle.std.proofs.lemmas.List.{length-append, append_assoc}
use Rattle.std.proofs.lemmas.Option.{none-some, same_Some}
use Rattle.k_num.specs.declared.place.Place.{Place}
use Rattle.k_types_meaning.specs.declared.types.TType.{TType}
use Rattle.k_types_meaning.specs.declared.types.TType.TheVariants as ttype
use Rattle.k_types_meaning.specs.declared.tree.statement.TStmt.{TStmt}
use Rattle.k_types_meaning.specs.declared.tree.unit.TFunc.{TFunc}
use Rattle.k_code.specs.declared.balance.Balance.{Balance}
use Rattle.k_code.specs.declared.code.Code.{Code}
use Rattle.k_code.specs.declared.instruction.Do.TheVariants as act
use Rattle.k_code.specs.declared.instruction.Instr.{Instr}
use Rattle.k_code.specs.Balances.{IsBalance, nothing_open, is_met, goes_on, jumps_to}
use Rattle.k_code.specs.Named.{is_there, text_is_short}
use Rattle.k_code.specs.Valid.{stays_within, class_fits, is_in_range}
use Rattle.k_evaluation.specs.States.{Program}
use Rattle.k_lower_code.specs.Functions.{serves, at_end, inside, function, function_code, falls_off}
use Rattle.k_lower_code.specs.Pieces.{instruction}
use Rattle.k_lower_code.specs.Statements.{lowered}
use Rattle.k_lower_code.specs.Stretches.{Site, Stretch, Inside, behind, behind_objects, in_order}
use Rattle.k_lower_valid.specs.Names.{outermost, all_right, stmt_right}
use Rattle.k_lower_valid.proofs.Arms.{no_leaves}
use Rattle.k_lower_valid.proofs.Texts.{Text, opened, Behind, as_before, by_jump, Fine, HasAt, Labelled, AllFine, has_first, labelled_first, labelled_rest, fine_both, HasTable, sound}
use Rattle.k_lower_valid.proofs.Stands.{moved}
use Rattle.k_lower_valid.proofs.Spans.{Spans, behind_spans, shifted_spans}
use Rattle.k_lower_valid.proofs.Blocks.{in_order_opens}
use Rattle.k_lower_valid.proofs.Declared.{serves_spans, serves_breaks, serves_continues}
use Rattle.k_lower_valid.proofs.Statements.{Fits, returns, statement_fits, order_fits}

-- the balance of a place that may have none
abbrev pub balance_or : Option Balance → Balance
balance_or None = nothing_open
balance_or (Some b) = b

-- the text of these instructions with these balances, from an entry on
abbrev pub text_of : List Instr → List Balance → ℕ → Text
text_of body labels entry = record {
  instr_at = λ n. slice_get body (n - entry);
  before = λ n. balance_or (slice_get labels (n - entry));
  entry = entry;
  end = entry + length body;
}

has_all : (body : List Instr) (labels : List Balance) (entry : ℕ) (instrs : List Instr) (p : ℕ) → ((k : ℕ) (i : Instr) → slice_get instrs k ≡ Some i → slice_get body (p + k) ≡ Some i)
    → HasAt (text_of body labels entry) (entry + p) instrs
has_all body labels entry [] p each = tt
has_all body labels entry (i ∷ instrs) p each = (
  subst (λ n. slice_get body n ≡ Some i) (let e : p + 0 ≡ (entry + p) - entry = omega arith in e) (each 0 i refl),
  subst (λ n. HasAt (text_of body labels entry) n instrs) (let e : entry + (p + 1) ≡ (entry + p) + 1 = omega arith in e)
      (has_all body labels entry instrs (p + 1) (λ k j is. subst (λ n. slice_get body n ≡ Some j) (let e : p + suc k ≡ (p + 1) + k = omega arith in e) (each (suc k) j is))),
)

labelled_all : (body : List Instr) (labels : List Balance) (entry : ℕ) (marks : List Balance) (p : ℕ) → ((k : ℕ) (b : Balance) → slice_get marks k ≡ Some b → slice_get labels (p + k) ≡ Some b)
    → Labelled (text_of body labels entry) (entry + p) marks
labelled_all body labels entry [] p each = tt
labelled_all body labels entry (b ∷ marks) p each = (
  ap balance_or (subst (λ n. slice_get labels n ≡ Some b) (let e : p + 0 ≡ (entry + p) - entry = omega arith in e) (each 0 b refl)),
  subst (λ n. Labelled (text_of body labels entry) n marks) (let e : entry + (p + 1) ≡ (entry + p) + 1 = omega arith in e)
      (labelled_all body labels entry marks (p + 1) (λ k c is. subst (λ n. slice_get labels n ≡ Some c) (let e : p + suc k ≡ (p + 1) + k = omega arith in e) (each (suc k) c is))),
)

-- one of the instructions that are fine
pub fine_at : (code : Code) (g : Text) (instrs : List Instr) (first k : ℕ) (i : Instr) → AllFine code g first instrs → slice_get instrs k ≡ Some i → Fine code g (first + k) i
fine_at code g [] first k i all is = absurd (none-some i is)
fine_at code g (j ∷ instrs) first zero i all is = subst (λ n. Fine code g n i) (let e : first ≡ first + 0 = omega arith in e) (subst (Fine code g first) (same_Some j i is) all.0)
fine_at code g (j ∷ instrs) first (suc k) i all is = subst (λ n. Fine code g n i) (let e : (first + 1) + k ≡ first + suc k = omega arith in e) (fine_at code g instrs (first + 1) k i all.1 is)

-- THE TEXT IS BALANCED, and in its ranges
module _ (code : Code) (entry : ℕ) (body : List Instr) (labels : List Balance) (all : AllFine code (text_of body labels entry) entry body)
    (first : (text_of body labels entry).before entry ≡ nothing_open) where
  abbrev g : Text
  g = text_of body labels entry

  abbrev pub before_of : ℕ → Balance
  before_of k = g.before (entry + k)

  pub is_balance : IsBalance entry body before_of
  is_balance = record {
    first = moved g entry (entry + 0) nothing_open (omega arith) first;
    next = λ k i is on. ap g.before (let e : entry + (k + 1) ≡ (entry + k) + 1 = omega arith in e) ∙ (fine_at code g body entry k i all is).next on;
    jumps = λ k i to is jump. (fine_at code g body entry k i all is).jumps (entry + to) jump;
    others = λ k i is off none. by k i (λ j earlier low there. none j earlier low there) ((fine_at code g body entry k i all is).others off);
    met = λ k i is. (fine_at code g body entry k i all is).met;
  }
    where
      by : (k : ℕ) (i : Instr) → ((j : ℕ) (earlier : Instr) → j ≤ k → slice_get body j ≡ Some earlier → jumps_to earlier.act (entry + (k + 1)) ≡ false) → Behind g (entry + k)
          → before_of (k + 1) ≡ before_of k
      by k i none (as_before same) = ap g.before (let e : entry + (k + 1) ≡ (entry + k) + 1 = omega arith in e) ∙ same
      by k i none (by_jump j earlier low there jump) =
          absurd (true≢false (sym (subst (λ n. jumps_to earlier.act n ≡ true) (let e : (entry + k) + 1 ≡ entry + (k + 1) = omega arith in e) jump) ∙ none (j - entry) earlier (omega (arith, low)) there))

  pub in_range : (k : ℕ) (i : Instr) → slice_get body k ≡ Some i → is_in_range code entry (length body) k i ≡ true
  in_range k i is =
      (let fine : Fine code g (entry + k) i = fine_at code g body entry k i all is in
      and_from (nat_le i.latency 10000) (is_there code i.act && (text_is_short i.act && (class_fits i.act && stays_within entry (length body) k i.act))) (le-leb i.latency 10000 fine.sound.latency)
      (and_from (is_there code i.act) (text_is_short i.act && (class_fits i.act && stays_within entry (length body) k i.act)) fine.sound.there
      (and_from (text_is_short i.act) (class_fits i.act && stays_within entry (length body) k i.act) fine.sound.short
      (and_from (class_fits i.act) (stays_within entry (length body) k i.act) fine.sound.class (fine.within (length body) k refl refl)))))

-- the end of a function is fine
falls : (code : Code) (g : Text) (program : Program) (place : Place) (n : ℕ) → HasTable program → g.before (n + 1) ≡ g.before n → Fine code g n (instruction program place act.FallOff)
unfolding goes_on jumps_to stays_within class_fits is_there is_met
falls code g program place n table next = record {
  sound = sound code program place act.FallOff table refl refl refl;
  next = λ holds. absurd (true≢false (sym holds));
  jumps = λ to holds. absurd (true≢false (sym holds));
  others = λ none. as_before next;
  met = refl;
  within = λ count k at all. refl;
}

falls_off_fine : (code : Code) (g : Text) (program : Program) (place : Place) (main : Bool) (n : ℕ) → HasTable program → g.before (n + 1) ≡ g.before n → Fine code g n (instruction program place (falls_off main))
falls_off_fine code g program place true n table next = returns code g program place None n table next
falls_off_fine code g program place false n table next = falls code g program place n table next

end_fine : (code : Code) (g : Text) (program : Program) (place : Place) (number : ℕ) (result : TType) (n : ℕ) → HasTable program → g.before (n + 1) ≡ g.before n
    → Fine code g n (instruction program place (at_end program number result))
end_fine code g program place number ttype.Void n table next = returns code g program place None n table next
end_fine code g program place number (ttype.Number kind) n table next = falls_off_fine code g program place _ n table next
end_fine code g program place number (ttype.Pointer target) n table next = falls_off_fine code g program place _ n table next

-- A FUNCTION, where its statements are right
module _ (code : Code) (program : Program) (table : HasTable program) (number : ℕ) (f : TFunc)
    (right : all_right outermost (map (stmt_right program code number) f.body) ≡ true) where
  abbrev w : Inside
  w = inside program number f

  abbrev taken : Stretch
  taken = serves program (length f.variables) f.close 0 f.params f.variables

  abbrev block : Stretch
  block = in_order program f.close (map (lowered w) f.body)

  abbrev front : Stretch
  front = behind taken block

  abbrev last : Instr
  last = instruction program f.close (at_end program number f.result)

  abbrev nothing_yet : Site
  nothing_yet = record { objects = 0; breaks = 0; continues = 0 }

  all_fit : (ss : List TStmt) → all_right outermost (map (stmt_right program code number) ss) ≡ true → Rattle.k_lower_valid.proofs.Statements.AllFit code w table (map (lowered w) ss) outermost
  all_fit [] all = tt
  all_fit (s ∷ ss) all = (
    statement_fits code w table s outermost (and_parts (stmt_right program code number s outermost) (all_right outermost (map (stmt_right program code number) ss)) all).0,
    all_fit ss (and_parts (stmt_right program code number s outermost) (all_right outermost (map (stmt_right program code number) ss)) all).1,
  )

  block_fits : Fits code w table block outermost
  block_fits = order_fits code w table f.close (map (lowered w) f.body) outermost (all_fit f.body right)

  front_spans : Spans code front 0 taken.opens
  front_spans =
      behind_spans code taken block 0 taken.opens taken.opens (omega arith) (serves_spans code program table (length f.variables) f.close 0 f.params f.variables)
      (shifted_spans code block 0 taken.opens taken.opens (omega arith) (block_fits.breaks refl) (block_fits.continues refl)
      (subst (λ n. Spans code block 0 n) (in_order_opens code program table f.close (map (lowered w) f.body)) block_fits.spans))

  -- its instructions
  code_is : (first : ℕ) → function_code program number f first ≡ front.code nothing_yet first ++ (last ∷ [])
  unfolding function
  code_is first = sym (append_assoc (taken.code nothing_yet first) (block.code (behind_objects taken.opens nothing_yet) (first + taken.size)) (last ∷ []))

  size_is : (function program number f).size ≡ front.size + 1
  unfolding function
  size_is = (let e : taken.size + (block.size + 1) ≡ (taken.size + block.size) + 1 = omega arith in e)

  pub function_sized : (first : ℕ) → length (function_code program number f first) ≡ (function program number f).size
  function_sized first =
      (let one : length (function_code program number f first) ≡ length (front.code nothing_yet first ++ (last ∷ [])) = ap length (code_is first) in
      (let two : length (front.code nothing_yet first ++ (last ∷ [])) ≡ length (front.code nothing_yet first) + 1 = length-append (front.code nothing_yet first) (last ∷ []) in
      (let three : length (front.code nothing_yet first) ≡ front.size = front_spans.sized nothing_yet first in
      (let four : (function program number f).size ≡ front.size + 1 = size_is in omega (arith, one, two, three, four)))))

  pub function_not_empty : 1 ≤ (function program number f).size
  function_not_empty = (let four : (function program number f).size ≡ front.size + 1 = size_is in omega (arith, four))

  abbrev labels_of : List Balance
  labels_of = front_spans.marks 0 0 0 ++ (opened 0 taken.opens 0 ∷ opened 0 taken.opens 0 ∷ [])

  -- what is so of its text
  module _ (first : ℕ) where
    abbrev body : List Instr
    body = front.code nothing_yet first ++ (last ∷ [])

    abbrev there : Text
    there = text_of body labels_of first

    labels : Labelled there first labels_of
    labels = subst (λ n. Labelled there n labels_of) (let e : first + 0 ≡ first = omega arith in e)
        (labelled_all body labels_of first labels_of 0 (λ k b is. subst (λ n. slice_get labels_of n ≡ Some b) (let e : k ≡ 0 + k = omega arith in e) is))

    has : HasAt there first body
    has = subst (λ n. HasAt there n body) (let e : first + 0 ≡ first = omega arith in e)
        (has_all body labels_of first body 0 (λ k i is. subst (λ n. slice_get body n ≡ Some i) (let e : k ≡ 0 + k = omega arith in e) is))

    ends : Labelled there (first + front.size) (opened 0 taken.opens 0 ∷ opened 0 taken.opens 0 ∷ [])
    ends = labelled_rest there first (front_spans.marks 0 0 0) (opened 0 taken.opens 0 ∷ opened 0 taken.opens 0 ∷ []) front.size (front_spans.long 0 0 0) labels

    front_labels : Labelled there first (front_spans.marks 0 0 0)
    front_labels = labelled_first there first (front_spans.marks 0 0 0) (opened 0 taken.opens 0 ∷ opened 0 taken.opens 0 ∷ []) labels

    body_long : length body ≡ front.size + 1
    body_long =
        (let two : length body ≡ length (front.code nothing_yet first) + 1 = length-append (front.code nothing_yet first) (last ∷ []) in
        (let three : length (front.code nothing_yet first) ≡ front.size = front_spans.sized nothing_yet first in omega (arith, two, three)))

    body_fine : AllFine code there first body
    body_fine =
        (let two : length body ≡ front.size + 1 = body_long in
        fine_both code there first (front.code nothing_yet first) (last ∷ []) front.size (front_spans.sized nothing_yet first)
        (front_spans.fine there nothing_yet 0 0 0 taken.opens first refl (omega arith) (omega arith) (has_first there first (front.code nothing_yet first) (last ∷ []) has) front_labels ends.0 (omega arith) (omega (arith, two))
        (no_leaves front.jumps.breaks there 0 (first + front.size) (opened 0 0 0) (or_from taken.jumps.breaks block.jumps.breaks (serves_breaks code program table (length f.variables) f.close 0 f.params f.variables) (block_fits.breaks refl)))
        (no_leaves front.jumps.continues there 0 (first + front.size) (opened 0 0 0) (or_from taken.jumps.continues block.jumps.continues (serves_continues code program table (length f.variables) f.close 0 f.params f.variables) (block_fits.continues refl))))
        (end_fine code there program f.close number f.result (first + front.size) table (ends.1.0 ∙ sym ends.0), tt))

    nothing_first : there.before first ≡ nothing_open
    nothing_first = front_spans.begins there 0 0 0 0 taken.opens first refl (omega arith) front_labels ends.0

    -- THE BALANCE AND THE RANGES of a function's instructions
    pub function_balance : (before : ℕ → Balance) × IsBalance first (function_code program number f first) before
    function_balance = subst (λ instrs. (before : ℕ → Balance) × IsBalance first instrs before) (sym (code_is first))
        (before_of code first body labels_of body_fine nothing_first, is_balance code first body labels_of body_fine nothing_first)

    pub function_in_range : (k : ℕ) (i : Instr) → slice_get (function_code program number f first) k ≡ Some i → is_in_range code first (length (function_code program number f first)) k i ≡ true
    function_in_range = subst (λ instrs. (k : ℕ) (i : Instr) → slice_get instrs k ≡ Some i → is_in_range code first (length instrs) k i ≡ true) (sym (code_is first))
        (in_range code first body labels_of body_fine nothing_first)
