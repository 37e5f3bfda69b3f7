-- Worked examples.
use Rattle.std.proofs.Common.{Bool, true, false, [], ◌∷◌, Some, None, Ok, refl, ◌≡◌, Err, sym, subst}
use Rattle.std.specs.Prelude.{codes}
use Rattle.k_tree.specs.declared.tokens.TokenKind.TheVariants as t
use Rattle.k_lex_pieces.specs.declared.fault.Refusal.TheVariants as r
use Rattle.k_lex_pieces.specs.Pieces.{piece_by}
use Rattle.k_lex_groups.specs.Steps.{Opens}
use Rattle.k_lex_expansion.specs.Laws.{PlainListsStay}
use Rattle.k_lex_lines.specs.declared.lines.Placed.{Placed}
use Rattle.k_lex_lines.specs.declared.lines.Fault.{Fault}
use Rattle.k_lex_lines.specs.declared.rules.Sizes.{Sizes}
use Rattle.k_lex_lines.specs.declared.rules.Count.{Count}
use Rattle.k_lex_lines.specs.declared.lines.Wrong.TheVariants as wrong
use Rattle.k_lex_lines.specs.Lines.{fault_at}
use Rattle.k_lex_lines.specs.Text.{used, use_of, in_condition, Text, Follows}
use Rattle.k_lex_lines.specs.declared.state.State.{State}
use Rattle.k_lex_lines.specs.Reading.{start, opening, knowing, Reads, ReadsOn}
use Rattle.k_lex_lines.specs.Laws.{plain_rules, at, word_at, AreOwn, AlternativesGive, SecondElseIsStray, OpenIfIsAtIf, empty_macro, FoundNameHolds, macro_of_one, CutUseIsRefused}
use Rattle.k_lex_lines.proofs.Plain.{Stays, text_stays, one_unused}
use Rattle.k_tree.specs.declared.tokens.Token.{Token}
use Rattle.k_num.specs.declared.numbers.Kind.TheVariants.{I32}
use Rattle.k_lex_conditions.specs.Trees.{operand, Ranked}
use Rattle.k_lex_conditions.specs.Conditions.{Condition}
use Rattle.k_lex_expansion.specs.declared.failure.Failure.TheVariants as failure
use Rattle.k_lex_expansion.specs.Expansion.{next, Expands, Continues}
use Rattle.k_lex_expansion.specs.Listing.{unhidden}
use Rattle.k_lex_lines.specs.Directives.{Evaluates}

abbrev none_read : Sizes
none_read = record { tokens = 0; bytes = 0 }

abbrev one_read : Sizes
one_read = record { tokens = 1; bytes = 1 }

-- an `#if` in the first line, whose last group is read or not
abbrev if_open : Bool → Bool → Bool → Opens
if_open waits on ends = record { place = at 1; waits = waits; reads = on; ends = ends } ∷ []

-- the name x is its own token
x_is_own : AreOwn [] plain_rules.limits none_read (word_at 4 (codes "x") ∷ []) (record { what = t.Name (codes "x"); place = at 4 } ∷ [])
unfolding piece_by
x_is_own = AreOwn.token none_read (word_at 4 (codes "x")) [] (t.Name (codes "x")) [] refl refl refl (AreOwn.no_token one_read)

pub alternatives_give : PlainListsStay → AlternativesGive
alternatives_give plain =
    let found : Stays [] plain_rules.limits (Some (fault_at (wrong.Lexical r.BadDirective) (at 5))) 0 none_read (word_at 4 (codes "x") ∷ []) (record { what = t.Name (codes "x"); place = at 4 } ∷ []) =
    text_stays plain [] plain_rules.limits (Some (fault_at (wrong.Lexical r.BadDirective) (at 5))) 0 x_is_own in
    let here : State = record { macros = []; opens = if_open false true true; count = found.count } in
    let first : State = opening (if_open true false false) start in
    let second : State = opening (if_open false true true) start in
    Reads.moves start first _ _ _ refl
    (Reads.moves first first _ _ _ refl
    (Reads.moves first second _ _ _ refl
    (Reads.replaces second _ _ (word_at 4 (codes "x") ∷ []) (Ok (record { what = t.Name (codes "x"); place = at 4 } ∷ [], found.count)) _ refl found.text
    (ReadsOn.on (record { what = t.Name (codes "x"); place = at 4 } ∷ []) here _ (Ok [])
    (Reads.moves here (opening [] here) _ _ _ refl (Reads.over (opening [] here)))))))

pub second_else_is_stray : SecondElseIsStray
second_else_is_stray =
    let first : State = opening (if_open false true false) start in
    let second : State = opening (if_open false false false) start in
    let third : State = opening (if_open false false true) start in
    Reads.moves start first _ _ _ refl
    (Reads.moves first second _ _ _ refl
    (Reads.moves second second _ _ _ refl
    (Reads.moves second third _ _ _ refl
    (Reads.refuses third _ _ (fault_at wrong.StrayElse (at 5)) refl))))

pub open_if_is_at_if : OpenIfIsAtIf
open_if_is_at_if =
    let known : State = knowing (record { name = codes "A"; parameters = None; body = [] } ∷ []) start in
    let inside : State = opening (record { place = at 2; waits = false; reads = true; ends = false } ∷ []) known in
    Reads.moves start known _ _ _ refl (Reads.moves known inside _ _ _ refl (Reads.over inside))

-- 1 in the place of `defined(A)`
abbrev one_at : Placed
one_at = word_at 2 (codes "1")

-- the number 1 is a condition that holds
one_holds : Condition [] (t.Number I32 1 ∷ []) true
one_holds = record { tree = operand (t.Number I32 1); ranked = Ranked.single 2 (t.Number I32 1) refl; spelled = refl; valued = refl }

-- its token is the number 1
one_is_number : used (in_condition (at 2)) None one_at [] none_read (Ok (record { tokens = unhidden one_at.token ∷ []; source = record { tokens = []; ends = true }; made = 0 }))
    ≡ Ok (record { what = t.Number I32 1; place = at 2 } ∷ [], record { made = 0; sizes = none_read }, [])
unfolding piece_by
one_is_number = refl

one_decided : PlainListsStay → Evaluates plain_rules (empty_macro ∷ []) (at 2) 0 (one_at ∷ []) (Ok (true, 0))
one_decided plain =
    let here : Count = record { made = 0; sizes = none_read } in
    let number : Token = record { what = t.Number I32 1; place = at 2 } in
    record {
      read = Ok (number ∷ [], here);
      text = Text.use_first here one_at [] (Ok (record { tokens = unhidden one_at.token ∷ []; source = record { tokens = []; ends = true }; made = 0 })) (Ok (number ∷ [], here))
          (plain (empty_macro ∷ []) 2097152 (use_of 0 one_at [] true) (one_unused (empty_macro ∷ []) (unhidden one_at.token) refl))
          (subst (λ x. Follows (empty_macro ∷ []) 2097152 (in_condition (at 2)) None x (Ok (number ∷ [], here))) (sym one_is_number)
          (Follows.on (number ∷ []) here [] (Ok ([], here)) (Text.over here)));
      decided = record { holds = Some true; decided = one_holds; is = refl };
    }

pub found_name_holds : PlainListsStay → FoundNameHolds
found_name_holds plain =
    let known : State = knowing (empty_macro ∷ []) start in
    let taken : Opens = record { place = at 2; waits = false; reads = true; ends = false } ∷ [] in
    let passed : Opens = record { place = at 2; waits = true; reads = false; ends = false } ∷ [] in
    let inside : State = opening taken known in
    Reads.moves start known _ _ _ refl
    (Reads.tests known _ _ (at 2) _ taken passed (Ok (true, 0)) (Err (fault_at wrong.ErrorLine (at 3))) refl (one_decided plain)
    (ReadsOn.on [] inside _ (Err (fault_at wrong.ErrorLine (at 3))) (Reads.refuses inside _ _ (fault_at wrong.ErrorLine (at 3)) refl)))

-- the name before the end of its text
cut_off : Expands (macro_of_one ∷ []) 2097152 (use_of 0 (word_at 2 (codes "F")) [] false) (Err failure.Cut)
unfolding next
cut_off = Expands.goes (use_of 0 (word_at 2 (codes "F")) [] false) (Err failure.Cut) (Err failure.Cut) refl (Continues.failed failure.Cut)

pub cut_use_is_refused : CutUseIsRefused
cut_use_is_refused =
    let known : State = knowing (macro_of_one ∷ []) start in
    let fault : Fault = fault_at (wrong.Lexical r.BadDirective) (at 3) in
    Reads.moves start known _ _ _ refl
    (Reads.replaces known _ _ (word_at 2 (codes "F") ∷ []) (Err fault) (Err fault) refl
    (Text.use_first known.count (word_at 2 (codes "F")) [] (Err failure.Cut) (Err fault) cut_off (Follows.failed fault))
    (ReadsOn.failed fault _))
