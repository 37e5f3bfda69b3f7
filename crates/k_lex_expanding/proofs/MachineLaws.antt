-- What each step of the machine owes.
use Rattle.std.proofs.Common.{◌≡◌, ℕ, ◌+◌, ◌<◌, ◌≤◌, Bool, true, false, if◌then◌else◌, List, [], ◌∷◌, ◌++◌, Result, Ok, Err, length, ap, sym, subst, ◌∙◌, refl, arith, append_assoc, slice_get}
use Rattle.std.specs.Prelude.{nat_le}
use Rattle.std.proofs.lemmas.List.{append-nil}
use Rattle.std.proofs.lemmas.Bool.{le-leb, lt-leb}
use Rattle.k_lex_expansion.specs.declared.tokens.Listed.{Listed}
use Rattle.k_lex_expansion.specs.declared.macros.Macro.{Macro}
use Rattle.k_lex_expansion.specs.declared.macros.Chain.{Chain}
use Rattle.k_lex_expansion.specs.declared.failure.Failure.{Failure}
use Rattle.k_lex_expansion.specs.declared.failure.Failure.TheVariants as fault
use Rattle.k_lex_expansion.specs.Replacing.{replaced, asks}
use Rattle.k_lex_expansion.specs.Expansion.{Source, Work, Done, Call, Next, next, with_token, Expansions, by_itself, finished, put_in, Expands, Continues}
use Rattle.k_lex_expanding.specs.declared.calls.OpenCall.{OpenCall}
use Rattle.k_lex_expanding.specs.declared.calls.Frame.{Frame}
use Rattle.k_lex_expanding.specs.Macros.{body_of}
use Rattle.k_lex_expansion.specs.declared.arguments.Argument.{Argument}
use Rattle.k_lex_expanding.specs.Arguments.{Arguments, Passes}
use Rattle.k_lex_expanding.specs.Machine.{nothing_behind, source_at, with_tokens, Comes, Then, ended, CallComes, with_complete, with_waiting, Owes, Stands}
use Rattle.k_lex_expanding.proofs.ArgumentLaws.{asked, fails, none, from_first}

-- ---- a level

on_of : (macros : List Macro) (limit : ℕ) {w : Work} {s : Result Done Failure} → Continues macros limit (Ok w) s → Expands macros limit w s
on_of macros limit (Continues.on w r d) = d

one_more : (tokens : List Listed) (t : Listed) (r : Result Done Failure) → with_tokens (tokens ++ t ∷ []) r ≡ with_tokens tokens (with_token t r)
one_more tokens t (Ok d) = ap (λ (ts : List Listed). Ok (record d { tokens = ts })) (append_assoc tokens (t ∷ []) d.tokens)
one_more tokens t (Err failure) = refl

no_more : (r : Result Done Failure) → with_tokens [] r ≡ r
no_more (Ok d) = refl
no_more (Err failure) = refl

-- a token of the result
pub comes_kept : (macros : List Macro) (limit : ℕ) (tokens : List Listed) (w rest : Work) (t : Listed) (all : Result Done Failure) → next macros limit w ≡ Next.kept t rest
    → Comes macros limit (tokens ++ t ∷ []) (Ok rest) all → Comes macros limit tokens (Ok w) all
comes_kept macros limit tokens w rest t all is h = record {
  result = with_token t h.result;
  continues = Continues.on w (with_token t h.result) (Expands.kept w rest t h.result is (on_of macros limit h.continues));
  is = h.is ∙ one_more tokens t h.result;
}

-- a use whose body takes its place, or that fails
pub comes_goes : (macros : List Macro) (limit : ℕ) (tokens : List Listed) (w : Work) (new : Result Work Failure) (all : Result Done Failure) → next macros limit w ≡ Next.goes new
    → Comes macros limit tokens new all → Comes macros limit tokens (Ok w) all
comes_goes macros limit tokens w new all is h = record {
  result = h.result;
  continues = Continues.on w h.result (Expands.goes w new h.result is h.continues);
  is = h.is;
}

comes_failed : (macros : List Macro) (limit : ℕ) (tokens : List Listed) (failure : Failure) → Comes macros limit tokens (Err failure) (Err failure)
comes_failed macros limit tokens failure = record { result = Err failure; continues = Continues.failed failure; is = refl }

same_end : (limit : ℕ) (call : Call) (args : Expansions) → finished limit call args ≡ ended limit call.body call.names call.spaced call.rest.list call.rest.source args
same_end limit call (Ok args) = refl
same_end limit call (Err failure) = refl

-- a call
pub comes_call : (macros : List Macro) (limit : ℕ) (tokens : List Listed) (w : Work) (source : Source) (list : List Listed) (made : ℕ) (call : OpenCall) (all : Result Done Failure)
    → next macros limit w ≡ Next.calls (record { body = body_of (slice_get macros call.number); arguments = call.waiting; names = call.names; spaced = call.spaced; rest = record { list = list; source = source; made = made } })
    → call.complete ≡ [] → CallComes macros limit source tokens list made call all → Comes macros limit tokens (Ok w) all
comes_call macros limit tokens w source list made call all is complete h =
    let call_is : Call = record { body = body_of (slice_get macros call.number); arguments = call.waiting; names = call.names; spaced = call.spaced; rest = record { list = list; source = source; made = made } } in
    let first : Arguments macros limit (body_of (slice_get macros call.number)) [] call.waiting made h.args = subst (λ done. Arguments macros limit (body_of (slice_get macros call.number)) done call.waiting made h.args) complete h.arguments in
    let same : h.args ≡ first.args = from_first first.args h.args first.is in
    record {
      result = h.comes.result;
      continues = Continues.on w h.comes.result (Expands.calls w call_is first.args h.comes.result is first.expanded
          (subst (λ new. Continues macros limit new h.comes.result) (ap (ended limit (body_of (slice_get macros call.number)) call.names call.spaced list source) same ∙ sym (same_end limit call_is first.args)) h.comes.continues));
      is = h.comes.is;
    }

-- ---- calls that wait

owes_failed : (macros : List Macro) (limit : ℕ) (outer : Source) (frames : List Frame) (failure : Failure) → Owes macros limit outer frames (Err failure) (Err failure)
owes_failed macros limit outer [] failure = refl
owes_failed macros limit outer (waits ∷ frames) failure = refl

-- the first of two that hold of the same holds by what is proved of it
pub then_first : (P Q R : Result Done Failure → Type 0) → ((r : Result Done Failure) → P r → Q r) → Then P R → Then Q R
then_first P Q R to h = record { result = h.result; first = to h.result h.first; second = h.second }

-- what fails fails for all that wait
pub stands_failed : (macros : List Macro) (limit : ℕ) (outer : Source) (frames : List Frame) (tokens : List Listed) (failure : Failure) → Stands macros limit outer frames tokens (Err failure) (Err failure)
stands_failed macros limit outer frames tokens failure = record { result = Err failure; first = comes_failed macros limit tokens failure; second = owes_failed macros limit outer frames failure }

comes_over : (macros : List Macro) (limit : ℕ) (source : Source) (tokens : List Listed) (made : ℕ)
    → Comes macros limit tokens (Ok (record { list = []; source = source; made = made })) (Ok (record { tokens = tokens; source = source; made = made }))
comes_over macros limit source tokens made = record {
  result = Ok (record { tokens = []; source = source; made = made });
  continues = Continues.on _ _ (Expands.over (record { list = []; source = source; made = made }) (unfold next in refl));
  is = ap (λ (ts : List Listed). Ok (record { tokens = ts; source = source; made = made })) (sym (append-nil tokens));
}

-- the list is at its end, and all is expanded
pub stands_over : (macros : List Macro) (limit : ℕ) (outer : Source) (tokens : List Listed) (made : ℕ)
    → Stands macros limit outer [] tokens (Ok (record { list = []; source = outer; made = made })) (Ok (record { tokens = tokens; source = outer; made = made }))
stands_over macros limit outer tokens made = record {
  result = Ok (record { tokens = tokens; source = outer; made = made });
  first = comes_over macros limit outer tokens made;
  second = refl;
}

-- the list of an argument is at its end
pub stands_next : (macros : List Macro) (limit : ℕ) (outer : Source) (waits : Frame) (frames : List Frame) (tokens : List Listed) (made : ℕ) (all : Result Done Failure)
    → Then (CallComes macros limit (source_at frames outer) waits.behind.tokens waits.behind.list made (with_complete waits.call waits.written tokens)) (λ r. Owes macros limit outer frames r all)
    → Stands macros limit outer (waits ∷ frames) tokens (Ok (record { list = []; source = nothing_behind; made = made })) all
stands_next macros limit outer waits frames tokens made all h = record {
  result = Ok (record { tokens = tokens; source = nothing_behind; made = made });
  first = comes_over macros limit nothing_behind tokens made;
  second = h;
}

-- ---- an argument is begun

itself : (limit made : ℕ) (ts : List Listed) (b : Bool) → nat_le (made + length ts) limit ≡ b
    → by_itself limit ts made ≡ (if b then Ok (record { list = ts; source = nothing_behind; made = made + length ts }) else Err fault.TokensMany)
itself limit made ts b is = ap (λ (x : Bool). chosen x) is
  where
    chosen : Bool → Result Work Failure
    chosen x = if x then Ok (record { list = ts; source = nothing_behind; made = made + length ts }) else Err fault.TokensMany

-- once it is expanded, the call goes on
pub begins : (macros : List Macro) (limit : ℕ) (outer : Source) (frames : List Frame) (tokens list : List Listed) (made total : ℕ) (call : OpenCall) (ts : List Listed) (all : Result Done Failure)
    → asks (length call.complete) (body_of (slice_get macros call.number)) ≡ true → total ≡ made + length ts → total ≤ limit
    → Stands macros limit outer (record { call = call; written = ts; behind = record { list = list; tokens = tokens } } ∷ frames) [] (Ok (record { list = ts; source = nothing_behind; made = total })) all
    → Then (CallComes macros limit (source_at frames outer) tokens list made (with_waiting call ts)) (λ r. Owes macros limit outer frames r all)
begins macros limit outer frames tokens list made total call ts all is total_is within h = by h.result
    (subst (λ r. Continues macros limit (by_itself limit ts made) r) (sym (h.first.is ∙ no_more h.first.result))
    (subst (λ w. Continues macros limit w h.first.result) (ap (λ (n : ℕ). Ok (record { list = ts; source = nothing_behind; made = n })) total_is ∙ sym (itself limit made ts true (le-leb (made + length ts) limit fits))) h.first.continues))
    h.second
  where
    fits : made + length ts ≤ limit
    fits = omega (arith, total_is, within)

    frame : Frame
    frame = record { call = call; written = ts; behind = record { list = list; tokens = tokens } }

    body : List Chain
    body = body_of (slice_get macros call.number)

    by : (r : Result Done Failure) → Continues macros limit (by_itself limit ts made) r → Owes macros limit outer (frame ∷ frames) r all
        → Then (CallComes macros limit (source_at frames outer) tokens list made (with_waiting call ts)) (λ r. Owes macros limit outer frames r all)
    by (Ok d) c o = record {
      result = o.result;
      first = record { args = o.first.args; arguments = asked macros limit body call.complete ts call.waiting made d o.first.args is c o.first.arguments; comes = o.first.comes };
      second = o.second;
    }
    by (Err failure) c o = record {
      result = Err failure;
      first = record { args = Err failure; arguments = fails macros limit body call.complete ts call.waiting made failure is c; comes = comes_failed macros limit tokens failure };
      second = subst (λ x. Owes macros limit outer frames (Err failure) x) (sym o) (owes_failed macros limit outer frames failure);
    }

-- it would be too much
pub begins_many : (macros : List Macro) (limit : ℕ) (outer : Source) (frames : List Frame) (tokens list : List Listed) (made : ℕ) (call : OpenCall) (ts : List Listed)
    → asks (length call.complete) (body_of (slice_get macros call.number)) ≡ true → limit < made + length ts
    → Then (CallComes macros limit (source_at frames outer) tokens list made (with_waiting call ts)) (λ r. Owes macros limit outer frames r (Err fault.TokensMany))
begins_many macros limit outer frames tokens list made call ts is beyond = record {
  result = Err fault.TokensMany;
  first = record {
    args = Err fault.TokensMany;
    arguments = fails macros limit (body_of (slice_get macros call.number)) call.complete ts call.waiting made fault.TokensMany is
        (subst (λ w. Continues macros limit w (Err fault.TokensMany)) (sym (itself limit made ts false (lt-leb (made + length ts) limit beyond))) (Continues.failed fault.TokensMany));
    comes = comes_failed macros limit tokens fault.TokensMany;
  };
  second = owes_failed macros limit outer frames fault.TokensMany;
}

-- arguments that are not asked for were passed over
pub passed : (macros : List Macro) (limit : ℕ) (source : Source) (tokens list : List Listed) (made : ℕ) (call : OpenCall) (complete : List Argument) (waiting : List (List Listed)) (all : Result Done Failure)
    → Passes (body_of (slice_get macros call.number)) call.complete call.waiting complete waiting
    → CallComes macros limit source tokens list made (record call { complete = complete; waiting = waiting }) all → CallComes macros limit source tokens list made call all
passed macros limit source tokens list made call complete waiting all passes h = record { args = h.args; arguments = passes macros limit made h.args h.arguments; comes = h.comes }

-- all arguments are there
pub finishes : (macros : List Macro) (limit : ℕ) (outer : Source) (frames : List Frame) (tokens list : List Listed) (made : ℕ) (call : OpenCall) (complete : List Argument) (new : Result Work Failure) (all : Result Done Failure)
    → Passes (body_of (slice_get macros call.number)) call.complete call.waiting complete []
    → put_in limit call.names call.spaced (replaced complete (body_of (slice_get macros call.number))) (record { list = list; source = source_at frames outer; made = made }) ≡ new
    → Stands macros limit outer frames tokens new all
    → Then (CallComes macros limit (source_at frames outer) tokens list made call) (λ r. Owes macros limit outer frames r all)
finishes macros limit outer frames tokens list made call complete new all passes is h = record {
  result = h.result;
  first = record {
    args = Ok (complete, made);
    arguments = passes macros limit made (Ok (complete, made)) (none macros limit (body_of (slice_get macros call.number)) complete made);
    comes = subst (λ w. Comes macros limit tokens w h.result) (sym is) h.first;
  };
  second = h.second;
}
