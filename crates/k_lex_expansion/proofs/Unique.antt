-- A list has one expansion.
use Rattle.std.proofs.Common.{◌≡◌, ℕ, zero, suc, ◌+◌, arith, Bool, true, false, List, [], ◌∷◌, None, Result, Ok, Err, All, ap, sym, subst, ◌∙◌, refl}
use Rattle.k_lex_expansion.specs.declared.tokens.Listed.{Listed}
use Rattle.k_lex_expansion.specs.declared.macros.Macro.{Macro}
use Rattle.k_lex_expansion.specs.declared.macros.Chain.{Chain}
use Rattle.k_lex_expansion.specs.declared.failure.Failure.{Failure}
use Rattle.k_lex_expansion.specs.Replacing.{asks}
use Rattle.k_lex_expansion.specs.Expansion.{Work, Done, Call, Next, next, next_of, by_macro, used, with_token, Expansions, with_argument, by_itself, finished, Expands, Continues, AreExpanded}

-- ---- what an expansion of a list is, by what its first token is

record Kept (macros : List Macro) (limit : ℕ) (t : Listed) (rest : Work) (r : Result Done Failure) : Type 0 where
  result : Result Done Failure
  expands : Expands macros limit rest result
  is : r ≡ with_token t result

record Called (macros : List Macro) (limit : ℕ) (call : Call) (r : Result Done Failure) : Type 0 where
  args : Expansions
  expanded : AreExpanded macros limit call.body 0 call.arguments call.rest.made args
  continues : Continues macros limit (finished limit call args) r

abbrev By : List Macro → ℕ → Work → Next → Result Done Failure → Type 0
By macros limit w Next.over r = r ≡ Ok (record { tokens = []; source = w.source; made = w.made })
By macros limit w (Next.kept t rest) r = Kept macros limit t rest r
By macros limit w (Next.goes new) r = Continues macros limit new r
By macros limit w (Next.calls call) r = Called macros limit call r

by : (macros : List Macro) (limit : ℕ) {w : Work} {r : Result Done Failure} → Expands macros limit w r → By macros limit w (next macros limit w) r
by macros limit (Expands.over w e) = subst (λ n. By macros limit w n (Ok (record { tokens = []; source = w.source; made = w.made }))) (sym e) refl
by macros limit (Expands.kept w rest t r e d) = subst (λ n. By macros limit w n (with_token t r)) (sym e) (record { result = r; expands = d; is = refl })
by macros limit (Expands.goes w new r e d) = subst (λ n. By macros limit w n r) (sym e) d
by macros limit (Expands.calls w call args r e all d) = subst (λ n. By macros limit w n r) (sym e) (record { args = args; expanded = all; continues = d })

-- and of arguments, by whether the first is asked for

record Unasked (macros : List Macro) (limit : ℕ) (m : List Chain) (n made : ℕ) (ts : List Listed) (more : List (List Listed)) (r : Expansions) : Type 0 where
  others : Expansions
  expanded : AreExpanded macros limit m (n + 1) more made others
  is : r ≡ with_argument ts [] others

data Asked (macros : List Macro) (limit : ℕ) (m : List Chain) (n made : ℕ) (ts : List Listed) (more : List (List Listed)) : Expansions → Type 0 where
  asked : (d : Done) (others : Expansions) → Continues macros limit (by_itself limit ts made) (Ok d) → AreExpanded macros limit m (n + 1) more d.made others
      → Asked macros limit m n made ts more (with_argument ts d.tokens others)
  fails : (failure : Failure) → Continues macros limit (by_itself limit ts made) (Err failure) → Asked macros limit m n made ts more (Err failure)

abbrev ByAsked : Bool → List Macro → ℕ → List Chain → ℕ → ℕ → List Listed → List (List Listed) → Expansions → Type 0
ByAsked false macros limit m n made ts more r = Unasked macros limit m n made ts more r
ByAsked true macros limit m n made ts more r = Asked macros limit m n made ts more r

abbrev ByArguments : List Macro → ℕ → List Chain → ℕ → List (List Listed) → ℕ → Expansions → Type 0
ByArguments macros limit m n [] made r = r ≡ Ok ([], made)
ByArguments macros limit m n (ts ∷ more) made r = ByAsked (asks n m) macros limit m n made ts more r

by_arguments : (macros : List Macro) (limit : ℕ) {m : List Chain} {n : ℕ} {args : List (List Listed)} {made : ℕ} {r : Expansions} → AreExpanded macros limit m n args made r → ByArguments macros limit m n args made r
by_arguments macros limit (AreExpanded.none m n made) = refl
by_arguments macros limit (AreExpanded.unasked m n made ts more args e d) = subst (λ b. ByAsked b macros limit m n made ts more (with_argument ts [] args)) (sym e) (record { others = args; expanded = d; is = refl })
by_arguments macros limit (AreExpanded.asked m n made ts more d args e first others) = subst (λ b. ByAsked b macros limit m n made ts more (with_argument ts d.tokens args)) (sym e) (Asked.asked d args first others)
by_arguments macros limit (AreExpanded.fails m n made ts more failure e first) = subst (λ b. ByAsked b macros limit m n made ts more (Err failure)) (sym e) (Asked.fails failure first)

-- ---- two expansions of a list

ok_done : (d e : Done) → ◌≡◌ {A = Result Done Failure} (Ok d) (Ok e) → d ≡ e
ok_done d e is = cc

err_ok : (d : Done) (failure : Failure) {P : Type 0} → ◌≡◌ {A = Result Done Failure} (Ok d) (Err failure) → P
err_ok d failure is = absurd (cc is)

err_err : (a b : Failure) → ◌≡◌ {A = Result Done Failure} (Err a) (Err b) → a ≡ b
err_err a b is = cc

on_of : (macros : List Macro) (limit : ℕ) {w : Work} {s : Result Done Failure} → Continues macros limit (Ok w) s → Expands macros limit w s
on_of macros limit (Continues.on w r d) = d

failed_of : (macros : List Macro) (limit : ℕ) {failure : Failure} {s : Result Done Failure} → Continues macros limit (Err failure) s → s ≡ Err failure
failed_of macros limit (Continues.failed failure) = refl

same_asked : (macros : List Macro) (limit : ℕ) (m : List Chain) (n made : ℕ) (ts : List Listed) (more : List (List Listed)) (done : Done) (args : Expansions)
    → ((r : Result Done Failure) → Continues macros limit (by_itself limit ts made) r → Ok done ≡ r)
    → ((r : Expansions) → AreExpanded macros limit m (n + 1) more done.made r → args ≡ r)
    → {s : Expansions} → Asked macros limit m n made ts more s → with_argument ts done.tokens args ≡ s
same_asked macros limit m n made ts more done args first others (Asked.asked d rest c all) =
    let same : done ≡ d = ok_done done d (first (Ok d) c) in
    let behind : args ≡ rest = others rest (subst (λ (x : Done). AreExpanded macros limit m (n + 1) more x.made rest) (sym same) all) in
    ap (λ (x : Done). with_argument ts x.tokens args) same ∙ ap (with_argument ts d.tokens) behind
same_asked macros limit m n made ts more done args first others (Asked.fails failure c) = err_ok done failure (first (Err failure) c)

same_fails : (macros : List Macro) (limit : ℕ) (m : List Chain) (n made : ℕ) (ts : List Listed) (more : List (List Listed)) (failure : Failure)
    → ((r : Result Done Failure) → Continues macros limit (by_itself limit ts made) r → Err failure ≡ r)
    → {s : Expansions} → Asked macros limit m n made ts more s → ◌≡◌ {A = Expansions} (Err failure) s
same_fails macros limit m n made ts more failure first (Asked.asked d rest c all) = err_ok d failure (sym (first (Ok d) c))
same_fails macros limit m n made ts more failure first (Asked.fails other c) = ap Err (err_err failure other (first (Err other) c))

mutual
  unique : (macros : List Macro) (limit : ℕ) {w : Work} {r : Result Done Failure} → Expands macros limit w r → (s : Result Done Failure) → Expands macros limit w s → r ≡ s
  unique macros limit (Expands.over w e) s d = sym (subst (λ n. By macros limit w n s) e (by macros limit d))
  unique macros limit (Expands.kept w rest t r e first) s d =
      let other : Kept macros limit t rest s = subst (λ n. By macros limit w n s) e (by macros limit d) in
      ap (with_token t) (unique macros limit first other.result other.expands) ∙ sym other.is
  unique macros limit (Expands.goes w new r e first) s d = unique_on macros limit first s (subst (λ n. By macros limit w n s) e (by macros limit d))
  unique macros limit (Expands.calls w call args r e all first) s d =
      let other : Called macros limit call s = subst (λ n. By macros limit w n s) e (by macros limit d) in
      let same : args ≡ other.args = unique_arguments macros limit all other.args other.expanded in
      unique_on macros limit first s (subst (λ a. Continues macros limit (finished limit call a) s) (sym same) other.continues)

  unique_on : (macros : List Macro) (limit : ℕ) {w : Result Work Failure} {r : Result Done Failure} → Continues macros limit w r → (s : Result Done Failure) → Continues macros limit w s → r ≡ s
  unique_on macros limit (Continues.on w r first) s d = unique macros limit first s (on_of macros limit d)
  unique_on macros limit (Continues.failed failure) s d = sym (failed_of macros limit d)

  unique_arguments : (macros : List Macro) (limit : ℕ) {m : List Chain} {n : ℕ} {args : List (List Listed)} {made : ℕ} {r : Expansions} → AreExpanded macros limit m n args made r
      → (s : Expansions) → AreExpanded macros limit m n args made s → r ≡ s
  unique_arguments macros limit (AreExpanded.none m n made) s d = sym (by_arguments macros limit d)
  unique_arguments macros limit (AreExpanded.unasked m n made ts more args e first) s d =
      let other : Unasked macros limit m n made ts more s = subst (λ b. ByAsked b macros limit m n made ts more s) e (by_arguments macros limit d) in
      ap (with_argument ts []) (unique_arguments macros limit first other.others other.expanded) ∙ sym other.is
  unique_arguments macros limit (AreExpanded.asked m n made ts more done args e first others) s d =
      same_asked macros limit m n made ts more done args (λ r x. unique_on macros limit first r x) (λ r x. unique_arguments macros limit others r x)
      (subst (λ b. ByAsked b macros limit m n made ts more s) e (by_arguments macros limit d))
  unique_arguments macros limit (AreExpanded.fails m n made ts more failure e first) s d =
      same_fails macros limit m n made ts more failure (λ r x. unique_on macros limit first r x)
      (subst (λ b. ByAsked b macros limit m n made ts more s) e (by_arguments macros limit d))

pub one : (macros : List Macro) (limit : ℕ) (w : Work) (r s : Result Done Failure) → Expands macros limit w r → Expands macros limit w s → r ≡ s
one macros limit w r s d e = unique macros limit d s e

-- ---- a list without macros

pub stays : (macros : List Macro) (limit : ℕ) (ts : List Listed) (w : Work) → w.list ≡ ts → All (λ t. used macros t ≡ None) ts
    → Expands macros limit w (Ok (record { tokens = ts; source = w.source; made = w.made }))
stays macros limit [] w is all = Expands.over w (unfold next in ap (λ list. next_of macros limit list w) is)
stays macros limit (t ∷ ts) w is all =
    Expands.kept w (record w { list = ts }) t (Ok (record { tokens = ts; source = w.source; made = w.made }))
    (unfold next in (ap (λ list. next_of macros limit list w) is ∙ ap (λ m. by_macro limit m t (record w { list = ts })) (all zero t (omega arith))))
    (stays macros limit ts (record w { list = ts }) refl (λ k d lt. all (suc k) d (omega (arith, lt))))
