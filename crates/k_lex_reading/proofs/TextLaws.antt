-- What is told of text, use by use.
use Rattle.std.proofs.Common.{◌≡◌, ℕ, zero, suc, ◌+◌, ◌-◌, ◌<◌, ◌≤◌, List, [], ◌∷◌, ◌++◌, Option, Some, None, Result, Ok, Err, length, map, drop, ap, sym, subst, ◌∙◌, refl, append_assoc, arith, inl, inr}
use Rattle.std.specs.Prelude.{Bool, is_none}
use Rattle.std.proofs.lemmas.Bool.{cases_lt}
use Rattle.std.proofs.lemmas.List.{length-drop, append-nil}
use Rattle.k_num.specs.declared.place.Place.{Place}
use Rattle.k_tree.specs.declared.tokens.Token.{Token}
use Rattle.k_lex_expansion.specs.declared.tokens.Spelled.{Spelled}
use Rattle.k_lex_expansion.specs.declared.tokens.Listed.{Listed}
use Rattle.k_lex_expansion.specs.declared.macros.Macro.{Macro}
use Rattle.k_lex_expansion.specs.declared.failure.Failure.{Failure}
use Rattle.k_lex_expansion.specs.Listing.{unhidden}
use Rattle.k_lex_expansion.specs.Expansion.{Source, Done, Expands}
use Rattle.k_lex_expanding.specs.First.{work}
use Rattle.k_lex_expanding.specs.Machine.{left_of}
use Rattle.k_lex_lines.specs.declared.lines.Placed.{Placed}
use Rattle.k_lex_lines.specs.declared.lines.Fault.{Fault}
use Rattle.k_lex_lines.specs.declared.rules.Sizes.{Sizes}
use Rattle.k_lex_lines.specs.declared.rules.Count.{Count}
use Rattle.k_lex_lines.specs.Text.{Judge, Judged, TextRead, Used, leaving, used, use_of, before, failure_at, Text, Follows}
use Rattle.k_lex_reading.specs.declared.fault.ReadFault.{ReadFault}
use Rattle.k_lex_reading.specs.declared.fault.ReadFault.TheVariants as stop
use Rattle.k_lex_reading.specs.Told.{FailsAs}
use Rattle.k_lex_reading.specs.Texts.{WasJudged, WasUsed, TextFails, WasRead, TextStands}

-- the token of a text without its place
abbrev pub token : Placed → Spelled
token p = p.token

pub map_length : (ts : List Placed) → length (map token ts) ≡ length ts
map_length [] = refl
map_length (t ∷ ts) = ap suc (map_length ts)

-- tokens with how much there is
abbrev ok_of : List Token → Count → TextRead
ok_of us count = Ok (us, count)

-- what a use leaves
abbrev left_over : List Token → Count → List Placed → Used
left_over us count ts = Ok (us, count, ts)

before_none : (read : TextRead) → before [] read ≡ read
before_none (Ok (us, count)) = refl
before_none (Err e) = refl

drop_none : (n : ℕ) → ◌≡◌ {A = List Placed} (drop n []) []
drop_none zero = refl
drop_none (suc n) = refl

pub drop_all : (ts : List Placed) (n : ℕ) → length ts ≤ n → drop n ts ≡ []
drop_all [] n le = drop_none n
drop_all (t ∷ ts) zero le = let no : ⊥ = omega (arith, le) in absurd no
drop_all (t ∷ ts) (suc n) le = drop_all ts n (omega (arith, le))

pub map_drop : (n : ℕ) (ts : List Placed) → map token (drop n ts) ≡ drop n (map token ts)
map_drop zero ts = refl
map_drop (suc n) [] = refl
map_drop (suc n) (t ∷ ts) = map_drop n ts

-- what is left is dropped from the front
left_by : (ts : List Placed) (n : ℕ) → drop (length ts - (length ts - n)) ts ≡ drop n ts
left_by ts n = elim (cases_lt n (length ts)) [
  | inl lt ↦ ap (λ k. drop k ts) (let e : length ts - (length ts - n) ≡ n = omega (arith, lt) in e)
  | inr le ↦ ap (λ k. drop k ts) (let e : length ts - (length ts - n) ≡ length ts = omega (arith, le) in e) ∙ (drop_all ts (length ts) (omega arith) ∙ sym (drop_all ts n le))
]

left_of_source : (ts : List Placed) (behind : List Spelled) (n : ℕ) → map token ts ≡ behind → drop (length ts - length (drop n behind)) ts ≡ drop n ts
left_of_source ts behind n e =
    ap (λ k. drop (length ts - k) ts) (length-drop n behind ∙ ap (λ k. k - n) (ap length (sym e) ∙ map_length ts)) ∙ left_by ts n

before_before : (us vs : List Token) (read : TextRead) → before us (before vs read) ≡ before (us ++ vs) read
before_before us vs (Ok (ws, count)) = ap (λ (x : List Token). ok_of x count) (sym (append_assoc us vs ws))
before_before us vs (Err e) = refl

-- the use at the front of a text
pub used_first : (macros : List Macro) (limit : ℕ) (judge : Judge) (cut : Option Fault) (t : Placed) (behind : List Spelled) (taken : ℕ) (count : Count) (old new : List Token) (d : Done) (sizes : Sizes)
    → d.source ≡ left_of behind (is_none cut) taken → Expands macros limit (work (unhidden t.token ∷ []) behind (is_none cut) count.made) (Ok d)
    → WasJudged (judge t.place d.tokens count.sizes) sizes old new
    → WasUsed macros limit judge cut t behind taken count old (record { made = d.made; sizes = sizes }) new
used_first macros limit judge cut t behind taken count old new d sizes source_is expands j = record {
  us = j.us;
  added = j.added;
  leads = λ ts e read text.
      let total : Count = record { made = d.made; sizes = sizes } in
      let dropped : drop (length ts - length d.source.tokens) ts ≡ drop taken ts = ap (λ (s : Source). drop (length ts - length s.tokens) ts) source_is ∙ left_of_source ts behind taken e in
      let is : used judge cut t ts count.sizes (Ok d) ≡ Ok (j.us, total, drop taken ts) =
      ap (leaving d.made (drop (length ts - length d.source.tokens) ts)) j.is ∙ ap (λ (x : List Placed). left_over j.us total x) dropped in
      Text.use_first count t ts (Ok d) (before j.us read)
      (subst (λ (x : List Spelled). Expands macros limit (work (unhidden t.token ∷ []) x (is_none cut) count.made) (Ok d)) (sym e) expands)
      (subst (λ (u : Used). Follows macros limit judge cut u (before j.us read)) (sym is) (Follows.on j.us total (drop taken ts) read text));
}

-- the same where it is refused by the judge
pub judged_out : (e : ReadFault) (macros : List Macro) (limit : ℕ) (judge : Judge) (cut : Option Fault) (t : Placed) (behind : List Spelled) (count : Count) (d : Done)
    → Expands macros limit (work (unhidden t.token ∷ []) behind (is_none cut) count.made) (Ok d) → FailsAs e (judge t.place d.tokens count.sizes)
    → (ts : List Placed) → map token ts ≡ behind → TextFails e macros limit judge cut count (t ∷ ts)
judged_out stop.Memory macros limit judge cut t behind count d expands fails ts e = tt
judged_out (stop.Refused f) macros limit judge cut t behind count d expands fails ts e =
    let is : used judge cut t ts count.sizes (Ok d) ≡ Err f = ap (leaving d.made (drop (length ts - length d.source.tokens) ts)) fails in
    Text.use_first count t ts (Ok d) (Err f)
    (subst (λ (x : List Spelled). Expands macros limit (work (unhidden t.token ∷ []) x (is_none cut) count.made) (Ok d)) (sym e) expands)
    (subst (λ (u : Used). Follows macros limit judge cut u (Err f)) (sym is) (Follows.failed f))

-- the same where it fails
pub use_failed : (macros : List Macro) (limit : ℕ) (judge : Judge) (cut : Option Fault) (t : Placed) (behind : List Spelled) (count : Count) (failure : Failure)
    → Expands macros limit (work (unhidden t.token ∷ []) behind (is_none cut) count.made) (Err failure)
    → (ts : List Placed) → map token ts ≡ behind → Text macros limit judge cut count (t ∷ ts) (Err (failure_at cut t.place failure))
use_failed macros limit judge cut t behind count failure expands ts e =
    Text.use_first count t ts (Err failure) (Err (failure_at cut t.place failure))
    (subst (λ (x : List Spelled). Expands macros limit (work (unhidden t.token ∷ []) x (is_none cut) count.made) (Err failure)) (sym e) expands)
    (Follows.failed (failure_at cut t.place failure))

-- nothing of a text is read
pub text_begins : (macros : List Macro) (limit : ℕ) (judge : Judge) (cut : Option Fault) (ts : List Placed) (behind : List Spelled) (count : Count) (old : List Token) → behind ≡ map token ts
    → TextStands macros limit judge cut ts count old ts behind count old
text_begins macros limit judge cut ts behind count old e = record {
  us = [];
  added = sym (append-nil old);
  spelled = sym e;
  leads = λ read text. subst (Text macros limit judge cut count ts) (sym (before_none read)) text;
}

-- a use more of it is read
pub text_goes_on : (macros : List Macro) (limit : ℕ) (judge : Judge) (cut : Option Fault) (ts rest more : List Placed) (t : Placed) (behind : List Spelled) (taken : ℕ) (count here total : Count) (old mid new : List Token)
    → rest ≡ t ∷ more → TextStands macros limit judge cut ts count old rest behind here mid → WasUsed macros limit judge cut t (drop 1 behind) taken here mid total new
    → TextStands macros limit judge cut ts count old (drop taken more) (drop taken (drop 1 behind)) total new
text_goes_on macros limit judge cut ts rest more t behind taken count here total old mid new is s u =
    let spelled : map token more ≡ drop 1 behind = ap (drop 1) (ap (map token) (sym is) ∙ s.spelled) in
    record {
      us = s.us ++ u.us;
      added = u.added ∙ (ap (λ (x : List Token). x ++ u.us) s.added ∙ append_assoc old s.us u.us);
      spelled = map_drop taken more ∙ ap (drop taken) spelled;
      leads = λ read text. subst (Text macros limit judge cut count ts) (before_before s.us u.us read)
          (s.leads (before u.us read) (subst (λ (x : List Placed). Text macros limit judge cut here x (before u.us read)) (sym is) (u.leads more spelled read text)));
    }

-- all of it is read
pub text_ends : (macros : List Macro) (limit : ℕ) (judge : Judge) (cut : Option Fault) (ts rest : List Placed) (behind : List Spelled) (count total : Count) (old new : List Token) → rest ≡ []
    → TextStands macros limit judge cut ts count old rest behind total new → WasRead macros limit judge cut ts count old total new
text_ends macros limit judge cut ts rest behind count total old new is s = record {
  us = s.us;
  added = s.added;
  text = subst (λ (x : List Token). Text macros limit judge cut count ts (ok_of x total)) (append-nil s.us)
      (s.leads (Ok ([], total)) (subst (λ (x : List Placed). Text macros limit judge cut total x (Ok ([], total))) (sym is) (Text.over total)));
}

-- a use of it is refused
pub text_stops : (e : ReadFault) (macros : List Macro) (limit : ℕ) (judge : Judge) (cut : Option Fault) (ts rest more : List Placed) (t : Placed) (behind : List Spelled) (count here : Count) (old mid : List Token)
    → rest ≡ t ∷ more → TextStands macros limit judge cut ts count old rest behind here mid
    → ((us : List Placed) → map token us ≡ drop 1 behind → TextFails e macros limit judge cut here (t ∷ us)) → TextFails e macros limit judge cut count ts
text_stops stop.Memory macros limit judge cut ts rest more t behind count here old mid is s u = tt
text_stops (stop.Refused f) macros limit judge cut ts rest more t behind count here old mid is s u =
    s.leads (Err f) (subst (λ (x : List Placed). Text macros limit judge cut here x (Err f)) (sym is) (u more (ap (drop 1) (ap (map token) (sym is) ∙ s.spelled))))
