-- Text without macros is read as its own tokens.
use Rattle.std.proofs.Common.{◌≡◌, ℕ, zero, suc, ◌-◌, arith, Bool, true, if◌then◌else◌, List, [], ◌∷◌, ◌++◌, Option, None, Ok, Err, All, length, drop, map, ap, sym, subst, ◌∙◌, refl}
use Rattle.std.specs.Prelude.{is_none}
use Rattle.std.proofs.lemmas.List.{append-nil}
use Rattle.k_tree.specs.declared.tokens.Token.{Token}
use Rattle.k_tree.specs.declared.tokens.TokenKind.{TokenKind}
use Rattle.k_lex_pieces.specs.declared.fault.Refusal.TheVariants as r
use Rattle.k_lex_groups.specs.Steps.{Opens, is_read, innermost}
use Rattle.k_lex_expansion.specs.declared.tokens.Listed.{Listed}
use Rattle.k_lex_expansion.specs.declared.macros.Macro.{Macro}
use Rattle.k_lex_expansion.specs.Listing.{unhidden}
use Rattle.k_lex_expansion.specs.Expansion.{Work, used}
use Rattle.k_lex_expansion.specs.Laws.{PlainListsStay}
use Rattle.k_lex_lines.specs.declared.lines.Placed.{Placed}
use Rattle.k_lex_lines.specs.declared.lines.Fault.{Fault}
use Rattle.k_lex_lines.specs.declared.lines.Line.{Line}
use Rattle.k_lex_lines.specs.declared.rules.Sizes.{Sizes}
use Rattle.k_lex_lines.specs.declared.rules.Limits.{Limits}
use Rattle.k_lex_lines.specs.declared.rules.Count.{Count}
use Rattle.k_lex_lines.specs.declared.rules.Rules.{Rules}
use Rattle.k_lex_lines.specs.declared.lines.Wrong.TheVariants as wrong
use Rattle.k_lex_lines.specs.declared.lines.Line.TheVariants as l
use Rattle.k_lex_lines.specs.Lines.{fault_at, text_of, behind_text, cut_by}
use Rattle.k_lex_lines.specs.Text.{Text, Follows, Judged, in_text, kind_of, token_at, before_tokens, within, sized, fits, use_of, leaving}
use Rattle.k_lex_lines.specs.declared.state.State.{State}
use Rattle.k_lex_lines.specs.Reading.{goes, reads, at_end, Reads, ReadsOn}
use Rattle.k_lex_lines.specs.Laws.{AreOwn}

-- so much of a text is left as there was
all_left : (ts : List Placed) → length (map (λ (p : Placed). p.token) ts) ≡ length ts
all_left [] = refl
all_left (t ∷ ts) = ap suc (all_left ts)

drop_none : (ts : List Placed) (n : ℕ) → n ≡ 0 → drop n ts ≡ ts
drop_none ts n e = ap (λ k. drop k ts) e

-- a token, where there is room for it
abbrev if_room : Limits → Placed → Sizes → TokenKind → Bool → Judged
if_room limits t sizes what b = if b then Ok (record { what = what; place = t.place } ∷ [], sized (unhidden t.token ∷ []) sizes) else Err (fault_at (wrong.Lexical r.TokensMany) t.place)

-- the one token of a use is judged so
own_judged : (limits : Limits) (t : Placed) (sizes : Sizes) (what : TokenKind) → kind_of t.place t.token.spelling ≡ Ok what → fits limits (sized (unhidden t.token ∷ []) sizes) ≡ true
    → in_text limits t.place (unhidden t.token ∷ []) sizes ≡ Ok (record { what = what; place = t.place } ∷ [], sized (unhidden t.token ∷ []) sizes)
own_judged limits t sizes what is fit =
    ap (λ k. within limits t.place (sized (unhidden t.token ∷ []) sizes) (before_tokens (token_at t.place k) (Ok []))) is
    ∙ ap (if_room limits t sizes what) fit

-- a list of one token that uses no macro
pub one_unused : (macros : List Macro) (t : Listed) → used macros t ≡ None → All (λ x. used macros x ≡ None) (t ∷ [])
one_unused macros t e zero d lt = e
one_unused macros t e (suc k) d lt = absurd (omega (arith, lt))

-- text that gives these tokens
pub record Stays (macros : List Macro) (limits : Limits) (cut : Option Fault) (made : ℕ) (sizes : Sizes) (ts : List Placed) (us : List Token) : Type 0 where
  pub count : Count
  pub text : Text macros limits.made (in_text limits) cut (record { made = made; sizes = sizes }) ts (Ok (us, count))

-- what a use gives that stays
used_own : (limits : Limits) (made : ℕ) (t : Placed) (ts : List Placed) (sizes : Sizes) (what : TokenKind) → kind_of t.place t.token.spelling ≡ Ok what
    → fits limits (sized (unhidden t.token ∷ []) sizes) ≡ true
    → leaving made (drop (length ts - length (map (λ (p : Placed). p.token) ts)) ts) (in_text limits t.place (unhidden t.token ∷ []) sizes)
    ≡ Ok (record { what = what; place = t.place } ∷ [], record { made = made; sizes = sized (unhidden t.token ∷ []) sizes }, ts)
used_own limits made t ts sizes what is fit =
    ap (λ z. leaving made z (in_text limits t.place (unhidden t.token ∷ []) sizes)) (drop_none ts (length ts - length (map (λ (p : Placed). p.token) ts)) (omega (arith, all_left ts)))
    ∙ ap (leaving made ts) (own_judged limits t sizes what is fit)

pub text_stays : PlainListsStay → (macros : List Macro) (limits : Limits) (cut : Option Fault) (made : ℕ) {sizes : Sizes} {ts : List Placed} {us : List Token} → AreOwn macros limits sizes ts us → Stays macros limits cut made sizes ts us
text_stays plain macros limits cut made (AreOwn.no_token sizes) = record { count = record { made = made; sizes = sizes }; text = Text.over (record { made = made; sizes = sizes }) }
text_stays plain macros limits cut made (AreOwn.token sizes t ts what us unnamed is fit more) =
    let w : Work = use_of made t ts (is_none cut) in
    let rest : Stays macros limits cut made (sized (unhidden t.token ∷ []) sizes) ts us = text_stays plain macros limits cut made more in
    let here : Count = record { made = made; sizes = sized (unhidden t.token ∷ []) sizes } in
    record {
      count = rest.count;
      text = Text.use_first (record { made = made; sizes = sizes }) t ts (Ok (record { tokens = w.list; source = w.source; made = made })) (Ok (record { what = what; place = t.place } ∷ us, rest.count))
          (plain macros limits.made w (one_unused macros (unhidden t.token) unnamed))
          (subst (λ x. Follows macros limits.made (in_text limits) cut x (Ok (record { what = what; place = t.place } ∷ us, rest.count))) (sym (used_own limits made t ts sizes what is fit))
          (Follows.on (record { what = what; place = t.place } ∷ []) here ts (Ok (us, rest.count)) rest.text));
    }

-- lines that are all text

all_text : (lines : List Line) → behind_text lines ≡ [] → cut_by lines ≡ None
all_text [] e = refl
all_text (l.Text ts ∷ lines) e = all_text lines e
all_text (l.Broken always fault ∷ lines) e = absurd (cc e)
all_text (l.Branch hash form it ∷ lines) e = absurd (cc e)
all_text (l.Directive hash form it ∷ lines) e = absurd (cc e)

ends_so : (rules : Rules) (s : State) → s.opens ≡ [] → Reads rules s [] (Ok [])
ends_so rules s e = subst (λ (o : Opens). Reads rules s [] (at_end (innermost o))) e (Reads.over s)

-- text without macros stays
pub stays : PlainListsStay → (rules : Rules) (s : State) (lines : List Line) (us : List Token) → s.opens ≡ [] → behind_text lines ≡ [] → AreOwn s.macros rules.limits s.count.sizes (text_of lines) us → Reads rules s lines (Ok us)
stays plain rules s [] us e x own = nothing_own own
  where
    nothing_own : {vs : List Token} → AreOwn s.macros rules.limits s.count.sizes [] vs → Reads rules s [] (Ok vs)
    nothing_own (AreOwn.no_token sizes) = ends_so rules s e
stays plain rules s (l.Text ts ∷ lines) us e x own =
    let found : Stays s.macros rules.limits None s.count.made s.count.sizes (ts ++ text_of lines) us = text_stays plain s.macros rules.limits None s.count.made own in
    let new : State = record { macros = s.macros; opens = s.opens; count = found.count } in
    Reads.replaces s (l.Text ts) lines ts (Ok (us, found.count)) (Ok us) (ap (λ (o : Opens). if is_read o then reads ts else goes s) e)
    (subst (λ z. Text s.macros rules.limits.made (in_text rules.limits) z s.count (ts ++ text_of lines) (Ok (us, found.count))) (sym (all_text lines x)) found.text)
    (subst (λ z. ReadsOn rules (Ok (us, new)) z (Ok us)) (sym x)
    (subst (λ z. ReadsOn rules (Ok (us, new)) [] (Ok z)) (append-nil us) (ReadsOn.on us new [] (Ok []) (ends_so rules new e))))
stays plain rules s (l.Broken always fault ∷ lines) us e x own = absurd (cc x)
stays plain rules s (l.Branch hash form it ∷ lines) us e x own = absurd (cc x)
stays plain rules s (l.Directive hash form it ∷ lines) us e x own = absurd (cc x)
