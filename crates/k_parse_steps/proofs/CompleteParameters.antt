-- Parameters, up to the closing parenthesis.
use Rattle.std.proofs.Common.{ℕ, ◌≡◌, ◌+◌, ◌≤◌, Bool, true, false, cond, ◌&&◌, nat_eq, is_none, IsTrue, All, List, [], ◌∷◌, ◌++◌, map, length, Option, Some, None, sym, ap, ◌∙◌, subst, refl, arith, append_assoc, option_map}
use Rattle.std.proofs.lemmas.Bool.{and_parts, eqb-true, ne_eqb, false_from_ne_true}
use Rattle.std.proofs.lemmas.List.{length-map}
use Rattle.std.proofs.lemmas.List.Elements.{All-head, All-tail, All-nil}
use Rattle.k_parse_steps.specs.Types.{Place, Token, Word, Expr, Param, Params, Stars, ParameterStage, Parameters, Reading}
use Rattle.k_tree.specs.declared.tokens.TokenKind.TheVariants as token
use Rattle.k_tree.specs.declared.tokens.mark.Mark.TheVariants as mark
use Rattle.k_tree.specs.declared.tokens.word.Word.TheVariants as word_
use Rattle.k_tree.specs.declared.tree.declaration.Params.TheVariants as params
use Rattle.k_tree.specs.Bare.{bare_expr, bare_dims, bare_param, bare_params, nowhere}
use Rattle.k_tree.specs.Nesting.{dims_depth, param_depth, params_depth, deepest}
use Rattle.k_tree.specs.Ranked.{Specs, RankedDims, RankedParam, RankedParams, IsVoidAlone, is_spec}
use Rattle.k_tree.specs.Spelling.{spell_dims, spell_stars, spell_specs, spell_optional_name, spell_param, spell_params, behind_commas}
use Rattle.k_parse_steps.specs.Operators.{is_spec_word}
use Rattle.k_parse_steps.specs.Stars.{no_stars, all_stars, star, constant, type_word}
use Rattle.k_parse_steps.specs.Expressions.{begin}
use Rattle.k_parse_steps.specs.Readings.{read_maybe, is_fresh, closes}
use Rattle.k_parse_steps.specs.declared.reading.Closer.TheVariants as closer
use Rattle.k_parse_steps.specs.Parameters.{mark_typed, mark_first, feed_parameters, begin_parameters, follows, first_token, starts, none, typed, word, name, named, end, size, size_by, is_void_list, is_void_alone, word_by}
use Rattle.k_parse_steps.specs.declared.parameter.ParameterStage.TheVariants as part_
use Rattle.k_parse_steps.specs.declared.turn.Turn.TheVariants as turn
use Rattle.k_parse_steps.proofs.CompleteLeads.{token_at, Moves, Leads, leads-then, leads-more}
use Rattle.k_parse_steps.proofs.CompleteHolds.{Feeds}
use Rattle.k_parse_steps.proofs.CompleteExpressions.{Whole}
use Rattle.k_parse_steps.proofs.CompleteReadings.{maybe_goes, maybe_ends, bracket_below, closes_at}
use Rattle.k_parse_steps.proofs.CompleteRows.{words_lead, Starred, stars_lead, Sized, Sizes, dims_lead}
use Rattle.k_parse_steps.proofs.Rows.{one_more}
use Rattle.k_parse_steps.specs.Tokens.{is_mark, is_word}
use Rattle.k_parse_steps.proofs.Marks.{word_is}

-- how the machine of parameters moves
abbrev pub Follows : Moves Parameters
Follows ps t next reach = feed_parameters ps t ≡ turn.Goes next reach

abbrev at_part : List Param → ParameterStage → Parameters
at_part list p = record { list = list; stage = p }

abbrev param_at : Place → List Word → List Bool → Option (List ℕ) → List (Option Expr) → Param
param_at p specs stars x dims = record { place = p; specs = specs; stars = stars; name = x; dims = dims }

-- in the type of a parameter
abbrev typed_at : List Param → Place → List Word → Stars → Parameters
typed_at list p specs stars = at_part list (part_.Typed (param_at p specs [] None []) stars)

abbrev named_at : List Param → Place → List Word → List Bool → Option (List ℕ) → List (Option Expr) → Parameters
named_at list p specs stars x dims = at_part list (part_.Named (param_at p specs stars x dims))

first_goes : (list : List Param) (w : Word) (p : Place) → IsTrue (is_spec w)
    → Follows (at_part list part_.Starts) (token_at p (token.Word w)) (typed_at list p (w ∷ []) no_stars) 0
unfolding feed_parameters first_token starts is_spec_word mark_first
first_goes list w p h = ap (λ b. cond b (follows list (part_.Typed (param_at p (w ∷ []) [] None []) no_stars) 0) turn.Refused) h

word_goes : (list : List Param) (at : Place) (vs : List Word) (w : Word) (p : Place) → IsTrue (is_spec w)
    → Follows (typed_at list at vs no_stars) (token_at p (token.Word w)) (typed_at list at (vs ++ w ∷ []) no_stars) 0
unfolding feed_parameters typed word type_word is_spec_word mark_typed is_mark
word_goes list at vs w p h = ap (λ b. word_by list (param_at at vs [] None []) (cond b (Some (vs ++ w ∷ [], no_stars)) None)) h

star_goes : (list : List Param) (at : Place) (specs : List Word) (v : Stars) (p : Place)
    → Follows (typed_at list at specs v) (token_at p (token.Mark mark.Star)) (typed_at list at specs (star v)) 0
unfolding feed_parameters typed mark_typed is_mark
star_goes list at specs v p = refl

const_goes : (list : List Param) (at : Place) (specs : List Word) (v : Stars) (p : Place)
    → Follows (typed_at list at specs (star v)) (token_at p (token.Word word_.Const)) (typed_at list at specs (constant (star v))) 0
unfolding feed_parameters typed word type_word mark_typed is_mark is_word
const_goes list at specs v p = refl

name_goes : (list : List Param) (at : Place) (specs : List Word) (v : Stars) (x : List ℕ) (p : Place)
    → Follows (typed_at list at specs v) (token_at p (token.Name x)) (named_at list at specs (all_stars v) (Some x) []) 0
unfolding feed_parameters typed name mark_typed is_mark
name_goes list at specs v x p = refl

-- dimensions
size_opens : (list : List Param) (at : Place) (specs : List Word) (stars : List Bool) (x : Option (List ℕ)) (ds : List (Option Expr)) (p : Place)
    → Follows (named_at list at specs stars x ds) (token_at p (token.Mark mark.LeftBracket)) (at_part list (part_.Size (param_at at specs stars x ds) (begin 2 1))) 0
unfolding feed_parameters named is_mark
size_opens list at specs stars x ds p = refl

size_moves : (list : List Param) (d : Param) (r : Reading) (t : Token) (next : Reading) (reach : ℕ) → Feeds r t next reach
    → Follows (at_part list (part_.Size d r)) t (at_part list (part_.Size d next)) reach
unfolding feed_parameters size
size_moves list d r t next reach h = ap (size_by list d) (maybe_goes r t closer.Bracket next reach h)

size_closes : (list : List Param) (at : Place) (specs : List Word) (stars : List Bool) (x : Option (List ℕ)) (ds : List (Option Expr)) (p : Place)
    → Follows (at_part list (part_.Size (param_at at specs stars x ds) (begin 2 1))) (token_at p (token.Mark mark.RightBracket)) (named_at list at specs stars x (ds ++ None ∷ [])) 0
unfolding feed_parameters size read_maybe is_fresh closes is_mark
size_closes list at specs stars x ds p = refl

size_ends : (list : List Param) (at : Place) (specs : List Word) (stars : List Bool) (x : Option (List ℕ)) (ds : List (Option Expr)) (e : Expr) (r : Reading) (h : Whole 2 e r) (p : Place)
    → Follows (at_part list (part_.Size (param_at at specs stars x ds) r)) (token_at p (token.Mark mark.RightBracket)) (named_at list at specs stars x (ds ++ Some h.made ∷ [])) 0
unfolding feed_parameters size
size_ends list at specs stars x ds e r h p =
    ap (size_by list (param_at at specs stars x ds))
    (maybe_ends r (token_at p (token.Mark mark.RightBracket)) closer.Bracket h.made (h.ends (token_at p (token.Mark mark.RightBracket)) (bracket_below 2)) (closes_at closer.Bracket p))

sizes : (list : List Param) (at : Place) (specs : List Word) (stars : List Bool) (x : Option (List ℕ))
    → Sizes Follows (λ ds. named_at list at specs stars x ds) (λ ds r. at_part list (part_.Size (param_at at specs stars x ds) r)) 1
sizes list at specs stars x = record {
  opens = size_opens list at specs stars x;
  moves = λ ds r t next reach h. size_moves list (param_at at specs stars x ds) r t next reach h;
  closes = size_closes list at specs stars x;
  ends = size_ends list at specs stars x;
}

-- the parameter is read: the mark behind it finds it there
record ParamHolds (list : List Param) (d : Param) (z : Parameters) : Type 0 where
  made : Param
  comma : (p : Place) → feed_parameters z (token_at p (token.Mark mark.Comma)) ≡ end list made mark.Comma
  close : (p : Place) → feed_parameters z (token_at p (token.Mark mark.RightParen)) ≡ end list made mark.RightParen
  same : bare_param made ≡ bare_param d

named_comma : (list : List Param) (d : Param) (p : Place) → feed_parameters (at_part list (part_.Named d)) (token_at p (token.Mark mark.Comma)) ≡ end list d mark.Comma
unfolding feed_parameters named is_mark
named_comma list d p = refl

named_close : (list : List Param) (d : Param) (p : Place) → feed_parameters (at_part list (part_.Named d)) (token_at p (token.Mark mark.RightParen)) ≡ end list d mark.RightParen
unfolding feed_parameters named is_mark
named_close list d p = refl

typed_comma : (list : List Param) (at : Place) (specs : List Word) (v : Stars) (p : Place)
    → feed_parameters (typed_at list at specs v) (token_at p (token.Mark mark.Comma)) ≡ end list (param_at at specs (all_stars v) None []) mark.Comma
unfolding feed_parameters typed named mark_typed is_mark
typed_comma list at specs v p = refl

typed_close : (list : List Param) (at : Place) (specs : List Word) (v : Stars) (p : Place)
    → feed_parameters (typed_at list at specs v) (token_at p (token.Mark mark.RightParen)) ≡ end list (param_at at specs (all_stars v) None []) mark.RightParen
unfolding feed_parameters typed named mark_typed is_mark
typed_close list at specs v p = refl

typed_bracket : (list : List Param) (at : Place) (specs : List Word) (v : Stars) (p : Place)
    → feed_parameters (typed_at list at specs v) (token_at p (token.Mark mark.LeftBracket)) ≡ feed_parameters (named_at list at specs (all_stars v) None []) (token_at p (token.Mark mark.LeftBracket))
unfolding feed_parameters typed named mark_typed is_mark
typed_bracket list at specs v p = refl

param_same : (p q : Place) (specs : List Word) (stars : List Bool) (x : Option (List ℕ)) (ds es : List (Option Expr)) → bare_dims ds ≡ bare_dims es
    → bare_param (param_at p specs stars x ds) ≡ bare_param (param_at q specs stars x es)
param_same p q specs stars x ds es e = ap (λ v. param_at nowhere specs stars x v) e

-- the dimensions of a parameter
dims_hold : (bound : ℕ) (list : List Param) (d : Param) (at : Place) → RankedDims d.dims → 1 ≤ bound → 1 + dims_depth d.dims ≤ bound
    → Leads Follows bound (spell_dims d.dims) (named_at list at d.specs d.stars d.name []) (ParamHolds list d)
dims_hold bound list d at h positive low =
    leads-more Follows bound bound (spell_dims d.dims) (named_at list at d.specs d.stars d.name []) (Sized (λ ds. named_at list at d.specs d.stars d.name ds) [] d.dims) (ParamHolds list d) (omega arith)
    (dims_lead Follows (λ ds. named_at list at d.specs d.stars d.name ds) (λ ds r. at_part list (part_.Size (param_at at d.specs d.stars d.name ds) r)) 1 bound
    (sizes list at d.specs d.stars d.name) [] d.dims h positive low)
    (λ r s. subst (ParamHolds list d) (sym s.at) (record {
      made = param_at at d.specs d.stars d.name s.made;
      comma = named_comma list (param_at at d.specs d.stars d.name s.made);
      close = named_close list (param_at at d.specs d.stars d.name s.made);
      same = param_same at d.place d.specs d.stars d.name s.made d.dims s.same;
    }))

-- the same without a name: the type's state does as that behind it
unnamed : (bound : ℕ) (list : List Param) (at : Place) (specs : List Word) (v : Stars) (dims : List (Option Expr)) (d : Param)
    → bare_param (param_at at specs (all_stars v) None []) ≡ bare_param (record d { dims = [] }) → dims ≡ d.dims
    → Leads Follows bound (spell_dims dims) (named_at list at specs (all_stars v) None []) (ParamHolds list d)
    → Leads Follows bound (spell_dims dims) (typed_at list at specs v) (ParamHolds list d)
unnamed bound list at specs v [] d e f l = record {
  made = param_at at specs (all_stars v) None [];
  comma = typed_comma list at specs v;
  close = typed_close list at specs v;
  same = e ∙ ap (λ ds. bare_param (record d { dims = ds })) f;
}
unnamed bound list at specs v (size ∷ dims) d e f l = λ p.
    let s = l p in
    record { next = s.next; reach = s.reach; goes = typed_bracket list at specs v p ∙ s.goes; low = s.low; there = s.there }

behind_type : (bound : ℕ) (list : List Param) (d : Param) (at : Place) (x : Option (List ℕ)) (v : Stars) → RankedDims d.dims → 1 ≤ bound → 1 + dims_depth d.dims ≤ bound
    → x ≡ d.name → all_stars v ≡ d.stars
    → Leads Follows bound (spell_optional_name x ++ spell_dims d.dims) (typed_at list at d.specs v) (ParamHolds list d)
behind_type bound list d at None v h positive low e f =
    unnamed bound list at d.specs v d.dims d
    (ap (λ s. param_at nowhere d.specs s None []) f ∙ ap (λ y. param_at nowhere d.specs d.stars y []) e) refl
    (subst (λ s. Leads Follows bound (spell_dims d.dims) (named_at list at d.specs s None []) (ParamHolds list d)) (sym f)
    (subst (λ y. Leads Follows bound (spell_dims d.dims) (named_at list at d.specs d.stars y []) (ParamHolds list d)) (sym e)
    (dims_hold bound list d at h positive low)))
behind_type bound list d at (Some x) v h positive low e f = λ p. record {
  next = named_at list at d.specs (all_stars v) (Some x) [];
  reach = 0;
  goes = name_goes list at d.specs v x p;
  low = omega arith;
  there =
      subst (λ s. Leads Follows bound (spell_dims d.dims) (named_at list at d.specs s (Some x) []) (ParamHolds list d)) (sym f)
      (subst (λ y. Leads Follows bound (spell_dims d.dims) (named_at list at d.specs d.stars y []) (ParamHolds list d)) (sym e)
      (dims_hold bound list d at h positive low));
}

-- a parameter is read as itself, up to places
typed_lead : (bound : ℕ) (list : List Param) (d : Param) (specs : List Word) → specs ≡ d.specs → Specs specs → RankedDims d.dims → 1 ≤ bound → 1 + dims_depth d.dims ≤ bound
    → Leads Follows bound (spell_specs specs ++ (spell_stars d.stars ++ (spell_optional_name d.name ++ spell_dims d.dims))) (at_part list part_.Starts) (ParamHolds list d)
typed_lead bound list d [] e s h positive low = absurd (s.0 refl)
typed_lead bound list d (w ∷ ws) e s h positive low = λ p. record {
  next = typed_at list p (w ∷ []) no_stars;
  reach = 0;
  goes = first_goes list w p (All-head (λ v. IsTrue (is_spec v)) w ws s.1);
  low = omega arith;
  there =
      leads-then Follows bound bound (spell_specs ws) (spell_stars d.stars ++ (spell_optional_name d.name ++ spell_dims d.dims)) (typed_at list p (w ∷ []) no_stars)
      (λ z. z ≡ typed_at list p (w ∷ ws) no_stars) (ParamHolds list d) (omega arith)
      (words_lead Follows (λ vs. typed_at list p vs no_stars) bound (w ∷ []) ws positive (λ vs v at. word_goes list p vs v at) (All-tail (λ v. IsTrue (is_spec v)) w ws s.1))
      (λ r i. subst (λ z. Leads Follows bound (spell_stars d.stars ++ (spell_optional_name d.name ++ spell_dims d.dims)) z (ParamHolds list d))
      (sym (i ∙ ap (λ vs. typed_at list p vs no_stars) e))
      (leads-then Follows bound bound (spell_stars d.stars) (spell_optional_name d.name ++ spell_dims d.dims) (typed_at list p d.specs no_stars)
      (Starred (λ v. typed_at list p d.specs v) d.stars) (ParamHolds list d) (omega arith)
      (stars_lead Follows (λ v. typed_at list p d.specs v) bound no_stars [] d.stars positive (star_goes list p d.specs) (const_goes list p d.specs) refl)
      (λ y j. subst (λ z. Leads Follows bound (spell_optional_name d.name ++ spell_dims d.dims) z (ParamHolds list d)) (sym j.at)
      (behind_type bound list d p d.name j.stars h positive low refl j.all))));
}

param_complete : (bound : ℕ) (list : List Param) (d : Param) → RankedParam d → 1 ≤ bound → 1 + param_depth d ≤ bound
    → Leads Follows bound (spell_param d) (at_part list part_.Starts) (ParamHolds list d)
param_complete bound list d h positive low = typed_lead bound list d d.specs refl h.0 h.1 positive low

-- `void` alone

void_words : (ws : List Word) → is_void_list ws ≡ true → ws ≡ word_.Void ∷ []
void_words [] h = absurd cc
void_words (w ∷ []) h = ap (λ v. v ∷ []) (word_is w word_.Void h)
void_words (w ∷ (v ∷ ws)) h = absurd cc

no_length : {A : Type 0} (xs : List A) → nat_eq (length xs) 0 ≡ true → xs ≡ []
no_length [] h = refl
no_length (x ∷ xs) h = let e : length (x ∷ xs) ≡ 0 = eqb-true (length (x ∷ xs)) 0 h in absurd (omega arith)

no_name : (x : Option (List ℕ)) → is_none x ≡ true → x ≡ None
no_name None h = refl
no_name (Some x) h = absurd cc

void_alone : (p : Param) → is_void_alone p ≡ true → IsVoidAlone p
unfolding is_void_alone
void_alone p h =
    let a : (is_void_list p.specs ≡ true) × ((nat_eq (length p.stars) 0 && (is_none p.name && nat_eq (length p.dims) 0)) ≡ true) =
    and_parts (is_void_list p.specs) (nat_eq (length p.stars) 0 && (is_none p.name && nat_eq (length p.dims) 0)) h in
    let b : (nat_eq (length p.stars) 0 ≡ true) × ((is_none p.name && nat_eq (length p.dims) 0) ≡ true) =
    and_parts (nat_eq (length p.stars) 0) (is_none p.name && nat_eq (length p.dims) 0) a.1 in
    let c : (is_none p.name ≡ true) × (nat_eq (length p.dims) 0 ≡ true) = and_parts (is_none p.name) (nat_eq (length p.dims) 0) b.1 in
    (void_words p.specs a.0, no_length p.stars b.0, no_name p.name c.0, no_length p.dims c.1)

void_bare : (p : Param) → is_void_alone (bare_param p) ≡ is_void_alone p
unfolding is_void_alone
void_bare p = ap (λ n. is_void_list p.specs && (nat_eq (length p.stars) 0 && (is_none p.name && nat_eq n 0))) (length-map p.dims (option_map bare_expr))

not_void : (p d : Param) → bare_param p ≡ bare_param d → (IsVoidAlone d → ⊥) → is_void_alone p ≡ false
not_void p d e f =
    false_from_ne_true (is_void_alone p) (λ h. f (void_alone d (sym (void_bare d) ∙ (ap is_void_alone (sym e) ∙ (void_bare p ∙ h)))))

-- the parameters are read: the closing parenthesis ends them
pub record ParamsHold (ps : Params) (z : Parameters) : Type 0 where
  pub made : Params
  pub ends : (p : Place) → feed_parameters z (token_at p (token.Mark mark.RightParen)) ≡ turn.Done made
  pub same : bare_params made ≡ bare_params ps

comma_goes : (list : List Param) (d : Param) → end list d mark.Comma ≡ turn.Goes (at_part (list ++ d ∷ []) part_.Starts) 0
unfolding end
comma_goes list d = refl

close_ends : (list : List Param) (d : Param) → (nat_eq (length list) 0 && is_void_alone d) ≡ false → end list d mark.RightParen ≡ turn.Done (params.List (list ++ d ∷ []))
unfolding end
close_ends list d h = ap (λ b. cond b (turn.Done params.Void) (turn.Done (params.List (list ++ d ∷ [])))) h

long : (done : List Param) (d : Param) → 1 ≤ length (done ++ d ∷ [])
long [] d = omega arith
long (x ∷ done) d = let h : 1 ≤ length (done ++ d ∷ []) = long done d in omega arith

some_done : (done : List Param) (b : Bool) → 1 ≤ length done → (nat_eq (length done) 0 && b) ≡ false
some_done done b h = ap (λ v. v && b) (ne_eqb (length done) 0 (λ e. omega arith))

params_lead : (bound : ℕ) (more : List Param) → All RankedParam more → 1 ≤ bound → 1 + deepest (map param_depth more) ≤ bound
    → (d : Param) (seen done : List Param) → map bare_param done ≡ map bare_param seen
    → (z : Parameters) (h : ParamHolds done d z) → (more ≡ [] → (nat_eq (length done) 0 && is_void_alone h.made) ≡ false)
    → Leads Follows bound (behind_commas (map spell_param more)) z (ParamsHold (params.List (seen ++ d ∷ more)))
params_lead bound [] r positive low d seen done e z h f = record {
  made = params.List (done ++ h.made ∷ []);
  ends = λ p. h.close p ∙ close_ends done h.made (f refl);
  same = ap params.List (one_more bare_param done seen h.made d e h.same);
}
params_lead bound (b ∷ more) r positive low d seen done e z h f = λ p. record {
  next = at_part (done ++ h.made ∷ []) part_.Starts;
  reach = 0;
  goes = h.comma p ∙ comma_goes done h.made;
  low = omega arith;
  there =
      leads-then Follows bound bound (spell_param b) (behind_commas (map spell_param more)) (at_part (done ++ h.made ∷ []) part_.Starts)
      (ParamHolds (done ++ h.made ∷ []) b) (ParamsHold (params.List (seen ++ d ∷ (b ∷ more)))) (omega arith)
      (param_complete bound (done ++ h.made ∷ []) b (All-head RankedParam b more r) positive (omega arith))
      (λ y k. subst (λ all. Leads Follows bound (behind_commas (map spell_param more)) y (ParamsHold (params.List all)))
      (append_assoc seen (d ∷ []) (b ∷ more))
      (params_lead bound more (All-tail RankedParam b more r) positive (omega arith) b (seen ++ d ∷ []) (done ++ h.made ∷ [])
      (one_more bare_param done seen h.made d e h.same) y k (λ _. some_done (done ++ h.made ∷ []) (is_void_alone k.made) (long done h.made))));
}

empty_ends : (p : Place) → feed_parameters begin_parameters (token_at p (token.Mark mark.RightParen)) ≡ turn.Done params.Empty
unfolding feed_parameters first_token none mark_first
empty_ends p = refl

void_begins : (p : Place) → Follows begin_parameters (token_at p (token.Word word_.Void)) (typed_at [] p (word_.Void ∷ []) no_stars) 0
unfolding feed_parameters first_token starts is_spec_word mark_first
void_begins p = refl

void_ends : (at p : Place) → feed_parameters (typed_at [] at (word_.Void ∷ []) no_stars) (token_at p (token.Mark mark.RightParen)) ≡ turn.Done params.Void
unfolding feed_parameters typed named end is_void_alone mark_typed is_mark is_word
void_ends at p = refl

cons_some : (b : Param) (more : List Param) → b ∷ more ≡ [] → ⊥
cons_some b more e = cc

-- parameters are read as themselves, up to places
pub params_complete : (bound : ℕ) (ps : Params) → RankedParams ps → 1 ≤ bound → 1 + params_depth ps ≤ bound
    → Leads Follows bound (spell_params ps) begin_parameters (ParamsHold ps)
params_complete bound params.Empty h positive low = record { made = params.Empty; ends = empty_ends; same = refl }
params_complete bound params.Void h positive low = λ p. record {
  next = typed_at [] p (word_.Void ∷ []) no_stars;
  reach = 0;
  goes = void_begins p;
  low = omega arith;
  there = record { made = params.Void; ends = void_ends p; same = refl };
}
params_complete bound (params.List []) h positive low = absurd h
params_complete bound (params.List (d ∷ [])) h positive low =
    leads-then Follows bound bound (spell_param d) [] begin_parameters (ParamHolds [] d) (ParamsHold (params.List (d ∷ []))) (omega arith)
    (param_complete bound [] d h.0 positive (omega arith))
    (λ y k. params_lead bound [] (All-nil RankedParam) positive (omega arith) d [] [] refl y k (λ _. not_void k.made d k.same h.1))
params_complete bound (params.List (d ∷ (b ∷ more))) h positive low =
    leads-then Follows bound bound (spell_param d) (behind_commas (map spell_param (b ∷ more))) begin_parameters (ParamHolds [] d) (ParamsHold (params.List (d ∷ (b ∷ more)))) (omega arith)
    (param_complete bound [] d (All-head RankedParam d (b ∷ more) h) positive (omega arith))
    (λ y k. params_lead bound (b ∷ more) (All-tail RankedParam d (b ∷ more) h) positive (omega arith) d [] [] refl y k (λ e. absurd (cons_some b more e)))
