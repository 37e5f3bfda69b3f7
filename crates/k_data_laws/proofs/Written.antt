-- What is written of a profile is the compact text of its value.
use Rattle.std.proofs.Common.{◌≡◌, ℕ, Bool, true, false, List, [], ◌∷◌, ◌++◌, All, Option, Some, None, refl, sym, ap, ◌∙◌, append_assoc, codes}
use Rattle.std.specs.Fmt.{decimal, signed_decimal}
use Rattle.std.specs.List.{flat_map}
use Rattle.std.proofs.lemmas.List.Elements.{All-head, All-tail}
use Rattle.json.specs.Json.{Json, boolean}
use Rattle.json.specs.Print.{escape, escape_byte}
use Rattle.k_optab.specs.declared.region.Region.{Region}
use Rattle.k_optab.specs.declared.region.RegionKind.{RegionKind}
use Rattle.k_optab.specs.declared.region.RegionKind.TheVariants.{Func, Loop, Body}
use Rattle.k_dict_entries.specs.declared.entry.Entry.{Entry}
use Rattle.k_dict_entries.specs.declared.entry.Run.{Run}
use Rattle.k_dict_saved.specs.Lines.{IsRegion}
use Rattle.k_plan.specs.declared.advice.Advice.{Advice}
use Rattle.k_plan.specs.declared.advice.Pick.{Pick}
use Rattle.k_selfpar.specs.Contexts.{root_work}
use Rattle.k_selfpar.specs.declared.context.Context.{Context}
use Rattle.k_selfpar.specs.declared.row.Row.{Row}
use Rattle.k_text.specs.Texts.{kind_text}
use Rattle.k_data.specs.Document.{dict_json, plan_json}
use Rattle.k_data.specs.Records.{array as array_text, comma, context_json, entry_json, fraction_json, pick_json, region_json, row_json, run_json, sums_json, truth_json}
use Rattle.k_data_laws.specs.Values.{array_of, items_of, members_of, fraction_value, sums_members, region_value, row_value, context_value, pick_value, run_value, entry_value, plan_value, dict_members, document_value}
use Rattle.k_data_laws.proofs.Bytes.{bare_escape, name_bare}
use Rattle.k_data_laws.proofs.Texts.{onto, more_items, more_members}
use Rattle.k_data_laws.proofs.Within.{AreWithin, Parts, text_of, value_of}

-- ---- texts one behind the other, as they stand in a text and as definitions put them together

pair_parts : (a b c d e rest : List ℕ) → a ++ (b ++ (c ++ (d ++ (e ++ rest)))) ≡ (a ++ b ++ c ++ d ++ e) ++ rest
pair_parts a b c d e rest = simp append_assoc

sums_parts : (a i b w c p d s e rest : List ℕ)
    → a ++ (i ++ (b ++ (w ++ (c ++ (p ++ (d ++ (s ++ (e ++ rest)))))))) ≡ ((a ++ i ++ b ++ w ++ c ++ p) ++ d ++ s) ++ (e ++ rest)
sums_parts a i b w c p d s e rest = simp append_assoc

row_parts : (a b s e rest : List ℕ) → a ++ (b ++ (s ++ (e ++ rest))) ≡ (a ++ b ++ s ++ e) ++ rest
row_parts a b s e rest = simp append_assoc

context_parts : (a b c d e f s g rest : List ℕ)
    → a ++ (b ++ (c ++ (d ++ (e ++ (f ++ (s ++ (g ++ rest))))))) ≡ ((a ++ b ++ c ++ d ++ e ++ f) ++ s ++ g) ++ rest
context_parts a b c d e f s g rest = simp append_assoc

region_parts : (a k b f c l d m e rest : List ℕ)
    → a ++ (k ++ (b ++ (f ++ (c ++ (l ++ (d ++ (m ++ (e ++ rest)))))))) ≡ ((a ++ k ++ b ++ f) ++ c ++ l ++ d ++ m ++ e) ++ rest
region_parts a k b f c l d m e rest = simp append_assoc

pick_parts : (a b c t d e f rest : List ℕ) → a ++ (b ++ (c ++ (t ++ (d ++ (e ++ (f ++ rest)))))) ≡ (a ++ b ++ (c ++ t) ++ d ++ e ++ f) ++ rest
pick_parts a b c t d e f rest = simp append_assoc

entry_parts : (a b c d e f g h z rest : List ℕ)
    → a ++ (b ++ (c ++ (d ++ (e ++ (f ++ (g ++ (h ++ (z ++ rest)))))))) ≡ (a ++ b ++ c ++ d ++ e ++ f ++ g ++ h ++ z) ++ rest
entry_parts a b c d e f g h z rest = simp append_assoc

plan_parts : (a b c d e f z rest : List ℕ) → a ++ (b ++ (c ++ (d ++ (e ++ (f ++ (z ++ rest)))))) ≡ (a ++ b ++ c ++ d ++ e ++ f ++ z) ++ rest
plan_parts a b c d e f z rest = simp append_assoc

array_parts : (a t f b rest : List ℕ) → a ++ (t ++ (f ++ (b ++ rest))) ≡ (a ++ (t ++ f) ++ b) ++ rest
array_parts a t f b rest = simp append_assoc

document_parts : (a x b o c g d r e t f p z y : List ℕ)
    → a ++ (x ++ (b ++ (o ++ (c ++ (g ++ (d ++ (r ++ (e ++ (t ++ (f ++ (p ++ (z ++ y))))))))))))
    ≡ (a ++ x ++ b ++ o ++ c ++ g) ++ (d ++ r ++ e ++ t ++ f ++ p) ++ z ++ y
document_parts a x b o c g d r e t f p z y = simp append_assoc

-- ---- lists

-- the text of each value, in front of another, is that of its element
abbrev Writes : {X : Type 0} → (X → Json) → (X → List ℕ) → (X → Type 0) → Type 0
Writes {X} value text P = (x : X) (rest : List ℕ) → P x → onto (value x) rest ≡ text x ++ rest

items_written : {X : Type 0} (value : X → Json) (text : X → List ℕ) (P : X → Type 0) → Writes value text P → (list : List X) → All P list → (rest : List ℕ)
    → more_items (items_of value list) rest ≡ flat_map (λ y. comma ++ text y) list ++ (93 ∷ rest)
items_written value text P each [] h rest = refl
items_written value text P each (x ∷ list) h rest =
    ap (λ l. 44 ∷ l) (each x (more_items (items_of value list) rest) (All-head P x list h))
    ∙ ap (λ l. 44 ∷ (text x ++ l)) (items_written value text P each list (All-tail P x list h) rest)
    ∙ sym (append_assoc (44 ∷ text x) (flat_map (λ y. comma ++ text y) list) (93 ∷ rest))

array_written : {X : Type 0} (value : X → Json) (text : X → List ℕ) (P : X → Type 0) → Writes value text P → (list : List X) → All P list → (rest : List ℕ)
    → onto (array_of value list) rest ≡ array_text text list ++ rest
array_written value text P each [] h rest = refl
array_written value text P each (x ∷ list) h rest =
    ap (λ l. 91 ∷ l) (each x (more_items (items_of value list) rest) (All-head P x list h)
    ∙ ap (λ l. text x ++ l) (items_written value text P each list (All-tail P x list h) rest))
    ∙ array_parts (91 ∷ []) (text x) (flat_map (λ y. comma ++ text y) list) (93 ∷ []) rest

-- a list of which nothing is asked
abbrev Nothing : {X : Type 0} → X → Type 0
Nothing x = Unit {0}

free_written : {X : Type 0} (value : X → Json) (text : X → List ℕ) → ((x : X) (rest : List ℕ) → onto (value x) rest ≡ text x ++ rest) → (list : List X)
    → (rest : List ℕ) → onto (array_of value list) rest ≡ array_text text list ++ rest
free_written value text each list rest = array_written value text Nothing (λ x more h. each x more) list (λ k d l. tt) rest

-- ---- records

fraction_written : (f : ℕ × ℕ) (rest : List ℕ) → onto (fraction_value f) rest ≡ fraction_json f ++ rest
unfolding fraction_value escape_byte
fraction_written f rest = pair_parts (codes "{\"num\":") (decimal f.0) (codes ",\"den\":") (decimal f.1) (codes "}") rest

sums_written : (instances work path : ℕ) (sp : ℕ × ℕ) (rest : List ℕ)
    → more_members (members_of (sums_members instances work path sp)) rest ≡ sums_json instances work path sp ++ (codes "}" ++ rest)
unfolding escape_byte
sums_written instances work path sp rest =
    ap (λ l. codes ",\"instances\":" ++ (decimal instances ++ (codes ",\"work\":" ++ (decimal work ++ (codes ",\"path\":" ++ (decimal path ++ (codes ",\"sp\":" ++ l)))))))
    (fraction_written sp (125 ∷ rest))
    ∙ sums_parts (codes ",\"instances\":") (decimal instances) (codes ",\"work\":") (decimal work) (codes ",\"path\":") (decimal path) (codes ",\"sp\":") (fraction_json sp) (codes "}") rest

row_written : (row : Row) (rest : List ℕ) → onto (row_value row) rest ≡ row_json row ++ rest
unfolding row_value row_json escape_byte
row_written row rest =
    ap (λ l. codes "{\"region\":" ++ (decimal row.region ++ l)) (sums_written row.instances row.work row.path row.sp rest)
    ∙ row_parts (codes "{\"region\":") (decimal row.region) (sums_json row.instances row.work row.path row.sp) (codes "}") rest

context_written : (context : Context) (rest : List ℕ) → onto (context_value context) rest ≡ context_json context ++ rest
unfolding context_value context_json escape_byte
context_written context rest =
    ap (λ l. codes "{\"parent\":" ++ (decimal context.parent ++ (codes ",\"region\":" ++ (decimal context.region ++ (codes ",\"turns\":" ++ (decimal context.turns ++ l))))))
    (sums_written context.instances context.work context.path context.sp rest)
    ∙ context_parts (codes "{\"parent\":") (decimal context.parent) (codes ",\"region\":") (decimal context.region) (codes ",\"turns\":") (decimal context.turns)
    (sums_json context.instances context.work context.path context.sp) (codes "}") rest

kind_escape : (kind : RegionKind) → escape (kind_text kind) ≡ kind_text kind
unfolding escape_byte
kind_escape Func = refl
kind_escape Loop = refl
kind_escape Body = refl

region_written : (region : Region) (rest : List ℕ) → IsRegion region → onto (region_value region) rest ≡ region_json region ++ rest
unfolding region_value region_json escape_byte
region_written region rest h =
    (λ i. codes "{\"kind\":\"" ++ (kind_escape region.kind i ++ (codes "\",\"function\":\"" ++ (bare_escape region.func (name_bare region.func h.func) i ++ (codes "\",\"line\":" ++ (decimal region.place.line ++ (codes ",\"column\":" ++ (decimal region.place.column ++ (codes "}" ++ rest)))))))))
    ∙ region_parts (codes "{\"kind\":\"") (kind_text region.kind) (codes "\",\"function\":\"") region.func (codes "\",\"line\":") (decimal region.place.line)
    (codes ",\"column\":") (decimal region.place.column) (codes "}") rest

truth_written : (b : Bool) (rest : List ℕ) → onto (boolean b) rest ≡ truth_json b ++ rest
truth_written true rest = refl
truth_written false rest = refl

pick_written : (pick : Pick) (rest : List ℕ) → onto (pick_value pick) rest ≡ pick_json pick ++ rest
unfolding pick_value pick_json escape_byte
pick_written pick rest =
    ap (λ l. codes "{\"context\":" ++ (decimal pick.context ++ (codes ",\"doall\":" ++ l))) (truth_written pick.doall (codes ",\"saves\":" ++ (decimal pick.saves ++ (codes "}" ++ rest))))
    ∙ pick_parts (codes "{\"context\":") (decimal pick.context) (codes ",\"doall\":") (truth_json pick.doall) (codes ",\"saves\":") (decimal pick.saves) (codes "}") rest

run_written : (run : Run) (rest : List ℕ) → onto (run_value run) rest ≡ run_json run ++ rest
unfolding run_value run_json escape_byte
run_written run rest = pair_parts (codes "{\"entry\":") (decimal run.entry) (codes ",\"count\":") (decimal run.count) (codes "}") rest

entry_written : (entry : Entry) (rest : List ℕ) → onto (entry_value entry) rest ≡ entry_json entry ++ rest
unfolding entry_value entry_json escape_byte
entry_written entry rest =
    ap (λ l. codes "{\"region\":" ++ (decimal entry.region ++ (codes ",\"work\":" ++ (decimal entry.work ++ (codes ",\"path\":" ++ (decimal entry.path ++ (codes ",\"runs\":" ++ l)))))))
    (free_written run_value run_json run_written entry.runs (125 ∷ rest))
    ∙ entry_parts (codes "{\"region\":") (decimal entry.region) (codes ",\"work\":") (decimal entry.work) (codes ",\"path\":") (decimal entry.path) (codes ",\"runs\":")
    (array_text run_json entry.runs) (codes "}") rest

plan_written : (plan : Option Advice) (work : ℕ) (rest : List ℕ) → onto (plan_value plan work) rest ≡ plan_json plan work ++ rest
unfolding plan_value escape_byte
plan_written None work rest = refl
plan_written (Some advice) work rest =
    ap (λ l. codes "{\"picks\":" ++ l) (free_written pick_value pick_json pick_written advice.picks (codes ",\"total\":" ++ (decimal advice.total ++ (codes ",\"work\":" ++ (decimal work ++ (125 ∷ rest))))))
    ∙ plan_parts (codes "{\"picks\":") (array_text pick_json advice.picks) (codes ",\"total\":") (decimal advice.total) (codes ",\"work\":") (decimal work) (codes "}") rest

dict_written : (dict : Option (List Entry)) (rest : List ℕ) → more_members (members_of (dict_members dict)) rest ≡ dict_json dict ++ (125 ∷ rest)
unfolding escape_byte
dict_written None rest = refl
dict_written (Some entries) rest =
    ap (λ l. codes ",\"dictionary\":" ++ l) (free_written entry_value entry_json entry_written entries (125 ∷ rest))
    ∙ sym (append_assoc (codes ",\"dictionary\":") (array_text entry_json entries) (125 ∷ rest))

-- ---- the document

pub document_written : (p : Parts) → AreWithin p → onto (value_of p) (10 ∷ []) ≡ text_of p
unfolding document_value escape_byte
document_written p h =
    let last = plan_written p.plan (root_work p.contexts) _ ∙ ap (λ l. plan_json p.plan (root_work p.contexts) ++ l) (dict_written p.dict (10 ∷ [])) in
    let contexts = free_written context_value context_json context_written p.contexts _ ∙ ap (λ l. array_text context_json p.contexts ++ (codes ",\"plan\":" ++ l)) last in
    let rows = free_written row_value row_json row_written p.rows _ ∙ ap (λ l. array_text row_json p.rows ++ (codes ",\"contexts\":" ++ l)) contexts in
    let regions = array_written region_value region_json IsRegion region_written p.regions h.regions _ ∙ ap (λ l. array_text region_json p.regions ++ (codes ",\"rows\":" ++ l)) rows in
    ap (λ l. codes "{\"exit\":" ++ (signed_decimal p.exit ++ (codes ",\"ops\":" ++ (decimal p.ops ++ (codes ",\"regions\":" ++ l))))) regions
    ∙ document_parts (codes "{\"exit\":") (signed_decimal p.exit) (codes ",\"ops\":") (decimal p.ops) (codes ",\"regions\":") (array_text region_json p.regions)
    (codes ",\"rows\":") (array_text row_json p.rows) (codes ",\"contexts\":") (array_text context_json p.contexts) (codes ",\"plan\":") (plan_json p.plan (root_work p.contexts))
    (dict_json p.dict) (codes "}\n")
