-- Lines that lead from stage to stage.
use Rattle.std.proofs.Common.{◌≡◌, ℕ, ◌≤◌, inl, List, [], ◌∷◌, ◌++◌, length, refl, sym, ap, ◌∙◌, subst, append-nil, append_assoc, length-append, arith}
use Rattle.k_dict_entries.specs.declared.entry.Entry.{Entry}
use Rattle.k_dict_entries.proofs.Places.{place_kept}
use Rattle.k_dict_saved.specs.Lines as lists
use Rattle.k_sum_order.specs.Order.{AreInOrder}
use Rattle.k_sum_read.specs.Reading.{Reaches}
use Rattle.k_sum_saved.specs.SumLines.{Follows, GoesWrong, Head, IsWrong, Leads, Listed, Stage, arrived, entries_so_far, onward}

-- lines that lead on where others end
pub leads_through : (s : Stage) (one : List ℕ) (t : Stage) (other : List ℕ) (u : Stage) → Leads s one t → Leads t other u → Leads s (one ++ other) u
leads_through _ _ _ other u (arrived s) second = second
leads_through _ _ _ other u (onward s line t lines m first rest) second =
    let P : List ℕ → Type 0 = λ l. Leads s l u in
    subst P (sym (append_assoc line lines other)) (onward s line t (lines ++ other) u first (leads_through t lines m other u rest second))

-- one line
pub leads_once : (s : Stage) (line : List ℕ) (t : Stage) → Follows s line t → Leads s line t
leads_once s line t first = let P : List ℕ → Type 0 = λ l. Leads s l t in subst P (append-nil line) (onward s line t [] t first (arrived t))

-- no line yet
pub at_once : (s : Stage) (text : List ℕ) → Reaches s text s text
at_once s text = ([], refl, arrived s)

-- one line at the front
pub reaches_line : (s : Stage) (text line : List ℕ) (t : Stage) (rest : List ℕ) → Follows s line t → text ≡ line ++ rest → Reaches s text t rest
reaches_line s text line t rest first cut = (line, cut, leads_once s line t first)

-- lines that go on where others end
pub reaches_on : (s : Stage) (text : List ℕ) (t : Stage) (middle : List ℕ) (u : Stage) (rest : List ℕ) → Reaches s text t middle → Reaches t middle u rest → Reaches s text u rest
reaches_on s text t middle u rest one other = (
  one.0 ++ other.0,
  one.1 ∙ ap (λ l. one.0 ++ l) other.1 ∙ sym (append_assoc one.0 other.0 rest),
  leads_through s one.0 t other.0 u one.2 other.2,
)

-- what goes wrong behind lines goes wrong with them
pub wrong_behind : (s : Stage) (text : List ℕ) (t : Stage) (middle : List ℕ) (left : ℕ) → Reaches s text t middle → GoesWrong t middle left → GoesWrong s text left
wrong_behind s text t middle left first wrong = record {
  before = first.0 ++ wrong.before;
  rest = wrong.rest;
  stage = wrong.stage;
  cut = first.1 ∙ ap (λ l. first.0 ++ l) wrong.cut ∙ sym (append_assoc first.0 wrong.before wrong.rest);
  leads = leads_through s first.0 t wrong.before wrong.stage first.2 wrong.leads;
  wrong = wrong.wrong;
  left_is = wrong.left_is;
}

-- what is wrong here
pub wrong_here : (s : Stage) (text : List ℕ) → IsWrong s text → GoesWrong s text (length text)
wrong_here s text wrong = record { before = []; rest = text; stage = s; cut = refl; leads = arrived s; wrong = wrong; left_is = refl }

-- so many bytes are left of a text as it has
pub left_within : (s : Stage) (text : List ℕ) (left : ℕ) → GoesWrong s text left → left ≤ length text
left_within s text left wrong =
    let is = wrong.left_is in let whole = ap length wrong.cut ∙ length-append wrong.before wrong.rest in omega arith

-- ---- lines of regions and of entries

-- entries that a line told stay at the front
more_entries : (s : lists.Stage) (line : List ℕ) (t : lists.Stage) → lists.Follows s line t → (more : List Entry) × (entries_so_far t ≡ entries_so_far s ++ more)
more_entries (lists.Opened accepts) line t follows = (entries_so_far t, refl)
more_entries (lists.Named format) line t follows = (entries_so_far t, refl)
more_entries (lists.Exited format) line t follows = (entries_so_far t, refl)
more_entries (lists.Counted format) line t follows = (entries_so_far t, refl)
more_entries (lists.InRegions format count regions) line t follows = (entries_so_far t, refl)
more_entries (lists.InEntries format regions count entries) line t follows = (follows.entry ∷ [], ap entries_so_far follows.next_is)

-- so they do behind all lines
all_entries : (s : lists.Stage) (lines : List ℕ) (t : lists.Stage) → lists.Leads s lines t → (more : List Entry) × (entries_so_far t ≡ entries_so_far s ++ more)
all_entries _ _ _ (lists.arrived s) = ([], sym (append-nil (entries_so_far s)))
all_entries _ _ _ (lists.onward s line t lines u first rest) =
    let one = more_entries s line t first in let later = all_entries t lines u rest in
    (one.0 ++ later.0, later.1 ∙ ap (λ l. l ++ later.0) one.1 ∙ append_assoc (entries_so_far s) one.0 later.0)

-- the first of entries in order are in order
pub order_front : (entries more : List Entry) → AreInOrder (entries ++ more) → AreInOrder entries
order_front entries more order m n d e less at at' = order m n d e less (place_kept entries more m d at) (place_kept entries more n e at')

-- lines of regions and of entries that lead on in a saved profile do so in a sum, where the entries stand in order
pub listed_leads : (head : Head) (s : lists.Stage) (lines : List ℕ) (t : lists.Stage) → lists.Leads s lines t → AreInOrder (entries_so_far t)
    → Leads (Listed head s) lines (Listed head t)
listed_leads head _ _ _ (lists.arrived s) order = arrived (Listed head s)
listed_leads head _ _ _ (lists.onward s line t lines u first rest) order =
    let later = all_entries t lines u rest in
    let P : List Entry → Type 0 = AreInOrder in
    let here : AreInOrder (entries_so_far t) = order_front (entries_so_far t) later.0 (subst P later.1 order) in
    onward (Listed head s) line (Listed head t) lines (Listed head u) (inl (record { stage = t; follows = first; order = here; next_is = refl }))
    (listed_leads head t lines u rest order)
