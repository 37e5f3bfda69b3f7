-- Lines that lead from stage to stage.
use Rattle.std.proofs.Common.{◌≡◌, ℕ, ◌+◌, ◌≤◌, List, [], ◌++◌, length, refl, sym, ap, ◌∙◌, subst, append-nil, append_assoc, length-append, arith}
use Rattle.k_dict_saved.specs.Lines.{Follows, GoesWrong, IsWrong, Leads, Stage, arrived, onward}

-- lines that lead on where others end
pub leads_through : (s : Stage) (one : List ℕ) (t : Stage) (other : List ℕ) (u : Stage) → Leads s one t → Leads t other u → Leads s (one ++ other) u
leads_through _ _ _ other u (arrived s) second = second
leads_through _ _ _ other u (onward s line t lines m first rest) second =
    let P : List ℕ → Type 0 = λ l. Leads s l u in
    subst P (sym (append_assoc line lines other)) (onward s line t (lines ++ other) u first (leads_through t lines m other u rest second))

-- one line
pub leads_once : (s : Stage) (line : List ℕ) (t : Stage) → Follows s line t → Leads s line t
leads_once s line t first = let P : List ℕ → Type 0 = λ l. Leads s l t in subst P (append-nil line) (onward s line t [] t first (arrived t))

-- one line more
pub leads_on : (s : Stage) (lines : List ℕ) (t : Stage) (line : List ℕ) (u : Stage) → Leads s lines t → Follows t line u → Leads s (lines ++ line) u
leads_on s lines t line u first second = leads_through s lines t line u first (leads_once t line u second)

-- what goes wrong behind lines goes wrong with them
pub wrong_behind : (from : Stage) (before : List ℕ) (middle : Stage) (text rest : List ℕ) (left : ℕ) → Leads from before middle → text ≡ before ++ rest
    → GoesWrong middle rest left → GoesWrong from text left
wrong_behind from before middle text rest left leads cut wrong = record {
  before = before ++ wrong.before;
  rest = wrong.rest;
  stage = wrong.stage;
  cut = cut ∙ ap (λ l. before ++ l) wrong.cut ∙ sym (append_assoc before wrong.before wrong.rest);
  leads = leads_through from before middle wrong.before wrong.stage leads wrong.leads;
  wrong = wrong.wrong;
  left_is = wrong.left_is;
}

-- what is wrong here
pub wrong_here : (s : Stage) (text : List ℕ) → IsWrong s text → GoesWrong s text (length text)
wrong_here s text wrong = record { before = []; rest = text; stage = s; cut = refl; leads = arrived s; wrong = wrong; left_is = refl }

-- so many bytes are left of a text as it has
pub left_within : (s : Stage) (text : List ℕ) (left : ℕ) → GoesWrong s text left → left ≤ length text
left_within s text left wrong =
    let sum : length text ≡ length wrong.before + length wrong.rest = ap length wrong.cut ∙ length-append wrong.before wrong.rest in
    let is = wrong.left_is in omega arith
