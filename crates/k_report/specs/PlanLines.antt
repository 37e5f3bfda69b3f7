-- Believed with the theorem on the top call.
-- The lines of a plan in a report.
use Rattle.std.specs.Prelude.{ℕ, ◌<◌, Bool, List, [], ◌∷◌, ◌++◌, Option, Some, None, length, All, codes, fold, slice_get, slice_index_or, option_and_then, if◌then◌else◌}
use Rattle.std.specs.List.{flat_map, join_by}
use Rattle.std.specs.Fmt.{decimal}
use Rattle.k_optab.specs.declared.region.Region.{Region}
use Rattle.k_plan.specs.declared.advice.Advice.{Advice}
use Rattle.k_plan.specs.declared.advice.Pick.{Pick}
use Rattle.k_selfpar.specs.declared.context.Context.{Context}
use Rattle.k_selfpar.specs.Contexts.{root_work}
use Rattle.k_text.specs.Texts.{name_text, written}

-- list k of these lists of regions, empty where there is none
abbrev pub regions_at : List (List ℕ) → ℕ → List ℕ
regions_at lists k = slice_index_or lists k []

-- the lists of the contexts so far, and that of one more: its parent's, and its own region behind them. The root is its own
-- parent, so before it there is none
abbrev pub with_regions : List (List ℕ) → Context → List (List ℕ)
with_regions lists context = lists ++ (regions_at lists context.parent ++ context.region ∷ []) ∷ []

-- the list of regions from the root of each context
unfoldable pub region_lists : List Context → List (List ℕ)
region_lists contexts = fold with_regions [] contexts

-- the regions of context k from the root
abbrev pub regions_to : List Context → ℕ → List ℕ
regions_to contexts k = regions_at (region_lists contexts) k

-- numbers of regions, with a slash between each two
abbrev pub regions_text : List ℕ → List ℕ
regions_text regions = join_by decimal (codes "/") regions

-- the function and the place of the region of context k
abbrev pub loop_text : List Region → List Context → ℕ → List ℕ
loop_text regions contexts k = written name_text (option_and_then (λ context. slice_get regions context.region) (slice_get contexts k))

-- whether the turns of a loop look independent
abbrev pub doall_text : Bool → List ℕ
doall_text doall = if doall then codes "doall" else codes "doacross"

-- the line of a pick: the loop's function and place, the regions from the root, whether its turns look independent, and what
-- it saves
abbrev pub pick_line : List Region → List Context → Pick → List ℕ
pick_line regions contexts pick =
    codes "plan loop " ++ loop_text regions contexts pick.context
    ++ codes " at " ++ regions_text (regions_to contexts pick.context)
    ++ codes " " ++ doall_text pick.doall ++ codes " saves " ++ decimal pick.saves ++ codes "\n"

-- the line of what all picks save together of the root's work
abbrev pub total_line : ℕ → ℕ → List ℕ
total_line saved work = codes "plan total " ++ decimal saved ++ codes " of " ++ decimal work ++ codes "\n"

-- a line for each pick, and the total
abbrev pub advice_text : List Region → List Context → Advice → List ℕ
advice_text regions contexts advice = flat_map (pick_line regions contexts) advice.picks ++ total_line advice.total (root_work contexts)

-- the line where there are too many contexts for a plan
abbrev pub wide_line : List ℕ
wide_line = codes "plan: over 65536 contexts\n"

-- the lines of a plan, or one line where there are too many contexts for one
abbrev pub plan_text : List Region → List Context → Option Advice → List ℕ
plan_text regions contexts None = wide_line
plan_text regions contexts (Some advice) = advice_text regions contexts advice

-- each pick names a context
abbrev pub NamesContexts : List Context → Advice → Type 0
NamesContexts contexts advice = All (λ pick. pick.context < length contexts) advice.picks
