-- For contracts between crates: nobody has to believe it.
-- What stands in the way of a loop, with the lines of the source.
use Rattle.std.specs.Prelude.{ℕ, List, [], ◌++◌, Option, Some, None, codes}
use Rattle.std.specs.Fmt.{decimal}
use Rattle.k_num.specs.declared.place.Place.{Place}
use Rattle.k_text.specs.Texts.{place_text}
use Rattle.k_carry_pairs.specs.declared.pairs.Pair.{Pair}
use Rattle.k_carry_storage_pairs.specs.declared.pairs.Shared.{Shared}
use Rattle.k_carry_storage_pairs.specs.declared.pairs.Sharing.{Sharing}
use Rattle.k_carry_storage_pairs.specs.declared.pairs.Sharing.TheVariants.{Anti, Output}
use Rattle.k_advise_verdicts.specs.declared.facts.Failing.{Failing}
use Rattle.k_advise_verdicts.specs.declared.facts.Named.{Named}
use Rattle.k_advise_verdicts.specs.declared.word.FirstPairs.{FirstPairs}
use Rattle.k_advise_verdicts.specs.declared.word.FirstShared.{FirstShared}
use Rattle.k_advise_verdicts.specs.declared.word.InCommon.{InCommon}
use Rattle.k_advise_verdicts.specs.declared.word.Verdict.{Verdict}
use Rattle.k_advise_verdicts.specs.declared.word.Verdict.TheVariants as verdict
use Rattle.k_advise_text.specs.Numbers.{between, ratio_text, tenths_text}
use Rattle.k_advise_text.specs.Sources.{name_text, shown_place, shown_places}
use Rattle.k_advise_text.specs.Words.{failing}

-- two places, in words
unfoldable pub from_to : Place → List ℕ → Place → List ℕ
from_to from between to = place_text from ++ between ++ place_text to ++ codes "\n"

-- two places of one name, in words, and their lines
unfoldable pub told : List ℕ → List ℕ → Place → List ℕ → List ℕ → Place → List ℕ
told source before from what between to = name_text before source from ++ what ++ from_to from between to ++ shown_places source from to

-- a pair that a loop carries, and its lines
abbrev pub pair_text : List ℕ → Pair → List ℕ
pair_text source pair = told source (codes "  ") pair.from (codes "computed at ") (codes ", needed later at ") pair.to

-- a pair that is there
abbrev pub further_pair : List ℕ → Option Pair → List ℕ
further_pair source None = []
further_pair source (Some pair) = pair_text source pair

-- the first pairs
unfoldable pub pairs_text : List ℕ → FirstPairs → List ℕ
pairs_text source pairs = pair_text source pairs.first ++ further_pair source pairs.second ++ further_pair source pairs.third

-- how iterations share
abbrev pub sharing : Sharing → List ℕ
sharing Anti = codes "read at "
sharing Output = codes "written at "

-- a storage pair, and its lines
abbrev pub shared_text : List ℕ → Shared → List ℕ
shared_text source s = told source (codes "  ") s.from (sharing s.kind) (codes ", written later at ") s.to

-- a storage pair that is there
abbrev pub further_shared : List ℕ → Option Shared → List ℕ
further_shared source None = []
further_shared source (Some s) = shared_text source s

-- the first storage pairs, if there are any
abbrev pub storage_text : List ℕ → Option FirstShared → List ℕ
storage_text source None = []
storage_text source (Some pairs) = shared_text source pairs.first ++ further_shared source pairs.second ++ further_shared source pairs.third

-- that a variable keeps its value, if it is one
abbrev pub kept : Option ℕ → List ℕ → List ℕ
kept None name = []
kept (Some variable) name = between (codes "  ") name (codes " keeps its value from one iteration to the next\n")

-- what to do about an array of which each thread could have its own, or that a variable keeps its value
abbrev pub cure : Option Named → Option ℕ → List ℕ → List ℕ
cure None variable name = kept variable name
cure (Some array) variable name = between (codes "  give each thread its own ") name (codes "\n")

-- what iterations share
abbrev pub common_text : List ℕ → InCommon → List ℕ → List ℕ
common_text source common name = storage_text source common.pairs ++ cure common.own common.variable name

-- a sentence about a place, and its line
unfoldable pub about : List ℕ → List ℕ → Place → List ℕ
about source what place = codes "  " ++ what ++ codes ", at " ++ place_text place ++ codes "\n" ++ shown_place source place

-- why a loop is not counted
abbrev pub uncounted : List ℕ → Failing → List ℕ
uncounted source why = about source (failing why.condition) why.place

-- what an iteration takes, in tenths, and what a start takes
unfoldable pub small : ℕ → ℕ → List ℕ
small turn start = codes "  an iteration takes " ++ tenths_text turn ++ codes ", to begin in parallel takes " ++ decimal start ++ codes "\n"

-- how little of a loop can be done at once
unfoldable pub serial : ℕ × ℕ → List ℕ
serial sp = between (codes "  its self-parallelism is ") (ratio_text sp) (codes "\n")

-- WHAT STANDS IN THE WAY of a loop of this verdict, whose variable or array is called so
abbrev pub reason : List ℕ → Verdict → List ℕ → List ℕ
reason source (verdict.Parallel uneven) name = []
reason source (verdict.Inside pick) name = []
reason source (verdict.Chain pairs) name = pairs_text source pairs
reason source (verdict.Shared common) name = common_text source common name
reason source (verdict.Uncounted why) name = uncounted source why
reason source (verdict.Leaves place) name = about source (codes "it is left") place
reason source (verdict.Small turn start) name = small turn start
reason source (verdict.Serial sp) name = serial sp
