-- Believed with the theorem on the top call.
-- *Texts*: the listing of a run's dependence graph.
use Rattle.std.specs.Prelude.{ℕ, ℤ, ◌+◌, ◌≡◌, ◌<◌, ◌≤◌, List, [], ◌∷◌, ◌++◌, codes, if◌then◌else◌}
use Rattle.std.specs.List.{flat_map}
use Rattle.std.specs.Fmt.{decimal, signed_decimal}
use Rattle.k_num.specs.declared.place.Place.{Place}
use Rattle.k_optab.specs.declared.class.Class.{Class}
use Rattle.k_optab.specs.declared.event.Event.{Event}
use Rattle.k_optab.specs.declared.event.Event.TheVariants.{Op, Enter, Exit}
use Rattle.k_optab.specs.declared.event.Src.{Src}
use Rattle.k_optab.specs.Events.{Operation, operations}
use Rattle.k_optab.specs.Graph.{Heaviest}
use Rattle.k_optab.specs.Latencies.{class_name}
use Rattle.k_graph.specs.declared.tree.Instance.{Instance}
use Rattle.k_graph.specs.Chosen.{IsChosen}
use Rattle.k_ending.specs.declared.ending.End.{End}
use Rattle.k_ending.specs.declared.ending.End.TheVariants.{Returned, Trapped, OutOfSteps}
use Rattle.k_ending.specs.declared.ending.Trap.{Trap}
use Rattle.k_ending.specs.Traps.{trap_name}
use Rattle.k_ending.specs.declared.listing.Listing.{Listing}
use Rattle.k_text.specs.Texts.{named_line, place_text}

-- a source behind a space, with a mark where the dependence is broken
abbrev pub source_text : Src → List ℕ
source_text src = codes " " ++ decimal src.number ++ (if src.broken then codes "!" else [])

-- the sources of an operation, in their order, or a dash for none
abbrev pub sources_text : List Src → List ℕ
sources_text [] = codes " -"
sources_text (src ∷ sources) = flat_map source_text (src ∷ sources)

-- the line of operation k
abbrev pub op_line : ℕ → Class → ℕ → List Src → Place → List ℕ
op_line k class latency sources place =
    codes "op " ++ decimal k ++ codes " " ++ class_name class ++ codes " " ++ decimal latency ++ codes " " ++ place_text place
    ++ codes " from" ++ sources_text sources ++ codes "\n"

-- the line of an event before which k operations were made
abbrev pub event_line : ℕ → Event → List ℕ
event_line k (Op class latency sources place) = op_line k class latency sources place
event_line k (Enter region) = named_line (codes "enter ") (decimal region)
event_line k Exit = codes "exit\n"

-- how many operations are made once an event has happened
abbrev pub made_with : ℕ → Event → ℕ
made_with k (Op class latency sources place) = k + 1
made_with k (Enter region) = k
made_with k Exit = k

-- the lines of events before which k operations were made
abbrev pub event_lines : ℕ → List Event → List ℕ
event_lines k [] = []
event_lines k (event ∷ events) = event_line k event ++ event_lines (made_with k event) events

-- an operation's number behind a space
abbrev pub node_text : ℕ → List ℕ
node_text k = codes " " ++ decimal k

-- the operations of a path, each behind a space, or a dash for none
abbrev pub nodes_text : List ℕ → List ℕ
nodes_text [] = codes " -"
nodes_text (node ∷ nodes) = flat_map node_text (node ∷ nodes)

-- the line of instance i with a heaviest path; its interval goes up to the number behind its last operation
abbrev pub instance_line : ℕ → Instance → List ℕ → List ℕ
instance_line i n nodes =
    codes "instance " ++ decimal i ++ codes " region " ++ decimal n.region ++ codes " from " ++ decimal n.start ++ codes " to " ++ decimal n.end
    ++ codes " work " ++ decimal n.work ++ codes " path " ++ decimal n.path ++ codes " :" ++ nodes_text nodes ++ codes "\n"

-- these nodes are the chosen path of [s, e), than which none is heavier
pub record IsChosenHeaviest (ops : List Operation) (s e : ℕ) (nodes : List ℕ) : Type 0 where
  pub weight : ℕ
  pub heaviest : Heaviest ops s e weight
  pub chosen : IsChosen ops s e weight nodes

-- these nodes are the heaviest path that is chosen of an instance's operations, or none where it has no operation
pub record IsHeaviestPath (ops : List Operation) (n : Instance) (nodes : List ℕ) : Type 0 where
  pub none : n.start ≡ n.end → nodes ≡ []
  pub some : n.start < n.end → IsChosenHeaviest ops n.start n.end nodes

-- a line for each of these instances, which are numbered from i on
abbrev pub AreInstanceLines : List Operation → ℕ → List Instance → List ℕ → Type 0
AreInstanceLines ops i [] text = text ≡ []
AreInstanceLines ops i (n ∷ tree) text =
    (nodes : List ℕ) × (later : List ℕ) × IsHeaviestPath ops n nodes × AreInstanceLines ops (i + 1) tree later × (text ≡ instance_line i n nodes ++ later)

-- the last line where main returned
abbrev pub returned_line : ℤ → List ℕ
returned_line exit = named_line (codes "end returned ") (signed_decimal exit)

-- the last line where an operation could not be made
abbrev pub trapped_line : Trap → Place → List ℕ
trapped_line trap place = codes "end trapped " ++ trap_name trap ++ codes " " ++ place_text place ++ codes "\n"

-- the last line: how the run ended
abbrev pub end_line : End → List ℕ
end_line (Returned exit) = returned_line exit
end_line (Trapped trap place) = trapped_line trap place
end_line OutOfSteps = codes "end out of steps\n"

-- the listing: a line for each event, a line for each instance, and the end
pub record IsGraphText (listing : Listing) (tree : List Instance) (text : List ℕ) : Type 0 where
  pub instances : List ℕ
  pub are : AreInstanceLines (operations listing.events) 0 tree instances
  pub text_is : text ≡ event_lines 0 listing.events ++ instances ++ end_line listing.end

-- an instance's interval is one of so many operations
pub record IsWithin (made : ℕ) (n : Instance) : Type 0 where
  pub in_order : n.start ≤ n.end
  pub made_by_then : n.end ≤ made
