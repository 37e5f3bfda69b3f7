-- What a gathering leads to is the dictionary.
use Rattle.std.proofs.Common.{◌≡◌, ℕ, ◌+◌, ◌<◌, ◌≤◌, List, [], ◌∷◌, ◌++◌, length, Result, Ok, Err, refl, sym, ap, ◌∙◌, subst}
use Rattle.k_optab.specs.declared.node.Node.{Node}
use Rattle.k_dict_entries.specs.Trees.{IsInOrder, Tree, alone}
use Rattle.k_dict_entries.specs.Dictionary.{IsDictionary, IsDictionaryOf}
use Rattle.k_dict_entries.specs.Gathering.{LeadsTo, gathered}
use Rattle.k_dict_entries.specs.Interning.{Gathers}
use Rattle.k_dict_entries.specs.declared.entry.Entry.{Entry}
use Rattle.k_dict_entries.specs.declared.dict.DictFault.{DictFault}
use Rattle.k_dict_entries.specs.declared.dict.DictFault.TheVariants.{Full, Memory}
use Rattle.k_dict_entries.proofs.Machine.{gathered_is}
use Rattle.k_dict_entries.proofs.Ordered.{is_of_tree}
use Rattle.k_dict_entries.proofs.Walking.{walk, walk_is}

-- the entries behind all nodes are the dictionary
pub gathered_dictionary : (nodes : List Node) → IsInOrder nodes → IsDictionary nodes (gathered nodes).dict
gathered_dictionary nodes order =
    let tree = is_of_tree nodes order in
    let t : Tree = tree.0 in
    let is : (gathered nodes).dict ≡ (walk (alone t) []).dict = ap (λ l. (gathered l).dict) tree.1 ∙ gathered_is t in
    let P : List Entry → Type 0 = λ entries. IsDictionaryOf t entries in
    (t, tree.1, subst P (sym is) (walk_is t))

pub gathers_is : (nodes : List Node) (result : Result (List Entry) DictFault) → IsInOrder nodes → LeadsTo result (gathered nodes) → Gathers nodes result
gathers_is nodes (Ok dict) order leads =
    let P : List Entry → Type 0 = IsDictionary nodes in subst P (sym leads) (gathered_dictionary nodes order)
gathers_is nodes (Err (Full which)) order leads = ((gathered nodes).dict, gathered_dictionary nodes order, leads)
gathers_is nodes (Err Memory) order leads = tt
