-- There is room for what an operation gives, where it was made before.
use Rattle.std.proofs.Common.{ℕ, ◌≡◌, List, [], ◌∷◌, ◌++◌, Option, Some, None, option_map, refl, sym, subst, ap, ◌∙◌}
use Rattle.k_optab.specs.declared.class.Class.{Class}
use Rattle.k_world.specs.declared.act.Act.{Act}
use Rattle.k_world.specs.declared.act.Act.TheVariants as does
use Rattle.k_code.specs.declared.instruction.Do.{Do}
use Rattle.k_code.specs.declared.instruction.Do.TheVariants as act
use Rattle.k_code.specs.Named.{register_set}
use Rattle.k_code.specs.Steps.{Configuration, operation_of}
use Rattle.k_hcpa_meaning.specs.Locations.{effect_locations, element_location, element_touched, register_location}
use Rattle.k_hcpa_meaning.specs.Timings.{Location}
use Rattle.k_hcpa_store.specs.Leads.{stored_element}
use Rattle.k_hcpa_times.specs.Seen.{Room}
use Rattle.k_hcpa_instructions.specs.Kinds.{HaveRoom, effects_of, held_by}

-- room for some and for more
room_both : (room : Room → Type 0) (some more : List Location) → HaveRoom room some → HaveRoom room more → HaveRoom room (some ++ more)
room_both room [] more first rest = rest
room_both room (at ∷ some) more first rest = (first.0, room_both room some more first.1 rest)

-- what a store writes is told before it is made
stores_alone : (c : Configuration) (what : Do) (class : Class) → operation_of what ≡ Some (class, does.Store) → stored_element c what ≡ element_touched c what does.Store
unfolding operation_of stored_element
stores_alone c (act.Store at a to) class is = refl
stores_alone c (act.Return None) class is = absurd (cc is)
stores_alone c what class is =
    let same = ap (λ (o : Option (Class × Act)). option_map (λ (p : Class × Act). p.1) o) is in
    absurd (cc same)

effect_room : (room : Room → Type 0) (c : Configuration) (what : Do) (class : Class) (does_it : Act) (reserved element : Option ℕ) → operation_of what ≡ Some (class, does_it)
    → reserved ≡ stored_element c what → element ≡ element_touched c what does_it → HaveRoom room (element_location reserved)
    → HaveRoom room (effect_locations does_it element)
unfolding effect_locations
effect_room room c what class does.Store reserved element is told touches has =
    subst (λ (e : Option ℕ). HaveRoom room (element_location e)) (told ∙ stores_alone c what class is ∙ sym touches) has
effect_room room c what class does.Input reserved element is told touches has = (record {}, record {})
effect_room room c what class (does.Output out) reserved element is told touches has = (record {}, record {})
effect_room room c what class does.Test reserved element is told touches has = (record {}, record {})
effect_room room c what class other reserved element is told touches has = record {}

pub held_room : (room : Room → Type 0) (c : Configuration) (what : Do) (o : Class × Act) (first : ℕ) (to reserved element : Option ℕ) → operation_of what ≡ Some o
    → to ≡ register_set what → reserved ≡ stored_element c what → element ≡ element_touched c what o.1
    → HaveRoom room (register_location first to) → HaveRoom room (element_location reserved) → HaveRoom room (held_by first what element)
held_room room c what o first to reserved element is sets told touches register has =
    room_both room (effects_of (operation_of what) element) (register_location first (register_set what))
    (subst (λ (some : Option (Class × Act)). HaveRoom room (effects_of some element)) (sym is) (effect_room room c what o.0 o.1 reserved element is told touches has))
    (subst (λ (r : Option ℕ). HaveRoom room (register_location first r)) sets register)
