-- Whatever is done to a tidy world leaves it tidy: its objects are laid out, and each live element has an origin.
use Rattle.std.proofs.Common.{◌≡◌, ℕ, ℤ, List, [], ◌∷◌, ◌++◌, length, replicate, fold, Option, Some, None, Result, Ok, Err, refl, ap, subst, ◌∙◌}
use Rattle.k_num.specs.declared.initial.Initial.{Initial}
use Rattle.k_num.specs.declared.place.Place.{Place}
use Rattle.k_optab.specs.declared.class.Class.{Class}
use Rattle.k_ending.specs.declared.ending.Trap.{Trap}
use Rattle.k_mem.specs.declared.pointer.Pointer.{Pointer}
use Rattle.k_mem.specs.declared.start.Start.{Start}
use Rattle.k_mem.specs.declared.start.Start.TheVariants.{Literal}
use Rattle.k_mem.specs.Memory.{Memory, IsLaidOut}
use Rattle.k_mem.specs.Calls.{push_of, filled, with_value, with_values, HasLength}
use Rattle.k_mem.specs.Changes.{Push, made_or}
use Rattle.k_mem.proofs.Numbers.{length_with_value, length_with_values}
use Rattle.k_mem.proofs.LaidOut.{laid_oldest, laid_rewritten, stays_laid_out}
use Rattle.k_world.specs.declared.act.Act.{Act}
use Rattle.k_world.specs.declared.act.Act.TheVariants as act
use Rattle.k_world.specs.declared.value.Read.{Read}
use Rattle.k_world.specs.declared.value.Value.{Value}
use Rattle.k_world.specs.Acts.{effect, pointer_and_number, written, store_effect, output_effect}
use Rattle.k_world.specs.Changes.{item_stored, object_made, object_filled, objects_kept, string_made, with_elements}
use Rattle.k_world.specs.Operands.{values_of}
use Rattle.k_world.specs.Operations.{Made, Gives, Ends, counted, operation}
use Rattle.k_world.specs.Worlds.{World, HasOrigins}
use Rattle.k_world.specs.WorldLaws.{WhereMade}
use Rattle.k_world.proofs.Origins.{filled_has_origins, kept_has_origins, made_has_origins}
use Rattle.k_world.proofs.Sound.{operation_cases, origins_stay, calls_stay}
use Rattle.k_evaluation_control.specs.Laws.{IsTidy}

-- AN OPERATION
store_laid : (number : ℕ) (s : Option (Pointer × ℤ)) (w : World) → IsLaidOut w.memory → IsLaidOut (store_effect number s w).memory
store_laid number None w laid = laid
store_laid number (Some s) w laid = laid_rewritten (with_value s.0.offset s.1) s.0.object (length_with_value s.0.offset s.1) w.memory laid

output_laid : (number : ℕ) (bytes : Result (List ℕ) Trap) (w : World) → IsLaidOut w.memory → IsLaidOut (output_effect number bytes w).memory
output_laid number (Ok bytes) w laid = laid
output_laid number (Err t) w laid = laid

effect_laid : (what : Act) (number : ℕ) (values : List Value) (w : World) → IsLaidOut w.memory → IsLaidOut (effect what number values w).memory
unfolding effect
effect_laid (act.Binary op kind) number values w laid = laid
effect_laid (act.Unary op kind) number values w laid = laid
effect_laid (act.Convert kind) number values w laid = laid
effect_laid act.Move number values w laid = laid
effect_laid (act.Offset minus scale) number values w laid = laid
effect_laid (act.PtrCompare op) number values w laid = laid
effect_laid (act.PtrDistance scale) number values w laid = laid
effect_laid act.Load number values w laid = laid
effect_laid act.Store number values w laid = store_laid number (pointer_and_number values) w laid
effect_laid act.Input number values w laid = laid
effect_laid (act.Output what) number values w laid = output_laid number (written what values) w laid
effect_laid act.Test number values w laid = laid
effect_laid act.Call number values w laid = laid

where_laid : (class : Class) (latency : ℕ) (place : Place) (what : Act) (reads : List Read) (w : World) → IsLaidOut w.memory
    → WhereMade (λ before after. IsLaidOut after.memory) w (operation class latency place what reads w)
where_laid class latency place what reads w laid =
    operation_cases (WhereMade (λ before after. IsLaidOut after.memory) w) class latency place what reads w (λ end early. tt)
    (λ some v. effect_laid what w.made (values_of reads) (counted class latency place what reads w) laid)

-- both hold where an operation is made
both_hold : (live : ℕ) (w : World) (m : Made) → w.calls ≡ live → WhereMade (λ before after. IsLaidOut after.memory) w m → WhereMade (λ before after. HasOrigins after) w m
    → WhereMade (λ before after. (after.calls ≡ before.calls) × (after.size ≡ before.size) × (after.memory.made ≡ before.memory.made)) w m
    → WhereMade (λ before after. IsTidy live after) w m
both_hold live w (Gives held after) calls laid has kept = record { laid = laid; origins = has; calls = kept.0 ∙ calls }
both_hold live w (Ends end after) calls laid has kept = tt

pub operation_tidy : (live : ℕ) (class : Class) (latency : ℕ) (place : Place) (what : Act) (reads : List Read) (w : World) → IsTidy live w
    → WhereMade (λ before after. IsTidy live after) w (operation class latency place what reads w)
operation_tidy live class latency place what reads w tidy =
    both_hold live w (operation class latency place what reads w) tidy.calls (where_laid class latency place what reads w tidy.laid)
    (origins_stay class latency place what reads w tidy.origins) (calls_stay class latency place what reads w)

-- OBJECTS
pub made_tidy : (live : ℕ) (w after : World) (start : Start) (count : ℕ) → HasLength start count → IsTidy live w → object_made w start count ≡ Some after → IsTidy live after
made_tidy live w after start count has tidy is = by (push_of w.memory start count) refl is
  where
    by : (m : Option Memory) → push_of w.memory start count ≡ m → with_elements count w m ≡ Some after → IsTidy live after
    by None pushed is = absurd (cc is)
    by (Some m) pushed is =
        let laid : IsLaidOut m = subst (λ (o : Option Memory). IsLaidOut (made_or w.memory o)) pushed (stays_laid_out w.memory (Push start count) has tidy.laid) in
        let next : World = record w { memory = m; origins = w.origins ++ replicate count None } in
        let new : next ≡ after = cc is in
        let origins : HasOrigins next = made_has_origins w next start count has tidy.origins (ap (with_elements count w) pushed) in
        subst (IsTidy live) new (record { laid = laid; origins = origins; calls = tidy.calls })

pub string_tidy : (live : ℕ) (w after : World) (bytes : List ℕ) → IsTidy live w → string_made w bytes ≡ Some after → IsTidy live after
string_tidy live w after bytes tidy is = made_tidy live w after (Literal (record { ref_ptr = (0, 0); now = bytes })) (length bytes) refl tidy is

pub kept_tidy : (live : ℕ) (w : World) (keep : ℕ) → IsTidy live w → IsTidy live (objects_kept w keep)
kept_tidy live w keep tidy = record {
  laid = laid_oldest w.memory keep tidy.laid;
  origins = kept_has_origins w keep tidy.origins;
  calls = tidy.calls;
}

-- setting the elements of an object keeps memory laid out
items_laid : (object : ℕ) (items : List Initial) (m : Memory) → IsLaidOut m → IsLaidOut (fold (item_stored object) m items)
items_laid object [] m laid = laid
items_laid object (i ∷ items) m laid =
    items_laid object items (item_stored object m i) (laid_rewritten (with_value i.element i.number) object (length_with_value i.element i.number) m laid)

pub filled_tidy : (live : ℕ) (w : World) (object : ℕ) (items : List Initial) → IsTidy live w → IsTidy live (object_filled w object items)
filled_tidy live w object items tidy = record {
  laid = items_laid object items (filled w.memory object []) (laid_rewritten (with_values []) object (length_with_values []) w.memory tidy.laid);
  origins = filled_has_origins w object items tidy.laid tidy.origins;
  calls = tidy.calls;
}
