-- The classes of operations, class by class.
use Rattle.std.specs.Prelude.{slice_get, Some, ◌≡◌, refl}
use Rattle.k_optab.specs.declared.class.Class.{Class}
use Rattle.k_optab.specs.declared.class.Class.TheVariants.{Move, Conv, Simple, Mul, Div, Load, Store, Test, Call, Input, Output, Select}
use Rattle.k_optab.specs.Latencies.{classes, index_of, latency, standard_latencies, standard_latency}

-- each class stands at its index
pub slice_get-classes : (class : Class) → slice_get classes (index_of class) ≡ Some class
slice_get-classes Move = refl
slice_get-classes Conv = refl
slice_get-classes Simple = refl
slice_get-classes Mul = refl
slice_get-classes Div = refl
slice_get-classes Load = refl
slice_get-classes Store = refl
slice_get-classes Test = refl
slice_get-classes Call = refl
slice_get-classes Input = refl
slice_get-classes Output = refl
slice_get-classes Select = refl

-- the standard table has each class's standard latency
pub latency-standard : (class : Class) → latency standard_latencies class ≡ standard_latency class
latency-standard Move = refl
latency-standard Conv = refl
latency-standard Simple = refl
latency-standard Mul = refl
latency-standard Div = refl
latency-standard Load = refl
latency-standard Store = refl
latency-standard Test = refl
latency-standard Call = refl
latency-standard Input = refl
latency-standard Output = refl
latency-standard Select = refl
