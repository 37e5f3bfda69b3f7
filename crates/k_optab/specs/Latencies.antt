-- Believed with the theorem on the top call.
-- The classes of operations: their order, their names, and their latencies.
use Rattle.std.specs.Prelude.{ℕ, List, [], ◌∷◌, map, codes, slice_index}
use Rattle.k_optab.specs.declared.class.Class.{Class}
use Rattle.k_optab.specs.declared.class.Class.TheVariants.{Move, Conv, Simple, Mul, Div, Load, Store, Test, Call, Input, Output, Select}

-- the classes in order
abbrev pub classes : List Class
classes = Move ∷ Conv ∷ Simple ∷ Mul ∷ Div ∷ Load ∷ Store ∷ Test ∷ Call ∷ Input ∷ Output ∷ Select ∷ []

-- a class's index in that order, and in a table of latencies
abbrev pub index_of : Class → ℕ
index_of Move = 0
index_of Conv = 1
index_of Simple = 2
index_of Mul = 3
index_of Div = 4
index_of Load = 5
index_of Store = 6
index_of Test = 7
index_of Call = 8
index_of Input = 9
index_of Output = 10
index_of Select = 11

-- a class's name in reports, listings and tables of latencies
abbrev pub class_name : Class → List ℕ
class_name Move = codes "move"
class_name Conv = codes "conv"
class_name Simple = codes "simple"
class_name Mul = codes "mul"
class_name Div = codes "div"
class_name Load = codes "load"
class_name Store = codes "store"
class_name Test = codes "test"
class_name Call = codes "call"
class_name Input = codes "input"
class_name Output = codes "output"
class_name Select = codes "select"

-- a class's latency where no table says another
abbrev pub standard_latency : Class → ℕ
standard_latency Move = 0
standard_latency Conv = 0
standard_latency Simple = 1
standard_latency Mul = 3
standard_latency Div = 20
standard_latency Load = 4
standard_latency Store = 1
standard_latency Test = 1
standard_latency Call = 1
standard_latency Input = 10
standard_latency Output = 10
standard_latency Select = 1

-- the table of these, in the order of the classes
abbrev pub standard_latencies : List ℕ
standard_latencies = map standard_latency classes

-- a class's latency in a table
abbrev pub latency : List ℕ → Class → ℕ
latency table class = slice_index table (index_of class)
