-- Believed with the theorem on the top call.
-- The class of an operation.
use Rattle.k_num.specs.declared.numbers.Bin.{Bin}
use Rattle.k_num.specs.declared.numbers.Bin.TheVariants.{Mul, Div, Rem}
use Rattle.k_optab.specs.declared.class.Class.{Class}
use Rattle.k_optab.specs.declared.class.Class.TheVariants as class

-- the class of a binary operation on numbers
abbrev pub class_of : Bin → Class
class_of Mul = class.Mul
class_of Div = class.Div
class_of Rem = class.Div
class_of op = class.Simple
