-- The code's symbols in the rules' words.
use Rattle.rules.specs.declared.Symbol.{Symbol}
use Rattle.rules.specs.declared.Symbol.TheVariants.{New, Border, Index}
use Rattle.rules.specs.Walk as walk

-- N, B, and w with its walk number
abbrev pub told_symbol : Symbol → walk.Symbol
told_symbol New = walk.Symbol.new
told_symbol Border = walk.Symbol.border
told_symbol (Index e) = walk.Symbol.index e.0
