-- The room that eight words take in memory.
use Rattle.std.specs.Prelude.{◌+◌, ◌*◌, ◌^◌, ◌<◌, max}
use denote.Memory.{lone}
use denote.Param.{layout}
use denote.RattleType.{RattleType}
use prog.Memory.{size, align, up}

-- eight words of a type, each a struct of one field, take fewer than 2 ^ 63 bytes
abbrev pub VectorFits : RattleType → Type 0
VectorFits R = 8 * up (max (align (lone R.mir)) 1) (up (align (layout R)) 0 + size (lone R.mir)) < 2 ^ 63
