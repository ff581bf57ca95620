use mathlib.Core.Path.{sym}
use Rattle.sheet.specs.Read.{place_count}
use Rattle.sheet.proofs.Scan.{read_end}
use Rattle.reader.proofs.Cases.{no_opcode}
use Rattle.reader.proofs.read_command.Goals as goal

pub returns-then-sheet-at : goal.returns-then-sheet-at
returns-then-sheet-at c = let a = c.args in sym (read_end place_count a.width a.sheet.now a.at c.if-sheet-at.true)

pub returns-then-opcode-eq0 : goal.returns-then-opcode-eq0
returns-then-opcode-eq0 c = let a = c.args in no_opcode a.width a.sheet.now a.at c.if-sheet-at.false c.then-opcode-eq0.either
