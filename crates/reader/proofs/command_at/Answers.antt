use mathlib.Core.Path.{refl, ap, ◌∙◌}
use Prim.Native.Nat.{ℕ, ◌+◌}
use native.Mathlib.Omega.{arith}
use lib.ListN.{get_or}
use Rattle.sheet.specs.declared.Places.{Places}
use Rattle.sheet.specs.Read.{size_of, two_places, one_place}
use Rattle.reader.proofs.Cases.{truncated, of_two, of_one}
use Rattle.reader.proofs.command_at.Goals as goal

pub returns-then-sheet-at : goal.returns-then-sheet-at
returns-then-sheet-at c =
    let a = c.args in
    let r = c.requires in
    let e = r.opcode_value.1 in
    truncated a.width a.sheet.now a.at r.opcode_value.0 (λ h. omega (arith, e, h, r.known.0)) (omega (arith, e, r.known.1)) a.size
    (r.size_value ∙ ap (size_of a.width) e) c.if-sheet-at.true

pub returns-then-opcode-lt6 : goal.returns-then-opcode-lt6
returns-then-opcode-lt6 c =
    let a = c.args in
    let r = c.requires in
    let e = r.opcode_value.1 in
    let p : Places = record { d = get_or a.sheet.now (a.at + 1) 0; s = get_or a.sheet.now (a.at + 2) 0 } in
    c.two_places.ensures ∙ ap (λ (b : ℕ). two_places b p (a.at + a.size)) e
    ∙ of_two a.width a.sheet.now a.at r.opcode_value.0 (λ h. omega (arith, e, h, r.known.0)) (omega (arith, e, r.known.1)) a.size
    (r.size_value ∙ ap (size_of a.width) e) c.if-sheet-at.false (omega (arith, e, c.if-opcode-lt6.true)) p refl refl

pub returns : goal.returns
returns c =
    let a = c.args in
    let r = c.requires in
    let e = r.opcode_value.1 in
    let d : ℕ = get_or a.sheet.now (a.at + 1) 0 in
    c.one_place.ensures ∙ ap (λ (b : ℕ). one_place b d (a.at + 2) (a.at + a.size)) e
    ∙ of_one a.width a.sheet.now a.at r.opcode_value.0 (λ h. omega (arith, e, h, r.known.0)) (omega (arith, e, r.known.1)) a.size
    (r.size_value ∙ ap (size_of a.width) e) c.if-sheet-at.false (omega (arith, e, c.if-opcode-lt6.false)) d refl
