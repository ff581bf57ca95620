-- One block, from the products that code makes, at any width.
use mathlib.Core.Path.{◌≡◌}
use mathlib.Core.List.{List}
use Prim.Native.Nat.{ℕ}
use Rattle.quasigroup.specs.Tables.{Width}
use Rattle.quasigroup.specs.Product.{left_half, right_half, joined, product}
use Rattle.quasigroup.specs.Vector.{reversed}
use Rattle.quasigroup.specs.Barred.{barred_left_half}
use Rattle.quasigroup.proofs.Quasigroup.{from_halves}
use Rattle.quasigroup.proofs.Barred.{from_barred, barred_from_halves}
use Rattle.digest.specs.Step.{R}

module _ (s : Width) where
  -- the eight rows
  pub rows : (C0 C1 X Y : List ℕ) {d1 d2 d3 d4 d5 d6 d7 d8 : List ℕ}
      → d1 ≡ product s (reversed Y) X → d2 ≡ product s d1 Y → d3 ≡ product s C0 d1 → d4 ≡ product s d3 d2 → d5 ≡ product s d3 C1
      → d6 ≡ product s d4 d5 → d7 ≡ product s (reversed X) d5 → d8 ≡ product s d7 d6
      → record { first = d7; second = d8 } ≡ R s C0 C1 X Y
  unfolding R
  rows C0 C1 X Y e1 e2 e3 e4 e5 e6 e7 e8 = rw (e8, e7, e6, e5, e4, e3, e2, e1)

  -- the same from the halves of each product, as code makes them: D1 and D7 are barred products, D4 and D5 share a left half, D6 and D7 a right one
  pub by_halves : (C0 C1 X Y : List ℕ) {l1 l2 l3 l4 l6 l7 l8 r1 r2 r3 r4 r5 r6 r8 d1 d2 d3 d4 d5 d6 d7 d8 : List ℕ}
      → l1 ≡ barred_left_half s Y → r1 ≡ right_half s X → d1 ≡ joined s.bits l1 r1
      → l2 ≡ left_half s d1 → r2 ≡ right_half s Y → d2 ≡ joined s.bits l2 r2
      → l3 ≡ left_half s C0 → r3 ≡ right_half s d1 → d3 ≡ joined s.bits l3 r3
      → l4 ≡ left_half s d3 → r4 ≡ right_half s d2 → d4 ≡ joined s.bits l4 r4
      → r5 ≡ right_half s C1 → d5 ≡ joined s.bits l4 r5
      → r6 ≡ right_half s d5 → l6 ≡ left_half s d4 → d6 ≡ joined s.bits l6 r6
      → l7 ≡ barred_left_half s X → d7 ≡ joined s.bits l7 r6
      → l8 ≡ left_half s d7 → r8 ≡ right_half s d6 → d8 ≡ joined s.bits l8 r8
      → record { first = d7; second = d8 } ≡ R s C0 C1 X Y
  by_halves C0 C1 X Y l1 r1 e1 l2 r2 e2 l3 r3 e3 l4 r4 e4 r5 e5 r6 l6 e6 l7 e7 l8 r8 e8 =
      rows C0 C1 X Y (from_barred s Y X (barred_from_halves s Y X l1 r1 e1)) (from_halves s _ Y l2 r2 e2) (from_halves s C0 _ l3 r3 e3)
      (from_halves s _ _ l4 r4 e4) (from_halves s _ C1 l4 r5 e5) (from_halves s _ _ l6 r6 e6) (from_barred s X _ (barred_from_halves s X _ l7 r6 e7))
      (from_halves s _ _ l8 r8 e8)
