-- A part of lent bytes, read and written as a slice of its own.
use mathlib.Core.Path.{◌≡◌, ap, ◌∙◌}
use mathlib.Core.List.{List, [], ◌++◌, append-nil}
use Prim.Native.Nat.{ℕ, ◌+◌, ◌-◌, ◌≤◌}
use native.Mathlib.Omega.{arith}
use borrow.Rule.Slice.PartMut.{put_mid, mid_of, post_of}
use lib.ListN.{length, take, drop, length-drop, drop_of_length-le}
use lib.Seq.{take_all, drop-drop}
use Rattle.memory.specs.Bytes.{words_at}
use Rattle.memory.proofs.Bytes.{words_drop}
use Rattle.memory.proofs.Lists.{to_end}

-- words read in the part from a on
pub words_part : (k n : ℕ) (s : List ℕ) (a : ℕ) → words_at k n (take (length s - a) (drop a s)) 0 ≡ words_at k n s a
words_part k n s a =
    let ld : length (drop a s) ≡ length s - a = length-drop a s in
    let z : a + 0 ≡ a = omega arith in
    ap (λ (l : List ℕ). words_at k n l 0) (take_all (length s - a) (drop a s) (omega arith)) ∙ words_drop k n a s 0 ∙ ap (words_at k n s) z

-- the part from i on, and the list with other elements in its place
module _ (l : List ℕ) (i : ℕ) (h : i ≤ length l) where
  pub part_is : mid_of i (length l - i) l ≡ drop i l
  part_is = to_end l i h

  pub part_put : (b : List ℕ) → put_mid i (length l - i) l b ≡ take i l ++ b
  part_put b =
      let q : length (drop i l) ≤ length l - i = omega (arith, length-drop i l) in
      let p : post_of i (length l - i) l ≡ [] = drop_of_length-le (drop i l) q in
      ap (λ (y : List ℕ). take i l ++ (b ++ y)) p ∙ ap (λ (y : List ℕ). take i l ++ y) (append-nil b)

-- the part from i on, with its first n elements written over
pub part_written : (n : ℕ) (l : List ℕ) (i : ℕ) (b : List ℕ) → i + n ≤ length l
    → put_mid i (length l - i) l (b ++ drop n (mid_of i (length l - i) l)) ≡ take i l ++ (b ++ drop (i + n) l)
part_written n l i b h =
    let g : i ≤ length l = omega arith in
    part_put l i g (b ++ drop n (mid_of i (length l - i) l))
    ∙ ap (λ (x : List ℕ). take i l ++ (b ++ drop n x)) (part_is l i g) ∙ ap (λ (x : List ℕ). take i l ++ (b ++ x)) (drop-drop n i l)
