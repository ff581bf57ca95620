-- A pipe in lent bytes, from the loads and stores that code makes, at any width.
use mathlib.Core.Path.{◌≡◌, ap, ap₂, sym, ◌∙◌}
use mathlib.Core.List.{List, ◌++◌, append-nil}
use Prim.Native.Nat.{ℕ, ◌+◌, ◌-◌, ◌*◌, ◌≤◌}
use native.Mathlib.Omega.{arith}
use borrow.Rule.Slice.PartMut.{put_mid, mid_of}
use lib.ListN.{length, take, drop, length-append, length-drop, drop_of_length-le}
use lib.Seq.{take_at}
use Rattle.invertible.specs.RoundTrip.{Direction}
use Rattle.memory.specs.Bytes.{words_at, bytes_of}
use Rattle.memory.proofs.Bytes.{length-bytes_of, bytes_of-append}
use Rattle.memory.proofs.Parts.{words_part, part_written}
use Rattle.quasigroup.specs.Tables.{Width}
use Rattle.digest.specs.Pipe.{Pipe, written}
use Rattle.digest.specs.Step.{word_bytes, block_x, block_y}
use Rattle.pipe.specs.Backward.{moved}
use Rattle.pipe.specs.Call.{pipe_in, moved_bytes}

module _ (s : Width) where
  abbrev k : ℕ
  k = word_bytes s

  -- sixteen words as two vectors, the second read in the part behind the first
  pub loaded : (b : List ℕ) {x y : List ℕ} → x ≡ block_x s b → y ≡ words_at k 8 (take (length b - 8 * k) (drop (8 * k) b)) 0
      → record { first = x; second = y } ≡ pipe_in s b
  loaded b e f = ap₂ {C = Pipe} (λ x y. record { first = x; second = y }) e (f ∙ words_part k 8 b (8 * k))

  -- a block that was loaded so
  pub by_loaded : (g : Direction) (p : Pipe) (m : List ℕ) {n r : Pipe} → n ≡ pipe_in s m → r ≡ moved s g p n.first n.second
      → r ≡ moved s g p (block_x s m) (block_y s m)
  by_loaded g p m e f = f ∙ ap (λ (n : Pipe). moved s g p n.first n.second) e

  -- the pipe in its place after the block
  pub replaced : (g : Direction) (m b : List ℕ) {p q : Pipe} {last : List ℕ} → p ≡ pipe_in s b → q ≡ moved s g p (block_x s m) (block_y s m)
      → last ≡ written k q → last ≡ moved_bytes s g m b
  unfolding moved_bytes
  replaced g m b e f h = h ∙ ap (written k) (f ∙ ap (λ (p : Pipe). moved s g p (block_x s m) (block_y s m)) e)

-- two vectors stored over 16 * k bytes, the second in the part behind the first
pub stored : (k : ℕ) (u v b : List ℕ) → length u ≡ 8 → length v ≡ 8 → length b ≡ 16 * k → {half part : List ℕ}
    → half ≡ bytes_of k u ++ drop (8 * k) b → part ≡ bytes_of k v ++ drop (8 * k) (mid_of (8 * k) (length half - 8 * k) half)
    → put_mid (8 * k) (length half - 8 * k) half part ≡ bytes_of k (u ++ v)
stored k u v b eu ev eb {half} {part} e f =
    let j : ℕ = 8 * k in
    let lu : length (bytes_of k u) ≡ j = length-bytes_of k u ∙ ap (λ (n : ℕ). n * k) eu in
    let lh : length half ≡ 16 * k = ap length e ∙ length-append (bytes_of k u) (drop j b) ∙ omega (arith, length-drop j b) in
    let short : length half ≤ j + j = omega arith in
    ap (λ (l : List ℕ). put_mid j (length half - j) half l) f
    ∙ part_written j half j (bytes_of k v) (omega arith)
    ∙ ap₂ {C = List ℕ} (λ x y. x ++ (bytes_of k v ++ y)) (ap (take j) e ∙ take_at (bytes_of k u) (drop j b) j lu) (drop_of_length-le half short)
    ∙ ap (λ (l : List ℕ). bytes_of k u ++ l) (append-nil (bytes_of k v))
    ∙ sym (bytes_of-append k u v)
