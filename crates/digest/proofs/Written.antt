-- A pipe written out: its last bytes are those of its second vector.
use mathlib.Core.Path.{◌≡◌, ap, ◌∙◌}
use mathlib.Core.List.{List, [], ◌++◌, append-nil}
use Prim.Native.Nat.{ℕ, ◌+◌, ◌-◌, ◌*◌, ◌≤◌}
use native.Mathlib.Nat.{zero-add}
use native.Mathlib.Omega.{arith}
use lib.ListN.{length, take, drop, length-append, length-drop}
use lib.Seq.{take_all, take-append-le, drop-append-le, drop-append-add}
use Rattle.memory.specs.Bytes.{bytes_of}
use Rattle.memory.proofs.Bytes.{length-bytes_of, bytes_of-append}
use Rattle.digest.specs.Blocks.{last_bytes}

module _ (k n : ℕ) (u v : List ℕ) (eu : length u ≡ 8) (ev : length v ≡ 8) (h : n ≤ 8 * k) where
  last_second : last_bytes n (bytes_of k (u ++ v)) ≡ drop (8 * k - n) (bytes_of k v)
  last_second =
      let lu : length (bytes_of k u) ≡ 8 * k = length-bytes_of k u ∙ ap (λ (j : ℕ). j * k) eu in
      let lv : length (bytes_of k v) ≡ 8 * k = length-bytes_of k v ∙ ap (λ (j : ℕ). j * k) ev in
      let e : length (bytes_of k u ++ bytes_of k v) - n ≡ length (bytes_of k u) + (8 * k - n) = omega (arith, length-append (bytes_of k u) (bytes_of k v)) in
      ap (last_bytes n) (bytes_of-append k u v) ∙ ap (λ (j : ℕ). drop j (bytes_of k u ++ bytes_of k v)) e
      ∙ drop-append-add (bytes_of k u) (bytes_of k v) (8 * k - n)

  -- the code's way: the second vector to a buffer of its own, b, and the part of that up to the vector's end to the output
  pub written_out : (z out : List ℕ) {j : ℕ} {b last : List ℕ} → j ≡ 8 * k → b ≡ bytes_of k v ++ z
      → last ≡ take (j - (j - n)) (drop (j - n) b) ++ drop (0 + length (take (j - (j - n)) (drop (j - n) b))) out
      → last ≡ last_bytes n (bytes_of k (u ++ v)) ++ drop n out
  written_out z out {j} {b} {last} i e f =
      let lv : length (bytes_of k v) ≡ 8 * k = length-bytes_of k v ∙ ap (λ (j : ℕ). j * k) ev in
      let d : List ℕ = drop (8 * k - n) (bytes_of k v) in
      let l : length d ≡ n = length-drop (8 * k - n) (bytes_of k v) ∙ omega arith in
      let r : j - (j - n) ≡ n = omega arith in
      let t : take (j - (j - n)) (drop (j - n) b) ≡ d =
      ap (λ (x : ℕ). take (j - (j - n)) (drop (x - n) b)) i ∙ ap (λ (x : List ℕ). take (j - (j - n)) (drop (8 * k - n) x)) e
      ∙ ap (take (j - (j - n))) (drop-append-le (8 * k - n) (bytes_of k v) z (omega arith))
      ∙ take-append-le (j - (j - n)) d z (omega arith) ∙ take_all (j - (j - n)) d (omega arith) in
      f ∙ rw (t, l, zero-add n, last_second)
