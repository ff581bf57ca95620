-- A buffer of zeros onto which bytes are copied, and parts of a list, as code makes them.
use mathlib.Core.Path.{◌≡◌, refl, ap, sym, ◌∙◌}
use mathlib.Core.List.{List, ◌++◌}
use Prim.Native.Nat.{ℕ, ◌+◌, ◌-◌, ◌%◌, ◌≤◌, ◌<◌}
use native.Mathlib.Nat.{zero-add, mod-lt, le_of_lt}
use native.Mathlib.Omega.{arith}
use lib.ListN.{length, take, drop, replicate, length-append, length-replicate, replicate-append-replicate}
use lib.Seq.{take_at, drop_at, drop-append-add, length-take-le}
use Rattle.digest.specs.Blocks.{filled}

-- as many bytes of a block wait as the total leaves
pub length_pending : (B : ℕ) → 0 < B → (w : List ℕ) → length w ≡ B → (t : ℕ) → length (take (t % B) w) ≡ t % B
length_pending B pos w e t = length-take-le (t % B) w (rw e (le_of_lt (mod-lt t pos)))

zeros_drop : (n m : ℕ) → m ≤ n → drop m (replicate {A = ℕ} n 0) ≡ replicate (n - m) 0
zeros_drop n m h =
    let e : m + (n - m) ≡ n = omega arith in
    ap (λ (j : ℕ). drop m (replicate {A = ℕ} j 0)) (sym e) ∙ ap (drop m) (sym (replicate-append-replicate m (n - m) 0))
    ∙ drop_at (replicate m 0) (replicate (n - m) 0) m (length-replicate m 0)

-- two copies onto n zeros, one behind the other
pub held_two : (n : ℕ) (a b : List ℕ) {w v : List ℕ} → length a + length b ≤ n
    → w ≡ take 0 (replicate n 0) ++ a ++ drop (0 + length a) (replicate n 0)
    → v ≡ take (length a) w ++ b ++ drop (length a + length b) w
    → v ≡ filled n (a ++ b)
held_two n a b {w} {v} h e g =
    let e' : w ≡ a ++ replicate (n - length a) 0 = e ∙ rw (zero-add (length a), zeros_drop n (length a) (omega arith)) in
    let t : take (length a) w ≡ a = ap (take (length a)) e' ∙ take_at a _ _ refl in
    let z : n - length a - length b ≡ n - length (a ++ b) = omega (arith, length-append a b) in
    let d : drop (length a + length b) w ≡ replicate (n - length (a ++ b)) 0 =
    ap (drop (length a + length b)) e' ∙ drop-append-add a (replicate (n - length a) 0) (length b) ∙ zeros_drop (n - length a) (length b) (omega arith)
    ∙ ap (λ (j : ℕ). replicate j 0) z in
    g ∙ rw (t, d)

-- the same onto a list that is zeros
pub on_zeros : (z w y : List ℕ) {b d : List ℕ} → z ≡ replicate (length z) 0 → length w + length y ≤ length z
    → b ≡ take 0 z ++ w ++ drop (0 + length w) z → d ≡ take (length w) b ++ y ++ drop (length w + length y) b → d ≡ filled (length z) (w ++ y)
on_zeros z w y e h f g = held_two (length z) w y h (f ∙ ap (λ (l : List ℕ). take 0 l ++ w ++ drop (0 + length w) l) e) g
