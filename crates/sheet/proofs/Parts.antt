-- One vector of the lent bytes, read and written as a part of them, at every width.
use mathlib.Core.Path.{◌≡◌, ap, ap₂, sym, ◌∙◌}
use mathlib.Core.List.{List, ◌++◌}
use Prim.Native.Nat.{ℕ, ◌+◌, ◌-◌, ◌*◌, ◌/◌, ◌^◌, ◌≤◌, ◌<◌}
use native.Mathlib.Nat.{suc-mul, mul-le-mul_right}
use native.Mathlib.Omega.{arith}
use borrow.Rule.Slice.PartMut.{put_mid, mid_of}
use lib.ListN.{length, get_or, drop, set}
use Rattle.memory.specs.Bytes.{bytes_of, Bytes}
use Rattle.memory.proofs.Parts.{part_written}
use Rattle.quasigroup.proofs.Vectors.{below_of}
use Rattle.quasigroup.proofs.Widths.{Bytewise}
use Rattle.sheet.specs.Read.{place_count}
use Rattle.sheet.specs.Effect.{at, vector_at}
use Rattle.sheet.specs.Run.{vectors_in}
use Rattle.sheet.proofs.Lent.{at_from, vectors_written}

-- the vector at a place, read at its offset
pub place_read : (w : ℕ) (b : List ℕ) (i : ℕ) → i < place_count → vector_at w b (i * w) ≡ at (vectors_in w b) i
place_read w b i h = let e : 0 + i * w ≡ i * w = omega arith in sym (at_from w place_count b 0 i h ∙ ap (vector_at w b) e)

-- the vectors after the one at a place is written over by eight words of k bytes each
pub place_written : (w : ℕ) → Bytewise w → (k : ℕ) → w ≡ 8 * k → (b : List ℕ) → Bytes b → length b ≡ place_count * w → (i : ℕ) → i < place_count
    → (x : List ℕ) → length x ≡ 8 → ((j : ℕ) → j < 8 → get_or x j 0 < 2 ^ w) → (n : ℕ) → n ≡ i * w
    → {part : List ℕ} → part ≡ bytes_of k x ++ drop (8 * k) (mid_of n (length b - n) b) → vectors_in w (put_mid n (length b - n) b part) ≡ set (vectors_in w b) i x
place_written w hw k bits b hb e i h x l f n at {part} p =
    let bytes : k ≡ w / 8 = omega arith in
    let q : i * w + w ≤ length b = omega (arith, e, suc-mul i w, mul-le-mul_right w h) in
    let r : part ≡ bytes_of (w / 8) x ++ drop w (mid_of (i * w) (length b - i * w) b) =
    p ∙ ap₂ {C = List ℕ} (λ c m. bytes_of c x ++ drop m (mid_of n (length b - n) b)) bytes (sym bits)
    ∙ ap (λ (m : ℕ). bytes_of (w / 8) x ++ drop w (mid_of m (length b - m) b)) at in
    ap (λ (m : ℕ). vectors_in w (put_mid m (length b - m) b part)) at
    ∙ ap (λ (l : List ℕ). vectors_in w (put_mid (i * w) (length b - i * w) b l)) r
    ∙ ap (vectors_in w) (part_written w b (i * w) (bytes_of (w / 8) x) q)
    ∙ vectors_written w hw b hb e i x h (record { size = l; small = below_of (2 ^ w) x (λ j g. f j (omega arith)) })

-- the vectors v after f of one vector, or of two, is put at place d
pub changed : (v : List (List ℕ)) (d : ℕ) (f : List ℕ → List ℕ) {u : List (List ℕ)} {x z a : List ℕ} → u ≡ set v d z → z ≡ f x → x ≡ a → u ≡ set v d (f a)
changed v d f p q h = cc

pub changed_by : (v : List (List ℕ)) (d : ℕ) (f : List ℕ → List ℕ → List ℕ) {u : List (List ℕ)} {x y z a b : List ℕ}
    → u ≡ set v d z → z ≡ f x y → x ≡ a → y ≡ b → u ≡ set v d (f a b)
changed_by v d f p q h k = cc

-- the vectors v after one is put at place d, and then another at place s
pub changed_both : (v : List (List ℕ)) (d s : ℕ) {t u : List (List ℕ)} {x y a b : List ℕ}
    → t ≡ set v d y → u ≡ set t s x → y ≡ b → x ≡ a → u ≡ set (set v d b) s a
changed_both v d s p q h k = cc
