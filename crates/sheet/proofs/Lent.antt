-- The lent bytes as vectors and back.
use mathlib.Core.Path.{◌≡◌, refl, sym, ap, ap₂, ◌∙◌, subst}
use mathlib.Core.List.{List, [], ◌∷◌, ◌++◌, append_assoc}
use Prim.Native.Nat.{ℕ, zero, suc, ◌+◌, ◌*◌, ◌/◌, ◌≤◌, ◌<◌, suc-le-suc}
use native.Mathlib.Nat.{zero-mul, suc-mul, zero-lt-suc}
use native.Mathlib.Decide.{ℕ_discrete}
use native.Mathlib.Omega.{arith}
use lib.ListN.{length, set, take, drop, length-append, length-set}
use lib.Seq.{take-add, drop-drop, take_all, get_or-set_same, get_or-set_other, drop_at, take-append-add, drop-append-add}
use Rattle.memory.specs.Bytes.{words_at, bytes_of, Bytes}
use Rattle.memory.proofs.Bytes.{append_bytes, bytes_of-are}
use Rattle.quasigroup.specs.Vector.{Vector}
use Rattle.quasigroup.proofs.Widths.{Bytewise}
use Rattle.quasigroup.proofs.InBytes.{vector_at_lem, vector_length, words_back, bytes_back}
use Rattle.sheet.specs.Read.{place_count}
use Rattle.sheet.specs.Effect.{at, vector_at}
use Rattle.sheet.specs.Run.{vectors_from, vector_bytes}

-- there are n of them, and each is a vector
pub record State (n w : ℕ) (v : List (List ℕ)) : Type 0 where
  pub size : length v ≡ n
  pub each : (i : ℕ) → i < n → Vector w (at v i)

-- ---- a list of vectors

set_each : (w : ℕ) (v : List (List ℕ)) (d : ℕ) (x : List ℕ) (i : ℕ) → d < length v → Vector w x → Vector w (at v i) → Dec (i ≡ d) → Vector w (at (set v d x) i)
set_each w v d x i l hx hv (yes e) = rw (e, get_or-set_same v d x [] l) hx
set_each w v d x i l hx hv (no n) = rw (get_or-set_other v d i x [] n) hv

pub in_range : {n w : ℕ} {v : List (List ℕ)} {d : ℕ} → State n w v → d < n → d < length v
in_range st h = rw st.size h

pub set_state : {n w : ℕ} {v : List (List ℕ)} → State n w v → (d : ℕ) (x : List ℕ) → d < n → Vector w x → State n w (set v d x)
set_state {w = w} {v = v} st d x h hx =
    record { size = length-set v d x ∙ st.size; each = λ i l. set_each w v d x i (in_range st h) hx (st.each i l) (ℕ_discrete i d) }

-- the vector at place i of those that stand from offset o on
pub at_from : (w n : ℕ) (b : List ℕ) (o i : ℕ) → i < n → at (vectors_from w n b o) i ≡ vector_at w b (o + i * w)
unfolding vectors_from
at_from w zero b o i h = absurd (omega arith)
at_from w (suc n) b o zero h = let e : o ≡ o + 0 * w = omega (arith, zero-mul w) in ap (vector_at w b) e
at_from w (suc n) b o (suc i) h =
    let e : o + w + i * w ≡ o + suc i * w = omega (arith, suc-mul i w) in
    at_from w n b (o + w) i (omega arith) ∙ ap (vector_at w b) e

module _ (w : ℕ) (hw : Bytewise w) where
  pub bytes_of_vectors : (v : List (List ℕ)) → Bytes (vector_bytes w v)
  bytes_of_vectors [] i = omega arith
  bytes_of_vectors (x ∷ v) i = append_bytes (bytes_of (w / 8) x) (vector_bytes w v) (bytes_of-are (w / 8) x) (bytes_of_vectors v) i

  length-vector_bytes : (v : List (List ℕ)) → ((i : ℕ) → i < length v → Vector w (at v i)) → length (vector_bytes w v) ≡ length v * w
  length-vector_bytes [] h = sym (zero-mul w)
  length-vector_bytes (x ∷ v) h =
      length-append (bytes_of (w / 8) x) (vector_bytes w v)
      ∙ ap₂ ◌+◌ (vector_length w hw x (h 0 (zero-lt-suc (length v))).size) (length-vector_bytes v (λ i l. h (suc i) (suc-le-suc l)))
      ∙ omega (arith, suc-mul (length v) w)

  -- the vectors in the bytes of vectors
  vectors_bytes_at : (v : List (List ℕ)) → ((i : ℕ) → i < length v → Vector w (at v i)) → (p : List ℕ) (i : ℕ) → length p ≡ i
      → vectors_from w (length v) (p ++ vector_bytes w v) i ≡ v
  unfolding vectors_from
  vectors_bytes_at [] h p i e = refl
  vectors_bytes_at (x ∷ v) h p i e =
      let k = w / 8 in
      let hx : Vector w x = h 0 (zero-lt-suc (length v)) in
      let here : words_at k 8 (p ++ (bytes_of k x ++ vector_bytes w v)) i ≡ x = words_back w hw x hx p (vector_bytes w v) i e in
      let l : length (p ++ bytes_of k x) ≡ i + w = length-append p (bytes_of k x) ∙ ap₂ ◌+◌ e (vector_length w hw x hx.size) in
      ap₂ {B = List (List ℕ)} (λ a b. a ∷ b) here
      (ap (λ (t : List ℕ). vectors_from w (length v) t (i + w)) (sym (append_assoc p (bytes_of k x) (vector_bytes w v)))
      ∙ vectors_bytes_at v (λ j m. h (suc j) (suc-le-suc m)) (p ++ bytes_of k x) (i + w) l)

  each_of : {n : ℕ} {v : List (List ℕ)} → State n w v → (i : ℕ) → i < length v → Vector w (at v i)
  each_of st i h = st.each i (rw st.size at h)

  pub vectors_bytes : {n : ℕ} (v : List (List ℕ)) → State n w v → vectors_from w n (vector_bytes w v) 0 ≡ v
  vectors_bytes v st = subst (λ (n : ℕ). vectors_from w n (vector_bytes w v) 0 ≡ v) st.size (vectors_bytes_at v (each_of st) [] 0 refl)

  pub state_length : {n : ℕ} (v : List (List ℕ)) → State n w v → length (vector_bytes w v) ≡ n * w
  state_length v st = length-vector_bytes v (each_of st) ∙ ap (λ (n : ℕ). n * w) st.size

  module _ (b : List ℕ) (hb : Bytes b) where
    -- the bytes of the vectors in bytes
    pub bytes_vectors_at : (n i : ℕ) → i + n * w ≤ length b → vector_bytes w (vectors_from w n b i) ≡ take (n * w) (drop i b)
    unfolding vectors_from
    bytes_vectors_at zero i h = rw (zero-mul w)
    bytes_vectors_at (suc n) i h =
        let e : suc n * w ≡ w + n * w = suc-mul n w ∙ omega arith in
        let r : i + w + n * w ≤ length b = omega arith in
        ap₂ {B = List ℕ} (λ x y. x ++ y) (bytes_back w hw b hb i (omega arith))
        (bytes_vectors_at n (i + w) r ∙ ap (take (n * w)) (sym (drop-drop w i b)))
        ∙ sym (take-add w (n * w) (drop i b)) ∙ ap (λ (j : ℕ). take j (drop i b)) (sym e)

    pub bytes_vectors : (n : ℕ) → length b ≡ n * w → vector_bytes w (vectors_from w n b 0) ≡ b
    bytes_vectors n e = bytes_vectors_at n 0 (omega arith) ∙ take_all (n * w) b (omega arith)

    each_from : (n i j : ℕ) → j < n → Vector w (at (vectors_from w n b i) j)
    unfolding vectors_from
    each_from zero i j l = absurd (omega arith)
    each_from (suc n) i zero l = vector_at_lem w hw b hb i
    each_from (suc n) i (suc j) l = each_from n (i + w) j (omega arith)

    length_from : (n i : ℕ) → length (vectors_from w n b i) ≡ n
    unfolding vectors_from
    length_from zero i = refl
    length_from (suc n) i = ap suc (length_from n (i + w))

    pub state_from : (n i : ℕ) → State n w (vectors_from w n b i)
    state_from n i = record { size = length_from n i; each = each_from n i }

    pub lent_state : (n : ℕ) → State n w (vectors_from w n b 0)
    lent_state n = state_from n 0

  -- one vector written over
  bytes_set : (v : List (List ℕ)) → ((i : ℕ) → i < length v → Vector w (at v i)) → (d : ℕ) (x : List ℕ) → d < length v
      → vector_bytes w (set v d x) ≡ take (d * w) (vector_bytes w v) ++ (bytes_of (w / 8) x ++ drop (d * w + w) (vector_bytes w v))
  bytes_set [] h d x l = absurd (omega arith)
  bytes_set (y ∷ v) h zero x l =
      let z : 0 * w ≡ 0 = zero-mul w in
      let lp : length (bytes_of (w / 8) y) ≡ w = vector_length w hw y (h 0 (zero-lt-suc (length v))).size in
      let r : vector_bytes w v ≡ drop w (bytes_of (w / 8) y ++ vector_bytes w v) = sym (drop_at (bytes_of (w / 8) y) (vector_bytes w v) w lp) in
      let s : w ≡ 0 * w + w = omega arith in
      ap (λ (l : List ℕ). bytes_of (w / 8) x ++ l) (r ∙ ap (λ (n : ℕ). drop n (bytes_of (w / 8) y ++ vector_bytes w v)) s)
      ∙ ap (λ (n : ℕ). take n (bytes_of (w / 8) y ++ vector_bytes w v) ++ (bytes_of (w / 8) x ++ drop (0 * w + w) (bytes_of (w / 8) y ++ vector_bytes w v))) (sym z)
  bytes_set (y ∷ v) h (suc d) x l =
      let p = bytes_of (w / 8) y in
      let q = vector_bytes w v in
      let lp : length p ≡ w = vector_length w hw y (h 0 (zero-lt-suc (length v))).size in
      let a : length p + d * w ≡ suc d * w = omega (arith, suc-mul d w) in
      let b : length p + (d * w + w) ≡ suc d * w + w = omega (arith, suc-mul d w) in
      let f : take (suc d * w) (p ++ q) ≡ p ++ take (d * w) q = ap (λ (n : ℕ). take n (p ++ q)) (sym a) ∙ take-append-add p q (d * w) in
      let g : drop (suc d * w + w) (p ++ q) ≡ drop (d * w + w) q = ap (λ (n : ℕ). drop n (p ++ q)) (sym b) ∙ drop-append-add p q (d * w + w) in
      ap (λ (l : List ℕ). p ++ l) (bytes_set v (λ i m. h (suc i) (suc-le-suc m)) d x (omega arith))
      ∙ sym (append_assoc p (take (d * w) q) (bytes_of (w / 8) x ++ drop (d * w + w) q))
      ∙ sym (ap₂ {C = List ℕ} (λ s t. s ++ (bytes_of (w / 8) x ++ t)) f g)

  -- the vectors after one was written over in the lent bytes
  pub vectors_written : (b : List ℕ) → Bytes b → length b ≡ place_count * w → (d : ℕ) (x : List ℕ) → d < place_count → Vector w x
      → vectors_from w place_count (take (d * w) b ++ (bytes_of (w / 8) x ++ drop (d * w + w) b)) 0 ≡ set (vectors_from w place_count b 0) d x
  vectors_written b hb e d x h hx =
      let v = vectors_from w place_count b 0 in
      let st = lent_state b hb place_count in
      let back = bytes_vectors b hb place_count e in
      ap (λ (l : List ℕ). vectors_from w place_count (take (d * w) l ++ (bytes_of (w / 8) x ++ drop (d * w + w) l)) 0) (sym back)
      ∙ ap (λ (l : List ℕ). vectors_from w place_count l 0) (sym (bytes_set v (each_of st) d x (in_range st h)))
      ∙ vectors_bytes (set v d x) (set_state st d x h hx)
