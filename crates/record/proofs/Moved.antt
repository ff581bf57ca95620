-- A record of 64 words of k bytes each, moved a tile of q words at a time: what stands where on the way, and at the end.
use mathlib.Core.Path.{◌≡◌, refl, sym, ap, ap₂, subst, ◌∙◌}
use mathlib.Core.List.{List, ◌++◌}
use Prim.Native.Nat.{ℕ, zero, suc, ◌+◌, ◌*◌, ◌-◌, ◌≤◌, ◌<◌}
use native.Mathlib.Nat.{zero-mul, suc-mul, add-mul, mul-add, mul_comm, mul-le-mul_left, mul-le-mul_right}
use native.Mathlib.Omega.{arith}
use borrow.Author.Tests.{ltb-true, ltb-false}
use lib.Dec.{ltb, lit≤}
use lib.ListN.{length, get_or, take, drop, take-append-drop, length-drop}
use lib.Seq.{length-take-le, get_or-take, get_or-drop, ext_get_or}
use Rattle.answer.proofs.Tests.{decide}
use Rattle.shuffle.specs.Transposed.{transposed}
use Rattle.shuffle.proofs.Transposed.{transposed_length, transposed_at, by_rows}
use Rattle.tile.specs.Copy.{Inside, zeros, rows_copy}
use Rattle.tile.proofs.Copy.{row_below, columns_apart, rows_length, rows_other, rows_at, some_rows, in_tile, zeros_length}
use Rattle.record.specs.Tiled.{Tiled}

-- records of both widths
pub tiled_32 : Tiled 4 32
tiled_32 = record { size = refl; count = 2; whole = refl }

pub tiled_64 : Tiled 8 16
tiled_64 = record { size = refl; count = 4; whole = refl }

-- where byte j of word i stands in a record, and in a shuffled one
abbrev pub plain : ℕ → ℕ → ℕ → ℕ
plain k i j = i * k + j

abbrev pub across : ℕ → ℕ → ℕ
across i j = j * 64 + i

-- The bytes of the first g words are moved, each from its place in s to its place in out; whole tiles are left, and nothing behind the record has changed
pub record Moved (k q : ℕ) (from to : ℕ → ℕ → ℕ) (s old : List ℕ) (g : ℕ) (out : List ℕ) : Type 0 where
  pub tile : k * q ≡ 128
  pub given : length s ≡ 64 * k
  pub room : 64 * k ≤ length old
  pub left : ℕ
  pub reach : g + left * q ≡ 64
  pub size : length out ≡ length old
  pub words : (i j : ℕ) → i < g → j < k → get_or out (to i j) 0 ≡ get_or s (from i j) 0
  pub behind : (p : ℕ) → 64 * k ≤ p → get_or out p 0 ≡ get_or old p 0

-- ---- one row of a whole tile

module _ (s : List ℕ) (i : ℕ) (out : List ℕ) (o : ℕ) where
  abbrev one_row : List ℕ
  one_row = rows_copy 1 128 s i 128 out o 128

  row_at : o + 128 ≤ length out → (p : ℕ) → p < 128 → get_or one_row (o + p) 0 ≡ get_or s (i + p) 0
  row_at room p h =
      let a : o + p ≡ o + p + 0 * 128 = omega arith in
      let b : i + p + 0 * 128 ≡ i + p = omega arith in
      ap (λ (n : ℕ). get_or one_row n 0) a ∙ rows_at 1 s i 128 out o 128 128 (lit≤ tt) (λ j g. omega arith) p 0 h (lit≤ tt) ∙ ap (λ (n : ℕ). get_or s n 0) b

  row_other : (p : ℕ) → ((b : ℕ) → b < 128 → p ≡ o + b → ⊥) → get_or one_row p 0 ≡ get_or out p 0
  row_other p h = rows_other 1 s i 128 out o 128 128 p (λ b j x y z. h b x (omega arith))

-- .. loaded
tile_at : (s : List ℕ) (i : ℕ) (x : List ℕ) → x ≡ rows_copy 1 128 s i 128 (zeros 128) 0 128 → (p : ℕ) → p < 128 → get_or x p 0 ≡ get_or s (i + p) 0
tile_at s i x e p h =
    let z : p ≡ 0 + p = omega arith in
    ap₂ {C = ℕ} (λ (l : List ℕ) (n : ℕ). get_or l n 0) e z ∙ row_at s i (zeros 128) 0 (omega (arith, zeros_length 128)) p h

-- ---- a tile more

module _ {k q : ℕ} {from to : ℕ → ℕ → ℕ} {s old : List ℕ} where
  pub none_moved : Tiled k q → length s ≡ 64 * k → 64 * k ≤ length old → Moved k q from to s old 0 old
  none_moved t given room =
      record {
        tile = t.size;
        given = given;
        room = room;
        left = t.count;
        reach = omega (arith, t.whole);
        size = refl;
        words = λ i j h g. absurd (omega arith);
        behind = λ p h. refl;
      }

  module _ {g : ℕ} {out : List ℕ} (m : Moved k q from to s old g out) where
    fewer : (n : ℕ) → g + n * q ≡ 64 → g < 64 → (l : ℕ) × (g + q + l * q ≡ 64)
    fewer zero e h = absurd (omega (arith, zero-mul q))
    fewer (suc l) e h = (l, omega (arith, suc-mul l q))

    pub tile_inside : g < 64 → g + q ≤ 64
    tile_inside h = let f = fewer m.left m.reach h in omega (arith, f.1)

    pub some_words : 0 < q
    some_words = some_rows q k (mul_comm q k ∙ m.tile)

    -- .. in bytes
    pub tile_ends : g < 64 → k * g + 128 ≤ 64 * k
    tile_ends h = omega (arith, mul-le-mul_left {m = g + q} {n = 64} k (tile_inside h), mul-add k g q, mul_comm k 64, m.tile)

    -- rows of the record
    pub rows_inside : g < 64 → (n : ℕ) → 64 * k ≤ n → Inside k q g 64 n
    rows_inside h n r j f = omega (arith, tile_inside h, row_below 64 j k f)

    pub row_inside : g < 64 → (n : ℕ) → 64 * k ≤ n → Inside 1 128 (k * g) 128 n
    row_inside h n r j f = omega (arith, tile_ends h)

    pub byte_inside : (b j : ℕ) → b < q → j < k → b * k + j < 128
    byte_inside b j f e = omega (arith, row_below k b q f, mul_comm k q, m.tile)

    -- what was moved stays, and a tile's bytes are moved
    tile_more : (h : g < 64) (last : List ℕ) → length last ≡ length out
        → ((i j : ℕ) → i < g → j < k → get_or last (to i j) 0 ≡ get_or out (to i j) 0)
        → ((b j : ℕ) → b < q → j < k → get_or last (to (g + b) j) 0 ≡ get_or s (from (g + b) j) 0)
        → ((p : ℕ) → 64 * k ≤ p → get_or last p 0 ≡ get_or out p 0) → Moved k q from to s old (g + q) last
    tile_more h last e stay new rest =
        let f = fewer m.left m.reach h in
        record {
          tile = m.tile;
          given = m.given;
          room = m.room;
          left = f.0;
          reach = f.1;
          size = e ∙ m.size;
          words = λ i j x y.
              decide (ltb i g) (λ t. stay i j (ltb-true i g t) y ∙ m.words i j (ltb-true i g t) y)
              (λ t.
              let n = ltb-false i g t in
              let u : g + (i - g) ≡ i = omega (arith, n) in
              subst (λ (w : ℕ). get_or last (to w j) 0 ≡ get_or s (from w j) 0) u (new (i - g) j (omega (arith, n)) y));
          behind = λ p x. rest p x ∙ m.behind p x;
        }

-- ---- out: a row of a tile is words, each of its columns goes to a row of the record

module _ {k q : ℕ} {s old : List ℕ} {g : ℕ} {out : List ℕ} (m : Moved k q (plain k) across s old g out) (h : g < 64) (x y last : List ℕ)
    (loaded : x ≡ rows_copy 1 128 s (k * g) 128 (zeros 128) 0 128) (made : y ≡ transposed q k x) (stored : last ≡ rows_copy k q y 0 q out g 64) where
  out_at : (b j : ℕ) → b < q → j < k → get_or last (across (g + b) j) 0 ≡ get_or s (plain k (g + b) j) 0
  out_at b j f e =
      let p : j * 64 + (g + b) ≡ g + b + j * 64 = omega arith in
      let v : 0 + b + j * q ≡ j * q + b = omega arith in
      let w : k * g + (b * k + j) ≡ (g + b) * k + j = omega (arith, add-mul g b k, mul_comm k g) in
      ap₂ {C = ℕ} (λ (l : List ℕ) (n : ℕ). get_or l n 0) stored p
      ∙ rows_at k y 0 q out g 64 q (omega (arith, tile_inside m h)) (rows_inside m h (length out) (omega (arith, m.size, m.room))) b j f e
      ∙ ap₂ {C = ℕ} (λ (l : List ℕ) (n : ℕ). get_or l n 0) made v ∙ transposed_at q k x j b e f
      ∙ tile_at s (k * g) x loaded (b * k + j) (byte_inside m b j f e) ∙ ap (λ (n : ℕ). get_or s n 0) w

  pub shuffle_more : Moved k q (plain k) across s old (g + q) last
  shuffle_more =
      let other = rows_other k y 0 q out g 64 q in
      let in_row = tile_inside m h in
      tile_more m h last (ap length stored ∙ rows_length k y 0 q out g 64 q)
      (λ i j f e. ap (λ (l : List ℕ). get_or l (across i j) 0) stored
      ∙ other (across i j) (λ b a u v w. columns_apart 64 i (g + b) j a (omega arith) (omega arith) (omega arith) (omega arith)))
      out_at
      (λ p f. ap (λ (l : List ℕ). get_or l p 0) stored ∙ other p (λ b a u v w. omega (arith, row_below 64 a k v)))

-- ---- back: a row of a tile is of a row of the record, each of its columns is a word

module _ {k q : ℕ} {s old : List ℕ} {g : ℕ} {out : List ℕ} (m : Moved k q across (plain k) s old g out) (h : g < 64) (x y last : List ℕ)
    (loaded : x ≡ rows_copy k q s g 64 (zeros 128) 0 q) (made : y ≡ transposed k q x) (stored : last ≡ rows_copy 1 128 y 0 128 out (k * g) 128) where
  back_at : (b j : ℕ) → b < q → j < k → get_or last (plain k (g + b) j) 0 ≡ get_or s (across (g + b) j) 0
  back_at b j f e =
      let p : (g + b) * k + j ≡ k * g + (b * k + j) = omega (arith, add-mul g b k, mul_comm k g) in
      let u : 0 + (b * k + j) ≡ b * k + j = omega arith in
      let v : j * q + b ≡ 0 + b + j * q = omega arith in
      let w : g + b + j * 64 ≡ j * 64 + (g + b) = omega arith in
      ap₂ {C = ℕ} (λ (l : List ℕ) (n : ℕ). get_or l n 0) stored p
      ∙ row_at y 0 out (k * g) (omega (arith, tile_ends m h, m.size, m.room)) (b * k + j) (byte_inside m b j f e)
      ∙ ap₂ {C = ℕ} (λ (l : List ℕ) (n : ℕ). get_or l n 0) made u ∙ transposed_at k q x b j f e
      ∙ ap₂ {C = ℕ} (λ (l : List ℕ) (n : ℕ). get_or l n 0) loaded v
      ∙ rows_at k s g 64 (zeros 128) 0 q q (omega arith) (subst (Inside k q 0 q) (sym (zeros_length 128)) (in_tile k q m.tile)) b j f e
      ∙ ap (λ (n : ℕ). get_or s n 0) w

  pub restore_more : Moved k q across (plain k) s old (g + q) last
  restore_more =
      let other = row_other y 0 out (k * g) in
      tile_more m h last (ap length stored ∙ rows_length 1 y 0 128 out (k * g) 128 128)
      (λ i j f e. ap (λ (l : List ℕ). get_or l (plain k i j) 0) stored
      ∙ other (plain k i j) (λ b u w. omega (arith, row_below k i g f, mul_comm k g)))
      back_at
      (λ p f. ap (λ (l : List ℕ). get_or l p 0) stored ∙ other p (λ b u w. omega (arith, tile_ends m h)))

-- ---- all words

module _ {k q : ℕ} {s old : List ℕ} {g : ℕ} {out : List ℕ} (end : 64 ≤ g) where
  -- the record's bytes, and those behind it
  module _ {from to : ℕ → ℕ → ℕ} (m : Moved k q from to s old g out) where
    first_length : length (take (64 * k) out) ≡ 64 * k
    first_length = length-take-le (64 * k) out (omega (arith, m.size, m.room))

    rest : drop (64 * k) out ≡ drop (64 * k) old
    rest =
        ext_get_or 0 (drop (64 * k) out) (drop (64 * k) old) (length-drop (64 * k) out ∙ ap (λ (n : ℕ). n - 64 * k) m.size ∙ sym (length-drop (64 * k) old))
        (λ p h. get_or-drop (64 * k) out p 0 ∙ m.behind (64 * k + p) (omega arith) ∙ sym (get_or-drop (64 * k) old p 0))

    all : (l : List ℕ) → take (64 * k) out ≡ l → out ≡ l ++ drop (64 * k) old
    all l e = sym (take-append-drop (64 * k) out) ∙ ap₂ {C = List ℕ} (λ x y. x ++ y) e rest

  pub shuffle_all : Moved k q (plain k) across s old g out → out ≡ transposed 64 k s ++ drop (64 * k) old
  shuffle_all m =
      all m (transposed 64 k s)
      (by_rows 64 k (lit≤ tt) (take (64 * k) out) (transposed 64 k s) (first_length m ∙ mul_comm 64 k) (transposed_length 64 k s)
      (λ j i h b. get_or-take (64 * k) out (j * 64 + i) 0 (omega arith) ∙ m.words i j (omega arith) h ∙ sym (transposed_at 64 k s j i h b)))

  pub restore_all : Moved k q across (plain k) s old g out → out ≡ transposed k 64 s ++ drop (64 * k) old
  restore_all m =
      all m (transposed k 64 s)
      (by_rows k 64 (some_rows k q m.tile) (take (64 * k) out) (transposed k 64 s) (first_length m) (transposed_length k 64 s)
      (λ i j h b. get_or-take (64 * k) out (i * k + j) 0 (omega (arith, mul-le-mul_right {m = 1 + i} {n = 64} k (omega arith), suc-mul i k))
      ∙ m.words i j (omega arith) b ∙ sym (transposed_at k 64 s i j h b)))
