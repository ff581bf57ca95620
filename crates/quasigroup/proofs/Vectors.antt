-- Vectors of eight words, and steps on them that another step undoes.
use mathlib.Core.Path.{◌≡◌, refl, sym, ap, ap₂, ◌∙◌, subst}
use Prim.Native.Nat.{ℕ, zero, suc, ◌+◌, ◌-◌, ◌*◌, ◌%◌, ◌^◌, ◌<◌, suc-le-suc}
use native.Mathlib.Nat.{suc_inj, suc-ne-zero, le_of_suc-le-suc, zero-lt-suc}
use native.Mathlib.Omega.{arith}
use mathlib.Core.List.{List, [], ◌∷◌, map}
use lib.ListN.{length, get_or, length-map}
use lib.Pow.{pow_pos}
use lib.Arith.{sub-sub_self}
use lib.Bits.{bit_xor, xor_lt, xor_zero_r, xor_zero_l, xor_comm}
use Rattle.quasigroup.specs.Square.{act, add, mul, row, ident}
use Rattle.quasigroup.proofs.Linear.{gathers, gathers_act, act_ident}
use Rattle.quasigroup.proofs.Xor.{odds, xors_undo, xor_assoc}
use Rattle.word.proofs.Rotation.{rotl_lt, rotl_back}
use Rattle.quasigroup.specs.Product.{pick, fold, rotations}
use Rattle.quasigroup.specs.Vector.{Below, none, more, Vector, reversed}
use Rattle.quasigroup.proofs.Modulo.{reduce, reduce_below, reduce_id, adds, subs, negate, adds_subs, subs_adds}
use Rattle.quasigroup.proofs.Sums.{Undone, total, gathered, ungathered, gathered_ungathered, ungathered_gathered}

-- f and g undo each other on vectors
pub record Undo (w : ℕ) (f g : List ℕ → List ℕ) : Type 0 where
  pub there : (v : List ℕ) → Vector w v → Vector w (f v)
  pub back : (v : List ℕ) → Vector w v → Vector w (g v)
  pub left : (v : List ℕ) → Vector w v → g (f v) ≡ v
  pub right : (v : List ℕ) → Vector w v → f (g v) ≡ v

pub turn : {w : ℕ} {f g : List ℕ → List ℕ} → Undo w f g → Undo w g f
turn u = record { there = u.back; back = u.there; left = u.right; right = u.left }

pub then : {w : ℕ} {f g f' g' : List ℕ → List ℕ} → Undo w f g → Undo w f' g' → Undo w (λ v. f' (f v)) (λ v. g (g' v))
then {f = f} {g = g} {f' = f'} {g' = g'} p q =
    record {
      there = λ v h. q.there (f v) (p.there v h);
      back = λ v h. p.back (g' v) (q.back v h);
      left = λ v h. ap g (q.left (f v) (p.there v h)) ∙ p.left v h;
      right = λ v h. ap f' (p.right (g' v) (q.back v h)) ∙ q.right v h;
    }

-- the same for steps that come to the same on vectors
pub undo_on : {w : ℕ} {f f' g g' : List ℕ → List ℕ} → ((v : List ℕ) → Vector w v → f v ≡ f' v) → ((v : List ℕ) → Vector w v → g v ≡ g' v) → Undo w f g → Undo w f' g'
undo_on {w} {f = f} {f' = f'} {g = g} {g' = g'} e d p =
    record {
      there = λ v h. subst (Vector w) (e v h) (p.there v h);
      back = λ v h. subst (Vector w) (d v h) (p.back v h);
      left = λ v h. ap g' (sym (e v h)) ∙ sym (d (f v) (p.there v h)) ∙ p.left v h;
      right = λ v h. ap f' (sym (d v h)) ∙ sym (e (g v) (p.back v h)) ∙ p.right v h;
    }

abbrev pub places : List ℕ
places = 0 ∷ 1 ∷ 2 ∷ 3 ∷ 4 ∷ 5 ∷ 6 ∷ 7 ∷ []

-- the first eight elements, written out
abbrev pub eight : List ℕ → List ℕ
eight = pick places

-- a row for each place
abbrev pub alone : List ℕ → List (List ℕ)
alone p = map (λ i. i ∷ []) p

pick_is : (p v : List ℕ) → gathers bit_xor (alone p) v ≡ pick p v
pick_is [] v = refl
pick_is (i ∷ p) v = ap₂ {B = List ℕ} (λ x l. x ∷ l) (xor_zero_r (get_or v i 0)) (pick_is p v)

-- a list of eight, element by element
pub eight_is : (v : List ℕ) → length v ≡ 8 → eight v ≡ v
eight_is v l =
    sym (pick_is places v) ∙ gathers_act bit_xor xor_assoc xor_comm xor_zero_l (alone places) v
    ∙ subst (λ n. act bit_xor (ident n) v ≡ v) l (act_ident bit_xor xor_assoc xor_comm xor_zero_l v)

-- ---- lengths

length_add : (p q : List ℕ) → length p ≡ length q → length (add p q) ≡ length p
length_add [] [] e = refl
length_add [] (y ∷ q) e = absurd (suc-ne-zero (length q) (sym e))
length_add (x ∷ p) [] e = refl
length_add (x ∷ p) (y ∷ q) e = ap suc (length_add p q (suc_inj e))

pub get_or-below : {m : ℕ} {v : List ℕ} → 0 < m → Below m v → (i : ℕ) → get_or v i 0 < m
get_or-below h none i = h
get_or-below h (more l b) zero = l
get_or-below h (more l b) (suc i) = get_or-below h b i

-- the same from what is known of each element
pub below_of : (m : ℕ) (v : List ℕ) → ((i : ℕ) → i < length v → get_or v i 0 < m) → Below m v
below_of m [] h = none
below_of m (x ∷ v) h = more (h 0 (zero-lt-suc (length v))) (below_of m v (λ i l. h (suc i) (suc-le-suc l)))

-- a list of reduced numbers, eight of them
reduced : (w : ℕ) (v : List ℕ) → length v ≡ 8 → Vector w (reduce (2 ^ w) v)
reduced w v l = record { size = length-map v (λ x. x % 2 ^ w) ∙ l; small = reduce_below (2 ^ w) (pow_pos w) v }

-- ---- the steps

module _ (w : ℕ) where
  pub gathered_undo : (t q : ℕ) → 5 * t + 8 ≡ q * 2 ^ w → (P K : List (List ℕ)) → Undone P K → Undo w (gathered (2 ^ w) P) (ungathered (2 ^ w) t K)
  gathered_undo t q ht P K h =
      record {
        there = λ v b. reduced w (gathers ◌+◌ P v) (simp length-map h.count);
        back = λ v b. reduced w (act ◌+◌ (map (λ a. 1 ∷ a) K) (t * total v ∷ v)) (simp length-map h.rows);
        left = λ v b. ungathered_gathered (2 ^ w) t q ht P K h v b.size ∙ reduce_id b.small;
        right = λ v b. gathered_ungathered (2 ^ w) t q ht P K h v b.size ∙ reduce_id b.small;
      }

  pub adds_undo : (c : List ℕ) → length c ≡ 8 → Undo w (λ v. adds (2 ^ w) v c) (λ v. subs (2 ^ w) v c)
  adds_undo c l =
      record {
        there = λ v b. reduced w (add v c) (length_add v c (b.size ∙ sym l) ∙ b.size);
        back = λ v b. reduced w (add v (negate (2 ^ w) c)) (length_add v (negate (2 ^ w) c) (simp length-map (b.size ∙ sym l)) ∙ b.size);
        left = λ v b. subs_adds (2 ^ w) (pow_pos w) v c (b.size ∙ sym l) ∙ reduce_id b.small;
        right = λ v b. adds_subs (2 ^ w) (pow_pos w) v c (b.size ∙ sym l) ∙ reduce_id b.small;
      }

  gather_lt : {v : List ℕ} → Below (2 ^ w) v → (p : List ℕ) → fold bit_xor (pick p v) < 2 ^ w
  gather_lt b [] = pow_pos w
  gather_lt {v} b (i ∷ p) = xor_lt w (get_or v i 0) (fold bit_xor (pick p v)) (get_or-below (pow_pos w) b i) (gather_lt b p)

  gathers_below : {v : List ℕ} → Below (2 ^ w) v → (P : List (List ℕ)) → Below (2 ^ w) (gathers bit_xor P v)
  gathers_below b [] = none
  gathers_below b (p ∷ P) = more (gather_lt b p) (gathers_below b P)

  pub xor_undo : (P Q : List (List ℕ)) → length P ≡ 8 → length Q ≡ 8 → odds (mul (map row Q) (map row P)) ≡ ident 8 → odds (mul (map row P) (map row Q)) ≡ ident 8
      → Undo w (gathers bit_xor P) (gathers bit_xor Q)
  xor_undo P Q lp lq e f =
      record {
        there = λ v b. record { size = simp length-map lp; small = gathers_below b.small P };
        back = λ v b. record { size = simp length-map lq; small = gathers_below b.small Q };
        left = λ v b. xors_undo P Q v (rw b.size e);
        right = λ v b. xors_undo Q P v (rw b.size f);
      }

  -- ---- rotations, each word by its own amount

  abbrev pub rests : List ℕ → List ℕ
  rests rs = map (λ r. w - r) rs

  length_rotates : (rs v : List ℕ) → length rs ≡ length v → length (rotations w rs v) ≡ length v
  length_rotates [] v e = e
  length_rotates (r ∷ rs) [] e = refl
  length_rotates (r ∷ rs) (x ∷ v) e = ap suc (length_rotates rs v (suc_inj e))

  rotates_below : {rs v : List ℕ} → Below (suc w) rs → Below (2 ^ w) v → Below (2 ^ w) (rotations w rs v)
  rotates_below none b = none
  rotates_below (more h a) none = none
  rotates_below (more h a) (more l b) = more (rotl_lt w _ _ (le_of_suc-le-suc h) l) (rotates_below a b)

  rotates_back : {rs v : List ℕ} → Below (suc w) rs → Below (2 ^ w) v → length rs ≡ length v → rotations w (rests rs) (rotations w rs v) ≡ v
  rotates_back none none e = refl
  rotates_back none (more l b) e = absurd (suc-ne-zero _ (sym e))
  rotates_back (more h a) none e = absurd (suc-ne-zero _ e)
  rotates_back (more h a) (more l b) e =
      ap₂ {B = List ℕ} (λ x l. x ∷ l) (rotl_back w _ _ (le_of_suc-le-suc h) l) (rotates_back a b (suc_inj e))

  rests_below : (rs : List ℕ) → Below (suc w) (rests rs)
  rests_below [] = none
  rests_below (r ∷ rs) = more (let h : w - r < suc w = omega arith in h) (rests_below rs)

  rests_rests : {rs : List ℕ} → Below (suc w) rs → rests (rests rs) ≡ rs
  rests_rests none = refl
  rests_rests (more h a) = ap₂ {B = List ℕ} (λ x l. x ∷ l) (sub-sub_self (le_of_suc-le-suc h)) (rests_rests a)

  pub rotations_undo : (rs : List ℕ) → length rs ≡ 8 → Below (suc w) rs → Undo w (rotations w rs) (rotations w (rests rs))
  rotations_undo rs l a =
      record {
        there = λ v b. record { size = length_rotates rs v (l ∙ sym b.size) ∙ b.size; small = rotates_below a b.small };
        back = λ v b. record { size = length_rotates (rests rs) v (length-map rs (λ r. w - r) ∙ l ∙ sym b.size) ∙ b.size; small = rotates_below (rests_below rs) b.small };
        left = λ v b. rotates_back a b.small (l ∙ sym b.size);
        right = λ v b. ap (λ s. rotations w s (rotations w (rests rs) v)) (sym (rests_rests a)) ∙ rotates_back (rests_below rs) b.small (length-map rs (λ r. w - r) ∙ l ∙ sym b.size);
      }

  -- ---- the words in another order

  pub pick_undo : (p q : List ℕ) → Undo w (gathers bit_xor (alone p)) (gathers bit_xor (alone q)) → Undo w (pick p) (pick q)
  pick_undo p q u = undo_on (λ v h. pick_is p v) (λ v h. pick_is q v) u

-- a reversed vector, reversed again
pub reversed_undo : (w : ℕ) → Undo w reversed reversed
reversed_undo w = let p : List ℕ = 7 ∷ 6 ∷ 5 ∷ 4 ∷ 3 ∷ 2 ∷ 1 ∷ 0 ∷ [] in pick_undo w p p (xor_undo w (alone p) (alone p) refl refl refl refl)
