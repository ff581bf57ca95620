-- A half of the product, and what undoes it, for every w, constant, amounts and tables of places that pass a computed test.
use mathlib.Core.Path.{◌≡◌, refl, sym, ap, ap₂, ◌∙◌}
use Prim.Native.Nat.{ℕ, suc, ◌+◌, ◌-◌, ◌*◌, ◌/◌, ◌%◌, ◌^◌, ◌<◌}
use native.Mathlib.Nat.{div-add-mod', add-zero, add_comm, suc_inj, suc-ne-zero}
use native.Mathlib.Omega.{arith}
use mathlib.Core.List.{List, [], ◌∷◌, map}
use lib.ListN.{length, length-map}
use lib.Bits.{bit_xor}
use lib.Pow.{pow_pos}
use Rattle.word.specs.Word.{plus, minus, inverse}
use Rattle.word.proofs.Inverse.{inverse_right}
use Rattle.quasigroup.specs.Product.{pick, both, fold, first, sum, xor, others, sums, combinations, half, joined}
use Rattle.quasigroup.specs.Division.{fifths, dot, unsums, unhalf, separated}
use Rattle.quasigroup.specs.Vector.{Below, Vector}
use Rattle.quasigroup.specs.Square.{apply, mul, row, ident}
use Rattle.quasigroup.proofs.Linear.{gathers}
use Rattle.quasigroup.proofs.Xor.{odds}
use Rattle.quasigroup.proofs.Modulo.{adds, subs, adds_mod}
use Rattle.quasigroup.proofs.Sums.{Undone, total, ungathered, repeat_is}
use Rattle.quasigroup.proofs.Vectors.{Undo, then, undo_on, eight, eight_is, alone, gathered_undo, adds_undo, xor_undo, rotations_undo, pick_undo}

-- what is computed of the places P of a half's sums, of U that undoes its XORs, and of K that undoes its sums
pub record Tables (P U K : List (List ℕ)) : Type 0 where
  pub sums_undone : Undone P K
  pub count : length U ≡ 8
  pub xors_undone : odds (mul (map row U) (map row (map others P))) ≡ ident 8
  pub unxors_undone : odds (mul (map row (map others P)) (map row U)) ≡ ident 8

pub dot_is : (k v : List ℕ) → dot k v ≡ apply ◌+◌ k v
dot_is [] v = refl
dot_is (a ∷ k) [] = refl
dot_is (a ∷ k) (x ∷ v) = ap₂ ◌+◌ (sym (repeat_is a x)) (dot_is k v)

module _ (w : ℕ) where
  -- ---- the steps as the laws on lists have them

  pluses_is : (p q : List ℕ) → length p ≡ length q → both (plus w) p q ≡ adds (2 ^ w) p q
  unfolding plus
  pluses_is [] [] e = refl
  pluses_is [] (y ∷ q) e = absurd (suc-ne-zero (length q) (sym e))
  pluses_is (x ∷ p) [] e = absurd (suc-ne-zero (length p) e)
  pluses_is (x ∷ p) (y ∷ q) e = ap (λ (l : List ℕ). (x + y) % 2 ^ w ∷ l) (pluses_is p q (suc_inj e))

  minuses_is : (p q : List ℕ) → length p ≡ length q → both (minus w) p q ≡ subs (2 ^ w) p q
  unfolding minus
  minuses_is [] [] e = refl
  minuses_is [] (y ∷ q) e = absurd (suc-ne-zero (length q) (sym e))
  minuses_is (x ∷ p) [] e = absurd (suc-ne-zero (length p) e)
  minuses_is (x ∷ p) (y ∷ q) e = ap (λ (l : List ℕ). (x + (2 ^ w - y % 2 ^ w)) % 2 ^ w ∷ l) (minuses_is p q (suc_inj e))

  sums_is : (ks : List ℕ) (P : List (List ℕ)) (v : List ℕ) → length P ≡ length ks → both (λ k p. sum w k (pick p v)) ks P ≡ adds (2 ^ w) (gathers ◌+◌ P v) ks
  unfolding sum
  sums_is [] [] v e = refl
  sums_is (k ∷ ks) [] v e = absurd (suc-ne-zero (length ks) (sym e))
  sums_is [] (p ∷ P) v e = absurd (suc-ne-zero (length P) e)
  sums_is (k ∷ ks) (p ∷ P) v e = ap (λ (l : List ℕ). (fold ◌+◌ (pick p v) + k) % 2 ^ w ∷ l) (sums_is ks P v (suc_inj e))

  unsums_is : (K : List (List ℕ)) (t : List ℕ) → unsums w K t ≡ ungathered (2 ^ w) (fifths w) K t
  unsums_is [] t = refl
  unsums_is (k ∷ K) t =
      ap₂ {B = List ℕ} (λ x l. x ∷ l)
      (ap₂ (λ x y. (x + y) % 2 ^ w) (sym (add-zero (fifths w * total t))) (dot_is k t)) (unsums_is K t)

  xors_is : (P : List (List ℕ)) (v : List ℕ) → gathers bit_xor P v ≡ map (λ p. xor (pick p v)) P
  unfolding xor
  xors_is P v = refl

  combinations_is : (P : List (List ℕ)) (v : List ℕ) → gathers bit_xor (map others P) v ≡ combinations P v
  unfolding xor
  combinations_is [] v = refl
  combinations_is (p ∷ P) v = ap (λ (l : List ℕ). fold bit_xor (pick (others p) v) ∷ l) (combinations_is P v)

  fifths_is : 0 < w → 5 * fifths w + 8 ≡ (2 * (5 * inverse w 5 / 2 ^ w) + 10) * 2 ^ w
  fifths_is h =
      let i : 0 < 2 ^ w = pow_pos w in
      let e : 5 * inverse w 5 / 2 ^ w * 2 ^ w + 5 * inverse w 5 % 2 ^ w ≡ 5 * inverse w 5 = div-add-mod' (5 * inverse w 5) (2 ^ w) in
      let o : 5 * inverse w 5 % 2 ^ w ≡ 1 = inverse_right w 5 h refl in
      omega arith

  -- ---- the steps undo each other

  sums_undo : 0 < w → (c : ℕ) (P K : List (List ℕ)) → Undone P K → Undo w (sums w c P) (λ z. unsums w K (both (minus w) z (first c)))
  sums_undo pos c P K h =
      undo_on
      (λ v b. adds_mod (2 ^ w) (gathers ◌+◌ P v) (first c) ∙ sym (sums_is (first c) P v h.count))
      (λ v b. sym (unsums_is K (both (minus w) v (first c)) ∙ ap (ungathered (2 ^ w) (fifths w) K) (minuses_is v (first c) b.size)))
      (then (gathered_undo w (fifths w) _ (fifths_is pos) P K h) (adds_undo w (first c) refl))

  xors_undo : (P U K : List (List ℕ)) → Tables P U K → Undo w (combinations P) (λ z. map (λ p. xor (pick p z)) U)
  xors_undo P U K h =
      undo_on (λ v b. combinations_is P v) (λ v b. xors_is U v)
      (xor_undo w (map others P) U (length-map P others ∙ h.sums_undone.count) h.count h.xors_undone h.unxors_undone)

  pub half_undo : 0 < w → (c : ℕ) (rs : List ℕ) → length rs ≡ 8 → Below (suc w) rs → (P U K : List (List ℕ)) → Tables P U K
      → Undo w (half w c rs P) (unhalf w c rs U K)
  half_undo pos c rs l a P U K h = then (then (sums_undo pos c P K h.sums_undone) (rotations_undo w rs l a)) (xors_undo P U K h)

  -- ---- the halves joined

  -- combination i of both halves is word (i + 5) modulo 8 of the result
  abbrev order : List ℕ
  order = 3 ∷ 4 ∷ 5 ∷ 6 ∷ 7 ∷ 0 ∷ 1 ∷ 2 ∷ []

  abbrev unorder : List ℕ
  unorder = 5 ∷ 6 ∷ 7 ∷ 0 ∷ 1 ∷ 2 ∷ 3 ∷ 4 ∷ []

  swapped : (p q : List ℕ) → both (plus w) p q ≡ both (plus w) q p
  unfolding plus
  swapped [] [] = refl
  swapped [] (y ∷ q) = refl
  swapped (x ∷ p) [] = refl
  swapped (x ∷ p) (y ∷ q) = ap₂ {B = List ℕ} (λ n l. n ∷ l) (ap (λ n. n % 2 ^ w) (add_comm x y)) (swapped p q)

  pub joined_comm : (a b : List ℕ) → joined w a b ≡ joined w b a
  joined_comm a b = ap (pick order) (swapped (eight a) (eight b))

  place_undo : Undo w (pick order) (pick unorder)
  place_undo = pick_undo w order unorder (xor_undo w (alone order) (alone unorder) refl refl refl refl)

  -- joining with a half that is known is undone by separating it
  pub joined_undo : (c : List ℕ) → Vector w c → Undo w (λ v. joined w v c) (λ b. separated w b c)
  joined_undo c h =
      undo_on
      (λ v b. ap (pick order) (sym (pluses_is v c (b.size ∙ sym h.size)) ∙ ap₂ (both (plus w)) (sym (eight_is v b.size)) (sym (eight_is c h.size))))
      (λ v b.
      sym (minuses_is (pick unorder v) c (sym h.size)) ∙ ap (both (minus w) (pick unorder v)) (sym (eight_is c h.size)))
      (then (adds_undo w c h.size) place_undo)
