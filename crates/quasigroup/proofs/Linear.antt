-- Squares of small numbers acting on lists of words, over any commutative monoid (op, 0) of numbers: `◌+◌`, or `bit_xor`.
-- No law here asks for a length: a short row is read as one with zeros at its end.
use mathlib.Core.Path.{◌≡◌, refl, sym, ap, ap₂, ◌∙◌}
use Prim.Native.Nat.{ℕ, zero, suc, ◌+◌, ◌*◌}
use native.Mathlib.Nat.{zero-add, suc-add, suc-mul, zero-mul}
use mathlib.Core.List.{List, [], ◌∷◌, map}
use lib.ListN.{length, get_or, replicate}
use Rattle.quasigroup.specs.Product.{pick, fold}
use Rattle.quasigroup.specs.Square.{add, scale, combine, mul, unit, row, ident, repeat, apply, act}

module _ (op : ℕ → ℕ → ℕ) where
  -- for each row of places, the words of v there, one after the other
  abbrev pub gathers : List (List ℕ) → List ℕ → List ℕ
  gathers P v = map (λ p. fold op (pick p v)) P

  module _ (assoc : (x y z : ℕ) → op (op x y) z ≡ op x (op y z)) (comm : (x y : ℕ) → op x y ≡ op y x) (unit_l : (x : ℕ) → op 0 x ≡ x) where
    unit_r : (x : ℕ) → op x 0 ≡ x
    unit_r x = comm x 0 ∙ unit_l x

    four : (a b c d : ℕ) → op (op a b) (op c d) ≡ op (op a c) (op b d)
    four a b c d =
        assoc a b (op c d) ∙ ap (op a) (sym (assoc b c d) ∙ ap (λ x. op x d) (comm b c) ∙ assoc c b d) ∙ sym (assoc a c (op b d))

    repeat_add : (a b x : ℕ) → repeat op (a + b) x ≡ op (repeat op a x) (repeat op b x)
    repeat_add zero b x = ap (λ n. repeat op n x) (zero-add b) ∙ sym (unit_l (repeat op b x))
    repeat_add (suc a) b x = ap (λ n. repeat op n x) (suc-add a b) ∙ ap (op x) (repeat_add a b x) ∙ sym (assoc x (repeat op a x) (repeat op b x))

    repeat_op : (a x y : ℕ) → repeat op a (op x y) ≡ op (repeat op a x) (repeat op a y)
    repeat_op zero x y = sym (unit_l 0)
    repeat_op (suc a) x y = ap (op (op x y)) (repeat_op a x y) ∙ four x y (repeat op a x) (repeat op a y)

    repeat_zero : (a : ℕ) → repeat op a 0 ≡ 0
    repeat_zero zero = refl
    repeat_zero (suc a) = unit_l (repeat op a 0) ∙ repeat_zero a

    repeat_mul : (a b x : ℕ) → repeat op (a * b) x ≡ repeat op a (repeat op b x)
    repeat_mul zero b x = ap (λ n. repeat op n x) (zero-mul b)
    repeat_mul (suc a) b x =
        ap (λ n. repeat op n x) (suc-mul a b) ∙ repeat_add (a * b) b x ∙ ap (λ y. op y (repeat op b x)) (repeat_mul a b x) ∙ comm (repeat op a (repeat op b x)) (repeat op b x)

    pub apply_add : (p q v : List ℕ) → apply op (add p q) v ≡ op (apply op p v) (apply op q v)
    apply_add [] q v = sym (unit_l (apply op q v))
    apply_add (x ∷ p) [] v = sym (unit_r (apply op (x ∷ p) v))
    apply_add (x ∷ p) (y ∷ q) [] = sym (unit_l 0)
    apply_add (x ∷ p) (y ∷ q) (z ∷ v) = ap₂ op (repeat_add x y z) (apply_add p q v) ∙ four (repeat op x z) (repeat op y z) (apply op p v) (apply op q v)

    apply_scale : (a : ℕ) (p v : List ℕ) → apply op (scale a p) v ≡ repeat op a (apply op p v)
    apply_scale a [] v = sym (repeat_zero a)
    apply_scale a (x ∷ p) [] = sym (repeat_zero a)
    apply_scale a (x ∷ p) (z ∷ v) = ap₂ op (repeat_mul a x z) (apply_scale a p v) ∙ sym (repeat_op a (repeat op x z) (apply op p v))

    pub apply_act : (r : List ℕ) (B : List (List ℕ)) (v : List ℕ) → apply op r (act op B v) ≡ apply op (combine r B) v
    apply_act [] B v = refl
    apply_act (a ∷ r) [] v = refl
    apply_act (a ∷ r) (b ∷ B) v =
        ap₂ op (sym (apply_scale a b v)) (apply_act r B v) ∙ sym (apply_add (scale a b) (combine r B) v)

    -- the action of one square after another is that of their product
    pub act_act : (A B : List (List ℕ)) (v : List ℕ) → act op A (act op B v) ≡ act op (mul A B) v
    act_act [] B v = refl
    act_act (r ∷ A) B v = ap₂ {B = List ℕ} (λ x l. x ∷ l) (apply_act r B v) (act_act A B v)

    pub apply_unit : (i : ℕ) (v : List ℕ) → apply op (unit i) v ≡ get_or v i 0
    apply_unit zero [] = refl
    apply_unit zero (x ∷ v) = unit_r (op x 0) ∙ unit_r x
    apply_unit (suc i) [] = refl
    apply_unit (suc i) (x ∷ v) = unit_l (apply op (unit i) v) ∙ apply_unit i v

    apply_zeros : (n : ℕ) (v : List ℕ) → apply op (replicate n 0) v ≡ 0
    apply_zeros zero v = refl
    apply_zeros (suc n) [] = refl
    apply_zeros (suc n) (x ∷ v) = unit_l (apply op (replicate n 0) v) ∙ apply_zeros n v

    pub apply_row : (v p : List ℕ) → fold op (pick p v) ≡ apply op (row p) v
    apply_row v [] = sym (apply_zeros 8 v)
    apply_row v (i ∷ p) = ap₂ op (sym (apply_unit i v)) (apply_row v p) ∙ sym (apply_add (unit i) (row p) v)

    pub gathers_act : (P : List (List ℕ)) (v : List ℕ) → gathers P v ≡ act op (map row P) v
    gathers_act [] v = refl
    gathers_act (p ∷ P) v = ap₂ {B = List ℕ} (λ x l. x ∷ l) (apply_row v p) (gathers_act P v)

    act_shift : (A : List (List ℕ)) (x : ℕ) (v : List ℕ) → act op (map (λ r. 0 ∷ r) A) (x ∷ v) ≡ act op A v
    act_shift [] x v = refl
    act_shift (r ∷ A) x v = ap₂ {B = List ℕ} (λ y l. y ∷ l) (unit_l (apply op r v)) (act_shift A x v)

    pub act_ident : (v : List ℕ) → act op (ident (length v)) v ≡ v
    act_ident [] = refl
    act_ident (x ∷ v) =
        ap₂ {B = List ℕ} (λ y l. y ∷ l)
        (ap (op (op x 0)) (apply_zeros (length v) v) ∙ unit_r (op x 0) ∙ unit_r x)
        (act_shift (ident (length v)) x v ∙ act_ident v)
