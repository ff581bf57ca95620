-- Lists put together from pieces, and two lists whose elements are related one by one.
use mathlib.Core.Path.{◌≡◌, refl, sym, ap, ap₂, ◌∙◌}
use mathlib.Core.List.{List, [], ◌∷◌, ◌++◌, append_assoc, append-nil, flat_map, map, reverse, reverse-cons, reverse-append}
use mathlib.Core.List.{Forall₂}
use native.Mathlib.Omega.{arith}
use lib.ListN.{length, length-append}
use Rattle.invertible.specs.Invertible.{stepped}

-- ---- pieces

module _ {A B : Type 0} (f : A → List B) where
  pub flat_none : flat_map f [] ≡ []
  unfolding flat_map
  flat_none = refl

  pub flat_more : (a : A) (l : List A) → flat_map f (a ∷ l) ≡ f a ++ flat_map f l
  unfolding flat_map
  flat_more a l = refl

  pub flat_append : (l m : List A) → flat_map f (l ++ m) ≡ flat_map f l ++ flat_map f m
  unfolding flat_map
  flat_append [] m = refl
  flat_append (a ∷ l) m = ap (λ (r : List B). f a ++ r) (flat_append l m) ∙ sym (append_assoc (f a) (flat_map f l) (flat_map f m))

  pub flat_last : (l : List A) (a : A) → flat_map f (l ++ (a ∷ [])) ≡ flat_map f l ++ f a
  flat_last l a =
      flat_append l (a ∷ []) ∙ ap (λ (r : List B). flat_map f l ++ r) (flat_more a [] ∙ ap (λ (r : List B). f a ++ r) flat_none ∙ append-nil (f a))

  -- backwards, where each piece is the same backwards
  pub flat_reverse : ((a : A) → reverse (f a) ≡ f a) → (l : List A) → flat_map f (reverse l) ≡ reverse (flat_map f l)
  flat_reverse h [] = flat_none ∙ ap reverse (sym flat_none)
  flat_reverse h (a ∷ l) =
      ap (flat_map f) (reverse-cons a l)
      ∙ flat_last (reverse l) a
      ∙ ap₂ {C = List B} (λ x y. x ++ y) (flat_reverse h l) (sym (h a))
      ∙ sym (reverse-append (f a) (flat_map f l))
      ∙ ap reverse (sym (flat_more a l))

  pub flat_length_reverse : (l : List A) → length (flat_map f (reverse l)) ≡ length (flat_map f l)
  flat_length_reverse [] = refl
  flat_length_reverse (a ∷ l) =
      ap (λ (m : List A). length (flat_map f m)) (reverse-cons a l)
      ∙ ap length (flat_last (reverse l) a)
      ∙ omega (
        arith,
        length-append (flat_map f (reverse l)) (f a),
        length-append (f a) (flat_map f l),
        flat_length_reverse l,
        ap length (flat_more a l),
      )

  pub flat_length_map : (h : A → A) → ((a : A) → length (f (h a)) ≡ length (f a)) → (l : List A) → length (flat_map f (map h l)) ≡ length (flat_map f l)
  flat_length_map h e [] = refl
  flat_length_map h e (a ∷ l) =
      omega (
        arith,
        ap length (flat_more (h a) (map h l)),
        length-append (f (h a)) (flat_map f (map h l)),
        e a,
        flat_length_map h e l,
        length-append (f a) (flat_map f l),
        ap length (flat_more a l),
      )

pub flat_over : {A B C : Type 0} (f : B → List C) (h : A → B) (l : List A) → flat_map f (map h l) ≡ flat_map (λ a. f (h a)) l
flat_over f h [] = flat_none f ∙ sym (flat_none (λ a. f (h a)))
flat_over {C = C} f h (a ∷ l) =
    flat_more f (h a) (map h l) ∙ ap (λ (r : List C). f (h a) ++ r) (flat_over f h l) ∙ sym (flat_more (λ a. f (h a)) a l)

pub map_back : {A : Type 0} (h : A → A) → ((a : A) → h (h a) ≡ a) → (l : List A) → map h (map h l) ≡ l
map_back h e [] = refl
map_back {A} h e (a ∷ l) = ap₂ {C = List A} (λ x y. x ∷ y) (e a) (map_back h e l)

-- ---- pairs

module _ {A B : Type 0} {R : A → B → Type 0} where
  pairs_snoc : {l : List A} {m : List B} → Forall₂ R l m → {a : A} {b : B} → R a b → Forall₂ R (l ++ (a ∷ [])) (m ++ (b ∷ []))
  pairs_snoc Forall₂.nil r = Forall₂.cons r Forall₂.nil
  pairs_snoc (Forall₂.cons q k) r = Forall₂.cons q (pairs_snoc k r)

  pub pairs_reverse : {l : List A} {m : List B} → Forall₂ R l m → Forall₂ R (reverse l) (reverse m)
  pairs_reverse Forall₂.nil = Forall₂.nil
  pairs_reverse (Forall₂.cons {a} {b} {l₁ = l} {l₂ = m} r k) = rw (reverse-cons a l, reverse-cons b m) (pairs_snoc (pairs_reverse k) r)

  pub pairs_map : {C : Type 0} {f : A → C} {h : B → C} → ((a : A) (b : B) → R a b → f a ≡ h b) → {l : List A} {m : List B} → Forall₂ R l m → map f l ≡ map h m
  pairs_map e Forall₂.nil = refl
  pairs_map {C} e (Forall₂.cons {a} {b} r k) = ap₂ {C = List C} (λ x y. x ∷ y) (e a b r) (pairs_map e k)

  pub pairs_stepped : {S : Type 0} {f : A → S → S} {h : B → S → S} → ((a : A) (b : B) → R a b → (s : S) → f a s ≡ h b s) → {l : List A} {m : List B}
      → Forall₂ R l m → (s : S) → stepped f l s ≡ stepped h m s
  pairs_stepped e Forall₂.nil s = refl
  pairs_stepped {f = f} {h} e (Forall₂.cons {a} {b} {l₁ = l} r k) s = ap (stepped f l) (e a b r s) ∙ pairs_stepped e k (h b s)

  pub pairs_flat : {C : Type 0} {f : A → List C} {h : B → List C} → ((a : A) (b : B) → R a b → f a ≡ h b) → {l : List A} {m : List B} → Forall₂ R l m
      → flat_map f l ≡ flat_map h m
  pairs_flat {f = f} {h} e Forall₂.nil = flat_none f ∙ sym (flat_none h)
  pairs_flat {C} {f} {h} e (Forall₂.cons {a} {b} {l₁ = l} {l₂ = m} r k) =
      flat_more f a l ∙ ap₂ {C = List C} (λ x y. x ++ y) (e a b r) (pairs_flat e k) ∙ sym (flat_more h b m)
