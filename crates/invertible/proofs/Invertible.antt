-- A list of invertible steps is undone by the list backwards.
use mathlib.Core.Path.{◌≡◌, refl, sym, ap, ap₂, subst, ◌∙◌}
use mathlib.Core.List.{List, [], ◌∷◌, ◌++◌, map, map-append, reverse, reverse-cons}
use Rattle.invertible.specs.Invertible.{stepped, outputs, Each, none, more, Invertible}

pub each : {A : Type 0} {P : A → Type 0} → ((a : A) → P a) → (l : List A) → Each P l
each h [] = none
each h (a ∷ l) = more (h a) (each h l)

pub each_map : {A : Type 0} {P Q : A → Type 0} {l : List A} → ((a : A) → P a → Q a) → Each P l → Each Q l
each_map h none = none
each_map h (more {a} p k) = more (h a p) (each_map h k)

pub each_mapped : {A B : Type 0} {P : A → Type 0} {Q : B → Type 0} (h : A → B) → ((a : A) → P a → Q (h a)) → {l : List A} → Each P l → Each Q (map h l)
each_mapped h f none = none
each_mapped h f (more {a} p k) = more (f a p) (each_mapped h f k)

each_snoc : {A : Type 0} {P : A → Type 0} {l : List A} → Each P l → (a : A) → P a → Each P (l ++ (a ∷ []))
each_snoc none a p = more p none
each_snoc (more q k) a p = more q (each_snoc k a p)

pub each_reverse : {A : Type 0} {P : A → Type 0} {l : List A} → Each P l → Each P (reverse l)
each_reverse none = none
each_reverse {P = P} (more {a} {l} p k) = subst (Each P) (sym (reverse-cons a l)) (each_snoc (each_reverse k) a p)

pub map_reverse : {A B : Type 0} (f : A → B) (l : List A) → map f (reverse l) ≡ reverse (map f l)
map_reverse f [] = refl
map_reverse {B = B} f (a ∷ l) =
    ap (map f) (reverse-cons a l) ∙ map-append f (reverse l) (a ∷ []) ∙ ap (λ (m : List B). m ++ (f a ∷ [])) (map_reverse f l)
    ∙ sym (reverse-cons (f a) (map f l))

-- what is the same of each element
pub map_same : {A B : Type 0} {f h : A → B} {l : List A} → Each (λ a. f a ≡ h a) l → map f l ≡ map h l
map_same none = refl
map_same {B = B} (more e k) = ap₂ {C = List B} (λ x y. x ∷ y) e (map_same k)

pub stepped_same : {A S : Type 0} {f h : A → S → S} {l : List A} → Each (λ a. (s : S) → f a s ≡ h a s) l → (s : S) → stepped f l s ≡ stepped h l s
stepped_same none s = refl
stepped_same {f = f} {h} (more {a} {l} e k) s = ap (stepped f l) (e s) ∙ stepped_same k (h a s)

pub outputs_same : {A S O : Type 0} {f h : A → S → S} {o p : A → S → O} {l : List A} → Each (λ a. (s : S) → (f a s ≡ h a s) × (o a s ≡ p a s)) l → (s : S)
    → outputs f o l s ≡ outputs h p l s
outputs_same none s = refl
outputs_same {O = O} {f} {h} {o} {p} (more {a} {l} e k) s =
    ap₂ {C = List O} (λ x y. x ∷ y) (e s).1 (ap (outputs f o l) (e s).0 ∙ outputs_same k (h a s))

module _ {A S : Type 0} (f : A → S → S) where
  pub stepped_snoc : (l : List A) (a : A) (s : S) → stepped f (l ++ (a ∷ [])) s ≡ f a (stepped f l s)
  stepped_snoc [] a s = refl
  stepped_snoc (x ∷ l) a s = stepped_snoc l a (f x s)

  pub stepped_map : {B : Type 0} (h : B → A) (l : List B) (s : S) → stepped f (map h l) s ≡ stepped (λ b. f (h b)) l s
  stepped_map h [] s = refl
  stepped_map h (b ∷ l) s = stepped_map h l (f (h b) s)

  module _ {O : Type 0} (o : A → S → O) where
    pub outputs_snoc : (l : List A) (a : A) (s : S) → outputs f o (l ++ (a ∷ [])) s ≡ outputs f o l s ++ (o a (stepped f l s) ∷ [])
    outputs_snoc [] a s = refl
    outputs_snoc (x ∷ l) a s = ap (λ (r : List O). o x s ∷ r) (outputs_snoc l a (f x s))

    pub outputs_map : {B : Type 0} (h : B → A) (l : List B) (s : S) → outputs f o (map h l) s ≡ outputs (λ b. f (h b)) (λ b. o (h b)) l s
    outputs_map h [] s = refl
    outputs_map h (b ∷ l) s = ap (λ (r : List O). o (h b) s ∷ r) (outputs_map h l (f (h b) s))

module _ {A S : Type 0} {P : A → Type 0} {I : S → Type 0} {f g : A → S → S} (v : Invertible P I f g) where
  pub kept : {l : List A} → Each P l → (s : S) → I s → I (stepped f l s)
  kept none s k = k
  kept (more {a} {l} h hs) s k = kept hs (f a s) (v.keeps a s h k)

  pub reversal_undoes : {l : List A} → Each P l → (s : S) → I s → stepped g (reverse l) (stepped f l s) ≡ s
  reversal_undoes none s k = refl
  reversal_undoes (more {a} {l} h hs) s k =
      let u = f a s in
      let end = stepped f l u in
      ap (λ (m : List A). stepped g m end) (reverse-cons a l)
      ∙ stepped_snoc g (reverse l) a end
      ∙ ap (g a) (reversal_undoes hs u (v.keeps a s h k))
      ∙ v.back a s h k

  -- where a step back puts out what the step put out, the way back puts out the same, reversed
  module _ {O : Type 0} (o p : A → S → O) (same : (a : A) (s : S) → P a → I s → p a (f a s) ≡ o a s) where
    pub outputs_back : {l : List A} → Each P l → (s : S) → I s → outputs g p (reverse l) (stepped f l s) ≡ reverse (outputs f o l s)
    outputs_back none s k = refl
    outputs_back (more {a} {l} h hs) s k =
        let u = f a s in
        let end = stepped f l u in
        let i = v.keeps a s h k in
        ap (λ (m : List A). outputs g p m end) (reverse-cons a l)
        ∙ outputs_snoc g p (reverse l) a end
        ∙ ap₂ {B = O} {C = List O} (λ r x. r ++ (x ∷ [])) (outputs_back hs u i) (ap (p a) (reversal_undoes hs u i) ∙ same a s h k)
        ∙ sym (reverse-cons (o a s) (outputs f o l u))
