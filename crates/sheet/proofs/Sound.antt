-- What is known of what was read at an offset.
use Rattle.std.specs.Prelude.{Option, Ok, Err, Some, None}
use mathlib.Core.Path.{◌≡◌, sym, subst}
use mathlib.Core.Bool.{cond, ◌||◌}
use mathlib.Core.List.{List}
use Prim.Native.Nat.{ℕ, ◌+◌, ◌*◌, ◌≤◌, ◌<◌}
use native.Mathlib.Omega.{arith}
use borrow.Author.Tests.{ltb-true, ltb-false, leb-true, leb-false, eqb-false, lt-ltb, le-ltb, ne_eqb}
use lib.Dec.{eqb, leb, ltb}
use lib.ListN.{length, get_or}
use Rattle.answer.specs.declared.Refusal.{Refusal}
use Rattle.answer.proofs.Tests.{split, neither}
use Rattle.sheet.specs.declared.Places.{Places}
use Rattle.sheet.specs.declared.Command.{Command}
use Rattle.sheet.specs.declared.Command.TheVariants.{Lmul, Rmul, Ldiv, Rdiv, Swap, Flip, Kmul, Kdiv}
use Rattle.sheet.specs.declared.Decoded.{Decoded}
use Rattle.sheet.specs.Units.{units}
use Rattle.sheet.specs.Sound.{SoundPlaces, SoundVector, SoundCommandAmong, SoundDecoded, SoundRead}
use Rattle.sheet.specs.Read.{Read, place_count, size_of, two_place_command, two_places_among, one_place_command, one_place_among, read_among, read_at}

pub size_two : (w b : ℕ) → 2 ≤ size_of w b
size_two w b =
    split (λ n. 2 ≤ n) (ltb b 6) 3 (cond (eqb b 6) 2 (w + 2)) (λ _. omega arith) λ _.
    split (λ n. 2 ≤ n) (eqb b 6) 2 (w + 2) (λ _. omega arith) (λ _. omega arith)

pub size_three : (w b : ℕ) → b < 6 → size_of w b ≡ 3
size_three w b h = rw (lt-ltb b 6 h)

size_key : (w b : ℕ) → 6 ≤ b → (b ≡ 6 → ⊥) → size_of w b ≡ w + 2
size_key w b h e = rw (le-ltb b 6 h, ne_eqb b 6 e)

at_most_one : (c : Command) → units c ≤ 1
at_most_one (Lmul p) = omega arith
at_most_one (Rmul p) = omega arith
at_most_one (Ldiv p) = omega arith
at_most_one (Rdiv p) = omega arith
at_most_one (Swap p) = omega arith
at_most_one (Flip d) = omega arith
at_most_one (Kmul d k) = omega arith
at_most_one (Kdiv d k) = omega arith

-- among n places, in a sheet of m bytes
module _ (n w m i : ℕ) (inside : i < m) (b next : ℕ) (on : i + 2 ≤ next) (within : next ≤ m) where
  two_command : (p : Places) → SoundPlaces n p → SoundCommandAmong n w m (two_place_command b p)
  two_command p q =
      let P = SoundCommandAmong n w m in
      split P (eqb b 1) _ _ (λ _. q) λ _.
      split P (eqb b 2) _ _ (λ _. q) λ _.
      split P (eqb b 3) _ _ (λ _. q) λ _.
      split P (eqb b 4) _ _ (λ _. q) (λ _. q)

  one_command : (d : ℕ) → d < n → ((b ≡ 6 → ⊥) → i + 2 + w ≤ m) → SoundCommandAmong n w m (one_place_command b d (i + 2))
  one_command d l k =
      let P = SoundCommandAmong n w m in
      split P (eqb b 6) _ _ (λ _. l) λ g.
      let v : SoundVector n w m d (i + 2) = record { place = l; within = k (eqb-false b 6 g) } in
      split P (eqb b 7) _ _ (λ _. v) (λ _. v)

  two_sound : i + 3 ≤ next → (p : Places) → SoundRead n w m i (two_places_among n b p next)
  two_sound three p =
      let P = SoundRead n w m i in
      split P (leb n p.d || leb n p.s) _ _ (λ _. inside) λ f.
      split P (eqb p.d p.s) _ _ (λ _. inside) λ g.
      let h = neither (leb n p.d) (leb n p.s) f in
      let first = leb-false n p.d h.0 in
      let second = leb-false n p.s h.1 in
      let q : SoundPlaces n p = record { first = first; second = second; apart = λ e. eqb-false p.d p.s g (sym e) } in
      let few = at_most_one (two_place_command b p) in
      record { sound = two_command p q; on = on; within = within; few = few; taken = λ _. omega arith }

  one_taken : (d k : ℕ) → ((b ≡ 6 → ⊥) → i + 2 + w ≤ next) → 1 ≤ w → i + 3 * units (one_place_command b d k) ≤ next
  one_taken d k l h =
      let P : Command → Type 0 = λ c. i + 3 * units c ≤ next in
      split P (eqb b 6) _ _ (λ _. omega arith) λ g.
      let z : i + 2 + w ≤ next = l (eqb-false b 6 g) in
      split P (eqb b 7) _ _ (λ _. omega arith) (λ _. omega arith)

  one_sound : (d : ℕ) → ((b ≡ 6 → ⊥) → i + 2 + w ≤ next) → SoundRead n w m i (one_place_among n b d (i + 2) next)
  one_sound d k =
      let P = SoundRead n w m i in
      split P (leb n d) _ _ (λ _. inside) λ f.
      record {
        sound = one_command d (leb-false n d f) (λ e. let z : i + 2 + w ≤ next = k e in omega arith);
        on = on;
        within = within;
        few = at_most_one (one_place_command b d (i + 2));
        taken = one_taken d (i + 2) k;
      }

pub read_sound : (n w : ℕ) (s : List ℕ) (i : ℕ) → SoundRead n w (length s) i (read_among n w s i)
unfolding read_among
read_sound n w s i =
    let b = get_or s i 0 in
    let P = SoundRead n w (length s) i in
    split P (leb (length s) i) _ _ (λ h. leb-true (length s) i h) λ h.
    let m : i < length s = leb-false (length s) i h in
    split P (eqb b 0 || ltb 8 b) _ _ (λ _. m) λ _.
    split P (ltb (length s) (i + size_of w b)) _ _ (λ _. m) λ g.
    let z : i + size_of w b ≤ length s = ltb-false (length s) (i + size_of w b) g in
    let t : i + 2 ≤ i + size_of w b = omega (arith, size_two w b) in
    let p : Places = record { d = get_or s (i + 1) 0; s = get_or s (i + 2) 0 } in
    split P (ltb b 6) _ _ (λ l. two_sound n w (length s) i m b (i + size_of w b) t z (omega (arith, size_three w b (ltb-true b 6 l))) p) λ l.
    one_sound n w (length s) i m b (i + size_of w b) t z (get_or s (i + 1) 0) (λ e. omega (arith, size_key w b (ltb-false b 6 l) e))

-- what code found where it read, taken apart
pub was_read : {r x : Read} {o : Option Decoded} {d : Decoded} → r ≡ x → r ≡ Ok o → o ≡ Some d → x ≡ Ok (Some d)
was_read e f g = cc

pub was_end : {r x : Read} {o : Option Decoded} → r ≡ x → r ≡ Ok o → o ≡ None → x ≡ Ok None
was_end e f g = cc

pub got_sound : (w : ℕ) (s : List ℕ) (i : ℕ) {d : Decoded} → read_at w s i ≡ Ok (Some d) → SoundDecoded w (length s) i d
got_sound w s i e = subst (SoundRead place_count w (length s) i) e (read_sound place_count w s i)

pub fault_inside : (w : ℕ) (s : List ℕ) (i : ℕ) {r : Refusal} → read_at w s i ≡ Err r → i < length s
fault_inside w s i e = subst (SoundRead place_count w (length s) i) e (read_sound place_count w s i)
