-- The loop over records, for either way of writing one.
use mathlib.Core.Path.{◌≡◌, refl, sym, ap, ap₂, subst, ◌∙◌}
use mathlib.Core.Bool.{true}
use mathlib.Core.List.{List, ◌++◌, append_assoc}
use Prim.Native.Nat.{ℕ, suc, ◌+◌, ◌*◌, ◌/◌, ◌%◌, ◌-◌, ◌≤◌, ◌<◌}
use native.Mathlib.Nat.{zero-mul, suc-mul, mul-le-mul_right, div-le_self}
use native.Mathlib.Numerals.{add-one}
use native.Mathlib.Omega.{arith}
use borrow.Rule.Slice.PartMut.{put_mid, mid_of}
use lib.ListN.{length, take, drop, length-append, length-drop}
use lib.Seq.{length-take-le, take_at, drop-append-add, drop-drop}
use Rattle.quasigroup.specs.Tables.{known_width}
use Rattle.memory.proofs.Parts.{part_written}
use Rattle.shuffle.specs.Shuffle.{record_length, each_record, all_records}
use Rattle.shuffle.proofs.Records.{Keeps, each_length, each_more}
use Rattle.shuffle.proofs.Widths.{records_whole}

-- a record written at a width that is given as a number
pub at_width : (f : ℕ → List ℕ → List ℕ) (w v : ℕ) → w ≡ v → (s out : List ℕ) {last : List ℕ} → last ≡ f v s ++ drop (record_length v) out
    → last ≡ f w s ++ drop (record_length w) out
at_width f w v e s out h = h ∙ ap (λ (u : ℕ). f u s ++ drop (record_length u) out) (sym e)

-- .. and what that asks, n bytes being given and m lent
pub asked_at : (w v : ℕ) → w ≡ v → {n m : ℕ} → n ≡ record_length w → record_length w ≤ m → (n ≡ record_length v) × (record_length v ≤ m)
asked_at w v e h g = (omega arith, omega arith)

-- i of `count` records of n bytes are written, over the output `old`
pub record Progress (f : ℕ → List ℕ → List ℕ) (w : ℕ) (s old : List ℕ) (n count i : ℕ) (out : List ℕ) : Type 0 where
  pub known : known_width w ≡ true
  pub record_size : n ≡ record_length w
  pub many : count ≡ length s / n
  pub whole : count * n ≡ length s
  pub room : length s ≤ length old
  pub bound : i ≤ count
  pub written : out ≡ each_record (f w) n i s ++ drop (i * n) old

module _ (f : ℕ → List ℕ → List ℕ) (w : ℕ) (s old : List ℕ) where
  pub begin : known_width w ≡ true → length s % record_length w ≡ 0 → length s ≤ length old
      → Progress f w s old (record_length w) (length s / record_length w) 0 old
  begin k h g =
      record {
        known = k;
        record_size = refl;
        many = refl;
        whole = records_whole (record_length w) s h;
        room = g;
        bound = omega arith;
        written = ap (λ (j : ℕ). drop j old) (sym (zero-mul (record_length w)));
      }

module _ {f : ℕ → List ℕ → List ℕ} (keeps : (w : ℕ) → known_width w ≡ true → Keeps (f w) (record_length w))
    {w : ℕ} {s old : List ℕ} {n count i : ℕ} {out : List ℕ} (p : Progress f w s old n count i out) where
  keep : Keeps (f w) n
  keep = subst (Keeps (f w)) (sym p.record_size) (keeps w p.known)

  so_far : i * n ≤ length s
  so_far = omega (arith, mul-le-mul_right {m = i} {n = count} n p.bound, p.whole)

  first_length : length (each_record (f w) n i s) ≡ i * n
  first_length = each_length (f w) n keep i s

  pub same_size : length out ≡ length old
  same_size =
      ap length p.written ∙ length-append (each_record (f w) n i s) (drop (i * n) old)
      ∙ omega (arith, first_length, length-drop (i * n) old, so_far, p.room)

  pub inside : i < count → i * n + n ≤ length s
  inside h = omega (arith, mul-le-mul_right {m = 1 + i} {n = count} n (omega arith), suc-mul i n, p.whole)

  pub few : count ≤ length s
  few = subst (λ (c : ℕ). c ≤ length s) (sym p.many) (div-le_self (length s) n)

  pub starts : i * n ≤ length out
  starts = omega (arith, so_far, p.room, same_size)

  -- what writing the next record asks
  pub asked : i < count → (known_width w ≡ true) × (length (take (i * n + n - i * n) (drop (i * n) s)) ≡ record_length w)
      × (record_length w ≤ length (mid_of (i * n) (length out - i * n) out))
  asked h =
      let g = inside h in
      let a : i * n + n - i * n ≤ length (drop (i * n) s) = omega (arith, length-drop (i * n) s) in
      let b : length out - i * n ≤ length (drop (i * n) out) = omega (arith, length-drop (i * n) out) in (
        p.known,
        length-take-le _ (drop (i * n) s) a ∙ omega (arith, p.record_size),
        omega (arith, length-take-le _ (drop (i * n) out) b, g, p.record_size, p.room, same_size),
      )

  pub end : count ≤ i → out ≡ all_records f w s ++ drop (length s) old
  end h =
      let e : i ≡ count = omega (arith, p.bound) in
      p.written ∙ ap (λ (j : ℕ). each_record (f w) n j s ++ drop (j * n) old) e
      ∙ ap₂ {C = List ℕ} (λ x y. each_record (f w) n x s ++ drop y old) p.many p.whole
      ∙ ap (λ (m : ℕ). each_record (f w) m (length s / m) s ++ drop (length s) old) p.record_size

  -- one record more, written through the part of the output that starts at its place
  module _ (h : i < count) (mid : List ℕ)
      (e : mid ≡ f w (take (i * n + n - i * n) (drop (i * n) s)) ++ drop (record_length w) (mid_of (i * n) (length out - i * n) out)) where
    abbrev made : List ℕ
    made = f w (take n (drop (i * n) s))

    part : mid ≡ made ++ drop n (mid_of (i * n) (length out - i * n) out)
    part =
        let d : i * n + n - i * n ≡ n = omega arith in
        e
        ∙ ap₂ {C = List ℕ} (λ x y. f w (take x (drop (i * n) s)) ++ drop y (mid_of (i * n) (length out - i * n) out)) d (sym p.record_size)

    -- the output with the record in its place
    placed : put_mid (i * n) (length out - i * n) out mid ≡ take (i * n) out ++ (made ++ drop (i * n + n) out)
    placed =
        ap (put_mid (i * n) (length out - i * n) out) part
        ∙ part_written n out (i * n) made (omega (arith, inside h, p.room, same_size))

    before : take (i * n) out ≡ each_record (f w) n i s
    before = ap (take (i * n)) p.written ∙ take_at (each_record (f w) n i s) (drop (i * n) old) (i * n) first_length

    behind : drop (i * n + n) out ≡ drop (i * n + n) old
    behind =
        ap (drop (i * n + n)) p.written
        ∙ ap (λ (j : ℕ). drop (j + n) (each_record (f w) n i s ++ drop (i * n) old)) (sym first_length)
        ∙ drop-append-add (each_record (f w) n i s) (drop (i * n) old) n ∙ drop-drop n (i * n) old

    pub next : Progress f w s old n count (i + 1) (put_mid (i * n) (length out - i * n) out mid)
    next =
        let j : suc i * n ≡ i * n + n = suc-mul i n in
        record {
          known = p.known;
          record_size = p.record_size;
          many = p.many;
          whole = p.whole;
          room = p.room;
          bound = omega arith;
          written =
              placed ∙ ap₂ {C = List ℕ} (λ x y. x ++ (made ++ y)) before behind
              ∙ sym (append_assoc (each_record (f w) n i s) made (drop (i * n + n) old))
              ∙ ap₂ {C = List ℕ} (λ x y. x ++ drop y old) (sym (each_more (f w) n i s)) (sym j)
              ∙ ap (λ (q : ℕ). each_record (f w) n q s ++ drop (q * n) old) (sym (add-one i));
        }
