-- The loop over records: what is still to be compared leads to the same answer.
use Rattle.std.specs.Prelude.{Ok, Some, None}
use mathlib.Core.Path.{◌≡◌, refl, sym, ap, ap₂, ◌∙◌}
use mathlib.Core.Bool.{Bool, true, false, cond}
use mathlib.Core.List.{List}
use Prim.Native.Nat.{ℕ, suc, ◌+◌, ◌*◌, ◌%◌, ◌-◌, ◌≤◌, ◌<◌}
use native.Mathlib.Nat.{zero-mul, suc-mul, mul-le-mul_right, div-le_self}
use native.Mathlib.Decide.{dec_le}
use native.Mathlib.Omega.{arith}
use lib.ListN.{length}
use Rattle.quasigroup.specs.Tables.{known_width}
use Rattle.quasigroup.proofs.Widths.{bytewise}
use Rattle.sheet.specs.Run.{vectors_in}
use Rattle.sheet.specs.Progress.{RunState, starting_at, state_after}
use Rattle.sheet.proofs.Progress.{after_after, after_from}
use Rattle.shuffle.specs.Shuffle.{record_length}
use Rattle.shuffle.proofs.Widths.{sized, records_whole}
use Rattle.replay.specs.declared.Finding.{Finding}
use Rattle.replay.specs.ReplayAnswer.{ReplayAnswer, false_record}
use Rattle.replay.specs.Difference.{words_in_order, record_at, same_words, difference}
use Rattle.replay.specs.Replay.{state_by, recorded, replayed, first_false, record_count}
use Rattle.replay.proofs.Words.{record_vectors}

-- fewer whole records
fewer : (a b n : ℕ) → a * n < b * n → Dec (b ≤ a) → a < b
fewer a b n h (yes p) = absurd (omega (arith, mul-le-mul_right {m = b} {n = a} n p))
fewer a b n h (no q) = omega (arith, q)

no_fewer : (a b n : ℕ) → 0 < n → b * n ≤ a * n → Dec (b ≤ a) → b ≤ a
no_fewer a b n z h (yes p) = p
no_fewer a b n z h (no q) = absurd (omega (arith, suc-mul a n, mul-le-mul_right {m = suc a} {n = b} n (omega (arith, q))))

-- ---- one command more

module _ (w : ℕ) (s b : List ℕ) (k : ℕ) where
  one_more : state_by w s b (suc k) ≡ state_after 1 w s (state_by w s b k)
  one_more =
      let e : suc k ≡ k + 1 = omega arith in
      ap (state_by w s b) e ∙ sym (after_after w s k 1 (starting_at 0 (vectors_in w b)))

  -- from the offset and the vectors that were reached
  module _ {offset : ℕ} (state : List ℕ) (eo : offset ≡ (state_by w s b k).offset) (ev : vectors_in w state ≡ (state_by w s b k).vectors) where
    from_here : (A : Type 0) (f : ℕ → List (List ℕ) → A) →
        f (state_by w s b (suc k)).offset (state_by w s b (suc k)).vectors
        ≡ f (state_after 1 w s (starting_at offset (vectors_in w state))).offset (state_after 1 w s (starting_at offset (vectors_in w state))).vectors
    from_here A f =
        ap (λ (p : RunState). f p.offset p.vectors) (one_more ∙ after_from w s 1 (state_by w s b k))
        ∙ ap₂ {C = A} (λ o v. f (state_after 1 w s (starting_at o v)).offset (state_after 1 w s (starting_at o v)).vectors) (sym eo) (sym ev)

    next_offset : {next : ℕ} → next ≡ (state_after 1 w s (starting_at offset (vectors_in w state))).offset → next ≡ (state_by w s b (suc k)).offset
    next_offset e = e ∙ sym (from_here ℕ (λ o v. o))

    next_vectors : {v : List (List ℕ)} → v ≡ (state_after 1 w s (starting_at offset (vectors_in w state))).vectors → v ≡ (state_by w s b (suc k)).vectors
    next_vectors e = e ∙ sym (from_here (List (List ℕ)) (λ o v. v))

-- ---- the loop

-- `count` records hold, `number` is that of the next and `from` its offset; the state is that after as many commands, in bytes
pub record Replayed (w : ℕ) (s b r : List ℕ) (size number offset from : ℕ) (state : List ℕ) : Type 0 where
  pub known : known_width w ≡ true
  pub record_size : size ≡ record_length w
  pub whole : record_count w r * record_length w ≡ length r
  pub count : ℕ
  pub within : count ≤ record_count w r
  pub numbered : number ≡ suc count
  pub at_record : from ≡ count * record_length w
  pub bytes : length state ≡ record_length w
  pub offset_is : offset ≡ (state_by w s b count).offset
  pub vectors_are : vectors_in w state ≡ (state_by w s b count).vectors
  pub rest : first_false (record_count w r - count) w s b r count ≡ first_false (record_count w r) w s b r 0

pub begin : (w : ℕ) (s b r : List ℕ) → known_width w ≡ true → length b ≡ record_length w → length r % record_length w ≡ 0
    → Replayed w s b r (length b) 1 0 0 b
begin w s b r k l h =
    let z : record_count w r - 0 ≡ record_count w r = omega arith in
    record {
      known = k;
      record_size = l;
      whole = records_whole (record_length w) r h;
      count = 0;
      within = omega arith;
      numbered = refl;
      at_record = sym (zero-mul (record_length w));
      bytes = l;
      offset_is = refl;
      vectors_are = refl;
      rest = ap (λ (n : ℕ). first_false n w s b r 0) z;
    }

module _ {w : ℕ} {s b r : List ℕ} {size number offset from : ℕ} {state : List ℕ} (c : Replayed w s b r size number offset from state) where
  abbrev k : ℕ
  k = c.count

  pub some_bytes : 0 < record_length w
  some_bytes = (sized w c.known).some

  -- none are left
  module _ (h : length r ≤ from) where
    all : record_count w r ≤ k
    all = no_fewer k (record_count w r) (record_length w) some_bytes (omega (arith, c.whole, c.at_record)) (dec_le (record_count w r) k)

    pub holds_all : (Ok None) ≡ first_false (record_count w r) w s b r 0
    holds_all =
        let none : record_count w r - k ≡ 0 = omega (arith, all) in
        ap (λ (n : ℕ). first_false n w s b r k) (sym none) ∙ c.rest

    pub all_done : vectors_in w state ≡ (state_by w s b (record_count w r)).vectors
    all_done =
        let e : k ≡ record_count w r = omega (arith, all, c.within) in
        c.vectors_are ∙ ap (λ (n : ℕ). (state_by w s b n).vectors) e

  -- one is left

  module _ (h : from < length r) where
    one_left : k < record_count w r
    one_left = fewer k (record_count w r) (record_length w) (omega (arith, c.whole, c.at_record)) (dec_le (record_count w r) k)

    -- its bytes, and its number
    pub room : from + record_length w ≤ length r
    room =
        omega (arith, c.whole, c.at_record, suc-mul k (record_length w), mul-le-mul_right {m = suc k} {n = record_count w r} (record_length w) (omega (arith, one_left)))

    pub few : number ≤ length r
    few = omega (arith, c.numbered, one_left, div-le_self (length r) (record_length w))

    -- code did one command more, which left the bytes `last`
    module _ {next : ℕ} (last : List ℕ) (eo : next ≡ (state_after 1 w s (starting_at offset (vectors_in w state))).offset)
        (ev : vectors_in w last ≡ (state_after 1 w s (starting_at offset (vectors_in w state))).vectors) where
      expected : record_at w last 0 ≡ replayed w s b k
      expected =
          sym (record_vectors w (bytewise w c.known) last 0) ∙ ap words_in_order (next_vectors w s b k state c.offset_is c.vectors_are ev)

      pub one_done : vectors_in w last ≡ (state_by w s b number).vectors
      one_done = next_vectors w s b k state c.offset_is c.vectors_are ev ∙ ap (λ (n : ℕ). (state_by w s b n).vectors) (sym c.numbered)

      found : record_at w r from ≡ recorded w r k
      found = ap (record_at w r) c.at_record

      -- .. and held the record against them
      module _ {t : Bool} (et : t ≡ same_words (record_at w r from) (record_at w last 0)) where
        test : t ≡ same_words (recorded w r k) (replayed w s b k)
        test = et ∙ ap₂ {C = Bool} same_words found expected

        abbrev now : Finding
        now = difference (state_by w s b k).offset (recorded w r k) (replayed w s b k)

        -- the answer by the test of this record
        by_test : cond t (first_false (record_count w r - suc k) w s b r (suc k)) (Ok (Some (false_record (suc k) now))) ≡ first_false (record_count w r) w s b r 0
        by_test =
            let one : record_count w r - k ≡ suc (record_count w r - suc k) = omega (arith, one_left) in
            ap (λ (t : Bool). cond t (first_false (record_count w r - suc k) w s b r (suc k)) (Ok (Some (false_record (suc k) now)))) test
            ∙ ap (λ (n : ℕ). first_false n w s b r k) (sym one) ∙ c.rest

        pub found_false : t ≡ false → {f : Finding}
            → f ≡ difference offset (record_at w r from) (record_at w last 0)
            → Ok (Some (false_record number f)) ≡ first_false (record_count w r) w s b r 0
        found_false u ef =
            ap₂ {C = ReplayAnswer} (λ n f. Ok (Some (false_record n f))) c.numbered
            (ef ∙ ap (λ (o : ℕ). difference o (record_at w r from) (record_at w last 0)) c.offset_is
            ∙ ap₂ {C = Finding} (difference (state_by w s b k).offset) found expected)
            ∙ ap (λ (t : Bool). cond t (first_false (record_count w r - suc k) w s b r (suc k)) (Ok (Some (false_record (suc k) now)))) (sym u)
            ∙ by_test

        pub goes_on : t ≡ true → length last ≡ length state → Replayed w s b r size (number + 1) next (from + size) last
        goes_on u l =
            record {
              known = c.known;
              record_size = c.record_size;
              whole = c.whole;
              count = suc k;
              within = omega (arith, one_left);
              numbered = omega (arith, c.numbered);
              at_record = omega (arith, c.at_record, c.record_size, suc-mul k (record_length w));
              bytes = l ∙ c.bytes;
              offset_is = next_offset w s b k state c.offset_is c.vectors_are eo;
              vectors_are = next_vectors w s b k state c.offset_is c.vectors_are ev;
              rest =
                  ap (λ (t : Bool). cond t (first_false (record_count w r - suc k) w s b r (suc k)) (Ok (Some (false_record (suc k) now)))) (sym u)
                  ∙ by_test;
            }
