-- What a replay's answer says of its records.
use Rattle.std.specs.Prelude.{Ok, Err, Some, None}
use mathlib.Core.Path.{◌≡◌, refl, sym, ap, ap₂, subst, ◌∙◌}
use mathlib.Core.Bool.{Bool, true, false, cond, true≢false, false≢true}
use mathlib.Core.List.{List, [], ◌∷◌, ◌++◌}
use Prim.Native.Nat.{ℕ, zero, suc, ◌+◌, ◌*◌, ◌/◌, ◌%◌, ◌^◌, ◌-◌, ◌≤◌, ◌<◌}
use native.Mathlib.Nat.{zero-mul, suc-mul, mul-le-mul_right, zero-add, add-zero, suc-add, mul-div_cancel, mul-mod_left}
use native.Mathlib.Decide.{ℕ_discrete}
use native.Mathlib.Omega.{arith}
use borrow.Author.Tests.{eq-eqb, eqb-true, eqb-false, leb-true}
use lib.Dec.{eqb, leb}
use lib.ListN.{length, get_or, take, drop, length-append, get_or-append}
use lib.Seq.{take_all, take_at, drop-append-add, get_or-append-add}
use Rattle.answer.specs.Answer.{Answer, refused_at}
use Rattle.answer.specs.declared.Refusal.TheVariants.{Records, RecordCount}
use Rattle.answer.specs.Refuse.{unless, is_done}
use Rattle.answer.proofs.Refuse.{done_outcome, unless_done}
use Rattle.answer.proofs.Tests.{split}
use Rattle.memory.specs.Bytes.{Bytes}
use Rattle.memory.proofs.Bytes.{no_bytes, append_bytes}
use Rattle.quasigroup.proofs.Widths.{Bytewise, bytewise}
use Rattle.sheet.specs.Read.{place_count}
use Rattle.sheet.specs.Sheet.{Sound, plan_of, command_count}
use Rattle.sheet.specs.Effect.{at}
use Rattle.sheet.specs.SheetAnswer.{sheet_answer}
use Rattle.sheet.specs.Run.{vectors_in, vector_bytes, run_answer}
use Rattle.sheet.proofs.Lent.{State, state_from, state_length, vectors_bytes, bytes_of_vectors}
use Rattle.sheet.proofs.SheetAnswer.{passes, done_passed}
use Rattle.sheet.proofs.FromStart.{state_after_lem, offset_by, vectors_by, end_vectors}
use Rattle.shuffle.specs.Shuffle.{record_length, record_words}
use Rattle.shuffle.proofs.Widths.{sized, records_within}
use Rattle.replay.specs.declared.Finding.{Finding}
use Rattle.replay.specs.ReplayAnswer.{ReplayAnswer, false_record}
use Rattle.replay.specs.Difference.{words_in_order, record_at, agreeing, same_words, difference}
use Rattle.replay.specs.Replay.{state_by, recorded, replayed, first_false, record_count, record_tests, replay_tests, answered, is_refused}
use Rattle.replay.specs.Findings.{record_bytes, record_word, state_bytes, state_word, IsTrue, AllTrue, Named, Says}
use Rattle.replay.specs.Findings.{ReplaysFind, RecordsApart, recording_from, RecordingsHold, StatesAreRuns}
use Rattle.replay.proofs.Agreeing.{at_most, same_before, differs_at, agree_self, agree_all}
use Rattle.replay.proofs.Refusals.{replays_refuse}
use Rattle.replay.proofs.Words.{record_below, record_length_lem, record_vectors, same_records, same_bytes}

-- ---- a word by its place and number

in_order : (v : List (List ℕ)) → ((i : ℕ) → i < length v → length (at v i) ≡ 8) → (p n : ℕ) → p < length v → n < 8
    → get_or (words_in_order v) (p * 8 + n) 0 ≡ get_or (at v p) n 0
in_order [] h p n hp hn = absurd (omega arith)
in_order (x ∷ v) h zero n hp hn =
    let e : 0 * 8 + n ≡ n = omega arith in
    ap (λ (i : ℕ). get_or (x ++ words_in_order v) i 0) e ∙ get_or-append x (words_in_order v) 0 n (omega (arith, h 0 (omega arith)))
in_order (x ∷ v) h (suc p) n hp hn =
    let e : suc p * 8 + n ≡ length x + (p * 8 + n) = omega (arith, h 0 (omega arith)) in
    ap (λ (i : ℕ). get_or (x ++ words_in_order v) i 0) e ∙ get_or-append-add x (words_in_order v) (p * 8 + n) 0
    ∙ in_order v (λ i l. h (suc i) (omega (arith, l))) p n (omega arith) hn

word_in_order : {w : ℕ} {v : List (List ℕ)} → State place_count w v → (p n : ℕ) → p < 8 → n < 8 → get_or (words_in_order v) (p * 8 + n) 0 ≡ get_or (at v p) n 0
word_in_order {v = v} st p n hp hn = in_order v (λ i l. (st.each i (omega (arith, l, st.size))).size) p n (omega (arith, st.size)) hn

-- ---- one record

module _ (w : ℕ) (hw : Bytewise w) (s : List ℕ) (hs : Bytes s) (b : List ℕ) (hb : Bytes b) (j : ℕ) where
  abbrev v : List (List ℕ)
  v = (state_by w s b (suc j)).vectors

  state : State place_count w v
  state = state_after_lem w hw s hs b hb 0 (suc j)

  replayed_record : replayed w s b j ≡ record_at w (state_bytes w s b j) 0
  replayed_record = ap words_in_order (sym (vectors_bytes w hw v state)) ∙ record_vectors w hw (state_bytes w s b j) 0

  state_size : length (state_bytes w s b j) ≡ record_length w
  state_size = state_length w hw v state

  state_whole : take (record_length w) (state_bytes w s b j) ≡ state_bytes w s b j
  state_whole = take_all (record_length w) (state_bytes w s b j) (omega (arith, state_size))

  replayed_length : length (replayed w s b j) ≡ record_words
  replayed_length = ap length replayed_record ∙ record_length_lem w (state_bytes w s b j) 0

  module _ (r : List ℕ) where
    abbrev x : List ℕ
    x = recorded w r j

    abbrev y : List ℕ
    y = replayed w s b j

    x_length : length x ≡ record_words
    x_length = record_length_lem w r (j * record_length w)

    same_length : length x ≡ length y
    same_length = x_length ∙ sym replayed_length

    true_holds : IsTrue w s b r j → same_words x y ≡ true
    true_holds e =
        let same : x ≡ y = same_records w hw r (j * record_length w) (state_bytes w s b j) 0 (e ∙ sym state_whole) ∙ sym replayed_record in
        eq-eqb (agreeing x y) record_words (ap (agreeing x) (sym same) ∙ agree_self x ∙ x_length)

    module _ (hr : Bytes r) (h : j < record_count w r) where
      within : j * record_length w + record_length w ≤ length r
      within =
          let most = mul-le-mul_right {m = suc j} {n = record_count w r} (record_length w) (omega (arith, h)) in
          omega (arith, records_within (record_length w) r, suc-mul j (record_length w), most)

      holds_true : same_words x y ≡ true → IsTrue w s b r j
      holds_true t =
          let same : x ≡ y = agree_all x y same_length (eqb-true (agreeing x y) record_words t ∙ sym x_length) in
          same_bytes w hw r (j * record_length w) (state_bytes w s b j) 0 hr (bytes_of_vectors w hw v) within (omega (arith, state_size)) (same ∙ replayed_record)
          ∙ state_whole

      recorded_word : (p n : ℕ) → p < 8 → n < 8 → get_or x (p * 8 + n) 0 ≡ record_word w r j p n
      recorded_word p n hp hn =
          ap (λ (l : List ℕ). get_or l (p * 8 + n) 0) (sym (record_vectors w hw r (j * record_length w)))
          ∙ word_in_order (state_from w hw r hr place_count (j * record_length w)) p n hp hn

      replayed_word : (p n : ℕ) → p < 8 → n < 8 → get_or y (p * 8 + n) 0 ≡ state_word w s b j p n
      replayed_word = word_in_order state

      -- the first word that differs
      module _ (f : same_words x y ≡ false) where
        abbrev i : ℕ
        i = agreeing x y

        i_below : i < 64
        i_below = let ne : i ≡ 64 → ⊥ = eqb-false i record_words f in omega (arith, ne, at_most x y, x_length)

        parts : i ≡ i / 8 * 8 + i % 8
        parts = omega arith

        same_at : (p n : ℕ) → p < 8 → n < 8 → p * 8 + n < i → record_word w r j p n ≡ state_word w s b j p n
        same_at p n hp hn l = sym (recorded_word p n hp hn) ∙ same_before x y (p * 8 + n) l ∙ replayed_word p n hp hn

        named : (plan_of w s).outcome ≡ Sound → j < command_count w s → ((k : ℕ) → k < j → IsTrue w s b r k)
            → Named w s b r j (difference (state_by w s b j).offset x y)
        named sound command before =
            let p : i / 8 < 8 = omega (arith, i_below) in
            let n : i % 8 < 8 = omega arith in
            record {
              within = h;
              not-true = λ e. true≢false (sym (true_holds e) ∙ f);
              before = before;
              command = command;
              offset = offset_by w s (vectors_in w b) sound j;
              place = p;
              word = n;
              found = ap (λ (k : ℕ). get_or x k 0) parts ∙ recorded_word (i / 8) (i % 8) p n;
              expected = ap (λ (k : ℕ). get_or y k 0) parts ∙ replayed_word (i / 8) (i % 8) p n;
              found_bits = record_below w hw r hr (j * record_length w) i;
              expected_bits =
                  subst (λ (l : List ℕ). get_or l i 0 < 2 ^ w) (sym replayed_record)
                  (record_below w hw (state_bytes w s b j) (bytes_of_vectors w hw v) 0 i);
              differ = differs_at x y same_length (omega (arith, i_below, x_length));
              places_before = λ q m hq hm. same_at q m (omega (arith, hq, p)) hm (omega (arith, hq, hm));
              words_before = λ m hm. same_at (i / 8) m p (omega (arith, hm, n)) (omega (arith, hm));
            }

-- ---- all of them

module _ (w : ℕ) (hw : Bytewise w) (s : List ℕ) (hs : Bytes s) (b : List ℕ) (hb : Bytes b) (r : List ℕ) where
  -- what is told of a record that does not hold
  abbrev told : ℕ → Finding
  told k = difference (state_by w s b k).offset (recorded w r k) (replayed w s b k)

  -- up to k and one more
  up_to : (k : ℕ) → ((i : ℕ) → i < k → IsTrue w s b r i) → IsTrue w s b r k → (i : ℕ) → i < suc k → Dec (i ≡ k) → IsTrue w s b r i
  up_to k h e i l (yes p) = subst (IsTrue w s b r) (sym p) e
  up_to k h e i l (no q) = h i (omega (arith, q))

  says_from : Bytes r → (plan_of w s).outcome ≡ Sound → record_count w r ≤ command_count w s → (n k : ℕ) → k + n ≡ record_count w r
      → ((i : ℕ) → i < k → IsTrue w s b r i) → Says w s b r (first_false n w s b r k)
  says_from hr sound few zero k e h = λ j l. h j (omega (arith, l))
  says_from hr sound few (suc n) k e h =
      let l : k < record_count w r = omega arith in
      split (Says w s b r) (same_words (recorded w r k) (replayed w s b k)) _ _
      (λ t.
      let now = holds_true w hw s hs b hb k r hr l t in
      says_from hr sound few n (suc k) (omega arith) (λ i m. up_to k h now i m (ℕ_discrete i k)))
      (λ f. (k, refl, named w hw s hs b hb k r hr l f sound (omega (arith, l, few)) h))

  holds_from : AllTrue w s b r → (n k : ℕ) → k + n ≡ record_count w r → first_false n w s b r k ≡ Ok None
  holds_from h zero k e = refl
  holds_from h (suc n) k e =
      ap (λ (t : Bool). cond t (first_false n w s b r (suc k)) (Ok (Some (false_record (suc k) (told k))))) (true_holds w hw s hs b hb k r (h k (omega arith)))
      ∙ holds_from h n (suc k) (omega arith)

  -- k records from the one with m before it hold
  skip : (k m n : ℕ) → ((i : ℕ) → i < m + k → IsTrue w s b r i) → first_false (k + n) w s b r m ≡ first_false n w s b r (m + k)
  skip zero m n h = ap₂ {C = ReplayAnswer} (λ n m. first_false n w s b r m) (zero-add n) (sym (add-zero m))
  skip (suc k) m n h =
      let e : suc m + k ≡ m + suc k = omega arith in
      ap (λ (n : ℕ). first_false n w s b r m) (suc-add k n)
      ∙ ap (λ (t : Bool). cond t (first_false (k + n) w s b r (suc m)) (Ok (Some (false_record (suc m) (told m))))) (true_holds w hw s hs b hb m r (h m (omega arith)))
      ∙ skip k (suc m) n (λ i l. h i (omega (arith, l))) ∙ ap (first_false n w s b r) e

-- the same records from some number on
alike : (w : ℕ) (s b r q : List ℕ) (n k : ℕ) → ((i : ℕ) → k ≤ i → recorded w q i ≡ recorded w r i) → first_false n w s b q k ≡ first_false n w s b r k
alike w s b r q zero k h = refl
alike w s b r q (suc n) k h =
    let e = h k (omega arith) in
    ap₂ {C = ReplayAnswer} (λ x rest. cond (same_words x (replayed w s b k)) rest
    (Ok (Some (false_record (suc k) (difference (state_by w s b k).offset x (replayed w s b k)))))) e
    (alike w s b r q n (suc k) (λ i l. h i (omega (arith, l))))

-- ---- behind the tests

module _ (w : ℕ) (s b r : List ℕ) (t : is_done (replay_tests w s b r) ≡ true) where
  known : Bytewise w
  known = bytewise w (done_passed place_count w _ s _ t).width

  sound : (plan_of w s).outcome ≡ Sound
  sound = (done_passed place_count w _ s _ t).sheet

  enough : record_count w r ≤ command_count w s
  enough =
      let whole = eqb (length r % record_length w) 0 in
      let few = leb (record_count w r) (command_count w s) in
      let tests = passes place_count w _ s (record_tests w (length r) (command_count w s)) (done_passed place_count w _ s _ t) in
      let rest = (unless_done whole Records (unless few RecordCount (Ok 0)) (ap is_done tests ∙ t)).1 in
      leb-true (record_count w r) (command_count w s) (unless_done few RecordCount (Ok 0) rest).0

done_answer : (a : Answer) (x : ReplayAnswer) → is_done a ≡ true → answered a x ≡ x
done_answer (Ok n) x e = refl
done_answer (Err err) x e = absurd (false≢true e)

says_by : (w : ℕ) (s b r : List ℕ) → Bytes s → Bytes b → Bytes r → (a : Answer) → replay_tests w s b r ≡ a
    → Says w s b r (answered a (first_false (record_count w r) w s b r 0))
says_by w s b r hs hb hr (Err err) e = e
says_by w s b r hs hb hr (Ok n) e =
    let t = ap is_done e in
    says_from w (known w s b r t) s hs b hb r hr (sound w s b r t) (enough w s b r t) (record_count w r) 0 (zero-add (record_count w r))
    (λ i l. absurd (omega (arith, l)))

tests_done : (a : Answer) (x : ReplayAnswer) → is_refused (answered a x) ≡ false → is_done a ≡ true
tests_done (Ok n) x e = refl
tests_done (Err err) x e = absurd (true≢false e)

pub replays_find : ReplaysFind
replays_find w s b r hs hb hr =
    record {
      says = says_by w s b r hs hb hr (replay_tests w s b r) refl;
      holds_if = λ e h.
          let t = tests_done (replay_tests w s b r) (first_false (record_count w r) w s b r 0) e in
          done_answer (replay_tests w s b r) (first_false (record_count w r) w s b r 0) t
          ∙ holds_from w (known w s b r t) s hs b hb r h (record_count w r) 0 (zero-add (record_count w r));
    }

-- ---- a false record by itself

not_refused : (a : Answer) (x : ReplayAnswer) (n : ℕ) (f : Finding) → answered a x ≡ Ok (Some (false_record n f)) → is_done a ≡ true
not_refused (Ok m) x n f e = refl
not_refused (Err err) x n f e = let z : ◌≡◌ {A = ℕ} 0 1 = cc in absurd (omega arith)

the_named : (w : ℕ) (s b r : List ℕ) (j : ℕ) (f : Finding) → Says w s b r (Ok (Some (false_record (suc j) f))) → Named w s b r j f
the_named w s b r j f h = let e : h.0 ≡ j = omega (arith, h.1) in subst (λ (i : ℕ). Named w s b r i f) e h.2

pub records_apart : RecordsApart
records_apart w s b r q j f hs hb hr e l same now =
    let first = first_false (record_count w r) w s b r 0 in
    let t = not_refused (replay_tests w s b r) first (suc j) f e in
    let hw = known w s b r t in
    let named = the_named w s b r j f (subst (Says w s b r) e (replays_find w s b r hs hb hr).says) in
    let n = record_count w r - suc j in
    let count : record_count w q ≡ suc j + n = ap (λ (m : ℕ). m / record_length w) l ∙ omega (arith, named.within) in
    let start : 0 + suc j ≡ suc j = omega arith in
    let before : (i : ℕ) → i < 0 + suc j → IsTrue w s b q i = λ i h.
    up_to w hw s hs b hb q j (λ i h. same i (λ p. omega (arith, p, h)) ∙ named.before i h) now i (omega (arith, h)) (ℕ_discrete i j) in
    let rows : (i : ℕ) → suc j ≤ i → recorded w q i ≡ recorded w r i = λ i h.
    same_records w hw q (i * record_length w) r (i * record_length w) (same i (λ p. omega (arith, p, h))) in
    done_answer (replay_tests w s b q) (first_false (record_count w q) w s b q 0)
    (ap (λ (m : ℕ). is_done (sheet_answer w (eqb (length b) (place_count * w)) s (record_tests w m (command_count w s)))) l ∙ t)
    ∙ ap (λ (m : ℕ). first_false m w s b q 0) count
    ∙ skip w hw s hs b hb q (suc j) 0 n before
    ∙ ap (first_false n w s b q) start
    ∙ alike w s b r q n (suc j) rows

-- ---- the records that the run itself leaves

module _ (w : ℕ) (hw : Bytewise w) (s : List ℕ) (hs : Bytes s) (b : List ℕ) (hb : Bytes b) where
  recording_length : (n k : ℕ) → length (recording_from n w s b k) ≡ n * record_length w
  recording_length zero k = sym (zero-mul (record_length w))
  recording_length (suc n) k =
      length-append (state_bytes w s b k) (recording_from n w s b (suc k))
      ∙ ap₂ {C = ℕ} ◌+◌ (state_size w hw s hs b hb k) (recording_length n (suc k)) ∙ omega (arith, suc-mul n (record_length w))

  recording_bytes : (n k : ℕ) → Bytes (recording_from n w s b k)
  recording_bytes zero k = no_bytes
  recording_bytes (suc n) k =
      append_bytes (state_bytes w s b k) (recording_from n w s b (suc k)) (bytes_of_vectors w hw (state_by w s b (suc k)).vectors) (recording_bytes n (suc k))

  recording_at : (n k j : ℕ) → j < n → record_bytes w (recording_from n w s b k) j ≡ state_bytes w s b (k + j)
  recording_at zero k j h = absurd (omega arith)
  recording_at (suc n) k zero h =
      let first = state_bytes w s b k in
      let rest = recording_from n w s b (suc k) in
      ap (λ (m : ℕ). take (record_length w) (drop m (first ++ rest))) (zero-mul (record_length w))
      ∙ take_at first rest (record_length w) (state_size w hw s hs b hb k) ∙ ap (state_bytes w s b) (sym (add-zero k))
  recording_at (suc n) k (suc j) h =
      let first = state_bytes w s b k in
      let rest = recording_from n w s b (suc k) in
      let m : suc j * record_length w ≡ length first + j * record_length w = omega (arith, suc-mul j (record_length w), state_size w hw s hs b hb k) in
      let e : suc k + j ≡ k + suc j = omega arith in
      ap (λ (m : ℕ). take (record_length w) (drop m (first ++ rest))) m
      ∙ ap (take (record_length w)) (drop-append-add first rest (j * record_length w))
      ∙ recording_at n (suc k) j (omega arith) ∙ ap (state_bytes w s b) e

pub recordings_hold : RecordingsHold
recordings_hold w s b n hs hb t l =
    let k = (done_passed place_count w _ s _ t).width in
    let hw = bytewise w k in
    let r = recording_from n w s b 0 in
    let size = recording_length w hw s hs b hb n 0 in
    let some = (sized w k).some in
    let count : record_count w r ≡ n = ap (λ (m : ℕ). m / record_length w) size ∙ mul-div_cancel n some in
    let whole : length r % record_length w ≡ 0 = ap (λ (m : ℕ). m % record_length w) size ∙ mul-mod_left n (record_length w) in
    (replays_find w s b r hs hb (recording_bytes w hw s hs b hb n 0)).holds_if
    ((replays_refuse w s b r).others t whole (omega (arith, count, l)))
    (λ j h. recording_at w hw s hs b hb n 0 j (omega (arith, count, h)) ∙ ap (state_bytes w s b) (zero-add j))

-- ---- the states

pub states_are_runs : StatesAreRuns
states_are_runs w s b t =
    let p = done_passed place_count w _ s _ t in
    record {
      some = vectors_by w s (vectors_in w b) p.sheet;
      all =
          ap (vector_bytes w) (end_vectors w s (vectors_in w b) p.sheet (command_count w s) (omega arith))
          ∙ done_outcome (run_answer w s b) _ b t;
    }
