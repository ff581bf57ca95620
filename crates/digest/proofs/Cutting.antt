-- Every way of cutting a message: the theorem of specs/Cutting.antt, for every kind, and so for the narrow and the wide one and for the one call.
use Rattle.std.specs.Prelude.{Ok}
use mathlib.Core.Path.{◌≡◌, refl, ap, sym, ◌∙◌}
use mathlib.Core.Bool.{Bool, true, false, cond}
use mathlib.Core.List.{List, [], ◌∷◌, ◌++◌}
use Prim.Native.Nat.{ℕ, ◌+◌, ◌/◌, ◌≤◌, ◌<◌}
use native.Mathlib.Decide.{dec_le}
use native.Mathlib.Omega.{arith}
use borrow.Author.Tests.{le-leb, lt-leb}
use lib.Dec.{lit≤}
use lib.ListN.{length, drop, length-append}
use Rattle.answer.specs.Answer.{Answer, refused_at}
use Rattle.answer.specs.declared.Refusal.{Refusal}
use Rattle.answer.specs.declared.Refusal.TheVariants.{Size, State, Length}
use Rattle.answer.specs.Refuse.{unless, outcome}
use Rattle.digest.specs.Refusals.{limit}
use Rattle.digest.specs.Kind.{Kind, known_size, narrow_kind, wide_kind}
use Rattle.digest.specs.State.{Hash, formed, opened, zeros, open_answer, open_state, advanced, feed_answer, feed_state, feed_all}
use Rattle.digest.specs.State.{finished, finish_answer, finish_out}
use Rattle.digest.specs.OneCall.{digest_of, digest_answer, digest_out}
use Rattle.digest.specs.Waiting.{Held, Clean}
use Rattle.digest.specs.Cutting.{concatenated, Written, finishes, fed_and, opened_and, in_pieces, accepted, Cutting, CuttingOneCall}
use Rattle.digest.specs.Cutting.{Call, feed, finish, finish_bits, pieces, after_calls}
use Rattle.answer.proofs.Tests.{decide}
use Rattle.digest.proofs.Feeding.{held, clean, held_opened, clean_opened, feed_done, feed_state_lem, feed_length, left_done, formed_total, formed_advanced}
use Rattle.digest.proofs.Feeding.{advanced_size, advanced_total, advanced_twice, advanced_nothing}
use Rattle.digest.proofs.Opened.{open_done, formed_opened, finished_is}

module _ (k : Kind) (pos : 0 < k.block) where
  -- ---- any pieces are the concatenated piece, whatever a finishing is, if only it refuses a state that is not in form
  module _ (finish : Hash → Written) (out : List ℕ)
      (unformed : (h : Hash) → formed k h ≡ false → finish h ≡ record { answer = refused_at State 0; out = out }) where
    abbrev one : Hash → List ℕ → Written
    one h s = fed_and k finish h (s ∷ []) out

    -- a feeding that is refused ends it, whatever would follow
    stops : (h : Hash) (s : List ℕ) (ss : List (List ℕ)) {r : Refusal} → feed_answer k h s ≡ refused_at r 0
        → fed_and k finish h (s ∷ ss) out ≡ record { answer = refused_at r 0; out = out }
    stops h s ss e = ap (λ (b : Answer). outcome b (fed_and k finish (feed_state k h s) ss out) (record { answer = b; out = out })) e

    goes : (h : Hash) (s : List ℕ) (ss : List (List ℕ)) → formed k h ≡ true → h.total + length s ≤ limit
        → fed_and k finish h (s ∷ ss) out ≡ fed_and k finish (advanced k h s) ss out
    goes h s ss f l =
        let d = feed_done k pos h s f l in
        ap (λ (b : Answer). outcome b (fed_and k finish (feed_state k h s) ss out) (record { answer = b; out = out })) d
        ∙ ap (λ (x : Hash). fed_and k finish x ss out) (left_done k pos h s d)

    refused_state : (h : Hash) (s : List ℕ) (ss : List (List ℕ)) → formed k h ≡ false
        → fed_and k finish h (s ∷ ss) out ≡ record { answer = refused_at State 0; out = out }
    refused_state h s ss f = stops h s ss (feed_state_lem k pos h s f)

    refused_length : (h : Hash) (s : List ℕ) (ss : List (List ℕ)) → formed k h ≡ true → limit < h.total + length s
        → fed_and k finish h (s ∷ ss) out ≡ record { answer = refused_at Length 0; out = out }
    refused_length h s ss f l = stops h s ss (feed_length k pos h s f l)

    joined_twice : (h : Hash) (s t : List ℕ) → Held k h → formed k h ≡ true → h.total + length s ≤ limit → one (advanced k h s) t ≡ one h (s ++ t)
    joined_twice h s t e f l = decided (dec_le (h.total + length (s ++ t)) limit)
      where
        f' : formed k (advanced k h s) ≡ true
        f' = formed_advanced k pos h s f l

        decided : Dec (h.total + length (s ++ t) ≤ limit) → one (advanced k h s) t ≡ one h (s ++ t)
        decided (yes y) =
            let m : (advanced k h s).total + length t ≤ limit = omega (arith, length-append s t, advanced_total k pos h s) in
            goes (advanced k h s) t [] f' m ∙ ap finish (advanced_twice k pos h s t e) ∙ sym (goes h (s ++ t) [] f y)
        decided (no y) =
            let m : limit < (advanced k h s).total + length t = omega (arith, length-append s t, advanced_total k pos h s) in
            refused_length (advanced k h s) t [] f' m ∙ sym (refused_length h (s ++ t) [] f (omega arith))

    all_joined : (ss : List (List ℕ)) (h : Hash) → Held k h → Clean k h → fed_and k finish h ss out ≡ one h (concatenated ss)
    all_joined [] h e c = decide (formed k h) formed_yes formed_no
      where
        formed_yes : formed k h ≡ true → finish h ≡ one h []
        formed_yes f =
            let t = formed_total k pos h f in
            ap finish (sym (advanced_nothing k pos h e c)) ∙ sym (goes h [] [] f (omega arith))

        formed_no : formed k h ≡ false → finish h ≡ one h []
        formed_no f = unformed h f ∙ sym (refused_state h [] [] f)
    all_joined (s ∷ ss) h e c =
        let next = all_joined ss (advanced k h s) (held k pos h s e) (clean k pos h s e) in
        decide (formed k h) (λ f. decided f next (dec_le (h.total + length s) limit)) formed_no
      where
        formed_no : formed k h ≡ false → fed_and k finish h (s ∷ ss) out ≡ one h (s ++ concatenated ss)
        formed_no f = refused_state h s ss f ∙ sym (refused_state h (s ++ concatenated ss) [] f)

        decided : formed k h ≡ true → fed_and k finish (advanced k h s) ss out ≡ one (advanced k h s) (concatenated ss) → Dec (h.total + length s ≤ limit)
            → fed_and k finish h (s ∷ ss) out ≡ one h (s ++ concatenated ss)
        decided f i (yes l) = goes h s ss f l ∙ i ∙ joined_twice h s (concatenated ss) e f l
        decided f i (no l) =
            let m : limit < h.total + length (s ++ concatenated ss) = omega (arith, length-append s (concatenated ss)) in
            refused_length h s ss f (omega arith) ∙ sym (refused_length h (s ++ concatenated ss) [] f m)

    -- opening, feeding and finishing is w, if w is what each of the three ways gives
    pub opened_joined : (n : ℕ) (ss : List (List ℕ)) (w : Written)
        → (known_size k n ≡ false → record { answer = refused_at Size 0; out = out } ≡ w)
        → (known_size k n ≡ true → limit < length (concatenated ss) → record { answer = refused_at Length 0; out = out } ≡ w)
        → (known_size k n ≡ true → length (concatenated ss) ≤ limit → finish (advanced k (opened k n) (concatenated ss)) ≡ w)
        → opened_and k finish n ss out ≡ w
    opened_joined n ss w none long fed = decide (known_size k n) (λ kn. opened_yes kn (dec_le (length (concatenated ss)) limit)) opened_no
      where
        opened_no : known_size k n ≡ false → opened_and k finish n ss out ≡ w
        opened_no e =
            let a : open_answer k n ≡ refused_at Size 0 = rw e in
            ap (λ (b : Answer). outcome b (fed_and k finish (open_state k n) ss out) (record { answer = b; out = out })) a ∙ none e

        opened_is : known_size k n ≡ true → opened_and k finish n ss out ≡ one (opened k n) (concatenated ss)
        opened_is kn =
            let a : open_answer k n ≡ Ok 0 = rw kn in
            ap (λ (b : Answer). outcome b (fed_and k finish (open_state k n) ss out) (record { answer = b; out = out })) a
            ∙ ap (λ (x : Hash). fed_and k finish x ss out) (open_done k pos n kn) ∙ all_joined ss (opened k n) (held_opened k pos n) (clean_opened k pos n)

        opened_yes : known_size k n ≡ true → Dec (length (concatenated ss) ≤ limit) → opened_and k finish n ss out ≡ w
        opened_yes kn (yes l) =
            opened_is kn ∙ goes (opened k n) (concatenated ss) [] (formed_opened k pos n kn) (omega arith) ∙ fed kn l
        opened_yes kn (no l) =
            opened_is kn ∙ refused_length (opened k n) (concatenated ss) [] (formed_opened k pos n kn) (omega arith) ∙ long kn (omega arith)

  -- ---- the digest in one call

  abbrev called : ℕ → List ℕ → List ℕ → Written
  called n m out = record { answer = digest_answer k n m out; out = digest_out k n m out }

  refused_call : (n : ℕ) (m out : List ℕ) {r : Refusal} → digest_answer k n m out ≡ refused_at r 0 → record { answer = refused_at r 0; out = out } ≡ called n m out
  refused_call n m out e = ap (λ (b : Answer). record { answer = b; out = outcome b (digest_of k n m ++ drop (n / 8) out) out }) (sym e)

  finishes_unformed : (out : List ℕ) (h : Hash) → formed k h ≡ false → finishes k out h ≡ record { answer = refused_at State 0; out = out }
  finishes_unformed out h f =
      let a : finish_answer k h out ≡ refused_at State 0 = rw f in
      ap (λ (b : Answer). record { answer = b; out = outcome b (finished k h ++ drop (h.size / 8) out) out }) a

  one_call : (n : ℕ) → known_size k n ≡ true → (m : List ℕ) → length m ≤ limit → (out : List ℕ)
      → finishes k out (advanced k (opened k n) m) ≡ called n m out
  one_call n kn m l out =
      let h = advanced k (opened k n) m in
      let f : formed k h ≡ true = formed_advanced k pos (opened k n) m (formed_opened k pos n kn) (omega arith) in
      let z : h.size ≡ n = advanced_size k pos (opened k n) m in
      let a : finish_answer k h out ≡ digest_answer k n m out = rw (kn, le-leb _ _ l, f, z) in
      let d : finished k h ≡ digest_of k n m = finished_is k pos n m in
      λ i. record { answer = a i; out = outcome (a i) (d i ++ drop (z i / 8) out) out }

  pub whole : (n : ℕ) (ss : List (List ℕ)) (out : List ℕ) → in_pieces k n ss out ≡ called n (concatenated ss) out
  whole n ss out =
      let m = concatenated ss in
      opened_joined (finishes k out) out (finishes_unformed out) n ss (called n m out)
      (λ e. refused_call n m out (rw e)) (λ kn l. refused_call n m out (rw (kn, lt-leb _ _ l))) (λ kn l. one_call n kn m l out)

  -- ---- a caller who goes on behind a refusal

  taken : (h : Hash) (s : List ℕ) (ss : List (List ℕ)) → formed k h ≡ true → h.total + length s ≤ limit
      → (accepted k h (s ∷ ss) ≡ s ++ accepted k (advanced k h s) ss) × (feed_all k h (s ∷ ss) ≡ feed_all k (advanced k h s) ss)
  taken h s ss f l =
      let d = feed_done k pos h s f l in
      let e = left_done k pos h s d in (
        ap (λ (b : Answer). outcome b (s ++ accepted k (feed_state k h s) ss) (accepted k h ss)) d ∙ ap (λ (x : Hash). s ++ accepted k x ss) e,
        ap (λ (x : Hash). feed_all k x ss) e,
      )

  passed : (h : Hash) (s : List ℕ) (ss : List (List ℕ)) {r : Refusal} → feed_answer k h s ≡ refused_at r 0
      → (accepted k h (s ∷ ss) ≡ accepted k h ss) × (feed_all k h (s ∷ ss) ≡ feed_all k h ss)
  passed h s ss e = (
    ap (λ (b : Answer). outcome b (s ++ accepted k (feed_state k h s) ss) (accepted k h ss)) e,
    ap (λ (b : Answer). feed_all k (outcome b (advanced k h s) h) ss) e,
  )

  accepted_fits : (ss : List (List ℕ)) (h : Hash) → h.total ≤ limit → h.total + length (accepted k h ss) ≤ limit
  accepted_fits [] h l = omega arith
  accepted_fits (s ∷ ss) h l =
      let next = accepted_fits ss h l in
      decide (formed k h) (λ f. decided f next (accepted_fits ss (advanced k h s)) (dec_le (h.total + length s) limit)) (formed_no next)
    where
      formed_no : h.total + length (accepted k h ss) ≤ limit → formed k h ≡ false → h.total + length (accepted k h (s ∷ ss)) ≤ limit
      formed_no i f = rw (passed h s ss (feed_state_lem k pos h s f)).0 i

      decided : formed k h ≡ true → h.total + length (accepted k h ss) ≤ limit
          → ((advanced k h s).total ≤ limit → (advanced k h s).total + length (accepted k (advanced k h s) ss) ≤ limit)
          → Dec (h.total + length s ≤ limit) → h.total + length (accepted k h (s ∷ ss)) ≤ limit
      decided f i j (yes y) =
          let t = advanced_total k pos h s in
          let l' = j (rw t y) in
          rw ((taken h s ss f y).0, length-append s (accepted k (advanced k h s) ss)) (omega arith)
      decided f i j (no y) = rw (passed h s ss (feed_length k pos h s f (omega arith))).0 i

  all_accepted : (ss : List (List ℕ)) (h : Hash) → Held k h → Clean k h → formed k h ≡ true → feed_all k h ss ≡ advanced k h (accepted k h ss)
  all_accepted [] h e c f = sym (advanced_nothing k pos h e c)
  all_accepted (s ∷ ss) h e c f =
      decided (all_accepted ss h e c f) (all_accepted ss (advanced k h s) (held k pos h s e) (clean k pos h s e)) (dec_le (h.total + length s) limit)
    where
      decided : feed_all k h ss ≡ advanced k h (accepted k h ss)
          → (formed k (advanced k h s) ≡ true → feed_all k (advanced k h s) ss ≡ advanced k (advanced k h s) (accepted k (advanced k h s) ss))
          → Dec (h.total + length s ≤ limit) → feed_all k h (s ∷ ss) ≡ advanced k h (accepted k h (s ∷ ss))
      decided i j (yes y) =
          let t = taken h s ss f y in
          t.1 ∙ j (formed_advanced k pos h s f y) ∙ advanced_twice k pos h s (accepted k (advanced k h s) ss) e ∙ ap (advanced k h) (sym t.0)
      decided i j (no y) =
          let p = passed h s ss (feed_length k pos h s f (omega arith)) in
          p.1 ∙ i ∙ ap (advanced k h) (sym p.0)

  fits : (n : ℕ) (ss : List (List ℕ)) → length (accepted k (open_state k n) ss) ≤ limit
  fits n ss =
      let z : (open_state k n).total ≡ 0 =
      decide (known_size k n) (λ e. ap (λ (h : Hash). h.total) (open_done k pos n e))
      (λ e. ap (λ (b : Bool). (outcome (unless b Size (Ok 0)) (opened k n) (zeros k)).total) e) in
      let i = accepted_fits ss (open_state k n) (rw z (lit≤ tt)) in
      omega arith

  -- the state that the pieces leave is that of the accepted ones
  pub fed_state : (n : ℕ) (ss : List (List ℕ)) → known_size k n ≡ true
      → (feed_all k (open_state k n) ss ≡ advanced k (opened k n) (accepted k (open_state k n) ss)) × (length (accepted k (open_state k n) ss) ≤ limit)
  fed_state n ss kn =
      let o = open_done k pos n kn in (
        ap (λ (h : Hash). feed_all k h ss) o
            ∙ all_accepted ss (opened k n) (held_opened k pos n) (clean_opened k pos n) (formed_opened k pos n kn)
            ∙ ap (λ (h : Hash). advanced k (opened k n) (accepted k h ss)) (sym o),
        fits n ss,
      )

  goes_on : (n : ℕ) (ss : List (List ℕ)) (out : List ℕ) → known_size k n ≡ true
      → (finish_answer k (feed_all k (open_state k n) ss) out ≡ digest_answer k n (accepted k (open_state k n) ss) out)
      × (finish_out k (feed_all k (open_state k n) ss) out ≡ digest_out k n (accepted k (open_state k n) ss) out)
  goes_on n ss out kn =
      let x = fed_state n ss kn in
      let e = ap (finishes k out) x.0 ∙ one_call n kn (accepted k (open_state k n) ss) x.1 out in
      (ap (λ (w : Written). w.answer) e, ap (λ (w : Written). w.out) e)

  finish_leaves_lem : (cs : List Call) (h : Hash) → after_calls k h cs ≡ feed_all k h (pieces cs)
  finish_leaves_lem [] h = refl
  finish_leaves_lem (feed s ∷ cs) h = finish_leaves_lem cs (feed_state k h s)
  finish_leaves_lem (finish out ∷ cs) h = finish_leaves_lem cs h
  finish_leaves_lem (finish_bits last count out ∷ cs) h = finish_leaves_lem cs h

  pub cutting : Cutting k
  cutting = record { whole = whole; fits = fits; goes_on = goes_on; finish_leaves = λ h cs. finish_leaves_lem cs h }

pub narrow_cutting : Cutting narrow_kind
narrow_cutting = cutting narrow_kind (lit≤ tt)

pub wide_cutting : Cutting wide_kind
wide_cutting = cutting wide_kind (lit≤ tt)

pub one_call_cutting : CuttingOneCall
one_call_cutting n = by_kind (known_size wide_kind n)
  where
    by_kind : (b : Bool) (ss : List (List ℕ)) (out : List ℕ) → in_pieces (cond b wide_kind narrow_kind) n ss out
        ≡ record { answer = digest_answer (cond b wide_kind narrow_kind) n (concatenated ss) out; out = digest_out (cond b wide_kind narrow_kind) n (concatenated ss) out }
    by_kind true = wide_cutting.whole n
    by_kind false = narrow_cutting.whole n
