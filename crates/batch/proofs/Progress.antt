-- The loop over messages: each digest is written through the part of the output that starts at its place.
use mathlib.Core.Path.{◌≡◌, refl, ap, ap₂, sym, ◌∙◌}
use mathlib.Core.List.{List, ◌∷◌, ◌++◌}
use Prim.Native.Nat.{ℕ, suc, ◌+◌, ◌-◌, ◌*◌, ◌/◌, ◌^◌, ◌≤◌, ◌<◌}
use native.Mathlib.Nat.{zero-mul, suc-mul, mul-le-mul_right}
use native.Mathlib.Numerals.{add-one}
use native.Mathlib.Omega.{arith}
use borrow.Rule.Slice.PartMut.{put_mid, mid_of}
use lib.ListN.{length, get_or, take, drop, drop_of_length-le, take-append-drop}
use lib.Seq.{drop-cons, drop-drop}
use Rattle.memory.specs.Lists.{total}
use Rattle.memory.proofs.Totals.{total_next}
use Rattle.memory.proofs.Parts.{part_is, part_put}
use Rattle.digest.specs.Kind.{Known}
use Rattle.digest.specs.OneCall.{digest_for, one_call_out}
use Rattle.digest.proofs.Length.{digest_length}
use Rattle.batch.specs.Batch.{messages, digests, digests_length}
use Rattle.memory.proofs.Placed.{placed, placed_length, one_more}
use Rattle.batch.proofs.Calls.{is_short, call_writes}

-- The digests of k messages are written over the output `old`; the next message begins at byte `from`
pub record Progress (n : ℕ) (s ns old : List ℕ) (from k : ℕ) (out : List ℕ) : Type 0 where
  pub known : Known n
  pub room : digests_length n (length ns) ≤ length old
  pub bound : k ≤ length ns
  pub unread : from + total (drop k ns) ≡ length s
  pub same : length out ≡ length old
  pub written : take (k * (n / 8)) out ++ (digests n (messages (drop from s) (drop k ns)) ++ drop (digests_length n (length ns)) out)
      ≡ digests n (messages s ns) ++ drop (digests_length n (length ns)) old

pub begin : (n : ℕ) (s ns old : List ℕ) → Known n → total ns ≡ length s → digests_length n (length ns) ≤ length old → Progress n s ns old 0 0 old
begin n s ns old k e h =
    record {
      known = k;
      room = h;
      bound = omega arith;
      unread = omega (arith, e);
      same = refl;
      written = ap (λ (i : ℕ). take i old ++ (digests n (messages s ns) ++ drop (digests_length n (length ns)) old)) (zero-mul (n / 8));
    }

module _ {n : ℕ} {s ns old : List ℕ} {from k : ℕ} {out : List ℕ} (p : Progress n s ns old from k out) where
  abbrev w : ℕ
  w = n / 8

  abbrev end_of_all : ℕ
  end_of_all = digests_length n (length ns)

  pub starts : k * w ≤ length out
  starts = omega (arith, mul-le-mul_right {m = k} {n = length ns} w p.bound, p.room, p.same)

  pub end : length ns ≤ k → out ≡ digests n (messages s ns) ++ drop end_of_all old
  end h =
      let e : length ns ≡ k = omega (arith, p.bound) in
      sym (take-append-drop end_of_all out)
      ∙ ap₂ {C = List ℕ} (λ j l. take (j * w) out ++ (digests n (messages (drop from s) l) ++ drop end_of_all out)) e (sym (drop_of_length-le ns h))
      ∙ p.written

  pub within : from ≤ length s
  within = omega (arith, p.unread)

  -- the next message has j bytes
  module _ (h : k < length ns) {j : ℕ} (q : j ≡ get_or ns k 0) where
    pub inside : from + j ≤ length s
    inside = omega (arith, p.unread, q, total_next ns k h)

    last : k * w + w ≤ end_of_all
    last = omega (arith, mul-le-mul_right {m = suc k} {n = length ns} w h, suc-mul k w)

    fits : k * w + w ≤ length out
    fits = omega (arith, last, p.room, p.same)

    module _ (short : j < 2 ^ 32) (mid : List ℕ)
        (e : mid ≡ one_call_out n (take (from + j - from) (drop from s)) (mid_of (k * w) (length out - k * w) out)) where
      abbrev m : List ℕ
      m = take j (drop from s)

      abbrev d : List ℕ
      d = digest_for n m

      -- the output with the digest in its place
      pub is_placed : put_mid (k * w) (length out - k * w) out mid ≡ placed out (k * w) w d
      is_placed =
          let f : from + j - from ≡ j = omega arith in
          part_put out (k * w) starts mid
          ∙ ap (λ (x : List ℕ). take (k * w) out ++ x)
          (e ∙ ap₂ {C = List ℕ} (λ i x. one_call_out n (take i (drop from s)) x) f (part_is out (k * w) starts))
          ∙ (call_writes n p.known m out (k * w) (is_short j (drop from s) short) fits).1

      -- what was to come is this digest and what is to come now
      coming : d ++ digests n (messages (drop (from + j) s) (drop (suc k) ns)) ≡ digests n (messages (drop from s) (drop k ns))
      coming =
          ap (λ (x : List ℕ). d ++ digests n (messages x (drop (suc k) ns))) (sym (drop-drop j from s))
          ∙ ap (λ (x : ℕ). digests n (messages (drop from s) (x ∷ drop (suc k) ns))) q
          ∙ ap (λ (l : List ℕ). digests n (messages (drop from s) l)) (sym (drop-cons ns k 0 h))

      pub next : Progress n s ns old (from + j) (k + 1) (put_mid (k * w) (length out - k * w) out mid)
      next =
          let o = placed out (k * w) w d in
          let x = digests n (messages (drop (from + j) s) (drop (suc k) ns)) in
          let l = digest_length n m p.known in
          rw (add-one k, is_placed) record {
            known = p.known;
            room = p.room;
            bound = h;
            unread = omega (arith, p.unread, q, total_next ns k h);
            same = placed_length out (k * w) w d l fits ∙ p.same;
            written =
                ap (λ (i : ℕ). take i o ++ (x ++ drop end_of_all o)) (suc-mul k w) ∙ one_more out (k * w) w d l fits x end_of_all last
                ∙ ap (λ (y : List ℕ). take (k * w) out ++ (y ++ drop end_of_all out)) coming ∙ p.written;
          }
