-- The quasigroup theorem for vectors in bytes: words and their bytes are the same vectors, written in two ways. And of what the calls write.
use Rattle.std.specs.Prelude.{Ok, Err}
use mathlib.Core.Path.{◌≡◌, refl, sym, ap, ◌∙◌, subst}
use mathlib.Core.Bool.{true, ◌&&◌}
use Prim.Native.Nat.{ℕ, ◌/◌, ◌≤◌}
use mathlib.Core.List.{List, ◌++◌}
use lib.ListN.{length, take, drop}
use lib.Seq.{take_at, drop_at}
use lib.Dec.{eqb}
use borrow.Author.Tests.{eq-eqb}
use Rattle.answer.specs.Answer.{Answer, refused_at}
use Rattle.answer.specs.Refuse.{outcome}
use Rattle.answer.proofs.Refuse.{refused_outcome}
use Rattle.memory.specs.Bytes.{words_at, bytes_of}
use Rattle.memory.proofs.Bytes.{bytes_of-are}
use Rattle.quasigroup.specs.Tables.{Width, width_of}
use Rattle.quasigroup.specs.Product.{product}
use Rattle.quasigroup.specs.Division.{left_division, right_division, unleft, unright}
use Rattle.quasigroup.specs.Vector.{Vector}
use Rattle.quasigroup.specs.Theorem.{OnlySolution}
use Rattle.quasigroup.proofs.Vectors.{Undo}
use Rattle.quasigroup.proofs.Widths.{Bytewise, bytewise_32, bytewise_64, left_division_undoes, right_division_undoes}
use Rattle.quasigroup.proofs.InBytes.{vector_at_lem, vector_length, words_alone, bytes_alone}
use Rattle.operands.specs.Operation.{answer_for, on_bytes}
use Rattle.operands.proofs.Tests.{accepted}
use Rattle.buffer.specs.Theorem.{InBytes, QuasigroupOnBytes, first_bytes, BehindStays, CallsSolve, RefusalWritesNothing}

module _ (w : ℕ) (h : Bytewise w) where
  abbrev words : List ℕ → List ℕ
  words s = words_at (w / 8) 8 s 0

  words_vector : (s : List ℕ) → InBytes w s → Vector w (words s)
  words_vector s b = vector_at_lem w h s b.small 0

  bytes_vector : (v : List ℕ) → Vector w v → InBytes w (bytes_of (w / 8) v)
  bytes_vector v b = record { size = vector_length w h v b.size; small = bytes_of-are (w / 8) v }

  -- two steps on words that undo each other do so on bytes
  only : (f g : List ℕ → List ℕ) → Undo w f g → (b : List ℕ) → InBytes w b
      → OnlySolution (InBytes w) (λ x. bytes_of (w / 8) (f (words x))) b (bytes_of (w / 8) (g (words b)))
  only f g u b hb =
      let vb = words_vector b hb in
      record {
        holds = bytes_vector (g (words b)) (u.back (words b) vb);
        solves =
            ap (λ (v : List ℕ). bytes_of (w / 8) (f v)) (words_alone w h (g (words b)) (u.back (words b) vb))
            ∙ ap (bytes_of (w / 8)) (u.right (words b) vb) ∙ bytes_alone w h b hb.small hb.size;
        unique = λ z hz e.
            let vz = words_vector z hz in
            sym (bytes_alone w h z hz.small hz.size)
            ∙ ap (bytes_of (w / 8)) (sym (u.left (words z) vz) ∙ ap g (sym (words_alone w h (f (words z)) (u.there (words z) vz))))
            ∙ ap (λ (s : List ℕ). bytes_of (w / 8) (g (words s))) e;
      }

  pub quasigroup : QuasigroupOnBytes w
  unfolding on_bytes
  quasigroup =
      record {
        closed = λ x y hx hy. bytes_vector _ ((left_division_undoes w h (words x) (words_vector x hx)).there (words y) (words_vector y hy));
        left = λ a b ha hb. only (product (width_of w) (words a)) (left_division (width_of w) (words a)) (left_division_undoes w h (words a) (words_vector a ha)) b hb;
        right = λ a b ha hb.
            only (λ y. product (width_of w) y (words a)) (λ z. right_division (width_of w) z (words a)) (right_division_undoes w h (words a) (words_vector a ha)) b hb;
      }

-- ---- what the calls write

-- another step that agrees with f on vectors has the same solution
like : (w : ℕ) (f g : List ℕ → List ℕ) (b : List ℕ) {x y : List ℕ} → ((z : List ℕ) → InBytes w z → g z ≡ f z) → y ≡ x
    → OnlySolution (InBytes w) f b x → OnlySolution (InBytes w) g b y
like w f g b {x} {y} k e h =
    record {
      holds = subst (InBytes w) (sym e) h.holds;
      solves = ap g e ∙ k x h.holds ∙ h.solves;
      unique = λ z hz d. h.unique z hz (sym (k z hz) ∙ d) ∙ sym e;
    }

behind_stays : (w : ℕ) (a : Answer) (x out : List ℕ) → length x ≡ w → drop w (outcome a (x ++ drop w out) out) ≡ drop w out
behind_stays w (Ok n) x out e = drop_at x (drop w out) w e
behind_stays w (Err err) x out e = refl

product_eight : (s : Width) (x y : List ℕ) → length (product s x y) ≡ 8
unfolding product
product_eight s x y = refl

left_eight : (s : Width) (x y : List ℕ) → length (left_division s x y) ≡ 8
unfolding left_division unright
left_eight s x y = refl

right_eight : (s : Width) (x y : List ℕ) → length (right_division s x y) ≡ 8
unfolding right_division unleft
right_eight s x y = refl

module _ (w : ℕ) (h : Bytewise w) where
  done : (x y out : List ℕ) → InBytes w x → InBytes w y → w ≤ length out → answer_for w x y out ≡ Ok w
  done x y out hx hy room =
      let fit : (eqb (length x) w && eqb (length y) w) ≡ true = rw (eq-eqb (length x) w hx.size, eq-eqb (length y) w hy.size) in
      sym (accepted w x y out h.known fit room)

  -- an operation whose result has eight words
  module _ (op : Width → List ℕ → List ℕ → List ℕ) (eight : (s : Width) (x y : List ℕ) → length (op s x y) ≡ 8) where
    all_bytes : (x y : List ℕ) → length (on_bytes op w x y) ≡ w
    unfolding on_bytes
    all_bytes x y =
        let v = op (width_of w) (words w h x) (words w h y) in
        vector_length w h v (eight (width_of w) (words w h x) (words w h y))

    first_bytes_lem : (x y out : List ℕ) → InBytes w x → InBytes w y → w ≤ length out → first_bytes op w x y out ≡ on_bytes op w x y
    first_bytes_lem x y out hx hy room =
        ap (λ (a : Answer). take w (outcome a (on_bytes op w x y ++ drop w out) out)) (done x y out hx hy room)
        ∙ take_at (on_bytes op w x y) (drop w out) w (all_bytes x y)

    behind : BehindStays op w
    behind x y out = behind_stays w (answer_for w x y out) (on_bytes op w x y) out (all_bytes x y)

  pub by_calls : CallsSolve w
  by_calls =
      let q = quasigroup w h in
      record {
        done = done;
        closed = λ x y out hx hy room. subst (InBytes w) (sym (first_bytes_lem product product_eight x y out hx hy room)) (q.closed x y hx hy);
        left = λ a b out out' ha hb room room'.
            like w _ _ b (λ x hx. first_bytes_lem product product_eight a x out' ha hx room')
            (first_bytes_lem left_division left_eight a b out ha hb room) (q.left a b ha hb);
        right = λ a b out out' ha hb room room'.
            like w _ _ b (λ y hy. first_bytes_lem product product_eight y a out' hy ha room')
            (first_bytes_lem right_division right_eight b a out hb ha room) (q.right a b ha hb);
        behind = (behind product product_eight, behind left_division left_eight, behind right_division right_eight);
      }

pub refusal_writes_nothing : RefusalWritesNothing
refusal_writes_nothing op w x y out e = sym (refused_outcome (answer_for w x y out) (on_bytes op w x y ++ drop w out) out e)

-- ---- the two widths

pub bytes_quasigroup_32 : QuasigroupOnBytes 32
bytes_quasigroup_32 = quasigroup 32 bytewise_32

pub bytes_quasigroup_64 : QuasigroupOnBytes 64
bytes_quasigroup_64 = quasigroup 64 bytewise_64

pub calls_solve_32 : CallsSolve 32
calls_solve_32 = by_calls 32 bytewise_32

pub calls_solve_64 : CallsSolve 64
calls_solve_64 = by_calls 64 bytewise_64
