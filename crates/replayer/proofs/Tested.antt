-- A replay's answer, by the tests in their order.
use Rattle.std.specs.Prelude.{Ok}
use mathlib.Core.Path.{◌≡◌, sym, ap, ◌∙◌}
use mathlib.Core.Bool.{true, false}
use mathlib.Core.List.{List, ◌++◌, append-nil}
use Prim.Native.Nat.{ℕ, ◌+◌, ◌*◌, ◌/◌, ◌%◌, ◌≤◌}
use native.Mathlib.Omega.{arith}
use borrow.Author.Tests.{eqb-true, ne_eqb}
use lib.Dec.{eqb, leb}
use lib.ListN.{length, take, drop, drop_of_length-le}
use Rattle.answer.specs.Answer.{Answer, refused_at}
use Rattle.answer.specs.declared.Refusal.{Refusal}
use Rattle.answer.specs.declared.Refusal.TheVariants.{Width, Operand, Records, RecordCount}
use Rattle.answer.specs.Refuse.{unless, is_done}
use Rattle.answer.proofs.Refuse.{unless_done}
use Rattle.quasigroup.specs.Tables.{known_width}
use Rattle.sheet.specs.Work.{counts, summary}
use Rattle.sheet.specs.Read.{place_count}
use Rattle.sheet.specs.Sheet.{plan_of}
use Rattle.sheet.proofs.SheetAnswer as Tests
use Rattle.sheet.proofs.Checked.{checked, faulted}
use Rattle.shuffle.specs.Shuffle.{record_length}
use Rattle.replay.specs.ReplayAnswer.{ReplayAnswer}
use Rattle.replay.specs.Replay.{first_false, record_count, record_tests, replay_tests, answered, replay_answer}

-- the state is the vectors, whatever stood there
pub copied : (v old : List ℕ) → length v ≡ length old → {last : List ℕ} → last ≡ take 0 old ++ v ++ drop (0 + length v) old → last ≡ v
copied v old l e =
    let h : length old ≤ 0 + length v = omega (arith, l) in
    e ∙ ap (λ (t : List ℕ). v ++ t) (drop_of_length-le old h) ∙ append-nil v

-- whole records, where the tests of the records are passed
pub whole_records : (w n m k : ℕ) {a : Answer} → a ≡ record_tests w n m → a ≡ Ok k → n % record_length w ≡ 0
whole_records w n m k e f =
    eqb-true (n % record_length w) 0
    (unless_done (eqb (n % record_length w) 0) Records (unless (leb (n / record_length w) m) RecordCount (Ok 0)) (ap is_done (sym e ∙ f))).0

module _ (w : ℕ) (s b r : List ℕ) where
  -- by what the tests answer
  ends : {a : Answer} → a ≡ replay_tests w s b r → answered a (first_false (record_count w r) w s b r 0) ≡ replay_answer w s b r
  ends e = ap (λ (a : Answer). answered a (first_false (record_count w r) w s b r 0)) e

  pub width_refused : (w ≡ 32 → ⊥) → (w ≡ 64 → ⊥) → refused_at Width 0 ≡ replay_answer w s b r
  width_refused h k = ends (Tests.width_refused place_count w _ s _ (rw (ne_eqb w 32 h, ne_eqb w 64 k)))

  module _ (k : known_width w ≡ true) where
    pub size_refused : eqb (length b) (place_count * w) ≡ false → refused_at Operand 0 ≡ replay_answer w s b r
    size_refused h = ends (Tests.operand_refused place_count w _ s _ k h)

    module _ (h : eqb (length b) (place_count * w) ≡ true) where
      pub fault_refused : (q : Refusal) (i : ℕ) → refused_at q i ≡ summary w s (plan_of w s) → refused_at q i ≡ replay_answer w s b r
      fault_refused q i f = ends (Tests.fault_refused place_count w _ s _ k h q i (faulted w s q i f))

      -- code counted n commands, and found the answer a to the tests of the records
      module _ {n t : ℕ} (f : Ok (counts n t) ≡ summary w s (plan_of w s)) {a : Answer} (e : a ≡ record_tests w (length r) n) where
        tested : a ≡ replay_tests w s b r
        tested =
            let c = checked w s f in
            e ∙ ap (record_tests w (length r)) c.count ∙ Tests.passes place_count w _ s _ (record { width = k; operands = h; sheet = c.sound })

        pub records_refused : (q : Refusal) (at : ℕ) → a ≡ refused_at q at → refused_at q at ≡ replay_answer w s b r
        records_refused q at g = ends (sym g ∙ tested)

        pub replayed : (m : ℕ) → a ≡ Ok m → (last : List ℕ) → last ≡ b → {x : ReplayAnswer} → x ≡ first_false (record_count w r) w s last r 0
            → x ≡ replay_answer w s b r
        replayed m g last l ex = ex ∙ ap (λ (v : List ℕ). first_false (record_count w r) w s v r 0) l ∙ ends (sym g ∙ tested)
