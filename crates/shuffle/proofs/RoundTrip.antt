-- What a success writes, and either way after the other.
use Rattle.std.specs.Prelude.{Ok}
use mathlib.Core.Path.{◌≡◌, refl, ap, ap₂, ◌∙◌}
use mathlib.Core.Bool.{true}
use mathlib.Core.List.{List, [], ◌++◌}
use Prim.Native.Nat.{ℕ, ◌+◌, ◌/◌, ◌%◌, ◌≤◌}
use native.Mathlib.Nat.{zero-mod, zero-div, mul-add-div_right}
use native.Mathlib.Omega.{arith}
use borrow.Author.Tests.{eqb-true, leb-true, eq-eqb, le-leb}
use lib.Dec.{eqb, leb}
use lib.ListN.{length, take, drop, length-append, length-drop}
use lib.Seq.{take_at, drop_at, take-length}
use Rattle.answer.specs.Answer.{Answer}
use Rattle.answer.specs.declared.Refusal.TheVariants.{Width, Records, Output}
use Rattle.answer.specs.Refuse.{is_done, outcome}
use Rattle.answer.proofs.Refuse.{unless_done}
use Rattle.quasigroup.specs.Tables.{known_width}
use Rattle.shuffle.specs.Shuffle.{record_length, shuffled_record, unshuffled_record, each_record, all_records, records_answer, records_out}
use Rattle.shuffle.specs.RoundTrip.{Written, NothingWritten, Apart, Writes, BothWrite, CallsRestore, Restores, EitherWayRestores}
use Rattle.shuffle.proofs.Records.{Keeps, each_apart, each_length, each_back}
use Rattle.shuffle.proofs.Widths.{sized, records_within, records_whole, shuffled_keeps, unshuffled_keeps, unshuffled_back, shuffled_back}

-- ---- the answer by the tests

pub accepted : (w m n : ℕ) → known_width w ≡ true → m % record_length w ≡ 0 → m ≤ n → records_answer w m n ≡ Ok m
accepted w m n k h g = rw (k, eq-eqb (m % record_length w) 0 h, le-leb m n g) refl

-- what a success knows of its arguments
pub record Accepted (w m n : ℕ) : Type 0 where
  pub known : known_width w ≡ true
  pub whole : m % record_length w ≡ 0
  pub room : m ≤ n
  pub answer : records_answer w m n ≡ Ok m

pub success : (w m n : ℕ) → is_done (records_answer w m n) ≡ true → Accepted w m n
success w m n d =
    let a = unless_done (known_width w) Width _ d in
    let b = unless_done (eqb (m % record_length w) 0) Records _ a.1 in
    let c = unless_done (leb m n) Output _ b.1 in
    let h = eqb-true (m % record_length w) 0 b.0 in
    let g = leb-true m n c.0 in
    record { known = a.0; whole = h; room = g; answer = accepted w m n a.0 h g }

-- ---- what is written

module _ (f : ℕ → List ℕ → List ℕ) (keeps : (w : ℕ) → known_width w ≡ true → Keeps (f w) (record_length w)) where
  pub all_length : (w : ℕ) (s : List ℕ) → known_width w ≡ true → length s % record_length w ≡ 0 → length (all_records f w s) ≡ length s
  all_length w s k h = each_length (f w) (record_length w) (keeps w k) (length s / record_length w) s ∙ records_whole (record_length w) s h

  module _ (w : ℕ) (s out : List ℕ) (a : Accepted w (length s) (length out)) where
    abbrev new : List ℕ
    new = all_records f w s

    pub new_length : length new ≡ length s
    new_length = all_length w s a.known a.whole

    pub after : records_out f w s out ≡ new ++ drop (length s) out
    after = ap (λ (r : Answer). outcome r (new ++ drop (length s) out) out) a.answer

    pub written_first : take (length s) (records_out f w s out) ≡ new
    written_first = ap (take (length s)) after ∙ take_at new (drop (length s) out) (length s) new_length

    written : Written f w s out
    written =
        record {
          answer = a.answer;
          size = ap length after ∙ length-append new (drop (length s) out) ∙ omega (arith, new_length, length-drop (length s) out, a.room);
          first = written_first;
          behind = ap (drop (length s)) after ∙ drop_at new (drop (length s) out) (length s) new_length;
        }

  nothing : (w : ℕ) (out : List ℕ) → known_width w ≡ true → NothingWritten f w out
  nothing w out k =
      let a = accepted w 0 (length out) k (zero-mod (record_length w)) (omega arith) in
      record {
        answer = a;
        bytes =
            ap (λ (r : Answer). outcome r (all_records f w [] ++ out) out) a
            ∙ ap (λ (n : ℕ). each_record (f w) (record_length w) n [] ++ out) (zero-div (record_length w));
      }

  apart : (w : ℕ) (a b : List ℕ) → known_width w ≡ true → Apart f w a b
  apart w a b k h =
      let m = record_length w in
      let e = records_whole m a h in
      let n : length (a ++ b) / m ≡ length a / m + length b / m =
      ap (λ (j : ℕ). j / m) (length-append a b ∙ omega (arith, e)) ∙ mul-add-div_right (sized w k).some (length a / m) (length b) in
      ap (λ (j : ℕ). each_record (f w) m j (a ++ b)) n ∙ each_apart (f w) m (length a / m) (length b / m) a b (omega (arith, e))

  writes : Writes f
  writes = record { success = λ w s out d. written w s out (success w (length s) (length out) d); nothing = nothing; apart = apart }

pub both_write : BothWrite
both_write = record { shuffled = writes shuffled_record shuffled_keeps; unshuffled = writes unshuffled_record unshuffled_keeps }

-- ---- one way and then the other

module _ (f g : ℕ → List ℕ → List ℕ)
    (keeps : (w : ℕ) → known_width w ≡ true → Keeps (f w) (record_length w))
    (back : (w : ℕ) → known_width w ≡ true → (r : List ℕ) → length r ≡ record_length w → g w (f w r) ≡ r) where
  restored : (w : ℕ) (s : List ℕ) → known_width w ≡ true → length s % record_length w ≡ 0 → all_records g w (all_records f w s) ≡ s
  restored w s k h =
      let m = record_length w in
      ap (λ (n : ℕ). each_record (g w) m (n / m) (all_records f w s)) (all_length f keeps w s k h)
      ∙ each_back (f w) (g w) m (keeps w k) (back w k) (length s / m) s (records_within m s)
      ∙ ap (λ (n : ℕ). take n s) (records_whole m s h) ∙ take-length s

  module _ (w : ℕ) (s out next : List ℕ) (a : Accepted w (length s) (length out)) where
    first : take (length s) (records_out f w s out) ≡ all_records f w s
    first = written_first f keeps w s out a

    same_length : length (take (length s) (records_out f w s out)) ≡ length s
    same_length = ap length first ∙ new_length f keeps w s out a

    calls : CallsRestore f g w s out next
    calls =
        record {
          answer = ap (λ (n : ℕ). records_answer w n (length next)) same_length;
          bytes =
              ap₂ {C = List ℕ} (λ n l. outcome (records_answer w n (length next)) (all_records g w l ++ drop n next) next) same_length first
              ∙ ap (λ (l : List ℕ). outcome (records_answer w (length s) (length next)) (l ++ drop (length s) next) next) (restored w s a.known a.whole);
        }

  restores : Restores f g
  restores =
      record {
        records = λ w s k h. record { size = all_length f keeps w s k h; bytes = restored w s k h };
        calls = λ w s out next d. calls w s out next (success w (length s) (length out) d);
      }

pub either_way_restores : EitherWayRestores
either_way_restores =
    record {
      shuffled = restores shuffled_record unshuffled_record shuffled_keeps unshuffled_back;
      unshuffled = restores unshuffled_record shuffled_record unshuffled_keeps shuffled_back;
    }
