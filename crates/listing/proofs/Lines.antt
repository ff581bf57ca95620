-- The lines of a sheet, command by command, and a listing by what the check found.
use Rattle.std.specs.Prelude.{Ok, Err, Some, None}
use mathlib.Core.Path.{◌≡◌, ap, ◌∙◌}
use mathlib.Core.List.{List, ◌++◌}
use Prim.Native.Nat.{ℕ}
use lib.ListN.{length}
use Rattle.answer.specs.declared.Refusal.{Refusal}
use Rattle.sheet.specs.declared.Decoded.{Decoded}
use Rattle.sheet.specs.Read.{Read, place_count, read_at}
use Rattle.answer.specs.Answer.{refused_at}
use Rattle.sheet.specs.Work.{counts, summary}
use Rattle.sheet.specs.Sheet.{Plan, scan_from, plan_of}
use Rattle.sheet.proofs.Rest.{rest_got, rest_fault, rest_end}
use Rattle.sheet.proofs.Checked.{checked, faulted, whole_scanned}
use Rattle.listing.specs.Listing.{line, line_of, lines, end_line, refused_line, listing}
use Rattle.text.specs.Pushed.{Pushed}
use Rattle.text.proofs.Partly.{Partly, one_more, all_stored}

-- the lines of the commands from offset i on
abbrev pub rest : ℕ → List ℕ → ℕ → List ℕ
rest w s i = lines w s (scan_from (length s) w s i).offsets

module _ (w : ℕ) (s : List ℕ) {l₀ l : List ℕ} {next : ℕ} (i : ℕ) (now : Partly l₀ 0 (rest w s 0) l next (rest w s i)) where
  module _ (d : Decoded) (e : read_at w s i ≡ Ok (Some d)) where
    rest_more : rest w s i ≡ line i d.command ++ rest w s d.next
    rest_more = ap (λ (p : Plan). lines w s p.offsets) (rest_got place_count w s i d e) ∙ ap (λ (r : Read). line_of i r ++ rest w s d.next) e

    pub lines_more : {m : List ℕ} {k : ℕ} → Pushed l next (line i d.command) m k → Partly l₀ 0 (rest w s 0) m k (rest w s d.next)
    lines_more p = one_more (rest w s i) (line i d.command) (rest w s d.next) now rest_more p

  pub lines_fault : (r : Refusal) → read_at w s i ≡ Err r → Pushed l₀ 0 (rest w s 0) l next
  lines_fault r e = all_stored (rest w s i) now (ap (λ (p : Plan). lines w s p.offsets) (rest_fault place_count w s i r e))

  pub lines_end : read_at w s i ≡ Ok None → Pushed l₀ 0 (rest w s 0) l next
  lines_end e = all_stored (rest w s i) now (ap (lines w s) (rest_end place_count w s i e))

-- a sheet that was found sound, and one that was not
module _ (w : ℕ) (s : List ℕ) where
  pub listed_whole : {n t : ℕ} → Ok (counts n t) ≡ summary w s (plan_of w s) → rest w s 0 ++ end_line (length s) n ≡ listing w s
  listed_whole e =
      let c = checked w s e in
      rw (c.sound, c.count, whole_scanned w s e)

  pub listed_faulty : (r : Refusal) (i : ℕ) → refused_at r i ≡ summary w s (plan_of w s) → refused_line r i ≡ listing w s
  listed_faulty r i e = rw (faulted w s r i e)
