use Rattle.std.proofs.Common.{◌≡◌, ℕ, ◌+◌, ◌-◌, ◌≤◌, List, ◌++◌, arith, rules, length, take, sym, ap, ap₂, ◌∙◌, subst, le_refl, drop_at, length-take-le}
use Rattle.std.proofs.lemmas.Slice.{take-put_mid_below}
use Rattle.std.specs.Io.KnownBytes.{Consumes}
use Rattle.std.proofs.KnownBytes.{Consumes-trans}
use borrow.Rule.Slice.PartMut.{put_mid, post_of}
use lib.Seq.{take-add, take-append-le}
use Rattle.input.proofs.read_full.Goals as goal

-- what was filled before, and then the first k bytes of what was read behind it
filled : (n room k : ℕ) (out read : List ℕ) → n ≤ length out → k ≤ length read → take (n + k) (put_mid n room out read) ≡ take n out ++ take k read
filled n room k out read within fits =
    let after = post_of n room out in
    let front = take-put_mid_below n room out read n (le_refl n) within in
    let behind = ap (take k) (drop_at (take n out) (read ++ after) n (length-take-le n out within)) ∙ take-append-le k read after fits in
    take-add n k (put_mid n room out read) ∙ ap₂ {C = List ℕ} (λ a b. a ++ b) front behind

pub loop-preserved : goal.loop-preserved
loop-preserved g c =
    let k = c.in_ok-k.k in
    let room = length c.loop.out - c.loop.n in
    record {
      within = search rules;
      counted = omega arith;
      given = subst (Consumes _ _) (sym (filled c.loop.n room k c.loop.out c.read.new.buf c.loop.invariant.within c.in_ok-k.ensures.bound.0))
          (Consumes-trans _ _ _ _ _ c.loop.invariant.given c.in_ok-k.ensures.bytes.0);
    }
