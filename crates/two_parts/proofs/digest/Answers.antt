use mathlib.Core.Path.{sym, ◌∙◌}
use mathlib.Core.Bool.{true, false}
use mathlib.Core.List.{◌++◌}
use Rattle.digest.proofs.OneCall.{by_kind}
use Rattle.two_parts.proofs.digest.Goals as goal

pub returns-then-is_size : goal.returns-then-is_size
returns-then-is_size c =
    let a = c.args in
    let both = by_kind a.size (a.first.now ++ a.second.now) a.out.now true (sym c.is_size.ensures ∙ c.if-is_size.true)
    (c.digest_of_kind.ensures.value, c.digest_of_kind.ensures.out_after) in
    record {
      value = both.0;
      out_after = both.1;
    }

pub returns : goal.returns
returns c =
    let a = c.args in
    let both = by_kind a.size (a.first.now ++ a.second.now) a.out.now false (sym c.is_size.ensures ∙ c.if-is_size.false)
    (c.digest_of_kind-2.ensures.value, c.digest_of_kind-2.ensures.out_after) in
    record {
      value = both.0;
      out_after = both.1;
    }
