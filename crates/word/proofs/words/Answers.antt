use Rattle.std.proofs.Common.{◌≡◌, ℕ, ◌<◌, List, length, map, get_or, sym, ◌∙◌, rules, arith}
use Rattle.std.proofs.lemmas.List.{get_or-map, length-map}
use Rattle.memory.proofs.Lists.{spread}
use Rattle.memory.proofs.Eight.{eight}
use Rattle.word.proofs.words.Goals as goal

-- one word of the result
at : {A : Type 0} (f : A → ℕ) (v : List A) (i : ℕ) (x : A) {y : ℕ} → length v ≡ 8 → i < 8 → y ≡ f (get_or v i x) → y ≡ get_or (map f v) i 0
at f v i x l h e = e ∙ sym (get_or-map f v i x 0 (omega arith))

pub returns : goal.returns
returns g c =
    let f = g.U.Unsigned.number in
    let v = c.args.v in
    let l : length v ≡ 8 = search rules in
    eight
    (at f v 0 c.index-v-0.result l (omega arith) c.new.ensures)
    (at f v 1 c.index-v-1.result l (omega arith) c.new-2.ensures)
    (at f v 2 c.index-v-2.result l (omega arith) c.new-3.ensures)
    (at f v 3 c.index-v-3.result l (omega arith) c.new-4.ensures)
    (at f v 4 c.index-v-4.result l (omega arith) c.new-5.ensures)
    (at f v 5 c.index-v-5.result l (omega arith) c.new-6.ensures)
    (at f v 6 c.index-v-6.result l (omega arith) c.new-7.ensures)
    (at f v 7 c.index-v-7.result l (omega arith) c.new-8.ensures)
    ∙ spread 8 (map f v) (length-map v f ∙ l)
