-- Chains of slices, and their way home.
use Rattle.std.specs.Prelude.{Ok, Err}
use mathlib.Core.Path.{◌≡◌, refl, sym, ap, ap₂, subst, ◌∙◌}
use mathlib.Core.Bool.{true, false, true≢false}
use mathlib.Core.List.{List, [], ◌∷◌, sum}
use Prim.Native.Nat.{ℕ, ◌+◌, ◌*◌, ◌≤◌}
use native.Mathlib.Nat.{zero-add, add-zero, add_assoc}
use borrow.Author.Tests.{eq-eqb}
use lib.Dec.{eqb}
use lib.ListN.{length, get_or-eq_default}
use Rattle.answer.specs.Answer.{Answer, refused_at}
use Rattle.answer.specs.declared.Refusal.{Refusal}
use Rattle.answer.specs.Refuse.{is_done, outcome}
use Rattle.invertible.specs.Invertible.{stepped, outputs, Each, none, more}
use Rattle.invertible.specs.RoundTrip.{Forward, Backward}
use Rattle.memory.specs.Bytes.{Bytes}
use Rattle.quasigroup.proofs.Widths.{Bytewise, bytewise}
use Rattle.sheet.specs.Read.{place_count}
use Rattle.sheet.specs.Sheet.{plan_of, command_count}
use Rattle.sheet.specs.Work.{total_units}
use Rattle.sheet.specs.SheetAnswer.{sheet_answer}
use Rattle.sheet.specs.Run.{vectors_in, vector_bytes, run_vectors, run_answer, run_bytes}
use Rattle.sheet.specs.Progress.{RunState, starting_at, state_after}
use Rattle.sheet.specs.Start.{is_start, then_start}
use Rattle.sheet.proofs.Lent.{State, state_length, vectors_bytes, bytes_vectors}
use Rattle.sheet.proofs.RoundTrip.{there_and_back, same_answer}
use Rattle.sheet.proofs.SheetAnswer.{Passed, passes}
use Rattle.sheet.proofs.Progress.{after_after, reaches}
use Rattle.sheet.proofs.Start.{suffix, reached_start, first_start, end_only}
use Rattle.sheet.proofs.FromStart.{state_after_lem, offset_by, end_units, end_vectors}
use Rattle.slice.specs.SliceAnswer.{reaching}
use Rattle.slice.specs.Slice.{sliced, slice_tests, reached_by, slice_bytes}
use Rattle.slice.specs.Injective.{is_reached}
use Rattle.slice.specs.Chain.{ChainState, chain_start, next_answer, linked, next_state, chain, total_budget, ReachesStart, refused, reached}
use Rattle.slice.specs.Chain.{TwoSlices, CallsCompose, ChainRefused, ChainDone, ChainsRun, ChainReturns, ChainsReturn}
use Rattle.slice.specs.Exact.{joined}
use Rattle.slice.proofs.Tests.{start_done, RunPassed, SlicePassed, run_passed, tests_passed}
use Rattle.slice.proofs.Exact.{joined_after}

total_none : total_budget [] ≡ 0
unfolding sum
total_none = refl

total_more : (k : ℕ) (l : List ℕ) → total_budget (k ∷ l) ≡ k + total_budget l
unfolding sum
total_more k l = refl

total_one : (k : ℕ) → total_budget (k ∷ []) ≡ k
total_one k = total_more k [] ∙ ap (λ (n : ℕ). k + n) total_none ∙ add-zero k

-- ---- a refused slice, from any state of a chain

module _ (w : ℕ) (s : List ℕ) (c : ChainState) (r : Refusal) (i : ℕ) (e : slice_tests w s c.offset c.bytes ≡ refused_at r i) where
  answer_refused : (k : ℕ) → next_answer w s k c ≡ refused_at r i
  answer_refused k = ap (λ (a : Answer). reached_by a (sliced k w s c.offset (vectors_in w c.bytes))) e

  state_refused : (k : ℕ) → next_state w s k c ≡ c
  state_refused k =
      ap₂ {C = ChainState} (λ a b. linked a b c) (answer_refused k)
      (ap (λ (a : Answer). outcome a (vector_bytes w (sliced k w s c.offset (vectors_in w c.bytes)).vectors) c.bytes) e)

  chain_refused : (l : List ℕ) → stepped (next_state w s) l c ≡ c
  chain_refused [] = refl
  chain_refused (k ∷ l) = ap (stepped (next_state w s) l) (state_refused k) ∙ chain_refused l

  answers_refused : (l : List ℕ) → Each (λ a. a ≡ refused_at r i) (outputs (next_state w s) (next_answer w s) l c)
  answers_refused [] = none
  answers_refused (k ∷ l) =
      more (answer_refused k)
      (subst (λ (c : ChainState). Each (λ a. a ≡ refused_at r i) (outputs (next_state w s) (next_answer w s) l c)) (sym (state_refused k)) (answers_refused l))

  two_refused : (j k : ℕ) → TwoSlices w s j k c
  two_refused j k =
      record {
        state = ap (next_state w s k) (state_refused j) ∙ state_refused k ∙ sym (state_refused (j + k));
        answers =
            refused (ap (next_answer w s k) (state_refused j) ∙ answer_refused k ∙ sym (answer_refused j)) (ap is_reached (answer_refused j));
      }

-- ---- one that is not, from offset i over the bytes b, with u units before it

module _ (w : ℕ) (s : List ℕ) (hs : Bytes s) (i u : ℕ) (b : List ℕ) (hb : Bytes b) (n : ℕ) (e : slice_tests w s i b ≡ Ok n) where
  passed : SlicePassed w s i b
  passed = tests_passed w s b i (ap is_done e)

  whole : run_answer w s b ≡ Ok n
  whole = start_done (is_start w s i) (run_answer w s b) n e

  width : Bytewise w
  width = bytewise w passed.run.known

  abbrev v : List (List ℕ)
  v = vectors_in w b

  abbrev after : ℕ → RunState
  after k = state_after k w s (starting_at i v)

  state : (k : ℕ) → State place_count w (after k).vectors
  state k = state_after_lem w width s hs b hb i k

  start_at : (k : ℕ) → is_start w s (after k).offset ≡ true
  start_at k =
      let from = suffix w s passed.run.sound i passed.start in
      subst (λ (i : ℕ). is_start w s i ≡ true) (sym (reaches w s k (starting_at i v) (from.outcome ∙ passed.run.sound) from.within))
      (reached_start w s passed.run.sound i passed.start k)

  -- the chain where it has done k commands
  abbrev as_chain : RunState → ChainState
  as_chain p = record { offset = p.offset; units = u + p.units; bytes = vector_bytes w p.vectors }

  tests_done : (k : ℕ) → slice_tests w s (after k).offset (as_chain (after k)).bytes ≡ Ok n
  tests_done k =
      let same : length (vector_bytes w (after k).vectors) ≡ length b = state_length w width (after k).vectors (state k) ∙ sym passed.run.size in
      let a = Ok (total_units w s (plan_of w s).offsets) in
      ap (λ (m : ℕ). then_start (is_start w s (after k).offset) (sheet_answer w (eqb m (place_count * w)) s a)) same
      ∙ ap (then_start (is_start w s (after k).offset)) whole
      ∙ ap (λ t. then_start t (Ok n)) (start_at k)

  module _ (k c : ℕ) where
    abbrev next : List (List ℕ) → RunState
    next v = sliced c w s (after k).offset v

    lent : vectors_in w (vector_bytes w (after k).vectors) ≡ (after k).vectors
    lent = vectors_bytes w width (after k).vectors (state k)

    both : joined (after k) (next (after k).vectors) ≡ after (k + c)
    both = joined_after c w s (after k) ∙ after_after w s k c (starting_at i v)

    answer_done : next_answer w s c (as_chain (after k)) ≡ Ok (reaching (next (after k).vectors).offset (next (after k).vectors).units)
    answer_done =
        ap (λ (a : Answer). reached_by a (next (vectors_in w (vector_bytes w (after k).vectors)))) (tests_done k)
        ∙ ap (λ (v : List (List ℕ)). Ok (reaching (next v).offset (next v).units)) lent

    bytes_done : slice_bytes c w s (after k).offset (as_chain (after k)).bytes ≡ vector_bytes w (next (after k).vectors).vectors
    bytes_done =
        ap (λ (a : Answer). outcome a (vector_bytes w (next (vectors_in w (vector_bytes w (after k).vectors))).vectors) (vector_bytes w (after k).vectors))
        (tests_done k)
        ∙ ap (λ (v : List (List ℕ)). vector_bytes w (next v).vectors) lent

    state_done : next_state w s c (as_chain (after k)) ≡ as_chain (after (k + c))
    state_done =
        let q = next (after k).vectors in
        ap₂ {C = ChainState} (λ a b. linked a b (as_chain (after k))) answer_done bytes_done
        ∙ ap {B = ChainState} (λ t. record { offset = q.offset; units = t; bytes = vector_bytes w q.vectors }) (add_assoc u (after k).units q.units)
        ∙ ap as_chain both

    reaches_start : ReachesStart w s (next_answer w s c (as_chain (after k)))
    reaches_start =
        subst (ReachesStart w s) (sym answer_done)
        (subst (λ (p : RunState). is_start w s p.offset ≡ true) (sym both) (start_at (k + c)))

  chain_from : (l : List ℕ) (k : ℕ) → stepped (next_state w s) l (as_chain (after k)) ≡ as_chain (after (k + total_budget l))
  chain_from [] k = ap (λ (m : ℕ). as_chain (after m)) (sym (ap (λ (t : ℕ). k + t) total_none ∙ add-zero k))
  chain_from (c ∷ l) k =
      ap (stepped (next_state w s) l) (state_done k c) ∙ chain_from l (k + c)
      ∙ ap (λ (m : ℕ). as_chain (after m)) (add_assoc k c (total_budget l) ∙ ap (λ (t : ℕ). k + t) (sym (total_more c l)))

  answers_from : (l : List ℕ) (k : ℕ) → Each (ReachesStart w s) (outputs (next_state w s) (next_answer w s) l (as_chain (after k)))
  answers_from [] k = none
  answers_from (c ∷ l) k =
      more (reaches_start k c)
      (subst (λ (c : ChainState). Each (ReachesStart w s) (outputs (next_state w s) (next_answer w s) l c)) (sym (state_done k c)) (answers_from l (k + c)))

  abbrev start : ChainState
  start = record { offset = i; units = u; bytes = b }

  started : as_chain (after 0) ≡ start
  started = ap₂ {C = ChainState} (λ t b. record { offset = i; units = t; bytes = b }) (add-zero u) (bytes_vectors w width b hb place_count passed.run.size)

  first_done : (j : ℕ) → next_state w s j start ≡ as_chain (after j)
  first_done j = ap (next_state w s j) (sym started) ∙ state_done 0 j ∙ ap (λ (m : ℕ). as_chain (after m)) (zero-add j)

  two_done : (j k : ℕ) → TwoSlices w s j k start
  two_done j k =
      record {
        state = ap (next_state w s k) (first_done j) ∙ state_done j k ∙ sym (first_done (j + k));
        answers =
            reached (subst (λ (c : ChainState). ReachesStart w s (next_answer w s j c)) started (reaches_start 0 j))
            (subst (λ (c : ChainState). ReachesStart w s (next_answer w s k c)) (sym (first_done j)) (reaches_start j k));
      }

  chained : (l : List ℕ) → stepped (next_state w s) l start ≡ as_chain (after (total_budget l))
  chained l = ap (stepped (next_state w s) l) (sym started) ∙ chain_from l 0 ∙ ap (λ (m : ℕ). as_chain (after m)) (zero-add (total_budget l))

-- ---- two slices

two_by : (w : ℕ) (s : List ℕ) (j k : ℕ) (c : ChainState) → Bytes s → Bytes c.bytes → (a : Answer) → slice_tests w s c.offset c.bytes ≡ a → TwoSlices w s j k c
two_by w s j k c hs hb (Ok n) e = two_done w s hs c.offset c.units c.bytes hb n e j k
two_by w s j k c hs hb (Err err) e = two_refused w s c err.refusal err.offset e j k

pub calls_compose : CallsCompose
calls_compose w s j k c hs hb = two_by w s j k c hs hb (slice_tests w s c.offset c.bytes) refl

-- ---- a chain of which the whole run is not refused

module _ (w : ℕ) (s b : List ℕ) (hs : Bytes s) (hb : Bytes b) (n : ℕ) (e : run_answer w s b ≡ Ok n) where
  run : RunPassed w s b
  run = run_passed w s b (ap is_done e)

  first : slice_tests w s 0 b ≡ Ok n
  first = ap (then_start (is_start w s 0)) e ∙ ap (λ t. then_start t (Ok n)) (first_start w s run.sound)

  abbrev offsets : List ℕ
  offsets = (plan_of w s).offsets

  abbrev by : ℕ → RunState
  by k = state_after k w s (starting_at 0 (vectors_in w b))

  module _ (k : ℕ) (all : command_count w s ≤ k) where
    all_units : (by k).units ≡ n
    all_units =
        let fit = eqb (length b) (place_count * w) in
        let tests : Passed place_count w fit s = record { width = run.known; operands = eq-eqb (length b) (place_count * w) run.size; sheet = run.sound } in
        let a : Ok (total_units w s offsets) ≡ Ok n = passes place_count w fit s _ tests ∙ e in
        let t : total_units w s offsets ≡ n = cc in
        end_units w s (vectors_in w b) run.sound k all ∙ t

    all_bytes : vector_bytes w (by k).vectors ≡ run_bytes Forward w s b
    all_bytes =
        ap (vector_bytes w) (end_vectors w s (vectors_in w b) run.sound k all)
        ∙ ap (λ (a : Answer). outcome a (vector_bytes w (run_vectors Forward w s (vectors_in w b))) b) (sym e)

  module _ (l : List ℕ) where
    abbrev k : ℕ
    k = total_budget l

    there : (l : List ℕ) → chain w s l b ≡ as_chain w s hs 0 0 b hb n first (by (total_budget l))
    there l = chained w s hs 0 0 b hb n first l

    end_reached : command_count w s ≤ k → (chain w s l b).offset ≡ length s
    end_reached h = ap (λ (c : ChainState). c.offset) (there l) ∙ offset_by w s (vectors_in w b) run.sound k ∙ get_or-eq_default offsets (length s) h

    only_reached : (chain w s l b).offset ≡ length s → command_count w s ≤ k
    only_reached h = end_only w s run.sound k (sym (offset_by w s (vectors_in w b) run.sound k) ∙ sym (ap (λ (c : ChainState). c.offset) (there l)) ∙ h)

    chain_done : ChainDone w s b l n
    chain_done =
        record {
          answers =
              subst (λ (c : ChainState). Each (ReachesStart w s) (outputs (next_state w s) (next_answer w s) l c)) (started w s hs 0 0 b hb n first)
              (answers_from w s hs 0 0 b hb n first l 0);
          ends = end_reached;
          ends_only = only_reached;
          units = λ h. ap (λ (c : ChainState). c.units) (there l) ∙ zero-add _ ∙ all_units k (only_reached h);
          bytes = λ h. ap (λ (c : ChainState). c.bytes) (there l) ∙ all_bytes k (only_reached h);
          uncut = there l ∙ ap (λ (m : ℕ). as_chain w s hs 0 0 b hb n first (by m)) (sym (total_one k)) ∙ sym (there (k ∷ []));
        }

-- ---- a chain of which it is

module _ (w : ℕ) (s b : List ℕ) (r : Refusal) (i : ℕ) (e : run_answer w s b ≡ refused_at r i) where
  first_refused : slice_tests w s 0 b ≡ refused_at r i
  first_refused = ap (then_start (is_start w s 0)) e

  chain_stays : (l : List ℕ) → ChainRefused w s b l r i
  chain_stays l =
      record {
        answers = answers_refused w s (chain_start b) r i first_refused l;
        state = chain_refused w s (chain_start b) r i first_refused l;
      }

pub chains_run : ChainsRun
chains_run =
    record {
      refused = λ w s b l r i e. chain_stays w s b r i e l;
      done = λ w s b l hs hb n e. chain_done w s b hs hb n e l;
    }

-- ---- the way home

home_refused : (w : ℕ) (s b l : List ℕ) (r : Refusal) (i : ℕ) → run_answer w s b ≡ refused_at r i → ChainReturns w s b l
home_refused w s b l r i e =
    let left : (chain w s l b).bytes ≡ b = ap (λ (c : ChainState). c.bytes) (chain_stays w s b r i e l).state in
    record {
      state = ap (run_bytes Backward w s) left ∙ ap (λ (a : Answer). outcome a (vector_bytes w (run_vectors Backward w s (vectors_in w b))) b) e;
      same = ap (run_answer w s) left;
    }

home_done : (w : ℕ) (s b l : List ℕ) → Bytes s → Bytes b → (chain w s l b).offset ≡ length s → (a : Answer) → run_answer w s b ≡ a → ChainReturns w s b l
home_done w s b l hs hb h (Ok n) e =
    let left : (chain w s l b).bytes ≡ run_bytes Forward w s b = (chain_done w s b hs hb n e l).bytes h in
    record {
      state = ap (run_bytes Backward w s) left ∙ there_and_back Forward w s hs b hb;
      same = ap (run_answer w s) left ∙ same_answer Forward w s hs b hb;
    }
home_done w s b l hs hb h (Err err) e = home_refused w s b l err.refusal err.offset e

home_by : (w : ℕ) (s b l : List ℕ) (a : Answer) → run_answer w s b ≡ a → is_done a ≡ false → ChainReturns w s b l
home_by w s b l (Ok n) e h = absurd (true≢false h)
home_by w s b l (Err err) e h = home_refused w s b l err.refusal err.offset e

pub chains_return : ChainsReturn
chains_return =
    record {
      at_end = λ w s b l hs hb h. home_done w s b l hs hb h (run_answer w s b) refl;
      refused = λ w s b l h. home_by w s b l (run_answer w s b) refl h;
    }
