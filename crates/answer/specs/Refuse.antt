-- How an operation decides: its refusals are tested in order, and a refusal leaves everything as it was.
use Rattle.std.specs.Prelude.{Bool, true, false, Result, Ok, Err}
use Rattle.answer.specs.Answer.{Answer, refused_at}
use Rattle.answer.specs.declared.Refusal.{Refusal}
use Rattle.answer.specs.declared.Refused.{Refused}

-- a test that does not hold refuses, at offset 0; one that holds goes on
abbrev pub unless : Bool → Refusal → Answer → Answer
unless true r next = next
unless false r next = refused_at r 0

-- the test by itself
abbrev pub passed : Bool → Refusal → Result (Unit {0}) Refused
passed true r = Ok tt
passed false r = refused_at r 0

abbrev pub is_done : Answer → Bool
is_done (Ok n) = true
is_done (Err e) = false

-- what an answer leaves: a success the new, a refusal the old
abbrev pub outcome : {A : Type 0} → Answer → A → A → A
outcome (Ok n) new old = new
outcome (Err e) new old = old
