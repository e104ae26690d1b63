-- The answer of a call on a table: a refusal's number and place, or what an accepted call gives. The two are kept apart, so
-- that no refusal, not even one of number 0, is an acceptance.
use Rattle.std.specs.Prelude.{ℕ, cond, eqb, Result, Ok, Err}
use Rattle.protocol.specs.declared.refusal.Refusal.{Refusal}
use Rattle.protocol.specs.Refusal.{place_of}
use Rattle.protocol.specs.Refusal as Refusal

pub data Answer (A : Type 0) : Type 0 where
  refused : ℕ → ℕ → Answer A
  accepted : A → Answer A

-- the answer that a result of the code is
abbrev pub answered : {T A : Type 0} → (T → A) → Result T Refusal → Answer A
answered f (Ok x) = accepted (f x)
answered f (Err r) = refused (Refusal.number_of r) (place_of r)

-- an answer after a test that gives a refusal's number, 0 where it passes
abbrev pub unless_refused : {A : Type 0} → ℕ → Answer A → Answer A
unless_refused n a = cond (eqb n 0) a (refused n 0)

-- the answer of such a test alone
abbrev pub tested : ℕ → Answer (Unit {0})
tested n = unless_refused n (accepted tt)

-- the answer that a test of the code is
abbrev pub passed : Result (Unit {0}) Refusal → Answer (Unit {0})
passed = answered (λ u. u)

-- whether a call was accepted, without what it gives
abbrev pub outcome : {A : Type 0} → Answer A → Answer (Unit {0})
outcome (refused n place) = refused n place
outcome (accepted a) = accepted tt

-- the refusal's number, 0 where the call was accepted
abbrev pub number_of : {A : Type 0} → Answer A → ℕ
number_of (refused n place) = n
number_of (accepted a) = 0
