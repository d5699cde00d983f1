-- What a call answers, and what is lent to it holds afterwards.
use Rattle.std.proofs.Math.Option.{Option, none, some}
use Rattle.calls.specs.Refusals.{Refusal}

-- "The answer to each call is a result or one refusal."
pub data Answer (A : Type 0) : Type 0 where
  refused : Refusal → Answer A
  accepted : A → Answer A

unfoldable pub answer : {A : Type 0} → Option Refusal → A → Answer A
answer none a = accepted a
answer (some r) a = refused r

-- "A call is accepted when it is not refused." One value where it is refused, another by the result where it is accepted.
unfoldable pub if_accepted : {A B : Type 0} → Answer A → B → (A → B) → B
if_accepted (refused r) b f = b
if_accepted (accepted a) b f = f a

-- An answer, and what the call leaves in all that it may write: a buffer, or a record of several.
pub record Outcome (L A : Type 0) : Type 0 where
  pub answer : Answer A
  pub lent : L

-- "After a refusal each lent buffer holds what it held before."
unfoldable pub outcome : {L A : Type 0} → Option Refusal → A → L → L → Outcome L A
outcome none a kept filled = record { answer = accepted a; lent = filled }
outcome (some r) a kept filled = record { answer = refused r; lent = kept }

-- Why an answer is none, if it is.
unfoldable pub refusal_in : {A : Type 0} → Answer A → Option Refusal
refusal_in (refused r) = some r
refusal_in (accepted a) = none

-- The outcome, unless a refusal is due: then that one, and what was held.
unfoldable pub unless : {L A : Type 0} → Option Refusal → L → Outcome L A → Outcome L A
unless none held o = o
unless (some r) held o = record { answer = refused r; lent = held }
