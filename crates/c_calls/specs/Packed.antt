-- An answer as one number: the refusal in the low 8 bits (0: accepted), the value in the rest.
use Rattle.std.specs.Prelude.{Bool, ◌≡◌, ℕ, ◌*◌, ◌<◌}
use Rattle.model.specs.Base.{pick}
use Rattle.calls.specs.Refusals.{refusal_number}
use Rattle.calls.specs.Outcomes.{Answer, refused, accepted}

abbrev pub packed : {A : Type 0} → (A → ℕ) → Answer A → ℕ
packed value (refused r) = refusal_number r
packed value (accepted a) = 256 * value a

-- The value of a call that has none to give, and of one that gives a number.
abbrev pub packed_done : Answer (Unit {0}) → ℕ
packed_done = packed (λ x. 0)

abbrev pub packed_value : Answer ℕ → ℕ
packed_value = packed (λ v. v)

-- That of a call that says yes or no: 1 where it says yes.
abbrev pub packed_bool : Answer Bool → ℕ
packed_bool = packed (λ b. pick b 1 0)

-- A value that leaves room for the refusal in a number of 64 bits.
abbrev pub Fits : Answer ℕ → Type 0
Fits a = (v : ℕ) → accepted v ≡ a → v < 72057594037927936
