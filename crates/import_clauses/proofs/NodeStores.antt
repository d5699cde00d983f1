-- A node stored as two bytes, and a rule closed.
use mathlib.Core.List.{List, [], ◌∷◌}
use mathlib.Core.Path.{◌≡◌, ap, ◌∙◌}
use Prim.Native.Nat.{ℕ, suc, ◌+◌, ◌-◌, ◌*◌, ◌/◌, ◌%◌}
use native.Mathlib.Omega.{arith}
use lib.ListN.{set}
use lib.Seq.{sets}
use Rattle.model.specs.Forest.{or}
use Rattle.model.specs.Code.{Node, head, number, conn_kind, conn_value, number_of}
use Rattle.model.specs.Book.{bytes_of}
use Rattle.import_clauses.specs.Drafts.{with_nodes, closed}
use Rattle.import_clauses.proofs.Stores.{word_stored}

pub node_stored :
    (bodies first : ℕ) (y : Node) (l : List ℕ) {x : ℕ} {l₁ : List ℕ} →
    x ≡ number_of y →
    l₁ ≡ set (set l (bodies + 2 * first) (x % 256)) (bodies + 2 * first + 1) (x / 256 % 256) →
    l₁ ≡ with_nodes bodies first (y ∷ []) l
unfolding with_nodes
node_stored bodies first y l {x} e f =
    f ∙ word_stored l (bodies + 2 * first) x ∙ ap (λ n. sets l (bodies + 2 * first) (bytes_of (n ∷ []))) e

-- "Any-of" is kind 4.
any_number : (m : ℕ) → 16384 + m ≡ number_of (head or m)
unfolding number_of number conn_kind conn_value
any_number m = omega arith

pub rule_closed :
    (contents bodies k first end : ℕ) (l : List ℕ) {l₁ l₂ : List ℕ} →
    let x = 16384 + (end - first - 1) in
    l₁ ≡ set (set l (bodies + 2 * first) (x % 256)) (bodies + 2 * first + 1) (x / 256 % 256) →
    l₂ ≡ sets l₁ (contents + 4 * k) (bytes_of (first ∷ (end - first) ∷ [])) →
    l₂ ≡ closed contents bodies k first end l
unfolding closed
rule_closed contents bodies k first end l {l₁} e f =
    let marks : end - first - 1 ≡ end - suc first = omega arith in
    let any = node_stored bodies first (head or (end - suc first)) l (rw marks (any_number (end - suc first))) e in
    f ∙ ap (λ r. sets r (contents + 4 * k) (bytes_of (first ∷ (end - first) ∷ []))) any
