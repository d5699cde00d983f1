-- What falls at every step: nodes, those of kind 6 once more, plus twice the literals, or else the pairs of a node and a literal after it.
use Rattle.std.specs.Prelude.{List, [], ◌∷◌, ◌++◌, ◌⊎◌, ◌≡◌, refl, ℕ, suc, ◌+◌, ◌-◌, ◌*◌, ◌≤◌, ◌<◌, length}
use Rattle.std.proofs.Common.{append_assoc, inl, inr, ⊎_elim, sym, ap, ◌∙◌, mul-le-mul_right, arith, length-append}
use Rattle.std.proofs.Math.Option.{some}
use Rattle.model.specs.Literal.{Literal, option}
use Rattle.model.specs.Forest.{Conn, and, or, root, at_least, Forest, nil, lit, node, ◌⊕◌, mentions}
use Rattle.model.specs.Code.{Node, leaf, head, encode, literals, least_count, leasts, weight}
use Rattle.model.specs.Rules.{assigned, step}
use Rattle.theory_forms.specs.Forests.{mentions-⊕}
use Rattle.theory_forms.specs.Codes.{encode-⊕, literals_append, leasts_append}
use Rattle.theory_forms.specs.Ended.{Ended, none_asked, too_many, one_asked, all_asked}
use Rattle.theory_rewriting.specs.Changes.{Change, absorbed, omitted, unwrapped, spreaded, lifted, merged, factored, lowered, ended}
use Rattle.theory_forms.specs.Shape.{Shaped, shaped_trees}
use Rattle.theory_rewriting.specs.ShapeKept.{Changed, step_changed}
use Rattle.theory_rewriting.specs.Mass.{heft, heft_some, heft_neutral, heft_deciding, mass, mass-⊕, mass_size, mass_mentioned, mass_shared}

-- Nodes, those of kind 6 u times in all, plus u times the literals: for 1 the weight.
abbrev pub bulk : ℕ → List Node → ℕ
bulk u ns = length ns + (u - 1) * leasts ns + u * literals ns

-- It is the mass of trees, counted on their code.
heft_count : (u : ℕ) (c : Conn) → 1 ≤ u → 1 + (u - 1) * least_count c ≡ heft (suc u) c
unfolding least_count heft
heft_count u and h = omega arith
heft_count u or h = omega arith
heft_count u root h = omega arith
heft_count u (at_least a) h = omega arith

bulk_code : (u : ℕ) (f : Forest) → 1 ≤ u → bulk u (encode f) ≡ mass (suc u) f
unfolding encode literals leasts mass
bulk_code u nil one = omega arith
bulk_code u (lit l f) one = let h = bulk_code u f one in omega arith
bulk_code u (node c k f) one =
    let p = bulk_code u k one in
    let q = bulk_code u f one in
    let r = heft_count u c one in
    simp (length-append, literals_append, leasts_append) (omega arith)

bulk_after : (u : ℕ) (b : List Node) (f : Forest) → 1 ≤ u → bulk u (b ++ encode f) ≡ bulk u b + mass (suc u) f
bulk_after u b f one = let h = bulk_code u f one in simp (length-append, literals_append, leasts_append) (omega arith)

-- Pairs of a node that is no literal and a literal somewhere after it.
unfoldable pub pairs : List Node → ℕ
pairs [] = 0
pairs (leaf l ∷ ns) = pairs ns
pairs (head c k ∷ ns) = literals ns + pairs ns

-- As many nodes and literals, and fewer such pairs: the literals stand sooner.
pub record Sooner (ms ns : List Node) : Type 0 where
  pub same_length : length ms ≡ length ns
  pub same_literals : literals ms ≡ literals ns
  pub same_leasts : leasts ms ≡ leasts ns
  pub fewer_pairs : pairs ms < pairs ns

sooner_head : {c : Conn} {i j : ℕ} {ms ns : List Node} → Sooner ms ns → Sooner (head c i ∷ ms) (head c j ∷ ns)
unfolding literals leasts pairs
sooner_head s = omega arith

sooner_after : (b : List Node) {ms ns : List Node} → Sooner ms ns → Sooner (b ++ ms) (b ++ ns)
unfolding literals leasts pairs
sooner_after [] s = s
sooner_after (leaf l ∷ b) s = let h = sooner_after b s in omega arith
sooner_after (head c k ∷ b) s = sooner_head (sooner_after b s)

-- A literal that moves before the nodes that stood before it stands sooner.
pairs_later : (l : Literal) (a z : List Node) → pairs (a ++ z) ≤ pairs (a ++ leaf l ∷ z)
unfolding literals pairs
pairs_later l [] z = omega arith
pairs_later l (leaf x ∷ a) z = pairs_later l a z
pairs_later l (head c k ∷ a) z = omega (arith, pairs_later l a z, literals_append a z, literals_append a (leaf l ∷ z))

sooner_moved : {c : Conn} {i j : ℕ} (l : Literal) (a z : List Node) → Sooner (leaf l ∷ head c i ∷ a ++ z) (head c j ∷ a ++ leaf l ∷ z)
unfolding literals leasts pairs
sooner_moved l a z =
    let h = pairs_later l a z in
    let p = literals_append a z in
    let q = literals_append a (leaf l ∷ z) in
    record {
      same_length = simp length-append (omega arith);
      same_literals = omega arith;
      same_leasts = omega (arith, leasts_append a z, leasts_append a (leaf l ∷ z));
      fewer_pairs = omega arith;
    }

sooner_lifted :
    (c : Conn) (p a b q rest : Forest) (l : Literal) →
    Sooner (encode (node c (p ⊕ lit l (node and (a ⊕ b) q)) rest)) (encode (node c (p ⊕ node and (a ⊕ lit l b) q) rest))
unfolding encode
sooner_lifted c p a b q rest l =
    simp (encode-⊕, append_assoc) (sooner_head (sooner_after (encode p) (sooner_moved l (encode a) (encode b ++ (encode q ++ encode rest)))))

-- No more, and less where a literal counts at least twice beside its node.
abbrev Falls : ℕ → ℕ → ℕ → Type 0
Falls u a b = (a ≤ b) × (2 ≤ u → a < b)

ended_mass : (u : ℕ) {a : ℕ} {k m : Forest} {d : Conn} → Ended a k d m → (heft u d ≡ 1) × (mass u m ≤ mass u k)
unfolding mass heft
ended_mass u (none_asked e) = (refl, omega arith)
ended_mass u (too_many e) = (refl, omega arith)
ended_mass u (one_asked e) = (refl, omega arith)
ended_mass u (all_asked e) = (refl, omega arith)

-- A change lifts a literal, so that it stands sooner; or the mass falls.
change_falls :
    (u : ℕ) →
    1 ≤ u →
    {c : Conn} {k g : Forest} →
    Change c k g →
    ((rest : Forest) → Sooner (encode (g ⊕ rest)) (encode (node c k rest))) ⊎ Falls u (mass (suc u) g) (mass (suc u) (node c k nil))
unfolding mass heft mentions assigned ◌⊕◌
change_falls u one {c} {k} (absorbed p q o e t r) = inr (omega (arith, ap (mass (suc u)) r, mass_size (suc u) k (omega arith), heft_deciding (suc u) c))
change_falls u one {c} (omitted p q e r) = inr (omega (arith, heft_neutral (suc u) c, simp mass-⊕ at (ap (mass (suc u)) r), simp mass-⊕ at (ap (mass (suc u)) e)))
change_falls u one {c} (unwrapped o d t r) = inr (omega (arith, ap (mass (suc u)) r, heft_some (suc u) c (omega arith)))
change_falls u one {c} (spreaded p q l o d e m r) =
    let both = mass_mentioned (suc u) c l (node and p q) (omega arith) (sym (mentions-⊕ (option l) p q) ∙ m) in
    inr (omega (arith, simp mass-⊕ at (ap (mass (suc u)) r), simp mass-⊕ at (ap (mass (suc u)) e), both))
change_falls u one {c} (lifted p a b q l o d e r) = inl (λ rest. rw (e, r) (sooner_lifted c p a b q rest l))
change_falls u one (merged p a q d e r) = inr (omega (arith, simp mass-⊕ at (ap (mass (suc u)) r), simp mass-⊕ at (ap (mass (suc u)) e)))
change_falls u one {c} {k} (factored a d s g r) =
    inr (omega (arith, simp mass-⊕ at (ap (mass (suc u)) r), mass_shared (suc u) a k s, mul-le-mul_right (suc u) g))
change_falls u one {c} (lowered p q a d e r) =
    inr (rw d (omega (arith, simp mass-⊕ at (ap (mass (suc u)) r), simp mass-⊕ at (ap (mass (suc u)) e))))
change_falls u one {c} {k} (ended a d m t e r) = inr (rw t (omega (arith, ap (mass (suc u)) r, ended_mass (suc u) e)))

-- In a list of nodes the bulk changes as the mass of the tree that changed.
changed_bulk :
    (u : ℕ) →
    1 ≤ u →
    {ns ms : List Node} (w : Changed ns ms) →
    bulk u ms + mass (suc u) (node w.conn w.children nil) ≡ bulk u ns + mass (suc u) w.new
unfolding mass
changed_bulk u one {ns} {ms} w =
    let old : bulk u ns ≡ bulk u w.before + mass (suc u) (node w.conn w.children w.rest) = rw w.was (bulk_after u w.before _ one) in
    let now : bulk u ms ≡ bulk u w.before + mass (suc u) (w.new ⊕ w.rest) = rw w.became (bulk_after u w.before _ one) in
    omega (arith, mass-⊕ (suc u) w.new w.rest)

changed_falls : (u : ℕ) → 1 ≤ u → {ns ms : List Node} → Changed ns ms → Sooner ms ns ⊎ Falls u (bulk u ms) (bulk u ns)
changed_falls u one w =
    ⊎_elim
    (λ s. inl (rw (w.was, w.became) (sooner_after w.before (s w.rest))))
    (λ h. inr (omega (arith, changed_bulk u one w), λ two. omega (arith, changed_bulk u one w, h.1 two)))
    (change_falls u one w.done)

-- At a step nodes, those of kind 6 counted twice, plus twice the literals fall; or, with as many of each, the pairs fall.
pub step_falls :
    (r p i j : ℕ) {n : ℕ} {ns ms : List Node} →
    Shaped n ns →
    step r p i j ns ≡ some ms →
    (bulk 2 ms < bulk 2 ns) ⊎ Sooner ms ns
step_falls r p i j {n} {ns} s e =
    ⊎_elim inr (λ h. inl (h.1 (omega arith))) (changed_falls 2 (omega arith) (step_changed r p i j ns (shaped_trees s) e))

-- The weight never rises.
pub step_weight : (r p i j : ℕ) {n : ℕ} {ns ms : List Node} → Shaped n ns → step r p i j ns ≡ some ms → weight ms ≤ weight ns
unfolding weight
step_weight r p i j {n} {ns} s e =
    ⊎_elim (λ h. omega arith) (λ h. omega arith) (changed_falls 1 (omega arith) (step_changed r p i j ns (shaped_trees s) e))
