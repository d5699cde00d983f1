-- Laws of lists: tests over a list, the elements at an index, maps and parts.
use Rattle.std.specs.Prelude.{Bool, false, ◌&&◌, ◌||◌, ◌⊎◌, ◌↔◌, ◌≡◌, eqb, length, get_or, take, drop, replicate}
use Rattle.std.proofs.Math.Bool.{true, and_assoc, or_assoc}
use mathlib.Core.List.Memᴰ
use mathlib.Core.List.{List, [], ◌∷◌, ◌++◌, map, flatten, Memᴰ}
use Rattle.std.proofs.Common.{inl, inr, sym, ◌∙◌, zero-add, add-zero, arith, eqb-true, take-append-drop, drop-cons, drop-drop}
use Rattle.std.proofs.Math.Option.{some}
use Rattle.std.proofs.Math.Path.{refl, ap, ap₂}
use Prim.Native.Nat.{ℕ, zero, suc, ◌+◌, ◌-◌, ◌≤◌, ◌<◌}
use Rattle.std.proofs.Math.ListN.{get_elem?}
use Rattle.std.proofs.Math.Seq.{take-nil}
use Rattle.model.specs.Base.{all, any}
use Rattle.model.specs.Propagation.{count_from}
use Rattle.theory_forms.specs.Logic.{true_false, none_some, some_inj, and_split, and_join, or_split, or_left, or_right, same_test, fails_if}

-- Tests over a list.

module _ {A : Type 0} (p : A → Bool) where
  pub all_append : (xs ys : List A) → all p (xs ++ ys) ≡ (all p xs && all p ys)
  unfolding all
  all_append [] ys = refl
  all_append (x ∷ xs) ys = rw (all_append xs ys) (sym (and_assoc (p x) (all p xs) (all p ys)))

  pub any_append : (xs ys : List A) → any p (xs ++ ys) ≡ (any p xs || any p ys)
  unfolding any
  any_append [] ys = refl
  any_append (x ∷ xs) ys = rw (any_append xs ys) (sym (or_assoc (p x) (any p xs) (any p ys)))

  pub all_at : {x : A} (xs : List A) → all p xs ≡ true → Memᴰ x xs → p x ≡ true
  unfolding all
  all_at [] e x3 = elim x3 [ ]
  all_at (y ∷ ys) e (Memᴰ.head q) = ap p q ∙ (and_split (p y) (all p ys) e).0
  all_at (y ∷ ys) e (Memᴰ.tail m) = all_at ys (and_split (p y) (all p ys) e).1 m

  pub all_from : (xs : List A) → ((x : A) → Memᴰ x xs → p x ≡ true) → all p xs ≡ true
  unfolding all
  all_from [] h = refl
  all_from (y ∷ ys) h = and_join (h y (Memᴰ.head refl)) (all_from ys (λ x m. h x (Memᴰ.tail m)))

  pub any_at : (xs : List A) → any p xs ≡ true → (x : A) × Memᴰ x xs × (p x ≡ true)
  unfolding any
  any_at [] e = true_false (sym e)
  any_at (y ∷ ys) e = go (or_split (p y) (any p ys) e) (any_at ys)
    where
      go :
          (p y ≡ true) ⊎ (any p ys ≡ true) →
          (any p ys ≡ true → (x : A) × Memᴰ x ys × (p x ≡ true)) →
          (x : A) × Memᴰ x (y ∷ ys) × (p x ≡ true)
      go (inl q) h = (y, Memᴰ.head refl, q)
      go (inr q) h = let w = h q in (w.0, Memᴰ.tail w.1, w.2)

  pub any_from : {x : A} (xs : List A) → Memᴰ x xs → p x ≡ true → any p xs ≡ true
  unfolding any
  any_from [] x3 e = elim x3 [ ]
  any_from (y ∷ ys) (Memᴰ.head q) e = or_left (any p ys) (sym (ap p q) ∙ e)
  any_from (y ∷ ys) (Memᴰ.tail m) e = or_right (p y) (any_from ys m e)

  pub any_none : (xs : List A) → (any p xs ≡ false) ↔ ((x : A) → Memᴰ x xs → p x ≡ false)
  any_none xs = (
    λ e x m. fails_if (p x) (λ h. true_false (sym (any_from xs m h) ∙ e)),
    λ h. fails_if (any p xs) (λ e. let w = any_at xs e in true_false (sym w.2 ∙ h w.0 w.1)),
  )

  -- A test holds of a list where it holds of the two parts that the list is cut into, and of lists put together where it holds
  -- of each.
  pub all_cut : (n : ℕ) (xs : List A) → all p xs ≡ (all p (take n xs) && all p (drop n xs))
  all_cut n xs = ap (all p) (sym (take-append-drop n xs)) ∙ all_append (take n xs) (drop n xs)

  pub all_flatten : (xss : List (List A)) → all p (flatten xss) ≡ all (all p) xss
  unfolding all flatten
  all_flatten [] = refl
  all_flatten (xs ∷ xss) = all_append xs (flatten xss) ∙ ap (λ b. all p xs && b) (all_flatten xss)

  pub any_flatten : (xss : List (List A)) → any p (flatten xss) ≡ any (any p) xss
  unfolding any flatten
  any_flatten [] = refl
  any_flatten (xs ∷ xss) = any_append xs (flatten xss) ∙ ap (λ b. any p xs || b) (any_flatten xss)

  pub all_replicate : (k : ℕ) (a : A) → p a ≡ true → all p (replicate k a) ≡ true
  unfolding all
  all_replicate zero a h = refl
  all_replicate (suc k) a h = and_join h (all_replicate k a h)

-- A test that follows from another holds of all where the other does.
pub all_weaken : {A : Type 0} (p q : A → Bool) → ((x : A) → p x ≡ true → q x ≡ true) → (xs : List A) → all p xs ≡ true → all q xs ≡ true
all_weaken p q h xs e = all_from q xs (λ x m. h x (all_at p xs e m))

-- A list of which every number is zero.
pub all_zero : (xs : List ℕ) → all (eqb 0) xs ≡ true → xs ≡ replicate (length xs) 0
unfolding all
all_zero [] e = refl
all_zero (x ∷ xs) e = let s = and_split (eqb 0 x) _ e in ap₂ ◌∷◌ (sym (eqb-true 0 x s.0)) (all_zero xs s.1)

-- Elements.

module _ {A : Type 0} where
  -- What a list has at an index is one of its members, and the index is within the list.
  pub get_elem?_mem : (xs : List A) (i : ℕ) {x : A} → get_elem? xs i ≡ some x → Memᴰ x xs
  get_elem?_mem [] i e = none_some e
  get_elem?_mem (y ∷ ys) zero e = Memᴰ.head (sym (some_inj e))
  get_elem?_mem (y ∷ ys) (suc i) e = Memᴰ.tail (get_elem?_mem ys i e)

  pub element_within : (xs : List A) (i : ℕ) {x : A} → get_elem? xs i ≡ some x → i < length xs
  element_within [] i e = none_some e
  element_within (y ∷ ys) zero e = omega arith
  element_within (y ∷ ys) (suc i) e = let h = element_within ys i e in omega arith

  -- What holds of the first n elements holds of one that stands below n; what holds of the others, of one from n on.
  pub all_first : (p : A → Bool) (n : ℕ) (xs : List A) (i : ℕ) {x : A} → all p (take n xs) ≡ true → i < n → get_elem? xs i ≡ some x → p x ≡ true
  unfolding all
  all_first p zero xs i h l e = absurd (omega arith)
  all_first p (suc n) [] i h l e = none_some e
  all_first p (suc n) (y ∷ ys) zero h l e = ap p (sym (some_inj e)) ∙ (and_split (p y) _ h).0
  all_first p (suc n) (y ∷ ys) (suc i) h l e = all_first p n ys i (and_split (p y) _ h).1 (omega arith) e

  pub all_later : (p : A → Bool) (n : ℕ) (xs : List A) (i : ℕ) {x : A} → all p (drop n xs) ≡ true → n ≤ i → get_elem? xs i ≡ some x → p x ≡ true
  all_later p zero xs i h l e = all_at p xs h (get_elem?_mem xs i e)
  all_later p (suc n) [] i h l e = none_some e
  all_later p (suc n) (y ∷ ys) zero h l e = absurd (omega arith)
  all_later p (suc n) (y ∷ ys) (suc i) h l e = all_later p n ys i h (omega arith) e

  pub mem_flatten : {x : A} {xs : List A} (xss : List (List A)) → Memᴰ xs xss → Memᴰ x xs → Memᴰ x (flatten xss)
  unfolding flatten
  mem_flatten {xs = xs} [] x3 k = elim x3 [ ]
  mem_flatten (ys ∷ xss) (Memᴰ.head q) k = Memᴰ.append_left (flatten xss) (rw q at k)
  mem_flatten (ys ∷ xss) (Memᴰ.tail m) k = Memᴰ.append_right ys (mem_flatten xss m k)

-- A test that all elements pass, at a place.
pub all_index : {A : Type 0} (p : A → Bool) (xs : List A) (i : ℕ) (d : A) → all p xs ≡ true → i < length xs → p (get_or xs i d) ≡ true
unfolding all
all_index p [] i d e h = absurd (omega arith)
all_index p (x ∷ xs) zero d e h = (and_split (p x) (all p xs) e).0
all_index p (x ∷ xs) (suc i) d e h = all_index p xs i d (and_split (p x) (all p xs) e).1 (omega arith)

-- Maps.

module _ {A B : Type 0} (f : A → B) where
  pub all_map : (p : B → Bool) (xs : List A) → all p (map f xs) ≡ all (λ x. p (f x)) xs
  unfolding all
  all_map p [] = refl
  all_map p (x ∷ xs) = ap (λ b. p (f x) && b) (all_map p xs)

  pub any_map : (p : B → Bool) (xs : List A) → any p (map f xs) ≡ any (λ x. p (f x)) xs
  unfolding any
  any_map p [] = refl
  any_map p (x ∷ xs) = ap (λ b. p (f x) || b) (any_map p xs)

  -- A map that is undone on every element is undone on the list.
  pub map_back : (g : B → A) (p : A → Bool) → ((x : A) → p x ≡ true → g (f x) ≡ x) → (xs : List A) → all p xs ≡ true → map g (map f xs) ≡ xs
  unfolding all
  map_back g p h [] e = refl
  map_back g p h (x ∷ xs) e = let s = and_split (p x) _ e in ap₂ ◌∷◌ (h x s.0) (map_back g p h xs s.1)

  pub map_take : (n : ℕ) (xs : List A) → map f (take n xs) ≡ take n (map f xs)
  map_take zero xs = refl
  map_take (suc n) [] = refl
  map_take (suc n) (x ∷ xs) = ap (λ r. f x ∷ r) (map_take n xs)

  pub map_drop : (n : ℕ) (xs : List A) → map f (drop n xs) ≡ drop n (map f xs)
  map_drop zero xs = refl
  map_drop (suc n) [] = refl
  map_drop (suc n) (x ∷ xs) = map_drop n xs

-- A function of the numbers from one on.
pub count_length : {A : Type 0} (f : ℕ → A) (v n : ℕ) → length (map f (count_from v n)) ≡ n
unfolding count_from
count_length f v zero = refl
count_length f v (suc n) = ap suc (count_length f (suc v) n)

pub count_at : (f : ℕ → ℕ) (v n i : ℕ) → i < n → get_or (map f (count_from v n)) i 0 ≡ f (v + i)
unfolding count_from
count_at f v zero i h = absurd (omega arith)
count_at f v (suc n) zero h = ap f (sym (add-zero v))
count_at f v (suc n) (suc i) h = count_at f (suc v) n i (omega arith) ∙ ap f (omega arith)

-- One number more.
pub count_more : (v n : ℕ) → count_from v (suc n) ≡ count_from v n ++ ((v + n) ∷ [])
unfolding count_from
count_more v zero = ap (λ w. w ∷ []) (sym (add-zero v))
count_more v (suc n) = let e : suc v + n ≡ v + suc n = omega arith in ap (λ l. v ∷ l) (count_more (suc v) n ∙ rw e)

-- A test of the numbers from 0 on holds exactly if it holds of each; so tests that agree on them hold alike.
pub all_count : (p : ℕ → Bool) (n : ℕ) → (all p (count_from 0 n) ≡ true) ↔ ((v : ℕ) → v < n → p v ≡ true)
unfolding all count_from
all_count p n = (λ e v h. ap p (sym (zero-add v)) ∙ to 0 n e v h, λ h. from 0 n (λ v l. ap p (zero-add v) ∙ h v l))
  where
    to : (v n : ℕ) → all p (count_from v n) ≡ true → (i : ℕ) → i < n → p (v + i) ≡ true
    to v zero e i h = absurd (omega arith)
    to v (suc n) e zero h = ap p (add-zero v) ∙ (and_split (p v) _ e).0
    to v (suc n) e (suc i) h = ap p (omega arith) ∙ to (suc v) n (and_split (p v) _ e).1 i (omega arith)

    from : (v n : ℕ) → ((i : ℕ) → i < n → p (v + i) ≡ true) → all p (count_from v n) ≡ true
    from v zero h = refl
    from v (suc n) h =
        and_join (ap p (sym (add-zero v)) ∙ h 0 (omega arith)) (from (suc v) n (λ i l. ap p (omega arith) ∙ h (suc i) (omega arith)))

pub all_counted :
    (p q : ℕ → Bool) (n : ℕ) →
    ((v : ℕ) → v < n → p v ≡ q v) →
    all p (count_from 0 n) ≡ all q (count_from 0 n)
all_counted p q n h =
    same_test (all p (count_from 0 n)) (all q (count_from 0 n))
    (λ e. (all_count q n).1 (λ v l. sym (h v l) ∙ (all_count p n).0 e v l))
    (λ e. (all_count p n).1 (λ v l. h v l ∙ (all_count q n).0 e v l))

-- Parts.

-- A list of two numbers or more is those two and the rest.
pub two_first : (xs : List ℕ) → 2 ≤ length xs → xs ≡ get_or xs 0 0 ∷ get_or xs 1 0 ∷ drop 2 xs
two_first xs h = drop-cons xs 0 0 (omega arith) ∙ ap (λ r. get_or xs 0 0 ∷ r) (drop-cons xs 1 0 (omega arith))

-- A list from a place on is a part of it and the list from the part's end on.
pub part_and_rest : {A : Type 0} (k j : ℕ) (xs : List A) → take k (drop j xs) ++ drop (j + k) xs ≡ drop j xs
part_and_rest k j xs = ap (λ r. take k (drop j xs) ++ r) (sym (drop-drop k j xs)) ∙ take-append-drop k (drop j xs)

-- A list from a place on, of which the start was kept.
pub drop_take : {A : Type 0} (n m : ℕ) (xs : List A) → drop n (take m xs) ≡ take (m - n) (drop n xs)
drop_take zero m xs = let e : m - 0 ≡ m = omega arith in rw e
drop_take (suc n) zero xs = let e : 0 - suc n ≡ 0 = omega arith in rw e
drop_take (suc n) (suc m) [] = sym (take-nil (suc m - suc n))
drop_take (suc n) (suc m) (x ∷ xs) = let e : suc m - suc n ≡ m - n = omega arith in rw e (drop_take n m xs)
