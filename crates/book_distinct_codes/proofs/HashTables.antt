-- Laws of the tables by which a code is found: equal codes have equal hashes, and one code more is entered.
use mathlib.Core.Bool.{Bool, true, false, ◌&&◌, not}
use mathlib.Core.List.{List}
use mathlib.Core.Path.{◌≡◌, refl, sym, ap, ◌∙◌}
use Prim.Native.Nat.{ℕ, zero, suc, ◌+◌, ◌-◌, ◌*◌, ◌≤◌, ◌<◌}
use native.Mathlib.Numerals.{add-one}
use native.Mathlib.Omega.{arith}
use borrow.Author.Tests.{eqb-true, eqb-false}
use lib.Dec.{eqb}
use lib.ListN.{length, get_or, take, set, replicate, length-set, length-replicate, get_or-replicate}
use lib.Seq.{get_or-take, get_or-set_same, get_or-set_other}
use Rattle.model.specs.Base.{same_list}
use Rattle.model.specs.Limits.{most_options, code_length}
use Rattle.model.specs.Book.{same_code, code_ok, codes_ok, pieces}
use Rattle.theory_forms.specs.Placed.{same_list_is}
use Rattle.book_codes.specs.CodePlaces.{code_at}
use Rattle.book_codes.proofs.CodesFrom.{from_first}
use Rattle.book_distinct_codes.specs.Hashes.{comes_from, comes_after, quad, hash, Link, Links, Walk, buckets}
use Rattle.book_distinct_codes.proofs.ComesAgain.{ok_from, ok_more, ok_past, comes_more, comes_past}

-- The hash of a code is read off its 13 bytes.
quad_take : (s : List ℕ) (k : ℕ) → k + 4 ≤ code_length → quad (take code_length s) k ≡ quad s k
unfolding quad
quad_take s k h = rw (
  get_or-take code_length s k 0 (omega arith),
  get_or-take code_length s (k + 1) 0 (omega arith),
  get_or-take code_length s (k + 2) 0 (omega arith),
  get_or-take code_length s (k + 3) 0 (omega arith),
)

pub hash_take : (s : List ℕ) → hash (take code_length s) ≡ hash s
unfolding hash
hash_take s = rw (quad_take s 0 (omega arith), quad_take s 4 (omega arith), quad_take s 8 (omega arith), get_or-take code_length s 12 0 (omega arith))

-- Codes of different hashes are different.
unlike : (d c : List ℕ) → (hash d ≡ hash c → ⊥) → same_code d c ≡ false
unfolding same_code
unlike d c h = go (same_list d c) refl
  where
    go : (t : Bool) → same_list d c ≡ t → t ≡ false
    go true e = absurd (h (ap hash ((same_list_is d c).0 e)))
    go false e = refl

module _ (n : ℕ) (s : List ℕ) where
  -- No code is entered yet.
  link_none : (h p : ℕ) → n ≤ p → Link n s n h p
  link_none h p l =
      record { on = l; alike = λ m. absurd (omega arith); passed = λ d e. rw (comes_past n s d n (omega arith), comes_past n s d p l) }

  -- A code is entered: it is the first of its hash, and the first of any other hash stays.
  link_here : (i : ℕ) → Link n s i (hash (code_at s i)) i
  link_here i = record { on = omega arith; alike = λ m. refl; passed = λ d e. refl }

  link_over : (i h p : ℕ) → i < n → (h ≡ hash (code_at s i) → ⊥) → Link n s (i + 1) h p → Link n s i h p
  link_over i h p l other k =
      record {
        on = omega (arith, k.on);
        alike = k.alike;
        passed = λ d e. comes_more n s d i l ∙ rw (unlike d (code_at s i) (λ same. other (sym e ∙ same))) (k.passed d e);
      }

  -- The later codes of a hash, from one that is not the code looked for to the next.
  pub comes_next :
      (d : List ℕ) (q p : ℕ) →
      q < n →
      hash (code_at s q) ≡ hash d →
      same_code d (code_at s q) ≡ false →
      Link n s (q + 1) (hash (code_at s q)) p →
      comes_from d n s q ≡ comes_from d n s p
  comes_next d q p l e other k = comes_more n s d q l ∙ rw other (k.passed d (sym e))

-- The codes from code i on are entered: none of them is malformed or comes again, each hash leads to the first of them that has it,
-- and each of them to the next one of its hash.
pub record Entered (n : ℕ) (s first next : List ℕ) (i : ℕ) : Type 0 where
  pub left : i ≤ n
  pub good : ok_from n s i ≡ true
  pub hashes : length first ≡ buckets
  pub places : length next ≡ most_options
  pub heads : (h : ℕ) → h < buckets → Link n s i h (get_or first h 0)
  pub links : Links n s next i

-- Before the first is entered, before one more is, and after all are.
pub entered_none :
    (n : ℕ) (s : List ℕ) (a b : ℕ) →
    a ≡ buckets →
    b ≡ most_options →
    n ≤ most_options →
    Entered n s (replicate a 65535) (replicate b 65535) n
entered_none n s a b e f l =
    let none : ℕ = 65535 in
    record {
      left = omega arith;
      good = ok_past n s n (omega arith);
      hashes = length-replicate a none ∙ e;
      places = length-replicate b none ∙ f;
      heads = λ h m. rw (get_or-replicate a h none 0 (omega arith)) (link_none n s h none (omega arith));
      links = λ k u v. absurd (omega arith);
    }

pub entered_before : {n : ℕ} {s first next : List ℕ} {i : ℕ} → 0 < i → Entered n s first next i → Entered n s first next (i - 1 + 1)
entered_before {i = i} l t = let e : i - 1 + 1 ≡ i = omega arith in rw e t

pub entered_all : {n : ℕ} {s first next : List ℕ} {i : ℕ} → i ≡ 0 → Entered n s first next i → codes_ok (pieces code_length n s) ≡ true
entered_all {n} {s} e t = rw (← from_first n s) (rw e at t.good)

-- One of them that is malformed or comes again spoils all.
spoilt : (a b : Bool) → a && b && false ≡ false
spoilt true true = refl
spoilt true false = refl
spoilt false b = refl

pub bad_from : (n : ℕ) (s : List ℕ) (i : ℕ) → i ≤ n → ok_from n s i ≡ false → codes_ok (pieces code_length n s) ≡ false
bad_from n s zero l e = rw (← from_first n s) e
bad_from n s (suc i) l e =
    bad_from n s i (omega arith) (ok_more n s i (omega arith) ∙ rw (add-one i, e) (spoilt (code_ok (code_at s i)) (not (comes_after n s i))))

-- One code more, with its hash.
module _ {n : ℕ} {s first next : List ℕ} {i : ℕ} (t : Entered n s first next (i + 1)) (few : n ≤ most_options) (h : ℕ) (small : h < buckets)
    (key : h ≡ hash (code_at s i)) where
  here : i < n
  here = omega (arith, t.left)

  -- Code i comes first of its hash, and those of other hashes stay; it leads to the code that came first before.
  heads_more : (k : ℕ) → k < buckets → Link n s i k (get_or (set first h i) k 0)
  heads_more k m = go (eqb k h) refl
    where
      go : (b : Bool) → eqb k h ≡ b → Link n s i k (get_or (set first h i) k 0)
      go true e = rw (eqb-true k h e, get_or-set_same first h i 0 (omega (arith, t.hashes)), key) (link_here n s i)
      go false e = rw (get_or-set_other first h k i 0 (eqb-false k h e))
          (link_over n s i k (get_or first k 0) here (λ f. eqb-false k h e (f ∙ sym key)) (t.heads k m))

  links_more : Links n s (set next i (get_or first h 0)) i
  links_more k a b = go (eqb k i) refl
    where
      go : (b : Bool) → eqb k i ≡ b → Link n s (k + 1) (hash (code_at s k)) (get_or (set next i (get_or first h 0)) k 0)
      go true e = rw (eqb-true k i e, get_or-set_same next i (get_or first h 0) 0 (omega (arith, t.places, t.left)), ← key) (t.heads h small)
      go false e = rw (get_or-set_other next i k (get_or first h 0) 0 (eqb-false k i e)) (t.links k (omega (arith, eqb-false k i e)) b)

  -- The later codes of its hash can be looked through, and it is entered if it is well-formed and none of them.
  pub walk : code_length * n ≤ length s → {p : ℕ} → p ≡ get_or first h 0 → Walk n s i next p
  walk long e = record { few = few; long = long; here = here; begun = rw (e, ← key) (t.heads h small); links = t.links }

  pub entered_more : code_ok (code_at s i) ≡ true → comes_after n s i ≡ false → Entered n s (set first h i) (set next i (get_or first h 0)) i
  entered_more formed alone =
      record {
        left = omega (arith, t.left);
        good = ok_more n s i here ∙ rw (formed, alone, t.good);
        hashes = length-set first h i ∙ t.hashes;
        places = length-set next i (get_or first h 0) ∙ t.places;
        heads = heads_more;
        links = links_more;
      }
