-- "A code has 1 to 13 characters from A-Z, a-z, 0-9 and hyphen, then zero bytes. All 13 bytes are compared." Refusal 3: "a malformed code,
-- or one equal to an earlier." Cases have a few codes; here the book is any.
use Rattle.std.specs.Prelude.{Bool, true, false, not, ◌&&◌, List, [], ◌∷◌, ◌⊎◌, ◌↔◌, ◌≡◌, refl, ℕ, zero, suc, ◌+◌, ◌*◌, ◌≤◌, ◌<◌, eqb, leb, length, get_or, take, drop}
use Rattle.std.proofs.Common.{⊎_elim, sym, ap, subst, ◌∙◌, arith, eqb-true, eq-eqb, leb-true, le-leb, length-drop, length-take-le, get_or-take, get_or-drop, drop-drop, ext_get_or}
use Rattle.std.proofs.lemmas.Bool.{not-true}
use Rattle.model.specs.Base.{pick, all, any}
use Rattle.model.specs.Book.{word, options_of, pieces, codes_of, between, character, then_zeros, code_ok, same_code, codes_ok}
use Rattle.calls.specs.Conditions.{has_good_codes}
use Rattle.theory_forms.specs.Logic.{true_false, and_split, and_join, or_split, or_left, or_right, fails_if, pick_true, pick_false}
use Rattle.theory_forms.specs.Placed.{same_list_is}
use Rattle.case_theorems.specs.Places.{or_exactly, all_place, one_more}

-- "Characters from A-Z, a-z, 0-9 and hyphen", by their bytes.
abbrev pub IsCharacter : ℕ → Type 0
IsCharacter x = ((((65 ≤ x) × (x ≤ 90)) ⊎ ((97 ≤ x) × (x ≤ 122))) ⊎ ((48 ≤ x) × (x ≤ 57))) ⊎ (x ≡ 45)

between_exactly : (lo hi x : ℕ) → (between lo hi x ≡ true) ↔ ((lo ≤ x) × (x ≤ hi))
unfolding between
between_exactly lo hi x = (
  λ e. let s = and_split (leb lo x) (leb x hi) e in (leb-true lo x s.0, leb-true x hi s.1),
  λ w. and_join (le-leb lo x w.0) (le-leb x hi w.1),
)

character_exactly : (x : ℕ) → (character x ≡ true) ↔ IsCharacter x
unfolding character
character_exactly x =
    or_exactly _ _
    (or_exactly _ _
    (or_exactly _ _ (between_exactly 65 90 x) (between_exactly 97 122 x))
    (between_exactly 48 57 x))
    (eqb-true x 45, eq-eqb x 45)

no_character : character 0 ≡ false
unfolding character between
no_character = refl

-- A list of bytes: characters up to a place k, zeros from there on.
abbrev Characters : List ℕ → ℕ → Type 0
Characters c k = (i : ℕ) → i < k → IsCharacter (get_or c i 0)

abbrev Zeros : List ℕ → ℕ → Type 0
Zeros c k = (i : ℕ) → k ≤ i → i < length c → get_or c i 0 ≡ 0

zeros_later : (x : ℕ) (xs : List ℕ) (k : ℕ) → Zeros xs k → Zeros (x ∷ xs) (suc k)
zeros_later x xs k z zero l h = absurd (omega arith)
zeros_later x xs k z (suc i) l h = z i (omega arith) (omega arith)

then_zeros_to : (c : List ℕ) → then_zeros c ≡ true → (k : ℕ) × (k ≤ length c) × Characters c k × Zeros c k
unfolding then_zeros pick
then_zeros_to [] e = (0, omega arith, (λ i h. absurd (omega arith)), λ i l h. absurd (omega arith))
then_zeros_to (x ∷ xs) e = go (character x) refl e (then_zeros_to xs)
  where
    go :
        (b : Bool) →
        character x ≡ b →
        pick b (then_zeros xs) (all (eqb 0) (x ∷ xs)) ≡ true →
        (then_zeros xs ≡ true → (k : ℕ) × (k ≤ length xs) × Characters xs k × Zeros xs k) →
        (k : ℕ) × (k ≤ length (x ∷ xs)) × Characters (x ∷ xs) k × Zeros (x ∷ xs) k
    go true p e r =
        let w = r e in (
          suc w.0,
          omega (arith, w.1),
          one_more IsCharacter x xs w.0 ((character_exactly x).0 p) w.2,
          zeros_later x xs w.0 w.3,
        )
    go false p e r =
        (0, omega arith, (λ i h. absurd (omega arith)), λ i l h. sym (eqb-true 0 _ ((all_place (eqb 0) 0 (x ∷ xs)).0 e i h)))

then_zeros_from : (c : List ℕ) (k : ℕ) → k ≤ length c → Characters c k → Zeros c k → then_zeros c ≡ true
unfolding then_zeros
then_zeros_from [] k h cs zs = refl
then_zeros_from (x ∷ xs) zero h cs zs =
    pick_false (character x) _ _ (ap character (zs 0 (omega arith) (omega arith)) ∙ no_character)
    ∙ (all_place (eqb 0) 0 (x ∷ xs)).1 (λ i l. eq-eqb 0 _ (sym (zs i (omega arith) l)))
then_zeros_from (x ∷ xs) (suc k) h cs zs =
    pick_true (character x) _ _ ((character_exactly x).1 (cs 0 (omega arith)))
    ∙ then_zeros_from xs k (omega arith) (λ i l. cs (suc i) (omega arith)) (λ i l m. zs (suc i) (omega arith) (omega arith))

code_exactly :
    (c : List ℕ) →
    (code_ok c ≡ true) ↔ ((k : ℕ) × (1 ≤ k) × (k ≤ length c) × Characters c k × Zeros c k)
unfolding code_ok
code_exactly c = (
  λ e.
      let s = and_split (character (get_or c 0 0)) (then_zeros c) e in
      let w = then_zeros_to c s.1 in
      (w.0, some w.0 s.0 w.3, w.1, w.2, w.3),
  λ w.
      and_join
      ((character_exactly (get_or c 0 0)).1 (w.3 0 w.1))
      (then_zeros_from c w.0 w.2 w.3 w.4),
)
  where
    first : (c : List ℕ) → Zeros c 0 → get_or c 0 0 ≡ 0
    first [] zs = refl
    first (x ∷ xs) zs = zs 0 (omega arith) (omega arith)

    some : (k : ℕ) → character (get_or c 0 0) ≡ true → Zeros c k → 1 ≤ k
    some zero e zs = true_false (sym e ∙ ap character (first c zs) ∙ no_character)
    some (suc k) e zs = omega arith

-- The codes of a book, after its head: each is a code, and no two are equal.
abbrev code : List ℕ → ℕ → List ℕ
code b v = take 13 (drop (13 * v) b)

next : (b : List ℕ) (v : ℕ) → code (drop 13 b) v ≡ code b (suc v)
next b v = let e : 13 + 13 * v ≡ 13 * suc v = omega arith in ap (take 13) (drop-drop (13 * v) 13 b ∙ ap (λ k. drop k b) e)

any_code :
    (p : List ℕ → Bool) (n : ℕ) (b : List ℕ) →
    (any p (pieces 13 n b) ≡ true) ↔ ((v : ℕ) × (v < n) × (p (code b v) ≡ true))
unfolding any pieces
any_code p n b = (to n b, λ w. from n b w.0 w.1 w.2)
  where
    to : (n : ℕ) (b : List ℕ) → any p (pieces 13 n b) ≡ true → (v : ℕ) × (v < n) × (p (code b v) ≡ true)
    to zero b e = true_false (sym e)
    to (suc n) b e =
        let later = to n (drop 13 b) in
        ⊎_elim
        (λ here. (0, omega arith, here))
        (λ rest. let w = later rest in (suc w.0, omega (arith, w.1), ap p (sym (next b w.0)) ∙ w.2))
        (or_split (p (take 13 b)) (any p (pieces 13 n (drop 13 b))) e)

    from : (n : ℕ) (b : List ℕ) (v : ℕ) → v < n → p (code b v) ≡ true → any p (pieces 13 n b) ≡ true
    from zero b v h e = absurd (omega arith)
    from (suc n) b zero h e = or_left (any p (pieces 13 n (drop 13 b))) e
    from (suc n) b (suc v) h e = or_right (p (take 13 b)) (from n (drop 13 b) v (omega arith) (ap p (next b v) ∙ e))

abbrev Codes : ℕ → List ℕ → Type 0
Codes n b =
    ((v : ℕ) → v < n → code_ok (code b v) ≡ true)
    × ((v w : ℕ) → v < w → w < n → code b v ≡ code b w → ⊥)

codes_to : (n : ℕ) (b : List ℕ) → codes_ok (pieces 13 n b) ≡ true → Codes n b
unfolding codes_ok pieces same_code
codes_to zero b e = ((λ v h. absurd (omega arith)), λ v w l h. absurd (omega arith))
codes_to (suc n) b e =
    let again = any (same_code (take 13 b)) (pieces 13 n (drop 13 b)) in
    let s = and_split (code_ok (take 13 b) && not again) (codes_ok (pieces 13 n (drop 13 b))) e in
    let t = and_split (code_ok (take 13 b)) (not again) s.0 in
    let rest = codes_to n (drop 13 b) s.1 in
    (each t.0 rest.0, apart (not-true again t.1) rest.1)
  where
    each :
        code_ok (code b 0) ≡ true →
        ((v : ℕ) → v < n → code_ok (code (drop 13 b) v) ≡ true) →
        (v : ℕ) →
        v < suc n →
        code_ok (code b v) ≡ true
    each here later zero h = here
    each here later (suc v) h = ap code_ok (sym (next b v)) ∙ later v (omega arith)

    apart :
        any (same_code (code b 0)) (pieces 13 n (drop 13 b)) ≡ false →
        ((v w : ℕ) → v < w → w < n → code (drop 13 b) v ≡ code (drop 13 b) w → ⊥) →
        (v w : ℕ) →
        v < w →
        w < suc n →
        code b v ≡ code b w →
        ⊥
    apart first later v zero l h e = omega arith
    apart first later zero (suc w) l h e =
        let same = (same_list_is (code b 0) (code (drop 13 b) w)).1 (e ∙ sym (next b w)) in
        true_false (sym ((any_code (same_code (code b 0)) n (drop 13 b)).1 (w, omega arith, same)) ∙ first)
    apart first later (suc v) (suc w) l h e = later v w (omega arith) (omega arith) (next b v ∙ e ∙ sym (next b w))

codes_from : (n : ℕ) (b : List ℕ) → Codes n b → codes_ok (pieces 13 n b) ≡ true
unfolding codes_ok pieces same_code
codes_from zero b g = refl
codes_from (suc n) b g =
    and_join
    (and_join (g.0 0 (omega arith)) (ap not (fails_if _ again)))
    (codes_from n (drop 13 b) (
      (λ v h. ap code_ok (next b v) ∙ g.0 (suc v) (omega arith)),
      λ v w l h e. g.1 (suc v) (suc w) (omega arith) (omega arith) (sym (next b v) ∙ e ∙ next b w),
    ))
  where
    again : any (same_code (code b 0)) (pieces 13 n (drop 13 b)) ≡ true → ⊥
    again e =
        let w = (any_code (same_code (code b 0)) n (drop 13 b)).0 e in
        g.1 0 (suc w.0) (omega arith) (omega (arith, w.1)) ((same_list_is (code b 0) _).0 w.2 ∙ next b w.0)

-- N, by the first two bytes of a book, and byte i of the code of option v: "head, four numbers", "16-bit numbers, low byte first", then "N
-- codes of 13 bytes".
abbrev pub options : List ℕ → ℕ
options b = get_or b 0 0 + 256 * get_or b 1 0

abbrev pub code_byte : List ℕ → ℕ → ℕ → ℕ
code_byte b v i = get_or b (8 + 13 * v + i) 0

-- "1 to 13 characters, then zero bytes."
abbrev pub IsCode : List ℕ → ℕ → Type 0
IsCode b v =
    (k : ℕ)
    × (1 ≤ k)
    × (k ≤ 13)
    × ((i : ℕ) → i < k → IsCharacter (code_byte b v i))
    × ((i : ℕ) → k ≤ i → i < 13 → code_byte b v i ≡ 0)

-- "All 13 bytes are compared."
abbrev pub SameCode : List ℕ → ℕ → ℕ → Type 0
SameCode b v w = (i : ℕ) → i < 13 → code_byte b v i ≡ code_byte b w i

-- A book that has all its codes.
module _ (b : List ℕ) (whole : 8 + 13 * options b ≤ length b) where
  long : (v : ℕ) → v < options b → length (code (drop 8 b) v) ≡ 13
  long v h = length-take-le 13 (drop (13 * v) (drop 8 b)) (omega (arith, length-drop (13 * v) (drop 8 b), length-drop 8 b))

  byte_at : (v i : ℕ) → i < 13 → get_or (code (drop 8 b) v) i 0 ≡ code_byte b v i
  byte_at v i h =
      get_or-take 13 (drop (13 * v) (drop 8 b)) i 0 h
      ∙ get_or-drop (13 * v) (drop 8 b) i 0
      ∙ get_or-drop 8 b (13 * v + i) 0
      ∙ ap (λ k. get_or b k 0) (omega arith)

  is_code : (v : ℕ) → v < options b → (code_ok (code (drop 8 b) v) ≡ true) ↔ IsCode b v
  is_code v h = (
    λ e.
        let w = (code_exactly (code (drop 8 b) v)).0 e in
        let within : w.0 ≤ 13 = omega (arith, w.2, long v h) in (
          w.0,
          w.1,
          within,
          λ i l. subst IsCharacter (byte_at v i (omega arith)) (w.3 i l),
          λ i l m. sym (byte_at v i m) ∙ w.4 i l (omega (arith, long v h)),
        ),
    λ w.
        let within = w.2 in
        (code_exactly (code (drop 8 b) v)).1 (
          w.0,
          w.1,
          omega (arith, long v h),
          λ i l. subst IsCharacter (sym (byte_at v i (omega arith))) (w.3 i l),
          λ i l m. let n : i < 13 = omega (arith, long v h) in byte_at v i n ∙ w.4 i l n,
        ),
  )

  same_codes : (v w : ℕ) → v < options b → w < options b → (code (drop 8 b) v ≡ code (drop 8 b) w) ↔ SameCode b v w
  same_codes v w h k = (
    λ e i l. sym (byte_at v i l) ∙ ap (λ c. get_or c i 0) e ∙ byte_at w i l,
    λ same.
        ext_get_or 0 (code (drop 8 b) v) (code (drop 8 b) w) (long v h ∙ sym (long w k))
        (λ i l. let n : i < 13 = omega (arith, long v h) in byte_at v i n ∙ same i n ∙ sym (byte_at w i n)),
  )

  -- The codes are good exactly if each is one and no two are equal.
  pub codes_exactly :
      (has_good_codes b ≡ true)
      ↔ (((v : ℕ) → v < options b → IsCode b v)
      × ((v w : ℕ) → v < w → w < options b → SameCode b v w → ⊥))
  unfolding codes_of options_of word
  codes_exactly = (
    λ e.
        let g = codes_to (options b) (drop 8 b) e in
        ((λ v h. (is_code v h).0 (g.0 v h)), λ v w l h same. g.1 v w l h ((same_codes v w (omega arith) h).1 same)),
    λ g.
        codes_from (options b) (drop 8 b)
        ((λ v h. (is_code v h).1 (g.0 v h)), λ v w l h e. g.1 v w l h ((same_codes v w (omega arith) h).0 e)),
  )
