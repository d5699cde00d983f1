-- The desk's lines as calls: each that is not refused by its place, its form or its code is one keying.
use Rattle.std.specs.Prelude.{Bool, true, false, List, [], ◌∷◌, ◌++◌, ◌⊎◌, ◌≡◌, refl, ℕ, eqb}
use Rattle.std.proofs.Common.{inl, inr, sym, ap, ◌∙◌, arith}
use Rattle.model.specs.Base.{pick}
use Rattle.calls.specs.Refusals.{option_refused}
use Rattle.model.specs.Literal.{literal}
use Rattle.calls.specs.Outcomes.{Answer, refused, accepted, if_accepted, Outcome}
use Rattle.calls.specs.Lines.{State}
use Rattle.calls.specs.Conditions.{has_full_list}
use Rattle.calls.specs.Calls.{lookup_of, key_with}
use Rattle.calls.specs.History.{Call, key, after_call, after_calls, Account, with_choice, account_call, account_calls}
use Rattle.calls.specs.Index.{fresh_count}
use Rattle.calls.specs.Desk.{key_found, key_signed, keyed, go_on, all_keyed}
use Rattle.theory_index.specs.Right.{fresh_right}
use Rattle.theory_index.specs.WithIndex.{key_right}

-- What a line leaves is the state as it was, or as a keying leaves it: the desk keeps no index, and keys as a call does whose index is
-- the fresh count.
abbrev OneCall : State → State → Type 0
OneCall t left = (left ≡ t) ⊎ ((index : List ℕ) × (v : ℕ) × (negative : Bool) × (left ≡ after_call (key index v negative) t))

found_call : (found : Answer ℕ) (negative : Bool) (t : State) → OneCall t (key_found found negative t).lent
unfolding key_found after_call
found_call (refused r) negative t = inl refl
found_call (accepted v) negative t =
    let s = t.sheet in
    let same = key_right t (fresh_count s) (fresh_right s) v negative in
    inr (fresh_count s, v, negative, sym (ap (λ o. o.lent.own) same))

signed_call : (book l : List ℕ) (t : State) → OneCall t (key_signed book l t).lent
unfolding key_signed pick
signed_call book [] t = inl refl
signed_call book (x ∷ code) t = go (eqb x 43) (eqb x 45)
  where
    none : Outcome State (Unit {0})
    none = record { answer = refused option_refused; lent = t }

    found : Bool → Outcome State (Unit {0})
    found negative = key_found (lookup_of book code) negative t

    go : (plus minus : Bool) → OneCall t (pick plus (found false) (pick minus (found true) none)).lent
    go true minus = found_call (lookup_of book code) false t
    go false true = found_call (lookup_of book code) true t
    go false false = inl refl

keyed_call : (book l : List ℕ) (t : State) → OneCall t (keyed book l t).lent
unfolding keyed pick
keyed_call book l t = go (has_full_list t) _
  where
    go : (full : Bool) (a : Answer (Unit {0})) → OneCall t (pick full (record { answer = a; lent = t }) (key_signed book l t)).lent
    go true a = inl refl
    go false a = signed_call book l t

-- Calls that are keyings, all of them.
pub data Keyings : List Call → Type 0 where
  none_more : Keyings []
  one_more : (index : List ℕ) (v : ℕ) (negative : Bool) {cs : List Call} → Keyings cs → Keyings (key index v negative ∷ cs)

-- They leave the book of an account, and its choices its ledger.
pub keyings_account :
    {cs : List Call} →
    Keyings cs →
    (t : State) (a : Account) →
    a.choices ≡ a.ledger →
    ((account_calls cs t a).book ≡ a.book) × ((account_calls cs t a).choices ≡ (account_calls cs t a).ledger)
unfolding account_calls account_call if_accepted
keyings_account none_more t a e = (refl, e)
keyings_account (one_more index v negative {cs} h) t a e =
    go (key_with t index v negative).answer (keyings_account h (after_call (key index v negative) t))
  where
    later : Account → Account
    later b = account_calls cs (after_call (key index v negative) t) b

    Both : Account → Type 0
    Both b = ((later b).book ≡ a.book) × ((later b).choices ≡ (later b).ledger)

    go :
        (o : Answer (Unit {0})) →
        ((b : Account) → b.choices ≡ b.ledger → ((later b).book ≡ b.book) × ((later b).choices ≡ (later b).ledger)) →
        Both (if_accepted o a (λ _. with_choice a (literal v negative)))
    go (refused r) rest = rest a e
    go (accepted u) rest = rest (with_choice a (literal v negative)) (ap (λ ls. ls ++ (literal v negative ∷ [])) e)

-- So the lines keyed leave what some list of keyings does.
pub keyed_calls :
    (book : List ℕ) (ls : List (List ℕ)) (t : State) →
    (cs : List Call) × Keyings cs × ((all_keyed book ls t).lent ≡ after_calls cs t)
unfolding all_keyed go_on after_calls
keyed_calls book [] t = ([], none_more, refl)
keyed_calls book (l ∷ ls) t = go (keyed book l t).answer (keyed book l t).lent (keyed_call book l t) (keyed_calls book ls)
  where
    Left : State → Type 0
    Left left = (cs : List Call) × Keyings cs × (left ≡ after_calls cs t)

    go :
        (a : Answer (Unit {0})) (u : State) →
        OneCall t u →
        ((w : State) → (cs : List Call) × Keyings cs × ((all_keyed book ls w).lent ≡ after_calls cs w)) →
        Left (go_on a u (all_keyed book ls)).lent
    go (refused r) u (inl e) rest = ([], none_more, e)
    go (refused r) u (inr (index, v, negative, e)) rest = (key index v negative ∷ [], one_more index v negative none_more, e)
    go (accepted x) u (inl e) rest =
        let later = rest u in
        (later.0, later.1, later.2 ∙ ap (after_calls later.0) e)
    go (accepted x) u (inr (index, v, negative, e)) rest =
        let later = rest u in
        (key index v negative ∷ later.0, one_more index v negative later.1, later.2 ∙ ap (after_calls later.0) e)

-- Lines after lines that are all accepted.
pub keyed_append :
    (book : List ℕ) (ks ls : List (List ℕ)) (t : State) →
    (all_keyed book ks t).answer ≡ accepted tt →
    all_keyed book (ks ++ ls) t ≡ all_keyed book ls (all_keyed book ks t).lent
unfolding all_keyed go_on
keyed_append book [] ls t e = refl
keyed_append book (k ∷ ks) ls t e = go (keyed book k t).answer (keyed book k t).lent e (keyed_append book ks ls)
  where
    go :
        (a : Answer (Unit {0})) (u : State) →
        (go_on a u (all_keyed book ks)).answer ≡ accepted tt →
        ((w : State) →
        (all_keyed book ks w).answer ≡ accepted tt →
        all_keyed book (ks ++ ls) w ≡ all_keyed book ls (all_keyed book ks w).lent) →
        go_on a u (all_keyed book (ks ++ ls)) ≡ all_keyed book ls (go_on a u (all_keyed book ks)).lent
    go (refused r) u e rest = let z : ◌≡◌ {A = ℕ} 0 1 = cc in absurd (omega arith)
    go (accepted x) u e rest = rest u e
