-- "Unless the first is refused by n, both reply the same, as far as one looks": kept by every next step of a `do` block. Assumes nothing.
use Rattle.numbers.{proofs.Prelude.{ℕ, Bool, true, false, ◌≡◌, refl, ap, arith}, specs.{Reply.{Reply, given, refused, plain, demand, ◌>>=◌, ◌>>◌}, declared.refusal.Refusal.{Refusal}}}

-- what is seen of a reply
abbrev pub shown : {A B : Type 0} → (A → B) → Reply A → Reply B
shown look r = r >>= λ a. given (look a)

pub data Unless (n : ℕ) {A B : Type 0} (look : A → B) (r s : Reply A) : Type 0 where
  refuses : r ≡ refused (plain n) → Unless n look r s
  alike : shown look r ≡ shown look s → Unless n look r s

module _ {n : ℕ} {A B : Type 0} {look : A → B} where
  -- both go on from the same reply
  pub unless_after : {C : Type 0} (r : Reply C) {k k' : C → Reply A} → ((c : C) → Unless n look (k c) (k' c)) → Unless n look (r >>= k) (r >>= k')
  unless_after (given c) h = h c
  unless_after (refused why) h = alike refl

  pub unless_demand : (test : Bool) (why : Refusal) {r s : Reply A} → Unless n look r s → Unless n look (demand test why >> r) (demand test why >> s)
  unless_demand true why h = h
  unless_demand false why h = alike refl

  -- both go on, each from its own
  pub unless_then : {C D : Type 0} {look' : C → D} (r s : Reply A) {k k' : A → Reply C} → Unless n look r s → ((a b : A) → look a ≡ look b → Unless n look' (k a) (k' b))
      → Unless n look' (r >>= k) (s >>= k')
  unless_then {C = C} r s {k} {k'} (refuses e) h = refuses (ap (λ (x : Reply A). x >>= k) e)
  unless_then (given a) (given b) (alike e) h = h a b (cc)
  unless_then (refused why) (refused why') (alike e) h = let same : why ≡ why' = cc in alike (ap refused same)
  unless_then (given a) (refused why) (alike e) h = let z : ◌≡◌ {A = ℕ} 0 1 = cc in absurd (omega arith)
  unless_then (refused why) (given b) (alike e) h = let z : ◌≡◌ {A = ℕ} 0 1 = cc in absurd (omega arith)
