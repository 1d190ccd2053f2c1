-- Replies that agree: how to show it, and what it shows of the definition's reply. Assumes nothing.
use Rattle.numbers.{proofs.Prelude.{◌≡◌, refl, sym, ap, subst}, specs.{Reply.{Reply, given, refused}, declared.refusal.Refusal.{Refusal}}}
use Rattle.table.specs.inner.Agreeing.{Agrees}

module _ {A B : Type 0} (so : A → B → Type 0) {whole : Reply A} where
  pub agree_given : {a : A} {b : B} → given a ≡ whole → so a b → Agrees so whole (given b)
  unfolding Agrees
  agree_given {a} {b} e h = subst (λ (w : Reply A). Agrees so w (given b)) e h

  pub agree_refused : {why : Refusal} → refused why ≡ whole → Agrees so whole (refused why)
  unfolding Agrees
  agree_refused {why} e = subst (λ (w : Reply A). Agrees so w (refused why)) e refl

-- what a definition gave where a call gave b
pub record Gave {A B : Type 0} (so : A → B → Type 0) (whole : Reply A) (b : B) : Type 0 where
  pub it : A
  pub is : given it ≡ whole
  pub fits : so it b

module _ {A B : Type 0} (so : A → B → Type 0) (whole : Reply A) {reply : Reply B} (agrees : Agrees so whole reply) where
  pub gave : {b : B} → reply ≡ given b → Gave so whole b
  unfolding Agrees
  gave {b} e = go whole (subst (λ (r : Reply B). Agrees so whole r) e agrees) where
    go : (whole : Reply A) → Agrees so whole (given b) → Gave so whole b
    go (given a) h = record { it = a; is = refl; fits = h }
    go (refused why) h = absurd h

  pub refused_so : {why : Refusal} → reply ≡ refused why → refused why ≡ whole
  unfolding Agrees
  refused_so {why} e = go whole (subst (λ (r : Reply B). Agrees so whole r) e agrees) where
    go : (whole : Reply A) → Agrees so whole (refused why) → refused why ≡ whole
    go (given a) h = absurd h
    go (refused why') h = ap refused (sym h)
