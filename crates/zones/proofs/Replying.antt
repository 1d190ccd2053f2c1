-- An entry point's reply with the buffers: zero first, filled, and zero again where it is a refusal; and what it says of the reply alone. Assumes nothing.
use Rattle.std.specs.Prelude.{is_err}
use Rattle.numbers.{proofs.{Prelude.{ℕ, List, true, false, ◌≡◌, refl, sym, ap, subst, ◌∙◌, arith}, Tests.{differ}}, specs.{Lists.{zeros}, Reply.{Reply, given, refused}}}
use Rattle.table.{proofs.Agreeing.{gave, refused_so}, specs.inner.Agreeing.{Agrees}}
use Rattle.zones.specs.Lent.{Outcome, Replied, replied, replied_of, Filled}

-- filled in buffers that were zeroed, in the lengths that were lent
module _ {A : Type 0} (whole : ℕ → ℕ → Reply (Outcome A)) (reply : Reply A) (hs ts : List ℕ) {n n' room room' : ℕ} (h : n' ≡ n) (t : room' ≡ room)
    (agrees : Agrees (Filled n' room' hs ts) (whole n' room') reply) where
  settled : Agrees (Filled n room hs ts) (whole n room) reply
  settled = subst (λ (k : ℕ). Agrees (Filled n k hs ts) (whole n k) reply) t (subst (λ (k : ℕ). Agrees (Filled k room' hs ts) (whole k room') reply) h agrees)

  -- as they are, and with zeros where it refused
  pub given_reply : is_err reply ≡ false → replied reply hs ts ≡ replied_of n room (whole n room)
  given_reply = go reply settled where
    go : (r : Reply A) → Agrees (Filled n room hs ts) (whole n room) r → is_err r ≡ false → replied r hs ts ≡ replied_of n room (whole n room)
    go (given answer) a e = let g = gave (Filled n room hs ts) (whole n room) a refl in g.fits ∙ ap (replied_of n room) g.is
    go (refused why) a e = differ (sym e)

  pub refused_reply : {hs' ts' : List ℕ} → hs' ≡ zeros n → ts' ≡ zeros room → is_err reply ≡ true → replied reply hs' ts' ≡ replied_of n room (whole n room)
  unfolding replied_of
  refused_reply {hs'} {ts'} zh zt = go reply settled where
    go : (r : Reply A) → Agrees (Filled n room hs ts) (whole n room) r → is_err r ≡ true → replied r hs' ts' ≡ replied_of n room (whole n room)
    go (given answer) a e = differ e
    go (refused why) a e = (λ i. replied (refused why) (zh i) (zt i)) ∙ ap (replied_of n room) (refused_so (Filled n room hs ts) (whole n room) a refl)

-- ---- read back: what a reply with its buffers says of the reply alone
module _ {A : Type 0} (n room : ℕ) where
  pub agrees_of : (whole : Reply (Outcome A)) (reply : Reply A) (hs ts : List ℕ) → replied reply hs ts ≡ replied_of n room whole → Agrees (Filled n room hs ts) whole reply
  unfolding Agrees replied_of
  agrees_of (given o) (given a) hs ts e = e
  agrees_of (given o) (refused why) hs ts e = let said = ap (λ (x : Replied A). x.reply) e in let z : ◌≡◌ {A = ℕ} 0 1 = cc in absurd (omega arith)
  agrees_of (refused why) (given a) hs ts e = let said = ap (λ (x : Replied A). x.reply) e in let z : ◌≡◌ {A = ℕ} 0 1 = cc in absurd (omega arith)
  agrees_of (refused why) (refused why') hs ts e = let said = ap (λ (x : Replied A). x.reply) e in cc
