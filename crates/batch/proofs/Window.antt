-- A fix that is answered in the front of lists that are zero is answered alike in the whole of them. Assumes nothing.
use Rattle.std.specs.Prelude.{is_err}
use Rattle.numbers.proofs.Prelude.{ℕ, ◌+◌, ◌-◌, ◌≤◌, length, take, drop, length-append, length-replicate, length-take-le, Bool, true, false, List, ◌++◌, append_assoc, ◌≡◌, refl, sym, ap, ◌∙◌, arith}
use Rattle.numbers.{proofs.{Lists.{zeros_drop}, Tests.{differ}}, specs.{Lists.{zeros, padded}, Reply.{Reply}}}
use lib.ListN.{replicate-append-replicate}
use Rattle.batch.proofs.{MoreRoom.{more_room}, Stamping.{looked, one_given}}
use Rattle.header.{specs.declared.header.Head.{Head}}
use Rattle.zones.specs.{Lent.{Replied, Outcome, replied, replied_of}, declared.lookup.Zones.{Zones}}
use Rattle.table.specs.declared.location.Location.{Location}
use Rattle.table.specs.Hits as H
use Rattle.numbers.specs.Reply as R

pub front_length : (w : ℕ) (xs : List ℕ) → w ≤ length xs → w ≡ length (take w xs)
front_length w xs h = sym (length-take-le w xs h)

-- what is zero beyond s in a front is so in the whole
wider : (w n : ℕ) (s front rest : List ℕ) → front ≡ padded w s → length front ≡ w → rest ≡ zeros (n - w) → w ≤ n → front ++ rest ≡ padded n s
wider w n s front rest e l z h =
    let held : length s ≤ w = omega (arith, sym l ∙ ap length e ∙ length-append s (zeros (w - length s)), length-replicate {A = ℕ} (w - length s) 0) in
    let sum : (w - length s) + (n - w) ≡ n - length s = omega (arith, held, h) in
    (λ i. e i ++ z i) ∙ append_assoc s (zeros (w - length s)) (zeros (n - w)) ∙ ap (λ (l : List ℕ). s ++ l) (replicate-append-replicate (w - length s) (n - w) 0 ∙ ap zeros sum)

module _ (file : List ℕ) (head : Head) (words : List ℕ) (fix : Location) (asked : Bool) (hits text : List ℕ) (hz : hits ≡ zeros (length hits))
    (tz : text ≡ zeros (length text)) (w b : ℕ) (hw : w ≤ length hits) (hb : b ≤ length text) (r : Reply Zones) (hs ts : List ℕ)
    (e : replied r hs ts ≡ looked file head words fix asked (length (take w hits)) (length (take b text))) where
  fronted : {zones : Zones} → r ≡ R.given zones → length hs ≡ length (take w hits) → length ts ≡ length (take b text)
      → replied (R.given zones) (hs ++ drop w hits) (ts ++ drop b text) ≡ looked file head words fix asked (length hits) (length text)
  unfolding replied_of
  fronted {zones} is lh lt =
      let one = one_given file head words fix asked w b r hs ts (e ∙ (λ i. looked file head words fix asked (length-take-le w hits hw i) (length-take-le b text hb i))) is in
      let o = one.it in
      (λ i. replied (R.given (sym one.answer i)) (wider w (length hits) (H.words o.matches) hs (drop w hits) one.hits (lh ∙ length-take-le w hits hw)
      (ap (drop w) hz ∙ zeros_drop w (length hits)) hw i) (wider b (length text) o.text ts (drop b text) one.text (lt ∙ length-take-le b text hb)
      (ap (drop b) tz ∙ zeros_drop b (length text)) hb i)) ∙ ap (λ (x : Reply (Outcome Zones)). replied_of (length hits) (length text) x) (more_room file head words fix asked hw hb o one.is)

  pub windowed : is_err r ≡ false → length hs ≡ length (take w hits) → length ts ≡ length (take b text)
      → replied r (hs ++ drop w hits) (ts ++ drop b text) ≡ looked file head words fix asked (length hits) (length text)
  windowed fine lh lt = go r refl fine where
    go : (x : Reply Zones) → r ≡ x → is_err x ≡ false → replied r (hs ++ drop w hits) (ts ++ drop b text) ≡ looked file head words fix asked (length hits) (length text)
    go (R.given zones) is fine = ap (λ (x : Reply Zones). replied x (hs ++ drop w hits) (ts ++ drop b text)) is ∙ fronted is lh lt
    go (R.refused why) is fine = differ (sym fine)
