-- One text in the place of another, in a list that is zero behind its texts. Assumes nothing.
use Rattle.numbers.proofs.Prelude.{ℕ, ◌+◌, ◌-◌, ◌^◌, ◌≤◌, ◌<◌, length, take, drop, length-append, length-drop, length-take, length-replicate, take_at, drop-drop, drop_at, sets-eq, List, ◌++◌}
use Rattle.numbers.{proofs.Prelude.{append_assoc, ◌≡◌, sym, ap, subst, ◌∙◌, arith}, specs.Lists.{zeros}}
use lib.{ListN.{replicate-append-replicate}, Seq.{drop-append-add}}
use Rattle.writer.{proofs.Stores.{stored_front, stored_length, stored_then}, specs.inner.Stored.{Stored}}
use Rattle.draft.{proofs.held.Fronts.{front_behind}, specs.Held.State.{Front}}
use Rattle.edit.specs.inner.Replacing.Exchange.{Exchanging, Exchanged}

-- behind its front a list is zero, from any place on
front_drop : (front list : List ℕ) → Front 0 front list → (n : ℕ) → length front ≤ n → drop n list ≡ zeros (length list - n)
front_drop front list f n h = let e : length front + (n - length front) ≡ n = omega arith in
    ap (λ (j : ℕ). drop j list) (sym e) ∙ (front_behind 0 f (n - length front) ∙ ap (λ (j : ℕ). zeros (length list - j)) e)

-- a part that was put at the front of another list
pub kept_part : (from to : ℕ) (texts out out' : List ℕ) (next : ℕ) → from ≤ to → to ≤ length texts → to - from ≤ length out → Stored out 0 (take (to - from) (drop from texts)) out' next
    → take (to - from) out' ≡ take (to - from) (drop from texts)
kept_part from to texts out out' next a b c s = let part : List ℕ = take (to - from) (drop from texts) in
    let size : length part ≡ to - from = simp (length-take, length-drop) (omega arith) in
    ap (take (to - from)) (stored_front out part out' next s (omega (arith, size))) ∙ take_at part (drop (length part) out) (to - from) size

module _ (place from strings : ℕ) (text texts out : List ℕ) (e : Exchanging place from strings (length text) (length texts) (length out)) where
  pub tail_size : length (take (strings - from) (drop from texts)) ≡ strings - from
  tail_size = simp (length-take, length-drop) (omega (arith, e.old_fits, e.inside))

  pub tail_short : 0 + length (take (strings - from) (drop from texts)) < 2 ^ 62
  tail_short = omega (arith, tail_size, e.short)

  module _ (out' one two : List ℕ) (aside next end : ℕ) (saved : Stored out 0 (take (strings - from) (drop from texts)) out' aside)
      (wrote : Stored texts place text one next) (followed : Stored one next (take (strings - from) out') two end) where
    abbrev tail : List ℕ
    tail = take (strings - from) (drop from texts)

    saved_is : take (strings - from) out' ≡ tail
    saved_is = kept_part from strings texts out out' aside e.inside e.old_fits e.aside saved

    both : Stored texts place (text ++ tail) two end
    both = stored_then text tail wrote (subst (λ (l : List ℕ). Stored one next l two end) saved_is followed)

    pub end_is : end ≡ place + length text + (strings - from)
    end_is = omega (arith, both.place_after, length-append text tail, tail_size)

    module _ (before old behind : List ℕ) (p : length before ≡ place) (o : place + length old ≡ from) (b : from + length behind ≡ strings) (f : Front 0 (before ++ (old ++ behind)) texts) where
      abbrev rest : List ℕ
      rest = zeros (length texts - length (before ++ (old ++ behind)))

      all_size : length (before ++ (old ++ behind)) ≡ strings
      all_size = omega (arith, length-append before (old ++ behind), length-append old behind)

      is : texts ≡ before ++ (old ++ (behind ++ rest))
      is = f.is ∙ (append_assoc before (old ++ behind) rest ∙ ap (λ (l : List ℕ). before ++ l) (append_assoc old behind rest))

      from_is : texts ≡ (before ++ old) ++ (behind ++ rest)
      from_is = is ∙ sym (append_assoc before old (behind ++ rest))

      tail_is : tail ≡ behind
      tail_is =
          ap (λ (l : List ℕ). take (strings - from) (drop from l)) from_is ∙ (ap (take (strings - from)) (drop_at (before ++ old) (behind ++ rest) from
          (omega (arith, length-append before old))) ∙ take_at behind rest (strings - from) (omega arith))

      before_is : take place texts ≡ before
      before_is = ap (take place) is ∙ take_at before (old ++ (behind ++ rest)) place p

      abbrev new : List ℕ
      new = before ++ (text ++ behind)

      new_size : length new ≡ end
      new_size = omega (arith, length-append before (text ++ behind), length-append text behind, end_is)

      end_fits : end ≤ length texts
      end_fits = omega (arith, end_is, e.new_fits)

      two_is : two ≡ new ++ drop end texts
      two_is =
          both.stored ∙ (sets-eq (text ++ tail) texts place (omega (arith, both.place_after, end_fits)) ∙ (ap (λ (l : List ℕ). (l ++ (text ++ tail)) ++ drop
          (place + length (text ++ tail)) texts) before_is ∙ (ap (λ (l : List ℕ). (before ++ (text ++ l)) ++ drop (place + length (text ++ tail)) texts) tail_is
          ∙ ap (λ (n : ℕ). new ++ drop n texts) (sym both.place_after))))

      two_size : length two ≡ length texts
      two_size = stored_length both

      pub longer : strings ≤ end → Front 0 new two
      longer h =
          record {
            room = omega (arith, new_size, end_fits, two_size);
            is = two_is
                ∙ ap (λ (l : List ℕ). new ++ l) (front_drop (before ++ (old ++ behind)) texts f end (omega (arith, all_size))
                ∙ ap zeros (let z : length texts - end ≡ length two - length new = omega (arith, new_size, two_size) in z));
          }

      pub shorter : end < strings → (three : List ℕ) → three ≡ take end two ++ (zeros (strings - end) ++ drop strings two) → Front 0 new three
      shorter h three three-is =
          let k : ℕ = length texts - strings in
          let low : take end two ≡ new = ap (take end) two_is ∙ take_at new (drop end texts) end new_size in
          let far : length new + (strings - end) ≡ strings = omega (arith, new_size) in
          let on : end + (strings - end) ≡ strings = omega arith in
          let high : drop strings two ≡ zeros k =
          ap (drop strings) two_is
          ∙ (ap (λ (n : ℕ). drop n (new ++ drop end texts)) (sym far)
          ∙ (drop-append-add new (drop end texts) (strings - end)
          ∙ (drop-drop (strings - end) end texts
          ∙ (ap (λ (n : ℕ). drop n texts) on ∙ front_drop (before ++ (old ++ behind)) texts f strings (omega (arith, all_size)))))) in
          let whole : three ≡ new ++ zeros ((strings - end) + k) =
          three-is
          ∙ (ap (λ (l : List ℕ). l ++ (zeros (strings - end) ++ drop strings two)) low
          ∙ (ap (λ (l : List ℕ). new ++ (zeros (strings - end) ++ l)) high
          ∙ ap (λ (l : List ℕ). new ++ l) (replicate-append-replicate (strings - end) k 0))) in
          let size : length three ≡ length new + ((strings - end) + k) =
          ap length whole ∙ (length-append new (zeros ((strings - end) + k)) ∙ ap (λ (n : ℕ). length new + n) (length-replicate ((strings - end) + k) 0)) in
          let left : (strings - end) + k ≡ length three - length new = omega (arith, size) in
          record { room = omega (arith, size); is = whole ∙ ap (λ (n : ℕ). new ++ zeros n) left }

    pub exchanged_longer : strings ≤ end → Exchanged place from strings text texts two end
    exchanged_longer h = record { end_is = end_is; stands = λ before old behind p o b f. longer before old behind p o b f h }

    -- with the rest lent and zeroed
    pub exchanged_shorter : end < strings → (lent : List ℕ) → lent ≡ zeros (length (take (strings - end) (drop end two)))
        → Exchanged place from strings text texts (take end two ++ (lent ++ drop (strings - end) (drop end two))) end
    exchanged_shorter h lent z = let on : end + (strings - end) ≡ strings = omega arith in
        let many : length (take (strings - end) (drop end two)) ≡ strings - end = simp (length-take, length-drop) (omega (arith, stored_length both, e.old_fits)) in
        let is : take end two ++ (lent ++ drop (strings - end) (drop end two)) ≡ take end two ++ (zeros (strings - end) ++ drop strings two) = ap
        (λ (l : List ℕ). take end two ++ (l ++ drop (strings - end) (drop end two))) (z ∙ ap zeros many) ∙ ap (λ (l : List ℕ). take end two ++ (zeros (strings - end) ++ l))
        (drop-drop (strings - end) end two ∙ ap (λ (n : ℕ). drop n two) on) in
        record { end_is = end_is; stands = λ before old behind p o b f. shorter before old behind p o b f h (take end two ++ (lent ++ drop (strings - end) (drop end two))) is }
